-- The rows that a query returns.
use Rattle.std.specs.{List.{range_with_len}, Prelude.{map, ℕ}}
use Rattle.sqlite_value.specs.Order.{Row, column}

-- its first columns
abbrev pub columns : ℕ → Row → Row
columns n row = map (column row) (range_with_len 0 n)
