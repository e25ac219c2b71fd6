-- The limits of a session.
use Rattle.std.specs.Prelude.{ℕ}

-- each read is offered room for at least this many bytes
abbrev pub least_room : ℕ
least_room = 4096
