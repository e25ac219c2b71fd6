-- What is true of a table's rows at all times after it was made.
use Rattle.std.specs.{List.{AllByRecursion}, Ordering.{is_eq}, Prelude.{◌≡◌, ℕ, false, true, List}}
use Rattle.sqlite.specs.{Tree.{rowid, IsTable, IsAscending}, View.{is_int}}
use Rattle.sqlite_value.specs.Order.{Row}
use Rattle.plant_store_columns.specs.Kept.{by_columns}

-- each row has an integer as its rowid, and no two rows have the same
pub record AreRows (rows : List Row) : Type 0 where
  pub rise : IsTable rows
  pub ints : AllByRecursion (λ r. is_int (rowid r) ≡ true) rows

-- no two rows have the same key
abbrev pub AreApart : List ℕ → List Row → Type 0
AreApart key = IsAscending (λ a b. is_eq (by_columns key a b) ≡ false)

pub record IsTidy (Wf : Row → Type 0) (key : List ℕ) (rows : List Row) : Type 0 where
  pub are : AreRows rows
  pub each : AllByRecursion Wf rows
  pub apart : AreApart key rows
