-- What a matrix is made of.
use Rattle.std.specs.Prelude.{ℕ, List}
use Rattle.plant_ration.specs.declared.cell.Cell.{Cell}

-- the limits between the time bands, and the rows, the least severe first
pub record Grid : Type 0 where
  pub limits : List ℕ
  pub cells : List (List Cell)
