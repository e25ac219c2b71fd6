-- A connection that was not even read.
use Rattle.std.proofs.Common.{arith, inl, refl}
use Rattle.sqlite.specs.State.{State}
use Rattle.plant_store_statements.specs.OnlyReads.{OnlyReads}

pub not_read : (s : State) → OnlyReads s s
not_read s = record {
  same = λ _. refl;
  honest = λ honest. honest;
  quiet = record { clean = omega arith; shield = λ h. h; counts = omega arith; limit = refl; closes = λ _ up. inl up; crash = λ _ db may. inl may };
}
