-- Steps within a transaction, one after another.
use Rattle.std.proofs.Common.{Ok, Result, arith}
use Rattle.sqlite.{specs.{State.{HasCleanDisk, State}, declared.error.Error.{Error}}, proofs.StateLemmas.{survives_then}}
use Rattle.plant_store_statements.specs.StaysInside.{StaysInside}
use Rattle.plant_store_columns.proofs.public.Asking.{keeps_then}

-- a step after one that succeeded
pub stays_then : {V W : Type 0} {value : V} {result : Result W Error} {first mid last : State} → StaysInside (Ok value) first mid
    → StaysInside result mid last → StaysInside result first last
stays_then {V} {W} {value} {result} {first} {mid} {last} one two =
    let early = λ (clean : HasCleanDisk last). let before : HasCleanDisk mid = omega (arith, two.survives.clean) in before in
    record {
      inside = λ clean started. two.inside clean (one.inside (early clean) started);
      kept = λ clean started. keeps_then first mid last (one.kept (early clean) started) (two.kept clean (one.inside (early clean) started));
      survives = survives_then first mid last (λ _. ⊥) (λ _. ⊥) (λ _. ⊥) (λ _ db none. none) (λ _ db none. none) one.survives two.survives;
    }
