-- What the books know of their store, after a statement that succeeded.
use Rattle.std.proofs.Common.{◌≡◌, IsTrue, OnOk, Ok, Err, Result, arith, subst, sym}
use Rattle.sqlite.specs.{Held.{Held, state}, State.{HasCleanDisk}}
use Rattle.sqlite.specs.declared.error.Error.{Error}
use Rattle.sqlite_trees.specs.declared.store.Store.{Ghosts}
use Rattle.plant_store_statements.specs.{Changes.{IsHonest}, Reading.{IsOnlyRead, LeavesOpen}, Writing.{IsLeftOpen}}
use Rattle.plant_store.specs.{Counting.{SaysAgain}, Standing.{IsSo}, declared.tables.Standing.{Standing, TheVariants.{Open, Shut, Unknown}}}
use Rattle.plant_types.specs.declared.fault.Fault.{Fault}

module _ {S : Type 0} (g : Ghosts S) where
  -- it is known after a read
  pub so_read : {A E : Type 0} (a m : Held S) (standing : Standing) (outcome : Result A E) → IsSo (state g a) standing → IsOnlyRead g a m
      → LeavesOpen g a m outcome → OnOk outcome (IsSo (state g m) standing)
  so_read a m standing (Err e) so reads stays = tt
  so_read a m Open (Ok found) so reads stays = λ clean.
      let early : HasCleanDisk (state g a) = omega (arith, clean, reads.quiet.clean) in
      stays clean (so early)
  so_read a m Unknown (Ok found) so reads stays = tt
  so_read a m Shut (Ok found) so reads stays = λ honest. so (reads.honest honest)

  -- and after a change
  pub so_written : {A E : Type 0} (a m : Held S) (standing : Standing) (outcome : Result A E) → IsSo (state g a) standing
      → (IsHonest (state g m) → IsHonest (state g a)) → IsLeftOpen g m outcome → OnOk outcome (IsSo (state g m) standing)
  so_written a m standing (Err e) so was opened = tt
  so_written a m Open (Ok found) so was opened = λ clean. opened clean
  so_written a m Unknown (Ok found) so was opened = tt
  so_written a m Shut (Ok found) so was opened = λ honest. so (was honest)

  -- a question that succeeds leaves a store open that was
  pub stays_open : {A : Type 0} (a m b : Held S) (outcome : Result A Error) (said : Result A Fault) → SaysAgain outcome said → IsOnlyRead g a m
      → LeavesOpen g a m outcome → OnOk said (b ≡ m) → (HasCleanDisk (state g a) → IsHonest (state g a)) → HasCleanDisk (state g b)
      → OnOk said (IsHonest (state g b))
  stays_open a m b (Ok found) (Ok again) is reads stays same was clean =
      let tidy : HasCleanDisk (state g m) = subst (λ (h : Held S). HasCleanDisk (state g h)) same clean in
      let early : HasCleanDisk (state g a) = omega (arith, tidy, reads.quiet.clean) in
      (clean, subst (λ (h : Held S). IsTrue (state g h).is_open) (sym same) (stays tidy (was early).1))
  stays_open a m b (Ok found) (Err fault) is reads stays same was clean = tt
  stays_open a m b (Err e) (Err fault) is reads stays same was clean = tt
  stays_open a m b (Err e) (Ok found) is reads stays same was clean = cc
