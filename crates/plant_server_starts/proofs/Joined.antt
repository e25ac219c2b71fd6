-- One start after the other.
use Rattle.std.proofs.Common.{Bool, if◌then◌else◌, List, [], ◌∷◌, ◌++◌, ◌≡◌, None, Option, Some, false, inl, inr, refl, subst, sym, true, ◌∙◌}
use Rattle.std.proofs.Math.Logic.{∥∥₁_elim, ∥∥₁_map, ∥∥₁_prop}
use Rattle.sqlite_disk.specs.declared.Disk.{Ghosts}
use Rattle.sqlite_store.specs.{declared.store.FileStore.{FileStore}}
use Rattle.sqlite_wal.specs.Recovery.{Image}
use Rattle.plant_model.specs.{Verdicts.{changes_history}, Worlds.{World, answer_at, next, next_at, unit_named, with_call}, declared.{call.Call.{Call}, reply.Answer.{Answer}}}
use Rattle.plant_office.specs.{Lives.{Life}, Outcomes.{after_calls}}
use Rattle.plant_server.specs.{Crashes.{AreOutcomeOf, LeavesOutcomes}, OverFiles.{AreRowsOf, LeavesAfter}, declared.remains.Left.{Left}}
use Rattle.plant_server.specs.declared.remains.Left.TheVariants as left
use Rattle.plant_server_starts.specs.Starts.{AreOneRun, AreStarts, MayFind, StartsAreOneRun, in_all}
use Rattle.plant_types.specs.Names.{Name}

-- calls leave the administrator
same_at : (w : World) (c : Call) (u : Option Name) → (next_at w c u).admin ≡ w.admin
same_at w c None = refl
same_at w c (Some u) =
    elim (changes_history (answer_at w c (Some u)) c) as (λ (b : Bool). (if b then with_call w c u else w).admin ≡ w.admin) [
      | true ↦ refl
      | false ↦ refl
    ]

same_admin : (w : World) (calls : List Call) → (after_calls w calls).admin ≡ w.admin
same_admin w [] = refl
same_admin w (c ∷ calls) = same_admin (next w c) calls ∙ same_at w c (unit_named c.request)

after_both : (w : World) (cs ds : List Call) → after_calls (after_calls w cs) ds ≡ after_calls w (cs ++ ds)
after_both w [] ds = refl
after_both w (c ∷ cs) ds = after_both (next w c) cs ds

module _ {D N F : Type 0} {g : Ghosts D} where
  -- whatever the next start finds is books that the crash may leave
  outcome : (store : FileStore D g) (after : Left D N F g) (w : World) (calls : List Call) (answers : List Answer) (found : Image)
      → LeavesOutcomes store w calls answers → LeavesAfter after w calls answers → MayFind store after found
      → ∥ AreOutcomeOf w calls answers found ∥₁
  outcome store (left.Closed files) w calls answers found within closed (inl may) = within.files found may
  outcome store (left.Closed files) w calls answers found within closed (inr (image, may, inl is)) =
      subst (λ i. ∥ AreOutcomeOf w calls answers i ∥₁) (sym is) (closed image may).0
  outcome store (left.Closed files) w calls answers found within closed (inr (image, may, inr is)) =
      subst (λ i. ∥ AreOutcomeOf w calls answers i ∥₁) (sym is) (closed image may).1
  outcome store (left.Nothing start) w calls answers found within closed may = absurd closed
  outcome store (left.Empty start it) w calls answers found within closed may = absurd closed
  outcome store (left.Unreached it) w calls answers found within closed may = absurd closed
  outcome store (left.Unopened rest) w calls answers found within closed may = absurd closed
  outcome store (left.Refused conn) w calls answers found within closed may = absurd closed
  outcome store (left.Unclosed it) w calls answers found within closed may = within.files found may
  outcome store (left.InMemory start it) w calls answers found within closed may = absurd closed
  outcome store (left.Migrated old made) w calls answers found within closed may = absurd closed

module _ {D N : Type 0} (F : Type 0) (g : Ghosts D) (h : Ghosts N) where
  joined : (admin : Name) (lives : List Life) (first last : Image) (w : World) → w.admin ≡ admin → AreRowsOf first w
      → AreStarts F g h admin first lives last → ∥ AreOneRun w lives last ∥₁
  joined admin [] first last w own rows starts =
      let none : AreOneRun w [] last = record { made = []; in_turn = tt; rows = subst (λ i. AreRowsOf i w) (sym starts) rows } in ∣ none ∣₁
  joined admin (life ∷ lives) first last w own rows (found, start, later) =
      let within = start.ran.meanwhile w rows own start.clean in
      let closed = start.ran.afterwards w rows own start.clean in
      let said = start.ran.answered w rows start.clean in
      ∥∥₁_elim (outcome start.store start.after w life.calls life.answers found within closed start.found) ∥∥₁_prop (λ it.
      let made = it.outcome.made in
      let rows_then : AreRowsOf found (after_calls w made) =
      record { content = it.content; books = it.books; holds = it.outcome.holds; legal = it.outcome.legal } in
      ∥∥₁_map (joined admin lives found last (after_calls w made) (same_admin w made ∙ own) rows_then later) (λ rest. record {
        made = made ∷ rest.made;
        in_turn = (it.outcome.are_made, said, rest.in_turn);
        rows = subst (AreRowsOf last) (after_both w made (in_all rest.made)) rest.rows;
      }))

pub starts_are_one_run : {D N : Type 0} (F : Type 0) (g : Ghosts D) (h : Ghosts N) → StartsAreOneRun F g h
starts_are_one_run F g h first last lives w rows starts = joined F g h w.admin lives first last w refl rows starts
