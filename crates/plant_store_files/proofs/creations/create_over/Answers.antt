use Rattle.std.proofs.Common.{ap, sym, subst, ◌∙◌, inl, inr, arith}
use Rattle.std.proofs.lemmas.Result.{err_from_is_err_and}
use Rattle.sqlite.specs.Files.{IsEmpty}
use Rattle.sqlite_store.specs.{FileStore.{view}, Laws.{settled_at}}
use Rattle.sqlite_trees.proofs.Doubt.{clean_of as sure, no_doubt}
use Rattle.plant_store_files.proofs.Begun.{fault_of_connection}
use Rattle.plant_store_files.proofs.creations.create_over.Goals as goal

pub over-requires : goal.over-requires
over-requires g c none = (c.in_ok-store.ensures.made (sure _ none)).fresh

pub returns-in-Ok-clause-empty : goal.returns-in-Ok-clause-empty
returns-in-Ok-clause-empty g c now =
    let made = c.in_ok-store.ensures.made (sure (view c.in_ok-store.store).is_clean (omega (arith, c.in-Ok.ensures.clean))) in
    let trees = sym (ap (λ d. d.trees) (c.in-Ok.ensures.opens now).0.clean) ∙ c.in-Ok.ensures.trees now in
    subst IsEmpty (sym trees) made.empty

pub returns-in-Ok-clause-sums : goal.returns-in-Ok-clause-sums
returns-in-Ok-clause-sums g c now =
    c.in-Ok.ensures.sums now ∙ (c.in_ok-store.ensures.made (sure (view c.in_ok-store.store).is_clean (omega (arith, c.in-Ok.ensures.clean)))).sums

pub returns-in-Ok-clause-guarded : goal.returns-in-Ok-clause-guarded
returns-in-Ok-clause-guarded g c now =
    c.in-Ok.ensures.shield (c.in_ok-store.ensures.made (sure (view c.in_ok-store.store).is_clean (omega (arith, c.in-Ok.ensures.clean)))).guarded

pub returns-in-Err-clause-left : goal.returns-in-Err-clause-left
returns-in-Err-clause-left g c late db may =
    let made = c.in_ok-store.ensures.made (sure (view c.in_ok-store.store).is_clean (omega (arith, no_doubt _ late, c.in-Err.ensures.unharmed.clean))) in
    let is = settled_at c.in_ok-store.store g.met.D.Disk.seen_may_stay db made.is_open (c.in-Err.ensures.unharmed.outcomes db may) ∙ sym made.fresh.clean in
    subst IsEmpty (sym is) made.empty

pub returns-in-Err-clause-cause : goal.returns-in-Err-clause-cause
returns-in-Err-clause-cause g c late =
    let now = no_doubt _ late in
    let made = c.in_ok-store.ensures.made (sure (view c.in_ok-store.store).is_clean (omega (arith, now, c.in-Err.ensures.unharmed.clean))) in
    elim (fault_of_connection _ _ c.in-Err.error made.empty (c.in-Err.ensures.err now)) [
      | inl memory ↦ inl memory
      | inr fault ↦ inr (inl (omega (arith, fault, made.counts)))
    ]

pub returns-in_err-store-clause-cause : goal.returns-in_err-store-clause-cause
returns-in_err-store-clause-cause g c =
    let p = err_from_is_err_and c.from_residual.result c.from_residual.ensures.1 in rw (p.1, p.2) (c.in_err-store.ensures.cause)

pub returns-in_err-store-clause-left : goal.returns-in_err-store-clause-left
returns-in_err-store-clause-left g c =
    let p = err_from_is_err_and c.from_residual.result c.from_residual.ensures.1 in rw (p.1, p.2) (c.in_err-store.ensures.left)
