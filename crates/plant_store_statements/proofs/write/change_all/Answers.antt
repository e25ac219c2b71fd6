use Rattle.std.proofs.{Common.{◌≡◌, ap, sym, subst, ◌∙◌, arith, rules, List, ◌∷◌, [], ◌++◌, take, ◌+◌}, lemmas.List.{take_more}}
use Rattle.sqlite.{specs.{Held.{state}, State.{HasCleanDisk}}, proofs.StateLemmas.{survives_then}}
use Rattle.plant_model.specs.declared.rows.RowEdit.{RowEdit}
use Rattle.plant_store_statements.{specs.Changes.{Applies}, proofs.public.Writes.{applies_then}}
use Rattle.plant_store_columns.proofs.public.Asking.{keeps_then}
use Rattle.plant_store_statements.proofs.write.change_all.Goals as goal

pub loop-change-preserved : goal.loop-change-preserved
loop-change-preserved g c =
    let old = state g.S.Store c.args.tx.now.conn.now in
    let mid = state g.S.Store c.loop-change.tx.conn.now in
    let now = state g.S.Store c.change_one.new.tx.conn.now in
    let early = λ (clean : HasCleanDisk now). let before : HasCleanDisk mid = omega (arith, c.change_one.ensures.stays.survives.clean) in before in
    record {
      same_reference = search rules;
      made = λ clean books.
          let so_far = c.loop-change.invariant.made (early clean) books in
          let one = c.in_ok-change_one.ensures.made clean (c.loop-change.invariant.inside (early clean)) so_far.books in
          let xs = c.args.changes.now in
          let at = c.loop-change.change-index in
          let x : RowEdit = c.change-item.result in
          let more : take (at + 1) xs ≡ take at xs ++ x ∷ [] = take_more xs at x (omega arith)
          ∙ ap (λ (y : RowEdit). take at xs ++ y ∷ []) (sym c.change-item.is) in
          subst (λ (l : List RowEdit). Applies c.args.unit.now l old.now now.now) (sym more)
          (applies_then c.args.unit.now (take at xs) (x ∷ []) old.now mid.now now.now so_far one);
      inside = λ clean. c.in_ok-change_one.ensures.stays.inside clean (c.loop-change.invariant.inside (early clean));
      kept = λ clean. keeps_then old mid now (c.loop-change.invariant.kept (early clean))
          (c.change_one.ensures.stays.kept clean (c.loop-change.invariant.inside (early clean)));
      survives =
          survives_then old mid now (λ _. ⊥) (λ _. ⊥) (λ _. ⊥) (λ _ db none. none)
          (λ _ db none. none) c.loop-change.invariant.survives c.change_one.ensures.stays.survives;
    }
