use Rattle.std.proofs.Common.{OnOk, Ok, Err, Result}
use Rattle.sqlite.{specs.Held.{state}, proofs.StateLemmas.{survives_then}}
use Rattle.plant_books.specs.Contents.{after_changes}
use Rattle.plant_store_columns.specs.Tables.{AreBooks}
use Rattle.plant_store_statements.specs.{Changes.{IsHonest}, Writing.{AreChangedHonestly}}
use Rattle.plant_store.proofs.{SaidAgain.{again_left, again_made, both_ok}, Standings.{so_written}, public.Leaving.{loses_no_part}}
use Rattle.plant_store_statements.proofs.public.Contents.{keeps_after, keeps_same}
use Rattle.plant_store.proofs.tables.TablesBooks.apply.Goals as goal

pub returns-clause-made : goal.returns-clause-made
returns-clause-made g c =
    λ m. rw (← c.self.view_is)
    (λ h known. again_made c.apply-outcome.result c.conclude.result c.conclude.ensures.outcome (λ (w : IsHonest (state g.S.Store c.apply-outcome.new.conn)
    × AreBooks (state g.S.Store c.self.inside.conn).now). c.apply-outcome.ensures.made w.0 w.1) (λ made. (
      h.0,
      λ honest.
          let mid = state g.S.Store c.apply-outcome.new.conn in
          let then = c.conclude.ensures.reads.honest honest in
          let k = h.1 (c.apply-outcome.ensures.honest then) in
          keeps_same mid (state g.S.Store c.conclude.new.conn) (after_changes m c.args.unit.now c.args.changes.now)
          (keeps_after (state g.S.Store c.self.inside.conn) mid m c.args.unit.now c.args.changes.now k known
          (rw c.as_slice.ensures at (made (then, k.books)))) (c.conclude.ensures.reads.same honest),
    )))

pub returns-clause-unchanged : goal.returns-clause-unchanged
returns-clause-unchanged g c =
    λ m. rw (← c.self.view_is) (λ h. again_left c.apply-outcome.result c.conclude.result c.conclude.ensures.outcome c.apply-outcome.ensures.unchanged (λ left. (
      h.0,
      λ honest.
          let mid = state g.S.Store c.apply-outcome.new.conn in
          let then = c.conclude.ensures.reads.honest honest in
          keeps_same mid (state g.S.Store c.conclude.new.conn) m
          (keeps_same (state g.S.Store c.self.inside.conn) mid m (h.1 (c.apply-outcome.ensures.honest then)) (left then))
          (c.conclude.ensures.reads.same honest),
    )))

pub returns-clause-crash : goal.returns-clause-crash
returns-clause-crash g c = rw (← c.self.view_is) (
    let before = state g.S.Store c.self.inside.conn in
    let u = c.args.unit.now in
    let cs = c.args.changes.now in
    loses_no_part g.S.Store _ _ u cs
    (survives_then before (state g.S.Store c.apply-outcome.new.conn) (state g.S.Store c.conclude.new.conn) (AreChangedHonestly before u cs) (λ _. ⊥)
    (AreChangedHonestly before u cs)
    (λ _ db made. made) (λ _ db none. absurd none) (rw c.as_slice.ensures at c.apply-outcome.ensures.survives) c.conclude.ensures.reads.quiet))

pub returns-clause-kept : goal.returns-clause-kept
returns-clause-kept g c =
    both_ok c.conclude.result
    (again_made c.apply-outcome.result c.conclude.result c.conclude.ensures.outcome c.apply-outcome.ensures.open (λ up clean. (clean, up clean)))
    c.conclude.ensures.same (λ kept same. rw same kept)

pub conclude-requires-clause-so : goal.conclude-requires-clause-so
conclude-requires-clause-so g c =
    so_written g.S.Store c.self.inside.conn c.apply-outcome.new.conn c.self.inside.standing c.apply-outcome.result c.self.invariant.1 c.apply-outcome.ensures.honest c.apply-outcome.ensures.open
