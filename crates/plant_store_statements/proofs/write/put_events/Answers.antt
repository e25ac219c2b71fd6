use Rattle.std.proofs.{Common.{◌≡◌, ◌∷◌, [], ◌++◌, ◌+◌, ◌∙◌, List, Ok, ap, arith, rules, subst, sym, take}, lemmas.List.{take_all, take_more}}
use Rattle.sqlite.specs.{Held.{state}, State.{HasCleanDisk}}
use Rattle.plant_alarm.specs.declared.event.Event.{Event}
use Rattle.plant_model.specs.declared.rows.RowEdit.TheVariants.{PutEvents}
use Rattle.plant_store_statements.{specs.Changes.{Applies}, proofs.public.{StepsInside.{stays_then}, Writes.{applies_event}}}
use Rattle.plant_store_statements.proofs.write.put_events.Goals as goal

pub loop-event-preserved : goal.loop-event-preserved
loop-event-preserved g c =
    let old = state g.S.Store c.args.tx.now.conn.now in
    let mid = state g.S.Store c.loop-event.tx.conn.now in
    let now = state g.S.Store c.insert.new.tx.conn.now in
    let early = λ (clean : HasCleanDisk now). let before : HasCleanDisk mid = omega (arith, c.insert.ensures.stays.survives.clean) in before in
    record {
      same_reference = search rules;
      made = λ clean started books.
          let so_far = c.loop-event.invariant.made (early clean) started books in
          let one = c.in_ok-insert.ensures.made clean (c.loop-event.invariant.stays.inside (early clean) started) so_far.books in
          let xs = c.args.events.now in
          let at = c.loop-event.event-index in
          let x : Event = c.event-item.result in
          let more : take (at + 1) xs ≡ take at xs ++ x ∷ [] = take_more xs at x (omega arith)
          ∙ ap (λ (y : Event). take at xs ++ y ∷ []) (sym c.event-item.is) in
          subst (λ (l : List Event). Applies c.args.unit.now (PutEvents l ∷ []) old.now now.now) (sym more)
          (applies_event c.args.unit.now (take at xs) x old.now mid.now now.now so_far one);
      stays = stays_then {W = Unit {0}} {result = Ok tt} c.loop-event.invariant.stays c.in_ok-insert.ensures.stays;
    }

pub returns-clause-made : goal.returns-clause-made
returns-clause-made g c clean started books =
    let so_far = c.loop-event.invariant.made clean started books in
    let whole : take c.loop-event.event-index c.args.events.now ≡ c.args.events.now =
    take_all c.loop-event.event-index c.args.events.now (omega arith) in
    rw whole at so_far
