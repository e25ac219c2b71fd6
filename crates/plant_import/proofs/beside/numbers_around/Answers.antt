use Rattle.std.proofs.{Common.{List, [], ap, arith, flat_map, subst, sym, take, ◌++◌, ◌∙◌, ◌∷◌}, lemmas.List.{take_all, take_more}}
use Rattle.plant_alarm.specs.declared.event.Event.{Event}
use Rattle.plant_import.{specs.{Needed.{around}, Reached.{AreAround, HaveNumbers}}, proofs.BesideLaws.{flat_more}}
use Rattle.plant_import.proofs.beside.numbers_around.Goals as goal

pub loop-row-preserved : goal.loop-row-preserved
loop-row-preserved c =
    let kept = c.args.kept.now in
    let rows = c.args.rows.now in
    let i = c.loop-row.row-index in
    let e = c.row-item.result in
    let found : List Event → List Event = flat_map (λ r. around kept r.seq) in
    subst (λ (l : List Event). HaveNumbers c.put_all.new.self l)
    (ap (λ l. found (take i rows) ++ l) c.around.ensures ∙ sym (flat_more (λ r. around kept r.seq) (take i rows) e)
    ∙ ap found (sym (take_more rows i e c.loop-row-test.true ∙ ap (λ x. take i rows ++ x ∷ []) (sym c.row-item.is))))
    (c.in_ok-put_all.ensures.value (found (take i rows)) c.loop-row.invariant)
