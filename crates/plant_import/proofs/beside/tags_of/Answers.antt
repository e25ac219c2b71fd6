use Rattle.std.proofs.{Common.{List, [], ap, arith, subst, sym, take, ◌++◌, ◌∙◌, ◌∷◌}, lemmas.List.{take_all, take_more}}
use Rattle.plant_alarm.specs.declared.event.Event.{Event}
use Rattle.plant_import.specs.Reached.{AreNamed}
use Rattle.plant_import.proofs.beside.tags_of.Goals as goal

pub loop-row-preserved : goal.loop-row-preserved
loop-row-preserved c =
    let rows = c.args.rows.now in
    let i = c.loop-row.row-index in
    let e = c.row-item.result in
    subst (λ (l : List Event). AreNamed c.put.new.self l)
    (sym (take_more rows i e c.loop-row-test.true ∙ ap (λ x. take i rows ++ x ∷ []) (sym c.row-item.is)))
    (c.in_ok-put.ensures.value (take i rows) c.loop-row.invariant)

pub returns-clause-value : goal.returns-clause-value
returns-clause-value c =
    subst (λ (l : List Event). AreNamed c.loop-row.tags l)
    (take_all c.loop-row.row-index c.args.rows.now (omega (arith, c.loop-row-test.false))) c.loop-row.invariant
