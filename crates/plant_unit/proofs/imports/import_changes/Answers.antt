use Rattle.std.proofs.Common.{List, ap, rules, sym, ◌++◌, ◌∙◌, ◌∷◌, ◌≡◌, []}
use Rattle.plant_alarm.specs.declared.event.Event.{Event}
use Rattle.plant_import.specs.Numbers.{with_events}
use Rattle.plant_model.specs.declared.rows.{UnitRow.{UnitRow}, RowEdit.{RowEdit, TheVariants.{Put, PutEvents}}, Row.TheVariants.{Unit as UnitPut}}
use Rattle.plant_model.specs.steps.{RowChanges.{import_changes}, RowFacts.{facts_among, unit_read}}
use Rattle.plant_unit.specs.Alarms.{states_after}
use Rattle.plant_unit.proofs.imports.import_changes.Goals as goal

pub returns-clause-value : goal.returns-clause-value
returns-clause-value c u es of new =
    let put = Put (UnitPut (record c.args.unit.now { last_s = c.args.now })) in
    let first : c.push.new.self ≡ put ∷ [] = search rules in
    let rising = c.in_ok-rising.ensures.value in
    let states = c.in_ok-push_alarms.ensures.value es c.args.added of.needed_are new rising of.summaries in
    let own : put ≡ Put (UnitPut (record (unit_read c.args.part.now.rows) { last_s = c.args.now })) =
    ap (λ (r : UnitRow). Put (UnitPut (record r { last_s = c.args.now }))) (sym c.requires) in
    c.in_ok-push-2.ensures.ok
    ∙ (λ i. (states ∙ ap (λ l. l ++ states_after es c.args.added c.args.part.now.rows.alarms) first) i
    ++ PutEvents ((c.into_list.ensures.value ∙ rising) i) ∷ [])
    ∙ ap (λ (l : List Event). put ∷ (states_after es l c.args.part.now.rows.alarms ++ PutEvents (with_events [] l) ∷ [])) new.fresh_are
    ∙ ap (λ (p : RowEdit). p ∷ import_changes (facts_among c.args.part.now es) c.args.rows.now) own
