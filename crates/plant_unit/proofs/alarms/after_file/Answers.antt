use Rattle.std.proofs.Common.{ap, refl, rules, sym, ◌++◌, ◌∙◌, ◌≡◌, false, true}
use Rattle.std.proofs.lemmas.Result.{IfOk-weaker}
use Rattle.plant_import.{specs.{Needed.{has_late, needed}, Numbers.{with_events}}, proofs.public.NeededLaws.{needed_late}}
use Rattle.plant_unit.proofs.NamedLaws.{brought_needed, brought_on, states_anew}
use Rattle.plant_unit.specs.{Alarms.{HaveStates, brought}}
use Rattle.plant_unit.proofs.alarms.after_file.Goals as goal

pub returns-then-branch-clause-value : goal.returns-then-branch-clause-value
returns-then-branch-clause-value c es added is new rising so =
    let alarms = c.args.alarms.now in
    let rows = c.args.rows.now in
    let late : has_late es rows ≡ true =
    sym (needed_late es rows new.rise) ∙ ap (λ l. has_late l rows) (sym is) ∙ sym c.in_ok-has_late.ensures.value ∙ search rules in
    IfOk-weaker c.from_events.result (λ all. all ≡ brought alarms (with_events c.args.kept.now c.args.fresh.now) c.args.fresh.now)
    (HaveStates alarms es added) (λ all told. record {
      seen = with_events (needed es rows) added;
      told = told ∙ (λ i. brought alarms (with_events (is i) (rising i)) (rising i)) ∙ brought_needed alarms es rows added new;
      states = states_anew alarms es rows added new late;
    }) c.from_events.ensures.value

pub returns-else-branch-clause-value : goal.returns-else-branch-clause-value
returns-else-branch-clause-value c es added is new rising so =
    let alarms = c.args.alarms.now in
    let rows = c.args.rows.now in
    let none : has_late es rows ≡ false =
    sym (needed_late es rows new.rise) ∙ ap (λ l. has_late l rows) (sym is) ∙ sym c.in_ok-has_late.ensures.value ∙ search rules in
    IfOk-weaker c.from_rows.result (λ all. all ≡ brought alarms (es ++ c.args.fresh.now) c.args.fresh.now) (HaveStates alarms es added)
    (λ all told. record {
      seen = with_events es added;
      told = told ∙ (λ i. brought alarms (es ++ rising i) (rising i)) ∙ brought_on alarms es rows added new none;
      states = refl;
    }) (c.from_rows.ensures.value es so)
