use Rattle.std.proofs.Common.{ap, sym, ◌∙◌, ◌≡◌, Some, option_copied, option_map}
use Rattle.plant_model.specs.steps.RowFacts.{change_found, change_read}
use Rattle.plant_unit.proofs.DecisionLaws.{decided_change, refused_change}
use Rattle.plant_unit.proofs.decisions.withdraw_change.Goals as goal

pub returns-in-Some-withdrawal_refusal-clause-value : goal.returns-in-Some-withdrawal_refusal-clause-value
returns-in-Some-withdrawal_refusal-clause-value c kept u =
    let rows = c.args.part.now.rows in
    let found : Some c.in-Some.entry.now ≡ change_found rows c.args.number = sym (ap option_copied c.in-Some.is) ∙ c.entry_of.ensures in
    refused_change _ _ (ap (option_map (change_read rows)) found) _ _ _ (sym c.in-Some-withdrawal_refusal.is ∙ c.withdrawal_refusal.ensures rows)

pub returns-clause-value : goal.returns-clause-value
returns-clause-value c kept u =
    let rows = c.args.part.now.rows in
    let found : Some c.in-Some.entry.now ≡ change_found rows c.args.number = sym (ap option_copied c.in-Some.is) ∙ c.entry_of.ensures in
    decided_change _ _ _ (ap (option_map (change_read rows)) found)
    (kept.changes_read _ _ (sym found)) _ _ _ _ _ c.in_ok-decision_put.ensures.value (sym c.in_default-withdrawal_refusal.is
    ∙ c.withdrawal_refusal.ensures rows)
