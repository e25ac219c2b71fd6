use Rattle.std.proofs.{Common.{ap, sym, ◌∙◌, ◌≡◌, Some, [], option_copied, option_map, ◌∷◌}, lemmas.Result.{IfOk-weaker}}
use Rattle.plant_model.specs.{Refusals.{first_refusal, kind_refusals, of_change}, Rows.{change_entry}}
use Rattle.plant_model.specs.steps.RowFacts.{change_found, change_read, facts_in}
use Rattle.plant_model.specs.declared.reply.{ChangeRow.{ChangeRow}, Refused.TheVariants.{SamePerson}}
use Rattle.plant_types.specs.Names.{same_name}
use Rattle.plant_unit.specs.Judged.{IsApproved, IsJudgedOwn}
use Rattle.plant_unit.proofs.{DecisionLaws.{approved_here, refused_there, whole_read}, ProposalLaws.{as_rejected}, VerdictLaws.{asked, refused_own}}
use Rattle.plant_unit.proofs.decisions.approve.Goals as goal

pub returns-in-Some-decision_refusal-clause-value : goal.returns-in-Some-decision_refusal-clause-value
returns-in-Some-decision_refusal-clause-value c kept u is =
    let f = facts_in c.args.part.now in
    let p = c.args.call.now.person in
    let rows = c.args.part.now.rows in
    let found : Some c.in-Some.entry.now ≡ change_found rows c.args.number = sym (ap option_copied c.in-Some.is) ∙ c.entry_of.ensures in
    asked is (refused_own f _ c.in-Some-decision_refusal.refused
    (as_rejected (f.change c.args.number) (λ x. same_name p x.proposer) (λ x. kind_refusals f x.base x.kind) c.in-Some-decision_refusal.refused
    (refused_there _ _ (ap (option_map (change_read rows)) found) p c.in-Some-decision_refusal.refused (sym c.in-Some-decision_refusal.is
    ∙ c.decision_refusal.ensures rows))))

pub returns-in-Some-2-clause-value : goal.returns-in-Some-2-clause-value
returns-in-Some-2-clause-value c kept u is =
    let f = facts_in c.args.part.now in
    let p = c.args.call.now.person in
    let t = c.args.call.now.moment in
    let rows = c.args.part.now.rows in
    let e = c.in-Some.entry.now in
    let change = c.in-Some-2.change in
    let found : Some e ≡ change_found rows c.args.number = sym (ap option_copied c.in-Some.is) ∙ c.entry_of.ensures in
    let read = whole_read {part = c.args.part.now} c.args.number e change kept found (sym c.in-Some-2.is ∙ c.in_ok-change_from.ensures.value) in
    IfOk-weaker c.bring_into_force.result (IsApproved f p t change e) (IsJudgedOwn f c.args.call.now)
    (λ v a. asked is (approved_here f p t u c.args.number change e
    (ap (λ (x : ChangeRow). Some x) read ∙ ap (option_map (change_read rows)) found)
    (ap change_entry read ∙ kept.changes_read c.args.number e (sym found))
    (sym c.in_default-decision_refusal.is ∙ c.decision_refusal.ensures rows
    ∙ ap (λ (x : ChangeRow). first_refusal (of_change (Some x) (λ y. (same_name p y.proposer, SamePerson) ∷ [])))
    (sym read)) v a)) (c.bring_into_force.ensures.value kept)
