use Rattle.std.proofs.Common.{ap, refl, sym, ◌∙◌, List, ◌++◌, ◌∷◌}
use Rattle.plant_model.specs.declared.call.Request.TheVariants.{Propose}
use Rattle.plant_model.specs.steps.{CallChanges.{own_changes}, RowFacts.{facts_in}}
use Rattle.plant_model.specs.declared.{reply.Reply.TheVariants.{Number}, rows.{Row.TheVariants.{Unit as UnitPut}, RowEdit.{RowEdit}}}
use Rattle.plant_model.specs.declared.rows.{RowEdit.TheVariants.{Put}, UnitRow.{UnitRow}}
use Rattle.plant_unit.proofs.VerdictLaws.{asked, made_own, refused_own}
use Rattle.plant_unit.proofs.decisions.propose.Goals as goal

pub returns-in-Some-clause-value : goal.returns-in-Some-clause-value
returns-in-Some-clause-value c kept u is =
    asked is (refused_own _ _ _ (sym c.in-Some.is ∙ c.in_ok-refused.ensures.value kept c.args.call.now.moment c.args.call.now.person u))

pub returns-clause-value : goal.returns-clause-value
returns-clause-value c kept u is =
    let f = facts_in c.args.part.now in
    let p = c.args.call.now.person in
    let t = c.args.call.now.moment in
    asked is (made_own f _ (Number c.next_number.result) c.push_proposal.new.changes
    (sym c.in_default.is ∙ c.in_ok-refused.ensures.value kept t p u) (ap Number (c.next_number.ensures kept.count_fits)) refl
    (c.in_ok-push_proposal.ensures.value kept u
    ∙ ap (λ (l : List RowEdit). l ++ own_changes f p t (Propose u c.args.proposal.now)) c.in_ok-changes.ensures.value
    ∙ ap (λ (r : UnitRow). Put (UnitPut (record r { last_s = t })) ∷ own_changes f p t (Propose u c.args.proposal.now)) (sym c.requires)))
