use Rattle.std.proofs.Common.{ap, sym, ◌∙◌}
use Rattle.plant_model.specs.steps.RowFacts.{facts_in}
use Rattle.plant_ration.specs.Grid.{Grid}
use Rattle.plant_unit.{specs.Judged.{sheet_decision}, proofs.{ProposalLaws.{base_decided, bare_sheet}, ReadingLaws.{in_force_none, in_force_read}}}
use Rattle.plant_unit.proofs.proposals.record_priority.Goals as goal

pub returns-in-None-clause-value : goal.returns-in-None-clause-value
returns-in-None-clause-value c kept =
    let f = facts_in c.args.part.now in
    let bare = in_force_none c.args.part.now c.args.unit.now kept c.requires (sym c.in-None.is ∙ c.in_ok-matrix_of.ensures.value) in
    bare_sheet f.matrix c.args.sheet.now.severity c.args.sheet.now.response bare
    ∙ base_decided f c.args.base c.revision_of-revision.result c.args.tag.now c.args.sheet.now c.if-base-revision.false c.revision_of-revision.ensures

pub returns-in-Some-clause-value : goal.returns-in-Some-clause-value
returns-in-Some-clause-value c kept =
    let f = facts_in c.args.part.now in
    let read = in_force_read c.args.part.now c.args.unit.now c.in-Some.matrix c.requires (sym c.in-Some.is ∙ c.in_ok-matrix_of.ensures.value) in
    c.sheet_priority.ensures
    ∙ ap (λ (m : Grid). sheet_decision m c.args.sheet.now.severity c.args.sheet.now.response) read
    ∙ base_decided f c.args.base c.revision_of-revision.result c.args.tag.now c.args.sheet.now c.if-base-revision.false c.revision_of-revision.ensures
