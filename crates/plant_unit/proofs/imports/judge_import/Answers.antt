use Rattle.std.proofs.Common.{ap, rules, subst, sym, ◌∙◌, ◌≡◌, Ok}
use Rattle.plant_model.specs.declared.call.Request.{Request, TheVariants.{Import}}
use Rattle.plant_model.specs.steps.RowFacts.{facts_among}
use Rattle.plant_unit.specs.Additions.{AreAdded, AreEventsFor, AreEventsOf, addition}
use Rattle.plant_unit.proofs.ImportsJudged.{import_added, import_judged, import_refused}
use Rattle.plant_unit.proofs.imports.judge_import.Goals as goal

pub returns-in_ok-changes-in-Ok-2-clause-value : goal.returns-in_ok-changes-in-Ok-2-clause-value
returns-in_ok-changes-in-Ok-2-clause-value c kept u es e seen =
    let rows = c.as_slice-rows.result.now in
    let f = facts_among c.args.part.now es in
    let t = c.args.call.now.moment in
    let file : c.args.file.now ≡ Ok rows = search rules in
    let request : c.args.call.now.request ≡ Import u (Ok rows) = e ∙ ap (Import u) file in
    let of : AreEventsOf c.args.part.now rows es = subst (λ (q : Request). AreEventsFor c.args.part.now q es) request seen in
    let is : Ok c.in-Ok-2.merged ≡ addition f t rows = sym c.in-Ok-2.is ∙ c.in_ok-refused.ensures.value es of in
    let new : AreAdded es rows c.in-Ok-2.merged.fresh = import_added f t rows c.in-Ok-2.merged of.rise is in
    import_judged f c.args.call.now u rows c.in-Ok-2.merged c.import_reply.result c.in_ok-changes-in-Ok-2.changes request is
    (rw c.len-count.ensures at c.import_reply.ensures)
    (c.in_ok-changes-in-Ok-2.ensures.value u es of new)

pub returns-in-Err-2-clause-value : goal.returns-in-Err-2-clause-value
returns-in-Err-2-clause-value c kept u es e seen =
    let rows = c.as_slice-rows.result.now in
    let f = facts_among c.args.part.now es in
    let file : c.args.file.now ≡ Ok rows = search rules in
    let request : c.args.call.now.request ≡ Import u (Ok rows) = e ∙ ap (Import u) file in
    let of : AreEventsOf c.args.part.now rows es = subst (λ (q : Request). AreEventsFor c.args.part.now q es) request seen in
    import_refused f c.args.call.now u rows c.in-Err-2.refused request (sym c.in-Err-2.is ∙ c.in_ok-refused.ensures.value es of)
