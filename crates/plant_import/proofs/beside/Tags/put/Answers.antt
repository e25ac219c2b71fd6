use Rattle.std.proofs.Common.{Bool, List, [], ap, set, subst, sym, true, ◌++◌, ◌∙◌, ◌∷◌}
use Rattle.plant_import.{specs.Reached.{AreNamed}, proofs.BesideLaws.{tags_put}}
use Rattle.plant_import.proofs.beside.Tags.put.Goals as goal

pub returns-clause-value : goal.returns-clause-value
returns-clause-value c rows are =
    let marks = c.args.self.now.marks in
    subst (λ (m : List Bool). AreNamed (record { marks = m; tags = c.insert.new.self }) (rows ++ c.args.row.now ∷ []))
    (sym (c.replace_at.ensures ∙ ap (λ s. set marks s true) c.tag_slot.ensures))
    (tags_put c.args.self.now.tags c.insert.new.self marks rows c.args.row.now c.in_ok-copy.field-0 c.in_ok-copy.ensures.value
    c.in_ok-insert.ensures.updates are)
