use Rattle.std.proofs.Common.{Bool, List, [], ap, set, subst, sym, true, ◌++◌, ◌∙◌, ◌∷◌}
use Rattle.plant_import.{specs.Reached.{HaveNumbers}, proofs.BesideLaws.{numbers_put}}
use Rattle.plant_import.proofs.beside.Neighbours.put.Goals as goal

pub returns-clause-value : goal.returns-clause-value
returns-clause-value c es have =
    let marks = c.args.self.now.marks in
    subst (λ (m : List Bool). HaveNumbers (record { marks = m; numbers = c.insert.new.self }) (es ++ c.args.event.now ∷ []))
    (sym (c.replace_at.ensures ∙ ap (λ s. set marks s true) c.number_slot.ensures))
    (numbers_put c.args.self.now.numbers c.insert.new.self marks es c.args.event.now c.in_ok-insert.ensures.updates have)
