use Rattle.std.proofs.{Common.{arith, option_map, ap, sym, ◌∙◌}, lemmas.Grind.{common_steps}}
use Rattle.plant_books.{specs.Listed.{IsCountable}, proofs.ListedLaws.{found_countable}}
use Rattle.plant_books.proofs.opened.part_at.Goals as goal

pub returns-in_err-part_of-in-Some-clause-memory : goal.returns-in_err-part_of-in-Some-clause-memory
returns-in_err-part_of-in-Some-clause-memory c all =
    let few : IsCountable c.in-Some.rows.now =
    found_countable c.args.unit.now c.args.units.now c.in-Some.rows.now all (sym c.rows_of.ensures ∙ ap (option_map (λ rows. rows.now)) c.in-Some.is) in
    let memory = c.in_err-part_of-in-Some.ensures.countable few in
    grind (arith, common_steps, memory)
