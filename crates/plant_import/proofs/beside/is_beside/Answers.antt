use Rattle.std.proofs.Common.{ap, sym, ◌∙◌, ◌||◌}
use Rattle.plant_import.{specs.Needed.{around, is_around, names}, specs.Numbers.{has_number}, proofs.BesideLaws.{any_flat}}
use Rattle.plant_import.proofs.beside.is_beside.Goals as goal

pub returns-else-has : goal.returns-else-has
returns-else-has c kept rows named near =
    let e = c.args.event.now in
    c.has-else-has.ensures _ near ∙ any_flat (has_number e.seq) (λ r. around kept r.seq) rows
    ∙ ap (λ b. b || is_around kept rows e.seq) (sym c.if-has.false ∙ c.has.ensures rows named)
