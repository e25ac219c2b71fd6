use Rattle.std.proofs.Common.{IfOk, subst, ap, map, ◌∙◌, ◌≡◌, List}
use Rattle.plant_books.specs.declared.books.MineUnit.{MineUnit}
use Rattle.plant_store.proofs.Holdings.{codes_of_units}
use Rattle.plant_types.specs.Names.{Name}
use Rattle.plant_store.proofs.mine.held.Goals as goal

pub returns-clause-found : goal.returns-clause-found
returns-clause-found g c honest m k =
    let units = c.in_ok-units.ensures.found honest m k in
    let same = ap (map (λ (u : MineUnit). u.unit)) units ∙ codes_of_units m c.args.now c.args.person.now in
    subst (λ (codes : List Name). IfOk c.codes_of.result (λ found. found ≡ codes)) same c.codes_of.ensures
