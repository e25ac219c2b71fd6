use Rattle.std.proofs.Common.{◌≡◌, take, filter, ◌||◌}
use Rattle.plant_model.specs.steps.{RowFacts.{pair_of}, Scopes.{selection_by}}
use Rattle.plant_types.specs.Names.{same_name}
use Rattle.plant_books.proofs.parts.grants_asked.Given as goal

abbrev pub invariant-loop-grant : goal.invariant-loop-grant
invariant-loop-grant l =
    l.asked ≡ filter (λ g. same_name l.fn.person g.person || (selection_by l.rows l.scope).pair (pair_of g)) (take l.grant-index l.grant-items)
