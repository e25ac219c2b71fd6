use Rattle.std.proofs.Common.{arith, ◌||◌}
use Rattle.plant_model.specs.steps.{RowFacts.{pair_of}, Scopes.{selection_by}}
use Rattle.plant_types.{specs.{Names.{same_name}, Roles.{pair_cmp}}, proofs.public.SortedLaws.{some_of_all}}
use Rattle.plant_books.proofs.parts.grants_asked.Goals as goal

pub of-requires : goal.of-requires
of-requires c =
    let items = c.as_slice-grant-items.ensures in
    some_of_all pair_cmp pair_of (λ g. same_name c.args.person.now g.person || (selection_by c.args.rows.now c.args.scope).pair (pair_of g))
    c.args.rows.now.grants c.as_slice-grant-items.result.now c.loop-grant.asked c.loop-grant.grant-index items.order items.value
    (omega (arith, c.loop-grant-test.false)) c.loop-grant.invariant
