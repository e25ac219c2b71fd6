use Rattle.std.proofs.Common.{◌≡◌, take, filter}
use Rattle.plant_types.specs.Names.{same_name}
use Rattle.plant_books.proofs.parts.own_grants.Given as goal

abbrev pub invariant-loop-grant : goal.invariant-loop-grant
invariant-loop-grant l = l.own ≡ filter (λ g. same_name l.fn.person g.person) (take l.grant-index l.grant-items)
