use Rattle.std.proofs.Common.{◌≡◌, map, take, filter}
use Rattle.plant_books.specs.Contents.{is_held_row}
use Rattle.plant_books.proofs.grants.roles_held.Given as goal

abbrev pub invariant-loop-grant : goal.invariant-loop-grant
invariant-loop-grant l = l.roles ≡ map (λ g. g.role_no) (filter (is_held_row l.fn.now l.fn.person) (take l.grant-index l.grant-items))
