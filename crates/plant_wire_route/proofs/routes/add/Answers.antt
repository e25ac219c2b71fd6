use Rattle.plant_wire_route.proofs.{Inserts.{inserted}, routes.add.Goals.{in-Ok, in-Err}}
use Rattle.plant_wire_route.proofs.routes.add.Goals as goal

pub returns-clause-ok : goal.returns-clause-ok
returns-clause-ok c =
    let done = inserted _ _ _ _ _ c.insert.ensures in
    elim c.match-insert.branch [
      | in-Ok w ↦ rw w.result-is (rw w.in-Ok.is at done)
      | in-Err w ↦ rw w.result-is tt
    ]
