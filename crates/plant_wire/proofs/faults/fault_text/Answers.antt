use Rattle.std.{specs.Fmt.{digits}, proofs.Common.{refl}}
use Rattle.plant_wire_answer.specs.{Json.{quoted}, Response.{response, status_line}}
use Rattle.plant_wire.proofs.faults.fault_text.Goals as goal

pub returns-in-Memory : goal.returns-in-Memory
unfolding digits quoted response status_line
returns-in-Memory c = rw c.in-Memory.is refl

pub returns-in-Store : goal.returns-in-Store
unfolding digits quoted response status_line
returns-in-Store c = rw c.in-Store.is refl
