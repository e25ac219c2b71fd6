use Rattle.plant_server.proofs.Refused.{refused_of}
use Rattle.plant_server.proofs.files.connect.Goals as goal

pub returns-in-Err-clause-left : goal.returns-in-Err-clause-left
returns-in-Err-clause-left g c admin = refused_of _ _ admin c.in-Err.error c.fault_of.result c.fault_of.ensures c.in-Err.left c.in-Err.ensures.left
