use Rattle.plant_office.proofs.Serving.{serves_read}
use Rattle.plant_office.proofs.office.Office.serve_open.Goals as goal

pub returns-clause-serves : goal.returns-clause-serves
returns-clause-serves g c = serves_read g.B.Books c.in_ok-ensure_open.ensures.unchanged c.serve_call.ensures.serves
