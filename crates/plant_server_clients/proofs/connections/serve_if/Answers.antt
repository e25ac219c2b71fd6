use Rattle.plant_server_clients.proofs.Handled.{made_none}
use Rattle.plant_server_clients.proofs.connections.serve_if.Goals as goal

pub returns-else-serves-clause-made : goal.returns-else-serves-clause-made
returns-else-serves-clause-made g c = made_none g.B.Books c.args.office.now.books c.args.office.now.faults c.args.connection.now c.args.serves (λ is. cc)
