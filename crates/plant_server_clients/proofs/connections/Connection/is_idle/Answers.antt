use Rattle.std.proofs.Common.{◌∙◌}
use Rattle.plant_server_clients.proofs.Waits.{few_if, idle_if}
use Rattle.plant_server_clients.proofs.connections.Connection.is_idle.Goals as goal

pub returns-else-is_empty-clause-idle : goal.returns-else-is_empty-clause-idle
returns-else-is_empty-clause-idle c waits =
    idle_if c.args.self.now.unread.items c.len.result c.args.self.now.wanted (c.len.ensures ∙ c.args.self.now.unread.ok.0) waits

pub returns-else-is_empty-clause-few : goal.returns-else-is_empty-clause-few
returns-else-is_empty-clause-few c =
    few_if c.args.self.now.unread.items c.len.result c.args.self.now.wanted (c.len.ensures ∙ c.args.self.now.unread.ok.0)
