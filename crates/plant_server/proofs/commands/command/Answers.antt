use Rattle.plant_server.proofs.commands.command.Goals as goal

pub returns : goal.returns
returns g c = (_, (_, c.command_over-status.ensures))
