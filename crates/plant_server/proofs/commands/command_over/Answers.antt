use Rattle.plant_server.proofs.commands.command_over.Goals as goal

pub returns : goal.returns
returns g c =
    let did = c.obey-status.ensures in
    record { line = did.0; read = did.1; status = _; ended = did.2; told = c.code.ensures }
