use Rattle.plant_server_clients.proofs.connections.report_faults.Goals as goal

pub returns-clause-told : goal.returns-clause-told
returns-clause-told g c =
    (c.say_faults.ensures.0, rw (c.without.ensures, c.take_faults-faults.ensures.faults) at c.say_faults.ensures.1)
