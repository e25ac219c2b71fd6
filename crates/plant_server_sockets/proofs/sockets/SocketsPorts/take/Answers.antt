use Rattle.plant_server_sockets.proofs.sockets.SocketsPorts.take.Goals as goal

pub returns-after-is_none-clause-taken : goal.returns-after-is_none-clause-taken
returns-after-is_none-clause-taken c = c.in-Bytes.ensures.taken c.args.client.now.number
