use Rattle.plant_server_sockets.proofs.sockets.SocketsPorts.put.Goals as goal

pub returns-after-n-gt0-clause-sent : goal.returns-after-n-gt0-clause-sent
returns-after-n-gt0-clause-sent c = c.in-Bytes.ensures.sent c.args.client.now.number
