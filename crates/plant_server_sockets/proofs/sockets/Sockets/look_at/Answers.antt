use Rattle.plant_server_sockets.proofs.Numbers.{numbers_set}
use Rattle.plant_server_sockets.proofs.sockets.Sockets.look_at.Goals as goal

pub returns : goal.returns
returns c = numbers_set _ c.args.clients.now c.in-Some.at c.turn_of.new.client c.if-at-clients.false c.turn_of.ensures
