use Rattle.std.proofs.Common.{◌∙◌, arith}
use Rattle.plant_server_sockets.proofs.Numbers.{numbers_set}
use Rattle.plant_server_sockets.proofs.sockets.Sockets.tick.Goals as goal

pub clients-preserved : goal.clients-preserved
clients-preserved c =
    numbers_set _ c.clients.clients c.clients.client-index c.move_on.new.self (omega (arith, c.clients-test.true, c.clients.auto.clients)) c.move_on.ensures ∙ c.clients.invariant
