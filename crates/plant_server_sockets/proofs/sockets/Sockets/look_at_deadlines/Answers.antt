use Rattle.std.proofs.Common.{◌∙◌, arith}
use Rattle.plant_server_sockets.proofs.Numbers.{numbers_set}
use Rattle.plant_server_sockets.proofs.sockets.Sockets.look_at_deadlines.Goals as goal

pub clients-preserved : goal.clients-preserved
clients-preserved c =
    numbers_set _ c.clients.clients c.clients.at c.look_at_times.new.client (omega (arith, c.clients-test.true, c.clients.auto.clients)) c.look_at_times.ensures ∙ c.clients.invariant
