use Rattle.std.proofs.Common.{◌∙◌}
use Rattle.plant_server_sockets.proofs.Numbers.{numbers_set}
use Rattle.plant_server_sockets.proofs.sockets.Sockets.note_events.Goals as goal

pub events-preserved-then-at-clients : goal.events-preserved-then-at-clients
events-preserved-then-at-clients c =
    numbers_set _ c.events.clients c.in-Some-index_of.at c.note.new.self c.if-at-clients.true c.note.ensures ∙ c.events.invariant
