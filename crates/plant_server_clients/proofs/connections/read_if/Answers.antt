use Rattle.std.proofs.Common.{refl, ◌≡◌}
use Rattle.plant_server_clients.specs.Events.{reading, writing}
use Rattle.plant_server_clients.proofs.{Handled.{moved_none}, Leading.{logs_none}, Waits.{both_ways}}
use Rattle.plant_server_clients.proofs.connections.read_if.Goals as goal

pub returns-clause-moved : goal.returns-clause-moved
returns-clause-moved g c =
    let seen = g.P.Ports.seen c.args.ports.now in
    moved_none seen seen c.args.connection.now c.args.connection.now refl c.args.reads reading (λ (is : reading ≡ writing). cc)
    (λ on. both_ways c.args.reads c.if-reads.false on) refl (logs_none seen) refl
