use Rattle.std.proofs.{Common.{refl, length, arith, subst, sym, ◌∷◌, [], ℕ}, lemmas.Option.{slice_get_read}}
use Rattle.plant_server_clients.specs.{Events.{Logs, closed}, Service.{service_state}, Paces.{AreRising, numbers}}
use Rattle.plant_server_clients.proofs.{Aligned.{aligned_removed, own}, Handled.{passed_closed}, Numbers.{below, remove_connections}, Paced.{numbers_removed, rising_removed}}
use Rattle.plant_server_clients.proofs.serving.close_connection.Goals as goal

pub overflow_add-number : goal.overflow_add-number
overflow_add-number g c =
    let ls = c.args.service.now.connections.items in
    let is = slice_get_read ls (length ls) c.args.at c.index.result.now refl c.requires.within c.index.ensures in
    let lt = below c.args.service.now.count ls c.args.at c.index.result.now c.requires.consistent.connections is in
    omega (arith, lt)

pub returns-clause-passed : goal.returns-clause-passed
returns-clause-passed g c =
    let ls = c.args.service.now.connections.items in
    let is = slice_get_read ls (length ls) c.args.at c.index.result.now refl c.requires.within c.index.ensures in
    rw c.remove.ensures.items
    (passed_closed (service_state (g.P.Ports.seen c.args.ports.now) (g.W.Write.contents c.args.log.now) c.args.service.now)
    (g.P.Ports.seen c.close.new.self) (g.W.Write.contents c.say_end.new.log) c.args.at c.index.result.now c.args.end c.requires.consistent.connections is
    (c.requires.may c.index.result.now is)
    (subst (λ (n : ℕ). Logs (g.P.Ports.seen c.args.ports.now) (g.P.Ports.seen c.close.new.self) (closed n c.args.end ∷ []))
    (own g.P.Ports.number_of c.args.service.now.clients.items ls c.args.at c.remove-client.result c.index.result.now c.requires.consistent.clients is
    c.remove-client.ensures.value)
    c.close.ensures)
    c.say_end.ensures)

pub returns-clause-consistent : goal.returns-clause-consistent
returns-clause-consistent g c =
    let ls = c.args.service.now.connections.items in
    let is = slice_get_read ls (length ls) c.args.at c.index.result.now refl c.requires.within c.index.ensures in
    record {
      connections = rw c.remove.ensures.items (remove_connections c.args.service.now.count ls c.args.at c.index.result.now c.requires.consistent.connections is);
      few = c.requires.consistent.few;
      rising = rw c.remove.ensures.items
          (subst AreRising (sym (numbers_removed ls c.args.at)) (rising_removed (numbers ls) c.args.at c.requires.consistent.rising));
      clients = rw (c.remove-client.ensures.items, c.remove.ensures.items) (aligned_removed g.P.Ports.number_of c.args.service.now.clients.items ls
          c.args.at c.requires.consistent.clients);
    }
