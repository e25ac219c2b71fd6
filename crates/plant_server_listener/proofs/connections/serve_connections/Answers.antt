use Rattle.std.proofs.Common.{◌∙◌, arith}
use Rattle.plant_server_listener.proofs.Serving.{next_ran, served_more, served_none, shown_still, state_of}
use Rattle.plant_server_listener.proofs.connections.serve_connections.Goals as goal

pub connections-init : goal.connections-init
connections-init g c =
    served_none g.B.Books c.args.office.now.books (g.W.Write.contents c.args.log.now) (state_of g.L.Listener c.args.listener.now)

pub connections-preserved : goal.connections-preserved
connections-preserved g c =
    served_more g.B.Books c.args.office.now.books (g.W.Write.contents c.args.log.now) (state_of g.L.Listener c.args.listener.now)
    c.connections.office.books c.serve_next.new.office.books (g.W.Write.contents c.connections.log) (g.W.Write.contents c.say_end.new.log)
    (state_of g.L.Listener c.connections.listener) (state_of g.L.Listener c.serve_next.new.listener) c.connections.count c.in-Ok.end
    c.connections.invariant (next_ran g.B.Books c.connections.office c.serve_next.new.office c.in-Ok.ensures.does) c.in-Ok.ensures.honest c.in-Ok.ensures.counted c.in-Ok.ensures.ok c.in-Ok.ensures.seen
    c.in-Ok.ensures.others c.say_end.ensures

pub returns-in_default-clause-served : goal.returns-in_default-clause-served
returns-in_default-clause-served g c =
    let so_far = c.connections.invariant in
    let none = c.in_default.ensures in (
      so_far.exchanges,
      rw none.unmade so_far.turn,
      shown_still (state_of g.L.Listener c.args.listener.now) (state_of g.L.Listener c.connections.listener)
          (state_of g.L.Listener c.serve_next.new.listener) so_far.exchanges none.others so_far.accepted so_far.shown,
      none.uncounted ∙ so_far.accepted,
      (omega (arith, c.connections-test.true, so_far.count), none.failed),
    )
