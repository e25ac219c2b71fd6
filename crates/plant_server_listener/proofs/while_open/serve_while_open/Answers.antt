use Rattle.std.proofs.Common.{ap, arith, map, subst, ◌≡◌, ◌∙◌}
use Rattle.plant_office.specs.Faults.{noted}
use Rattle.plant_server_log.proofs.public.FaultLines.{tells_faults, tells_no_faults}
use Rattle.plant_server_listener.{specs.Connections.{faults_of}, proofs.Serving.{next_ran, served_more, served_none, shown_still, state_of}}
use Rattle.plant_server_listener.proofs.while_open.serve_while_open.Goals as goal

pub connections-init : goal.connections-init
unfolding served_none
connections-init g c =
    rw c.take_faults.ensures.books (
      served_none g.B.Books c.args.office.now.books (g.W.Write.contents c.args.log.now) (state_of g.L.Listener c.args.listener.now),
      tells_no_faults (g.E.Write.contents c.args.errors.now),
      c.take_faults.ensures.none,
    )

pub connections-preserved : goal.connections-preserved
unfolding served_more next_ran
connections-preserved g c =
    let before = c.connections.invariant in
    let next = c.in-Ok.ensures.does in
    let kinds : c.take_faults-in-connections.result ≡ faults_of next.exchange = c.take_faults-in-connections.ensures.faults
    ∙ next.made.1 ∙ ap (λ faults. noted faults next.exchange.answers) before.2 in
    rw c.take_faults-in-connections.ensures.books (
      served_more g.B.Books c.args.office.now.books (g.W.Write.contents c.args.log.now) (state_of g.L.Listener c.args.listener.now)
          c.connections.office.books c.serve_next.new.office.books (g.W.Write.contents c.connections.log) (g.W.Write.contents c.say_end.new.log)
          (state_of g.L.Listener c.connections.listener) (state_of g.L.Listener c.serve_next.new.listener) c.connections.count c.in-Ok.end
          before.0 (next_ran g.B.Books c.connections.office c.serve_next.new.office next) c.in-Ok.ensures.honest c.in-Ok.ensures.counted
          c.in-Ok.ensures.ok c.in-Ok.ensures.seen c.in-Ok.ensures.others c.say_end.ensures,
      tells_faults (g.E.Write.contents c.args.errors.now) (g.E.Write.contents c.connections.errors)
          (g.E.Write.contents c.say_faults.new.errors) (map faults_of before.0.exchanges) (faults_of next.exchange) c.say_faults.ensures.0 before.1
          (rw kinds at c.say_faults.ensures.1),
      c.take_faults-in-connections.ensures.none,
    )

pub returns-in_default-clause-served : goal.returns-in_default-clause-served
returns-in_default-clause-served g c =
    let so_far = c.connections.invariant.0 in
    let none = c.in_default.ensures in (
      so_far.exchanges,
      rw none.unmade so_far.turn,
      shown_still (state_of g.L.Listener c.args.listener.now) (state_of g.L.Listener c.connections.listener)
          (state_of g.L.Listener c.serve_next.new.listener) so_far.exchanges none.others so_far.accepted so_far.shown,
      none.uncounted ∙ so_far.accepted,
      (omega (arith, c.connections-test.true, so_far.count), none.failed),
      c.connections.invariant.1,
    )
