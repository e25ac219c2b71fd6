use Rattle.std.proofs.Common.{◌≡◌, ◌∙◌, ap, arith, subst, sym, suc, ℕ, List, Some, IsTrue}
use Rattle.plant_wire.specs.Over.{RanWith}
use Rattle.plant_server_listener.{specs.Connections.{Traffic}, proofs.Serving.{next_exchange}}
use Rattle.plant_server_listener.proofs.connections.serve_next.Goals as goal

pub returns-clause-does : goal.returns-clause-does
returns-clause-does g c =
    let accepted = c.in_ok-requests.ensures in
    let k = g.L.Listener.accepted c.args.listener.now in
    let next : suc k ≡ g.L.Listener.accepted c.accept.new.self = omega (arith, accepted.counted) in
    next_exchange (g.L.Listener.is_seen c.args.listener.now) (g.L.Listener.traffic c.close.new.self) (g.L.Listener.accepted c.args.listener.now)
    (g.L.Requests.Inlet.remaining c.in_ok-requests.requests) (g.L.Requests.Inlet.remaining c.session-end.new.inlet)
    (g.L.Requests.Inlet.ended c.in_ok-requests.requests) (g.L.Requests.Inlet.ended c.session-end.new.inlet)
    (g.L.Answers.Outlet.written c.in_ok-requests.answers) (g.L.Answers.Outlet.written c.session-end.new.outlet)
    (g.L.Requests.Inlet.failures c.in_ok-requests.requests) (g.L.Requests.Inlet.failures c.session-end.new.inlet)
    (g.L.Requests.Inlet.reads c.in_ok-requests.requests) (g.L.Requests.Inlet.reads c.session-end.new.inlet)
    (g.L.Answers.Outlet.failures c.in_ok-requests.answers) (g.L.Answers.Outlet.failures c.session-end.new.outlet)
    (RanWith g.B.Books c.args.office.now c.session-end.new.office)
    c.session-end.result c.session-end.ensures.does c.session-end.ensures.stops
    (λ shows. accepted.comes shows ∙ ap (λ (f : ℕ → List ℕ). Some (f k)) (sym (c.close.ensures.incoming
    ∙ ap (λ (t : Traffic). t.incoming) accepted.shown)))
    accepted.whole accepted.goes
    (λ shows. c.close.ensures.goes (subst IsTrue (sym accepted.seen) shows) k next)
    (λ shows. c.close.ensures.cause (subst IsTrue (sym accepted.seen) shows) k next)
