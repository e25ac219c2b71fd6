use Rattle.std.proofs.Common.{◌≡◌}
use Rattle.plant_server_clients.specs.{Faults.{IsClear}, Service.{IsConsistent, service_state}}
use Rattle.plant_server_clients.proofs.Telling.{RoundTold}
use Rattle.plant_server_clients.proofs.serving.serve_turn.Given as goal

abbrev pub invariant-turn : goal.invariant-turn
invariant-turn g l = record {
  round : RoundTold g.B.Books l.fn.office.books l.office.books (service_state (g.P.Ports.seen l.fn.ports) (g.W.Write.contents l.fn.log) l.fn.service)
      (service_state (g.P.Ports.seen l.ports) (g.W.Write.contents l.log) l.service) l.at l.fn.service.plan.while_open
      (g.E.Write.contents l.fn.errors) (g.E.Write.contents l.errors);
  clear : IsClear l.fn.service.plan.while_open l.office.faults;
  consistent : IsConsistent g.P.Ports.number_of l.service;
  same : l.service.plan ≡ l.fn.service.plan;
}

abbrev pub decreases-turn : goal.decreases-turn
decreases-turn g l = l.at
