use Rattle.std.proofs.Common.{◌≡◌}
use Rattle.plant_server_clients.specs.{Events.{seen_by}, Faults.{IsClear}, Service.{IsConsistent, MayWait, service_state}}
use Rattle.plant_server_clients.proofs.Telling.{WayTold}
use Rattle.plant_server_clients.proofs.serving.serve_clients.Given as goal

abbrev pub invariant-turns : goal.invariant-turns
invariant-turns g l = record {
  way : WayTold g.B.Books l.fn.office.books l.office.books (seen_by (g.P.Ports.seen l.fn.ports) (g.W.Write.contents l.fn.log))
      (service_state (g.P.Ports.seen l.ports) (g.W.Write.contents l.log) l.service) l.count l.plan
      (g.E.Write.contents l.fn.errors) (g.E.Write.contents l.errors);
  clear : IsClear l.plan.while_open l.office.faults;
  consistent : IsConsistent g.P.Ports.number_of l.service;
  same : l.service.plan ≡ l.plan;
  prompt : MayWait l.service;
}
