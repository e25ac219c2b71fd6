use Rattle.std.proofs.Common.{ap, length, not, slice_get, subst, List, ◌<◌, ◌∙◌}
use Rattle.plant_server_clients.specs.{Causes.{Always}, Events.{Event}, Service.{IsDueTurn, service_state}, Stages.{IsNoneNumbered}}
use Rattle.plant_server_clients.specs.declared.connections.Connection.{Connection}
use Rattle.plant_server_clients.proofs.{Paced.{got}, Rounds.{due_nowhere, due_turn}, Telling.{none_told}}
use Rattle.plant_server_clients.proofs.serving.turn_of.Goals as goal

pub returns-in-Some-clause-turned : goal.returns-in-Some-clause-turned
returns-in-Some-clause-turned g c =
    let ls = c.args.service.now.connections.items in
    let turned = c.turn_at.ensures.turned in
    let same = c.deref.ensures.value in
    let it = got ls c.in-Some.at (subst (λ (ms : List Connection). c.in-Some.at < length ms) same c.in-Some.ensures.within) in (
      turned.0.turned,
      turned.1,
      due_turn c.args.due (not c.args.service.now.busy) c.in-Some.at it.0 c.requires.consistent.connections it.1
          (c.in-Some.ensures.named it.0 (ap (λ (ms : List Connection). slice_get ms c.in-Some.at) same ∙ it.1)) turned.0,
    )

pub returns-in_default-clause-turned : goal.returns-in_default-clause-turned
returns-in_default-clause-turned g c =
    let s = service_state (g.P.Ports.seen c.args.ports.now) (g.W.Write.contents c.args.log.now) c.args.service.now in
    none_told g.B.Books c.args.office.now.books s Always (not c.args.service.now.busy) c.args.service.now.plan.while_open
    (g.E.Write.contents c.args.errors.now) (IsDueTurn c.args.due s)
    (due_nowhere c.args.due s (subst (λ (ms : List Connection). IsNoneNumbered c.args.due.number ms) c.deref.ensures.value (c.place_of.ensures.missed c.in_default.is)))
