use Rattle.std.proofs.Common.{ap, arith, inl, inr, refl, slice_get, subst, sym, not, [], Option, Some, ◌∙◌}
use Rattle.plant_server_clients.specs.{Causes.{ExpiredAt, HasReported}, Events.{Event, reported}}
use Rattle.plant_server_clients.specs.{Heeded.{Heeds}, Service.{at_stages, service_state}}
use Rattle.plant_server_clients.specs.declared.ports.Ready.{Ready, TheVariants.{Expired}}
use Rattle.plant_server_clients.proofs.{Numbers.{uncounted}, Telling.{given_told, none_told, passed_told}}
use Rattle.plant_server_clients.proofs.serving.step.Goals as goal

pub returns-in-Came-clause-turned : goal.returns-in-Came-clause-turned
returns-in-Came-clause-turned g c =
    let log = g.W.Write.contents c.args.log.now in
    let s = service_state (g.P.Ports.seen c.args.ports.now) log c.args.service.now in
    let n = c.args.service.now.plan.connections in
    let accepting = c.accept.ensures.passed log in
    passed_told g.B.Books c.args.office.now.books accepting.0 (HasReported c.args.ready) (λ _ _. tt)
    (not c.args.service.now.busy) c.args.service.now.plan.while_open (g.E.Write.contents c.args.errors.now) (c.accept.ensures.noted log)
    (Heeds n (at_stages s) c.args.ready)
    (subst (λ (r : Ready). Heeds n (at_stages s) r accepting.0.events) (sym c.in-Came.is)
    (λ k below free. accepting.1 (omega (arith, below, uncounted k c.args.service.now.count c.args.service.now.connections.items free))))

pub returns-in-Readable-clause-turned : goal.returns-in-Readable-clause-turned
returns-in-Readable-clause-turned g c =
    let s = service_state (g.P.Ports.seen c.args.ports.now) (g.W.Write.contents c.args.log.now) c.args.service.now in
    let n = c.args.service.now.plan.connections in
    let turned = c.turn_of.ensures.turned in
    given_told g.B.Books (HasReported c.args.ready) turned.0 turned.1 (Heeds n (at_stages s) c.args.ready)
    (subst (λ (r : Ready). Heeds n (at_stages s) r turned.0.happened.events) (sym c.in-Readable.is) (λ free. turned.2.tries refl free))

pub returns-in-Writable-clause-turned : goal.returns-in-Writable-clause-turned
returns-in-Writable-clause-turned g c =
    let s = service_state (g.P.Ports.seen c.args.ports.now) (g.W.Write.contents c.args.log.now) c.args.service.now in
    let n = c.args.service.now.plan.connections in
    let turned = c.turn_of-in-Writable.ensures.turned in
    given_told g.B.Books (HasReported c.args.ready) turned.0 turned.1 (Heeds n (at_stages s) c.args.ready)
    (subst (λ (r : Ready). Heeds n (at_stages s) r turned.0.happened.events) (sym c.in-Writable.is) turned.2.offers)

pub returns-in_default-clause-turned : goal.returns-in_default-clause-turned
returns-in_default-clause-turned g c =
    let s = service_state (g.P.Ports.seen c.args.ports.now) (g.W.Write.contents c.args.log.now) c.args.service.now in
    let n = c.args.service.now.plan.connections in
    none_told g.B.Books c.args.office.now.books s (HasReported c.args.ready) (not c.args.service.now.busy)
    c.args.service.now.plan.while_open (g.E.Write.contents c.args.errors.now) (Heeds n (at_stages s) c.args.ready)
    (subst (λ (r : Ready). Heeds n (at_stages s) r []) (sym c.in-Expired.is) tt)

pub returns-in-Some-clause-turned : goal.returns-in-Some-clause-turned
returns-in-Some-clause-turned g c =
    let gives : (before : Option Event) → HasReported c.args.ready before → ExpiredAt c.args.service.now.connections.items c.in-Some.at before = λ before now l is.
    now ∙ ap (λ r. Some (reported r)) (c.in-Expired.is ∙ ap Expired (sym (c.in-Some.ensures.named l (ap (λ ls. slice_get ls c.in-Some.at) c.deref.ensures.value ∙ is)))) in
    let s = service_state (g.P.Ports.seen c.args.ports.now) (g.W.Write.contents c.args.log.now) c.args.service.now in
    let n = c.args.service.now.plan.connections in
    passed_told g.B.Books c.args.office.now.books c.give_up.ensures.passed (HasReported c.args.ready) gives (not c.args.service.now.busy)
    c.args.service.now.plan.while_open (g.E.Write.contents c.args.errors.now) c.give_up.ensures.noted (Heeds n (at_stages s) c.args.ready)
    (subst (λ (r : Ready). Heeds n (at_stages s) r c.give_up.ensures.passed.events) (sym c.in-Expired.is) tt)

pub returns-in-Nothing-clause-turned : goal.returns-in-Nothing-clause-turned
returns-in-Nothing-clause-turned g c =
    let s = service_state (g.P.Ports.seen c.args.ports.now) (g.W.Write.contents c.args.log.now) c.args.service.now in
    let n = c.args.service.now.plan.connections in
    none_told g.B.Books c.args.office.now.books s (HasReported c.args.ready) (not c.args.service.now.busy)
    c.args.service.now.plan.while_open (g.E.Write.contents c.args.errors.now) (Heeds n (at_stages s) c.args.ready)
    (elim c.in-Nothing.is as (λ _. Heeds n (at_stages s) c.args.ready []) [
      | inl is ↦ subst (λ (r : Ready). Heeds n (at_stages s) r []) (sym is) tt
      | inr is ↦ subst (λ (r : Ready). Heeds n (at_stages s) r []) (sym is) tt
    ])
