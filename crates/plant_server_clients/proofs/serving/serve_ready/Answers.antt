use Rattle.std.proofs.Common.{ap, append_assoc, not, subst, List, ◌++◌, ◌∙◌, sym}
use Rattle.plant_server_clients.specs.{Causes.{HasReported}, Events.{Event, reports}, Fairness.{IsUpToDate}, Happens.{stages}, Heeded.{Heeds}}
use Rattle.plant_server_clients.specs.{Service.{at_stages, service_state}, Stages.{fresh}, declared.serving.Plan.{Plan}}
use Rattle.plant_server_clients.proofs.{Leading.{events_then, happened_then, leads_then, unasked_then}, Rounds.{joined}, Soon.{heeds_more, recent_alone}, Told.{tells_if_then}}
use Rattle.plant_server_clients.proofs.serving.serve_ready.Goals as goal

pub serve_turn-requires-clause-clear : goal.serve_turn-requires-clause-clear
serve_turn-requires-clause-clear g c on = c.step.ensures.clear (ap (λ (p : Plan). p.while_open) (sym c.step.ensures.same) ∙ on)

pub returns-then-was_busy-clause-round : goal.returns-then-was_busy-clause-round
returns-then-was_busy-clause-round g c =
    let first = c.step.ensures.turned.0 in
    let next = c.serve_turn.ensures.round.0 in
    let before = service_state (g.P.Ports.seen c.args.ports.now) (g.W.Write.contents c.args.log.now) c.args.service.now in
    let between = service_state (g.P.Ports.seen c.step.new.ports) (g.W.Write.contents c.step.new.log) c.step.new.service in (
      record {
        happened = happened_then first.happened next.happened;
        keeps = joined (HasReported c.args.ready) 0 c.step.new.service.count 0 first.happened next.happened
            (first.busy (ap not c.if-was_busy.true)) next.keeps;
        unasked = ap reports (events_then first.happened next.happened)
            ∙ unasked_then first.happened.events next.happened.events first.unasked next.unasked;
        recent = λ es leads.
            subst IsUpToDate
            (append_assoc es first.happened.events next.happened.events ∙ ap (λ (fs : List Event). es ++ fs) (sym (events_then first.happened next.happened)))
            (next.recent (es ++ first.happened.events)
            (λ k. leads_then k fresh (stages before k) (stages between k) es first.happened.events (leads k) (first.happened.leads k)));
      },
      tells_if_then (events_then first.happened next.happened) c.step.ensures.same c.step.ensures.turned.1 c.serve_turn.ensures.round.1,
      subst (Heeds c.args.service.now.plan.connections (at_stages before) c.args.ready) (sym (events_then first.happened next.happened))
          (heeds_more c.args.service.now.plan.connections (at_stages before) c.args.ready first.happened.events next.happened.events c.step.ensures.turned.2),
    )

pub returns-then-was_busy-clause-clear : goal.returns-then-was_busy-clause-clear
returns-then-was_busy-clause-clear g c on =
    c.serve_turn.ensures.clear (ap (λ (p : Plan). p.while_open) c.step.ensures.same ∙ on)

pub returns-then-was_busy-clause-consistent : goal.returns-then-was_busy-clause-consistent
returns-then-was_busy-clause-consistent g c =
    let h = c.serve_turn.ensures.consistent in record { connections = h.connections; few = h.few; rising = h.rising; clients = h.clients }

pub returns-else-was_busy-clause-round : goal.returns-else-was_busy-clause-round
returns-else-was_busy-clause-round g c =
    let turn = c.step.ensures.turned.0 in (
      record {
        happened = turn.happened;
        keeps = turn.alone (ap not c.if-was_busy.false) (c.requires.prompt c.if-was_busy.false);
        unasked = turn.unasked;
        recent = λ es leads.
            recent_alone c.args.service.now.count c.args.service.now.connections.items turn.happened.events turn.unasked
            (c.requires.prompt c.if-was_busy.false) es leads;
      },
      c.step.ensures.turned.1,
      c.step.ensures.turned.2,
    )
