use Rattle.std.proofs.{Common.{◌∙◌, [], ap, append-nil, arith, inl, inr, None, refl, Some, subst, sym}, KnownBytes.{Appends-nil}}
use Rattle.plant_server_clients.{proofs.public.Sent.{sent_none}, specs.Events.{Log, Logs, at_ports}}
use Rattle.plant_wire.proofs.public.Running.{ran_none}
use Rattle.plant_server.{specs.{Nets.{NetState}, Statuses.{announced}, Streams.{IsPrintedOrCut}}, proofs.Reported.{none_at_once}}
use Rattle.plant_server.specs.declared.nets.Standing.{Standing}
use Rattle.plant_server.proofs.services.serve_at_once.Goals as goal

same_log : (log : Log) → Logs log log []
same_log None = tt
same_log (Some es) = sym (append-nil es)

pub returns-in-Ok-clause-sent : goal.returns-in-Ok-clause-sent
returns-in-Ok-clause-sent g c =
    let were = c.serve_clients-outcome.ensures.served.0 in
    let old = g.W.Write.contents c.args.output.now in
    let first = g.W.Write.contents c.say_address.new.output in
    let events = at_ports were.sent.events in
    let ended = c.end_at_once.ensures in (
      were.sent,
      first,
      subst (λ (at : Standing). IsPrintedOrCut old first (announced at))
          (sym (ap (λ (s : NetState). s.standing) ended ∙ ap (λ (s : NetState). s.standing) c.in-Ok.ensures.listens)) c.say_address.ensures,
      (were.shown.text, were.shown.told, were.shown.written),
      g.E.Write.contents c.warn_of_few_descriptors.new.errors,
      c.warn_of_few_descriptors.ensures,
      c.serve_clients-outcome.ensures.served.1,
      subst (λ (log : Log). Logs log (g.P.Net.state c.end_at_once.new.self).log events) c.in-Ok.ensures.seen
          (subst (λ (log : Log). Logs (g.P.Clients.Ports.seen c.in-Ok.ports) log events) (sym (ap (λ (s : NetState). s.log) ended)) were.shown.logged),
      λ is. inr (were.halts is),
    )

pub returns-in-Err-clause-sent : goal.returns-in-Err-clause-sent
returns-in-Err-clause-sent g c =
    let log = g.W.Write.contents c.args.output.now in
    let errors = g.E.Write.contents c.args.errors.now in
    let refuses = c.in-Err.ensures.refuses in (
      sent_none (ran_none _ _) (omega arith),
      log,
      (0, Appends-nil log),
      ([], refl, Appends-nil log),
      errors,
      (0, Appends-nil errors),
      none_at_once c.args.service.while_open errors,
      subst (λ (now : Log). Logs (g.P.Net.state c.args.net.now).log now []) (sym (ap (λ (s : NetState). s.log) refuses))
          (same_log (g.P.Net.state c.args.net.now).log),
      λ is. inl (ap (λ (s : NetState). s.standing) refuses),
    )
