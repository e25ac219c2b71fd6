use Rattle.std.proofs.Common.{◌∙◌, ◌==◌, ap}
use Rattle.plant_server_clients.proofs.Waits.{empty_if, if_true, on_true}
use Rattle.plant_server_clients.proofs.connections.Connection.is_open.Goals as goal

pub returns-clause-open : goal.returns-clause-open
returns-clause-open c waits =
    let text = c.args.self.now.pending.text in
    if_true c.is_idle.result _
    (λ t. (
      empty_if text.items c.is_empty.result (c.is_empty.ensures ∙ ap (λ n. n == 0) text.ok.0) c.if-not-is_empty.false,
      on_true c.is_idle.result _
          (c.is_idle.ensures.idle waits) t,
    ))
