use Rattle.plant_server_clients.proofs.Waits.{if_true, on_true}
use Rattle.plant_server_clients.proofs.connections.Connection.is_prompt.Goals as goal

pub returns-else-not-is_empty-clause-prompt : goal.returns-else-not-is_empty-clause-prompt
returns-else-not-is_empty-clause-prompt c waits =
    if_true c.is_idle.result _
    (λ t live none. (on_true c.is_idle.result _ (c.is_idle.ensures.idle waits) t, on_true c.is_idle.result _ c.is_idle.ensures.few t))

pub returns-else-not-is_empty-clause-settled : goal.returns-else-not-is_empty-clause-settled
returns-else-not-is_empty-clause-settled c = if_true c.is_idle.result _ (λ t live none. on_true c.is_idle.result _ c.is_idle.ensures.few t)
