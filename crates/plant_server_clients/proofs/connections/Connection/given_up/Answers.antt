use Rattle.std.proofs.Common.{◌∙◌, ◌==◌, ap}
use Rattle.plant_wire.specs.declared.reads.End.TheVariants.{ReadFailed}
use Rattle.plant_server_clients.proofs.{Numbers.{gives_up, loses, over_so}, Waits.{empty_if, full_if, on_true}}
use Rattle.plant_server_clients.proofs.connections.Connection.given_up.Goals as goal

pub returns-then-not-is_empty : goal.returns-then-not-is_empty
returns-then-not-is_empty c waits =
    let text = c.args.self.now.pending.text in
    loses c.args.self.now (full_if text.items c.is_empty.result (c.is_empty.ensures ∙ ap (λ n. n == 0) text.ok.0) c.if-not-is_empty.true)

pub returns-then-is_open : goal.returns-then-is_open
returns-then-is_open c waits =
    gives_up c.args.self.now ReadFailed (c.is_open.ensures.served c.if-is_open.true)
    (on_true c.is_open.result _ (c.is_open.ensures.open waits) c.if-is_open.true)

pub returns : goal.returns
returns c waits =
    let text = c.args.self.now.pending.text in
    over_so c.args.self.now (empty_if text.items c.is_empty.result (c.is_empty.ensures ∙ ap (λ n. n == 0) text.ok.0) c.if-not-is_empty.false)
