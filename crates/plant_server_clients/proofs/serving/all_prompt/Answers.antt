use Rattle.std.proofs.{Common.{refl, length}, lemmas.Option.{slice_get_read}}
use Rattle.plant_server_clients.proofs.{Numbers.{prompt_next, waits_at}, Waits.{on_true}}
use Rattle.plant_server_clients.proofs.serving.all_prompt.Goals as goal

pub connections-preserved : goal.connections-preserved
connections-preserved c =
    let ls = c.args.connections.now in
    let is = slice_get_read ls (length ls) c.connections.at c.index-connections-at.result refl c.connections-test.true c.index-connections-at.is in
    let waits = waits_at c.args.count ls c.connections.at c.index-connections-at.result c.requires.connections is in
    prompt_next ls c.connections.at c.index-connections-at.result is c.connections.invariant
    (on_true c.is_prompt.result _ (c.is_prompt.ensures.prompt waits) c.if-not-is_prompt.false)
