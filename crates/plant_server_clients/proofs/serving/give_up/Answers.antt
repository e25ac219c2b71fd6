use Rattle.std.proofs.{Common.{false, refl, length, subst, sym, ◌∙◌}, lemmas.Option.{slice_get_read}}
use Rattle.plant_server_clients.specs.{Causes.{ExpiredAt}, Service.{service_state}, Prompt.{ArePrompt}, Stages.{MayClose}, declared.connections.Connection.{Connection}}
use Rattle.plant_server_clients.proofs.{Handled.{passed_expired}, Leading.{logs_none, passed_none}}
use Rattle.plant_server_clients.proofs.Told.{stay_removed}
use Rattle.plant_server_clients.proofs.Numbers.{prompt_removed, read_one, waits_at}
use Rattle.plant_server_clients.proofs.serving.give_up.Goals as goal

pub close_connection-requires-clause-may : goal.close_connection-requires-clause-may
close_connection-requires-clause-may g c connection is =
    let ls = c.args.service.now.connections.items in
    let waits = waits_at c.args.service.now.count ls c.args.at c.index.result.now c.requires.consistent.connections
    (slice_get_read ls (length ls) c.args.at c.index.result.now refl c.requires.within c.index.ensures) in
    subst (λ (t : Connection). MayClose t c.in-Some.end) (read_one ls c.args.at c.index.result.now connection is c.index.ensures)
    (c.in-Some.ensures waits)

pub returns-in-Some-clause-passed : goal.returns-in-Some-clause-passed
returns-in-Some-clause-passed g c = passed_expired c.args.at c.in-Some.end c.close_connection.ensures.passed

pub returns-in_default-clause-passed : goal.returns-in_default-clause-passed
returns-in_default-clause-passed g c =
    let seen = g.P.Ports.seen c.args.ports.now in
    passed_none (ExpiredAt c.args.service.now.connections.items c.args.at) false (service_state seen (g.W.Write.contents c.args.log.now) c.args.service.now)
    seen (logs_none seen)

pub returns-in-Some-clause-noted : goal.returns-in-Some-clause-noted
returns-in-Some-clause-noted g c =
    let ls = c.args.service.now.connections.items in
    let s = service_state (g.P.Ports.seen c.args.ports.now) (g.W.Write.contents c.args.log.now) c.args.service.now in
    let t = service_state (g.P.Ports.seen c.close_connection.new.ports) (g.W.Write.contents c.close_connection.new.log) c.close_connection.new.service in
    stay_removed s t c.args.at c.index.result.now c.requires.consistent.connections
    (slice_get_read ls (length ls) c.args.at c.index.result.now refl c.requires.within c.index.ensures)
    c.close_connection.ensures.count c.close_connection.ensures.others

pub returns-in-Some-clause-prompt : goal.returns-in-Some-clause-prompt
returns-in-Some-clause-prompt g c may free =
    subst ArePrompt (sym c.close_connection.ensures.others)
    (prompt_removed c.args.service.now.connections.items c.args.at (may (sym c.close_connection.ensures.busy ∙ free)))
