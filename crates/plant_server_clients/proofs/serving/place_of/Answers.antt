use Rattle.std.proofs.{Common.{ap, refl, sym, length, ◌∙◌}, lemmas.Option.{slice_get_read}}
use Rattle.plant_server_clients.specs.declared.connections.Connection.{Connection}
use Rattle.plant_server_clients.proofs.Numbers.{unnumbered_next}
use Rattle.plant_server_clients.proofs.serving.place_of.Goals as goal

pub connections-preserved : goal.connections-preserved
connections-preserved c =
    let ls = c.args.connections.now in
    let is = slice_get_read ls (length ls) c.connections.at c.index-connections-at.result refl c.connections-test.true c.index-connections-at.is in
    unnumbered_next c.args.number ls c.connections.at c.index-connections-at.result is c.connections.invariant
    (λ named. c.if-connections-at.false (ap (λ (l : Connection). l.number) (sym c.index-connections-at.is) ∙ named))
