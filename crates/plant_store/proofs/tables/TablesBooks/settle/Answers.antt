use Rattle.std.proofs.Common.{IsTrue, ap, not, ◌∙◌}
use Rattle.plant_store.proofs.public.Leaving.{is_settled}
use Rattle.plant_store.proofs.tables.TablesBooks.settle.Goals as goal

pub returns : goal.returns
returns g c =
    let quiet : IsTrue c.is_autocommit-settled.result = c.is_autocommit-settled.ensures.value ∙ ap not c.self.invariant.0 in
    rw (← c.self.view_is)
    (is_settled g.S.Store _ (λ db is_open may. g.met.S.Store.settled c.self.inside.conn.store db is_open may)
    (c.is_autocommit-settled.ensures.settled quiet) c.schema-live.ensures.live)
