use Rattle.plant_store.proofs.opening.note_settled.Goals as goal

pub returns : goal.returns
returns g c db is_open may = g.met.S.Store.settled c.args.conn.now.store db is_open may
