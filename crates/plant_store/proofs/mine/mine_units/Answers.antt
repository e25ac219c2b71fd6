use Rattle.std.proofs.Common.{◌∙◌, ap}
use Rattle.sqlite.specs.Held.{state}
use Rattle.plant_store.{specs.Mine.{runs_of, standing_units}, proofs.MineLines.{units_found}}
use Rattle.plant_store_statements.proofs.public.Queries.{if_ok}
use Rattle.plant_store.proofs.mine.mine_units.Goals as goal

pub returns-clause-found : goal.returns-clause-found
returns-clause-found g c honest m k =
    let t = c.args.now in
    let found = c.as_slice.ensures ∙ c.in_ok-lines.ensures.found honest m k in
    if_ok c.group.result (λ units h. h ∙ ap (λ ls. runs_of (standing_units t ls)) found
    ∙ units_found t c.args.person.now m (state g.S.Store c.args.conn.now) k) c.group.ensures
