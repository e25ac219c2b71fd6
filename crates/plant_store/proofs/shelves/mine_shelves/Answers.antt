use Rattle.std.proofs.Common.{◌∙◌, ap, map}
use Rattle.std.specs.List.{dedup}
use Rattle.sqlite.specs.Held.{state}
use Rattle.plant_store.specs.Mine.{as_mine, repeats, standing_shelves}
use Rattle.plant_store.proofs.MineLines.{shelves_found}
use Rattle.plant_store_statements.proofs.public.Queries.{if_ok}
use Rattle.plant_store.proofs.shelves.mine_shelves.Goals as goal

pub returns-clause-found : goal.returns-clause-found
returns-clause-found g c honest m k =
    let t = c.args.now in
    let merged = c.merge.ensures ∙ ap (λ ls. dedup repeats (standing_shelves t ls)) (c.in_ok-lines.ensures.found honest m k) in
    if_ok c.mine_rows.result
    (λ mine h. h ∙ ap (map as_mine) merged ∙ shelves_found t c.args.person.now m (state g.S.Store c.args.conn.now) k)
    c.mine_rows.ensures
