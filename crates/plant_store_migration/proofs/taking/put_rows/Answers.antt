use Rattle.std.proofs.{Common.{◌≡◌, ◌∙◌, ◌++◌, ◌∷◌, [], ap, map, sym, subst, arith, rules, take, List, Ok}, lemmas.List.{map_more, take_all}}
use Rattle.sqlite.specs.{Held.{state}, State.{HasCleanDisk}}
use Rattle.plant_model.specs.declared.rows.RowEdit.{RowEdit, TheVariants.{Put}}
use Rattle.plant_store_statements.{specs.Changes.{Applies}, proofs.public.{StepsInside.{stays_then}, Writes.{applies_then}}}
use Rattle.plant_store_migration.proofs.taking.put_rows.Goals as goal

pub loop-row-preserved : goal.loop-row-preserved
loop-row-preserved g c =
    let old = state g.N.Store c.args.tx.now.conn.now in
    let mid = state g.N.Store c.loop-row.tx.conn.now in
    let now = state g.N.Store c.put.new.tx.conn.now in
    let early = λ (clean : HasCleanDisk now). let before : HasCleanDisk mid = omega (arith, c.put.ensures.stays.survives.clean) in before in
    record {
      same_reference = search rules;
      made = λ clean started books.
          let so_far = c.loop-row.invariant.made (early clean) started books in
          let one = c.in_ok-put.ensures.made clean (c.loop-row.invariant.stays.inside (early clean) started) so_far.books in
          let xs = c.args.rows.now in
          let at = c.loop-row.row-index in
          let more = map_more (λ r. Put (g.T.OldRow.becomes r)) xs at c.row-item.result (omega arith)
          ∙ ap (λ r. map (λ r. Put (g.T.OldRow.becomes r)) (take at xs) ++ Put (g.T.OldRow.becomes r) ∷ []) (sym c.row-item.is) in
          subst (λ (l : List RowEdit). Applies c.args.unit.now l old.now now.now) (sym more)
          (applies_then c.args.unit.now _ _ old.now mid.now now.now so_far one);
      stays = stays_then {W = Unit {0}} {result = Ok tt} c.loop-row.invariant.stays c.in_ok-put.ensures.stays;
    }

pub returns-clause-made : goal.returns-clause-made
returns-clause-made g c clean started books =
    let so_far = c.loop-row.invariant.made clean started books in
    let whole : take c.loop-row.row-index c.args.rows.now ≡ c.args.rows.now = take_all c.loop-row.row-index c.args.rows.now (omega arith) in
    rw whole at so_far
