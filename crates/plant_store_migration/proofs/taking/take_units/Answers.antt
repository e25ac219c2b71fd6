use Rattle.std.proofs.{Common.{◌≡◌, ap, sym, subst, ◌∙◌, arith, rules, List, ◌∷◌, [], ◌++◌, take, ◌+◌, false, Less, Ok}, lemmas.List.{map_more}}
use Rattle.sqlite.specs.{Effect.{Database}, Held.{state}, State.{HasCleanDisk}}
use Rattle.sqlite_trees.specs.Tree.{IsAscending}
use Rattle.plant_store_statements.specs.Changes.{Applies}
use Rattle.plant_store_migration.specs.{OldTables.{AreOldBooks}, Upgrading.{AreTakenOver, is_among, puts_all, upgraded_rows}}
use Rattle.plant_store_migration.specs.declared.old_rows.CodeLine.{CodeLine}
use Rattle.plant_store_statements.proofs.public.{ReadsOnly.{reads_then}, StepsInside.{stays_then}}
use Rattle.plant_store_migration.proofs.Upgrades.{codes_rise, not_before, taken_next, units_of}
use Rattle.plant_types.specs.Names.{Name, name_cmp}
use Rattle.plant_store_migration.proofs.taking.take_units.Goals as goal

pub loop-line-preserved : goal.loop-line-preserved
loop-line-preserved g c =
    let had = state g.O.Store c.args.from.now in
    let between = state g.O.Store c.loop-line.from in
    let has = state g.O.Store c.take_unit.new.from in
    let old = state g.N.Store c.args.tx.now.conn.now in
    let mid = state g.N.Store c.loop-line.tx.conn.now in
    let now = state g.N.Store c.take_unit.new.tx.conn.now in
    let early = λ (clean : HasCleanDisk now). let before : HasCleanDisk mid = omega (arith, c.take_unit.ensures.stays.survives.clean) in before in
    record {
      mode = c.take_unit.ensures.mode;
      reads = reads_then c.loop-line.invariant.reads c.take_unit.ensures.reads;
      same_reference = search rules;
      made = λ honest old_books all clean started none.
          let before = c.take_unit.ensures.reads.honest honest in
          let is = c.loop-line.invariant.reads.same before in
          let so_far = c.loop-line.invariant.made before old_books all (early clean) started none in
          let one =
          c.in_ok-take_unit.ensures.made honest (subst AreOldBooks (sym is) old_books) clean
          (c.loop-line.invariant.stays.inside (early clean) started) so_far.0.books in
          let xs = c.args.lines.now in
          let at = c.loop-line.line-index in
          let x : CodeLine = c.line-item.result in
          let here = subst (λ (d : Database). Applies x.unit (puts_all (upgraded_rows x.unit d.trees)) mid.now now.now) is one in
          let up : IsAscending (λ a b. name_cmp a b ≡ Less) (units_of xs) =
          subst (IsAscending (λ a b. name_cmp a b ≡ Less)) (sym all) (codes_rise had.now old_books) in
          let fresh : is_among (units_of (take at xs)) x.unit ≡ false =
          subst (λ (y : CodeLine). is_among (units_of (take at xs)) y.unit ≡ false) (sym c.line-item.is) (not_before xs at x up (omega arith)) in
          let more : units_of (take (at + 1) xs) ≡ units_of (take at xs) ++ x.unit ∷ [] =
          map_more (λ (l : CodeLine). l.unit) xs at x (omega arith)
          ∙ ap (λ (y : CodeLine). units_of (take at xs) ++ y.unit ∷ []) (sym c.line-item.is) in (
            subst (λ (us : List Name). AreTakenOver us had.now.trees now.now) (sym more)
                (taken_next (units_of (take at xs)) x.unit had.now old_books mid.now now.now fresh so_far.0 here),
            here.office ∙ so_far.1,
          );
      stays = stays_then {W = Unit {0}} {result = Ok tt} c.loop-line.invariant.stays c.in_ok-take_unit.ensures.stays;
    }
