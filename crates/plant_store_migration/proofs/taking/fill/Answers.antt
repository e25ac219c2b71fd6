use Rattle.std.proofs.Common.{◌≡◌, ap, arith, sym, subst, ◌∙◌}
use Rattle.sqlite.specs.{Effect.{Database}, Held.{state}, State.{HasCleanDisk}}
use Rattle.plant_store_migration.{specs.{OldTables.{AreOldBooks}, Upgrading.{AreTakenOver, old_codes}}, proofs.Upgrades.{none_taken, units_of}}
use Rattle.plant_store_statements.proofs.public.Writes.{on_ok}
use Rattle.plant_store_migration.proofs.taking.fill.Goals as goal

pub returns-clause-made : goal.returns-clause-made
returns-clause-made g c honest clean started blank books =
    let before = (state g.O.Store c.args.from.now).now in
    let between = (state g.O.Store c.old_codes_of.new.conn).now in
    let made = state g.N.Store c.make_tables.new.tx.conn.now in
    let new = (state g.N.Store c.take_units.new.tx.conn.now).now in
    let known = c.take_units.ensures.reads.honest honest in
    let same : between ≡ before = c.old_codes_of.ensures.reads.same known in
    let clean_made : HasCleanDisk made = omega (arith, c.take_units.ensures.stays.survives.clean) in
    let empty = c.in_ok-make_tables.ensures.made clean_made started blank in
    let inside = c.in_ok-make_tables.ensures.stays.inside clean_made started in
    let lines : units_of c.as_slice.result.now ≡ old_codes between.trees = ap units_of c.as_slice.ensures
    ∙ c.in_ok-lines.ensures.rows known.0 books ∙ ap (λ (d : Database). old_codes d.trees) (sym same) in
    on_ok c.take_units.result
    (λ it.
    let taken = subst (λ (d : Database). AreTakenOver (old_codes d.trees) d.trees new) same it.0 in
    record { taken = taken; office = it.1 ∙ empty.office })
    (c.take_units.ensures.made honest (subst AreOldBooks (sym same) books) lines clean inside
    (none_taken c.args.admin.now between.trees made.now empty))
