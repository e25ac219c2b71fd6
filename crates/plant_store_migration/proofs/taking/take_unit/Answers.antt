use Rattle.plant_store_columns.specs.declared.tables.TableKind.TheVariants.{Units, Grants, Alarms, Shelves, Bands, Cells, Events, Records, Changes}
use Rattle.plant_model.specs.declared.rows.{GrantRow.{GrantRow}, Row.TheVariants.{Grant as GrantPut, Unit as UnitPut}}
use Rattle.plant_model.specs.declared.rows.{RowEdit.TheVariants.{Put}, UnitRow.{UnitRow}}
use Rattle.plant_store_migration.specs.{OldTables.{old_rows}, Upgrading.{puts_of, upgraded_grant, upgraded_rows, upgraded_unit}}
use Rattle.plant_store_migration.proofs.Takings.{took, took_as, took_last, took_then}
use Rattle.plant_store_migration.proofs.taking.take_unit.Goals as goal

pub returns-clause-made : goal.returns-clause-made
returns-clause-made g c honest old_books clean started books =
    let u = c.args.unit.now in
    let t1 = took_as (λ (r : UnitRow). Put (UnitPut r)) upgraded_unit (λ trees. old_rows u trees Units) c.take_rows.ensures.reads
    c.in_ok-take_rows.ensures.stays c.in_ok-take_rows.ensures.made in
    let t2 = took_as (λ (r : GrantRow). Put (GrantPut r)) upgraded_grant (λ trees. old_rows u trees Grants) c.take_rows-2.ensures.reads
    c.in_ok-take_rows-2.ensures.stays c.in_ok-take_rows-2.ensures.made in
    let t3 = took (λ trees. puts_of (upgraded_rows u trees) Alarms) c.take_rows-3.ensures.reads c.in_ok-take_rows-3.ensures.stays
    c.in_ok-take_rows-3.ensures.made in
    let t4 = took (λ trees. puts_of (upgraded_rows u trees) Shelves) c.take_rows-4.ensures.reads c.in_ok-take_rows-4.ensures.stays
    c.in_ok-take_rows-4.ensures.made in
    let t5 = took (λ trees. puts_of (upgraded_rows u trees) Bands) c.take_rows-5.ensures.reads c.in_ok-take_rows-5.ensures.stays
    c.in_ok-take_rows-5.ensures.made in
    let t6 = took (λ trees. puts_of (upgraded_rows u trees) Cells) c.take_rows-6.ensures.reads c.in_ok-take_rows-6.ensures.stays
    c.in_ok-take_rows-6.ensures.made in
    let t7 = took (λ trees. puts_of (upgraded_rows u trees) Events) c.take_rows-7.ensures.reads c.in_ok-take_rows-7.ensures.stays
    c.in_ok-take_rows-7.ensures.made in
    let t8 = took (λ trees. puts_of (upgraded_rows u trees) Records) c.take_rows-8.ensures.reads c.in_ok-take_rows-8.ensures.stays
    c.in_ok-take_rows-8.ensures.made in
    let t9 = took (λ trees. puts_of (upgraded_rows u trees) Changes) c.take_rows-9.ensures.reads c.in_ok-take_rows-9.ensures.stays
    c.in_ok-take_rows-9.ensures.made in
    (took_then t1 (took_then t2 (took_then t3 (took_then t4 (took_then t5 (took_then t6 (took_then t7 (took_then t8 (took_last t9))))))))).made honest
    old_books clean started books
