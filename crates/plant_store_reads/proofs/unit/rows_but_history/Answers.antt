use Rattle.std.proofs.Common.{Some, ap, option_map, rules, sym, true, ◌∙◌, ◌≡◌}
use Rattle.sqlite.specs.Held.{state}
use Rattle.plant_books.specs.Contents.{rows_in, without_history}
use Rattle.plant_store_columns.specs.declared.tables.TableKind.TheVariants.{Units}
use Rattle.plant_store_statements.specs.Keeping.{has_any}
use Rattle.plant_store_statements.proofs.public.{ReadsOnly.{begins, goes_on}, Contents.{keeps_same, kept_rows, none_found}}
use Rattle.plant_store_reads.proofs.unit.rows_but_history.Goals as goal

pub returns-then-not-has_row-clause-found : goal.returns-then-not-has_row-clause-found
returns-then-not-has_row-clause-found g c honest m k =
    ap (option_map without_history)
    (none_found (state g.S.Store c.args.conn.now) m c.args.unit.now k c.in_ok-units.units (c.in_ok-units.ensures.rows honest.0 k.books)
    (search rules))

pub returns-clause-found : goal.returns-clause-found
returns-clause-found g c honest m k =
    let u = c.args.unit.now in
    let old = state g.S.Store c.args.conn.now in
    let t1 = c.read_standing.ensures.reads.honest honest in
    let r1 = goes_on c.all_rows.ensures.reads t1 (begins k.books) in
    let k1 = keeps_same old (state g.S.Store c.all_rows.new.conn) m k r1.now in
    let read = c.in_ok-units.ensures.rows t1.0 k.books in
    let any : has_any c.in_ok-units.units ≡ true = search rules in
    let whole = c.in_ok-read_standing.ensures.found honest m k1
    ∙ (λ i. record (c.none-rows.ensures i) {
      units = (read ∙ k.seen u Units) i;
      grants = (rows_in m u).grants;
      alarms = (rows_in m u).alarms;
      shelves = (rows_in m u).shelves;
      records = (rows_in m u).records;
    }) in
    ap Some whole ∙ ap (option_map without_history) (sym (kept_rows old m u k (ap has_any (sym read) ∙ any)))
