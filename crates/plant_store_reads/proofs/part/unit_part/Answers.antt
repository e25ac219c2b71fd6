use Rattle.std.proofs.Common.{◌≡◌, ap, sym, ◌∙◌, true, false, filter, rules}
use Rattle.sqlite.specs.{Effect.{Database}, Held.{state}}
use Rattle.plant_model.specs.declared.rows.GrantRow.{GrantRow}
use Rattle.plant_model.specs.steps.RowFacts.{holds_by}
use Rattle.plant_types.specs.Names.{same_name}
use Rattle.plant_store_statements.{specs.Keeping.{has_any}, proofs.public.ReadsOnly.{begins, goes_on, reads_then}}
use Rattle.plant_store_reads.proofs.Selected.{holder_found, no_part, stranger_found}
use Rattle.plant_store_statements.proofs.public.Contents.{keeps_same}
use Rattle.plant_store_columns.specs.{Tables.{rows_seen}, declared.tables.TableKind.TheVariants.{Units, Grants}}
use Rattle.plant_store_reads.proofs.part.unit_part.Goals as goal

pub returns-then-not-has_row-clause-found : goal.returns-then-not-has_row-clause-found
returns-then-not-has_row-clause-found g c honest m k =
    no_part (state g.S.Store c.args.conn.now) m c.args.unit.now k c.args.call.now c.in_ok-units.units (c.in_ok-units.ensures.rows honest.0 k.books)
    (search rules)

pub returns-then-not-holds_some_by-clause-found : goal.returns-then-not-holds_some_by-clause-found
returns-then-not-holds_some_by-clause-found g c honest m k =
    let u = c.args.unit.now in
    let call = c.args.call.now in
    let old = state g.S.Store c.args.conn.now in
    let t1 = c.own_grants.ensures.reads.honest honest in
    let r1 = goes_on c.all_rows.ensures.reads t1 (begins k.books) in
    let any : has_any c.in_ok-units.units ≡ true = search rules in
    let none : holds_by c.in_ok-own.own call.moment call.person ≡ false = search rules in
    stranger_found old m u k call c.in_ok-units.units (c.in_ok-units.ensures.rows t1.0 k.books) any
    c.in_ok-own.own (c.in_ok-own.ensures.rows honest.0 r1.books
    ∙ ap (λ (d : Database). filter (λ (g : GrantRow). same_name call.person g.person) (rows_seen u d.trees Grants)) r1.now) none
    c.part_of_grants.result c.part_of_grants.ensures.rows c.part_of_grants.ensures.count c.part_of_grants.ensures.held

pub returns-clause-found : goal.returns-clause-found
returns-clause-found g c honest m k =
    let u = c.args.unit.now in
    let call = c.args.call.now in
    let old = state g.S.Store c.args.conn.now in
    let t2 = c.holders_part.ensures.reads.honest honest in
    let t1 = c.own_grants.ensures.reads.honest t2 in
    let r1 = goes_on c.all_rows.ensures.reads t1 (begins k.books) in
    let r2 = goes_on c.own_grants.ensures.reads t2 r1 in
    let any : has_any c.in_ok-units.units ≡ true = search rules in
    let some : holds_by c.in_ok-own.own call.moment call.person ≡ true = search rules in
    let units = c.in_ok-units.ensures.rows t1.0 k.books in
    let own = c.in_ok-own.ensures.rows t2.0 r1.books
    ∙ ap (λ (d : Database). filter (λ (g : GrantRow). same_name call.person g.person) (rows_seen u d.trees Grants)) r1.now in
    let part = c.in_ok-part.ensures.found honest m (keeps_same old (state g.S.Store c.own_grants.new.conn) m k r2.now)
    (units ∙ ap (λ (d : Database). rows_seen u d.trees Units) (sym r2.now))
    (own ∙ ap (λ (d : Database). filter (λ (g : GrantRow). same_name call.person g.person) (rows_seen u d.trees Grants)) (sym r2.now)) in
    holder_found old m u k call c.in_ok-units.units units any c.in_ok-own.own own some c.in_ok-part.part part

pub returns-clause-reads : goal.returns-clause-reads
returns-clause-reads g c = reads_then (reads_then c.all_rows.ensures.reads c.own_grants.ensures.reads) c.holders_part.ensures.reads
