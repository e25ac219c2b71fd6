use Rattle.std.{specs.List.{slice_get}, proofs.Common.{◌≡◌, ap, filter, rules, subst, sym, ◌||◌, ◌∙◌}}
use Rattle.sqlite.specs.{Effect.{Database}, Held.{state}}
use Rattle.plant_books.specs.Contents.{rows_in}
use Rattle.plant_model.specs.Histories.{same_number}
use Rattle.plant_model.specs.steps.{Parts.{Selection, rows_selected, selected}, Scopes.{IsSeenIn, selection_by}}
use Rattle.plant_model.specs.declared.rows.{ChangeEntry.{ChangeEntry}, GrantRow.{GrantRow}}
use Rattle.plant_types.specs.Names.{same_name}
use Rattle.plant_store_columns.specs.{Tables.{rows_seen}, declared.tables.TableKind.TheVariants.{Units, Grants, Shelves, Changes}}
use Rattle.plant_store_statements.proofs.public.{Contents.{keeps_same}, ReadsOnly.{begins, goes_on, reads_then}}
use Rattle.plant_store_reads.proofs.Selected.{approved_found, seen_grants}
use Rattle.plant_store_reads.proofs.part.holders_part.Goals as goal

pub returns-clause-found : goal.returns-clause-found
returns-clause-found g c honest m k units own =
    let u = c.args.unit.now in
    let call = c.args.call.now in
    let old = state g.S.Store c.args.conn.now in
    let t3 = c.part_in_scope.ensures.reads.honest honest in
    let t2 = c.some_grants.ensures.reads.honest t3 in
    let t1 = c.approved_for.ensures.reads.honest t2 in
    let r1 = goes_on c.crowded_for.ensures.reads t1 (begins k.books) in
    let r2 = goes_on c.approved_for.ensures.reads t2 r1 in
    let r3 = goes_on c.some_grants.ensures.reads t3 r2 in
    let all = rows_in m u in
    let seen : IsSeenIn all call.request c.in_ok-crowded.crowded (slice_get c.in_ok-approved.approved 0) = record {
      crowding = c.in_ok-crowded.ensures.rows t1.0 k.books all (sym (units ∙ k.seen u Units)) (sym (k.seen u Shelves));
      found = λ n is. approved_found old m u k n c.in_ok-approved.approved (c.in_ok-approved.ensures.rows t2.0 r1.books n is
          ∙ ap (λ (d : Database). filter (λ (r : ChangeEntry). same_number n r.number) (rows_seen u d.trees Changes)) r1.now);
    } in
    let chosen = selection_by all c.scope_of-scope.result in
    let is : chosen ≡ selected all call.request =
    c.scope_of-scope.ensures all (subst (IsSeenIn all call.request c.in_ok-crowded.crowded) (sym (search rules)) seen) in
    let grants = c.in_ok-grants.ensures.rows t3.0 r2.books call.person (own
    ∙ ap (λ (d : Database). filter (λ (g : GrantRow). same_name call.person g.person) (rows_seen u d.trees Grants)) (sym r2.now))
    ∙ ap (λ (d : Database). filter (λ (g : GrantRow). same_name call.person g.person || c.wants_all_grants-all.result) (rows_seen u d.trees Grants)) r2.now
    ∙ seen_grants old m u k call chosen c.wants_all_grants-all.result (c.wants_all_grants-all.ensures all)
    ∙ ap (λ (s : Selection). (rows_selected call.person s all).grants) is in
    c.part_in_scope.ensures.found honest m (keeps_same old (state g.S.Store c.some_grants.new.conn) m k r3.now) is (units ∙ k.seen u Units) grants

pub returns-clause-reads : goal.returns-clause-reads
returns-clause-reads g c =
    reads_then (reads_then (reads_then c.crowded_for.ensures.reads c.approved_for.ensures.reads) c.some_grants.ensures.reads)
    c.part_in_scope.ensures.reads
