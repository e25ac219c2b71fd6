use Rattle.std.proofs.{Common.{rules, ◌∙◌, is_lt}, lemmas.{Fn.{always_returns_same}, List.Sorted.{ranks_by}}}
use Rattle.sqlite.specs.Held.{state}
use Rattle.plant_store.specs.{Mine.{line_cmp}, declared.shelves.ShelfGrant.{ShelfGrant}}
use Rattle.plant_store_statements.proofs.public.ReadsOnly.{reads_plain}
use Rattle.plant_store.proofs.{JoinMeanings.{shelf_lines}, JoinedLines.{shelves_read}, LineOrder.{line_cmp_total, one_order}}
use Rattle.plant_store.proofs.shelves.shelf_lines.Goals as goal

pub returns-clause-found : goal.returns-clause-found
returns-clause-found g c honest m k =
    let before = state g.S.Store c.args.conn.now in
    let p = c.args.person.now in
    let it = c.in_ok-found.ensures.rows honest.0 in
    let read = shelves_read before m k p (state g.S.Store c.read_rows.new.conn) it.0 (rw c.single.ensures at it.1.0) c.in_ok-found.found it.1.1 in
    let sorted =
    c.in_ok-sort_by.ensures.sorted (λ a b. is_lt (line_cmp a b)) (ranks_by line_cmp_total (λ (l : ShelfGrant). l))
    (always_returns_same _ _ _ (λ a r f k. search rules)) in
    c.from_vec.ensures ∙ one_order before m k p c.in_ok-found.found _ read (rw c.into_vec-lines.ensures at c.sort_by.ensures.permutation) sorted

pub returns-in_err-found-clause-reads : goal.returns-in_err-found-clause-reads
returns-in_err-found-clause-reads g c =
    reads_plain _ shelf_lines.plain c.read_rows.ensures.same c.read_rows.ensures.honest _ c.read_rows.ensures.shows

pub returns-in_err-sort_by-clause-reads : goal.returns-in_err-sort_by-clause-reads
returns-in_err-sort_by-clause-reads g c =
    reads_plain _ shelf_lines.plain c.read_rows.ensures.same c.read_rows.ensures.honest _ c.read_rows.ensures.shows

pub returns-clause-reads : goal.returns-clause-reads
returns-clause-reads g c = reads_plain _ shelf_lines.plain c.read_rows.ensures.same c.read_rows.ensures.honest _ c.read_rows.ensures.shows
