use Rattle.std.proofs.Common.{sym, ap, slice_get, ◌∙◌, option_copied}
use Rattle.sqlite.specs.Held.{state}
use Rattle.plant_store_reads.proofs.Lasts.{last_came, no_last_came}
use Rattle.plant_store_statements.proofs.public.{Meanings.{last_change}, Queries.{if_ok}, ReadsOnly.{reads_plain}}
use Rattle.plant_store_reads.proofs.queries.last_change_number.Goals as goal

pub returns-in-Some-clause-rows : goal.returns-in-Some-clause-rows
returns-in-Some-clause-rows g c clean books =
    let shown = rw c.single.ensures at (c.in_ok-rows.ensures.rows clean) in
    let first = sym (ap option_copied c.in-Some.is) ∙ c.first.ensures.value ∙ ap (λ l. slice_get l 0) c.as_slice.ensures.value in
    if_ok c.number.result
    (λ n at. last_came c.args.unit.now (state g.S.Store c.args.conn.now) (state g.S.Store c.ask.new.conn) books c.in_ok-rows.rows.items shown
    c.in-Some.row.now first n at) c.number.ensures.value

pub returns-clause-rows : goal.returns-clause-rows
returns-clause-rows g c clean books =
    let shown = rw c.single.ensures at (c.in_ok-rows.ensures.rows clean) in
    let none = sym (ap option_copied c.in-None.is) ∙ c.first.ensures.value ∙ ap (λ l. slice_get l 0) c.as_slice.ensures.value in
    no_last_came c.args.unit.now (state g.S.Store c.args.conn.now) (state g.S.Store c.ask.new.conn) books c.in_ok-rows.rows.items shown none

pub returns-in_err-rows-clause-reads : goal.returns-in_err-rows-clause-reads
returns-in_err-rows-clause-reads g c = reads_plain _ last_change.plain c.ask.ensures.same c.ask.ensures.honest _ c.ask.ensures.shows

pub returns-in-Some-clause-reads : goal.returns-in-Some-clause-reads
returns-in-Some-clause-reads g c = reads_plain _ last_change.plain c.ask.ensures.same c.ask.ensures.honest _ c.ask.ensures.shows

pub returns-clause-reads : goal.returns-clause-reads
returns-clause-reads g c = reads_plain _ last_change.plain c.ask.ensures.same c.ask.ensures.honest _ c.ask.ensures.shows
