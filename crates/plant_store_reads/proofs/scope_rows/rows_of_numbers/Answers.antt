use Rattle.std.proofs.lemmas.List.{append-nil}
use Rattle.std.proofs.Common.{Err, Ok, OnOk, Result, [], ap, append_assoc, arith, filter, refl, rules, subst, sym, ◌++◌, ◌∙◌, ◌∷◌, ◌≡◌}
use Rattle.sqlite.specs.{Held.{state}, State.{HasCleanDisk}}
use Rattle.plant_books.proofs.public.NumberRanges.{goes_on, of_none, those_among, those_of}
use Rattle.plant_store_columns.specs.Tables.{AreBooks}
use Rattle.plant_store_reads.proofs.NumberLaws.{other_way}
use Rattle.plant_store_statements.proofs.public.{Queries.{if_ok}, ReadsOnly.{reads_then}}
use Rattle.plant_store_reads.proofs.scope_rows.rows_of_numbers.Goals as goal

pub loop-number-init : goal.loop-number-init
loop-number-init g c =
    let all = g.T.Stored.seen c.args.unit.now (state g.S.Store c.args.conn.now).now.trees in
    record {
      mode = search rules;
      rows = ([], refl, λ honest books rise. c.new-rows.ensures.items ∙ sym (of_none g.T.Numbered.number all));
      reads = search rules;
      stays_open = λ clean up. up;
    }

pub loop-number-preserved : goal.loop-number-preserved
loop-number-preserved g c =
    let old = state g.S.Store c.args.conn.now in
    let number = g.T.Numbered.number in
    let seen = g.T.Stored.seen c.args.unit.now in
    let so = c.loop-number.invariant.rows in
    let before = so.0 in
    let n = c.in-Some.number.now in
    let from = c.into_iter-number-iterator.ensures.into_iter_gives in
    let cut : before ++ n ∷ c.next.new.self ≡ c.into_iter-number-iterator.result = ap (λ l. before ++ l) (sym c.in-Some.ensures.steps) ∙ so.1 in
    record {
      mode = c.rows_of_number.ensures.mode;
      rows = (
        before ++ n ∷ [],
        append_assoc before (n ∷ []) c.next.new.self ∙ cut,
        λ honest books rise.
            let early = c.rows_of_number.ensures.reads.honest honest in
            let same = c.loop-number.invariant.reads.same early in
            let these : c.in_ok-read.read ≡ those_of number n (seen old.now.trees) =
            c.in_ok-read.ensures.rows honest.0 (subst AreBooks (sym same) books)
            ∙ (λ i. filter (λ r. other_way n (number r) i) (seen (same i).trees)) in
            c.in_ok-append.ensures
            ∙ goes_on number (seen old.now.trees) c.args.numbers.now.keys before c.next.new.self n c.into_list.result c.loop-number.rows.items from.4
            (cut ∙ from.0) rise (so.2 early books rise) (c.into_list.ensures.value ∙ these),
      );
      reads = reads_then c.loop-number.invariant.reads c.rows_of_number.ensures.reads;
      stays_open = λ clean up.
          let early : HasCleanDisk (state g.S.Store c.loop-number.conn) = omega (arith, clean, c.rows_of_number.ensures.reads.quiet.clean) in
          c.in_ok-read.ensures.open clean (c.loop-number.invariant.stays_open early up);
    }

pub returns-clause-rows : goal.returns-clause-rows
returns-clause-rows g c honest books rise =
    let all = g.T.Stored.seen c.args.unit.now (state g.S.Store c.args.conn.now).now.trees in
    let so = c.loop-number.invariant.rows in
    let keys = sym (append-nil so.0) ∙ ap (λ l. so.0 ++ l) (sym c.in-None.ensures.steps.0) ∙ so.1
    ∙ c.into_iter-number-iterator.ensures.into_iter_gives.0 in
    if_ok c.in_order.result (λ sorted h. h ∙ c.from_vec.ensures ∙ so.2 honest books rise ∙ ap (λ ks. those_among g.T.Numbered.number ks all) keys)
    c.in_order.ensures.value

pub returns-in_err-append-clause-reads : goal.returns-in_err-append-clause-reads
returns-in_err-append-clause-reads g c = reads_then c.loop-number.invariant.reads c.rows_of_number.ensures.reads

-- what holds anyway holds of a success
anyway : {X E P : Type 0} (said : Result X E) → P → OnOk said P
anyway (Ok found) p = p
anyway (Err e) p = tt

pub returns-clause-open : goal.returns-clause-open
returns-clause-open g c clean up = anyway c.in_order.result (c.loop-number.invariant.stays_open clean up)
