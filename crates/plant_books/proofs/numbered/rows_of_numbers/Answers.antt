use Rattle.std.proofs.{Common.{[], ap, append_assoc, subst, sym, ◌++◌, ◌∙◌, ◌∷◌, ◌≡◌}}
use Rattle.plant_books.{proofs.public.NumberRanges.{goes_on}}
use Rattle.plant_types.{specs.KeyedRows.{IsInOrder}, proofs.public.SortedLaws.{in_order_some}}
use Rattle.plant_books.proofs.NumbersAmong.{among}
use Rattle.plant_books.proofs.numbered.rows_of_numbers.Goals as goal

pub loop-number-preserved : goal.loop-number-preserved
loop-number-preserved g c =
    let so = c.loop-number.invariant in
    let before = so.0 in
    let n = c.in-Some.number.now in
    let xs = c.args.rows.now in
    let all = c.into_iter-number-iterator.ensures.into_iter_gives in
    let cut : before ++ n ∷ c.next.new.self ≡ c.into_iter-number-iterator.result = ap (λ l. before ++ l) (sym c.in-Some.ensures.steps) ∙ so.1 in (
      before ++ n ∷ [],
      append_assoc before (n ∷ []) c.next.new.self ∙ cut,
      c.in_ok-push_all.ensures.ok
          ∙ goes_on g.T.Numbered.number xs c.args.numbers.now.keys before c.next.new.self n c.rows_of_number.result.now c.loop-number.found all.4 (cut
          ∙ all.0) (g.met.T.Numbered.rises xs c.as_slice-rows.ensures.order) so.2 c.rows_of_number.ensures,
    )

pub of-requires : goal.of-requires
of-requires g c =
    let R = g.T.Keyed.order in
    let key = g.T.Keyed.key in
    let so = c.loop-number.invariant in
    subst (IsInOrder R key) (sym so.2)
    (in_order_some R key (λ x. among so.0 (g.T.Numbered.number x)) c.args.rows.now c.as_slice-rows.ensures.order)
