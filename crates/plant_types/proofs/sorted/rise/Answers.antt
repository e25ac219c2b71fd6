use Rattle.std.proofs.{Common.{rules, is_lt}, lemmas.List.Sorted.{answers_always}}
use Rattle.plant_types.proofs.public.SortedLaws.{rise_is_told}
use Rattle.plant_types.proofs.sorted.rise.Goals as goal

pub returns : goal.returns
returns g c =
    let R = g.T.Keyed.order in
    let key = g.T.Keyed.key in
    rise_is_told R key g.met.T.Keyed.total c.args.rows.now c.is_sorted_by.result
    (c.is_sorted_by.ensures.cases (λ x y. is_lt (R (key x) (key y))) (answers_always _ _ _ (λ f a r f' k. search rules)))
