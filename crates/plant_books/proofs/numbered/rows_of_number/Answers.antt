use Rattle.std.proofs.{Common.{ap, drop, rules, subst, sym, take, ◌∙◌, ◌≡◌, nat_le, nat_lt}, lemmas.List.Sorted.{IsPartitionPoint-from_clause}}
use Rattle.plant_books.{specs.Numbered.{NumbersRise}, proofs.public.NumberRanges.{Parted, cut_out, parted_below, parted_upto, those_of}}
use Rattle.plant_books.proofs.numbered.rows_of_number.Goals as goal

pub returns : goal.returns
returns g c =
    let matrix = g.T.Numbered.number in
    let n = c.args.number in
    let xs = c.as_slice-all.result.now in
    let is = c.as_slice-all.ensures.value in
    let rise = subst (NumbersRise matrix) (sym is) (g.met.T.Numbered.rises c.args.rows.now c.as_slice-all.ensures.order) in
    let p = c.partition_point.result in
    let e = c.partition_point-2.result in
    let from : c.split_at.result.1.now ≡ drop p xs = c.split_at.ensures.back in
    let low : Parted (λ x. nat_lt (matrix x) n) xs p =
    IsPartitionPoint-from_clause (λ x. nat_lt (matrix x) n) xs p c.partition_point.ensures.partitioned (parted_below matrix n xs rise)
    (λ a r f' k. search rules) in
    let high : Parted (λ x. nat_le (matrix x) n) (drop p xs) e =
    IsPartitionPoint-from_clause (λ x. nat_le (matrix x) n) (drop p xs) e (rw from at c.partition_point-2.ensures.partitioned)
    (parted_upto matrix n p xs rise) (λ a r f' k. search rules) in
    c.split_at-2.ensures.front ∙ ap (take e) from ∙ cut_out matrix n xs p e low high ∙ ap (those_of matrix n) is
