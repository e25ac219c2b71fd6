use Rattle.std.proofs.{Common.{rules, is_lt, subst, sym}, lemmas.List.Sorted.{IsPartitionPoint-from_clause}}
use Rattle.plant_types.{specs.KeyedRows.{IsInOrder, IsPlace}, proofs.public.SortedLaws.{parted}}
use Rattle.plant_types.proofs.sorted.Sorted.place.Goals as goal

pub returns-clause-place : goal.returns-clause-place
returns-clause-place g c =
    let R = g.T.Keyed.order in
    let key = g.T.Keyed.key in
    let k = c.args.key.now in
    let rows = c.as_slice-rows.result.now in
    let is = c.as_slice-rows.ensures.value in
    let part : IsPlace R key k rows c.partition_point.result =
    IsPartitionPoint-from_clause (λ x. is_lt (R (key x) k)) rows c.partition_point.result c.partition_point.ensures.partitioned
    (parted R key g.met.T.Keyed.total rows k (subst (IsInOrder R key) (sym is) c.as_slice-rows.ensures.order)) (λ a r f' k. search rules) in
    subst (λ l. IsPlace R key k l c.partition_point.result) is part
