use Rattle.std.proofs.Common.{length, rules, sym, true, ◌≡◌, is_lt, subst}
use Rattle.std.proofs.lemmas.{List.Sorted.{IsPartitionPoint-from_clause}}
use Rattle.plant_types.specs.KeyedRows.{IsInOrder, IsPlace}
use Rattle.plant_types.proofs.public.SortedLaws.{behind_last, parted}
use Rattle.plant_types.proofs.sorted.Sorted.place_from.Goals as goal

pub returns-in-Some-clause-place : goal.returns-in-Some-clause-place
returns-in-Some-clause-place g c =
    let R = g.T.Keyed.order in
    let key = g.T.Keyed.key in
    let rows = c.as_slice-rows.result.now in
    let is = c.as_slice-rows.ensures.value in
    let r = c.in-Some.last.now in
    let less : is_lt (R (key r) (key c.args.row.now)) ≡ true = search rules in
    subst (λ l. IsPlace R key (key c.args.row.now) l (length rows)) is
    (behind_last R key g.met.T.Keyed.total rows (key c.args.row.now) r (subst (IsInOrder R key) (sym is) c.as_slice-rows.ensures.order)
    (search rules) less)

pub returns-in_default-clause-place : goal.returns-in_default-clause-place
returns-in_default-clause-place g c =
    let R = g.T.Keyed.order in
    let key = g.T.Keyed.key in
    let row = c.args.row.now in
    let p = c.partition_point.result in
    let rows = c.as_slice-rows.result.now in
    let is = c.as_slice-rows.ensures.value in
    let part : IsPlace R key (key row) rows p =
    IsPartitionPoint-from_clause (λ x. is_lt (R (key x) (key row))) rows p c.partition_point.ensures.partitioned
    (parted R key g.met.T.Keyed.total rows (key row) (subst (IsInOrder R key) (sym is) c.as_slice-rows.ensures.order)) (λ a r f' k. search rules) in
    subst (λ l. IsPlace R key (key row) l p) is part
