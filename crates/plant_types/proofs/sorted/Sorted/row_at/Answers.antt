use Rattle.std.proofs.Common.{None, Some, ap, false, rules, slice_get, sym, true, ◌∙◌, ◌≡◌}
use Rattle.std.specs.{Option.{is_some}, Ordering.{eq_by_cmp}}
use Rattle.plant_types.proofs.public.SortedLaws.{get_none, get_some, none_found, one_found, ordered, other_found}
use Rattle.plant_types.proofs.sorted.Sorted.row_at.Goals.{in_default-via-in-Some+else-is_eq, in_default-via-in_default}
use Rattle.plant_types.proofs.sorted.Sorted.row_at.Goals as goal

pub returns-in-Some : goal.returns-in-Some
returns-in-Some g c =
    let R = g.T.Keyed.order in
    let key = g.T.Keyed.key in
    let rows = c.args.self.now in
    let p = c.args.place in
    let there : slice_get rows p ≡ Some c.in-Some.row.now =
    ap (λ l. slice_get l p) (sym c.as_slice.ensures.value)
    ∙ sym (get_some c.as_slice.result.now p c.in-Some.row.now c.in-Some.ensures.lookup.0 c.in-Some.ensures.lookup.1) in
    let same : eq_by_cmp R (key c.in-Some.row.now) c.args.key.now ≡ true = search rules in
    one_found R key g.met.T.Keyed.total rows c.args.key.now p (ordered R key rows c.as_slice.ensures.order) c.requires c.in-Some.row.now there same

pub returns-in_default : goal.returns-in_default
returns-in_default g c =
    let R = g.T.Keyed.order in
    let key = g.T.Keyed.key in
    let k = c.args.key.now in
    let p = c.args.place in
    let rows = c.args.self.now in
    let is = c.as_slice.ensures.value in
    let order = ordered R key rows c.as_slice.ensures.order in
    elim c.in_default.branch [
      | in_default-via-in-Some+else-is_eq w ↦
          let there : slice_get rows p ≡ Some w.in-Some.row.now =
          ap (λ l. slice_get l p) (sym is)
          ∙ sym (get_some c.as_slice.result.now p w.in-Some.row.now w.in-Some.ensures.lookup.0 w.in-Some.ensures.lookup.1) in
          let other : eq_by_cmp R (key w.in-Some.row.now) k ≡ false = search rules in
          other_found R key g.met.T.Keyed.total rows k p order c.requires w.in-Some.row.now there other
      | in_default-via-in_default w ↦
          let none : slice_get rows p ≡ None =
          ap (λ l. slice_get l p) (sym is)
          ∙ sym (get_none c.as_slice.result.now p (sym (sym c.get.ensures.lookup.0 ∙ ap is_some w.in_default.is))) in
          none_found R key g.met.T.Keyed.total rows k p order c.requires none
    ]
