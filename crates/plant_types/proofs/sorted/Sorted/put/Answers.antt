use Rattle.std.proofs.Common.{ap, insert, slice_set, subst, sym, ◌∙◌}
use Rattle.plant_types.{specs.KeyedRows.{IsInOrder}, proofs.public.{KeyedRowLaws.{IsInOrder-put_row}, SortedLaws.{either}}}
use Rattle.plant_types.proofs.sorted.Sorted.put.Goals as goal

pub invariant_of-self : goal.invariant_of-self
invariant_of-self g c =
    let R = g.T.Keyed.order in
    let key = g.T.Keyed.key in
    let order = subst (IsInOrder R key) c.self.view_is c.self.invariant in
    subst (IsInOrder R key) (sym (c.replace_at.ensures ∙ ap (λ l. slice_set l c.in-Ok.place c.args.row) c.self.view_is ∙ c.in-Ok.ensures))
    (IsInOrder-put_row R key g.met.T.Keyed.total g.met.T.Keyed.only c.args.row c.args.self.now order)

pub invariant_of-self-in-Err : goal.invariant_of-self-in-Err
invariant_of-self-in-Err g c =
    let R = g.T.Keyed.order in
    let key = g.T.Keyed.key in
    let rows = c.self.inside.rows in
    let p = c.in-Err.place in
    let order = subst (IsInOrder R key) c.self.view_is c.self.invariant in
    either (IsInOrder R key) c.insert_at.result c.insert_at.new.self (insert rows p c.args.row) rows c.insert_at.ensures.ok c.insert_at.ensures.err
    (subst (IsInOrder R key) (sym (ap (λ l. insert l p c.args.row) c.self.view_is ∙ c.in-Err.ensures))
    (IsInOrder-put_row R key g.met.T.Keyed.total g.met.T.Keyed.only c.args.row c.args.self.now order)) c.self.invariant
