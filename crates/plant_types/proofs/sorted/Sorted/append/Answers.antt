use Rattle.std.proofs.Common.{ap, subst, sym, ◌++◌}
use Rattle.plant_types.{specs.KeyedRows.{IsInOrder}, proofs.public.SortedLaws.{either}}
use Rattle.plant_types.proofs.sorted.Sorted.append.Goals as goal

pub invariant_of-self : goal.invariant_of-self
invariant_of-self g c =
    let R = g.T.Keyed.order in
    let key = g.T.Keyed.key in
    let rows = c.self.inside.rows in
    either (IsInOrder R key) c.append.result c.append.new.self (rows ++ c.args.more) rows c.append.ensures.ok c.append.ensures.err
    (subst (IsInOrder R key) (sym (ap (λ l. l ++ c.args.more) c.self.view_is)) c.requires) c.self.invariant
