use Rattle.std.{specs.List.{remove}, proofs.Common.{ap, slice_get, subst, sym, ◌∙◌}}
use Rattle.plant_types.{specs.KeyedRows.{IsInOrder}, proofs.public.{KeyedRowLaws.{IsInOrder-remove_row}, SortedLaws.{none_removed, ordered, row_there, without}}}
use Rattle.plant_types.proofs.sorted.Sorted.remove.Goals as goal

pub invariant_of-self : goal.invariant_of-self
invariant_of-self g c =
    let R = g.T.Keyed.order in
    let key = g.T.Keyed.key in
    let k = c.args.key.now in
    let rows = c.args.self.now in
    let at = c.in-Ok.ensures in
    let order = subst (IsInOrder R key) c.self.view_is c.self.invariant in
    subst (IsInOrder R key)
    (sym (c.remove_at.ensures.rest ∙ ap (λ l. remove l c.in-Ok.place) c.self.view_is
    ∙ without R key g.met.T.Keyed.total g.met.T.Keyed.only rows k c.in-Ok.place (ordered R key rows order) at.0 at.1 at.2))
    (IsInOrder-remove_row R key g.met.T.Keyed.total g.met.T.Keyed.only k rows order)

pub returns-in-Ok-clause-taken : goal.returns-in-Ok-clause-taken
returns-in-Ok-clause-taken g c =
    let R = g.T.Keyed.order in
    let key = g.T.Keyed.key in
    let rows = c.args.self.now in
    let at = c.in-Ok.ensures in
    let order = subst (IsInOrder R key) c.self.view_is c.self.invariant in
    c.remove_at.ensures.taken ∙ ap (λ l. slice_get l c.in-Ok.place) c.self.view_is ∙ at.1
    ∙ row_there R key g.met.T.Keyed.total g.met.T.Keyed.only rows c.args.key.now c.in-Ok.place (ordered R key rows order) at.0 at.1 at.2

pub returns-in-Ok-clause-rest : goal.returns-in-Ok-clause-rest
returns-in-Ok-clause-rest g c =
    let R = g.T.Keyed.order in
    let key = g.T.Keyed.key in
    let rows = c.args.self.now in
    let at = c.in-Ok.ensures in
    let order = subst (IsInOrder R key) c.self.view_is c.self.invariant in
    c.remove_at.ensures.rest ∙ ap (λ l. remove l c.in-Ok.place) c.self.view_is
    ∙ without R key g.met.T.Keyed.total g.met.T.Keyed.only rows c.args.key.now c.in-Ok.place (ordered R key rows order) at.0 at.1 at.2

pub returns-in-Err-clause-rest : goal.returns-in-Err-clause-rest
returns-in-Err-clause-rest g c = none_removed g.T.Keyed.order g.T.Keyed.key c.args.self.now c.args.key.now c.in-Err.ensures
