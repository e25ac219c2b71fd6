use Rattle.std.proofs.Common.{ap, is_eq, sym, ◌∙◌}
use Rattle.plant_types.proofs.public.SortedLaws.{none_here}
use Rattle.plant_types.proofs.sorted.Sorted.find.Goals as goal

pub returns-else-is_eq : goal.returns-else-is_eq
returns-else-is_eq g c =
    none_here g.T.Keyed.order g.T.Keyed.key g.met.T.Keyed.total c.args.self.now c.args.key.now c.place-place.result c.cmp_at.ensures.order
    c.place-place.ensures.place (ap is_eq (sym c.cmp_at.ensures.value) ∙ sym c.if-is_eq.ensures)
