use Rattle.std.proofs.Common.{inl, inr, sym, ◌∙◌}
use Rattle.plant_types.proofs.public.SortedLaws.{none_between}
use Rattle.plant_types.proofs.sorted.Sorted.find_before.Goals as goal

pub returns-then-place-eq0 : goal.returns-then-place-eq0
returns-then-place-eq0 g c =
    none_between g.T.Keyed.order g.T.Keyed.key g.met.T.Keyed.total c.args.self.now c.args.key.now c.args.place c.requires.order c.requires.place
    (inl c.if-place-eq0.true)

pub returns-in-Less : goal.returns-in-Less
returns-in-Less g c =
    none_between g.T.Keyed.order g.T.Keyed.key g.met.T.Keyed.total c.args.self.now c.args.key.now c.args.place c.requires.order c.requires.place
    (inr (sym c.cmp_at.ensures.value ∙ c.in-Less.is))
