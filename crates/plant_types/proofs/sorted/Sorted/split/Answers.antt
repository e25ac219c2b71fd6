use Rattle.std.proofs.Common.{ap, drop, take, ◌∙◌}
use Rattle.plant_types.proofs.public.SortedLaws.{drop_from, take_below}
use Rattle.plant_types.proofs.sorted.Sorted.split.Goals as goal

pub returns-clause-below : goal.returns-clause-below
returns-clause-below g c =
    c.split_at.ensures.front ∙ ap (take c.place.result) c.as_slice.ensures.value
    ∙ take_below g.T.Keyed.order g.T.Keyed.key c.args.key.now c.args.self.now c.place.result c.place.ensures.place

pub returns-clause-from : goal.returns-clause-from
returns-clause-from g c =
    c.split_at.ensures.back ∙ ap (drop c.place.result) c.as_slice.ensures.value
    ∙ drop_from g.T.Keyed.order g.T.Keyed.key c.args.key.now c.args.self.now c.place.result c.place.ensures.place
