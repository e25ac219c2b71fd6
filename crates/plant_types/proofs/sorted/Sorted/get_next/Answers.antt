use Rattle.std.proofs.Common.{ap, slice_get, ◌∙◌}
use Rattle.plant_types.proofs.public.SortedLaws.{get_is, row_there_is}
use Rattle.plant_types.proofs.sorted.Sorted.get_next.Goals as goal

pub returns : goal.returns
returns g c =
    let is = c.as_slice.ensures.value in
    get_is c.as_slice.result.now c.in_ok-place.place c.get.result c.get.ensures.lookup ∙ ap (λ l. slice_get l c.in_ok-place.place) is
    ∙ row_there_is g.T.Keyed.order g.T.Keyed.key g.met.T.Keyed.total g.met.T.Keyed.only c.args.self.now c.args.key.now c.in_ok-place.place
    c.as_slice.ensures.order c.in_ok-place.ensures
