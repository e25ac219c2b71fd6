use Rattle.std.proofs.Common.{ap, ◌-◌, ◌∙◌, length, slice_get}
use Rattle.plant_import.proofs.ByNumber.{below_is, from_is}
use Rattle.plant_import.proofs.relation.nearest_among.Goals as goal

pub returns : goal.returns
returns c =
    let es = c.args.events.now in (
      c.last.ensures.value ∙ ap (λ l. slice_get l (length l - 1)) (c.split.ensures.below ∙ below_is c.args.seq es),
      c.first.ensures.value ∙ ap (λ l. slice_get l 0) (c.split.ensures.from ∙ from_is c.args.seq es),
    )
