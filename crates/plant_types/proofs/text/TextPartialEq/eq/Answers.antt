-- Texts are equal where the order of bytes says so.
use Rattle.std.{specs.Cmp.Lexicographic.{texts_ties}, proofs.Common.{◌∙◌}}
use Rattle.plant_types.proofs.text.TextPartialEq.eq.Goals as goal

pub returns : goal.returns
returns g c =
    let same = rw (c.as_bytes.ensures.value, c.as_bytes-2.ensures.value) at c.eq.ensures in
    same ∙ texts_ties c.args.self.now c.args.other.now
