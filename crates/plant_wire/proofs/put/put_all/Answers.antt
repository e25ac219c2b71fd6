use Rattle.std.proofs.Common.{arith, ◌∙◌, ◌<◌}
use Rattle.plant_wire.proofs.public.Growing.{Appends-more}
use Rattle.plant_wire.proofs.put.put_all.Goals as goal

pub puts-preserved : goal.puts-preserved
puts-preserved g c =
    let some : 0 < c.in-Ok.n = omega arith in (
      omega (arith, c.in-Ok.ensures.within, c.bytes_from.ensures.len, c.puts.invariant.0),
      Appends-more _ _ _ c.puts.at c.in-Ok.n c.args.bytes.now c.bytes_from.result.now c.puts.invariant.1 c.bytes_from.ensures.value
          c.in-Ok.ensures.bytes,
      c.in-Ok.ensures.moved some ∙ c.puts.invariant.2,
    )
