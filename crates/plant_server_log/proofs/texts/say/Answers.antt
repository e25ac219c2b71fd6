use Rattle.std.proofs.Common.{arith}
use Rattle.plant_wire.proofs.public.Growing.{Appends-more}
use Rattle.plant_server_log.proofs.texts.say.Goals as goal

pub writes-preserved : goal.writes-preserved
writes-preserved g c = (
  omega (arith, c.in-Ok.ensures.bound, c.bytes_from.ensures.len, c.writes.invariant.0),
  Appends-more _ _ _ c.writes.at c.in-Ok.n c.args.text.now c.bytes_from.result.now c.writes.invariant.1 c.bytes_from.ensures.value
      c.in-Ok.ensures.bytes,
)
