use Rattle.std.specs.Io.KnownBytes.{Keeps}
use Rattle.plant_wire.proofs.std_streams.write_on.Given as goal

abbrev pub invariant-tries : goal.invariant-tries
invariant-tries g l = Keeps (g.W.Write.contents l.fn.writer) (g.W.Write.contents l.writer)
