use Rattle.std.{specs.Io.KnownBytes.{Keeps}, proofs.Common.{◌≡◌, length}}
use Rattle.plant_wire.proofs.std_streams.read_on.Given as goal

abbrev pub invariant-tries : goal.invariant-tries
invariant-tries g l = (length l.buf ≡ length l.fn.buf) × Keeps (g.R.Read.remaining l.fn.reader) (g.R.Read.remaining l.reader)
