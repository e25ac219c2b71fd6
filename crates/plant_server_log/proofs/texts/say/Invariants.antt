use Rattle.std.{specs.Io.KnownBytes.{Appends}, proofs.Common.{◌-◌, ◌≤◌, length, take}}
use Rattle.plant_server_log.proofs.texts.say.Given as goal

abbrev pub invariant-writes : goal.invariant-writes
invariant-writes g l = (l.at ≤ length l.text) × Appends (g.W.Write.contents l.fn.writer) (g.W.Write.contents l.writer) (take l.at l.text)

abbrev pub decreases-writes : goal.decreases-writes
decreases-writes g l = length l.text - l.at
