use Rattle.std.{specs.Io.KnownBytes.{Appends}, proofs.Common.{◌≡◌, ◌≤◌, ◌-◌, length, take}}
use Rattle.plant_wire.proofs.put.put_all.Given as goal

abbrev pub invariant-puts : goal.invariant-puts
invariant-puts g l =
    (l.at ≤ length l.bytes) × Appends (g.O.Outlet.written l.fn.outlet) (g.O.Outlet.written l.outlet) (take l.at l.bytes)
    × (g.O.Outlet.failures l.outlet ≡ g.O.Outlet.failures l.fn.outlet)

abbrev pub decreases-puts : goal.decreases-puts
decreases-puts g l = length l.bytes - l.at
