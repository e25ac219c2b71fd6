use Rattle.std.proofs.{Common.{[]}, KnownBytes.{Consumes-nil}}
use Rattle.plant_wire.proofs.{Serving.{stopped_none}, public.With.{with_none}}
use Rattle.plant_wire.proofs.reads.session.Goals as goal

pub returns-in_default-clause-does : goal.returns-in_default-clause-does
returns-in_default-clause-does g c = (
  [],
  Consumes-nil (g.I.Inlet.remaining c.args.inlet.now),
  stopped_none [] (g.O.Outlet.written c.args.outlet.now) (with_none g.B.Books c.args.office.now),
)

pub returns-in_default-vec-clause-does : goal.returns-in_default-vec-clause-does
returns-in_default-vec-clause-does g c = (
  [],
  Consumes-nil (g.I.Inlet.remaining c.args.inlet.now),
  stopped_none [] (g.O.Outlet.written c.args.outlet.now) (with_none g.B.Books c.args.office.now),
)
