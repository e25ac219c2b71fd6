use Rattle.std.proofs.Common.{◌≡◌, ◌+◌}
use Rattle.plant_wire_call.specs.Cut.{WaitsBelow}
use Rattle.plant_wire.{specs.Over.{RanWith}, proofs.Sessions.{Stands}}
use Rattle.plant_wire.proofs.reads.run_reads.Given as goal

abbrev pub invariant-reads : goal.invariant-reads
invariant-reads g l = record {
  stands : Stands (g.I.Inlet.remaining l.fn.inlet) (g.I.Inlet.remaining l.inlet) (g.O.Outlet.written l.fn.outlet) (g.O.Outlet.written l.outlet)
      (RanWith g.B.Books l.fn.office l.office) l.buffer.items;
  honest : g.B.Books.is_honest l.office.books → g.B.Books.is_honest l.fn.office.books;
  stalls : g.O.Outlet.failures l.outlet ≡ g.O.Outlet.failures l.fn.outlet;
  ended : g.I.Inlet.ended l.inlet ≡ g.I.Inlet.ended l.fn.inlet;
  failed : g.I.Inlet.failures l.inlet ≡ g.I.Inlet.failures l.fn.inlet;
  count : g.I.Inlet.reads l.inlet ≡ g.I.Inlet.reads l.fn.inlet + l.count;
  waits : WaitsBelow l.buffer.items l.wanted;
}
