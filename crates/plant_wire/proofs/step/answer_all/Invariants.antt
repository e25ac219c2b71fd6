use Rattle.std.proofs.Common.{◌≡◌, ◌≤◌, ◌-◌, length, drop}
use Rattle.plant_wire.specs.{Over.{RanWith}, Step.{AnswersFront}}
use Rattle.plant_wire.proofs.step.answer_all.Given as goal

abbrev pub invariant-items : goal.invariant-items
invariant-items g l = record {
  within : l.at ≤ length l.bytes;
  serves : AnswersFront l.bytes (g.O.Outlet.written l.fn.outlet) (g.O.Outlet.written l.outlet)
      (RanWith g.B.Books l.fn.office l.office) (drop l.at l.bytes);
  honest : g.B.Books.is_honest l.office.books → g.B.Books.is_honest l.fn.office.books;
  stalls : g.O.Outlet.failures l.outlet ≡ g.O.Outlet.failures l.fn.outlet;
}

abbrev pub decreases-items : goal.decreases-items
decreases-items g l = length l.bytes - l.at
