use Rattle.std.proofs.Common.{take}
use Rattle.plant_books.specs.Asking.{AreSources, is_wanted}
use Rattle.plant_books.proofs.scope_numbers.sources.Given as goal

abbrev pub invariant-loop-record : goal.invariant-loop-record
invariant-loop-record l = AreSources l.numbers (is_wanted l.wanted) (take l.record-index l.records)
