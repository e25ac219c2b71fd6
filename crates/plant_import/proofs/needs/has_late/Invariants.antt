use Rattle.std.specs.List.{list_any}
use Rattle.std.proofs.Common.{take, ◌≡◌, false}
use Rattle.plant_import.specs.Reached.{is_passed}
use Rattle.plant_import.proofs.needs.has_late.Given as goal

abbrev pub invariant-loop-event : goal.invariant-loop-event
invariant-loop-event l = list_any (λ k. is_passed l.kept l.rows k.tag k.seq) (take l.event-index l.near) ≡ false
