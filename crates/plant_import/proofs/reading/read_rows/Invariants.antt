use Rattle.std.proofs.Common.{◌≤◌, ◌-◌, ℕ, List, ◌∷◌, []}
use Rattle.plant_import.{specs.Records.{HasRead}, proofs.ReadsRecords.{ReadsRows}}
use Rattle.plant_import.proofs.reading.read_rows.Given as goal

abbrev pub invariant-loop-row : goal.invariant-loop-row
invariant-loop-row l =
    record {
      short : l.place ≤ 10001;
      so : (text : List ℕ) (header : List (List ℕ)) → HasRead l.fn.reader text (header ∷ [])
          → ReadsRows l.reader text header l.events l.place;
    }

abbrev pub decreases-loop-row : goal.decreases-loop-row
decreases-loop-row l = 10001 - l.place
