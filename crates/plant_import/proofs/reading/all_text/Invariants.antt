use Rattle.std.{specs.{List.{list_all}, Str.{is_utf8}}, proofs.Common.{◌≡◌, take, true}}
use Rattle.csv.specs.Records.{fields_of}
use Rattle.plant_import.proofs.reading.all_text.Given as goal

abbrev pub invariant-loop-place : goal.invariant-loop-place
invariant-loop-place l = list_all is_utf8 (take l.place (fields_of l.row)) ≡ true
