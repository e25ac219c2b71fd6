use Rattle.std.proofs.Common.{take, ◌≡◌, filter_map, map, ◌++◌}
use Rattle.plant_model.specs.declared.rows.Row.TheVariants.{Record as RecordPut}
use Rattle.plant_model.specs.steps.{RowChanges.{rerated}, RowFacts.{record_read}}
use Rattle.plant_model.specs.declared.rows.RowEdit.TheVariants.{Put}
use Rattle.plant_unit.specs.Additions.{AreKept}
use Rattle.plant_unit.proofs.decisions.push_rerated.Given as goal

abbrev pub invariant-loop-row : goal.invariant-loop-row
invariant-loop-row l = AreKept l.part
    → l.changes ≡ l.initial.changes ++ map (λ r. Put (RecordPut (rerated l.fn.matrix r)))
    (filter_map (record_read l.part.rows) (take l.row-index l.row-items))
