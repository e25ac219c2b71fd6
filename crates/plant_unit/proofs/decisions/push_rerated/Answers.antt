use Rattle.std.{specs.List.{list_all}, proofs.Common.{ap, sym, ◌∙◌, ◌≡◌, List, Option, filter_map, map, option_to_list, take, true, ◌+◌, ◌++◌, append-nil}}
use Rattle.plant_model.specs.declared.{reply.RecordRow.{RecordRow}, rows.RecordEntry.{RecordEntry}}
use Rattle.plant_model.specs.steps.{RowChanges.{rerated}, RowFacts.{record_read}}
use Rattle.plant_model.specs.declared.rows.{Row.TheVariants.{Record as RecordPut}, RowEdit.{RowEdit, TheVariants.{Put}}}
use Rattle.plant_unit.{specs.Readings.{has_its_sheet}, proofs.ReadingLaws.{each_passes, told_more}}
use Rattle.plant_unit.proofs.{decisions.push_rerated.Goals.{in-Some+in_ok-push, in_default}, public.Loops.{grown}}
use Rattle.plant_unit.proofs.decisions.push_rerated.Goals as goal

pub loop-row-preserved : goal.loop-row-preserved
loop-row-preserved c kept =
    let items : List RecordEntry = c.as_slice-row-items.result.now in
    let read : RecordEntry → Option RecordRow = record_read c.args.part.now.rows in
    let put : RecordEntry → RowEdit = λ e. Put (RecordPut e) in
    let rated : RecordRow → RecordEntry = rerated c.args.matrix.now in
    let all : list_all (has_its_sheet c.args.part.now.rows) items ≡ true =
    ap (list_all (has_its_sheet c.args.part.now.rows)) c.as_slice-row-items.ensures.value ∙ kept.records_whole in
    let whole =
    each_passes (has_its_sheet c.args.part.now.rows) items c.loop-row.row-index c.row-item.result all c.loop-row-test.true c.row-item.is in
    let next =
    told_more read rated put items c.loop-row.row-index c.row-item.result c.in_ok-found.found c.loop-row-test.true
    (c.in_ok-found.ensures.value kept whole) c.row-item.is in
    let grows : (new : List RowEdit) → new ≡ c.loop-row.changes ++ map put (option_to_list c.in_ok-found.found)
    → new ≡ c.args.changes.now ++ map (λ r. put (rated r)) (filter_map read (take (c.loop-row.row-index + 1) items)) =
    λ new pushed. grown c.args.changes.now c.loop-row.changes new (map (λ r. put (rated r)) (filter_map read (take c.loop-row.row-index items))) _ _
    pushed (c.loop-row.invariant kept) next in
    elim c.match-found.branch [
      | in-Some+in_ok-push w ↦ grows c.match-found.changes (w.changes-is ∙ w.in_ok-push.ensures.ok
          ∙ ap (λ (o : Option RecordEntry). c.loop-row.changes ++ map put (option_to_list o)) (sym w.in-Some.is))
      | in_default w ↦ grows c.match-found.changes (w.changes-is ∙ sym (append-nil c.loop-row.changes)
          ∙ ap (λ (o : Option RecordEntry). c.loop-row.changes ++ map put (option_to_list o)) (sym w.in_default.is))
    ]
