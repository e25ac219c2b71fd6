use Rattle.std.proofs.Common.{◌≡◌, ◌≤◌, ◌∙◌, ◌++◌, ◌∷◌, [], sym, rules, arith, Ok}
use Rattle.plant_types.specs.Limits.{max_file_rows}
use Rattle.csv.specs.Records.{fields_of}
use Rattle.plant_import.{specs.Reading.{row_read}, proofs.{ReadsRecords.{reads_more, reads_fault, reads_all}, Rows.{in_limit}}}
use Rattle.plant_import.proofs.reading.read_rows.Goals as goal

pub returns-in-Err-clause-value : goal.returns-in-Err-clause-value
returns-in-Err-clause-value c text header h =
    reads_fault c.loop-row.reader c.next_record.new.reader text header c.loop-row.events c.loop-row.place c.in_ok-next_record.field-0
    (fields_of c.next_record.new.row) c.in-Err.cause
    (c.loop-row.invariant.so text header h) (c.in_ok-next_record.ensures.value text) c.if-branch.true (sym c.in_ok-event.ensures.value ∙ c.in-Err.is)

pub loop-row-smaller : goal.loop-row-smaller
loop-row-smaller c =
    let short : c.loop-row.place ≤ max_file_rows =
    in_limit c.loop-row.place (fields_of c.next_record.new.row) c.in-Ok.event (sym c.in_ok-event.ensures.value ∙ c.in-Ok.is) in
    omega arith

pub loop-row-preserved : goal.loop-row-preserved
loop-row-preserved c =
    let is : row_read c.loop-row.place (fields_of c.next_record.new.row) ≡ Ok c.in-Ok.event = sym c.in_ok-event.ensures.value ∙ c.in-Ok.is in
    let pushed : c.push.new.self ≡ c.loop-row.events ++ c.in-Ok.event ∷ [] = search rules in
    record {
      short = omega (arith, in_limit c.loop-row.place (fields_of c.next_record.new.row) c.in-Ok.event is);
      so = λ text header h.
          rw pushed
          (reads_more c.loop-row.reader c.next_record.new.reader text header c.loop-row.events c.loop-row.place c.in_ok-next_record.field-0
          (fields_of c.next_record.new.row) c.in-Ok.event
          (c.loop-row.invariant.so text header h) (c.in_ok-next_record.ensures.value text) c.if-branch.true is);
    }

pub returns-clause-value : goal.returns-clause-value
returns-clause-value c text header h =
    reads_all c.loop-row.reader c.next_record.new.reader text header c.loop-row.events c.loop-row.place c.in_ok-next_record.field-0
    (fields_of c.next_record.new.row)
    (c.loop-row.invariant.so text header h) (c.in_ok-next_record.ensures.value text) c.if-branch.false
