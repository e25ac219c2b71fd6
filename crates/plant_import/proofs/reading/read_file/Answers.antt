use Rattle.std.proofs.{Common.{[], ap, if◌then◌else◌, sym, ◌∙◌, ◌∷◌, Err}, lemmas.Result.{IfOk-weaker}}
use Rattle.csv.specs.Records.{fields_of}
use Rattle.plant_import.specs.{Reading.{bad, file_read, records_read, rows_read}, declared.bad_file.Cause.TheVariants.{Header}}
use Rattle.plant_import.proofs.ReadsRecords.{found, none, read_first}
use Rattle.plant_import.proofs.reading.read_file.Goals as goal

pub returns-then-not-branch-clause-value : goal.returns-then-not-branch-clause-value
unfolding file_read
returns-then-not-branch-clause-value c =
    sym (ap records_read
    (none c.next_record.new.reader c.args.bytes.now [] c.in_ok-next_record.field-0 (fields_of c.next_record.new.row) c.if-not-branch.true
    (c.in_ok-next_record.ensures.value c.args.bytes.now [] c.reader_of-reader.ensures)))

pub returns-then-not-is_header-clause-value : goal.returns-then-not-is_header-clause-value
unfolding file_read
returns-then-not-is_header-clause-value c =
    let fields = fields_of c.next_record.new.row in
    let first =
    found c.next_record.new.reader c.args.bytes.now [] c.in_ok-next_record.field-0 fields c.if-not-branch.false
    (c.in_ok-next_record.ensures.value c.args.bytes.now [] c.reader_of-reader.ensures) in
    let all = read_first c.next_record.new.reader c.args.bytes.now (fields ∷ []) first in
    sym (ap records_read all.1 ∙ ap (λ b. if b then rows_read all.0 else Err (bad 1 Header)) (sym c.is_header.ensures ∙ c.if-not-is_header.true))

pub returns-clause-value : goal.returns-clause-value
unfolding file_read
returns-clause-value c =
    let fields = fields_of c.next_record.new.row in
    let first =
    found c.next_record.new.reader c.args.bytes.now [] c.in_ok-next_record.field-0 fields c.if-not-branch.false
    (c.in_ok-next_record.ensures.value c.args.bytes.now [] c.reader_of-reader.ensures) in
    IfOk-weaker c.read_rows.result _ _ (λ read told.
    let t = told c.args.bytes.now fields first in
    t.2 ∙ sym (ap records_read t.1
    ∙ ap (λ b. if b then rows_read t.0 else Err (bad 1 Header)) (sym c.is_header.ensures ∙ c.if-not-is_header.false))) c.read_rows.ensures.value
