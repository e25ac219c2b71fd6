use Rattle.csv.specs.Records.{fields_of}
use Rattle.plant_import.proofs.ReadsRecords.{reads_one}
use Rattle.plant_import.proofs.records.next_record.Goals as goal

pub returns-clause-value : goal.returns-clause-value
returns-clause-value c text rows h =
    reads_one c.args.reader.now c.read_byte_record.new.self text rows c.in-Ok.found (fields_of c.read_byte_record.new.row) h
    (c.in-Ok.ensures.reads h.plain h.ready) (c.in-Ok.ensures.ready h.plain)
