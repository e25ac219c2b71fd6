use Rattle.std.{specs.Str.{IsAscii}, proofs.Common.{List, ℕ, arith, rules, subst, sym}}
use Rattle.csv.specs.Records.{fields_of}
use Rattle.plant_import.proofs.Places.{ascii_fields, text_more, text_at}
use Rattle.plant_import.proofs.reading.all_text.Goals as goal

pub loop-place-preserved : goal.loop-place-preserved
loop-place-preserved c =
    text_more (fields_of c.args.row.now) c.loop-place.place c.is_text.result c.field.result.now (omega arith) c.loop-place.invariant c.field.ensures
    c.is_text.ensures (search rules)

pub returns-then-not-is_text : goal.returns-then-not-is_text
returns-then-not-is_text c =
    sym (text_at (fields_of c.args.row.now) c.loop-place.place c.is_text.result c.field.result.now (omega arith) c.field.ensures c.is_text.ensures
    c.if-not-is_text.true)

pub returns-then-is_ascii : goal.returns-then-is_ascii
returns-then-is_ascii c =
    sym (ascii_fields 0 c.args.row.now.ends c.args.row.now.bytes
    (subst (λ (bs : List ℕ). IsAscii bs) c.as_slice.ensures (search rules)))
