use Rattle.std.proofs.Common.{true, false, sym, ◌∙◌, append-nil}
use Rattle.plant_wire_head.proofs.{Values.{values_more}, fields.field.Goals.{then-has_name, else-has_name}}
use Rattle.plant_wire_head.proofs.fields.field.Goals as goal

pub loop-header-preserved : goal.loop-header-preserved
loop-header-preserved c =
    elim c.if-has_name.branch [
      | then-has_name w ↦
          let e = values_more c.args.buf.now c.args.name.now c.args.headers.now c.loop-header.header-index _ true c.loop-header-test.true
          (sym w.if-has_name.true ∙ c.has_name.ensures) in
          rw (e, w.found-is, ← w.value_of.ensures) (w.and-found.ensures _ c.loop-header.invariant)
      | else-has_name w ↦
          let e = values_more c.args.buf.now c.args.name.now c.args.headers.now c.loop-header.header-index _ false c.loop-header-test.true
          (sym w.if-has_name.false ∙ c.has_name.ensures) in
          rw (e, w.found-is, append-nil) c.loop-header.invariant
    ]
