use Rattle.std.proofs.Common.{map, take}
use Rattle.httparse.specs.Spans.{header_bytes}
use Rattle.plant_wire_head.specs.Fields.{values_named, IsLookup}
use Rattle.plant_wire_head.proofs.fields.field.Given as goal

abbrev pub invariant-loop-header : goal.invariant-loop-header
invariant-loop-header l = IsLookup (values_named l.name (map (header_bytes l.buf) (take l.header-index l.headers))) l.found
