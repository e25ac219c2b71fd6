use Rattle.std.{specs.List.{list_any}, proofs.{Common.{arith, ◌∙◌, ◌≡◌, false, true}, lemmas.Grind.{common_steps}}}
use Rattle.plant_unit.{specs.Readings.{is_outside}, proofs.ReadingLaws.{outside_told}}
use Rattle.plant_unit.proofs.proposals.has_outside.Goals as goal

pub returns-then-is_outside : goal.returns-then-is_outside
returns-then-is_outside c kept =
    let test = c.is_outside.ensures kept in
    let before = c.loop-row.invariant kept in
    let told : true ≡ list_any (is_outside c.args.matrix.now c.args.part.now.rows) c.args.part.now.rows.records = grind (arith, common_steps) in
    told ∙ outside_told c.args.matrix.now c.args.part.now.rows c.args.part.now.rows.records

pub returns : goal.returns
returns c kept =
    let before = c.loop-row.invariant kept in
    let told : false ≡ list_any (is_outside c.args.matrix.now c.args.part.now.rows) c.args.part.now.rows.records = grind (arith, common_steps) in
    told ∙ outside_told c.args.matrix.now c.args.part.now.rows c.args.part.now.rows.records
