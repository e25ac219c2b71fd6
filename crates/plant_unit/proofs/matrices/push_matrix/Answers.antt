use Rattle.std.proofs.Common.{ap, ◌∙◌}
use Rattle.plant_ration.specs.Matrix.{is_matrix}
use Rattle.plant_unit.proofs.MatrixLaws.{short_rows, matrix_pushed}
use Rattle.plant_unit.proofs.matrices.push_matrix.Goals as goal

pub push_cells-requires-clause-wide : goal.push_cells-requires-clause-wide
push_cells-requires-clause-wide c = λ k d lt.
    short_rows (λ row. row.items) c.args.matrix.now.limits c.cells-cells.result.now
    (ap (is_matrix c.args.matrix.now.limits) c.cells-cells.ensures.value ∙ c.cells-cells.ensures.is_matrix) k d lt

pub returns-clause-value : goal.returns-clause-value
returns-clause-value c =
    matrix_pushed c.push_cells.result c.args.changes.now c.push_bands.new.changes c.push_cells.new.changes c.args.number c.args.matrix.now _ _
    c.in_ok-push_bands.ensures.value c.limits.ensures c.cells-cells.ensures.value c.push_cells.ensures.value
