use Rattle.std.proofs.Common.{rules, ◌≡◌, true}
use Rattle.plant_ration.{specs.Matrix.{is_matrix, priority_of}, proofs.Matrices.{only_rows}}
use Rattle.plant_ration.proofs.matrix.Matrix.priority.Goals as goal

pub returns-clause-row : goal.returns-clause-row
returns-clause-row c =
    let test : is_matrix c.args.self.now.limits c.args.self.now.cells ≡ true = search rules in
    let value : c.cell_at.result ≡ priority_of c.args.self.now c.args.severity c.args.response = search rules in
    only_rows c.args.self.now c.args.severity c.args.response c.cell_at.result test value
