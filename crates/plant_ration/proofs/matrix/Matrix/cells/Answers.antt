use Rattle.std.proofs.Common.{rules, ◌≡◌, true}
use Rattle.plant_ration.{specs.Matrix.{is_matrix}, proofs.Matrices.{limits_rise, ordered}}
use Rattle.plant_ration.proofs.matrix.Matrix.cells.Goals as goal

pub returns-clause-rising : goal.returns-clause-rising
returns-clause-rising c =
    let test : is_matrix c.args.self.now.limits c.args.self.now.cells ≡ true = search rules in
    limits_rise c.args.self.now.limits c.args.self.now.cells test

pub returns-clause-ordered : goal.returns-clause-ordered
returns-clause-ordered c =
    let test : is_matrix c.args.self.now.limits c.args.self.now.cells ≡ true = search rules in
    ordered c.args.self.now.limits c.args.self.now.cells test
