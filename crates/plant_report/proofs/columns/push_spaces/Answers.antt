use Rattle.std.proofs.{Common.{List, ◌++◌, ap, ℕ}, lemmas.List.{take-replicate}}
use Rattle.plant_report.proofs.columns.push_spaces.Goals as goal

pub returns : goal.returns
returns c =
    rw c.in_ok-extend_from_slice.ensures.items
    (ap (λ (spaces : List ℕ). c.args.text.now.items ++ spaces) (take-replicate {X = ℕ} c.args.count 32 32 c.requires))
