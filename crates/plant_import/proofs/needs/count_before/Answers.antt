use Rattle.std.proofs.Common.{arith, get_or, sym, ◌∙◌, length}
use Rattle.plant_import.{specs.Needed.{is_before_all}, proofs.{ByNumber.{lt_is}, public.NeededLaws.{parted_count}}}
use Rattle.plant_import.proofs.needs.count_before.Goals as goal

pub returns-in-Some-clause-value : goal.returns-in-Some-clause-value
returns-in-Some-clause-value c =
    let place = c.place.ensures.place in
    parted_count (is_before_all c.args.rows.now) c.args.kept.now c.place.result (
      (λ k d low high. c.in-Some.ensures (get_or c.args.kept.now k d) ∙ sym (lt_is _ _) ∙ place.0 k d low high),
      (λ k d low high. c.in-Some.ensures (get_or c.args.kept.now k d) ∙ sym (lt_is _ _) ∙ place.1 k d low high),
    ) c.place.ensures.bound

pub returns-in-None-clause-value : goal.returns-in-None-clause-value
returns-in-None-clause-value c =
    c.len.ensures
    ∙ parted_count (is_before_all c.args.rows.now) c.args.kept.now (length c.args.kept.now)
    ((λ k d low high. c.in-None.ensures (get_or c.args.kept.now k d)), (λ k d low high. absurd (omega (arith, low, high)))) (omega arith)
