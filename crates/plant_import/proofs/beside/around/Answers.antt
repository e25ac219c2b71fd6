use Rattle.std.proofs.{Common.{ap, arith, drop, length, nat_lt, sym, take, ◌-◌, ◌∙◌, ◌≡◌}, lemmas.List.{take_all}}
use Rattle.plant_import.{specs.Relation.{below}, proofs.{ByNumber.{lt_is}, public.NeededLaws.{parted_count}}}
use Rattle.plant_import.proofs.beside.around.Goals as goal

pub returns-then-from-lt3 : goal.returns-then-from-lt3
returns-then-from-lt3 c =
    let kept = c.args.kept.now in
    let n = c.args.number in
    let place = c.place.ensures.place in
    let many : c.place.result ≡ length (below n kept) =
    parted_count (λ k. nat_lt k.seq n) kept c.place.result (
      (λ k d low high. sym (lt_is _ _) ∙ place.0 k d low high),
      (λ k d low high. sym (lt_is _ _) ∙ place.1 k d low high),
    ) c.place.ensures.bound in
    sym (take_all 3 c.split_at.result.1.now (omega (arith, c.if-from-lt3.true)))
    ∙ ap (take 3) (c.split_at.ensures.back ∙ (λ i. drop ((c.saturating_sub-before.ensures ∙ ap (λ m. m - 1) many) i) (c.as_slice.ensures.value i)))

pub returns : goal.returns
returns c =
    let kept = c.args.kept.now in
    let n = c.args.number in
    let place = c.place.ensures.place in
    let many : c.place.result ≡ length (below n kept) =
    parted_count (λ k. nat_lt k.seq n) kept c.place.result (
      (λ k d low high. sym (lt_is _ _) ∙ place.0 k d low high),
      (λ k d low high. sym (lt_is _ _) ∙ place.1 k d low high),
    ) c.place.ensures.bound in
    c.split_at-2.ensures.front
    ∙ ap (take 3) (c.split_at.ensures.back ∙ (λ i. drop ((c.saturating_sub-before.ensures ∙ ap (λ m. m - 1) many) i) (c.as_slice.ensures.value i)))
