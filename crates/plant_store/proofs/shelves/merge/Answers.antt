use Rattle.std.proofs.{Common.{rules, ◌∙◌, ap}, lemmas.Fn.{dedup_same, filter_same}}
use Rattle.std.specs.List.{dedup}
use Rattle.plant_model.specs.Grants.{is_before}
use Rattle.plant_store.specs.{Mine.{repeats}, declared.shelves.ShelfGrant.{ShelfGrant}}
use Rattle.plant_store.proofs.shelves.merge.Goals as goal

pub returns : goal.returns
returns c =
    let standing = filter_same _ (λ (l : ShelfGrant). is_before c.args.now l.end_s) _ (λ x b f' k. search rules) _ _ c.retain.ensures.filtered in
    rw (← c.into_vec-lines.ensures)
    (c.from_vec.ensures ∙ dedup_same _ repeats _ (λ x y b f' x' y' k. search rules) _ _ c.dedup_by.ensures.filtered ∙ ap (dedup repeats) standing)
