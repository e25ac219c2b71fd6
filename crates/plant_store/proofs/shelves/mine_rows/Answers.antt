use Rattle.std.proofs.{Common.{◌∙◌, ◌∷◌, ◌++◌, [], ap, sym}, lemmas.List.{map_push}}
use Rattle.plant_store.specs.Mine.{as_mine}
use Rattle.plant_store.proofs.shelves.mine_rows.Goals as goal

pub loop-line-preserved : goal.loop-line-preserved
loop-line-preserved c =
    c.in_ok-push.ensures ∙ ap (λ rows. rows ++ as_mine c.in-Some.line ∷ []) c.loop-line.invariant
    ∙ sym (map_push as_mine c.loop-line.yielded c.in-Some.line)
