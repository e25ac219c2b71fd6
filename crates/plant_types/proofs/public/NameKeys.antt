-- Rows whose keys are names, in whatever order they stand: one has the name if it is one of their keys.
use Rattle.std.specs.{Cmp.{IsTotalOrder}, List.{list_any}, Option.{is_some}, Ordering.{eq_by_cmp}}
use Rattle.std.proofs.Common.{Equal, List, Option, Ordering, Some, [], ap, arith, cond, map, refl, ◌∙◌, ◌∷◌, ◌||◌, ◌≡◌, Bool}
use Rattle.plant_types.proofs.public.{Orders.{name_total, same_names}, SortedLaws.{same_ties}}
use Rattle.plant_types.specs.{KeyedRows.{row_at}, Names.{Name, name_cmp, same_name}}

found_or : {X : Type 0} (b : Bool) (r : X) (o : Option X) → is_some (cond b (Some r) o) ≡ (b || is_some o)
found_or b r o = grind arith

pub has_name : {X : Type 0} (R : Name → Name → Ordering) (key : X → Name) → IsTotalOrder R → ((a b : Name) → R a b ≡ Equal → a ≡ b)
    → (a : Name) (rows : List X) → is_some (row_at R key a rows) ≡ list_any (same_name a) (map key rows)
has_name R key total only a [] = refl
has_name R key total only a (r ∷ rows) =
    found_or (eq_by_cmp R a (key r)) r (row_at R key a rows)
    ∙ ap (λ b. b || is_some (row_at R key a rows)) (same_ties R name_cmp total only name_total same_names a (key r))
    ∙ ap (λ b. same_name a (key r) || b) (has_name R key total only a rows)
