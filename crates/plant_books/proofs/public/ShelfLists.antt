-- Loops that list what each element of a list gives, and the shelves of all units of a person in one list.
use Rattle.std.specs.List.{cons_option, list_any}
use Rattle.std.proofs.Common.{List, None, Option, Some, [], ap, cond, drop, false, filter_map, flat_map, get_or, length, map, refl, sym, true, ℕ, ◌++◌, ◌+◌, ◌<◌, ◌≤◌, ◌∙◌, ◌∷◌, ◌≡◌}
use Rattle.std.proofs.lemmas.List.{append_assoc, append-nil, at_drop_all, drop_more}
use Rattle.plant_books.specs.{Contents.{is_held_row, is_held_in, mine_row, shelves_mine, shelves_there}, declared.books.MineRow.{MineRow}}
use Rattle.plant_model.specs.declared.rows.UnitRows.{UnitRows}
use Rattle.plant_types.specs.{Names.{Name}, Options.{when}}

module _ {X Y : Type 0} (f : List X → List Y) (listed all : List Y) (xs : List X) (i : ℕ) where
  -- what is listed, and then what is left, is the whole: when nothing is left, it is what is listed
  pub all_listed : f [] ≡ [] → length xs ≤ i → listed ++ f (drop i xs) ≡ all → listed ≡ all
  all_listed none end so_far = sym (append-nil listed) ∙ ap (λ ys. listed ++ ys) (sym none) ∙ sym (at_drop_all (λ l. listed ++ f l) xs i end) ∙ so_far

  -- and so it stays when more is listed
  pub more_listed : (more after : List Y) (x : X) → i < length xs → x ≡ get_or xs i x → f (x ∷ drop (i + 1) xs) ≡ more ++ f (drop (i + 1) xs)
      → after ≡ listed ++ more → listed ++ f (drop i xs) ≡ all → after ++ f (drop (i + 1) xs) ≡ all
  more_listed more after x inside at is pushed so_far =
      let rest = drop (i + 1) xs in
      ap (λ ys. ys ++ f rest) pushed
      ∙ append_assoc listed more (f rest)
      ∙ ap (λ ys. listed ++ ys) (sym is)
      ∙ ap (λ l. listed ++ f l) (ap (λ y. y ∷ rest) at ∙ sym (drop_more xs i x inside))
      ∙ so_far

-- the shelves of the units held are those that the person may see
pub held_shelves : (there : Name → Option UnitRows) (t : ℕ) (p : Name) (us : List Name)
    → flat_map (λ u. shelves_there u (there u))
    (filter_map (λ u. when (is_held_in t p (there u)) u) us) ≡ flat_map (λ u. shelves_mine t p u (there u)) us
held_shelves there t p [] = refl
held_shelves there t p (u ∷ us) = by (there u) refl (held_shelves there t p us)
  where
    seen : List Name → List MineRow
    seen vs = flat_map (λ v. shelves_there v (there v)) vs

    rest : List Name
    rest = filter_map (λ v. when (is_held_in t p (there v)) v) us

    mine : List MineRow
    mine = flat_map (λ v. shelves_mine t p v (there v)) us

    by : (o : Option UnitRows) → there u ≡ o → seen rest ≡ mine → seen (cons_option (when (is_held_in t p o) u) rest) ≡ shelves_mine t p u o ++ mine
    by None e same = same
    by (Some rows) e same =
        elim (list_any (is_held_row t p) rows.grants) as (λ b. seen (cons_option (when b u) rest) ≡ cond b (map (mine_row u rows) rows.shelves) []
        ++ mine) [
          | true ↦ λ i. shelves_there u (e i) ++ same i
          | false ↦ same
        ]
