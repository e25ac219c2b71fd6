-- The next world of a world of legal histories is one.
use Rattle.std.specs.FinMap.{get, get-empty, get-insert}
use Rattle.std.proofs.Common.{ap, refl, subst, sym, ◌∙◌, Bool, List, None, Option, Some, [], cond, false, if◌then◌else◌, is_some, not, true, unwrap_or, ℕ, ◌&&◌, ◌∷◌, ◌≡◌}
use Rattle.plant_model.specs.{Grants.{holds_any}, Laws.{FirstWorldsAreLegal, NextWorldsAreLegal}, Legality.{IsLegal, has_matrix, may_follow}}
use Rattle.plant_model.{specs.Verdicts.{changes_history, is_opening, verdict}, proofs.public.WorldLaws.{opening_changes}}
use Rattle.plant_model.specs.Worlds.{IsLegalWorld, World, answer_at, by_admin, history, next, next_at, opening, unit_answer, unit_named, unit_seen, with_call}
use Rattle.plant_model.specs.declared.{call.Call.{Call}, reply.Refused.TheVariants.{NotGranted}}
use Rattle.plant_model.proofs.public.WorldLaws.{Alike, not_granted, own_answer, own_histories, refused_changes, seen_history, seen_holds}
use Rattle.plant_types.{specs.Names.{Name, name_cmp, same_name}, proofs.public.Orders.{name_total}}

-- an accepted changing call on a code that was never opened is an opening
pub first_entry : (by_admin taken opens : Bool) (c : Call) → is_opening c.request ≡ opens
    → changes_history (if opens then opening by_admin taken else verdict [] c) c ≡ true → is_opening c.request ≡ true
first_entry by_admin taken true c is e = is
first_entry by_admin taken false c is e = absurd (refused_changes (verdict [] c) c NotGranted (not_granted [] c refl) e)

-- and one on an existing unit is not an opening
pub later_entry : (by_admin opens : Bool) (h : List Call) (c : Call) → is_opening c.request ≡ opens
    → changes_history (if opens then opening by_admin true else verdict h c) c ≡ true → may_follow h c ≡ true
later_entry by_admin true h c is e = absurd (let no : true ≡ false = (opening_changes by_admin true c e).1 in cc)
later_entry by_admin false h c is e = ap (λ b. not b && changes_history (verdict h c) c) is ∙ e

pub followed : (h : List Call) (c : Call) → IsLegal h → may_follow h c ≡ true → has_matrix c.request ≡ true → IsLegal (c ∷ h)
followed [] c legal may m = absurd legal
followed (d ∷ before) c legal may m = (may, m, legal)

module _ (w : World) (c : Call) (u : Name) (legal : IsLegalWorld w) (m : has_matrix c.request ≡ true) where
  entered : (o : Option (List Call)) → get w.units u ≡ o → changes_history (unit_answer (by_admin w c) (is_some o) (unwrap_or o []) c) c ≡ true
      → IsLegal (c ∷ unwrap_or o [])
  entered None is changing = (first_entry (by_admin w c) false (is_opening c.request) c refl changing, m)
  entered (Some h) is changing = followed h c (legal u h is) (later_entry (by_admin w c) (is_opening c.request) h c refl changing) m

  at_code : (q : Name) (h : List Call) (b : Bool) → IsLegal (c ∷ history w u) → cond b (Some (c ∷ history w u)) (get w.units q) ≡ Some h → IsLegal h
  at_code q h true now is = subst IsLegal (let same : c ∷ history w u ≡ h = cc in same) now
  at_code q h false now is = legal q h is

  next_at_legal : IsLegalWorld (next_at w c (Some u))
  next_at_legal =
      elim (changes_history (answer_at w c (Some u)) c) as (λ b. changes_history (answer_at w c (Some u)) c ≡ b
      → IsLegalWorld (if b then with_call w c u else w)) [
        | true ↦ λ changing q h is. at_code q h (same_name q u) (entered (get w.units u) refl changing)
            (sym (get-insert name_total w.units u (c ∷ history w u) q) ∙ is)
        | false ↦ λ _. legal
      ] refl

pub empty_legal : FirstWorldsAreLegal
empty_legal admin u h is = absurd (let no : None ≡ Some h = sym (get-empty name_cmp u) ∙ is in cc)

pub next_legal : NextWorldsAreLegal
next_legal w c legal m = elim (unit_named c.request) as (λ o. IsLegalWorld (next_at w c o)) [ None ↦ legal | Some u ↦ next_at_legal w c u legal m ]

-- Own units after a call: two worlds that look alike to the caller have the same histories of these afterwards
pub there_of_held : (w : World) (t : ℕ) (p u : Name) → holds_any (history w u) t p ≡ true → get w.units u ≡ Some (history w u)
there_of_held w t p u =
    elim (get w.units u) as (λ o. holds_any (unwrap_or o []) t p ≡ true → o ≡ Some (unwrap_or o [])) [ None ↦ λ h. cc | Some h ↦ λ _. refl ]

pub same_unit : (t : ℕ) (p : Name) (w v : World) (u : Name) → unit_seen w t p u ≡ unit_seen v t p u → holds_any (history v u) t p ≡ true
    → get w.units u ≡ get v.units u
same_unit t p w v u alike holds =
    let here : holds_any (history w u) t p ≡ true = seen_holds t p u (history w u) (history v u) alike ∙ holds in
    there_of_held w t p u here ∙ ap (λ h. Some h) (seen_history t p u (history w u) (history v u) alike here) ∙ sym (there_of_held v t p u holds)

own_after : (w v : World) (c : Call) (u q : Name) → Alike c.moment c.person w v → answer_at w c (Some u) ≡ answer_at v c (Some u)
    → holds_any (history v q) c.moment c.person ≡ true → get (next_at w c (Some u)).units q ≡ get (next_at v c (Some u)).units q
own_after w v c u q a same holds =
    elim (changes_history (answer_at w c (Some u)) c) as (λ b. changes_history (answer_at w c (Some u)) c ≡ b
    → get (if b then with_call w c u else w).units q ≡ get (if b then with_call v c u else v).units q) [
      | true ↦ λ changing. get-insert name_total w.units u (c ∷ history w u) q
          ∙ (λ i. cond (same_name q u) (Some (c ∷ own_histories w v c u a changing i)) (same_unit c.moment c.person w v q (a.seen q) holds i))
          ∙ sym (get-insert name_total v.units u (c ∷ history v u) q)
      | false ↦ λ _. same_unit c.moment c.person w v q (a.seen q) holds
    ] refl
    ∙ ap (λ x. get (if changes_history x c then with_call v c u else v).units q) same

pub own_units_after : (w v : World) (c : Call) (q : Name) → Alike c.moment c.person w v → holds_any (history v q) c.moment c.person ≡ true
    → get (next w c).units q ≡ get (next v c).units q
own_units_after w v c q a holds =
    elim (unit_named c.request) as (λ o. unit_named c.request ≡ o → get (next_at w c o).units q ≡ get (next_at v c o).units q) [
      | None ↦ λ is. same_unit c.moment c.person w v q (a.seen q) holds
      | Some u ↦ λ is. own_after w v c u q a (sym (ap (answer_at w c) is) ∙ (own_answer w v c a).0 ∙ ap (answer_at v c) is) holds
    ] refl
