-- The calls of others on units in which a person never had a pair can go.
use Rattle.std.{specs.FinMap.{get, get-insert, get-empty}, proofs.lemmas.Bool.{false_from_ne_true}}
use Rattle.std.proofs.Common.{◌≡◌, ℕ, List, [], ◌∷◌, Some, None, refl, sym, ap, subst, ◌∙◌, Bool, true, false, cond, ◌||◌, if◌then◌else◌, Option, is_some, unwrap_or, option_map}
use Rattle.plant_model.specs.{Grants.{is_before, standing, stands, held, holds_any}, Laws.{OthersCallsCanGo}, Verdicts.{verdict, changes_history}}
use Rattle.plant_model.specs.{Views.{has_pair, names_in, purge, answers_to, IsInside, IsAlwaysInside}, declared.call.Call.{Call}}
use Rattle.plant_model.specs.Worlds.{World, history, unit_named, unit_seen, is_taken, answer_at, answer, with_call, next_at, next, empty_world}
use Rattle.plant_model.proofs.public.WorldLaws.{same_of, any-mono, clash, seen, own_histories, history-with_call, is_taken-with_call, taken_by_other, Alike, own_answer, same_answer}
use Rattle.plant_types.{specs.{Names.{Name, name_cmp, same_name}, Options.{when}, Roles.{all_roles}}, proofs.public.Orders.{name_total}}

-- what is held stands
held_stands : (t : ℕ) (o : Option (Option ℕ)) → unwrap_or (option_map (is_before t) o) false ≡ true → is_some o ≡ true
held_stands t None e = cc
held_stands t (Some x) e = refl

-- who has no pair holds no role
pub no_pair : (h : List Call) (t : ℕ) (p : Name) → has_pair h p ≡ false → holds_any h t p ≡ false
no_pair h t p none =
    false_from_ne_true _
    (λ e. clash (has_pair h p) (any-mono (λ r. held h t (p, r)) (λ r. stands h (p, r)) (λ r. held_stands t (standing h (p, r))) all_roles e) none)

-- the same in the units, and no pair of the person outside them
record Purged (p : Name) (units : Name → Bool) (w v : World) : Type 0 where
  admin : w.admin ≡ v.admin
  inside : (u : Name) → units u ≡ true → get w.units u ≡ get v.units u
  outside : IsInside p units v
  taken : same_name p w.admin ≡ true → (u : Name) → is_taken w u ≡ is_taken v u

purged_alike : (t : ℕ) (p : Name) (units : Name → Bool) (w v : World) → IsInside p units w → Purged p units w v → Alike t p w v
purged_alike t p units w v within a =
    record {
      admin = a.admin;
      seen = λ u. elim (units u) as (λ b. units u ≡ b → unit_seen w t p u ≡ unit_seen v t p u) [
        | true ↦ λ e. ap (λ o. seen t p u (unwrap_or o [])) (a.inside u e)
        | false ↦ λ e. ap (λ b. when b (u, history w u)) (no_pair (history w u) t p (within u e))
            ∙ sym (ap (λ b. when b (u, history v u)) (no_pair (history v u) t p (a.outside u e)))
      ] refl;
      taken = a.taken;
    }

get-with_call : (w : World) (c : Call) (u q : Name) → get (with_call w c u).units q ≡ cond (same_name q u) (Some (c ∷ history w u)) (get w.units q)
get-with_call w c u q = get-insert name_total w.units u (c ∷ history w u) q

-- a call that is made in both worlds
both_called : (p : Name) (units : Name → Bool) (w v : World) (c : Call) (u : Name) → Purged p units w v
    → answer_at w c (Some u) ≡ answer_at v c (Some u) → (changes_history (answer_at w c (Some u)) c ≡ true → history w u ≡ history v u)
    → IsInside p units (next_at w c (Some u)) → Purged p units (next_at w c (Some u)) (next_at v c (Some u))
both_called p units w v c u a answers histories =
    subst (λ b. IsInside p units (next_at w c (Some u)) → Purged p units (next_at w c (Some u)) (if b then with_call v c u else v))
    (ap (λ x. changes_history x c) answers)
    (elim (changes_history (answer_at w c (Some u)) c) as (λ b. (b ≡ true → history w u ≡ history v u)
    → IsInside p units (if b then with_call w c u else w) → Purged p units (if b then with_call w c u else w) (if b then with_call v c u else v)) [
      | true ↦ λ same within. record {
        admin = a.admin;
        inside = λ q e. get-with_call w c u q
            ∙ elim (same_name q u) as (λ b. cond b (Some (c ∷ history w u)) (get w.units q) ≡ cond b (Some (c ∷ history v u)) (get v.units q)) [
              | true ↦ ap (λ h. Some (c ∷ h)) (same refl)
              | false ↦ a.inside q e
            ]
            ∙ sym (get-with_call v c u q);
        outside = λ q e. ap (λ h. has_pair h p) (history-with_call v c u q)
            ∙ elim (same_name q u) as (λ b. has_pair (cond b (c ∷ history w u) (history w q)) p ≡ false
            → has_pair (cond b (c ∷ history v u) (history v q)) p ≡ false) [
              | true ↦ λ h. ap (λ k. has_pair (c ∷ k) p) (sym (same refl)) ∙ h
              | false ↦ λ _. a.outside q e
            ] (sym (ap (λ h. has_pair h p) (history-with_call w c u q)) ∙ within q e);
        taken = λ admin q. is_taken-with_call w c u q ∙ ap (λ b. same_name q u || b) (a.taken admin q) ∙ sym (is_taken-with_call v c u q);
      }
      | false ↦ λ _ _. a
    ] histories)

-- the person's own call
own_called : (units : Name → Bool) (w v : World) (c : Call) → IsInside c.person units w → IsInside c.person units (next w c)
    → Purged c.person units w v → (answer w c ≡ answer v c) × Purged c.person units (next w c) (next v c)
own_called units w v c within after a = (same, by_unit (unit_named c.request) after same) where
  alike : Alike c.moment c.person w v
  alike = purged_alike c.moment c.person units w v within a

  same : answer w c ≡ answer v c
  same = (own_answer w v c alike).0

  by_unit : (o : Option Name) → IsInside c.person units (next_at w c o) → answer_at w c o ≡ answer_at v c o
      → Purged c.person units (next_at w c o) (next_at v c o)
  by_unit None after same = a
  by_unit (Some u) after same = both_called c.person units w v c u a same (own_histories w v c u alike) after

-- a call of another on one of the units
inside_called : (p : Name) (units : Name → Bool) (w v : World) (c : Call) (u : Name) → units u ≡ true → Purged p units w v
    → IsInside p units (next_at w c (Some u)) → Purged p units (next_at w c (Some u)) (next_at v c (Some u))
inside_called p units w v c u e a =
    both_called p units w v c u a
    (same_answer w v c u a.admin (λ _ _. ap is_some (a.inside u e)) (λ _. ap (λ o. verdict (unwrap_or o []) c) (a.inside u e)))
    (λ _. ap (λ o. unwrap_or o []) (a.inside u e))

-- a call of another elsewhere, which is not made in the second world
outside_called : (p : Name) (units : Name → Bool) (w v : World) (c : Call) (u : Name) → same_name c.person p ≡ false → units u ≡ false
    → Purged p units w v → Purged p units (next_at w c (Some u)) v
outside_called p units w v c u other e a =
    elim (changes_history (answer_at w c (Some u)) c) as (λ b. changes_history (answer_at w c (Some u)) c ≡ b
    → Purged p units (if b then with_call w c u else w) v) [
      | true ↦ λ t. record {
        admin = a.admin;
        inside = λ q i. get-with_call w c u q
            ∙ elim (same_name q u) as (λ b. same_name q u ≡ b → cond b (Some (c ∷ history w u)) (get w.units q) ≡ get v.units q) [
              | true ↦ λ same. clash (units u) (sym (ap units (same_of q u same)) ∙ i) e
              | false ↦ λ _. a.inside q i
            ] refl;
        outside = a.outside;
        taken = λ admin q. taken_by_other w c u (sym (ap (same_name c.person) (same_of p w.admin admin)) ∙ other) t q ∙ a.taken admin q;
      }
      | false ↦ λ _. a
    ] refl

now_inside : (p : Name) (units : Name → Bool) (w : World) (calls : List Call) → IsAlwaysInside p units w calls → IsInside p units w
now_inside p units w [] h = h
now_inside p units w (c ∷ calls) h = h.0

own_step : (p : Name) (units : Name → Bool) (w v : World) (c : Call) → c.person ≡ p → IsInside p units w → IsInside p units (next w c)
    → Purged p units w v → (answer w c ≡ answer v c) × Purged p units (next w c) (next v c)
own_step p units w v c is =
    subst (λ x. IsInside x units w → IsInside x units (next w c) → Purged x units w v
    → (answer w c ≡ answer v c) × Purged x units (next w c) (next v c)) is (own_called units w v c)

-- what is left gives the same answers from worlds that are so
abbrev GoesOn : Name → (Name → Bool) → List Call → Type 0
GoesOn p units calls = (w v : World) → IsAlwaysInside p units w calls → Purged p units w v
    → answers_to p v (purge p units calls) ≡ answers_to p w calls

others_step : (p : Name) (units : Name → Bool) (c : Call) (calls : List Call) → GoesOn p units calls → (w v : World) → Purged p units w v
    → same_name c.person p ≡ false → (o : Option Name) → unit_named c.request ≡ o → IsAlwaysInside p units (next_at w c o) calls
    → answers_to p v (cond (names_in units o) (c ∷ purge p units calls) (purge p units calls)) ≡ answers_to p (next_at w c o) calls
others_step p units c calls goes_on w v a e None is within = goes_on w v within a
others_step p units c calls goes_on w v a e (Some u) is within =
    elim (units u) as (λ b. units u ≡ b
    → answers_to p v (cond b (c ∷ purge p units calls) (purge p units calls)) ≡ answers_to p (next_at w c (Some u)) calls) [
      | true ↦ λ i. ap (λ b. if b then
          answer v c ∷ answers_to p (next v c) (purge p units calls) else answers_to p (next v c) (purge p units calls)) e
          ∙ ap (λ o. answers_to p (next_at v c o) (purge p units calls)) is
          ∙ goes_on (next_at w c (Some u)) (next_at v c (Some u)) within (inside_called p units w v c u i a (now_inside p units _ calls within))
      | false ↦ λ i. goes_on (next_at w c (Some u)) v within (outside_called p units w v c u e i a)
    ] refl

purged_answers : (p : Name) (units : Name → Bool) (calls : List Call) → GoesOn p units calls
purged_answers p units [] w v within a = refl
purged_answers p units (c ∷ calls) w v within a =
    elim (same_name c.person p) as (λ b. same_name c.person p ≡ b
    → answers_to p v (cond (b || names_in units (unit_named c.request)) (c ∷ purge p units calls) (purge p units calls))
    ≡ (if b then answer w c ∷ answers_to p (next w c) calls else answers_to p (next w c) calls)) [
      | true ↦ λ e.
          let both = own_step p units w v c (same_of c.person p e) within.0 (now_inside p units (next w c) calls within.1) a in
          ap (λ b. if b then answer v c ∷ answers_to p (next v c) (purge p units calls) else answers_to p (next v c) (purge p units calls)) e
          ∙ ap (λ x. x ∷ answers_to p (next v c) (purge p units calls)) (sym both.0)
          ∙ ap (λ xs. answer w c ∷ xs) (purged_answers p units calls (next w c) (next v c) within.1 both.1)
      | false ↦ λ e. others_step p units c calls (purged_answers p units calls) w v a e (unit_named c.request) refl within.1
    ] refl

pub others_calls_can_go : OthersCallsCanGo
others_calls_can_go admin p units calls within =
    purged_answers p units calls (empty_world admin) (empty_world admin) within
    (record {
      admin = refl;
      inside = λ u e. refl;
      outside = λ u e. ap (λ o. has_pair (unwrap_or o []) p) (get-empty name_cmp u);
      taken = λ admin u. refl;
    })
