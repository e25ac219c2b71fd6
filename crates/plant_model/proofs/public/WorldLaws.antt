-- What a call does to a world, and to what a person sees of it.
use Rattle.std.specs.FinMap.{FinMap, get, contains_key, keys, entries, entries_sorted, get-insert, contains_key-keys, Entries.{is_sorted, below_all}}
use Rattle.std.{specs.{List.{list_any}, Ordering.{eq_by_cmp}}, proofs.lemmas.Bool.{false_from_ne_true, true_from_ne_false}}
use Rattle.std.proofs.Common.{◌≡◌, ◌⊎◌, inl, inr, ℕ, List, [], ◌∷◌, Some, None, refl, sym, ap, subst, ◌∙◌, Bool, true, false, cond, T, ◌&&◌, ◌||◌, not, if◌then◌else◌, Option, Result, Ok, Err, is_some, unwrap_or, option_map, map, is_eq, is_lt}
use Rattle.plant_model.specs.{Calls.{reply}, Facts.{facts}, Grants.{said_of_pair, is_before, held, holds_any}, Views.{codes_seen, view, grants_to}}
use Rattle.plant_model.{specs.Histories.{Over, Said as SaidOf, still}, proofs.public.HistoryLaws.{when_Some}}
use Rattle.plant_model.specs.Laws.{UnseenCallsChangeNothing, CodesAreTheAdministrators, EqualViewsEqualAnswers, CallsToSeenUnits}
use Rattle.plant_model.specs.{Refusals.{holds_some, first_refusal}, Verdicts.{changes_history, is_opening, refusals_of_holder, refused_or, verdict}}
use Rattle.plant_model.specs.Worlds.{World, history, unit_named, unit_seen, units_held, opening, unit_answer, by_admin, is_taken, answer_at, answer, answer_of_units, with_call, next_at, next}
use Rattle.plant_model.specs.declared.{call.{Call.{Call}, Request.{Request, TheVariants.{OpenUnit, Grant, Withdraw}}}, reply.Refused.{Refused}}
use Rattle.plant_model.{specs.declared.reply.{Refused.TheVariants.{NotGranted}, Reply.{Reply}}, proofs.public.PutLaws.{is_some-find}}
use Rattle.plant_types.specs.{KeyedRows.{row_at, IsInOrder}, Names.{Name, name_cmp, same_name}, Options.{when, or_else}}
use Rattle.plant_types.specs.{Roles.{Pair, same_pair, all_roles}, declared.role.Role.TheVariants.{Steward}}
use Rattle.plant_types.proofs.public.{KeyedRowLaws.{tied, row_at-told, IsInOrder-told, same_rows}, Orders.{name_total, same_names, then_Equal}}

-- Keys of a map
pub same_of : (a b : Name) → same_name a b ≡ true → a ≡ b
same_of a b e = same_names a b (tied _ true e refl)

below-keys : {X : Type 0} (x : Name) (es : List (Name × X)) → below_all name_cmp x (map (λ k. (k, k)) (map (λ e. e.0) es)) ≡ below_all name_cmp x es
below-keys x [] = refl
below-keys x (e ∷ es) = ap (λ b. is_lt (name_cmp x e.0) && b) (below-keys x es)

sorted-keys : {X : Type 0} (es : List (Name × X)) → is_sorted name_cmp (map (λ k. (k, k)) (map (λ e. e.0) es)) ≡ is_sorted name_cmp es
sorted-keys [] = refl
sorted-keys (e ∷ es) = λ i. below-keys e.0 es i && sorted-keys es i

module _ {X : Type 0} (m : FinMap name_cmp X) where
  keys_rise : IsInOrder name_cmp (λ k. k) (keys m)
  keys_rise = subst T (sym (sorted-keys (entries m))) (entries_sorted m)

  found_itself : (q : Name) (ks : List Name) → row_at name_cmp (λ k. k) q ks ≡ cond (list_any (eq_by_cmp name_cmp q) ks) (Some q) None
  found_itself q [] = refl
  found_itself q (k ∷ ks) =
      elim (same_name q k) as (λ b. same_name q k ≡ b
      → cond b (Some k) (row_at name_cmp (λ k. k) q ks) ≡ cond (b || list_any (eq_by_cmp name_cmp q) ks) (Some q) None) [
        | true ↦ λ e. ap (λ x. Some x) (sym (same_of q k e))
        | false ↦ λ e. found_itself q ks
      ] refl

pub same_keys : {X Y : Type 0} (m : FinMap name_cmp X) (n : FinMap name_cmp Y) → ((q : Name) → contains_key m q ≡ contains_key n q) → keys m ≡ keys n
same_keys m n is =
    same_rows name_cmp (λ k. k) name_total same_names _ _ (keys_rise m) (keys_rise n)
    (λ q. found_itself m q (keys m) ∙ ap (λ b. cond b (Some q) None) (sym (contains_key-keys m q) ∙ is q ∙ contains_key-keys n q)
    ∙ sym (found_itself n q (keys n)))

same_contains : {X Y : Type 0} (m : FinMap name_cmp X) (n : FinMap name_cmp Y) → keys m ≡ keys n → (q : Name) → contains_key m q ≡ contains_key n q
same_contains m n e q = contains_key-keys m q ∙ ap (list_any (eq_by_cmp name_cmp q)) e ∙ sym (contains_key-keys n q)

-- A unit after a call
pub history-with_call : (w : World) (c : Call) (u q : Name) → history (with_call w c u) q ≡ cond (same_name q u) (c ∷ history w u) (history w q)
history-with_call w c u q =
    ap (λ o. unwrap_or o []) (get-insert name_total w.units u (c ∷ history w u) q)
    ∙ elim (same_name q u) as (λ b. unwrap_or (cond b (Some (c ∷ history w u)) (get w.units q)) []
    ≡ cond b (c ∷ history w u) (history w q)) [ true ↦ refl | false ↦ refl ]

pub is_taken-with_call : (w : World) (c : Call) (u q : Name) → is_taken (with_call w c u) q ≡ (same_name q u || is_taken w q)
is_taken-with_call w c u q =
    ap is_some (get-insert name_total w.units u (c ∷ history w u) q)
    ∙ elim (same_name q u) as (λ b. is_some (cond b (Some (c ∷ history w u)) (get w.units q)) ≡ (b || is_taken w q)) [ true ↦ refl | false ↦ refl ]

pub taken_of_held : (w : World) (t : ℕ) (p u : Name) → holds_any (history w u) t p ≡ true → is_taken w u ≡ true
taken_of_held w t p u =
    elim (get w.units u) as (λ o. holds_any (unwrap_or o []) t p ≡ true → is_some o ≡ true) [ None ↦ λ h. cc | Some h ↦ λ _. refl ]

pub no_history : (w : World) (u : Name) → is_taken w u ≡ false → history w u ≡ []
no_history w u = elim (get w.units u) as (λ o. is_some o ≡ false → unwrap_or o [] ≡ []) [ None ↦ λ h. refl | Some h ↦ λ e. cc ]

-- What a person sees of a unit's history
abbrev pub seen : ℕ → Name → Name → List Call → Option (Name × List Call)
seen t p u h = when (holds_any h t p) (u, h)

seen_key : (t : ℕ) (p u : Name) (h : List Call) (e : Name × List Call) → seen t p u h ≡ Some e → e.0 ≡ u
seen_key t p u h e =
    elim (holds_any h t p) as (λ b. when b (u, h) ≡ Some e
    → e.0 ≡ u) [ true ↦ λ is. let same : (u, h) ≡ e = cc in ap (λ x. x.0) (sym same) | false ↦ λ is. cc ]

pub seen_at : (w : World) (t : ℕ) (p q : Name) → row_at name_cmp (λ e. e.0) q (units_held w t p) ≡ unit_seen w t p q
seen_at w t p q =
    row_at-told name_cmp (λ e. e.0) name_total same_names (unit_seen w t p) (λ u e. seen_key t p u (history w u) e) q (keys w.units)
    ∙ ap (λ b. cond b (unit_seen w t p q) None) (is_some-find (eq_by_cmp name_cmp q) (keys w.units) ∙ sym (contains_key-keys w.units q))
    ∙ elim (get w.units q) as (λ o. cond (is_some o) (seen t p q (unwrap_or o [])) None ≡ seen t p q (unwrap_or o [])) [ None ↦ refl | Some h ↦ refl ]

pub seen_rise : (w : World) (t : ℕ) (p : Name) → IsInOrder name_cmp (λ (e : Name × List Call). e.0) (units_held w t p)
seen_rise w t p =
    IsInOrder-told name_cmp (λ e. e.0) name_total same_names (unit_seen w t p) (λ u e. seen_key t p u (history w u) e) (keys w.units)
    (keys_rise w.units)

same_units : (w v : World) (t : ℕ) (p : Name) → ((u : Name) → unit_seen w t p u ≡ unit_seen v t p u) → units_held w t p ≡ units_held v t p
same_units w v t p is =
    same_rows name_cmp (λ e. e.0) name_total same_names _ _ (seen_rise w t p) (seen_rise v t p) (λ q. seen_at w t p q ∙ is q ∙ sym (seen_at v t p q))

pub same_seen : (w v : World) (t : ℕ) (p : Name) → units_held w t p ≡ units_held v t p → (u : Name) → unit_seen w t p u ≡ unit_seen v t p u
same_seen w v t p e u = sym (seen_at w t p u) ∙ ap (row_at name_cmp (λ e. e.0) u) e ∙ seen_at v t p u

pub seen_history : (t : ℕ) (p u : Name) (h k : List Call) → seen t p u h ≡ seen t p u k → holds_any h t p ≡ true → h ≡ k
seen_history t p u h k e holds =
    ap (λ (x : Name × List Call). x.1) (sym (when_Some (holds_any k t p) (u, k) (u, h) (sym e ∙ ap (λ b. when b (u, h)) holds)))

is_some-when : {A : Type 0} (b : Bool) (x : A) → is_some (when b x) ≡ b
is_some-when true x = refl
is_some-when false x = refl

pub seen_holds : (t : ℕ) (p u : Name) (h k : List Call) → seen t p u h ≡ seen t p u k → holds_any h t p ≡ holds_any k t p
seen_holds t p u h k e = sym (is_some-when (holds_any h t p) (u, h)) ∙ ap is_some e ∙ is_some-when (holds_any k t p) (u, k)

-- Grants
pub any-mono : {A : Type 0} (f g : A → Bool) → ((x : A) → f x ≡ true → g x ≡ true) → (xs : List A) → list_any f xs ≡ true → list_any g xs ≡ true
any-mono f g h [] e = e
any-mono f g h (x ∷ xs) e =
    elim (f x) as (λ b. f x ≡ b → (b || list_any f xs) ≡ true → (g x || list_any g xs) ≡ true) [
      | true ↦ λ is _. ap (λ b. b || list_any g xs) (h x is)
      | false ↦ λ is rest. elim (g x) as (λ b. (b || list_any g xs) ≡ true) [ true ↦ refl | false ↦ any-mono f g h xs rest ]
    ] refl e

-- nothing is both true and false
pub clash : {A : Type 0} (b : Bool) → b ≡ true → b ≡ false → A
clash true t f = cc
clash false t f = cc

-- held, by the statements about the pair
abbrev held_by : ℕ → Option (SaidOf (Option ℕ)) → Bool
held_by t said = unwrap_or (option_map (is_before t) (still said)) false

granted_before : (t : ℕ) (k x : Pair) (v : SaidOf (Option ℕ)) (rest : Option (SaidOf (Option ℕ))) → same_name k.0 x.0 ≡ false
    → held_by t (or_else (when (same_pair k x) v) rest) ≡ true → held_by t rest ≡ true
granted_before t k x v rest other =
    elim (same_pair k x) as (λ b. same_pair k x ≡ b → held_by t (or_else (when b v) rest) ≡ true → held_by t rest ≡ true) [
      | true ↦ λ e _. clash (same_name k.0 x.0) (ap is_eq (then_Equal (name_cmp k.0 x.0) _ (tied _ true e refl)).0) other
      | false ↦ λ e h. h
    ] refl

withdrawn_before : (t : ℕ) (b : Bool) (rest : Option (SaidOf (Option ℕ))) → held_by t (or_else (when b Over) rest) ≡ true → held_by t rest ≡ true
withdrawn_before t true rest e = cc
withdrawn_before t false rest e = e

-- a pair that is held after a request that does not grant it was held before
stood : (t : ℕ) (k : Pair) (q : Request) (rest : Option (SaidOf (Option ℕ))) → grants_to k.0 q ≡ false
    → held_by t (or_else (said_of_pair k q) rest) ≡ true → held_by t rest ≡ true
stood t k (OpenUnit u s m q) rest other = granted_before t k (s, Steward) _ rest other
stood t k (Grant u p r) rest other = granted_before t k (p, r.0) _ rest other
stood t k (Withdraw u p r) rest other = withdrawn_before t (same_pair k (p, r)) rest
stood t k _ rest other = λ h. h

pub no_grant : (h : List Call) (c : Call) (t : ℕ) (p : Name) → grants_to p c.request ≡ false → holds_any h t p ≡ false → holds_any (c ∷ h) t p ≡ false
no_grant h c t p other none =
    false_from_ne_true _
    (λ e. clash (holds_any h t p) (any-mono (λ r. held (c
    ∷ h) t (p, r)) (λ r. held h t (p, r)) (λ r. stood t (p, r) c.request _ other) all_roles e) none)

-- Calls that the person does not see
pub unseen_calls : UnseenCallsChangeNothing
unseen_calls w p t c unseen other = by_unit (unit_named c.request) unseen where
  by_unit : (o : Option Name) → ((u : Name) → o ≡ Some u → holds_any (history w u) t p ≡ false) → units_held (next_at w c o) t p ≡ units_held w t p
  by_unit None unseen = refl
  by_unit (Some u) unseen =
      elim (changes_history (answer_at w c (Some u)) c) as (λ b. units_held (if b then with_call w c u else w) t p ≡ units_held w t p) [
        | true ↦ same_units (with_call w c u) w t p (λ q. ap (seen t p q) (history-with_call w c u q)
            ∙ elim (same_name q u) as (λ b. same_name q u ≡ b → seen t p q (cond b (c ∷ history w u) (history w q)) ≡ seen t p q (history w q)) [
              | true ↦ λ e. ap (λ b. when b (q, c ∷ history w u)) (no_grant (history w u) c t p other (unseen u refl))
                  ∙ ap (λ b. when b (q, history w q)) (sym (ap (λ x. holds_any (history w x) t p) (same_of q u e) ∙ unseen u refl))
              | false ↦ λ _. refl
            ] refl)
        | false ↦ refl
      ]

-- Answers
abbrev pub Said : Type 0
Said = Result Reply Refused

pub not_granted : (h : List Call) (c : Call) → holds_any h c.moment c.person ≡ false → verdict h c ≡ Err NotGranted
unfolding holds_some
not_granted h c none =
    ap (λ b. refused_or (first_refusal ((not b, NotGranted) ∷ refusals_of_holder (facts h) c)) (reply (facts h) c.moment c.request)) none

pub refused_changes : (v : Said) (c : Call) (x : Refused) → v ≡ Err x → changes_history v c ≡ true → ⊥
refused_changes (Ok r) c x e t = cc
refused_changes (Err y) c x e t = cc

-- who changes a unit holds a role in it, or is the administrator who opens it
pub opening_changes : (admin taken : Bool) (c : Call) → changes_history (opening admin taken) c ≡ true → (admin ≡ true) × (taken ≡ false)
opening_changes true false c t = (refl, refl)
opening_changes _ _ c t = cc

-- what follows from a change of a unit
pub changes_by : (admin taken : Bool) (h : List Call) (c : Call) → changes_history (unit_answer admin taken h c) c ≡ true
    → ((admin ≡ true) × (taken ≡ false)) ⊎ (holds_any h c.moment c.person ≡ true)
changes_by admin taken h c =
    elim (is_opening c.request) as (λ b. changes_history (if b then opening admin taken else verdict h c) c ≡ true
    → ((admin ≡ true) × (taken ≡ false)) ⊎ (holds_any h c.moment c.person ≡ true)) [
      | true ↦ λ t. inl (opening_changes admin taken c t)
      | false ↦ λ t. inr (true_from_ne_false _ (λ e. refused_changes (verdict h c) c NotGranted (not_granted h c e) t))
    ]

-- only the administrator's calls change which units there are
pub taken_by_other : (w : World) (c : Call) (u : Name) → by_admin w c ≡ false → changes_history (answer_at w c (Some u)) c ≡ true → (q : Name)
    → is_taken (with_call w c u) q ≡ is_taken w q
taken_by_other w c u other t q =
    is_taken-with_call w c u q
    ∙ elim (changes_by (by_admin w c) (is_taken w u) (history w u) c t) as (λ _. (same_name q u || is_taken w q) ≡ is_taken w q) [
      | inl admin ↦ clash _ admin.0 other
      | inr holds ↦ elim (same_name q u) as (λ b. same_name q u ≡ b → (b || is_taken w q) ≡ is_taken w q) [
        | true ↦ λ e. sym (ap (is_taken w) (same_of q u e) ∙ taken_of_held w c.moment c.person u holds)
        | false ↦ λ _. refl
      ] refl
    ]

pub codes_are_the_administrators : CodesAreTheAdministrators
codes_are_the_administrators w c other = by_unit (unit_named c.request) where
  by_unit : (o : Option Name) → keys (next_at w c o).units ≡ keys w.units
  by_unit None = refl
  by_unit (Some u) =
      elim (changes_history (answer_at w c (Some u)) c) as (λ b. changes_history (answer_at w c (Some u)) c ≡ b
      → keys (if b then with_call w c u else w).units ≡ keys w.units) [
        | true ↦ λ t. same_keys _ _ (taken_by_other w c u other t)
        | false ↦ λ _. refl
      ] refl

-- Two worlds that look alike to a person
pub record Alike (t : ℕ) (p : Name) (w v : World) : Type 0 where
  pub admin : w.admin ≡ v.admin
  pub seen : (u : Name) → unit_seen w t p u ≡ unit_seen v t p u
  pub taken : same_name p w.admin ≡ true → (u : Name) → is_taken w u ≡ is_taken v u

if_same : {A : Type 0} (b : Bool) (x y z : A) → (b ≡ true → x ≡ y) → (if b then x else z) ≡ (if b then y else z)
if_same true x y z h = h refl
if_same false x y z h = refl

pub alike_view : (t : ℕ) (p : Name) (w v : World) → Alike t p w v → view t p w ≡ view t p v
alike_view t p w v a =
    let units = same_units w v t p a.seen in
    let codes : codes_seen w p ≡ codes_seen v p =
    if_same (same_name p w.admin) (keys w.units) (keys v.units) [] (λ admin. same_keys w.units v.units (a.taken admin))
    ∙ ap (λ x. if same_name p x then keys v.units else []) a.admin in
    λ i. (units i, codes i)

pub view_alike : (t : ℕ) (p : Name) (w v : World) → w.admin ≡ v.admin → view t p w ≡ view t p v → Alike t p w v
view_alike t p w v admin e =
    record {
      admin = admin;
      seen = same_seen w v t p (ap (λ x. x.0) e);
      taken = λ is u. same_contains w.units v.units (sym (ap (λ b. if b then keys w.units else []) is) ∙ ap (λ x. x.1) e
          ∙ ap (λ x. if same_name p x then keys v.units else []) (sym admin) ∙ ap (λ b. if b then keys v.units else []) is) u;
    }

-- a call that is answered alike, and that puts the same history after it, leaves them alike
pub next_alike : (t : ℕ) (p : Name) (w v : World) (c : Call) (u : Name) → Alike t p w v → answer_at w c (Some u) ≡ answer_at v c (Some u)
    → (changes_history (answer_at w c (Some u)) c ≡ true → history w u ≡ history v u) → Alike t p (next_at w c (Some u)) (next_at v c (Some u))
next_alike t p w v c u a answers histories =
    subst (λ b. Alike t p (next_at w c (Some u)) (if b then with_call v c u else v)) (ap (λ x. changes_history x c) answers)
    (elim (changes_history (answer_at w c (Some u)) c) as (λ b. (b ≡ true → history w u ≡ history v u)
    → Alike t p (if b then with_call w c u else w) (if b then with_call v c u else v)) [
      | true ↦ λ same. record {
        admin = a.admin;
        seen = λ q. ap (seen t p q) (history-with_call w c u q)
            ∙ elim (same_name q u) as (λ b. seen t p q (cond b (c ∷ history w u) (history w q))
            ≡ seen t p q (cond b (c ∷ history v u) (history v q))) [
              | true ↦ ap (λ h. seen t p q (c ∷ h)) (same refl)
              | false ↦ a.seen q
            ]
            ∙ sym (ap (seen t p q) (history-with_call v c u q));
        taken = λ admin q. is_taken-with_call w c u q ∙ ap (λ b. same_name q u || b) (a.taken admin q) ∙ sym (is_taken-with_call v c u q);
      }
      | false ↦ λ _. a
    ] histories)

-- the answer of a unit that is the same in both worlds
pub same_answer : (w v : World) (c : Call) (u : Name) → w.admin ≡ v.admin
    → (is_opening c.request ≡ true → by_admin w c ≡ true → is_taken w u ≡ is_taken v u)
    → (is_opening c.request ≡ false → verdict (history w u) c ≡ verdict (history v u) c) → answer_at w c (Some u) ≡ answer_at v c (Some u)
same_answer w v c u admin taken verdicts =
    elim (is_opening c.request) as (λ b. (b ≡ true → by_admin w c ≡ true → is_taken w u ≡ is_taken v u)
    → (b ≡ false → verdict (history w u) c ≡ verdict (history v u) c)
    → (if b then opening (by_admin w c) (is_taken w u) else verdict (history w u) c)
    ≡ (if b then opening (by_admin v c) (is_taken v u) else verdict (history v u) c)) [
      | true ↦ λ f g. elim (by_admin w c) as (λ b. (b ≡ true → is_taken w u ≡ is_taken v u)
          → opening b (is_taken w u) ≡ opening b (is_taken v u)) [ true ↦ λ h. ap (opening true) (h refl) | false ↦ λ h. refl ] (f refl)
          ∙ ap (λ x. opening (same_name c.person x) (is_taken v u)) admin
      | false ↦ λ f g. g refl
    ] taken verdicts

-- the caller's own call
pub own_histories : (w v : World) (c : Call) (u : Name) → Alike c.moment c.person w v → changes_history (answer_at w c (Some u)) c ≡ true
    → history w u ≡ history v u
own_histories w v c u a t =
    elim (changes_by (by_admin w c) (is_taken w u) (history w u) c t) [
      | inl opened ↦ no_history w u opened.1 ∙ sym (no_history v u (sym (a.taken opened.0 u) ∙ opened.1))
      | inr holds ↦ seen_history c.moment c.person u (history w u) (history v u) (a.seen u) holds
    ]

own_verdict : (w v : World) (c : Call) (u : Name) → Alike c.moment c.person w v → verdict (history w u) c ≡ verdict (history v u) c
own_verdict w v c u a =
    elim (holds_any (history w u) c.moment c.person) as (λ b. holds_any (history w u) c.moment c.person ≡ b
    → verdict (history w u) c ≡ verdict (history v u) c) [
      | true ↦ λ e. ap (λ h. verdict h c) (seen_history c.moment c.person u (history w u) (history v u) (a.seen u) e)
      | false ↦ λ e. not_granted (history w u) c e
          ∙ sym (not_granted (history v u) c (sym (seen_holds c.moment c.person u (history w u) (history v u) (a.seen u)) ∙ e))
    ] refl

pub own_answer : (w v : World) (c : Call) → Alike c.moment c.person w v → (answer w c ≡ answer v c) × Alike c.moment c.person (next w c) (next v c)
own_answer w v c a = by_unit (unit_named c.request) where
  by_unit : (o : Option Name) → (answer_at w c o ≡ answer_at v c o) × Alike c.moment c.person (next_at w c o) (next_at v c o)
  by_unit None = (ap (λ units. answer_of_units units c) (same_units w v c.moment c.person a.seen), a)
  by_unit (Some u) =
      let same = same_answer w v c u a.admin (λ _ admin. a.taken admin u) (λ _. own_verdict w v c u a) in
      (same, next_alike c.moment c.person w v c u a same (own_histories w v c u a))

pub equal_views : EqualViewsEqualAnswers
equal_views w v c admin e =
    let both = own_answer w v c (view_alike c.moment c.person w v admin e) in
    (both.0, alike_view c.moment c.person (next w c) (next v c) both.1)

pub calls_to_seen_units : CallsToSeenUnits
calls_to_seen_units w v p t c u admin e named holds =
    let a = view_alike t p w v admin e in
    let histories : history w u ≡ history v u = seen_history t p u (history w u) (history v u) (a.seen u) holds in
    let there : is_taken w u ≡ true = taken_of_held w t p u holds in
    let there_too : is_taken v u ≡ true = taken_of_held v t p u (sym (seen_holds t p u (history w u) (history v u) (a.seen u)) ∙ holds) in
    let same : answer_at w c (Some u) ≡ answer_at v c (Some u) =
    same_answer w v c u admin (λ _ _. there ∙ sym there_too) (λ _. ap (λ h. verdict h c) histories) in
    let after = next_alike t p w v c u a same (λ _. histories) in (
      ap (answer_at w c) named ∙ same ∙ sym (ap (answer_at v c) named),
      ap (λ o. view t p (next_at w c o)) named ∙ alike_view t p _ _ after
          ∙ sym (ap (λ o. view t p (next_at v c o)) named),
    )
