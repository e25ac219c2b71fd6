-- The roles that a person's grant rows show are those of the history.
use Rattle.std.specs.{Cmp.{IsTotalOrder, nat_cmp_total, on_total}, FinMap.Entries.{below_all}, List.{cons_option, list_any, slice_get}}
use Rattle.std.{specs.Ordering.{eq_by_cmp, ordering_then}, proofs.lemmas.Option.{slice_get-map}}
use Rattle.std.proofs.Common.{ap, refl, subst, sym, ◌∙◌, is_eq, is_lt, nat_cmp, Bool, List, None, Option, Some, T, [], cond, false, filter, filter_map, if◌then◌else◌, is_some, map, option_map, true, unwrap_or, ℕ, ◌||◌, ◌∷◌, ◌≡◌, Ordering, Equal, Greater, Less}
use Rattle.plant_model.specs.{Grants.{held, holds_any, is_before, roles_held, some_role}, Rows.{grant_row, grant_rows}}
use Rattle.plant_model.specs.steps.RowFacts.{holds_by, pair_of}
pub use Rattle.plant_model.specs.steps.RowFacts.{is_held_row}
use Rattle.plant_model.{specs.declared.{call.Call.{Call}, rows.GrantRow.{GrantRow}}, proofs.public.FactLaws.{held_in, is_some-map}}
use Rattle.plant_model.proofs.public.{HistoryLaws.{grants_told, pairs_of, when_Some}}
use Rattle.plant_types.proofs.public.{Halves.{both, first, second}, KeyedRowLaws.{IsInOrder-rows, IsInOrder-told, row_at-told, same_rows}}
use Rattle.plant_types.{proofs.public.Orders.{same_names, same_roles}, specs.{KeyedRows.{IsInOrder, row_at}, Names.{Name, name_cmp}}}
use Rattle.plant_types.specs.{Options.{when}, Roles.{Pair, all_roles, pair_cmp, role_no}, declared.role.Role.{Role, TheVariants.{Viewer}}}

abbrev pub role_cmp : Role → Role → Ordering
role_cmp r s = nat_cmp (role_no r) (role_no s)

role_total : IsTotalOrder role_cmp
role_total = on_total role_no nat_cmp_total

abbrev pub role_in : GrantRow → Role
role_in g = g.role_no

abbrev held_by : ℕ → Option GrantRow → Bool
held_by t o = unwrap_or (option_map (λ (g : GrantRow). is_before t g.end_s) o) false

abbrev keyed_grants : List GrantRow → List (Pair × GrantRow)
keyed_grants rows = map (λ g. (pair_of g, g)) rows

abbrev keyed_roles : List Role → List (Role × Role)
keyed_roles rs = map (λ r. (r, r)) rs

held_person : (t : ℕ) (p : Name) (g : GrantRow) → is_held_row t p g ≡ true → name_cmp p g.person ≡ Equal
held_person t p g =
    elim (name_cmp p g.person) as (λ o. (if is_eq o then is_before t g.end_s else false) ≡ true
    → o ≡ Equal) [ Less ↦ λ e. cc | Equal ↦ λ _. refl | Greater ↦ λ e. cc ]

one_person : (p : Name) (a b : Name) → name_cmp p a ≡ Equal → name_cmp p b ≡ Equal → name_cmp a b ≡ Equal
one_person p a b x y = subst (λ n. name_cmp n b ≡ Equal) (same_names p a x) y

-- of two grants of one person the one with the greater pair has the greater role
below_held : (t : ℕ) (p : Name) (x : GrantRow) (rows : List GrantRow) → is_held_row t p x ≡ true
    → T (below_all pair_cmp (pair_of x) (keyed_grants rows))
    → T (below_all role_cmp (role_in x) (keyed_roles (map role_in (filter (is_held_row t p) rows))))
below_held t p x [] held h = tt
below_held t p x (g ∷ rows) held h =
    let rest = below_held t p x rows held (second _ _ h) in
    elim (is_held_row t p g) as (λ b. is_held_row t p g ≡ b
    → T (below_all role_cmp (role_in x) (keyed_roles (map role_in (cond b (g ∷ filter (is_held_row t p) rows) (filter (is_held_row t p) rows)))))) [
      | true ↦ λ e. both _ _
          (subst (λ o. T (is_lt (ordering_then o (role_cmp x.role_no g.role_no))))
          (one_person p x.person g.person (held_person t p x held) (held_person t p g e)) (first _ _ h)) rest
      | false ↦ λ _. rest
    ] refl

roles_rise : (t : ℕ) (p : Name) (rows : List GrantRow) → IsInOrder pair_cmp pair_of rows
    → IsInOrder role_cmp (λ r. r) (map role_in (filter (is_held_row t p) rows))
roles_rise t p [] h = tt
roles_rise t p (g ∷ rows) h =
    let rest = roles_rise t p rows (second _ _ h) in
    elim (is_held_row t p g) as (λ b. is_held_row t p g ≡ b
    → IsInOrder role_cmp (λ r. r) (map role_in (cond b (g ∷ filter (is_held_row t p) rows) (filter (is_held_row t p) rows)))) [
      | true ↦ λ e. both _ _ (below_held t p g rows e (first _ _ h)) rest
      | false ↦ λ _. rest
    ] refl

-- no row above a pair has it
none_above : (t : ℕ) (p : Name) (r : Role) (rows : List GrantRow) → T (below_all pair_cmp (p, r) (keyed_grants rows))
    → row_at role_cmp role_in r (filter (is_held_row t p) rows) ≡ None
none_above t p r [] h = refl
none_above t p r (g ∷ rows) h =
    let rest = none_above t p r rows (second _ _ h) in
    elim (name_cmp p g.person) as (λ o. T (is_lt (ordering_then o (role_cmp r g.role_no)))
    → row_at role_cmp role_in r (cond (if is_eq o then
    is_before t g.end_s else false) (g ∷ filter (is_held_row t p) rows) (filter (is_held_row t p) rows)) ≡ None) [
      | Less ↦ λ _. rest
      | Greater ↦ λ _. rest
      | Equal ↦ λ lt. elim (is_before t g.end_s) as (λ b. row_at role_cmp role_in r (cond b (g
          ∷ filter (is_held_row t p) rows) (filter (is_held_row t p) rows)) ≡ None) [
            | true ↦ elim (role_cmp r g.role_no) as (λ o. T (is_lt o)
                → cond (is_eq o) (Some g)
                (row_at role_cmp role_in r (filter (is_held_row t p) rows))
                ≡ None) [ Less ↦ λ _. rest | Equal ↦ λ x. absurd x | Greater ↦ λ x. absurd x ] lt
            | false ↦ rest
          ]
    ] (first _ _ h)

-- the row of a role among the person's is that of the pair, where its end is not yet there
held_at : (t : ℕ) (p : Name) (r : Role) (rows : List GrantRow) → IsInOrder pair_cmp pair_of rows
    → option_map role_in (row_at role_cmp role_in r (filter (is_held_row t p) rows)) ≡ cond (held_by t (row_at pair_cmp pair_of (p, r) rows))
    (Some r) None
held_at t p r [] h = refl
held_at t p r (g ∷ rows) h =
    let rest = held_at t p r rows (second _ _ h) in
    elim (name_cmp p g.person) as (λ o. name_cmp p g.person ≡ o
    → option_map role_in (row_at role_cmp role_in r (cond (if is_eq o then
    is_before t g.end_s else false) (g ∷ filter (is_held_row t p) rows) (filter (is_held_row t p) rows)))
    ≡ cond (held_by t (cond (is_eq (ordering_then o (role_cmp r g.role_no))) (Some g) (row_at pair_cmp pair_of (p, r) rows))) (Some r) None) [
      | Less ↦ λ _. rest
      | Greater ↦ λ _. rest
      | Equal ↦ λ e. elim (is_before t g.end_s) as (λ b. is_before t g.end_s ≡ b
          → option_map role_in (row_at role_cmp role_in r (cond b (g ∷ filter (is_held_row t p) rows) (filter (is_held_row t p) rows)))
          ≡ cond (held_by t (cond (is_eq (role_cmp r g.role_no)) (Some g) (row_at pair_cmp pair_of (p, r) rows))) (Some r) None) [
            | true ↦ λ before. elim (role_cmp r g.role_no) as (λ o. role_cmp r g.role_no ≡ o
                → option_map role_in (cond (is_eq o) (Some g) (row_at role_cmp role_in r (filter (is_held_row t p) rows)))
                ≡ cond (held_by t (cond (is_eq o) (Some g) (row_at pair_cmp pair_of (p, r) rows))) (Some r) None) [
                  | Less ↦ λ _. rest
                  | Greater ↦ λ _. rest
                  | Equal ↦ λ same. ap (λ x. Some x) (sym (same_roles r g.role_no same)) ∙ sym (ap (λ b. cond b (Some r) None) before)
                ] refl
            | false ↦ λ ended. elim (role_cmp r g.role_no) as (λ o. role_cmp r g.role_no ≡ o
                → option_map role_in (row_at role_cmp role_in r (filter (is_held_row t p) rows))
                ≡ cond (held_by t (cond (is_eq o) (Some g) (row_at pair_cmp pair_of (p, r) rows))) (Some r) None) [
                  | Less ↦ λ _. rest
                  | Greater ↦ λ _. rest
                  | Equal ↦ λ same.
                      let names = sym (same_names p g.person e) in
                      let roles = sym (same_roles r g.role_no same) in
                      let pair : pair_of g ≡ (p, r) = λ i. (names i, roles i) in
                      ap (option_map role_in)
                      (none_above t p r rows (subst (λ (k : Pair). T (below_all pair_cmp k (keyed_grants rows))) pair (first _ _ h)))
                      ∙ sym (ap (λ b. cond b (Some r) None) ended)
                ] refl
          ] refl
    ] refl

row_at-mapped : (r : Role) (rows : List GrantRow)
    → row_at role_cmp (λ x. x) r (map role_in rows) ≡ option_map role_in (row_at role_cmp role_in r rows)
row_at-mapped r [] = refl
row_at-mapped r (g ∷ rows) =
    elim (eq_by_cmp role_cmp r (role_in g)) as (λ b. cond b (Some (role_in g)) (row_at role_cmp (λ x. x) r (map role_in rows))
    ≡ option_map role_in (cond b (Some g) (row_at role_cmp role_in r rows))) [ true ↦ refl | false ↦ row_at-mapped r rows ]

filter-when : (q : Role → Bool) (rs : List Role) → filter q rs ≡ filter_map (λ r. when (q r) r) rs
filter-when q [] = refl
filter-when q (r ∷ rs) =
    elim (q r) as (λ b. cond b (r ∷ filter q rs) (filter q rs)
    ≡ cons_option (when b r) (filter_map (λ r. when (q r) r) rs)) [ true ↦ ap (λ xs. r ∷ xs) (filter-when q rs) | false ↦ filter-when q rs ]

each_role : (r : Role) → is_some (row_at role_cmp (λ x. x) r all_roles) ≡ true
each_role Viewer = refl
each_role _ = refl

module _ (q : Role → Bool) where
  its_key : (k r : Role) → when (q k) k ≡ Some r → r ≡ k
  its_key k r e = sym (when_Some (q k) k r e)

  told_at : (r : Role) → row_at role_cmp (λ x. x) r (filter q all_roles) ≡ cond (q r) (Some r) None
  told_at r =
      ap (row_at role_cmp (λ x. x) r) (filter-when q all_roles)
      ∙ row_at-told role_cmp (λ x. x) role_total same_roles (λ k. when (q k) k) its_key r all_roles
      ∙ ap (λ b. cond b (when (q r) r) None) (each_role r)

  told_rise : IsInOrder role_cmp (λ x. x) (filter q all_roles)
  told_rise =
      subst (IsInOrder role_cmp (λ x. x)) (sym (filter-when q all_roles))
      (IsInOrder-told role_cmp (λ x. x) role_total same_roles (λ k. when (q k) k) its_key all_roles tt)

-- the roles that rows in order show, where these are the roles whose pairs they hold
roles_among : (q : Role → Bool) (t : ℕ) (p : Name) (rows : List GrantRow) → IsInOrder pair_cmp pair_of rows
    → ((r : Role) → held_by t (row_at pair_cmp pair_of (p, r) rows) ≡ q r) → map role_in (filter (is_held_row t p) rows) ≡ filter q all_roles
roles_among q t p rows rise is =
    same_rows role_cmp (λ x. x) role_total same_roles _ _ (roles_rise t p rows rise) (told_rise q)
    (λ r. row_at-mapped r _ ∙ held_at t p r rows rise ∙ ap (λ b. cond b (Some r) None) (is r) ∙ sym (told_at q r))

any-filter : {A : Type 0} (q : A → Bool) (xs : List A) → list_any q xs ≡ is_some (slice_get (filter q xs) 0)
any-filter q [] = refl
any-filter q (x ∷ xs) =
    elim (q x) as (λ b. (b || list_any q xs)
    ≡ is_some (slice_get (cond b (x ∷ filter q xs) (filter q xs)) 0)) [ true ↦ refl | false ↦ any-filter q xs ]

-- and whether they show one
any_among : (q : Role → Bool) (t : ℕ) (p : Name) (rows : List GrantRow) → IsInOrder pair_cmp pair_of rows
    → ((r : Role) → held_by t (row_at pair_cmp pair_of (p, r) rows) ≡ q r) → list_any (is_held_row t p) rows ≡ some_role q
any_among q t p rows rise is =
    any-filter (is_held_row t p) rows
    ∙ sym (ap is_some (slice_get-map role_in (filter (is_held_row t p) rows) 0) ∙ is_some-map role_in _)
    ∙ ap (λ (rs : List Role). is_some (slice_get rs 0)) (roles_among q t p rows rise is) ∙ sym (any-filter q all_roles)

pub holds_of_rows : (t : ℕ) (p : Name) (rows : List GrantRow) → IsInOrder pair_cmp pair_of rows → list_any (is_held_row t p) rows ≡ holds_by rows t p
holds_of_rows t p rows rise = any_among (λ r. held_by t (row_at pair_cmp pair_of (p, r) rows)) t p rows rise (λ r. refl)

-- the roles that the rows of a history show are held
pub roles_of_rows : (h : List Call) (t : ℕ) (p : Name) → map role_in (filter (is_held_row t p) (grant_rows h)) ≡ roles_held h t p
roles_of_rows h t p =
    roles_among (λ r. held h t (p, r)) t p (grant_rows h) (IsInOrder-rows (grant_row h) (pairs_of h) (grants_told h)) (λ r. held_in h t (p, r))

pub any_of_rows : (h : List Call) (t : ℕ) (p : Name) → list_any (is_held_row t p) (grant_rows h) ≡ holds_any h t p
any_of_rows h t p =
    any_among (λ r. held h t (p, r)) t p (grant_rows h) (IsInOrder-rows (grant_row h) (pairs_of h) (grants_told h)) (λ r. held_in h t (p, r))
