-- A person's lines of shelves stand by unit, role and tag, and no two compare as equal.
use Rattle.std.specs.{Cmp.{IsTotalOrder}, FinMap.{entries, entries_sorted, keys}, List.{AllByRecursion}, List.Sorted.{IsStrictlySortedBy}, Ordering.{nat_cmp, ordering_then}}
use Rattle.std.proofs.Common.{◌≡◌, ℕ, Bool, true, List, [], ◌∷◌, filter, flat_map, map, sym, ap, ◌∙◌, subst, Equal, Less, Ordering, IsPermutation, IsSorted}
use Rattle.std.proofs.lemmas.{Cmp.{nat_cmp_total, on_total, then_total, tied_itself}, List.Sorted.{IsPermutation-trans}}
use Rattle.sqlite.specs.State.{State}
use Rattle.sqlite_keyed.proofs.{ListLemmas.{all-flat_map, all-map, all_of, ascending-filter, ascending-map, ascending_weaker}, SortLemmas.{sorted_unique}}
use Rattle.sqlite_trees.specs.Tree.{IsAscending}
use Rattle.plant_books.specs.Contents.{Content, rows_in}
use Rattle.plant_store_columns.specs.{Tables.{grant_shape, shelf_shape}, declared.tables.TableKind.TheVariants.{Grants, Shelves}}
use Rattle.plant_store_columns.proofs.public.{Bridge.{AreRising}, ShapeLaws.{good}, Shapes.{rising as rows_rise}}
use Rattle.plant_model.specs.declared.rows.{GrantRow.{GrantRow}, ShelfRow.{ShelfRow}}
use Rattle.plant_model.specs.steps.RowFacts.{pair_of, shelf_tag}
use Rattle.plant_store_statements.specs.Keeping.{HasContent}
use Rattle.plant_store.specs.{Mine.{line_cmp, shelf_line, own_shelf_lines}, declared.shelves.ShelfGrant.{ShelfGrant}}
use Rattle.plant_store.proofs.{Holdings.{rising}, Joins.{passing, rising-flat_map}}
use Rattle.plant_store_statements.proofs.public.Contents.{same_codes}
use Rattle.plant_types.{specs.{Names.{Name, name_cmp, same_name}, Roles.{pair_cmp, role_no}}, proofs.public.Orders.{name_total}}

pub line_cmp_total : IsTotalOrder line_cmp
line_cmp_total =
    then_total (then_total (on_total (λ (l : ShelfGrant). l.unit) name_total) (on_total (λ (l : ShelfGrant). role_no l.role_no) nat_cmp_total))
    (on_total (λ (l : ShelfGrant). l.shelf.tag) name_total)

abbrev pub by_role : GrantRow → GrantRow → Ordering
by_role g h = nat_cmp (role_no g.role_no) (role_no h.role_no)

-- grants of one person that rise by person and role rise by role
roles_rise : (p : Name) (gs : List GrantRow) → AllByRecursion (λ g. same_name p g.person ≡ true) gs → AreRising pair_cmp pair_of gs
    → IsAscending (λ g h. by_role g h ≡ Less) gs
roles_rise p [] own up = tt
roles_rise p (g ∷ gs) own up = (far gs own.1 up.0, roles_rise p gs own.1 up.1)
  where
    far : (hs : List GrantRow) → AllByRecursion (λ h. same_name p h.person ≡ true) hs
        → AllByRecursion (λ h. pair_cmp (pair_of g) (pair_of h) ≡ Less) hs → AllByRecursion (λ h. by_role g h ≡ Less) hs
    far [] all less = tt
    far (h ∷ hs) all less =
        let same : h.person ≡ g.person = sym (same_codes p h.person all.0) ∙ same_codes p g.person own.0 in
        let tie = ap (name_cmp g.person) same ∙ tied_itself name_total g.person in
        (sym (ap (λ o. ordering_then o (by_role g h)) tie) ∙ less.0, far hs all.1 less.1)

module _ (s : State) (m : Content) (k : HasContent s m) (p : Name) where
  abbrev own : Name → List GrantRow
  own u = filter (λ g. same_name p g.person) (rows_in m u).grants

  pub own_rise : (u : Name)
      → IsAscending (λ (g h : GrantRow). nat_cmp (role_no g.role_no) (role_no h.role_no) ≡ Less)
      (filter (λ g. same_name p g.person) (rows_in m u).grants)
  own_rise u =
      roles_rise p (own u) (passing (λ g. same_name p g.person) (rows_in m u).grants)
      (ascending-filter _ (λ g. same_name p g.person) (rows_in m u).grants
      (subst (AreRising pair_cmp pair_of) (k.seen u Grants) (rows_rise grant_shape (good Grants) u (s.now.trees 3) (k.books.tidy Grants))))

  tags_rise : (u : Name) → AreRising name_cmp shelf_tag (rows_in m u).shelves
  tags_rise u =
      subst (AreRising name_cmp shelf_tag) (k.seen u Shelves) (rows_rise shelf_shape (good Shelves) u (s.now.trees 7) (k.books.tidy Shelves))

  abbrev R : ShelfGrant → ShelfGrant → Type 0
  R a b = line_cmp a b ≡ Less

  -- the shelves of one unit beside one grant, and beside each grant
  in_grant : (u : Name) (g : GrantRow) → IsAscending (λ (a b : ShelfGrant). line_cmp a b ≡ Less) (map (shelf_line m u g) (rows_in m u).shelves)
  in_grant u g =
      let tie = ap (λ o. ordering_then o (by_role g g)) (tied_itself name_total u) ∙ tied_itself nat_cmp_total (role_no g.role_no) in
      ascending-map _ (shelf_line m u g)
      (rows_in m u).shelves (ascending_weaker _ _ (λ (a b : ShelfRow) less. ap (λ o. ordering_then o (name_cmp a.tag b.tag)) tie
      ∙ less) _ (tags_rise u))

  in_unit : (u : Name) → IsAscending (λ (a b : ShelfGrant). line_cmp a b ≡ Less) (flat_map (λ g. map (shelf_line m u g) (rows_in m u).shelves) (own u))
  in_unit u =
      rising-flat_map (λ g h. by_role g h ≡ Less) _ (λ g. map (shelf_line m u g) (rows_in m u).shelves) (in_grant u) across (own u) (own_rise u)
    where
      across : (g h : GrantRow) → by_role g h ≡ Less
          → AllByRecursion (λ x. AllByRecursion (λ y. line_cmp x y ≡ Less) (map (shelf_line m u h) (rows_in m u).shelves))
          (map (shelf_line m u g) (rows_in m u).shelves)
      across g h less =
          let first = ap (λ o. ordering_then o (by_role g h)) (tied_itself name_total u) ∙ less in
          let ss = (rows_in m u).shelves in
          all-map _ (shelf_line m u g) (λ a. all-map _ (shelf_line m u h) (λ b. ap (λ o. ordering_then o (name_cmp a.tag b.tag)) first) ss) ss

  abbrev lines_in : Name → List ShelfGrant
  lines_in u = flat_map (λ g. map (shelf_line m u g) (rows_in m u).shelves) (filter (λ g. same_name p g.person) (rows_in m u).grants)

  -- those of one unit stand before those of a later one
  apart : (u v : Name) → name_cmp u v ≡ Less → AllByRecursion (λ x. AllByRecursion (λ y. line_cmp x y ≡ Less) (lines_in v)) (lines_in u)
  apart u v less =
      let before : (g h : GrantRow) (a b : ShelfRow)
      → line_cmp (shelf_line m u g a) (shelf_line m v h b) ≡ Less =
      λ g h a b. ap (λ o. ordering_then (ordering_then o (by_role g h)) (name_cmp a.tag b.tag)) less in
      let ss = (rows_in m u).shelves in
      let ts = (rows_in m v).shelves in
      all-flat_map _ (λ g. map (shelf_line m u g) ss) (own u)
      (all_of _
      (λ g. all-map _ (shelf_line m u g)
      (λ a. all-flat_map _ (λ h. map (shelf_line m v h) ts) (own v) (all_of _ (λ h. all-map _ (shelf_line m v h) (λ b. before g h a b) ts) (own v)))
      ss) (own u))

  names_rise : (us : List Name) → IsStrictlySortedBy name_cmp us → IsAscending (λ u v. name_cmp u v ≡ Less) us
  unfolding IsStrictlySortedBy
  names_rise [] up = tt
  names_rise (u ∷ us) up = (up.0, names_rise us up.1)

  lines_rise : IsAscending (λ (a b : ShelfGrant). line_cmp a b ≡ Less) (own_shelf_lines m p)
  lines_rise =
      rising-flat_map (λ u v. name_cmp u v ≡ Less) _ lines_in in_unit apart (keys m.units)
      (names_rise (keys m.units) (rising (entries m.units) (entries_sorted m.units)))

  -- so these lines have one order by unit, role and tag, however they were read
  pub one_order : (read lines : List ShelfGrant) → IsPermutation (own_shelf_lines m p) read → IsPermutation read lines → IsSorted line_cmp lines
      → lines ≡ own_shelf_lines m p
  one_order read lines same moved sorted =
      sorted_unique line_cmp line_cmp_total (own_shelf_lines m p) lines lines_rise (IsPermutation-trans _ _ _ same moved) sorted
