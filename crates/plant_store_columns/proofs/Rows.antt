-- The rows of a tree, under what a statement takes out of it and puts in.
use Rattle.std.specs.List.{AllByRecursion, list_any}
use Rattle.std.proofs.Common.{◌≡◌, inl, inr, ℤ, ◌<ℤ◌, Bool, true, false, not, ◌||◌, cond, List, [], ◌∷◌, ◌++◌, filter, refl, sym, ap, ap₂, ◌∙◌, subst, Less, Equal, is_eq, true≢false}
use Rattle.std.proofs.lemmas.{Bool.{false_from_ne_true}, Cmp.{tied_itself}}
use Rattle.sqlite_value.{specs.{Order.{Row, value_cmp}, declared.value.Value.TheVariants.{Int}}, proofs.OrderLemmas.{value_cmp_total, value_cmp-Int}}
use Rattle.sqlite_trees.specs.Tree.{rowid, has_rowid, put_row, without_rowid}
use Rattle.sqlite_keyed.{specs.Keyed.{IsKeyedBy}, proofs.KeyedLemmas.{lt_from_Less, Less-from_lt, above_all}}
use Rattle.sqlite_rules.specs.{Calls.{ids_of}, Edit.{id_in, next_rowid, without_all}, Lists.{Has}}
use Rattle.sqlite_rules.proofs.{ListLemmas.{all_has, all_from, some_has, some_from}, PlaceLemmas.{tied_same}, ProbeLemmas.{has_mapped, mapped_has}}
use Rattle.sqlite_rules.proofs.TableLemmas.{int_is}
use Rattle.plant_store_columns.specs.Tidy.{AreRows}
use Rattle.plant_types.proofs.public.KeyedRowLaws.{tied}
use Rattle.plant_model.proofs.public.PartLists.{filter-true}

-- the rowids of the rows that pass the test, and no other
pub record AreFound (p : Row → Bool) (rows found : List Row) : Type 0 where
  pub sound : (x : Row) → Has found x → (r : Row) × Has rows r × (p r ≡ true) × (x ≡ rowid r ∷ [])
  pub complete : (r : Row) → Has rows r → p r ≡ true → Has found (rowid r ∷ [])

filter_on : (p q : Row → Bool) (rows : List Row) → ((r : Row) → Has rows r → p r ≡ q r) → filter p rows ≡ filter q rows
filter_on p q [] same = refl
filter_on p q (r ∷ rows) same = ap₂ (λ b l. cond b (r ∷ l) l) (same r (inl refl)) (filter_on p q rows (λ s h. same s (inr h)))

filter_both : (p q : Row → Bool) (rows : List Row) → filter (λ r. not (q r)) (filter (λ r. not (p r)) rows) ≡ filter (λ r. not (p r || q r)) rows
filter_both p q [] = refl
filter_both p q (r ∷ rows) =
    elim (p r) as (λ b. filter (λ r. not (q r)) (cond (not b) (r ∷ filter (λ r. not (p r)) rows) (filter (λ r. not (p r)) rows))
    ≡ cond (not (b || q r)) (r ∷ filter (λ r. not (p r || q r)) rows) (filter (λ r. not (p r || q r)) rows))
    [ true ↦ filter_both p q rows | false ↦ ap (λ l. cond (not (q r)) (r ∷ l) l) (filter_both p q rows) ]

has_any : List ℤ → Row → Bool
has_any ids r = list_any (λ id. has_rowid id r) ids

without_all_is : (ids : List ℤ) (rows : List Row) → without_all rows ids ≡ filter (λ r. not (has_any ids r)) rows
unfolding has_any
without_all_is [] rows = sym (filter-true rows)
without_all_is (id ∷ ids) rows = without_all_is ids (without_rowid id rows) ∙ filter_both (has_rowid id) (has_any ids) rows

-- taking out the rowids that were found leaves the rows that do not pass
pub without_found : (p : Row → Bool) (rows found : List Row) → AreRows rows → AreFound p rows found
    → without_all rows (ids_of found) ≡ filter (λ r. not (p r)) rows
unfolding has_any
without_found p rows found are it = without_all_is (ids_of found) rows
    ∙ filter_on (λ r. not (has_any (ids_of found) r)) (λ r. not (p r)) rows (λ r h. ap not (same r h))
  where
    int_at : (r : Row) → Has rows r → rowid r ≡ Int (id_in (rowid r))
    int_at r h = int_is (rowid r) (all_has _ rows r are.ints h)

    goes : (r : Row) → Has rows r → p r ≡ true → has_any (ids_of found) r ≡ true
    goes r h e = some_from (λ id. has_rowid id r) (ids_of found) (id_in (rowid r)) (mapped_has (λ r. id_in (rowid r)) found _ (it.complete r h e))
        (subst (λ v. is_eq (value_cmp (rowid r) v) ≡ true) (int_at r h) (ap is_eq (tied_itself value_cmp_total (rowid r))))

    stays : (r : Row) → Has rows r → has_any (ids_of found) r ≡ true → p r ≡ true
    stays r h e =
        let one = some_has (λ id. has_rowid id r) (ids_of found) e in
        let from = has_mapped (λ r. id_in (rowid r)) found one.0 one.1 in
        let other = it.sound from.0 from.1 in
        let id : one.0 ≡ id_in (rowid other.0) = from.2 ∙ ap (λ x. id_in (rowid x)) other.3 in
        let tie : value_cmp (rowid r) (rowid other.0) ≡ Equal =
        tied _ _ (subst (λ v. is_eq (value_cmp (rowid r) v) ≡ true) (ap Int id ∙ sym (int_at other.0 other.1)) one.2) refl in
        ap p (tied_same rows r other.0 are.rise h other.1 tie) ∙ other.2

    same : (r : Row) → Has rows r → has_any (ids_of found) r ≡ p r
    same r h = go (p r) refl
      where
        go : (b : Bool) → p r ≡ b → has_any (ids_of found) r ≡ b
        go true e = goes r h e
        go false e = false_from_ne_true _ (λ k. true≢false (sym (stays r h k) ∙ e))

-- ---- the next rowid

keyed_from : (rows : List Row) → AreRows rows → IsKeyedBy (λ r. id_in (rowid r)) rows
keyed_from [] are = tt
keyed_from (r ∷ rows) are = (
  all_from _ rows (λ s h.
      let less : value_cmp (Int (id_in (rowid r))) (Int (id_in (rowid s))) ≡ Less =
      ap₂ value_cmp (sym (int_is (rowid r) are.ints.0)) (sym (int_is (rowid s) (all_has _ rows s are.ints.1 h)))
      ∙ all_has _ rows s are.rise.0 h in
      lt_from_Less _ _ (sym (value_cmp-Int _ _) ∙ less)),
  keyed_from rows (record { rise = are.rise.1; ints = are.ints.1 }),
)

below_next_ids : (rows : List Row) → AreRows rows → AllByRecursion (λ r. id_in (rowid r) <ℤ next_rowid rows) rows
below_next_ids [] are = tt
below_next_ids (r ∷ rows) are = above_all (λ s. id_in (rowid s)) rows r (keyed_from (r ∷ rows) are)

-- the next rowid is above each that is there
pub below_next : (rows : List Row) → AreRows rows → AllByRecursion (λ r. value_cmp (rowid r) (Int (next_rowid rows)) ≡ Less) rows
below_next rows are = all_from _ rows (λ r h.
    ap (λ v. value_cmp v (Int (next_rowid rows))) (int_is (rowid r) (all_has _ rows r are.ints h))
    ∙ value_cmp-Int _ _ ∙ Less-from_lt _ _ (all_has _ rows r (below_next_ids rows are) h))

pub put_last : (new : Row) (rows : List Row) → AllByRecursion (λ r. value_cmp (rowid r) (rowid new) ≡ Less) rows → put_row new rows ≡ rows ++ new ∷ []
put_last new [] all = refl
put_last new (r ∷ rows) all = rw all.0 (ap (λ l. r ∷ l) (put_last new rows all.1))
