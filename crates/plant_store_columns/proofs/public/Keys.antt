-- When SQL takes two keys for one.
use Rattle.std.specs.{Cmp.{IsTotalOrder}, FinMap.{slice_cmp-IsAntisymmetric, nat_cmp-IsAntisymmetric}, List.{AllByRecursion}}
use Rattle.std.specs.Ordering.{ordering_then, ordering_reverse}
use Rattle.std.proofs.Common.{◌≡◌, ℕ, Bool, true, false, ◌&&◌, List, [], ◌∷◌, refl, sym, ap, ap₂, ◌∙◌, Ordering, Less, Equal, Greater, is_eq, true≢false}
use Rattle.std.proofs.lemmas.Cmp.{on_total, then_total}
use Rattle.sqlite.specs.Collation.TheVariants.{Binary}
use Rattle.sqlite_value.specs.{Keys.{plain, first_key}, Order.{Row, column, value_cmp}, declared.value.Value.{Value}}
use Rattle.sqlite_value.{specs.declared.value.Value.TheVariants.{Null, Int, Real, Text, Blob}, proofs.OrderLemmas.{value_cmp_total, value_cmp-Null}}
use Rattle.sqlite_value.proofs.OrderLemmas.{value_cmp-Text}
use Rattle.sqlite_sql.{specs.Ops.{binary, is_null, is_true, from_truth}, proofs.QueryLemmas.{key_cmp_total}}
use Rattle.sqlite_schema.specs.Rules.{equal, agree}
use Rattle.plant_store_columns.specs.Kept.{by_columns}
use Rattle.plant_types.proofs.public.KeyedRowLaws.{tied}

pub by_columns_total : (ks : List ℕ) → IsTotalOrder (by_columns ks)
by_columns_total [] = key_cmp_total [] 0
by_columns_total (k ∷ ks) = then_total (on_total (λ r. column r k) value_cmp_total) (by_columns_total ks)

said : (b : Bool) → is_true (from_truth (Rattle.std.proofs.Common.Some b)) ≡ b
said true = refl
said false = refl

-- a value that is there is equal where it ties
pub equal_is : (a b : Value) → is_null b ≡ false → equal Binary a b ≡ is_eq (value_cmp a b)
unfolding binary
equal_is Null Null h = absurd (true≢false h)
equal_is Null (Int n) h = ap is_eq (sym (value_cmp-Null (Int n)))
equal_is Null (Real x) h = ap is_eq (sym (value_cmp-Null (Real x)))
equal_is Null (Text t) h = ap is_eq (sym (value_cmp-Null (Text t)))
equal_is Null (Blob t) h = ap is_eq (sym (value_cmp-Null (Blob t)))
equal_is (Int n) b h = rw h (said (is_eq (value_cmp (Int n) b)))
equal_is (Real n) b h = rw h (said (is_eq (value_cmp (Real n) b)))
equal_is (Text n) b h = rw h (said (is_eq (value_cmp (Text n) b)))
equal_is (Blob n) b h = rw h (said (is_eq (value_cmp (Blob n) b)))

turn : (o : Ordering) → is_eq (ordering_reverse o) ≡ is_eq o
turn Less = refl
turn Equal = refl
turn Greater = refl

tied_either_way : (a b : Value) → is_eq (value_cmp a b) ≡ is_eq (value_cmp b a)
tied_either_way a b = ap is_eq (value_cmp_total.antisymm a b) ∙ turn (value_cmp b a)

pub then_tied : (a b : Ordering) → is_eq (ordering_then a b) ≡ (is_eq a && is_eq b)
then_tied Less b = refl
then_tied Equal b = refl
then_tied Greater b = refl

-- texts that tie are the same
pub same_text : (a b : List ℕ) → is_eq (value_cmp (Text a) (Text b)) ≡ true → a ≡ b
same_text a b h = slice_cmp-IsAntisymmetric nat_cmp-IsAntisymmetric a b (sym (value_cmp-Text a b) ∙ tied _ _ h refl)

-- no key column is NULL
abbrev pub HasKey : List ℕ → Row → Type 0
HasKey ks r = AllByRecursion (λ k. is_null (column r k) ≡ false) ks

-- the key of the first agrees with that of the second exactly where they tie
pub agree_is : (ks : List ℕ) (r new : Row) → HasKey ks new → agree plain ks r ks new ≡ is_eq (by_columns ks new r)
unfolding first_key
agree_is [] r new h = refl
agree_is (k ∷ ks) r new h =
    ap₂ ◌&&◌ (equal_is (column r k) (column new k) h.0 ∙ tied_either_way (column r k) (column new k)) (agree_is ks r new h.1)
    ∙ sym (then_tied (value_cmp (column new k) (column r k)) (by_columns ks new r))
