-- Rows that pass a test: what is found or read where the test holds is what all rows give.
use Rattle.std.{specs.{Cmp.{eq_by_cmp_equiv}, List.{list_any}, Ordering.{eq_by_cmp}}, proofs.lemmas.Bool.{or_left, false_from_ne_true}}
use Rattle.std.proofs.Common.{ap, cond, refl, sym, ◌∙◌, Bool, List, None, Option, Some, [], false, filter, map, option_and_then, option_map, true, ℕ, ◌&&◌, ◌||◌, ◌∷◌, ◌≡◌, Ordering}
use Rattle.plant_model.{proofs.public.{FactLaws.{same_number_of, is_same_number}, RowsFound.{find_passes}}, specs.Histories.{same_number}}
use Rattle.plant_model.specs.declared.rows.{BandRow.{BandRow}, CellRow.{CellRow}, RecordEntry.{RecordEntry}}
use Rattle.plant_model.specs.steps.RowFacts.{cells_at, record_tag}
use Rattle.plant_types.{specs.{KeyedRows.{row_at}, Names.{Name, name_cmp, same_name}}, proofs.public.{KeyedRowLaws.{tied}, Halves.{left}}}
use Rattle.plant_types.proofs.public.Orders.{name_total, same_names}

pub filter-true : {X : Type 0} (xs : List X) → filter (λ x. true) xs ≡ xs
filter-true [] = refl
filter-true (x ∷ xs) = ap (λ ys. x ∷ ys) (filter-true xs)

-- rows that pass a narrower test all pass the wider one
pub filter-within : {X : Type 0} (narrow wide : X → Bool) → ((x : X) → narrow x ≡ true → wide x ≡ true) → (xs : List X)
    → filter narrow (filter wide xs) ≡ filter narrow xs
filter-within narrow wide passes [] = refl
filter-within narrow wide passes (x ∷ xs) =
    elim (wide x) as (λ b. wide x ≡ b
    → filter narrow (cond b (x ∷ filter wide xs) (filter wide xs)) ≡ cond (narrow x) (x ∷ filter narrow xs) (filter narrow xs)) [
      | true ↦ λ _. ap (λ ys. cond (narrow x) (x ∷ ys) ys) (filter-within narrow wide passes xs)
      | false ↦ λ no. filter-within narrow wide passes xs
          ∙ sym (ap (λ b. cond b (x
          ∷ filter narrow xs) (filter narrow xs)) (false_from_ne_true (narrow x) (λ e. let t : true ≡ false = sym (passes x e) ∙ no in cc)))
    ] refl

-- a row stays where its key's rows pass
pub row_at-filter : {K X : Type 0} (R : K → K → Ordering) (key : X → K) (k : K) (test : X → Bool)
    → ((r : X) → eq_by_cmp R k (key r) ≡ true → test r ≡ true) → (rows : List X) → row_at R key k (filter test rows) ≡ row_at R key k rows
row_at-filter R key k test passes [] = refl
row_at-filter R key k test passes (r ∷ rows) =
    elim (test r) as (λ b. test r ≡ b
    → row_at R key k (cond b (r ∷ filter test rows) (filter test rows)) ≡ cond (eq_by_cmp R k (key r)) (Some r) (row_at R key k rows)) [
      | true ↦ λ _. ap (cond (eq_by_cmp R k (key r)) (Some r)) (row_at-filter R key k test passes rows)
      | false ↦ λ no. row_at-filter R key k test passes rows
          ∙ sym (ap (λ b. cond b (Some r) (row_at R key k rows)) (false_from_ne_true (eq_by_cmp R k (key r)) (λ e. let t : true
          ≡ false = sym (passes r e) ∙ no in cc)))
    ] refl

-- the row that is found has the key
pub row_at-key : {K X : Type 0} (R : K → K → Ordering) (key : X → K) (k : K) (rows : List X) (r : X) → row_at R key k rows ≡ Some r
    → eq_by_cmp R k (key r) ≡ true
row_at-key R key k = find_passes (λ r. eq_by_cmp R k (key r))

-- two readings that agree on what is there
pub map-same : {A B : Type 0} (f g : A → B) (o : Option A) → ((x : A) → o ≡ Some x → f x ≡ g x) → option_map f o ≡ option_map g o
map-same f g None same = refl
map-same f g (Some x) same = ap (λ y. Some y) (same x refl)

pub then-same : {A B : Type 0} (f g : A → Option B) (o : Option A) → ((x : A) → o ≡ Some x → f x ≡ g x) → option_and_then f o ≡ option_and_then g o
then-same f g None same = refl
then-same f g (Some x) same = same x refl

-- a test of numbers holds of a number that is the same
pub passes_number : (test : ℕ → Bool) (n m : ℕ) → test n ≡ true → same_number n m ≡ true → test m ≡ true
passes_number test n m holds same = ap test (sym (same_number_of n m same)) ∙ holds

pub itself_name : (a : Name) → same_name a a ≡ true
itself_name a = (eq_by_cmp_equiv name_total).refl a

-- and a test of names of a name that is the same
pub passes_name : (test : Name → Bool) (a b : Name) → test a ≡ true → same_name a b ≡ true → test b ≡ true
passes_name test a b holds same = ap test (sym (same_names a b (tied _ true same refl))) ∙ holds

-- Matrices: the limits and cells of a number that passes
pub limits_within : (test : ℕ → Bool) (n : ℕ) → test n ≡ true → (bands : List BandRow)
    → filter (λ (b : BandRow). same_number n b.matrix_no)
    (filter (λ (b : BandRow). test b.matrix_no) bands) ≡ filter (λ (b : BandRow). same_number n b.matrix_no) bands
limits_within test n holds bands =
    filter-within (λ b. same_number n b.matrix_no) (λ b. test b.matrix_no) (λ b e. passes_number test n b.matrix_no holds e) bands

pub cells_within : (test : ℕ → Bool) (n : ℕ) → test n ≡ true → (cells : List CellRow) (severity : ℕ)
    → cells_at (filter (λ (c : CellRow). test c.matrix_no) cells) n severity ≡ cells_at cells n severity
cells_within test n holds cells severity =
    ap (map (λ (c : CellRow). c.cell_no))
    (filter-within (λ c. same_number n c.matrix_no
    && same_number severity c.severity) (λ c. test c.matrix_no) (λ c e. passes_number test n c.matrix_no holds (left _ _ e)) cells)

-- the record that is found is among the sources of its change
pub source_found : (a : Name) (records : List RecordEntry) (r : RecordEntry) → row_at name_cmp record_tag a records ≡ Some r
    → list_any (λ (x : RecordEntry). same_name a x.tag && same_number r.change_no x.change_no) records ≡ true
source_found a [] r e = cc
source_found a (x ∷ records) r e =
    elim (same_name a x.tag) as (λ b. cond b (Some x) (row_at name_cmp record_tag a records) ≡ Some r
    → ((b && same_number r.change_no x.change_no)
    || list_any (λ (x : RecordEntry). same_name a x.tag && same_number r.change_no x.change_no) records) ≡ true) [
      | true ↦ λ some. let same : x ≡ r = cc in
          or_left _ _ (ap (λ (y : RecordEntry). same_number r.change_no y.change_no) same ∙ is_same_number r.change_no)
      | false ↦ λ rest. source_found a records r rest
    ] e
