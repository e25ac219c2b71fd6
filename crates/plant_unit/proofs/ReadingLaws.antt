-- What is read from rows.
use Rattle.std.{specs.{List.{cons_option, list_all, list_any, slice_get, range_with_len}, Result.{result_ok}}, proofs.lemmas.List.Folds.{find_at}}
use Rattle.std.proofs.lemmas.List.{map-append, nil_from_length, FromFn.{filter_of_map_range_with_len_more}, Sums.{AllPass-from_list_all}}
use Rattle.std.proofs.Common.{find, IfOk, filter_map, option_and_then, option_map, option_to_list, unwrap_or, ◌-◌, ◌||◌, Bool, List, None, Option, Result, Some, [], false, filter, length, map, not, true, ℕ, ◌&&◌, ◌++◌, ◌+◌, ◌==◌, ◌∷◌, ◌≡◌, ap, arith, cond, get_or, refl, subst, sym, take, ◌<◌, ◌∙◌, append-nil}
use Rattle.std.proofs.lemmas.{Option.{get_or_from_slice_get, slice_get_within}, Bool.{eqb-true}}
use Rattle.plant_model.{specs.{Histories.{same_number}, Refusals.{has_row}}, proofs.public.HistoryLaws.{when_Some}}
use Rattle.plant_model.specs.steps.RowFacts.{change_found, facts_in, record_found, record_from, record_read, sheet_read, unit_read, cells_at, has_cells, matrix_read}
use Rattle.plant_model.specs.declared.{reply.RecordRow.{RecordRow}, rows.{BandRow.{BandRow}, CellRow.{CellRow}, ChangeEntry.{ChangeEntry}}}
use Rattle.plant_model.specs.declared.rows.{RecordEntry.{RecordEntry}, UnitPart.{UnitPart}, UnitRow.{UnitRow}, UnitRows.{UnitRows}}
use Rattle.plant_ration.specs.{Grid.{Grid}, Matrix.{row_of, has_shape, is_matrix, is_ordered, is_rising, made_or, matrix_of}}
use Rattle.plant_ration.specs.declared.cell.{Cell.{Cell}, MatrixFault.{MatrixFault, TheVariants.{BandsNotRising, NotOrdered, Shape}}}
use Rattle.plant_types.specs.{Names.{Name, same_name}, Options.{when}}
use Rattle.plant_unit.{specs.Additions.{AreKept}, proofs.public.Loops.{filter_map_more}}
use Rattle.plant_unit.specs.Readings.{has_its_sheet, has_sheet, is_left_out, is_matrix_at, is_outside, sheet_found, matrix_found}

-- one more row of a matrix, where there are cells
filled : (row : List Cell) → (length row == 0) ≡ false → has_cells row ≡ true
filled [] e = cc
filled (c ∷ row) e = refl

module _ {V : Type 0} (items : V → List Cell) (row_of : ℕ → List Cell) where
  next_row : (k : ℕ)
      → filter has_cells (map row_of (range_with_len 1 (k + 1))) ≡ filter has_cells (map row_of (range_with_len 1 k))
      ++ cond (has_cells (row_of (k + 1))) (row_of (k + 1) ∷ []) []
  next_row k = filter_of_map_range_with_len_more has_cells row_of 1 k (k + 1) (omega arith)

  pub row_pushed : (old new : List V) (row : V) (k : ℕ) → new ≡ old ++ row ∷ [] → (length (items row) == 0) ≡ false → items row ≡ row_of (k + 1)
      → map items old ≡ filter has_cells (map row_of (range_with_len 1 k))
      → map items new ≡ filter has_cells (map row_of (range_with_len 1 (k + 1)))
  row_pushed old new row k pushed some is so =
      let test : has_cells (row_of (k + 1)) ≡ true = ap has_cells (sym is) ∙ filled (items row) some in
      ap (map items) pushed ∙ map-append items old (row ∷ []) ∙ (λ i. so i ++ is i ∷ [])
      ∙ ap (λ b. filter has_cells (map row_of (range_with_len 1 k)) ++ cond b (row_of (k + 1) ∷ []) []) (sym test) ∙ sym (next_row k)

  pub row_left : (old : List V) (row : V) (k : ℕ) → (length (items row) == 0) ≡ true → items row ≡ row_of (k + 1)
      → map items old ≡ filter has_cells (map row_of (range_with_len 1 k))
      → map items old ≡ filter has_cells (map row_of (range_with_len 1 (k + 1)))
  row_left old row k none is so =
      let test : has_cells (row_of (k + 1)) ≡ false = ap has_cells (sym is)
      ∙ ap has_cells (nil_from_length (items row) (eqb-true (length (items row)) 0 none)) in
      so ∙ sym (append-nil _)
      ∙ ap (λ b. filter has_cells (map row_of (range_with_len 1 k)) ++ cond b (row_of (k + 1) ∷ []) []) (sym test) ∙ sym (next_row k)

-- what is made of limits and rows, where that is a matrix
pub matrix_when : (limits : List ℕ) (rows : List (List Cell))
    → result_ok (matrix_of limits rows) ≡ when (is_matrix limits rows) (record { limits = limits; cells = rows })
matrix_when limits rows = by (has_shape limits rows) (is_rising limits) (is_ordered rows)
  where
    by : (a b c : Bool)
        → result_ok (made_or (cond (not a) (Some Shape) (cond (not b) (Some BandsNotRising) (cond (not c) (Some NotOrdered) None))) limits rows)
        ≡ when (a && b && c) (record { limits = limits; cells = rows })
    by true true true = refl
    by _ _ _ = refl

pub matrix_made : {V : Type 0} (items : V → List Cell) (rows : UnitRows) (n : ℕ) (o : Option Grid) (made : Result Grid MatrixFault) (limits : List ℕ)
    (cells : List V) (bands : List BandRow) (all : List CellRow)
    → o ≡ result_ok made → made ≡ matrix_of limits (map items cells) → bands ≡ rows.bands → all ≡ rows.cells
    → limits ≡ map (λ b. b.limit_s) (filter (λ b. same_number n b.matrix_no) bands)
    → map items cells ≡ filter has_cells (map (cells_at all n) (range_with_len 1 5)) → o ≡ matrix_found rows n
matrix_made items rows n o made limits cells bands all is by eb ea el ec =
    let read : limits ≡ (matrix_read rows n).limits = el ∙ ap (λ bs. map (λ b. b.limit_s) (filter (λ b. same_number n b.matrix_no) bs)) eb in
    let filled : map items cells ≡ (matrix_read rows n).cells = ec ∙ ap (λ cs. filter has_cells (map (cells_at cs n) (range_with_len 1 5))) ea in
    is ∙ ap result_ok by ∙ (λ i. result_ok (matrix_of (read i) (filled i))) ∙ matrix_when (matrix_read rows n).limits (matrix_read rows n).cells

pub mapped_when : {A B : Type 0} (f : A → B) (b : Bool) (x : A) → option_map f (when b x) ≡ when b (f x)
mapped_when f true x = refl
mapped_when f false x = refl

-- the matrix in force: what is found is what is read, and where none is found no cell is there
no_cells : (out whole : Bool) (g : Grid) → (length g.cells == 0) ≡ out → None ≡ when whole g → (out || whole) ≡ true → g.cells ≡ []
no_cells true whole g e none h = nil_from_length g.cells (eqb-true (length g.cells) 0 e)
no_cells false true g e none h = cc
no_cells false false g e none h = cc

pub in_force_read : (part : UnitPart) (u : UnitRow) (m : Grid) → unit_read part.rows ≡ u → Some m ≡ matrix_found part.rows u.matrix_no
    → m ≡ (facts_in part).matrix
in_force_read part u m is found = sym (when_Some (is_matrix_at part.rows u.matrix_no) (matrix_read part.rows u.matrix_no) m (sym found))
    ∙ ap (λ (x : UnitRow). matrix_read part.rows x.matrix_no) (sym is)

pub in_force_none : (part : UnitPart) (u : UnitRow) → AreKept part → unit_read part.rows ≡ u → None ≡ matrix_found part.rows u.matrix_no
    → (facts_in part).matrix.cells ≡ []
in_force_none part u kept is none =
    let n : ℕ = (unit_read part.rows).matrix_no in
    no_cells (is_left_out part.rows n) (is_matrix_at part.rows n)
    (matrix_read part.rows n) refl (none ∙ ap (λ (x : UnitRow). matrix_found part.rows x.matrix_no) (sym is)) kept.matrix_whole

pub no_row : (m : Grid) (severity : ℕ) → m.cells ≡ [] → row_of m severity ≡ None
no_row m severity e =
    ap (λ (rows : List (List Cell)). cond (severity == 0) None (slice_get rows (severity - 1))) e
    ∙ elim (severity == 0) as (λ b. cond b None (let none : Option (List Cell) = slice_get [] (severity - 1) in none)
    ≡ None) [ true ↦ refl | false ↦ refl ]

-- a test of the records that can be read
pub any_told : {X Y : Type 0} (g : Y → Bool) (f : X → Option Y) (xs : List X)
    → list_any (λ x. unwrap_or (option_map g (f x)) false) xs ≡ list_any g (filter_map f xs)
any_told g f [] = refl
any_told g f (x ∷ xs) =
    elim (f x) as (λ o. (unwrap_or (option_map g o) false || list_any (λ y. unwrap_or (option_map g (f y)) false) xs)
    ≡ list_any g (cons_option o (filter_map f xs))) [ None ↦ any_told g f xs | Some y ↦ ap (λ b. g y || b) (any_told g f xs) ]

pub outside_told : (m : Grid) (rows : UnitRows) (records : List RecordEntry)
    → list_any (is_outside m rows) records ≡ list_any (λ r. not (has_row m r.severity)) (filter_map (record_read rows) records)
unfolding is_outside
outside_told m rows records = any_told (λ r. not (has_row m r.severity)) (record_read rows) records

-- a row that is found in a list passes what all of it pass
pub found_passes : {X : Type 0} (p q : X → Bool) (xs : List X) (x : X) → list_all q xs ≡ true → find p xs ≡ Some x → q x ≡ true
found_passes p q xs x all is =
    let at = sym (find_at p xs) ∙ is in
    ap q (sym (get_or_from_slice_get xs _ x x at)) ∙ AllPass-from_list_all q xs all _ x (slice_get_within xs _ x at)

-- the record of an alarm
pub rationale_read : {E : Type 0} (part : UnitPart) (a : Name) (r : RecordEntry) (c : ChangeEntry) (x : Result (Option RecordRow) E) → AreKept part
    → Some r ≡ record_found part.rows a → Some c ≡ change_found part.rows r.change_no
    → IfOk x (λ found. found ≡ option_map (record_from r) (sheet_found c)) → IfOk x (λ found. found ≡ (facts_in part).rationale a)
rationale_read part a r c x kept row source told =
    let its : has_its_sheet part.rows r ≡ true =
    found_passes (λ y. same_name a y.tag) (has_its_sheet part.rows) part.rows.records r kept.records_whole (sym row) in
    let whole : has_sheet c ≡ true = ap (λ (o : Option ChangeEntry). unwrap_or (option_map has_sheet o) true) source ∙ its in
    let read : Some (record_from r (sheet_read c)) ≡ (facts_in part).rationale a =
    ap (λ (o : Option ChangeEntry). option_map (λ y. record_from r (sheet_read y)) o) source
    ∙ ap (λ (o : Option RecordEntry). option_and_then (record_read part.rows) o) row in
    rw (← read) (subst (λ b. IfOk x (λ found. found ≡ option_map (record_from r) (when b (sheet_read c)))) whole told)

pub each_passes : {X : Type 0} (q : X → Bool) (xs : List X) (i : ℕ) (x : X) → list_all q xs ≡ true → i < length xs → x ≡ get_or xs i x → q x ≡ true
each_passes q xs i x all lt is = ap q is ∙ AllPass-from_list_all q xs all i x lt

-- one more record with its priority
pub told_more : {X Y E C : Type 0} (f : X → Option Y) (g : Y → E) (put : E → C) (xs : List X) (i : ℕ) (x : X) (o : Option E) → i < length xs
    → o ≡ option_map g (f x) → x ≡ get_or xs i x
    → map (λ y. put (g y)) (filter_map f (take (i + 1) xs)) ≡ map (λ y. put (g y)) (filter_map f (take i xs)) ++ map put (option_to_list o)
told_more {C = C} f g put xs i x o lt told is =
    ap (map (λ y. put (g y))) (filter_map_more f xs i x (f x) lt (ap f (sym is)))
    ∙ map-append (λ y. put (g y)) (filter_map f (take i xs)) (option_to_list (f x))
    ∙ ap (λ (l : List C). map (λ y. put (g y)) (filter_map f (take i xs)) ++ l)
    (elim (f x) as (λ p. map (λ y. put (g y)) (option_to_list p) ≡ map put (option_to_list (option_map g p))) [ None ↦ refl | Some y ↦ refl ]
    ∙ ap (λ p. map put (option_to_list p)) (sym told))
