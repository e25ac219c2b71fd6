-- Rows that are put one after another.
use Rattle.std.specs.{Cmp.{IsTotalOrder}, List.{cons_option, list_any}, Ordering.{eq_by_cmp}, FinMap.Entries.{by_order}}
use Rattle.std.proofs.Common.{ap, refl, sym, ◌∙◌, Bool, List, None, Option, Some, [], cond, false, filter_map, fold, is_some, map, true, ◌++◌, ◌∷◌, ◌≡◌, Ordering, Equal, find, ◌||◌, Less, Greater, length, arith, ◌+◌, ◌≤◌}
use Rattle.plant_model.specs.Matrices.{band_cmp, cell_cmp}
use Rattle.plant_model.specs.steps.{RowChanges.{changed_by, put}, RowFacts.{record_tag, alarm_tag, band_key, cell_key}}
use Rattle.plant_model.specs.declared.{reply.RecordRow.{RecordRow}, rows.{AlarmRow.{AlarmRow}, BandRow.{BandRow}, CellRow.{CellRow}}}
use Rattle.plant_model.specs.declared.rows.{RecordEntry.{RecordEntry}, RowEdit.{RowEdit, TheVariants.{Put}}, UnitRows.{UnitRows}}
use Rattle.plant_model.specs.declared.rows.Row.TheVariants.{Record as RecordPut, Alarm as AlarmPut, Band as BandPut, Cell as CellPut}
use Rattle.plant_types.specs.{KeyedRows.{IsInOrder, in_order, put_row, row_at}, Names.{name_cmp}, Options.{or_else, when}}
use Rattle.plant_types.proofs.public.KeyedRowLaws.{IsInOrder-put_row, IsInOrder-rows, Tells, row_at-in_order, row_at-put_row, row_at-rows, same_rows, settled, tied}

pub is_some-find : {X : Type 0} (p : X → Bool) (xs : List X) → is_some (find p xs) ≡ list_any p xs
is_some-find p [] = refl
is_some-find p (x ∷ xs) =
    elim (p x) as (λ b. is_some (cond b (Some x) (find p xs)) ≡ (b || list_any p xs)) [ true ↦ refl | false ↦ is_some-find p xs ]

pub key_in : {K X : Type 0} (R : K → K → Ordering) (key : X → K) (q : K) (rows : List X)
    → list_any (eq_by_cmp R q) (map key rows) ≡ is_some (row_at R key q rows)
key_in R key q [] = refl
key_in R key q (r ∷ rows) =
    elim (eq_by_cmp R q (key r)) as (λ b. (b || list_any (eq_by_cmp R q) (map key rows))
    ≡ is_some (cond b (Some r) (row_at R key q rows))) [ true ↦ refl | false ↦ key_in R key q rows ]

-- a put adds one row at most
pub length-put : {K X : Type 0} (R : K → K → Ordering) (key : X → K) (r : X) (rows : List X) → length (put_row R key r rows) ≤ length rows + 1
length-put R key r [] = omega arith
length-put R key r (e ∷ es) =
    let rest = length-put R key r es in
    elim (R (key r) (key e)) as (λ o. length (by_order o (r ∷ e ∷ es) (r ∷ es) (e ∷ put_row R key r es)) ≤ length (e
    ∷ es) + 1) [ Less ↦ omega arith | Equal ↦ omega arith | Greater ↦ omega (arith, rest) ]

pub never_some : {A : Type 0} (o : Option A) → ((x : A) → o ≡ Some x → ⊥) → o ≡ None
never_some None never = refl
never_some (Some x) never = absurd (never x refl)

pub else_none : {A : Type 0} (o : Option A) → or_else o None ≡ o
else_none None = refl
else_none (Some x) = refl

else_else : {A : Type 0} (a : Option A) (b : Bool) (x : A) (c : Option A) → or_else a (cond b (Some x) c) ≡ or_else (or_else a (when b x)) c
else_else None true x c = refl
else_else _ _ x c = refl

module _ {K X : Type 0} (R : K → K → Ordering) (key : X → K) where
  abbrev pub puts : List X → List X → List X
  puts rs rows = fold (λ es r. put_row R key r es) rows rs

  -- the row that the last of these puts at a key
  abbrev pub said : List X → K → Option X
  said [] q = None
  said (r ∷ rs) q = or_else (said rs q) (when (eq_by_cmp R q (key r)) r)

  module _ (o : IsTotalOrder R) (same : (x y : K) → R x y ≡ Equal → x ≡ y) where
    pub row_at-puts : (q : K) (rs rows : List X) → row_at R key q (puts rs rows) ≡ or_else (said rs q) (row_at R key q rows)
    row_at-puts q [] rows = refl
    row_at-puts q (r ∷ rs) rows =
        row_at-puts q rs (put_row R key r rows) ∙ ap (or_else (said rs q)) (row_at-put_row R key o same q r rows)
        ∙ else_else (said rs q) (eq_by_cmp R q (key r)) r (row_at R key q rows)

    pub IsInOrder-puts : (rs rows : List X) → IsInOrder R key rows → IsInOrder R key (puts rs rows)
    IsInOrder-puts [] rows h = h
    IsInOrder-puts (r ∷ rs) rows h = IsInOrder-puts rs (put_row R key r rows) (IsInOrder-put_row R key o same r rows h)

    -- rows that are made of keys: at each key of these, what is said of it
    pub said-told : (row : K → Option X) → ((k : K) (r : X) → row k ≡ Some r → key r ≡ k) → (q : K) (ks : List K)
        → said (filter_map row ks) q ≡ cond (is_some (row_at R (λ k. k) q ks)) (row q) None
    said-told row at_key q [] = refl
    said-told row at_key q (k ∷ ks) =
        let rest = said-told row at_key q ks in
        elim (row k) as (λ x. row k ≡ x
        → said (cons_option x (filter_map row ks)) q ≡ cond (is_some (cond (eq_by_cmp R q k) (Some k) (row_at R (λ k. k) q ks))) (row q) None) [
          | None ↦ λ none. rest
              ∙ elim (eq_by_cmp R q k) as (λ b. eq_by_cmp R q k ≡ b
              → cond (is_some (row_at R (λ k. k) q ks)) (row q) None ≡ cond (is_some (cond b (Some k) (row_at R (λ k. k) q ks))) (row q) None) [
                | true ↦ λ t. let is : row q ≡ None = ap row (same q k (tied _ _ t refl)) ∙ none in
                    elim (is_some (row_at R (λ k. k) q ks)) as (λ b. cond b (row q) None ≡ row q) [ true ↦ refl | false ↦ sym is ]
                | false ↦ λ t. refl
              ] refl
          | Some r ↦ λ some. ap (λ y. or_else (said (filter_map row ks) q) (when (eq_by_cmp R q y) r)) (at_key k r some)
              ∙ elim (eq_by_cmp R q k) as (λ b. eq_by_cmp R q k ≡ b
              → or_else (said (filter_map row ks) q) (when b r) ≡ cond (is_some (cond b (Some k) (row_at R (λ k. k) q ks))) (row q) None) [
                | true ↦ λ t. let is : row q ≡ Some r = ap row (same q k (tied _ _ t refl)) ∙ some in
                    ap (λ y. or_else y (Some r)) (rest ∙ ap (λ y. cond (is_some (row_at R (λ k. k) q ks)) y None) is)
                    ∙ elim (is_some (row_at R (λ k. k) q ks)) as (λ b. or_else (cond b (Some r) None) (Some r)
                    ≡ Some r) [ true ↦ refl | false ↦ refl ] ∙ sym is
                | false ↦ λ t. else_none (said (filter_map row ks) q) ∙ rest
              ] refl
        ] refl

module _ {K X : Type 0} {R : K → K → Ordering} {key : X → K} where
  pub said-rows : (row : K → Option X) (ks : List K) → Tells R key row ks → (q : K) → said R key (filter_map row (in_order R ks)) q ≡ row q
  said-rows row ks t q =
      said-told R key t.order t.same row t.at_key q (in_order R ks)
      ∙ ap (λ b. cond b (row q) None) (row_at-in_order R t.order t.same q ks) ∙ settled _ _ (t.among q)

  pub puts-rows : (old new : K → Option X) (ks ks' : List K) (rs : List X) → Tells R key old ks → Tells R key new ks'
      → ((q : K) → new q ≡ or_else (said R key rs q) (old q)) → puts R key rs (filter_map old (in_order R ks)) ≡ filter_map new (in_order R ks')
  puts-rows old new ks ks' rs t u is =
      same_rows R key t.order t.same _ _ (IsInOrder-puts R key t.order t.same rs _ (IsInOrder-rows old ks t)) (IsInOrder-rows new ks' u)
      (λ q. row_at-puts R key t.order t.same q rs _ ∙ ap (or_else (said R key rs q)) (row_at-rows old ks t q) ∙ sym (is q)
      ∙ sym (row_at-rows new ks' u q))

-- lists of puts on one table
pub put_bands : (rs : List BandRow) (rest : List RowEdit) (rows : UnitRows)
    → changed_by (map (λ r. Put (BandPut r)) rs ++ rest) rows ≡ changed_by rest (record rows { bands = puts band_cmp band_key rs rows.bands })
put_bands [] rest rows = refl
put_bands (r ∷ rs) rest rows = put_bands rs rest (put (BandPut r) rows)

pub put_cells : (rs : List CellRow) (rows : UnitRows)
    → changed_by (map (λ r. Put (CellPut r)) rs) rows ≡ record rows { cells = puts cell_cmp cell_key rs rows.cells }
put_cells [] rows = refl
put_cells (r ∷ rs) rows = put_cells rs (put (CellPut r) rows)

pub put_alarms : (f : AlarmRow → AlarmRow) (rs : List AlarmRow) (rest : List RowEdit) (rows : UnitRows)
    → changed_by (map (λ r. Put (AlarmPut (f r))) rs ++ rest) rows
    ≡ changed_by rest (record rows { alarms = puts name_cmp alarm_tag (map f rs) rows.alarms })
put_alarms f [] rest rows = refl
put_alarms f (r ∷ rs) rest rows = put_alarms f rs rest (put (AlarmPut (f r)) rows)

pub put_records : (f : RecordRow → RecordEntry) (rs : List RecordRow) (rows : UnitRows)
    → changed_by (map (λ r. Put (RecordPut (f r))) rs) rows ≡ record rows { records = puts name_cmp record_tag (map f rs) rows.records }
put_records f [] rows = refl
put_records f (r ∷ rs) rows = put_records f rs (put (RecordPut (f r)) rows)
