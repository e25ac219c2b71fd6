-- The changes that a call makes turn the rows of the history into those of the history with the call.
use Rattle.std.specs.{FinMap.Entries.{by_order}, Ordering.{eq_by_cmp}}
use Rattle.std.proofs.Common.{sym, ap, refl, ◌∙◌, Greater, Less, Equal, Bool, List, None, Option, Some, [], cond, false, filter_map, map, max, option_map, true, unwrap_or, ℕ, ◌∷◌, ◌≡◌, Ordering}
use Rattle.plant_model.specs.{Alarms.{latching, limit}, Changes.{limit_revision}, Events.{events_of}, Facts.{facts}}
use Rattle.plant_model.specs.steps.CallChanges.{changes_for}
use Rattle.plant_model.specs.{Histories.{Begins, Said, still}, Matrices.{band_at, band_cmp, band_places, cell_of, cell_places}}
use Rattle.plant_model.specs.steps.{RowChanges.{cells_of, changed_by, no_rows, put}, RowFacts.{band_key}}
use Rattle.plant_model.specs.{Rows.{alarm_as, alarm_row, band_row, band_rows, cell_row, grant_as, grant_row, rows_of, unit_row}, Service.{outage}}
use Rattle.plant_model.specs.declared.{call.{Call.{Call}, Request.{Request, TheVariants.{OpenUnit, Register}}}, rows.BandRow.{BandRow}}
use Rattle.plant_model.specs.declared.rows.{CellRow.{CellRow}, Row.TheVariants.{Grant as GrantPut, Unit as UnitPut}, UnitRows.{UnitRows}}
use Rattle.plant_model.proofs.MatrixLaws.{band_keys, bands_anew, bands_told, cell_keys, cells_anew, cells_told}
use Rattle.plant_model.proofs.public.HistoryLaws.{alarms_told, grants_told, pairs_of, tags_of_alarms}
use Rattle.plant_model.proofs.public.PutLaws.{put_bands, put_cells, puts, puts-rows}
use Rattle.plant_types.specs.{KeyedRows.{in_order, put_row}, Names.{Name, same_name}, Options.{or_else, when}, Roles.{Pair, same_pair}}
use Rattle.plant_types.specs.declared.role.Role.TheVariants.{Steward}
use Rattle.plant_types.proofs.public.{KeyedRowLaws.{IsInOrder-rows, Tells, row_at-rows, same_rows, put-rows, tied}, Orders.{same_names, same_pairs}}
use Rattle.plant_ration.specs.Grid.{Grid}

-- rows that are made of other rows
pub put_row-map : {A X K : Type 0} (R : K → K → Ordering) (key : X → K) (f : A → X) (r : A) (xs : List A)
    → put_row R key (f r) (map f xs) ≡ map f (put_row R (λ x. key (f x)) r xs)
put_row-map R key f r [] = refl
put_row-map R key f r (x ∷ xs) =
    elim (R (key (f r)) (key (f x))) as (λ v. by_order v (f r ∷ f x ∷ map f xs) (f r ∷ map f xs) (f x ∷ put_row R key (f r) (map f xs))
    ≡ map f (by_order v (r ∷ x ∷ xs) (r ∷ xs) (x ∷ put_row R (λ y. key (f y)) r xs))) [
      | Less ↦ refl
      | Equal ↦ refl
      | Greater ↦ ap (λ ys. f x ∷ ys) (put_row-map R key f r xs)
    ]

-- tables with the same row at each key are the same
module _ {K X : Type 0} {R : K → K → Ordering} {key : X → K} where
  pub rows-same : (old new : K → Option X) (ks ks' : List K) → Tells R key old ks → Tells R key new ks' → ((q : K) → old q ≡ new q)
      → filter_map old (in_order R ks) ≡ filter_map new (in_order R ks')
  rows-same old new ks ks' t u is =
      same_rows R key t.order t.same _ _ (IsInOrder-rows old ks t) (IsInOrder-rows new ks' u)
      (λ q. row_at-rows old ks t q ∙ is q ∙ sym (row_at-rows new ks' u q))

-- pairs
pub now_stands : (k x : Pair) (until : Option ℕ) (rest : Option (Said (Option ℕ)))
    → option_map (grant_as k) (still (or_else (when (same_pair k x) (Begins until)) rest)) ≡ cond (same_pair k x) (Some (grant_as x until))
    (option_map (grant_as k) (still rest))
now_stands k x until rest =
    elim (same_pair k x) as (λ b. same_pair k x ≡ b
    → option_map (grant_as k) (still (or_else (when b (Begins until)) rest)) ≡ cond b (Some (grant_as x until))
    (option_map (grant_as k) (still rest))) [
      | true ↦ λ e. ap (λ y. Some (grant_as y until)) (same_pairs k x (tied _ _ e refl))
      | false ↦ λ e. refl
    ] refl

-- a row that is made from the statements about its key, after one new statement
pub said_anew : {K V B X : Type 0} (R : K → K → Ordering) (same : (x y : K) → R x y ≡ Equal → x ≡ y) (row : K → V → B → X) (value : K → V)
    (base : K → Option B) (a : K) (b : B) (v : V) → base a ≡ Some b → (k : K)
    → option_map (row k (cond (eq_by_cmp R k a) v (value k))) (base k) ≡ cond (eq_by_cmp R k a) (Some (row a v b))
    (option_map (row k (value k)) (base k))
said_anew R same row value base a b v known k =
    elim (eq_by_cmp R k a) as (λ t. eq_by_cmp R k a ≡ t
    → option_map (row k (cond t v (value k))) (base k) ≡ cond t (Some (row a v b)) (option_map (row k (value k)) (base k))) [
      | true ↦ λ e. ap (λ y. option_map (row y v) (base y)) (same k a (tied _ true e refl)) ∙ ap (option_map (row a v)) known
      | false ↦ λ e. refl
    ] refl

-- an alarm of which no change of its limit was approved, that has no event, and of which no removal from service stands
pub record IsUnspoken (h : List Call) (a : Name) : Type 0 where
  pub no_revision : limit_revision h a ≡ 0
  pub no_event : events_of h a ≡ []
  pub no_outage : outage h a ≡ None

module _ (h : List Call) (p : Name) (t : ℕ) where
  abbrev pub with_request : Request → List Call
  with_request q = record { person = p; moment = t; request = q } ∷ h

  abbrev pub Turns : Request → Type 0
  Turns q = changed_by (changes_for (facts h) (record { person = p; moment = t; request = q })) (rows_of h) ≡ rows_of (with_request q)

  -- Registration of an alarm about which nothing was stated before
  alarm_anew : (a k : Name) (l : Bool) (max : ℕ) → IsUnspoken h a
      → option_map (alarm_as k (unwrap_or (or_else (when (same_name k a) max) (limit h k)) 0) (limit_revision h k) (events_of h k) (outage h k))
      (or_else (when (same_name k a) l) (latching h k)) ≡ cond (same_name k a) (Some (alarm_as a max 0 [] None l)) (alarm_row h k)
  alarm_anew a k l max new =
      elim (same_name k a) as (λ s. same_name k a ≡ s
      → option_map (alarm_as k (unwrap_or (or_else (when s max) (limit h k)) 0) (limit_revision h k) (events_of h k) (outage h k))
      (or_else (when s l) (latching h k)) ≡ cond s (Some (alarm_as a max 0 [] None l)) (alarm_row h k)) [
        | true ↦ λ e. ap (λ y. Some (alarm_as y max (limit_revision h y) (events_of h y) (outage h y) l)) (same_names k a (tied _ true e refl))
            ∙ (λ i. Some (alarm_as a max (new.no_revision i) (new.no_event i) (new.no_outage i) l))
        | false ↦ λ e. refl
      ] refl

  pub register_turns : (u a : Name) (l : Bool) (max : ℕ) → IsUnspoken h a → Turns (Register u a l max)
  register_turns u a l max new =
      let c = with_request (Register u a l max) in
      λ i. record (rows_of c) {
        alarms = put-rows (alarm_row h) (alarm_row c) (tags_of_alarms h) (tags_of_alarms c) (alarm_as a max 0 [] None l) (alarms_told h)
            (alarms_told c) (λ k. alarm_anew a k l max new) i;
      }

-- An opening: no rows become those of the one entry
module _ (p : Name) (t : ℕ) (u s : Name) (m : Grid) (quota_given : ℕ) where
  abbrev opened : List Call
  opened = record { person = p; moment = t; request = OpenUnit u s m quota_given } ∷ []

  pub opening_turns : changed_by (changes_for (facts []) (record { person = p; moment = t; request = OpenUnit u s m quota_given })) no_rows
      ≡ rows_of opened
  opening_turns =
      let bands : List BandRow = filter_map (λ k. band_at k m) (band_places 0 m) in
      let cells : List CellRow = filter_map (λ k. cell_of k m) (cell_places 0 m) in
      let first : UnitRows = put (GrantPut (grant_as (s, Steward) None)) (put (UnitPut (unit_row opened)) no_rows) in
      put_bands bands (cells_of 0 m) first ∙ put_cells cells (record first { bands = puts band_cmp band_key bands (band_rows []) })
      ∙ (λ i. record (rows_of opened) {
        grants = put-rows (grant_row []) (grant_row opened) (pairs_of []) (pairs_of opened) (grant_as (s, Steward) None) (grants_told [])
            (grants_told opened) (λ k. now_stands k (s, Steward) None None) i;
        bands = puts-rows (band_row []) (band_row opened) (band_keys []) (band_keys opened) bands (bands_told []) (bands_told opened)
            (λ q. bands_anew [] 0 refl m q) i;
        cells = puts-rows (cell_row []) (cell_row opened) (cell_keys []) (cell_keys opened) cells (cells_told []) (cells_told opened)
            (λ q. cells_anew [] 0 refl m q) i;
      })
