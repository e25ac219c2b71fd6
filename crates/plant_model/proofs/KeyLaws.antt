-- The rows that an accepted call puts over others are among those that it looks at.
use Rattle.std.specs.{Cmp.{IsTotalOrder, nat_cmp_is}, List.{AllByRecursion, cons_option, enumerate_from, list_any, range_with_len}, Ordering.{eq_by_cmp, ordering_then}}
use Rattle.std.proofs.Common.{Equal, Less, ap, arith, cond, is_eq, suc, zero, ◌<◌, refl, subst, sym, ◌∙◌, nat_cmp, option_to_list, Bool, Err, List, None, Ok, Option, Result, Some, [], false, filter, filter_map, flat_map, if◌then◌else◌, is_some, length, map, not, option_and_then, option_map, true, ℕ, ◌++◌, ◌+◌, ◌||◌, ◌∷◌, ◌≡◌, Ordering, true≢false}
use Rattle.std.proofs.lemmas.{Bool.{and_parts, not-true, or_left, or_right}, List.{map-id}}
use Rattle.plant_alarm.specs.declared.event.Event.{Event}
use Rattle.plant_floods.specs.Activations.{of_alarm}
use Rattle.plant_import.{specs.{Merging.{first_fault, fresh}, Numbers.{has_number}, declared.bad_file.BadFile.{BadFile}}, proofs.public.Counted.{any_fresh, any_puts}}
use Rattle.plant_model.specs.{Changes.{change, change_as, draft, proposals}, Events.{events}, Facts.{facts}, Histories.{same_number}}
use Rattle.plant_model.specs.steps.CallChanges.{changes_for, unit_after}
use Rattle.plant_model.specs.{Legality.{IsLegal}, Refusals.{tags_of}}
use Rattle.plant_model.specs.steps.Keys.{AllPutOverSeen, PutsOverSeen, has_key, PutsOverWhatIsSeen}
use Rattle.plant_model.specs.Matrices.{BandKey, CellKey, band_at, band_cmp, cell_cmp, cell_of, cells_of_row, band_places, cell_places, matrix_numbered}
use Rattle.plant_model.specs.steps.Parts.{Selection, is_crowded, of_approved, of_content, of_records, of_topic, part_of, part_of_holder, part_of_stranger, rows_selected, selected, with_number}
use Rattle.plant_model.specs.steps.RowChanges.{events_with_file, approval_changes, cells_of, changed, decided_as, decision_change, for_change, in_force, is_touched, kind_changes, new_events, placed_in, put, rerated, taken_out, with_state}
use Rattle.plant_model.specs.steps.RowFacts.{alarm_tag, band_key, cell_key, change_found, change_number, holds_by, pair_of, record_tag, shelf_tag}
use Rattle.plant_model.specs.Rows.{alarm_row, alarm_rows, band_row, cell_row, change_entry, record_entry, records_of, rows_of, tag_of_kind, topic_of, with_limit}
use Rattle.plant_model.specs.{Verdicts.{changes_history, is_opening, verdict, verdict_of}, declared.call.{Call.{Call}, Request.{Request}}}
use Rattle.plant_model.specs.declared.call.Request.TheVariants.{Approve, Grant, Import, OneShotShelve, OpenUnit, PlaceInService, Propose, Register, Reject, RemoveFromService, TimedShelve, Unshelve, Withdraw, WithdrawChange}
use Rattle.plant_model.specs.declared.{reply.{ChangeRow.{ChangeRow}, RecordRow.{RecordRow}, Refused.TheVariants.{NotGranted}}, rows.{AlarmRow.{AlarmRow}, BandRow.{BandRow}}}
use Rattle.plant_model.specs.declared.rows.{CellRow.{CellRow}, ChangeEntry.{ChangeEntry}, GrantRow.{GrantRow}, RecordEntry.{RecordEntry}, RowEdit.{RowEdit}}
use Rattle.plant_model.specs.declared.rows.Row.TheVariants.{Alarm as AlarmPut, Band as BandPut, Cell as CellPut, Change as ChangePut, Record as RecordPut, Unit as UnitPut}
use Rattle.plant_model.specs.declared.rows.{RowEdit.TheVariants.{Put, PutEvents}, ShelfRow.{ShelfRow}, UnitRow.{UnitRow}, UnitRows.{UnitRows}}
use Rattle.plant_model.proofs.MatrixLaws.{band_keyed, band_keys, bands_told, cell_keyed, cell_keys, cells_told, no_next}
use Rattle.plant_model.proofs.public.{Accepted.{IsEntry, made}, EventLaws.{import_accepted}, FactLaws.{change_entry_in, draft_bound}}
use Rattle.plant_model.proofs.public.{HistoryLaws.{alarms_told, change_with, changes_told}, PartLaws.{stranger_verdict}, PartLists.{itself_name, row_at-filter}}
use Rattle.plant_model.proofs.public.{PlaceOrders.{band_total, cell_total, same_bands, same_cells}, PutLaws.{is_some-find, never_some}}
use Rattle.plant_model.proofs.public.{ReadLaws.{facts-rows, level}, RowsFound.{After, Ordered, turned}}
use Rattle.plant_ration.specs.{Grid.{Grid}, declared.{cell.Cell.{Cell}, change.ChangeKind.{ChangeKind, TheVariants.{Limit, Matrix, Rationale}}}}
use Rattle.plant_ration.specs.declared.change.ChangeState.{ChangeState, TheVariants.{Approved, Rejected, Withdrawn}}
use Rattle.plant_types.specs.{KeyedRows.{put_row, row_at}, Names.{Name, name_cmp, same_name}, Roles.{pair_cmp}}
use Rattle.plant_types.proofs.public.KeyedRowLaws.{row_at-put_row, row_at-rows}

-- ---- lists

-- a key is among the rows that pass where its rows pass
any_left : {K X : Type 0} (R : K → K → Ordering) (key : X → K) (k : K) (test : X → Bool) → ((r : X) → eq_by_cmp R k (key r) ≡ true → test r ≡ true)
    → (rows : List X) → list_any (λ r. eq_by_cmp R k (key r)) (filter test rows) ≡ list_any (λ r. eq_by_cmp R k (key r)) rows
any_left R key k test passes rows =
    sym (is_some-find (λ r. eq_by_cmp R k (key r)) (filter test rows)) ∙ ap is_some (row_at-filter R key k test passes rows)
    ∙ is_some-find (λ r. eq_by_cmp R k (key r)) rows

all-weaker : {X : Type 0} (P Q : X → Type 0) → ((x : X) → P x → Q x) → (xs : List X) → AllByRecursion P xs → AllByRecursion Q xs
all-weaker P Q weaker [] h = tt
all-weaker P Q weaker (x ∷ xs) h = (weaker x h.0, all-weaker P Q weaker xs h.1)

all-filter : {X : Type 0} (P : X → Type 0) (test : X → Bool) (xs : List X) → AllByRecursion P xs → AllByRecursion P (filter test xs)
all-filter P test [] h = tt
all-filter P test (x ∷ xs) h =
    let rest = all-filter P test xs h.1 in
    elim (test x) as (λ b. AllByRecursion P (cond b (x ∷ filter test xs) (filter test xs))) [ true ↦ (h.0, rest) | false ↦ rest ]

all-append : {X : Type 0} (P : X → Type 0) (xs ys : List X) → AllByRecursion P xs → AllByRecursion P ys → AllByRecursion P (xs ++ ys)
all-append P [] ys h k = k
all-append P (x ∷ xs) ys h k = (h.0, all-append P xs ys h.1 k)

all-made : {X Y : Type 0} (P : Y → Type 0) (f : X → Y) → ((x : X) → P (f x)) → (xs : List X) → AllByRecursion P (map f xs)
all-made P f holds [] = tt
all-made P f holds (x ∷ xs) = (holds x, all-made P f holds xs)

-- each row has the key of one of the rows, also where those are made of them
all_there : {X Y : Type 0} (f : X → Y) (key : X → Name) (key_of : Y → Name) → ((x : X) → key_of (f x) ≡ key x) → (xs : List X)
    → AllByRecursion (λ x. list_any (λ y. same_name (key x) (key_of y)) (map f xs) ≡ true) xs
all_there f key key_of same [] = tt
all_there f key key_of same (x ∷ xs) = (
  or_left (same_name (key x) (key_of (f x))) _ (ap (same_name (key x)) (same x) ∙ itself_name (key x)),
  all-weaker (λ z. list_any (λ y. same_name (key z) (key_of y)) (map f xs) ≡ true)
      (λ z. list_any (λ y. same_name (key z) (key_of y)) (map f (x ∷ xs)) ≡ true)
      (λ z there. or_right (same_name (key z) (key_of (f x))) _ there) xs (all_there f key key_of same xs),
)

all_alarms : (xs : List AlarmRow) → AllByRecursion (λ (r : AlarmRow). list_any (λ (x : AlarmRow). same_name r.tag x.tag) xs ≡ true) xs
all_alarms xs =
    subst (λ (ys : List AlarmRow). AllByRecursion (λ (r : AlarmRow). list_any (λ (x : AlarmRow). same_name r.tag x.tag) ys ≡ true) xs) (map-id xs)
    (all_there (λ (r : AlarmRow). r) alarm_tag alarm_tag (λ r. refl) xs)

-- ---- rising keys

module _ {K X : Type 0} (R : K → K → Ordering) (key : X → K) where
  after-append : (a : K) (xs ys : List X) → After R key a xs → After R key a ys → After R key a (xs ++ ys)
  after-append a [] ys h k = k
  after-append a (x ∷ xs) ys h k = (h.0, after-append a xs ys h.1 k)

  ordered-append : (xs ys : List X) → Ordered R key xs → Ordered R key ys → AllByRecursion (λ x. After R key (key x) ys) xs → Ordered R key (xs ++ ys)
  ordered-append [] ys h k below = k
  ordered-append (x ∷ xs) ys h k below = (after-append (key x) xs ys h.0 below.0, ordered-append xs ys h.1 k below.1)

  -- rows of rising keys rise
  module _ (row : K → Option X) (at_key : (k : K) (r : X) → row k ≡ Some r → key r ≡ k) where
    after_told : (a : K) (ks : List K) → After R (λ k. k) a ks → After R key a (filter_map row ks)
    after_told a [] h = tt
    after_told a (k ∷ ks) h =
        let rest = after_told a ks h.1 in
        elim (row k) as (λ o. row k ≡ o
        → After R key a (cons_option o (filter_map row ks))) [ None ↦ λ _. rest | Some r ↦ λ is. (ap (R a) (at_key k r is) ∙ h.0, rest) ] refl

    ordered_told : (ks : List K) → Ordered R (λ k. k) ks → Ordered R key (filter_map row ks)
    ordered_told [] h = tt
    ordered_told (k ∷ ks) h =
        let rest = ordered_told ks h.1 in
        elim (row k) as (λ o. row k ≡ o → Ordered R key (cons_option o (filter_map row ks))) [
          | None ↦ λ _. rest
          | Some r ↦ λ is. (subst (λ y. After R key y (filter_map row ks)) (sym (at_key k r is)) (after_told k ks h.0), rest)
        ] refl

  module _ (o : IsTotalOrder R) (same : (x y : K) → R x y ≡ Equal → x ≡ y) where
    -- each of these rows, put in turn, has a key that no row has
    abbrev AllNew : List X → List X → Type 0
    AllNew rows [] = Unit {0}
    AllNew rows (r ∷ rs) = (list_any (λ x. eq_by_cmp R (key r) (key x)) rows ≡ false) × AllNew (put_row R key r rows) rs

    still_none : (r : X) (rows xs : List X) → After R key (key r) xs → AllByRecursion (λ x. row_at R key (key x) rows ≡ None) xs
        → AllByRecursion (λ x. row_at R key (key x) (put_row R key r rows) ≡ None) xs
    still_none r rows [] h none = tt
    still_none r rows (x ∷ xs) h none =
        let apart : eq_by_cmp R (key x) (key r) ≡ false = ap is_eq (turned o (key r) (key x) h.0) in (
          row_at-put_row R key o same (key x) r rows ∙ ap (λ b. cond b (Some r) (row_at R key (key x) rows)) apart
              ∙ none.0,
          still_none r rows xs h.1 none.1,
        )

    all_new : (rs rows : List X) → Ordered R key rs → AllByRecursion (λ x. row_at R key (key x) rows ≡ None) rs → AllNew rows rs
    all_new [] rows h none = tt
    all_new (r ∷ rs) rows h none = (
      sym (is_some-find (λ x. eq_by_cmp R (key r) (key x)) rows)
          ∙ ap is_some none.0,
      all_new rs (put_row R key r rows) h.1 (still_none r rows rs h.0 none.1),
    )

true_else : (b : Bool) → (b ≡ false → ⊥) → b ≡ true
true_else true never = refl
true_else false never = absurd (never refl)

-- ---- the places of a matrix rise

before : (m n : ℕ) → m < n → nat_cmp m n ≡ Less
before m n less = sym (nat_cmp_is m n Less less)

module _ (n : ℕ) where
  after_bands : (a s len : ℕ) → a < s → After band_cmp (λ k. k) (n, a) (map (λ (b : ℕ). (n, b)) (range_with_len s len))
  after_bands a s zero less = tt
  after_bands a s (suc len) less =
      (ap (λ o. ordering_then o (nat_cmp a s)) (level n) ∙ before a s less, after_bands a (s + 1) len (omega (arith, less)))

  bands_rise : (s len : ℕ) → Ordered band_cmp (λ k. k) (map (λ (b : ℕ). (n, b)) (range_with_len s len))
  bands_rise s zero = tt
  bands_rise s (suc len) = (after_bands s (s + 1) len (omega arith), bands_rise (s + 1) len)

  after_cells : (severity a s len : ℕ) → a < s → After cell_cmp (λ k. k) (n, severity, a) (map (λ (b : ℕ). (n, severity, b)) (range_with_len s len))
  after_cells severity a s zero less = tt
  after_cells severity a s (suc len) less = (
    ap (λ o. ordering_then o (ordering_then (nat_cmp severity severity) (nat_cmp a s))) (level n)
        ∙ ap (λ o. ordering_then o (nat_cmp a s)) (level severity) ∙ before a s less,
    after_cells severity a (s + 1) len (omega (arith, less)),
  )

  cells_rise : (severity s len : ℕ) → Ordered cell_cmp (λ k. k) (map (λ (b : ℕ). (n, severity, b)) (range_with_len s len))
  cells_rise severity s zero = tt
  cells_rise severity s (suc len) = (after_cells severity s (s + 1) len (omega arith), cells_rise severity (s + 1) len)

  -- all cells of a severity come before those of the later ones
  before_row : (severity later a s len : ℕ) → severity < later
      → After cell_cmp (λ k. k) (n, severity, a) (map (λ (b : ℕ). (n, later, b)) (range_with_len s len))
  before_row severity later a s zero less = tt
  before_row severity later a s (suc len) less = (
    ap (λ o. ordering_then o (ordering_then (nat_cmp severity later) (nat_cmp a s))) (level n)
        ∙ ap (λ o. ordering_then o (nat_cmp a s)) (before severity later less),
    before_row severity later a (s + 1) len less,
  )

  before_rows : (severity later a : ℕ) (rows : List (List Cell)) → severity < later
      → After cell_cmp (λ k. k) (n, severity, a) (flat_map (cells_of_row n) (enumerate_from later rows))
  before_rows severity later a [] less = tt
  before_rows severity later a (row ∷ rows) less =
      after-append cell_cmp (λ k. k) (n, severity, a) (map (λ (b : ℕ). (n, later, b)) (range_with_len 1 (length row)))
      (flat_map (cells_of_row n) (enumerate_from (later + 1) rows))
      (before_row severity later a 1 (length row) less) (before_rows severity (later + 1) a rows (omega (arith, less)))

  rows_rise : (severity : ℕ) (rows : List (List Cell)) → Ordered cell_cmp (λ k. k) (flat_map (cells_of_row n) (enumerate_from severity rows))
  rows_rise severity [] = tt
  rows_rise severity (row ∷ rows) =
      ordered-append cell_cmp (λ k. k) (map (λ (b : ℕ). (n, severity, b)) (range_with_len 1 (length row)))
      (flat_map (cells_of_row n) (enumerate_from (severity + 1) rows))
      (cells_rise severity 1 (length row)) (rows_rise (severity + 1) rows)
      (all-made (λ (k : CellKey). After cell_cmp (λ k. k) k (flat_map (cells_of_row n) (enumerate_from (severity + 1) rows)))
      (λ (b : ℕ). (n, severity, b))
      (λ b. before_rows severity (severity + 1) b rows (omega arith)) (range_with_len 1 (length row)))

-- ---- lists of puts on one table

module _ (seen : UnitRows) where
  bands_put : (rs : List BandRow) (rows : UnitRows) (rest : List RowEdit) → AllNew band_cmp band_key band_total same_bands rows.bands rs
      → ((after : UnitRows) → after.cells ≡ rows.cells → AllPutOverSeen after seen rest)
      → AllPutOverSeen rows seen (map (λ r. Put (BandPut r)) rs ++ rest)
  bands_put [] rows rest new more = more rows refl
  bands_put (r ∷ rs) rows rest new more = (new.0, bands_put rs (put (BandPut r) rows) rest new.1 more)

  cells_put : (rs : List CellRow) (rows : UnitRows) → AllNew cell_cmp cell_key cell_total same_cells rows.cells rs
      → AllPutOverSeen rows seen (map (λ r. Put (CellPut r)) rs)
  cells_put [] rows new = tt
  cells_put (r ∷ rs) rows new = (new.0, cells_put rs (put (CellPut r) rows) new.1)

  alarms_put : (f : AlarmRow → AlarmRow) (rs : List AlarmRow) (rows : UnitRows) (rest : List RowEdit)
      → AllByRecursion (λ r. has_key (AlarmPut (f r)) seen ≡ true) rs
      → ((after : UnitRows) → after.events ≡ rows.events → AllPutOverSeen after seen rest)
      → AllPutOverSeen rows seen (map (λ r. Put (AlarmPut (f r))) rs ++ rest)
  alarms_put f [] rows rest there more = more rows refl
  alarms_put f (r ∷ rs) rows rest there more = (λ _. there.0, alarms_put f rs (put (AlarmPut (f r)) rows) rest there.1 more)

  records_put : (f : RecordRow → RecordEntry) (rs : List RecordRow) (rows : UnitRows) → AllByRecursion (λ r. has_key (RecordPut (f r)) seen ≡ true) rs
      → AllPutOverSeen rows seen (map (λ r. Put (RecordPut (f r))) rs)
  records_put f [] rows there = tt
  records_put f (r ∷ rs) rows there = (λ _. there.0, records_put f rs (put (RecordPut (f r)) rows) there.1)

module _ (h : List Call) (p : Name) (t : ℕ) where
  abbrev rows : UnitRows
  rows = rows_of h

  -- what is looked at
  abbrev seen_by : Selection → UnitRows
  seen_by s = rows_selected p s rows

  -- ---- rows of keys that are not there yet: those of the next change

  abbrev next : ℕ
  next = proposals h + 1

  no_change : list_any (λ (other : ChangeEntry). same_number next other.number) rows.changes ≡ false
  no_change =
      let undrafted : draft h next ≡ None = never_some (draft h next) (λ d e. let less = draft_bound h next d e in omega (arith, less)) in
      sym (is_some-find (λ (other : ChangeEntry). same_number next other.number) rows.changes)
      ∙ ap is_some (change_entry_in h next) ∙ ap (λ o. is_some (option_map change_entry (option_map (change_with h next) o))) undrafted

  no_band : (m : Grid) (k : BandKey) (r : BandRow) → band_at k m ≡ Some r → k.0 ≡ next → row_at band_cmp band_key (band_key r) rows.bands ≡ None
  no_band m k r is at =
      row_at-rows (band_row h) (band_keys h) (bands_told h) (band_key r)
      ∙ ap (band_row h) (band_keyed k m r is)
      ∙ ap (λ n. option_and_then (band_at k) (matrix_numbered h n)) at
      ∙ ap (option_and_then (band_at k)) (no_next h)

  no_cell : (m : Grid) (k : CellKey) (r : CellRow) → cell_of k m ≡ Some r → k.0 ≡ next → row_at cell_cmp cell_key (cell_key r) rows.cells ≡ None
  no_cell m k r is at =
      row_at-rows (cell_row h) (cell_keys h) (cells_told h) (cell_key r)
      ∙ ap (cell_row h) (cell_keyed k m r is)
      ∙ ap (λ n. option_and_then (cell_of k) (matrix_numbered h n)) at
      ∙ ap (option_and_then (cell_of k)) (no_next h)

  module _ (m : Grid) where
    no_bands : (ks : List BandKey) → AllByRecursion (λ (k : BandKey). k.0 ≡ next) ks
        → AllByRecursion (λ (r : BandRow). row_at band_cmp band_key (band_key r) rows.bands ≡ None) (filter_map (λ k. band_at k m) ks)
    no_bands [] at = tt
    no_bands (k ∷ ks) at =
        let rest = no_bands ks at.1 in
        elim (band_at k m) as (λ o. band_at k m ≡ o
        → AllByRecursion (λ (r : BandRow). row_at band_cmp band_key (band_key r) rows.bands ≡ None)
        (cons_option o (filter_map (λ k. band_at k m) ks))) [
          | None ↦ λ _. rest
          | Some r ↦ λ is. (no_band m k r is at.0, rest)
        ] refl

    no_cells : (ks : List CellKey) → AllByRecursion (λ (k : CellKey). k.0 ≡ next) ks
        → AllByRecursion (λ (r : CellRow). row_at cell_cmp cell_key (cell_key r) rows.cells ≡ None) (filter_map (λ k. cell_of k m) ks)
    no_cells [] at = tt
    no_cells (k ∷ ks) at =
        let rest = no_cells ks at.1 in
        elim (cell_of k m) as (λ o. cell_of k m ≡ o
        → AllByRecursion (λ (r : CellRow). row_at cell_cmp cell_key (cell_key r) rows.cells ≡ None)
        (cons_option o (filter_map (λ k. cell_of k m) ks))) [
          | None ↦ λ _. rest
          | Some r ↦ λ is. (no_cell m k r is at.0, rest)
        ] refl

    cells_at_next : (severity : ℕ) (rows : List (List Cell))
        → AllByRecursion (λ (k : CellKey). k.0 ≡ next) (flat_map (cells_of_row next) (enumerate_from severity rows))
    cells_at_next severity [] = tt
    cells_at_next severity (row ∷ more) =
        all-append (λ (k : CellKey). k.0 ≡ next) (map (λ (b : ℕ). (next, severity, b)) (range_with_len 1 (length row)))
        (flat_map (cells_of_row next) (enumerate_from (severity + 1) more))
        (all-made (λ (k : CellKey). k.0 ≡ next) (λ (b : ℕ). (next, severity, b)) (λ b. refl) (range_with_len 1 (length row)))
        (cells_at_next (severity + 1) more)

    matrix_put : (seen base : UnitRows) → base.bands ≡ rows.bands → base.cells ≡ rows.cells → AllPutOverSeen base seen (kind_changes next (Matrix m))
    matrix_put seen base bands cells =
        bands_put seen (filter_map (λ k. band_at k m) (band_places next m)) base (cells_of next m)
        (subst (λ (xs : List BandRow). AllNew band_cmp band_key band_total same_bands xs (filter_map (λ k. band_at k m) (band_places next m)))
        (sym bands)
        (all_new band_cmp band_key band_total same_bands (filter_map (λ k. band_at k m) (band_places next m)) rows.bands
        (ordered_told band_cmp band_key (λ k. band_at k m) (λ k r is. band_keyed k m r is) (band_places next m) (bands_rise next 1 (length m.limits)))
        (no_bands (band_places next m) (all-made (λ (k : BandKey). k.0
        ≡ next) (λ (b : ℕ). (next, b)) (λ b. refl) (range_with_len 1 (length m.limits))))))
        (λ after same. cells_put seen (filter_map (λ k. cell_of k m) (cell_places next m)) after
        (subst (λ (xs : List CellRow). AllNew cell_cmp cell_key cell_total same_cells xs (filter_map (λ k. cell_of k m) (cell_places next m)))
        (sym (same ∙ cells))
        (all_new cell_cmp cell_key cell_total same_cells (filter_map (λ k. cell_of k m) (cell_places next m)) rows.cells
        (ordered_told cell_cmp cell_key (λ k. cell_of k m) (λ k r is. cell_keyed k m r is) (cell_places next m) (rows_rise next 1 m.cells))
        (no_cells (cell_places next m) (cells_at_next 1 m.cells)))))

  kind_put : (seen base : UnitRows) (k : ChangeKind) → base.bands ≡ rows.bands → base.cells ≡ rows.cells
      → AllPutOverSeen base seen (kind_changes next k)
  kind_put seen base (Rationale a sheet) bands cells = tt
  kind_put seen base (Matrix m) bands cells = matrix_put m seen base bands cells
  kind_put seen base (Limit a max) bands cells = tt

  -- ---- rows that are found and put back

  module _ (a : Name) (g : AlarmRow → AlarmRow) (keeps : (r : AlarmRow) → (g r).tag ≡ r.tag) (s : Selection)
      (own : (b : Name) → same_name a b ≡ true → s.alarm b ≡ true) where
    alarm_put : (base : UnitRows) → base.alarms ≡ rows.alarms → (o : Option AlarmRow) → alarm_row h a ≡ o
        → AllPutOverSeen base (seen_by s) (map (λ r. Put (AlarmPut (g r))) (option_to_list o))
    alarm_put base same None is = tt
    alarm_put base same (Some r) is =
        let key : (g r).tag ≡ a = keeps r ∙ (alarms_told h).at_key a r is in (
          λ e. any_left name_cmp alarm_tag (g r).tag (λ (x : AlarmRow). s.alarm x.tag)
              (λ x tag. own x.tag (ap (λ (b : Name). same_name b x.tag) (sym key) ∙ tag)) rows.alarms
              ∙ sym (ap (list_any (λ (x : AlarmRow). same_name (g r).tag x.tag)) same) ∙ e,
          tt,
        )

  module _ (n : ℕ) (c : ChangeRow) (is : change h n ≡ Some c) where
    number_is : c.number ≡ n
    number_is = (changes_told h).at_key n c is

    same_change : (r : ChangeEntry) → same_number c.number r.number ≡ true → same_number n r.number ≡ true
    same_change r same = ap (λ m. same_number m r.number) (sym number_is) ∙ same

    -- a decided change among those of a selection that has its number
    decided : (s : Selection) (state : ChangeState) → ((m : ℕ) → same_number n m ≡ true → s.change m ≡ true)
        → PutsOverSeen rows (seen_by s) (decision_change state p t c)
    decided s state own = λ e.
        any_left nat_cmp change_number c.number (λ (r : ChangeEntry). s.change r.number) (λ r same. own r.number (same_change r same)) rows.changes
        ∙ e

    -- what an approval brings into force
    forced : (k : ChangeKind) (base : UnitRows) → base.alarms ≡ rows.alarms → base.records ≡ rows.records
        → AllPutOverSeen base (seen_by (with_number n (of_topic rows (tag_of_kind k) (topic_of k)))) (in_force (facts h) c.number k)
    forced (Rationale a sheet) base alarms records = (
      λ e. any_left name_cmp record_tag a (λ (r : RecordEntry). same_name a r.tag) (λ r same. same) rows.records
          ∙ sym (ap (list_any (λ (x : RecordEntry). same_name a x.tag)) records) ∙ e,
      tt,
    )
    forced (Matrix m) base alarms records =
        records_put (seen_by (with_number n (of_records rows))) (rerated m) (records_of h) base
        (all-weaker (λ (r : RecordRow). list_any (λ (x : RecordEntry). same_name r.tag x.tag) rows.records
        ≡ true) (λ (r : RecordRow). has_key (RecordPut (rerated m r)) (seen_by (with_number n (of_records rows))) ≡ true)
        (λ r there. any_left name_cmp record_tag r.tag (λ (x : RecordEntry). true) (λ x same. refl) rows.records ∙ there) (records_of h)
        (all_there record_entry (λ (r : RecordRow). r.tag) record_tag (λ r. refl) (records_of h)))
    forced (Limit a max) base alarms records =
        alarm_put a (with_limit max) (λ r. refl) (with_number n (of_content rows a)) (λ b same. same) base alarms (alarm_row h a) refl

    approved : (k : ChangeKind) (base : UnitRows) → base.alarms ≡ rows.alarms → base.records ≡ rows.records → base.changes ≡ rows.changes
        → AllPutOverSeen base (seen_by (with_number n (of_topic rows (tag_of_kind k) (topic_of k))))
        (decision_change Approved p t c ∷ in_force (facts h) c.number k)
    approved k base alarms records changes = (
      λ e. decided (with_number n (of_topic rows (tag_of_kind k) (topic_of k))) Approved
          (λ m same. or_right ((of_topic rows (tag_of_kind k) (topic_of k)).change m) (same_number n m) same)
          (sym (ap (list_any (λ (x : ChangeEntry). same_number c.number x.number)) changes) ∙ e),
      forced k (put (ChangePut (change_entry (decided_as Approved p t c))) base) alarms records,
    )

  -- the rows once the unit's own is put
  abbrev moved : UnitRow → UnitRows
  moved u = put (UnitPut u) rows

  change_put : (u : UnitRow) (n : ℕ) (s : Selection) (state : ChangeState) → ((m : ℕ) → same_number n m ≡ true → s.change m ≡ true)
      → (o : Option ChangeRow) → change h n ≡ o → AllPutOverSeen (moved u) (seen_by s) (for_change o (λ c. decision_change state p t c ∷ []))
  change_put u n s state own None is = tt
  change_put u n s state own (Some c) is = (decided n c is s state own, tt)

  approval_put : (u : UnitRow) (n : ℕ) (o : Option ChangeRow) → change h n ≡ o
      → AllPutOverSeen (moved u) (seen_by (of_approved rows n (change_found rows n))) (for_change o (approval_changes (facts h) p t))
  approval_put u n None is = tt
  approval_put u n (Some c) is =
      let found : change_found rows n ≡ Some (change_entry c) = change_entry_in h n ∙ ap (option_map change_entry) is in
      subst (λ o. AllPutOverSeen (moved u) (seen_by (of_approved rows n o)) (approval_changes (facts h) p t c)) (sym found)
      (approved n c is c.kind (moved u) refl refl refl)

  -- ---- an import

  new_numbers_alone : (u : Name) (file : List Event) → IsEntry h (made p t (Import u (Ok file))) → (n : ℕ)
      → list_any (has_number n) (new_events (events h) file) ≡ true → list_any (has_number n) (events h) ≡ false
  new_numbers_alone u file entry n e =
      let clean : first_fault (tags_of (facts h)) t 2 (events h) file ≡ None = (import_accepted h p t u (Ok file) entry).1 in
      let new : list_any (has_number n) (fresh (events h) file) ≡ true = sym (any_puts n (fresh (events h) file) []) ∙ e in
      not-true _ (and_parts _ _ (sym (any_fresh (tags_of (facts h)) t 2 (events h) file clean n) ∙ new)).0

  file_put : (u : Name) (file : Result (List Event) BadFile) → IsEntry h (made p t (Import u file))
      → AllPutOverSeen rows (seen_by (selected rows (Import u file))) (changes_for (facts h) (made p t (Import u file)))
  file_put u (Err fault) entry = absurd (import_accepted h p t u (Err fault) entry)
  file_put u (Ok file) entry =
      let seen : UnitRows = seen_by (selected rows (Import u (Ok file))) in
      let made_of : AlarmRow → AlarmRow = λ r. with_state (of_alarm r.tag (events_with_file (events h) file)) r in (
        λ _. refl,
        alarms_put seen made_of (filter (is_touched (events h) file) (alarm_rows h)) (moved (unit_after (facts h) t (Import u (Ok file))))
            (PutEvents (new_events (events h) file) ∷ [])
            (all-filter (λ (r : AlarmRow). has_key (AlarmPut (made_of r)) seen ≡ true) (is_touched (events h) file) (alarm_rows h)
            (all-weaker (λ (r : AlarmRow). list_any (λ (x : AlarmRow). same_name r.tag x.tag) (alarm_rows h)
            ≡ true) (λ (r : AlarmRow). has_key (AlarmPut (made_of r)) seen ≡ true)
            (λ r there. any_left name_cmp alarm_tag r.tag (λ (x : AlarmRow). true) (λ x same. refl) rows.alarms ∙ there) (alarm_rows h)
            (all_alarms (alarm_rows h))))
            (λ after same. (λ n e. ap (list_any (has_number n)) same ∙ new_numbers_alone u file entry n e, tt)),
      )

  -- ---- all calls

  seen_put : (q : Request) → is_opening q ≡ false → IsEntry h (made p t q)
      → AllPutOverSeen rows (seen_by (selected rows q)) (changes_for (facts h) (made p t q))
  seen_put (OpenUnit u s m k) plain entry = absurd (true≢false plain)
  seen_put (Grant u q r) plain entry = (
    λ _. refl,
    (
      λ e. any_left pair_cmp pair_of (q, r.0) (λ (g : GrantRow). same_name p g.person
          || true) (λ g same. or_right (same_name p g.person) true refl) rows.grants ∙ e,
      tt,
    ),
  )
  seen_put (Withdraw u q r) plain entry = (λ _. refl, (tt, tt))
  seen_put (Register u a l max) plain entry =
      (λ _. refl, (λ e. any_left name_cmp alarm_tag a (λ (r : AlarmRow). same_name a r.tag) (λ r same. same) rows.alarms ∙ e, tt))
  seen_put (Import u file) plain entry = file_put u file entry
  seen_put (TimedShelve u a d w) plain entry = (
    λ _. refl,
    (
      λ e. any_left name_cmp shelf_tag a (λ (r : ShelfRow). is_crowded rows
          || same_name a r.tag) (λ r same. or_right (is_crowded rows) (same_name a r.tag) same) rows.shelves ∙ e,
      tt,
    ),
  )
  seen_put (OneShotShelve u a w) plain entry = (
    λ _. refl,
    (
      λ e. any_left name_cmp shelf_tag a (λ (r : ShelfRow). is_crowded rows
          || same_name a r.tag) (λ r same. or_right (is_crowded rows) (same_name a r.tag) same) rows.shelves ∙ e,
      tt,
    ),
  )
  seen_put (Unshelve u a) plain entry = (λ _. refl, (tt, tt))
  seen_put (RemoveFromService u a w) plain entry = (
    λ _. refl,
    alarm_put a (taken_out p t w) (λ r. refl) (selected rows (RemoveFromService u a w)) (λ b same. same)
        (moved (unit_after (facts h) t (RemoveFromService u a w))) refl (alarm_row h a) refl,
  )
  seen_put (PlaceInService u a) plain entry = (
    λ _. refl,
    alarm_put a placed_in (λ r. refl) (selected rows (PlaceInService u a)) (λ b same. same)
        (moved (unit_after (facts h) t (PlaceInService u a))) refl (alarm_row h a) refl,
  )
  seen_put (Propose u x) plain entry =
      let put_one : RowEdit =
      Put (ChangePut (change_entry (change_as next None (record { proposer = p; proposed = t; kind = x.kind; base = x.base })))) in (
        λ _. refl,
        (
          λ e. absurd (true≢false (sym e
              ∙ no_change)),
          kind_put (seen_by (selected rows (Propose u x))) (changed put_one (moved (unit_after (facts h) t (Propose u x)))) x.kind refl
              refl,
        ),
      )
  seen_put (WithdrawChange u n) plain entry = (
    λ _. refl,
    change_put (unit_after (facts h) t (WithdrawChange u n)) n (selected rows (WithdrawChange u n)) Withdrawn (λ m same. same)
        (change h n) refl,
  )
  seen_put (Approve u n) plain entry = (λ _. refl, approval_put (unit_after (facts h) t (Approve u n)) n (change h n) refl)
  seen_put (Reject u n) plain entry =
      (λ _. refl, change_put (unit_after (facts h) t (Reject u n)) n (selected rows (Reject u n)) Rejected (λ m same. same) (change h n) refl)
  seen_put _ plain entry = (λ _. refl, tt)

  -- who is not refused holds a role
  holder : (q : Request) → IsLegal h → IsEntry h (made p t q) → holds_by rows.grants t p ≡ true
  holder q legal entry =
      true_else (holds_by rows.grants t p) (λ none.
      let refused : verdict h (made p t q) ≡ Err NotGranted = ap (λ f. verdict_of f (made p t q)) (sym (facts-rows h legal))
      ∙ stranger_verdict rows p t q none in
      true≢false (sym entry ∙ ap (λ v. changes_history v (made p t q)) refused))

  part_put : (q : Request) → IsLegal h → is_opening q ≡ false → IsEntry h (made p t q)
      → AllPutOverSeen rows (part_of (made p t q) rows).rows (changes_for (facts h) (made p t q))
  part_put q legal plain entry =
      subst (λ (b : Bool). AllPutOverSeen rows (if b then
      part_of_holder (made p t q) rows else part_of_stranger (made p t q) rows).rows (changes_for (facts h) (made p t q)))
      (sym (holder q legal entry)) (seen_put q plain entry)

pub puts_over_seen : PutsOverWhatIsSeen
puts_over_seen h c legal follows =
    let parts = and_parts (not (is_opening c.request)) _ follows in
    part_put h c.person c.moment c.request legal (not-true _ parts.0) parts.1
