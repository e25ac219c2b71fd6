-- What the parts of a legal history keep.
use Rattle.std.{specs.{List.{cons_option, list_all}, Prelude.{All}}, proofs.lemmas.List.Elements.{All-nil, All-cons}}
use Rattle.std.proofs.Common.{ap, arith, cond, inl, inr, refl, subst, sym, ◌∙◌, nat_cmp, Bool, List, None, Option, Some, [], false, filter, filter_map, if◌then◌else◌, is_some, length, map, max, option_map, true, unwrap_or, ℕ, ◌&&◌, ◌<◌, ◌==◌, ◌||◌, ◌∷◌, ◌≡◌, ◌≤◌}
use Rattle.std.proofs.lemmas.{Bool.{and_parts, false_from_ne_true, or_left, or_right, or_cases}, List.Elements.{All-filter}}
use Rattle.std.proofs.lemmas.{List.{Folds.{list_any_none}, Sums.{list_all-from_AllPass}}, Option.{same_Some}}
use Rattle.plant_alarm.specs.{States.{summary}, declared.event.Event.{Event}}
use Rattle.plant_model.specs.{Alarms.{latching}, Changes.{Draft, change, draft, kind_of_change, matrix, record_of, sheet}}
use Rattle.plant_model.specs.{Events.{events}, Histories.{same_number}, Legality.{IsLegal}, Matrices.{matrix_numbered}}
use Rattle.plant_model.specs.steps.LooksAt.{AllEvents, AllRecords, Approval, File, OneChange, OneRecord, Scope, scope_of, scope_of_proposal}
use Rattle.plant_model.specs.steps.Parts.{Selection, counted_for, every, is_source, none, of_approved, of_topic, part_of, part_of_holder, part_of_stranger, rows_selected, selected, selection}
use Rattle.plant_model.specs.steps.RowFacts.{alarm_tag, cells_at, change_found, change_number, change_read, has_cells, holds_by, matrix_read, record_found, record_tag}
use Rattle.plant_model.specs.Rows.{alarm_row, alarm_rows, cell_rows, change_entry, change_rows, max_of_kind, record_entry, record_rows, revision_of_limit, rows_of, sheet_of_kind, tag_of_kind, topic_of}
use Rattle.plant_model.specs.declared.call.{Call.{Call}, Request.{Request, TheVariants.{Floods, Import, Propose, Register}}}
use Rattle.plant_model.specs.declared.rows.{AlarmRow.{AlarmRow}, CellRow.{CellRow}, ChangeEntry.{ChangeEntry}}
use Rattle.plant_model.specs.declared.rows.ChangeTopic.{ChangeTopic, TheVariants.{Matrix as MatrixTopic}}
use Rattle.plant_model.specs.declared.rows.{RecordEntry.{RecordEntry}, UnitPart.{UnitPart}, UnitRows.{UnitRows}}
use Rattle.plant_model.proofs.public.{CountLaws.{few_limits, few_matrices, few_proposals, few_records}, EventLaws.{events_rise}}
use Rattle.plant_model.proofs.public.FactLaws.{alarm_in, change_entry_in, revision_in, same_number_of, sheet_source}
use Rattle.plant_model.proofs.public.HistoryLaws.{alarm_of, change_with, record_with, tags_of_alarms, tags_of_records}
use Rattle.plant_model.proofs.public.{PartLaws.{matrix_there, own_holds}, QuotaLaws.{few_alarms}}
use Rattle.plant_model.proofs.public.ReadLaws.{change_count, in_force_numbered, proposed_matrix, read_back, row_at-left, shaped}
use Rattle.plant_types.specs.{KeyedRows.{in_order, row_at}, Limits.{max_changes, max_events}, Names.{Name, name_cmp, same_name}}
use Rattle.plant_types.proofs.public.Orders.{name_total, number_total, same_names, same_numbers}
use Rattle.plant_unit.specs.{Additions.{AreCountable, AreEventsFor, AreEventsIn, AreKept}, Readings.{has_its_sheet, has_kind, has_sheet, is_left_out, is_matrix_at}}
use Rattle.plant_unit.{specs.Summaries.{summary_in, summary_of}, proofs.EventBounds.{few_events}}
use Rattle.plant_ration.specs.{Grid.{Grid}, Matrix.{is_matrix}, declared.change.ChangeKind.{ChangeKind, TheVariants.{Limit, Matrix, Rationale}}}
use Rattle.plant_ration.specs.declared.change.Sheet.{Sheet}
use Rattle.plant_import.{specs.Merging.{IsRising}, proofs.public.NeededLaws.{needed_few}}

-- Tests of rows that pass a wider one
filter-none : {X : Type 0} (narrow wide : X → Bool) → ((x : X) → narrow x ≡ true → wide x ≡ false) → (xs : List X)
    → filter narrow (filter wide xs) ≡ []
filter-none narrow wide never [] = refl
filter-none narrow wide never (x ∷ xs) =
    elim (wide x) as (λ b. wide x ≡ b → filter narrow (cond b (x ∷ filter wide xs) (filter wide xs)) ≡ []) [
      | true ↦ λ is. ap (λ b. cond b (x ∷ filter narrow (filter wide xs)) (filter narrow (filter wide xs)))
          (false_from_ne_true (narrow x) (λ e. let no : true ≡ false = sym is ∙ never x e in cc)) ∙ filter-none narrow wide never xs
      | false ↦ λ _. filter-none narrow wide never xs
    ] refl

-- the events that a request looks at are no more than all
none_few : AreCountable []
none_few = omega arith

few_of_topic : (rows : UnitRows) (tag : Option Name) (k : ChangeTopic) (es : List Event) → AreCountable ((of_topic rows tag k).events es)
few_of_topic rows tag MatrixTopic es = none_few
few_of_topic rows None _ es = none_few
few_of_topic rows _ _ es = none_few

few_of_approved : (rows : UnitRows) (n : ℕ) (o : Option ChangeEntry) (es : List Event) → AreCountable ((of_approved rows n o).events es)
few_of_approved rows n None es = none_few
few_of_approved rows n (Some c) es = few_of_topic rows c.tag c.kind_no es

few_of : (rows : UnitRows) (s : Scope) (es : List Event) → IsRising es → length es ≤ max_events → AreCountable ((selection rows s).events es)
few_of rows (File file) es h few = let le = needed_few es file h in omega (arith, few, le)
few_of rows AllEvents es h few = omega (arith, few)
few_of rows (Approval n) es h few = few_of_approved rows n (change_found rows n) es
few_of rows _ es h few = none_few

fits : (n most : ℕ) → n ≤ most → most < 4294967295 → n < 4294967295
fits n most few fit = omega arith

-- what holds of the row of each sheet's record holds of the rows of all records
rows_all : (h : List Call) (P : RecordEntry → Type 0) → ((a : Name) (x : ℕ × Sheet) → sheet h a ≡ Some x → P (record_entry (record_with h a x)))
    → (tags : List Name) → All P (map record_entry (filter_map (record_of h) tags))
rows_all h P holds [] = All-nil P
rows_all h P holds (a ∷ tags) =
    elim (sheet h a) as (λ o. sheet h a ≡ o
    → All P (map record_entry (cons_option (option_map (record_with h a) o) (filter_map (record_of h) tags)))) [
      | None ↦ λ _. rows_all h P holds tags
      | Some x ↦ λ is. All-cons P (record_entry (record_with h a x)) _ (holds a x is) (rows_all h P holds tags)
    ] refl

-- A source of a record is a change of a record
module _ (h : List Call) (n : ℕ) (m : Grid) (is : kind_of_change h n ≡ Some (Matrix m)) where
  not_source : (tags : Name → Bool) (a : Name) (x : ℕ × Sheet) → sheet h a ≡ Some x → (tags a && same_number n x.0) ≡ false
  not_source tags a x e = false_from_ne_true _ (λ here.
      let clash : Some (Matrix m) ≡ Some (Rationale a x.1) = sym is ∙ ap (kind_of_change h) (same_number_of n x.0 (and_parts (tags a) _ here).1)
      ∙ sheet_source h a x.0 x.1 e in
      let no : Matrix m ≡ Rationale a x.1 = cc in
      cc)

  no_source : (tags : Name → Bool) → is_source (rows_of h) tags n ≡ false
  no_source tags =
      list_any_none _ _ (rows_all h (λ r. (tags r.tag && same_number n r.change_no)
      ≡ false) (not_source tags) (in_order name_cmp (tags_of_records h)))

  -- a matrix that is selected is there with its rows
  no_source_named : (tags : Name → Bool) (A : Type 0) → is_source (rows_of h) tags n ≡ true → A
  no_source_named tags A e = absurd (let no : true ≡ false = sym e ∙ no_source tags in cc)

  topic_matrix : (tag : Option Name) (k : ChangeTopic) → (of_topic (rows_of h) tag k).change n ≡ true
      → (of_topic (rows_of h) tag k).matrix n ≡ true
  topic_matrix tag MatrixTopic e = no_source_named every _ e
  topic_matrix (Some a) _ e = cc
  topic_matrix None _ e = no_source_named every _ e

  approved_matrix : (k : ℕ) (o : Option ChangeEntry) → (of_approved (rows_of h) k o).change n ≡ true
      → (of_approved (rows_of h) k o).matrix n ≡ true
  approved_matrix k None e = e
  approved_matrix k (Some c) e = elim (or_cases ((of_topic (rows_of h) c.tag c.kind_no).change n) (same_number k n) e) [
    | inl source ↦ or_left _ _ (topic_matrix c.tag c.kind_no source)
    | inr named ↦ or_right _ _ named
  ]

  scope_matrix : (s : Scope) → (selection (rows_of h) s).change n ≡ true → (selection (rows_of h) s).matrix n ≡ true
  scope_matrix (OneChange k) e = e
  scope_matrix (Approval k) e = approved_matrix k (change_found (rows_of h) k) e
  scope_matrix (OneRecord a) e = no_source_named (same_name a) _ e
  scope_matrix AllRecords e = no_source_named every _ e
  scope_matrix _ e = cc

-- the columns of a sheet are there where the change is of a record
abbrev has_sheet_of : ChangeKind → Bool
has_sheet_of k =
    is_some (option_map (λ (s : Sheet). s.cause) (sheet_of_kind k)) && is_some (option_map (λ (s : Sheet). s.consequence) (sheet_of_kind k))
    && is_some (option_map (λ (s : Sheet). s.action) (sheet_of_kind k)) && is_some (option_map (λ (s : Sheet). s.severity) (sheet_of_kind k))
    && is_some (option_map (λ (s : Sheet). s.response) (sheet_of_kind k))

module _ (h : List Call) (legal : IsLegal h) (p : Name) (t : ℕ) (q : Request) where
  abbrev c : Call
  c = record { person = p; moment = t; request = q }

  abbrev s : Selection
  s = selected (rows_of h) q

  abbrev part : UnitRows
  part = rows_selected p s (rows_of h)

  matrix_is : (n : ℕ) (m : Grid) → matrix_numbered h n ≡ Some m → s.matrix n ≡ true → is_matrix_at part n ≡ true
  matrix_is n m numbered holds =
      let shape = shaped h legal n m numbered in
      let whole : matrix_read part n ≡ m = matrix_there (rows_of h) p t s n holds ∙ read_back h n m numbered shape in
      ap (λ (x : Grid). is_matrix x.limits x.cells) whole ∙ shape

  cells_gone : (n : ℕ) → s.matrix n ≡ false → (severity : ℕ) → cells_at part.cells n severity ≡ []
  cells_gone n out severity =
      ap (map (λ (c : CellRow). c.cell_no))
      (filter-none (λ (c : CellRow). same_number n c.matrix_no && same_number severity c.severity) (λ (c : CellRow). s.matrix c.matrix_no)
      (λ c e. ap s.matrix (sym (same_number_of n c.matrix_no (and_parts (same_number n c.matrix_no) (same_number severity c.severity) e).0))
      ∙ out)
      (cell_rows h))

  left_out : (n : ℕ) → s.matrix n ≡ false → is_left_out part n ≡ true
  left_out n out =
      λ i. length (filter has_cells (cells_gone n out 1 i ∷ cells_gone n out 2 i ∷ cells_gone n out 3 i ∷ cells_gone n out 4 i
      ∷ cells_gone n out 5 i
      ∷ [])) == 0

  matrix_whole : (is_left_out part (matrix h).0 || is_matrix_at part (matrix h).0) ≡ true
  matrix_whole =
      elim (s.matrix (matrix h).0) as (λ b. s.matrix (matrix h).0 ≡ b
      → (is_left_out part (matrix h).0 || is_matrix_at part (matrix h).0) ≡ true) [
        | true ↦ λ holds. or_right _ _ (matrix_is (matrix h).0 (matrix h).1 (in_force_numbered h legal) holds)
        | false ↦ λ out. or_left _ _ (left_out (matrix h).0 out)
      ] refl

  -- a change of the part is one of the history
  change_left : (n : ℕ) → change_found part n ≡ cond (s.change n) (option_map change_entry (change h n)) None
  change_left n = row_at-left nat_cmp change_number number_total same_numbers s.change n (change_rows h)
      ∙ ap (λ o. cond (s.change n) o None) (change_entry_in h n)

  kind_whole : (n : ℕ) (d : Draft) → draft h n ≡ Some d → s.change n ≡ true
      → has_kind part (change_entry (change_with h n d)) (topic_of d.kind) ≡ true
  kind_whole n d known there = by d.kind refl where
    by : (k : ChangeKind) → d.kind ≡ k → has_kind part (change_entry (change_with h n d)) (topic_of k) ≡ true
    by (Rationale a sheet) e = ap (λ k. is_some (tag_of_kind k) && has_sheet_of k) e
    by (Matrix m) e =
        let is : kind_of_change h n ≡ Some (Matrix m) = ap (option_map (λ (d : Draft). d.kind)) known ∙ ap (λ k. Some k) e in
        matrix_is n m (proposed_matrix h n m is) (scope_matrix h n m is (scope_of q) there)
    by (Limit a max) e = ap (λ k. is_some (tag_of_kind k) && is_some (max_of_kind k)) e

  -- a change of the part is that of a draft
  drafted : (n : ℕ) (c : ChangeEntry) → change_found part n ≡ Some c
      → (d : Draft) × (draft h n ≡ Some d) × (s.change n ≡ true) × (change_entry (change_with h n d) ≡ c)
  drafted n c found = by (s.change n) (draft h n) refl refl (sym (change_left n) ∙ found) where
    by : (b : Bool) (o : Option Draft) → s.change n ≡ b → draft h n ≡ o
        → cond b (option_map change_entry (option_map (change_with h n) o)) None ≡ Some c
        → (d : Draft) × (draft h n ≡ Some d) × (s.change n ≡ true) × (change_entry (change_with h n d) ≡ c)
    by true (Some d) there is e = (d, is, there, cc)
    by true None there is e = cc
    by false o there is e = cc

  changes_whole : (n : ℕ) (c : ChangeEntry) → change_found part n ≡ Some c → has_kind part c c.kind_no ≡ true
  changes_whole n c found =
      let of = drafted n c found in
      subst (λ (x : ChangeEntry). has_kind part x x.kind_no ≡ true) of.3 (kind_whole n of.0 of.1 of.2)

  -- the row of a change is that of the change that is read from it
  entry_read : (n : ℕ) (d : Draft) → change_entry (change_read part (change_entry (change_with h n d))) ≡ change_entry (change_with h n d)
  entry_read n d =
      elim d.kind as (λ k. change_entry (change_read part (change_entry (record (change_with h n d) { kind = k })))
      ≡ change_entry (record (change_with h n d) { kind = k })) [ Rationale a sheet ↦ refl | Matrix m ↦ refl | Limit a max ↦ refl ]

  changes_read : (n : ℕ) (c : ChangeEntry) → change_found part n ≡ Some c → change_entry (change_read part c) ≡ c
  changes_read n c found =
      let of = drafted n c found in
      subst (λ (x : ChangeEntry). change_entry (change_read part x) ≡ x) of.3 (entry_read n of.0)

  -- a record's change, where the part has it, has a sheet
  source_whole : (a : Name) (x : ℕ × Sheet) → sheet h a ≡ Some x → has_its_sheet part (record_entry (record_with h a x)) ≡ true
  source_whole a x known = by (change_found part x.0) refl where
    by : (o : Option ChangeEntry) → change_found part x.0 ≡ o → unwrap_or (option_map has_sheet o) true ≡ true
    by None e = refl
    by (Some c) e =
        let of = drafted x.0 c e in
        let kind : Some of.0.kind ≡ Some (Rationale a x.1) = sym (ap (option_map (λ (d : Draft). d.kind)) of.1)
        ∙ sheet_source h a x.0 x.1 known in
        ap has_sheet (sym of.3) ∙ ap has_sheet_of (same_Some _ _ kind)

  records_whole : list_all (has_its_sheet part) part.records ≡ true
  records_whole =
      let whole : RecordEntry → Type 0 = λ r. has_its_sheet part r ≡ true in
      list_all-from_AllPass (has_its_sheet part) _
      (All-filter (λ r. s.rationale r.tag) whole (record_rows h) (rows_all h whole source_whole (in_order name_cmp (tags_of_records h))))

  -- there is a next number of each kind
  counted : counted_for (rows_of h) q ≤ max_events
  counted = by q where
    by : (q : Request) → counted_for (rows_of h) q ≤ max_events
    by (Register u a l m) = let few = few_alarms h legal in omega (arith, few)
    by (Import u file) = few_events h legal
    by (Propose u x) = let few = subst (λ n. n ≤ max_changes) (sym (change_count h)) (few_proposals h legal) in omega (arith, few)
    by _ = omega arith

  revision_left : (a : Name) → unwrap_or (option_map (λ (r : RecordEntry). r.rev) (record_found part a)) 0 ≤ max_changes
  revision_left a =
      subst (λ o. unwrap_or (option_map (λ (r : RecordEntry). r.rev) o) 0 ≤ max_changes)
      (sym (row_at-left name_cmp record_tag name_total same_names s.rationale a (record_rows h)))
      (elim (s.rationale a) as
      (λ b. unwrap_or (option_map (λ (r : RecordEntry). r.rev) (cond b (record_found (rows_of h) a) None)) 0 ≤ max_changes)
      [ true ↦ subst (λ n. n ≤ max_changes) (sym (revision_in h a)) (few_records h legal a) | false ↦ omega arith ])

  limit_left : (a : Name) → revision_of_limit (row_at name_cmp alarm_tag a part.alarms) ≤ max_changes
  limit_left a =
      subst (λ o. revision_of_limit o ≤ max_changes)
      (sym (row_at-left name_cmp alarm_tag name_total same_names s.alarm a (alarm_rows h) ∙ ap (λ o. cond (s.alarm a) o None) (alarm_in h a)))
      (elim (s.alarm a) as (λ b. revision_of_limit (cond b (alarm_row h a) None) ≤ max_changes) [
        | true ↦ elim (latching h a) as (λ o. revision_of_limit (option_map (alarm_of h a) o) ≤ max_changes)
            [ None ↦ omega arith | Some l ↦ few_limits h legal a ]
        | false ↦ omega arith
      ])

  holder_kept : AreKept (part_of_holder c (rows_of h))
  holder_kept =
      record {
        events_few = few_of (rows_of h) (scope_of q) (events h) (events_rise h legal) (few_events h legal);
        matrix_whole = matrix_whole;
        changes_whole = changes_whole;
        changes_read = changes_read;
        records_whole = records_whole;
        count_fits = fits _ max_events counted (omega arith);
        matrix_fits = fits _ max_changes (few_matrices h legal) (omega arith);
        record_fits = λ a. fits _ max_changes (revision_left a) (omega arith);
        limit_fits = λ a. fits _ max_changes (limit_left a) (omega arith);
      }

  stranger_kept : AreKept (part_of_stranger c (rows_of h))
  stranger_kept =
      record {
        events_few = omega arith;
        matrix_whole = refl;
        changes_whole = λ n c e. cc;
        changes_read = λ n c e. cc;
        records_whole = refl;
        count_fits = omega arith;
        matrix_fits = fits _ max_changes (few_matrices h legal) (omega arith);
        record_fits = λ a. omega arith;
        limit_fits = λ a. omega arith;
      }

  pub part_kept_of : AreKept (part_of c (rows_of h))
  part_kept_of =
      elim (holds_by (rows_of h).grants t p) as (λ b. AreKept (if b then
      part_of_holder c (rows_of h) else part_of_stranger c (rows_of h))) [ true ↦ holder_kept | false ↦ stranger_kept ]

-- ---- the events that a holder's call sees

summaries_told : (h : List Call) (tags : List Name)
    → map summary_in (filter (λ (r : AlarmRow). true) (filter_map (alarm_row h) tags)) ≡ map (summary_of (events h))
    (filter (λ (r : AlarmRow). true) (filter_map (alarm_row h) tags))
unfolding summary
summaries_told h [] = refl
summaries_told h (a ∷ tags) =
    elim (latching h a) as
    (λ o. map summary_in (filter (λ (r : AlarmRow). true) (cons_option (option_map (alarm_of h a) o) (filter_map (alarm_row h) tags)))
    ≡ map (summary_of (events h))
    (filter (λ (r : AlarmRow). true) (cons_option (option_map (alarm_of h a) o) (filter_map (alarm_row h) tags)))) [
      | None ↦ summaries_told h tags
      | Some l ↦ ap (λ ss. summary_of (events h) (alarm_of h a l) ∷ ss) (summaries_told h tags)
    ]

proposal_events : (part : UnitPart) (es : List Event) (k : ChangeKind) → AreEventsIn part (scope_of_proposal k) es
proposal_events part es (Matrix m) = tt
proposal_events part es _ = tt

holder_events : (h : List Call) (legal : IsLegal h) (p : Name) (t : ℕ) (q : Request)
    → AreEventsFor (part_of_holder (record { person = p; moment = t; request = q }) (rows_of h)) q (events h)
holder_events h legal p t (Import u file) =
    record {
      rise = events_rise h legal;
      needed_are = refl;
      count_is = refl;
      summaries = summaries_told h (in_order name_cmp (tags_of_alarms h));
    }
holder_events h legal p t (Floods u begin until) = refl
holder_events h legal p t (Propose u x) =
    proposal_events (part_of_holder (record { person = p; moment = t; request = Propose u x }) (rows_of h)) (events h) x.kind
holder_events h legal p t _ = tt

pub part_events : (h : List Call) (legal : IsLegal h) (c : Call) → holds_by (part_of c (rows_of h)).rows.grants c.moment c.person ≡ true
    → AreEventsFor (part_of c (rows_of h)) c.request (events h)
part_events h legal c some = by (holds_by (rows_of h).grants c.moment c.person) refl some where
  by : (b : Bool) → holds_by (rows_of h).grants c.moment c.person ≡ b
      → holds_by (if b then part_of_holder c (rows_of h) else part_of_stranger c (rows_of h)).rows.grants c.moment c.person ≡ true
      → AreEventsFor (if b then part_of_holder c (rows_of h) else part_of_stranger c (rows_of h)) c.request (events h)
  by true e holds = holder_events h legal c.person c.moment c.request
  by false none holds = absurd (let no : true ≡ false = sym holds ∙ own_holds (rows_of h) c.person c.moment ∙ none in cc)
