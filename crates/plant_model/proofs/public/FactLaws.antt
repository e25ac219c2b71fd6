-- The rows of a history give its facts.
use Rattle.std.{specs.{Cmp.{eq_by_cmp_equiv}, List.{cons_option, list_any}, Ordering.{eq_by_cmp}}, proofs.lemmas.Bool.{false_from_ne_true}}
use Rattle.std.proofs.Common.{sym, ap, arith, refl, ◌∙◌, nat_cmp, filter_map, if◌then◌else◌, length, max, option_and_then, ◌+◌, ◌≤◌, Bool, List, None, Option, Some, [], cond, false, is_some, map, option_map, true, unwrap_or, ℕ, ◌∷◌, ◌≡◌, Ordering}
use Rattle.plant_types.{proofs.public.{KeyedRowLaws.{row_at-rows, tied}, Orders.{same_names, number_total, same_numbers}}, specs.KeyedRows.{in_order}}
use Rattle.plant_types.specs.{KeyedRows.{row_at}, Names.{same_name, Name, name_cmp}, Options.{or_else, when}, Roles.{Pair, pair_cmp, same_pair}}
use Rattle.plant_model.specs.Changes.{Draft, approved_sheet, change, draft, is_proposal, kind_of_change, matrix, proposals, record_of, record_revision, said_of_draft, sheet, sheet_in}
use Rattle.plant_model.specs.{Facts.{facts}, Grants.{held, is_before, standing, stands}, Histories.{counted, latest, same_number}}
use Rattle.plant_model.specs.steps.RowFacts.{change_found, change_number, change_read, facts_from, kind_read, matrix_read, record_found, record_from, record_read, record_tag, sheet_read, alarm_tag, pair_of, shelf_tag}
use Rattle.plant_model.specs.Rows.{change_entry, changes_of, max_of_kind, record_entry, records_of, sheet_of_kind, tag_of_kind, topic_of, alarm_row, alarm_rows, grant_as, grant_row, grant_rows, rows_of, shelf_rows}
use Rattle.plant_model.specs.{Shelves.{shelf}, declared.call.{Call.{Call}, Request.{Request, TheVariants.{Approve, Propose}}}}
use Rattle.plant_model.specs.declared.{reply.{ChangeRow.{ChangeRow}, RecordRow.{RecordRow}}, rows.{ChangeEntry.{ChangeEntry}, GrantRow.{GrantRow}}}
use Rattle.plant_model.{specs.declared.rows.RecordEntry.{RecordEntry}, proofs.public.PutLaws.{is_some-find}}
use Rattle.plant_model.proofs.public.HistoryLaws.{change_with, changes_told, numbers_of_changes, record_with, records_told, tags_of_records, when_Some, alarms_told, grants_told, pairs_of, shelves_told, tags_of_alarms, tags_of_shelves}
use Rattle.plant_ration.specs.{Grid.{Grid}, declared.change.{ChangeKind.{ChangeKind, TheVariants.{Limit, Matrix, Rationale}}, Sheet.{Sheet}}}

pub is_some-map : {A B : Type 0} (f : A → B) (o : Option A) → is_some (option_map f o) ≡ is_some o
is_some-map f None = refl
is_some-map f (Some x) = refl

pub map-map : {A B C : Type 0} (g : B → C) (f : A → B) (o : Option A) → option_map g (option_map f o) ≡ option_map (λ x. g (f x)) o
map-map g f None = refl
map-map g f (Some x) = refl

-- Grants
stands_in : (h : List Call) (k : Pair) → list_any (λ g. same_pair k (pair_of g)) (grant_rows h) ≡ stands h k
stands_in h k = sym (is_some-find (λ g. same_pair k (pair_of g)) (grant_rows h))
    ∙ ap is_some (row_at-rows (grant_row h) (pairs_of h) (grants_told h) k) ∙ is_some-map (grant_as k) (standing h k)

pub held_in : (h : List Call) (t : ℕ) (k : Pair)
    → unwrap_or (option_map (λ (g : GrantRow). is_before t g.end_s) (row_at pair_cmp pair_of k (grant_rows h))) false ≡ held h t k
held_in h t k =
    ap (λ o. unwrap_or (option_map (λ (g : GrantRow). is_before t g.end_s) o) false) (row_at-rows (grant_row h) (pairs_of h) (grants_told h) k)
    ∙ ap (λ o. unwrap_or o false) (map-map (λ (g : GrantRow). is_before t g.end_s) (grant_as k) (standing h k))

-- Alarms and shelves
pub alarm_in : (h : List Call) (a : Name) → row_at name_cmp alarm_tag a (alarm_rows h) ≡ alarm_row h a
alarm_in h a = row_at-rows (alarm_row h) (tags_of_alarms h) (alarms_told h) a

pub shelf_in : (h : List Call) (a : Name) → row_at name_cmp shelf_tag a (shelf_rows h) ≡ shelf h a
shelf_in h a = row_at-rows (shelf h) (tags_of_shelves h) (shelves_told h) a

-- numbers
pub same_number_of : (m n : ℕ) → same_number m n ≡ true → m ≡ n
same_number_of m n e = same_numbers m n (tied _ true e refl)

pub is_same_number : (n : ℕ) → same_number n n ≡ true
is_same_number n = (eq_by_cmp_equiv number_total).refl n

-- Records and changes: rows that are made of other rows
pub row_at-map : {A X K : Type 0} (R : K → K → Ordering) (key : X → K) (f : A → X) (k : K) (xs : List A)
    → row_at R key k (map f xs) ≡ option_map f (row_at R (λ x. key (f x)) k xs)
row_at-map R key f k [] = refl
row_at-map R key f k (x ∷ xs) =
    elim (eq_by_cmp R k (key (f x))) as (λ b. cond b (Some (f x)) (row_at R key k (map f xs))
    ≡ option_map f (cond b (Some x) (row_at R (λ x. key (f x)) k xs))) [ true ↦ refl | false ↦ row_at-map R key f k xs ]

pub record_entry_in : (h : List Call) (a : Name) → record_found (rows_of h) a ≡ option_map record_entry (record_of h a)
record_entry_in h a = row_at-map name_cmp record_tag record_entry a (records_of h)
    ∙ ap (option_map record_entry) (row_at-rows (record_of h) (tags_of_records h) (records_told h) a)

pub change_entry_in : (h : List Call) (n : ℕ) → change_found (rows_of h) n ≡ option_map change_entry (change h n)
change_entry_in h n = row_at-map nat_cmp change_number change_entry n (changes_of h)
    ∙ ap (option_map change_entry) (row_at-rows (change h) (numbers_of_changes h) (changes_told h) n)

priority_in_rows : (h : List Call) (a : Name)
    → option_map (λ (r : RecordEntry). r.cell_no) (record_found (rows_of h) a) ≡ option_map (λ (r : RecordRow). r.priority) (record_of h a)
priority_in_rows h a = ap (option_map (λ (r : RecordEntry). r.cell_no)) (record_entry_in h a)
    ∙ map-map (λ (r : RecordEntry). r.cell_no) record_entry (record_of h a)

-- what is never stated is counted 0 times
pub none_counted : {A : Type 0} (says : Call → List Call → Option A) (h : List Call) → latest says h ≡ None
    → counted (λ c before. is_some (says c before)) h ≡ 0
none_counted says [] e = refl
none_counted says (c ∷ h) e =
    elim (says c h) as (λ o. or_else o (latest says h) ≡ None
    → (if is_some o then counted (λ c before. is_some (says c before)) h + 1 else counted (λ c before. is_some (says c before)) h) ≡ 0) [
      | None ↦ λ rest. none_counted says h rest
      | Some x ↦ λ some. cc
    ] e

pub revision_in : (h : List Call) (a : Name)
    → unwrap_or (option_map (λ (r : RecordEntry). r.rev) (record_found (rows_of h) a)) 0 ≡ record_revision h a
revision_in h a =
    ap (λ o. unwrap_or (option_map (λ (r : RecordEntry). r.rev) o) 0) (record_entry_in h a)
    ∙ elim (sheet h a) as (λ o. sheet h a ≡ o
    → unwrap_or (option_map (λ (r : RecordEntry). r.rev) (option_map record_entry (option_map (record_with h a) o))) 0 ≡ record_revision h a) [
      | None ↦ λ e. sym (none_counted (λ c before. approved_sheet a before c.request) h e)
      | Some s ↦ λ _. refl
    ] refl

-- A change keeps its number and its content
bound_step : (h : List Call) (n : ℕ) (p : Name) (t : ℕ) (q : Request) (d : Draft) → (draft h n ≡ Some d → n ≤ proposals h)
    → or_else (said_of_draft n p t h q) (draft h n) ≡ Some d → n ≤ (if is_proposal q then proposals h + 1 else proposals h)
bound_step h n p t (Propose u y) d rest e =
    elim (same_number n (proposals h + 1)) as (λ b. same_number n (proposals h + 1) ≡ b
    → or_else (when b (record { proposer = p; proposed = t; kind = y.kind; base = y.base })) (draft h n) ≡ Some d → n ≤ proposals h + 1) [
      | true ↦ λ s _. let is : n ≡ proposals h + 1 = same_number_of n (proposals h + 1) s in omega (arith, is)
      | false ↦ λ _ r. let less : n ≤ proposals h = rest r in omega (arith, less)
    ] refl e
bound_step h n p t _ d rest e = rest e

pub draft_bound : (h : List Call) (n : ℕ) (d : Draft) → draft h n ≡ Some d → n ≤ proposals h
draft_bound [] n d e = cc
draft_bound (c ∷ h) n d e = bound_step h n c.person c.moment c.request d (draft_bound h n d) e

kept_step : (h : List Call) (n : ℕ) (p : Name) (t : ℕ) (q : Request) (o : Option Draft) → n ≤ proposals h → or_else (said_of_draft n p t h q) o ≡ o
kept_step h n p t (Propose u y) o less =
    ap (λ b. or_else (when b (record { proposer = p; proposed = t; kind = y.kind; base = y.base })) o)
    (false_from_ne_true _ (λ e. let is : n ≡ proposals h + 1 = same_number_of n (proposals h + 1) e in omega (arith, less, is)))
kept_step h n p t _ o less = refl

-- a change is kept for good
pub draft_kept : (c : Call) (h : List Call) (n : ℕ) (d : Draft) → draft h n ≡ Some d → draft (c ∷ h) n ≡ Some d
draft_kept c h n d e = kept_step h n c.person c.moment c.request (draft h n) (draft_bound h n d e) ∙ e

kind_kept : (c : Call) (h : List Call) (n : ℕ) (k : ChangeKind) → kind_of_change h n ≡ Some k → kind_of_change (c ∷ h) n ≡ Some k
kind_kept c h n k e =
    elim (draft h n) as (λ o. draft h n ≡ o → option_map (λ (d : Draft). d.kind) o ≡ Some k → kind_of_change (c ∷ h) n ≡ Some k) [
      | None ↦ λ _ is. cc
      | Some d ↦ λ some is. ap (option_map (λ (d : Draft). d.kind)) (draft_kept c h n d some) ∙ is
    ] refl e

-- a sheet in force came from a change
sheet_when : (a b : Name) (old new : ℕ × Sheet) (t : Bool) → same_name a b ≡ t → when t old ≡ Some new
    → (old.0 ≡ new.0) × (Some (Rationale b old.1) ≡ Some (Rationale a new.1))
sheet_when a b old new true same is =
    let pair = when_Some true old new is in (
      ap (λ (z : ℕ × Sheet). z.0) pair,
      ap (λ z. Some (Rationale z old.1)) (sym (same_names a b (tied _ true same refl)))
          ∙ ap (λ (z : ℕ × Sheet). Some (Rationale a z.1)) pair,
    )
sheet_when a b old new false same is = cc

sheet_of : (a : Name) (n m : ℕ) (s : Sheet) (k : Option ChangeKind) → sheet_in a n k ≡ Some (m, s) → (n ≡ m) × (k ≡ Some (Rationale a s))
sheet_of a n m s (Some (Rationale b r)) e = sheet_when a b (n, r) (m, s) (same_name a b) refl e
sheet_of a n m s _ e = cc

approved_from : (a : Name) (c : Call) (h : List Call) (p : Name) (t : ℕ) (q : Request) (m : ℕ) (s : Sheet) → approved_sheet a h q ≡ Some (m, s)
    → kind_of_change h m ≡ Some (Rationale a s)
approved_from a c h p t (Approve u n) m s e = let both = sheet_of a n m s (kind_of_change h n) e in ap (kind_of_change h) (sym both.0) ∙ both.1
approved_from a c h p t _ m s e = cc

pub sheet_source : (h : List Call) (a : Name) (m : ℕ) (s : Sheet) → sheet h a ≡ Some (m, s) → kind_of_change h m ≡ Some (Rationale a s)
sheet_source [] a m s e = cc
sheet_source (c ∷ h) a m s e =
    elim (approved_sheet a h c.request) as (λ o. approved_sheet a h c.request ≡ o → or_else o (sheet h a) ≡ Some (m, s)
    → kind_of_change (c ∷ h) m ≡ Some (Rationale a s)) [
      | None ↦ λ _ rest. kind_kept c h m _ (sheet_source h a m s rest)
      | Some y ↦ λ some is. kind_kept c h m _ (approved_from a c h c.person c.moment c.request m s (some ∙ is))
    ] refl e

-- Matrices that are read back as they were given
pub record AreReadable (h : List Call) : Type 0 where
  pub proposed : (n : ℕ) (m : Grid) → kind_of_change h n ≡ Some (Matrix m) → matrix_read (rows_of h) n ≡ m
  pub in_force : matrix_read (rows_of h) (matrix h).0 ≡ (matrix h).1

-- a record is read from its row and its change
sheet_back : (s : Sheet) (a : Name) (c : ChangeRow) → c.kind ≡ Rationale a s → sheet_read (change_entry c) ≡ s
sheet_back s a c e =
    ap (λ k. record {
      cause = unwrap_or (option_map (λ (s : Sheet). s.cause) (sheet_of_kind k)) [];
      consequence = unwrap_or (option_map (λ (s : Sheet). s.consequence) (sheet_of_kind k)) [];
      action = unwrap_or (option_map (λ (s : Sheet). s.action) (sheet_of_kind k)) [];
      severity = unwrap_or (option_map (λ (s : Sheet). s.severity) (sheet_of_kind k)) 0;
      response = unwrap_or (option_map (λ (s : Sheet). s.response) (sheet_of_kind k)) 0;
    }) e

read_draft : (h : List Call) (r : RecordEntry) (a : Name) (s : Sheet) (o : Option Draft) → option_map (λ (d : Draft). d.kind) o ≡ Some (Rationale a s)
    → option_map (λ (c : ChangeEntry). record_from r (sheet_read c))
    (option_map change_entry (option_map (change_with h r.change_no) o)) ≡ Some (record_from r s)
read_draft h r a s None e = cc
read_draft h r a s (Some d) e =
    ap (λ z. Some (record_from r z)) (sheet_back s a (change_with h r.change_no d) (let same : d.kind ≡ Rationale a s = cc in same))

record_back : (h : List Call) (a : Name) (x : ℕ × Sheet) → sheet h a ≡ Some x
    → record_read (rows_of h) (record_entry (record_with h a x)) ≡ Some (record_with h a x)
record_back h a x e =
    ap (option_map (λ (c : ChangeEntry). record_from (record_entry (record_with h a x)) (sheet_read c))) (change_entry_in h x.0)
    ∙ read_draft h (record_entry (record_with h a x)) a x.1 (draft h x.0) (sheet_source h a x.0 x.1 e)

record_in : (h : List Call) (a : Name) → option_and_then (record_read (rows_of h)) (record_found (rows_of h) a) ≡ record_of h a
record_in h a =
    ap (option_and_then (record_read (rows_of h))) (record_entry_in h a)
    ∙ elim (sheet h a) as (λ o. sheet h a ≡ o
    → option_and_then (record_read (rows_of h))
    (option_map record_entry (option_map (record_with h a) o))
    ≡ option_map (record_with h a) o) [ None ↦ λ _. refl | Some x ↦ record_back h a x ] refl

records_back : (h : List Call) (tags : List Name)
    → filter_map (record_read (rows_of h)) (map record_entry (filter_map (record_of h) tags)) ≡ filter_map (record_of h) tags
records_back h [] = refl
records_back h (a ∷ tags) =
    elim (sheet h a) as (λ o. sheet h a ≡ o
    → filter_map (record_read (rows_of h))
    (map record_entry (cons_option (option_map (record_with h a) o) (filter_map (record_of h) tags)))
    ≡ cons_option (option_map (record_with h a) o) (filter_map (record_of h) tags)) [
      | None ↦ λ _. records_back h tags
      | Some x ↦ λ e i. cons_option (record_back h a x e i) (records_back h tags i)
    ] refl

-- a change is read from its row
kind_back : (h : List Call) → AreReadable h → (c : ChangeRow) (k : ChangeKind) → c.kind ≡ k → kind_of_change h c.number ≡ Some k
    → kind_read (rows_of h) (change_entry c) (topic_of k) ≡ k
kind_back h readable c (Rationale a s) e is = λ i. Rationale (unwrap_or (tag_of_kind (e i)) []) (sheet_back s a c e i)
kind_back h readable c (Matrix m) e is = ap (λ x. Matrix x) (readable.proposed c.number m is)
kind_back h readable c (Limit a max) e is = λ i. Limit (unwrap_or (tag_of_kind (e i)) []) (unwrap_or (max_of_kind (e i)) 0)

change_in : (h : List Call) → AreReadable h → (n : ℕ) → option_map (change_read (rows_of h)) (change_found (rows_of h) n) ≡ change h n
change_in h readable n =
    ap (option_map (change_read (rows_of h))) (change_entry_in h n)
    ∙ elim (draft h n) as (λ o. draft h n ≡ o
    → option_map (change_read (rows_of h)) (option_map change_entry (option_map (change_with h n) o)) ≡ option_map (change_with h n) o) [
      | None ↦ λ _. refl
      | Some d ↦ λ e i. Some
          (record (change_with h n d) { kind = kind_back h readable (change_with h n d) d.kind refl (ap (option_map (λ (d : Draft). d.kind)) e) i })
    ] refl

-- the facts read from the rows of a history, with the numbers of its alarms and proposals, are those of the history
pub facts_told : (h : List Call) → AreReadable h → facts_from (rows_of h) (length (alarm_rows h)) (proposals h) ≡ facts h
facts_told h readable = λ i. record (facts h) {
  stands = λ k. stands_in h k i;
  held = λ t k. held_in h t k i;
  alarm = λ a. alarm_in h a i;
  shelf = λ a. shelf_in h a i;
  matrix = readable.in_force i;
  priority = λ a. priority_in_rows h a i;
  revision = λ a. revision_in h a i;
  rationale = λ a. record_in h a i;
  rationales = records_back h (in_order name_cmp (tags_of_records h)) i;
  change = λ n. change_in h readable n i;
}
