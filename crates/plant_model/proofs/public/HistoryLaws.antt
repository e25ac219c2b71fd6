-- A function gives each table of a history: its rows are at keys that the history names, and have their keys.
use Rattle.std.{specs.{List.{list_any}, Ordering.{eq_by_cmp}}, proofs.lemmas.{Bool.{or_left, or_right}, List.Folds.{list_any-append}}}
use Rattle.std.proofs.Common.{◌+◌, Bool, List, None, Option, Some, [], false, option_map, true, unwrap_or, ℕ, ◌++◌, ◌||◌, ◌∷◌, ◌≡◌, ◌⊎◌, ap, inl, inr, refl, subst, sym, ◌∙◌, find, nat_cmp, Ordering, is_some, option_to_list}
use Rattle.plant_import.specs.Numbers.{has_number, numbers_of}
use Rattle.plant_model.{specs.{Alarms.{latching, limit, said_of_latching}, Kinds.{says}}, proofs.public.{RowsFound.{find_passes}, PutLaws.{key_in}}}
use Rattle.plant_model.specs.Changes.{Draft, approved_sheet, change, change_as, decision, draft, kind_of_change, limit_revision, matrix, proposals, record_as, record_of, record_revision, said_of_draft, sheet, sheet_in}
use Rattle.plant_model.specs.{Events.{event_numbered, events_of, imported}, Grants.{said_of_pair, standing}, Alarms.{latching_by}}
use Rattle.plant_model.specs.Histories.{Begins, Over, Said, all_named, latest, of_key, same_number, still}
use Rattle.plant_model.specs.steps.Parts.{none, nothing}
use Rattle.plant_model.specs.steps.RowFacts.{alarm_tag, event_number, pair_of, shelf_tag}
use Rattle.plant_model.specs.Rows.{numbers_proposed, tag_rationalised, tags_approved, alarm_as, alarm_row, grant_as, grant_row, pairs_named, tags_registered, tags_shelved}
use Rattle.plant_model.specs.{Service.{outage}, Shelves.{said_of_shelf, shelf}, declared.call.{Call.{Call}, Request.{Request}}}
use Rattle.plant_model.specs.declared.call.Request.TheVariants.{Approve, Propose, OneShotShelve, TimedShelve, Unshelve}
use Rattle.plant_model.specs.declared.{reply.{ChangeRow.{ChangeRow}, RecordRow.{RecordRow}}, rows.{AlarmRow.{AlarmRow}, ShelfRow.{ShelfRow}}}
use Rattle.plant_ration.specs.declared.change.{ChangeKind.{ChangeKind, TheVariants.{Rationale}}, Sheet.{Sheet}}
use Rattle.plant_types.specs.{Names.{Name, name_cmp, same_name}, Options.{or_else, when}, Roles.{Pair, pair_cmp, same_pair}}
use Rattle.plant_types.proofs.public.{KeyedRowLaws.{Tells, tied}, Orders.{name_total, number_total, pair_total, same_names, same_numbers, same_pairs}}

pub when_or : {A : Type 0} (b : Bool) (x : A) → (when b x ≡ None) ⊎ (b ≡ true)
when_or true x = inr refl
when_or false x = inl refl

pub when_Some : {A : Type 0} (b : Bool) (x y : A) → when b x ≡ Some y → x ≡ y
when_Some true x y e = cc
when_Some false x y e = cc

pub when_same : {A : Type 0} (a b : Name) (x y : A) → when (same_name a b) x ≡ Some y → a ≡ b
when_same a b x y e = elim (when_or (same_name a b) x) [ inl none ↦ let no = sym none ∙ e in cc | inr same ↦ same_names a b (tied _ true same refl) ]

-- if each entry states something only about keys that it names, then the newest that does so about a key names it
module _ {A X K : Type 0} (R : K → K → Ordering) (says : Call → List Call → Option A) (read : Option A → Option X) (names : Call → List Call → List K)
    (k : K) where
  abbrev IsNamed : Option X → List K → Type 0
  IsNamed o ks = (o ≡ None) ⊎ (list_any (eq_by_cmp R k) ks ≡ true)

  pub latest-named : read None ≡ None → ((c : Call) (before : List Call) (x : A) → says c before ≡ Some x → IsNamed (read (Some x)) (names c before))
      → (h : List Call) → IsNamed (read (latest says h)) (all_named names h)
  latest-named none each [] = inl none
  latest-named none each (c ∷ h) =
      let both = list_any-append (eq_by_cmp R k) (names c h) (all_named names h) in
      elim (says c h) as (λ o. says c h ≡ o → IsNamed (read (or_else o (latest says h))) (names c h ++ all_named names h)) [
        | None ↦ λ _. elim (latest-named none each h) [ inl rest ↦ inl rest | inr there ↦ inr (both ∙ or_right _ _ there) ]
        | Some x ↦ λ some. elim (each c h x some) [ inl nothing ↦ inl nothing | inr here ↦ inr (both ∙ or_left _ _ here) ]
      ] refl

-- what holds for each entry's statement holds for the newest
pub latest-holds : {A : Type 0} (says : Call → List Call → Option A) (P : A → Type 0)
    → ((c : Call) (before : List Call) (x : A) → says c before ≡ Some x → P x) → (h : List Call) (x : A) → latest says h ≡ Some x → P x
latest-holds says P each [] x e = cc
latest-holds says P each (c ∷ h) x e =
    elim (says c h) as (λ o. says c h ≡ o → or_else o (latest says h) ≡ Some x → P x) [
      | None ↦ λ none is. latest-holds says P each h x is
      | Some y ↦ λ some is. each c h x (some ∙ is)
    ] refl e

pub mapped_key : {A X K : Type 0} (key : X → K) (f : A → X) (k : K) (o : Option A) (r : X) → ((x : A) → key (f x) ≡ k) → option_map f o ≡ Some r
    → key r ≡ k
mapped_key key f k None r is e = cc
mapped_key key f k (Some x) r is e = let same : f x ≡ r = cc in ap key (sym same) ∙ is x

-- a request that names one key
one_named : {A K : Type 0} (R : K → K → Ordering) (k x : K) (v y : A) → when (eq_by_cmp R k x) v ≡ Some y → list_any (eq_by_cmp R k) (x ∷ []) ≡ true
one_named R k x v y e = elim (when_or (eq_by_cmp R k x) v) [ inl none ↦ let no = sym none ∙ e in cc | inr same ↦ ap (λ b. b || false) same ]

-- Grants
pair_is_named : (k : Pair) (q : Request) (v : Said (Option ℕ)) → said_of_pair k q ≡ Some v → list_any (eq_by_cmp pair_cmp k) (pairs_named q) ≡ true
pair_is_named k q v =
    elim (says q).pair as (λ o. of_key same_pair k o ≡ Some v
    → list_any (eq_by_cmp pair_cmp k) (option_to_list (option_map (λ e. e.0) o)) ≡ true) [ None ↦ λ e. cc | Some x ↦ one_named pair_cmp k x.0 x.1 v ]

abbrev pub pairs_of : List Call → List Pair
pairs_of h = all_named (λ c before. pairs_named c.request) h

pub grants_told : (h : List Call) → Tells pair_cmp pair_of (grant_row h) (pairs_of h)
grants_told h =
    record {
      order = pair_total;
      same = same_pairs;
      at_key = λ k r e. mapped_key pair_of (grant_as k) k (standing h k) r (λ x. refl) e;
      among = λ k. latest-named pair_cmp (λ c before. said_of_pair k c.request) (λ o. option_map (grant_as k) (still o))
          (λ c before. pairs_named c.request) k refl (λ c before x e. inr (pair_is_named k c.request x e)) h;
    }

-- Alarms
tag_is_registered : (a : Name) (q : Request) (l : Bool) → said_of_latching a q ≡ Some l → list_any (eq_by_cmp name_cmp a) (tags_registered q) ≡ true
tag_is_registered a q l =
    elim (says q).registration as (λ o. latching_by a o ≡ Some l
    → list_any (eq_by_cmp name_cmp a)
    (option_to_list (option_map (λ x. x.tag) o)) ≡ true) [ None ↦ λ e. cc | Some x ↦ one_named name_cmp a x.tag x.latching l ]

abbrev pub tags_of_alarms : List Call → List Name
tags_of_alarms h = all_named (λ c before. tags_registered c.request) h

abbrev pub alarm_of : List Call → Name → Bool → AlarmRow
alarm_of h a = alarm_as a (unwrap_or (limit h a) 0) (limit_revision h a) (events_of h a) (outage h a)

pub alarms_told : (h : List Call) → Tells name_cmp alarm_tag (alarm_row h) (tags_of_alarms h)
alarms_told h =
    record {
      order = name_total;
      same = same_names;
      at_key = λ a r e. mapped_key alarm_tag (alarm_of h a) a (latching h a) r (λ x. refl) e;
      among = λ a. latest-named name_cmp (λ c before. said_of_latching a c.request) (option_map (alarm_of h a))
          (λ c before. tags_registered c.request) a refl (λ c before x e. inr (tag_is_registered a c.request x e)) h;
    }

-- Shelves
tag_is_shelved : (a p : Name) (t : ℕ) (before : List Call) (q : Request) (v : Said ShelfRow) → said_of_shelf a p t before q ≡ Some v
    → list_any (eq_by_cmp name_cmp a) (tags_shelved q) ≡ true
tag_is_shelved a p t before (TimedShelve u b d w) v e = one_named name_cmp a b _ v e
tag_is_shelved a p t before (OneShotShelve u b w) v e = one_named name_cmp a b _ v e
tag_is_shelved a p t before (Unshelve u b) v e = one_named name_cmp a b _ v e
tag_is_shelved a p t before _ v e = cc

-- a shelf that is stated about an alarm has its tag
abbrev HasTag : Name → Said ShelfRow → Type 0
HasTag a Over = Unit {0}
HasTag a (Begins s) = s.tag ≡ a

when_HasTag : (b : Bool) (a : Name) (o x : Said ShelfRow) → when b o ≡ Some x → HasTag a o → HasTag a x
when_HasTag b a o x e h = subst (HasTag a) (when_Some b o x e) h

shelf_has_tag : (a p : Name) (t : ℕ) (before : List Call) (q : Request) (x : Said ShelfRow) → said_of_shelf a p t before q ≡ Some x → HasTag a x
shelf_has_tag a p t before (TimedShelve u b d w) x e =
    subst (λ n. HasTag n x) (sym (when_same a b _ x e)) (when_HasTag (same_name a b) b _ x e refl)
shelf_has_tag a p t before (OneShotShelve u b w) x e =
    subst (λ n. HasTag n x) (sym (when_same a b _ x e)) (when_HasTag (same_name a b) b _ x e refl)
shelf_has_tag a p t before (Unshelve u b) x e = when_HasTag (same_name a b) a _ x e tt
shelf_has_tag a p t before _ x e = cc

shelf_row_tag : (a : Name) (o : Option (Said ShelfRow)) (r : ShelfRow) → ((x : Said ShelfRow) → o ≡ Some x → HasTag a x) → still o ≡ Some r
    → r.tag ≡ a
shelf_row_tag a (Some (Begins s)) r has e = let same : s ≡ r = cc in sym (ap (λ (x : ShelfRow). x.tag) same) ∙ has (Begins s) refl
shelf_row_tag a _ r has e = cc

abbrev pub tags_of_shelves : List Call → List Name
tags_of_shelves h = all_named (λ c before. tags_shelved c.request) h

pub shelves_told : (h : List Call) → Tells name_cmp shelf_tag (shelf h) (tags_of_shelves h)
shelves_told h =
    record {
      order = name_total;
      same = same_names;
      at_key = λ a r e. shelf_row_tag a _ r
          (latest-holds (λ c before. said_of_shelf a c.person c.moment before c.request) (HasTag a)
          (λ c before x said. shelf_has_tag a c.person c.moment before c.request x said) h) e;
      among = λ a. latest-named name_cmp (λ c before. said_of_shelf a c.person c.moment before c.request) still (λ c before. tags_shelved c.request) a
          refl (λ c before x e. inr (tag_is_shelved a c.person c.moment before c.request x e)) h;
    }

-- Events
abbrev pub numbers_of_events : List Call → List ℕ
numbers_of_events h = all_named (λ c before. numbers_of (imported c.request)) h

pub events_told : (h : List Call) → Tells nat_cmp event_number (event_numbered h) (numbers_of_events h)
events_told h =
    record {
      order = number_total;
      same = same_numbers;
      at_key = λ n r e. sym
          (same_numbers n r.seq (tied _ _ (latest-holds (λ c before. find (has_number n) (imported c.request)) (λ x. same_number n x.seq
          ≡ true) (λ c before x. find_passes (has_number n) (imported c.request) x) h r e) refl));
      among = λ n. latest-named nat_cmp (λ c before. find (has_number n) (imported c.request)) (λ o. o)
          (λ c before. numbers_of (imported c.request)) n refl (λ c before x is. inr (key_in nat_cmp event_number n (imported c.request)
          ∙ ap is_some is)) h;
    }

-- Records
sheet_is_named : (a : Name) (n : ℕ) (k : Option ChangeKind) (x : ℕ × Sheet) → sheet_in a n k ≡ Some x
    → list_any (eq_by_cmp name_cmp a) (tag_rationalised k) ≡ true
sheet_is_named a n (Some (Rationale b s)) x e = one_named name_cmp a b (n, s) x e
sheet_is_named a n _ x e = cc

sheet_is_approved : (a : Name) (before : List Call) (q : Request) (x : ℕ × Sheet) → approved_sheet a before q ≡ Some x
    → list_any (eq_by_cmp name_cmp a) (tags_approved before q) ≡ true
sheet_is_approved a before (Approve u n) x e = sheet_is_named a n (kind_of_change before n) x e
sheet_is_approved a before _ x e = cc

abbrev pub tags_of_records : List Call → List Name
tags_of_records h = all_named (λ c before. tags_approved before c.request) h

abbrev pub record_with : List Call → Name → ℕ × Sheet → RecordRow
record_with h a = record_as (matrix h).1 (record_revision h a) a

abbrev pub tag_of_record : RecordRow → Name
tag_of_record r = r.tag

pub records_told : (h : List Call) → Tells name_cmp tag_of_record (record_of h) (tags_of_records h)
records_told h =
    record {
      order = name_total;
      same = same_names;
      at_key = λ a r e. mapped_key tag_of_record (record_with h a) a (sheet h a) r (λ x. refl) e;
      among = λ a. latest-named name_cmp (λ c before. approved_sheet a before c.request) (option_map (record_with h a))
          (λ c before. tags_approved before c.request) a refl (λ c before x e. inr (sheet_is_approved a before c.request x e)) h;
    }

-- Changes
draft_is_named : (n : ℕ) (p : Name) (t : ℕ) (before : List Call) (q : Request) (x : Draft) → said_of_draft n p t before q ≡ Some x
    → list_any (eq_by_cmp nat_cmp n) (numbers_proposed before q) ≡ true
draft_is_named n p t before (Propose u y) x e = one_named nat_cmp n (proposals before + 1) _ x e
draft_is_named n p t before _ x e = cc

abbrev pub numbers_of_changes : List Call → List ℕ
numbers_of_changes h = all_named (λ c before. numbers_proposed before c.request) h

abbrev pub change_with : List Call → ℕ → Draft → ChangeRow
change_with h n = change_as n (decision h n)

abbrev pub number_of_change : ChangeRow → ℕ
number_of_change c = c.number

pub changes_told : (h : List Call) → Tells nat_cmp number_of_change (change h) (numbers_of_changes h)
changes_told h =
    record {
      order = number_total;
      same = same_numbers;
      at_key = λ n r e. mapped_key number_of_change (change_with h n) n (draft h n) r (λ x. refl) e;
      among = λ n. latest-named nat_cmp (λ c before. said_of_draft n c.person c.moment before c.request) (option_map (change_with h n))
          (λ c before. numbers_proposed before c.request) n refl (λ c before x e. inr (draft_is_named n c.person c.moment before c.request x e)) h;
    }
