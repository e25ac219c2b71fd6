-- Files that bring the same rows leave the same events.
use Rattle.std.specs.{Cmp.{IsEquivalence, both_ways, eq_by_cmp_equiv}, List.{IsDistinct, list_all, list_any}}
use Rattle.std.proofs.lemmas.Bool.{eq-eqb, or_left, or_right, and_parts, not-true, false_from_ne_true}
use Rattle.std.proofs.lemmas.{Bool.Decides.{nat_tests}, List.Folds.{list_any-append}}
use Rattle.std.proofs.{lemmas.Map.Made.{length-from_same_keys, length-le_from_is_member}, Math.Bool.{or-false, and-false}}
use Rattle.std.proofs.Common.{[], inl, inr, ◌⊎◌, subst, ap, append-nil, append_assoc, arith, false, length, length-append, refl, sym, true, ◌++◌, ◌+◌, ◌∙◌, ◌∷◌, ◌≡◌, ◌≤◌, Bool, List, None, Option, if◌then◌else◌, is_none, nat_lt, not, option_map, ℕ, ◌&&◌, ◌==◌, ◌||◌}
use Rattle.plant_alarm.specs.{declared.event.Event.{Event}, States.{passing}}
use Rattle.plant_import.specs.{Merging.{clashes, first_fault, fresh, is_new, kind_no, merge_fault, out_of_order, same_event}, Reading.{bad}}
use Rattle.plant_import.proofs.public.{Counted.{no_first, row_fits}, FreshLaws.{distinct_firsts, member_first}, Nearest.{same_any, same_is}}
use Rattle.plant_import.specs.Files.{Brought, FilesAgree, SameMembers, TakenFilesFit, are_known, are_taken, is_fit, kept_after, new_rows, none_ahead}
use Rattle.plant_import.specs.Files.{rows_brought}
use Rattle.plant_types.{specs.{Names.{Name, same_name}, Options.{or_else}}, proofs.public.Orders.{name_total}}

pub clash_of : (b : Bool) → b ≡ true → b ≡ false → ⊥
clash_of b t f = cc

-- members
abbrev pub member : Event → List Event → Bool
member e xs = list_any (same_event e) xs

abbrev pub Within : List Event → List Event → Type 0
Within xs ys = (e : Event) → member e xs ≡ true → member e ys ≡ true

itself : (e : Event) → same_event e e ≡ true
itself e =
    λ i. eq-eqb e.seq e.seq refl i && eq-eqb e.moment e.moment refl i && (eq_by_cmp_equiv name_total).refl e.tag i
    && eq-eqb (kind_no e.kind) (kind_no e.kind) refl i

pub same_events : IsEquivalence same_event
same_events = record {
  refl = itself;
  symm = λ a b. both_ways _ _ (λ h. ap (same_event b) (same_is a b h) ∙ itself b) (λ h. ap (same_event a) (same_is b a h) ∙ itself a);
  congr = λ a b c h. ap (λ x. same_event x c) (same_is a b h);
}

pub first_member : (e : Event) (xs : List Event) → member e (e ∷ xs) ≡ true
first_member e xs = or_left (same_event e e) (member e xs) (itself e)

-- what is so of each member
pub all_from : (p : Event → Bool) (xs : List Event) → ((e : Event) → member e xs ≡ true → p e ≡ true) → list_all p xs ≡ true
all_from p [] each = refl
all_from p (x ∷ xs) each = grind (arith, each x, first_member x xs, all_from p xs (λ e h. each e (or_right (same_event e x) (member e xs) h)))

none_from : (p : Event → Bool) (xs : List Event) → ((e : Event) → member e xs ≡ true → p e ≡ false) → list_any p xs ≡ false
none_from p [] each = refl
none_from p (x ∷ xs) each = grind (arith, each x, first_member x xs, none_from p xs (λ e h. each e (or_right (same_event e x) (member e xs) h)))

pub all_member : (p : Event → Bool) (xs : List Event) (e : Event) → list_all p xs ≡ true → member e xs ≡ true → p e ≡ true
all_member p [] e all h = cc
all_member p (x ∷ xs) e all h =
    let same : same_event e x ≡ true → p e ≡ p x = λ is. ap p (same_is e x is) in
    grind (arith, same, all_member p xs e)

pub none_member : (p : Event → Bool) (xs : List Event) (e : Event) → list_any p xs ≡ false → member e xs ≡ true → p e ≡ false
none_member p xs e none there = false_from_ne_true (p e) (λ h. clash_of (list_any p xs) (same_any p e xs there h) none)

pub none_within : (p : Event → Bool) (xs ys : List Event) → Within xs ys → list_any p ys ≡ false → list_any p xs ≡ false
none_within p xs ys within none = none_from p xs (λ e h. none_member p ys e none (within e h))

all_within : (p : Event → Bool) (ys xs : List Event) → list_all p ys ≡ true → Within xs ys → list_all p xs ≡ true
all_within p ys xs all within = all_from p xs (λ e h. all_member p ys e all (within e h))

-- members of two lists
pub in_front : (xs ys : List Event) → Within xs (xs ++ ys)
in_front xs ys e h = list_any-append (same_event e) xs ys ∙ or_left (member e xs) (member e ys) h

pub in_back : (xs ys : List Event) → Within ys (xs ++ ys)
in_back xs ys e h = list_any-append (same_event e) xs ys ∙ or_right (member e xs) (member e ys) h

pub within_both : (xs ys zs : List Event) → Within xs zs → Within ys zs → Within (xs ++ ys) zs
within_both xs ys zs first second e h = grind (arith, list_any-append (same_event e) xs ys, first e, second e)

pub front_within : (xs ys zs : List Event) → Within (xs ++ ys) zs → Within xs zs
front_within xs ys zs within e h = within e (in_front xs ys e h)

pub back_within : (xs ys zs : List Event) → Within (xs ++ ys) zs → Within ys zs
back_within xs ys zs within e h = within e (in_back xs ys e h)

only_one : (q e : Event) → member q (e ∷ []) ≡ true → q ≡ e
only_one q e h = same_is q e (sym (or-false (same_event q e)) ∙ h)

one_within : (e : Event) (zs : List Event) → member e zs ≡ true → Within (e ∷ []) zs
one_within e zs there q h = ap (λ x. member x zs) (only_one q e h) ∙ there

-- what is new depends on the members of what is kept alone
pub passing-append : (test : List Event → Event → Bool) (before xs ys : List Event)
    → passing test before (xs ++ ys) ≡ passing test before xs ++ passing test (before ++ xs) ys
passing-append test before [] ys = ap (λ l. passing test l ys) (sym (append-nil before))
passing-append test before (x ∷ xs) ys = grind (arith, passing-append test (before ++ x ∷ []) xs ys, append_assoc before (x ∷ []) xs)

pub same_more : (xs ys zs : List Event) → SameMembers xs ys → SameMembers (xs ++ zs) (ys ++ zs)
same_more xs ys zs same q = list_any-append (same_event q) xs zs ∙ ap (λ b. b || member q zs) (same q) ∙ sym (list_any-append (same_event q) ys zs)

pub fresh_alike : (xs ys file : List Event) → SameMembers xs ys → fresh xs file ≡ fresh ys file
fresh_alike xs ys [] same = refl
fresh_alike xs ys (e ∷ file) same =
    λ i. (if not (same e i) then e ∷ [] else []) ++ fresh_alike (xs ++ e ∷ []) (ys ++ e ∷ []) file (same_more xs ys (e ∷ []) same) i

pub kept_fresh : (kept file : List Event) → SameMembers (kept ++ fresh kept file) (kept ++ file)
kept_fresh kept file q = grind (arith, member_first same_events q kept file, list_any-append (same_event q) kept)

-- the members of what is kept after files, and the count of new rows
kept_members : (kept : List Event) (files : List Brought) → SameMembers (kept_after kept files) (kept ++ rows_brought files)
kept_members kept [] q = ap (member q) (sym (append-nil kept))
kept_members kept (b ∷ files) q =
    kept_members (kept ++ fresh kept b.1) files q
    ∙ same_more (kept ++ fresh kept b.1) (kept ++ b.1) (rows_brought files) (kept_fresh kept b.1) q
    ∙ ap (member q) (append_assoc kept b.1 (rows_brought files))

new_rows_are : (kept : List Event) (files : List Brought) → new_rows kept files ≡ length (fresh kept (rows_brought files))
new_rows_are kept [] = refl
new_rows_are kept (b ∷ files) =
    ap (λ n. length (fresh kept b.1) + n)
    (new_rows_are (kept ++ fresh kept b.1) files
    ∙ ap (λ l. length l) (fresh_alike (kept ++ fresh kept b.1) (kept ++ b.1) (rows_brought files) (kept_fresh kept b.1)))
    ∙ sym (length-append (fresh kept b.1) (fresh (kept ++ b.1) (rows_brought files)))
    ∙ ap (λ l. length l) (sym (passing-append is_new kept b.1 (rows_brought files)))

-- events fit where any two of them do
abbrev pub Agrees : Event → Event → Type 0
Agrees a b = (clashes a b ≡ false) × (out_of_order a b ≡ false)

abbrev fits_in : List Event → Event → Bool
fits_in es e = not (list_any (clashes e) es) && not (list_any (out_of_order e) es)

pub fit_member : (es : List Event) (e : Event) → is_fit es ≡ true → member e es ≡ true
    → (list_any (clashes e) es ≡ false) × (list_any (out_of_order e) es ≡ false)
fit_member es e fit there =
    let parts = and_parts (not (list_any (clashes e) es)) (not (list_any (out_of_order e) es)) (all_member (fits_in es) es e fit there) in
    (not-true (list_any (clashes e) es) parts.0, not-true (list_any (out_of_order e) es) parts.1)

pub fit_of : (es : List Event) → is_fit es ≡ true → (a b : Event) → member a es ≡ true → member b es ≡ true → Agrees a b
fit_of es fit a b h k =
    let parts = fit_member es a fit h in
    (none_member (clashes a) es b parts.0 k, none_member (out_of_order a) es b parts.1 k)

fit_from : (es : List Event) → ((a b : Event) → member a es ≡ true → member b es ≡ true → Agrees a b) → is_fit es ≡ true
fit_from es each =
    all_from (fits_in es) es (λ a h i. not (none_from (clashes a) es (λ b k. (each a b h k).0) i)
    && not (none_from (out_of_order a) es (λ b k. (each a b h k).1) i))

pub fit_within : (xs ys : List Event) → is_fit xs ≡ true → Within ys xs → is_fit ys ≡ true
fit_within xs ys fit within = fit_from ys (λ a b h k. fit_of xs fit a b (within a h) (within b k))

-- rows that fit have no fault
fault_none : (tags : List Name) (now : ℕ) (others all : List Event) (e : Event) → list_any (same_name e.tag) tags ≡ true → nat_lt now e.moment ≡ false
    → Within others all → (list_any (clashes e) all ≡ false) × (list_any (out_of_order e) all ≡ false) → merge_fault tags now others e ≡ None
unfolding merge_fault
fault_none tags now others all e tag ahead within fits =
    rw (tag, ahead, none_within (clashes e) others all within fits.0, none_within (out_of_order e) others all within fits.1) refl

pub no_fault : (tags : List Name) (now line : ℕ) (all others rows : List Event) → are_known tags rows ≡ true
    → list_all (λ e. not (nat_lt now e.moment)) rows ≡ true → is_fit all ≡ true → Within others all → Within rows all
    → first_fault tags now line others rows ≡ None
no_fault tags now line all others [] known ahead fit o w = refl
no_fault tags now line all others (e ∷ rows) known ahead fit o w =
    let k = and_parts (list_any (same_name e.tag) tags) (are_known tags rows) known in
    let a = and_parts (not (nat_lt now e.moment)) (list_all (λ e. not (nat_lt now e.moment)) rows) ahead in
    let there : member e all ≡ true = w e (first_member e rows) in
    let here : merge_fault tags now others e ≡ None =
    fault_none tags now others all e k.0 (not-true (nat_lt now e.moment) a.0) o (fit_member all e fit there) in
    let rest : first_fault tags now (line + 1) (others ++ e ∷ []) rows ≡ None =
    no_fault tags now (line + 1) all (others ++ e ∷ []) rows k.1 a.1 fit (within_both others (e ∷ []) all o (one_within e all there))
    (back_within (e ∷ []) rows all w) in
    λ i. or_else (option_map (bad line) (here i)) (rest i)

taken : (tags : List Name) (rows all kept : List Event) (files : List Brought) → are_known tags rows ≡ true → none_ahead rows files ≡ true
    → is_fit all ≡ true → Within rows all → Within kept all → Within (rows_brought files) rows → are_taken tags kept files ≡ true
taken tags rows all kept [] known ahead fit inside k w = refl
taken tags rows all kept (b ∷ files) known ahead fit inside k w =
    let a = and_parts (list_all (λ e. not (nat_lt b.0 e.moment)) rows) (none_ahead rows files) ahead in
    let front : Within b.1 rows = front_within b.1 (rows_brought files) rows w in
    let own : Within b.1 all = λ e h. inside e (front e h) in
    let here : first_fault tags b.0 2 kept b.1 ≡ None =
    no_fault tags b.0 2 all kept b.1 (all_within (λ e. list_any (same_name e.tag) tags) rows b.1 known front)
    (all_within (λ e. not (nat_lt b.0 e.moment)) rows b.1 a.0 front) fit k own in
    let more : Within (kept ++ fresh kept b.1) all = λ e h. within_both kept b.1 all k own e (sym (kept_fresh kept b.1 e) ∙ h) in
    let rest = taken tags rows all (kept ++ fresh kept b.1) files known a.1 fit inside more (back_within b.1 (rows_brought files) rows w) in
    λ i. is_none (here i) && rest i

-- distinct events that are all among others are no more than these
pub no_more : (xs ys : List Event) → IsDistinct same_event xs → Within xs ys → length xs ≤ length ys
no_more xs ys distinct within = length-le_from_is_member same_events xs ys distinct within

-- rows with the same members bring as many new ones
pub same_number_new : (kept xs ys : List Event) → SameMembers xs ys → length (fresh kept xs) ≡ length (fresh kept ys)
same_number_new kept xs ys same =
    length-from_same_keys same_events (fresh kept xs) (fresh kept ys) (distinct_firsts same_events kept xs) (distinct_firsts same_events kept ys)
    (λ q. member_first same_events q kept xs ∙ ap (λ b. not (member q kept) && b) (same q) ∙ sym (member_first same_events q kept ys))

pub files_agree : FilesAgree
files_agree tags kept xs ys known first_ahead second_ahead fit same =
    let rows : List Event = rows_brought xs in
    let all : List Event = kept ++ rows in
    record {
      first_taken = taken tags rows all kept xs known first_ahead fit (in_back kept rows) (in_front kept rows) (λ e h. h);
      second_taken = taken tags rows all kept ys known second_ahead fit (in_back kept rows) (in_front kept rows) (λ e h. same e ∙ h);
      same_kept = λ q. kept_members kept xs q
          ∙ list_any-append (same_event q) kept rows ∙ ap (λ b. member q kept || b) (same q)
          ∙ sym (list_any-append (same_event q) kept (rows_brought ys))
          ∙ sym (kept_members kept ys q);
      first_count = new_rows_are kept xs;
      same_count = new_rows_are kept xs ∙ same_number_new kept rows (rows_brought ys) same ∙ sym (new_rows_are kept ys);
    }

-- two events clash, or are out of order, whichever is named first
turned : (a b : Event) → Agrees a b → Agrees b a
turned a b so = (grind (arith, nat_tests, same_events.symm a b, so.0), grind (arith, so.1))

never_itself : (e : Event) → Agrees e e
never_itself e = (ap (λ b. (e.seq == e.seq) && not b) (itself e) ∙ and-false (e.seq == e.seq), grind (arith, nat_tests))

-- one more event that fits
fit_more : (others : List Event) (e : Event) → is_fit others ≡ true → list_any (clashes e) others ≡ false → list_any (out_of_order e) others ≡ false
    → is_fit (others ++ e ∷ []) ≡ true
fit_more others e fit clash order = fit_from (others ++ e ∷ []) (λ a b h k. by a b (among a h) (among b k)) where
  among : (a : Event) → member a (others ++ e ∷ []) ≡ true → (member a others ≡ true) ⊎ (a ≡ e)
  among a h = grind (arith, list_any-append (same_event a) others (e ∷ []), only_one a e)

  with_old : (b : Event) → member b others ≡ true → Agrees e b
  with_old b k = (none_member (clashes e) others b clash k, none_member (out_of_order e) others b order k)

  by : (a b : Event) → (member a others ≡ true) ⊎ (a ≡ e) → (member b others ≡ true) ⊎ (b ≡ e) → Agrees a b
  by a b (inl h) (inl k) = fit_of others fit a b h k
  by a b (inl h) (inr k) = subst (Agrees a) (sym k) (turned e a (with_old a h))
  by a b (inr h) (inl k) = subst (λ x. Agrees x b) (sym h) (with_old b k)
  by a b (inr h) (inr k) = subst (λ x. Agrees x b) (sym h) (subst (Agrees e) (sym k) (never_itself e))

-- a file without fault is consistent with the events with which it is compared
pub file_fits : (tags : List Name) (now line : ℕ) (others rows : List Event) → is_fit others ≡ true → first_fault tags now line others rows ≡ None
    → is_fit (others ++ rows) ≡ true
file_fits tags now line others [] fit h = ap is_fit (append-nil others) ∙ fit
file_fits tags now line others (e ∷ rows) fit h =
    let parts = no_first line (merge_fault tags now others e) (first_fault tags now (line + 1) (others ++ e ∷ []) rows) h in
    let here = row_fits tags now others e parts.0 in
    ap is_fit (sym (append_assoc others (e ∷ []) rows))
    ∙ file_fits tags now (line + 1) (others ++ e ∷ []) rows (fit_more others e fit here.0 here.1) parts.1

none_of : {A : Type 0} (o : Option A) → is_none o ≡ true → o ≡ None
none_of o e = grind arith

-- files that are taken leave events that fit
pub taken_files_fit : TakenFilesFit
taken_files_fit tags kept [] fit h = fit
taken_files_fit tags kept (b ∷ files) fit h =
    let parts = and_parts (is_none (first_fault tags b.0 2 kept b.1)) (are_taken tags (kept ++ fresh kept b.1) files) h in
    let whole : is_fit (kept ++ b.1) ≡ true = file_fits tags b.0 2 kept b.1 fit (none_of (first_fault tags b.0 2 kept b.1) parts.0) in
    taken_files_fit tags (kept
    ++ fresh kept b.1) files (fit_within (kept ++ b.1) (kept ++ fresh kept b.1) whole (λ e there. sym (kept_fresh kept b.1 e) ∙ there)) parts.1
