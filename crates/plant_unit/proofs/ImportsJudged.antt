-- The judgement of an import.
use Rattle.std.proofs.Common.{ap, append_assoc, arith, refl, subst, sym, ◌∙◌, Bool, Err, IfOk, List, None, Ok, Option, Result, Some, [], false, filter, if◌then◌else◌, length, nat_lt, not, true, ℕ, ◌++◌, ◌+◌, ◌∷◌, ◌≡◌, ◌≤◌}
use Rattle.std.specs.{List.{list_any}, Ordering.{eq_by_cmp, nat_cmp}}
use Rattle.std.proofs.lemmas.{Bool.{le-ltb, ltb-false}, List.{length-map, Filters.{length-filter_both}}, Map.Made.{distinct_count-le}, Result.{IfOk-weaker}}
use Rattle.plant_model.specs.{Calls.{own_refusals, reply}, Facts.{Facts}, Kinds.{role_needed}}
use Rattle.plant_model.specs.steps.CallChanges.{changes_for, unit_after}
use Rattle.plant_model.specs.Refusals.{fault_entries, file_refusals, first_refusal, holds_some, lacks_role, tags_of}
use Rattle.plant_model.specs.steps.RowChanges.{import_changes}
use Rattle.plant_model.specs.{Verdicts.{changes_history, refusals, refused_or, verdict_of}, declared.call.Call.{Call}}
use Rattle.plant_model.specs.declared.{call.Request.TheVariants.{Import}, reply.{Full.TheVariants.{Events as TooManyEvents}, Refused.{Refused}}}
use Rattle.plant_model.specs.declared.reply.{Refused.TheVariants.{BadFile as FileRefused, MomentBehind, NotGranted, UnitFull}, Reply.{Reply}}
use Rattle.plant_model.specs.declared.{reply.Reply.TheVariants.{Imported}, rows.{Row.TheVariants.{Unit as UnitPut}, RowEdit.{RowEdit}}}
use Rattle.plant_model.specs.declared.rows.{RowEdit.TheVariants.{Put}, Verdict.{Verdict, TheVariants.{Accepted as IsAccepted, Refused as IsRefused}}}
use Rattle.plant_types.specs.{Limits.{max_events}, Names.{Name}, Options.{or_else}}
use Rattle.plant_alarm.specs.declared.event.Event.{Event}
use Rattle.plant_import.specs.{Merging.{IsRising, first_fault, fresh, merge, merged_or}, Needed.{needed}, Numbers.{has_number, new_numbers, numbers_of}}
use Rattle.plant_import.{specs.declared.{bad_file.BadFile.{BadFile}, merging.Merged.{Merged}}, proofs.public.Counted.{fresh_count}}
use Rattle.plant_import.proofs.public.NeededLaws.{needed_merge, needed_numbers, needed_rises}
use Rattle.plant_unit.specs.{Additions.{AreAdded, addition, decided_or, rows_added}, Judged.{IsJudged, IsJudgedOwn, holder_refusals}}
use Rattle.plant_unit.proofs.VerdictLaws.{refused_own, made_own, asked}

-- the refusals of a call: those of its caller, and then its own
first_of : (xs ys : List (Bool × Refused)) → first_refusal (xs ++ ys) ≡ or_else (first_refusal xs) (first_refusal ys)
first_of [] ys = refl
first_of ((true, r) ∷ xs) ys = refl
first_of ((false, r) ∷ xs) ys = first_of xs ys

all_refusals : (f : Facts) (c : Call)
    → first_refusal (refusals f c) ≡ or_else (first_refusal (holder_refusals f c)) (first_refusal (own_refusals f c.person c.moment c.request))
all_refusals f c =
    let own : List (Bool × Refused) = own_refusals f c.person c.moment c.request in
    let behind : List (Bool × Refused) = (nat_lt c.moment f.unit.last_s, MomentBehind f.unit.last_s) ∷ [] in
    ap (λ (l : List (Bool × Refused)). first_refusal ((not (holds_some f c.moment c.person), NotGranted) ∷ l))
    (sym (append_assoc (lacks_role f c.moment c.person (role_needed c.request)) behind own))
    ∙ first_of (holder_refusals f c) own

pub refused_judged : (f : Facts) (c : Call) (r : Refused) → first_refusal (holder_refusals f c) ≡ Some r → IsJudged f c (IsRefused r)
refused_judged f c r is =
    let verdict : verdict_of f c ≡ Err r =
    ap (λ o. refused_or o (reply f c.moment c.request))
    (all_refusals f c ∙ ap (λ o. or_else o (first_refusal (own_refusals f c.person c.moment c.request))) is) in
    record { answer = sym verdict; changes = sym (ap (λ v. if changes_history v c then changes_for f c else []) verdict) }

pub own_judged : (f : Facts) (c : Call) (v : Verdict) → first_refusal (holder_refusals f c) ≡ None → IsJudgedOwn f c v → IsJudged f c v
own_judged f c v none j =
    let verdict : refused_or (first_refusal (own_refusals f c.person c.moment c.request)) (reply f c.moment c.request) ≡ verdict_of f c =
    sym (ap (λ o. refused_or o (reply f c.moment c.request)) (all_refusals f c
    ∙ ap (λ o. or_else o (first_refusal (own_refusals f c.person c.moment c.request))) none)) in
    record { answer = j.answer ∙ verdict; changes = j.changes ∙ ap (λ v. if changes_history v c then changes_for f c else []) verdict }

-- what a file adds
abbrev refused_by : Result Merged BadFile → Result Merged Refused
refused_by (Ok m) = Ok m
refused_by (Err fault) = Err (FileRefused fault)

pub full_added : (f : Facts) (t : ℕ) (rows : List Event) → nat_lt max_events (length f.events + length (new_numbers f.events rows)) ≡ true
    → addition f t rows ≡ Err (UnitFull TooManyEvents)
full_added f t rows full =
    ap (λ b. decided_or (first_refusal ((b, UnitFull TooManyEvents)
    ∷ fault_entries (first_fault (tags_of f) t 2 f.events rows))) (rows_added f.events rows)) full

pub merge_added : (f : Facts) (t : ℕ) (rows : List Event) (m : Result Merged BadFile)
    → nat_lt max_events (length f.events + length (new_numbers f.events rows)) ≡ false → m ≡ merge f.events rows (tags_of f) t
    → refused_by m ≡ addition f t rows
unfolding merge
merge_added f t rows m room is =
    ap refused_by is
    ∙ elim (first_fault (tags_of f) t 2 f.events rows) as (λ o. refused_by (merged_or o f.events rows)
    ≡ decided_or (first_refusal (fault_entries o)) (rows_added f.events rows)) [ None ↦ refl | Some fault ↦ refl ]
    ∙ sym (ap (λ b. decided_or (first_refusal ((b, UnitFull TooManyEvents)
    ∷ fault_entries (first_fault (tags_of f) t 2 f.events rows))) (rows_added f.events rows)) room)

-- a file that adds rows has no fault, and there is room for its numbers
record AddedBy (f : Facts) (t : ℕ) (rows : List Event) (m : Merged) : Type 0 where
  pub none : None ≡ first_refusal (file_refusals f t (Ok rows))
  pub sound : first_fault (tags_of f) t 2 f.events rows ≡ None
  pub few : length (fresh f.events rows) ≤ max_events
  pub is : m ≡ rows_added f.events rows

adds_by : (f : Facts) (t : ℕ) (rows : List Event) (m : Merged) (full : Bool) (fault : Option BadFile)
    → nat_lt max_events (length f.events + length (new_numbers f.events rows)) ≡ full → first_fault (tags_of f) t 2 f.events rows ≡ fault
    → decided_or (first_refusal ((full, UnitFull TooManyEvents) ∷ fault_entries fault)) (rows_added f.events rows) ≡ Ok m → AddedBy f t rows m
adds_by f t rows m false None ef eo e =
    let room = ltb-false max_events (length f.events + length (new_numbers f.events rows)) ef in
    let count = fresh_count (tags_of f) t 2 f.events rows eo in
    record {
      none = λ i. first_refusal ((sym ef i, UnitFull TooManyEvents) ∷ fault_entries (sym eo i));
      sound = eo;
      few = omega (arith, room, count);
      is = cc;
    }
adds_by f t rows m _ _ ef eo e = cc

adds : (f : Facts) (t : ℕ) (rows : List Event) (m : Merged) → addition f t rows ≡ Ok m → AddedBy f t rows m
adds f t rows m e = adds_by f t rows m _ _ refl refl e

not_added : (f : Facts) (t : ℕ) (rows : List Event) (r : Refused) → Err r ≡ addition f t rows → Some r ≡ first_refusal (file_refusals f t (Ok rows))
not_added f t rows r =
    elim (first_refusal (file_refusals f t (Ok rows))) as (λ o. Err r ≡ decided_or o (rows_added f.events rows)
    → Some r ≡ o) [ None ↦ λ e. cc | Some x ↦ λ e. cc ]

pub import_refused : (f : Facts) (c : Call) (u : Name) (rows : List Event) (r : Refused) → c.request ≡ Import u (Ok rows)
    → Err r ≡ addition f c.moment rows → IsJudgedOwn f c (IsRefused r)
import_refused f c u rows r e is = asked e (refused_own f _ r (not_added f c.moment rows r is))

pub import_fresh : (f : Facts) (t : ℕ) (rows : List Event) (m : Merged) → Ok m ≡ addition f t rows → m.fresh ≡ fresh f.events rows
import_fresh f t rows m is = ap (λ (x : Merged). x.fresh) ((adds f t rows m (sym is)).is)

pub import_judged : (f : Facts) (c : Call) (u : Name) (rows : List Event) (m : Merged) (r : Reply) (cs : List RowEdit)
    → c.request ≡ Import u (Ok rows) → Ok m ≡ addition f c.moment rows
    → (length m.fresh ≤ 4294967295 → r ≡ Imported (length m.fresh) m.repeated)
    → cs ≡ Put (UnitPut (unit_after f c.moment (Import u (Ok rows)))) ∷ import_changes f rows → IsJudgedOwn f c (IsAccepted r cs)
import_judged f c u rows m r cs e is er ec =
    let so = adds f c.moment rows m (sym is) in
    let few : length m.fresh ≤ 4294967295 = subst (λ (x : Merged). length x.fresh ≤ 4294967295) (sym so.is) (let n = so.few in omega (arith, n)) in
    asked e (made_own f _ r cs so.none (er few ∙ ap (λ (x : Merged). Imported (length x.fresh) x.repeated) so.is) refl ec)

-- the rows of a file that adds some are new
pub import_added : (f : Facts) (t : ℕ) (rows : List Event) (m : Merged) → IsRising f.events → Ok m ≡ addition f t rows
    → AreAdded f.events rows m.fresh
import_added f t rows m rises is =
    record {
      rise = rises;
      fresh_are = import_fresh f t rows m is;
      tags = tags_of f;
      now = t;
      no_fault = (adds f t rows m (sym is)).sound;
    }

-- a file has no more new numbers than rows
fewer_numbers : (es rows : List Event) → length (new_numbers es rows) ≤ length rows
fewer_numbers es rows =
    let others : List Event = filter (λ e. not (list_any (has_number e.seq) es)) rows in
    omega (arith, distinct_count-le (eq_by_cmp nat_cmp) (numbers_of others), length-map others (λ e. e.seq), length-filter_both (λ e. not (list_any (has_number e.seq) es)) (λ e. not (not (list_any (has_number e.seq) es))) (λ e. refl) rows)

-- there is room for all rows, and so for the new numbers
pub room_for_all : (es rows : List Event) (k : ℕ) (b : Bool) → k ≡ length es → b ≡ nat_lt max_events (k + length rows) → b ≡ false
    → false ≡ nat_lt max_events (length es + length (new_numbers es rows))
room_for_all es rows k b ek eb room =
    let free : k + length rows ≤ max_events = ltb-false _ _ (sym eb ∙ room) in
    sym (le-ltb _ _ (omega (arith, free, ek, fewer_numbers es rows)))

-- what the code finds about a file by the events that it needs
pub counted_at : (es rows kept : List Event) (k n : ℕ) (b : Bool) → IsRising es → kept ≡ needed es rows → k ≡ length es
    → n ≡ length (new_numbers kept rows) → b ≡ nat_lt max_events (k + n) → b ≡ nat_lt max_events (length es + length (new_numbers es rows))
counted_at es rows kept k n b rises ek el en eb =
    let count : n ≡ length (new_numbers es rows) = en ∙ ap (λ l. length (new_numbers l rows)) ek ∙ ap length (needed_numbers es rows rises) in
    eb ∙ (λ i. nat_lt max_events (el i + count i))

pub merged_at : (f : Facts) (t : ℕ) (rows kept : List Event) (tags : List Name) (b : Bool) (m x : Result Merged BadFile) → IsRising f.events
    → kept ≡ needed f.events rows → b ≡ nat_lt max_events (length f.events + length (new_numbers f.events rows)) → b ≡ false
    → tags ≡ tags_of f → (IsRising kept → m ≡ merge kept rows tags t) → m ≡ x → refused_by x ≡ addition f t rows
merged_at f t rows kept tags b m x rises ek full room et em ex =
    let rising : IsRising kept = subst (λ (l : List Event). IsRising l) (sym ek) (needed_rises f.events rows rises) in
    merge_added f t rows x (sym full ∙ room) (sym ex ∙ em rising ∙ (λ i. merge (ek i) rows (et i) t) ∙ needed_merge f.events rows (tags_of f) t rises)

-- one who is not refused for want of a role holds one
none_holds : (b : Bool) (rest : List (Bool × Refused)) → first_refusal ((not b, NotGranted) ∷ rest) ≡ None → b ≡ true
none_holds true rest e = refl
none_holds false rest e = cc

pub holder_holds : (f : Facts) (c : Call) (o : Option Refused) → o ≡ first_refusal (holder_refusals f c) → o ≡ None
    → holds_some f c.moment c.person ≡ true
holder_holds f c o is none =
    none_holds (holds_some f c.moment c.person)
    (lacks_role f c.moment c.person (role_needed c.request) ++ (nat_lt c.moment f.unit.last_s, MomentBehind f.unit.last_s) ∷ []) (sym is ∙ none)

pub own_result : {E : Type 0} (f : Facts) (c : Call) (r : Result Verdict E) (o : Option Refused) → o ≡ first_refusal (holder_refusals f c) → o ≡ None
    → IfOk r (IsJudgedOwn f c) → IfOk r (IsJudged f c)
own_result f c r o is none = IfOk-weaker r (IsJudgedOwn f c) (IsJudged f c) (λ v. own_judged f c v (sym is ∙ none))
