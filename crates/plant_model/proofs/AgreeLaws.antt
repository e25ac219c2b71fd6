-- Imports of the same rows leave the same rows.
use Rattle.std.specs.{Cmp.{both_ways, eq_by_cmp_equiv}, List.{list_all, list_any}}
use Rattle.std.proofs.Common.{ap, append-nil, append_assoc, arith, length-append, refl, subst, sym, true, ◌++◌, ◌+◌, ◌∙◌, ◌≡◌, ◌≤◌, find, nat_cmp, Err, List, None, Ok, Some, [], false, filter_map, is_some, length, nat_le, nat_lt, not, option_map, unwrap_or, ℕ, ◌&&◌, ◌||◌, ◌∷◌}
use Rattle.std.proofs.lemmas.{Bool.{not_from_true, or_left, and_parts, le-ltb, leb-true}, List.Folds.{list_any-append}}
use Rattle.plant_import.specs.{Files.{SameMembers, are_known, is_fit}, Merging.{first_fault, fresh, is_new, same_event}}
use Rattle.plant_import.{specs.{Numbers.{has_number, new_numbers}}, proofs.public.Counted.{fresh_count}}
use Rattle.plant_import.proofs.public.FileLaws.{Within, all_from, all_member, back_within, fit_within, in_back, in_front, fresh_alike, front_within, kept_fresh, member, no_fault, no_more, passing-append, same_more, same_number_new, within_both}
use Rattle.plant_model.specs.{Alarms.{latching, limit}, Changes.{limit_revision}, Events.{events}, Facts.{facts}, Grants.{held}}
use Rattle.plant_model.{specs.{Histories.{last_moment}, declared.rows.UnitRows.{UnitRows}}, proofs.public.LegalLaws.{followed}}
use Rattle.plant_model.specs.ImportLaw.{AreAccepted, AreImportsInto, ImportsAgree, but_last, new_counted, new_in, rows_imported, through}
use Rattle.plant_model.specs.{Legality.{IsLegal}, Refusals.{fault_entries, first_refusal, holds_some, tags_of}, Replies.{import_reply}}
use Rattle.plant_model.specs.{Rows.{alarm_as, rows_of}, Service.{outage}, Verdicts.{changes_history, refused_or, verdict}}
use Rattle.plant_model.specs.steps.RowFacts.{event_number}
use Rattle.plant_model.specs.declared.{call.{Call.{Call}, Request.{Request, TheVariants.{Import}}}, reply.Full.TheVariants.{Events as TooManyEvents}}
use Rattle.plant_model.specs.declared.reply.Refused.TheVariants.{MomentBehind, NotGranted, RoleLacking, UnitFull}
use Rattle.plant_model.proofs.EventLists.{IsOf, distinct_rising, of_both, of_find, of_same, one_said, rises}
use Rattle.plant_model.proofs.public.{EventLaws.{events_brought, events_in_order, found_event, now, tag_registered}, HistoryLaws.{tags_of_alarms}}
use Rattle.plant_alarm.specs.declared.event.Event.{Event}
use Rattle.plant_floods.specs.Activations.{of_alarm}
use Rattle.plant_types.specs.{KeyedRows.{IsInOrder, in_order}, Limits.{max_events}, Names.{Name, name_cmp, same_name}, Options.{or_else}}
use Rattle.plant_types.specs.{Roles.{Pair}, declared.role.Role.TheVariants.{Approver, Engineer, Maintainer, Operator, Steward, Viewer}}
use Rattle.plant_types.proofs.public.{KeyedRowLaws.{same_rows}, Orders.{number_total, same_numbers}}

-- the members of the events after an import
module _ (h : List Call) (p : Name) (t : ℕ) (u : Name) (rows : List Event) (fit : is_fit (events h ++ rows) ≡ true) where
  kept_under : (e : Event) → member e (events h ++ rows) ≡ true → member e (events (now h p t u rows)) ≡ true
  kept_under e there =
      let n : ℕ = e.seq in
      let after : List Event = events (now h p t u rows) in
      let found : find (has_number n) after ≡ or_else (find (has_number n) rows) (find (has_number n) (events h)) = found_event (now h p t u rows) n
      ∙ ap (or_else (find (has_number n) rows)) (sym (found_event h n)) in
      let is : or_else (find (has_number n) rows) (find (has_number n) (events h)) ≡ Some e =
      one_said (events h ++ rows) n fit _ (Some e) (of_both n (events h) rows _ _ (of_find n rows) (of_find n (events h)))
      (there, (eq_by_cmp_equiv number_total).refl n) in
      (subst (IsOf after n) (found ∙ is) (of_find n after)).0

  pub members_after : SameMembers (events (now h p t u rows)) (events h ++ rows)
  members_after e = both_ways (member e (events (now h p t u rows))) (member e (events h ++ rows)) (events_brought h p t u rows e) (kept_under e)

-- events in order with the same members are the same
pub same_events : (xs ys : List Event) → is_fit xs ≡ true → IsInOrder nat_cmp event_number xs → IsInOrder nat_cmp event_number ys → SameMembers xs ys
    → xs ≡ ys
same_events xs ys fit first second same =
    same_rows nat_cmp event_number number_total same_numbers xs ys first second
    (λ n. one_said xs n fit _ _ (of_find n xs) (of_same n ys xs (find (has_number n) ys) (λ e. sym (same e)) (of_find n ys)))

-- what an import leaves as it is
abbrev rows_with : List Call → List Event → UnitRows
rows_with g es = record (but_last (rows_of g)) {
  alarms = filter_map (λ a. option_map (alarm_as a (unwrap_or (limit g a) 0) (limit_revision g a) (of_alarm a es) (outage g a)) (latching g a))
      (in_order name_cmp (tags_of_alarms g));
  events = es;
}

-- the imports of one list, all rows of which are among some events that fit
module _ (h : List Call) (u : Name) (all : List Event) (fit : is_fit all ≡ true) where
  -- a history after some of them: legal, with the persons, alarms and shelves of the first, and no other events
  record IsReached (g : List Call) : Type 0 where
    legal : IsLegal g
    inside : Within (events g) all
    held_still : (t : ℕ) (k : Pair) → held g t k ≡ held h t k
    latching_still : (a : Name) → latching g a ≡ latching h a

  some_role : (g : List Call) (t : ℕ) (p : Name) → held g t (p, Operator) ≡ true → holds_some (facts g) t p ≡ true
  unfolding holds_some
  some_role g t p e =
      elim (held g t (p, Viewer)) as (λ b. (b
      || (held g t (p, Operator)
      || (held g t (p, Maintainer) || (held g t (p, Engineer) || (held g t (p, Approver) || (held g t (p, Steward) || false))))))
      ≡ true) [ true ↦ refl | false ↦ or_left _ _ e ]

  known_tags : (g : List Call) (rows : List Event) → ((a : Name) → latching g a ≡ latching h a)
      → list_all (λ e. is_some (latching h e.tag)) rows ≡ true → are_known (tags_of (facts g)) rows ≡ true
  known_tags g [] still e = refl
  known_tags g (x ∷ rows) still e =
      let parts = and_parts (is_some (latching h x.tag)) (list_all (λ e. is_some (latching h e.tag)) rows) e in
      let here : list_any (same_name x.tag) (tags_of (facts g)) ≡ true = tag_registered g x.tag ∙ ap is_some (still x.tag) ∙ parts.0 in
      let rest = known_tags g rows still parts.1 in
      λ i. here i && rest i

  none_ahead_of : (t : ℕ) (rows : List Event) → list_all (λ e. nat_le e.moment t) all ≡ true → Within rows all
      → list_all (λ e. not (nat_lt t e.moment)) rows ≡ true
  none_ahead_of t rows le within =
      all_from (λ e. not (nat_lt t e.moment)) rows
      (λ e there. ap not (le-ltb t e.moment (leb-true e.moment t (all_member (λ x. nat_le x.moment t) all e le (within e there)))))

  module _ (g : List Call) (reached : IsReached g) (p : Name) (t : ℕ) (v : Name) (rows : List Event)
      (operator : held h t (p, Operator) ≡ true) (known : list_all (λ e. is_some (latching h e.tag)) rows ≡ true)
      (not_ahead : list_all (λ e. nat_le e.moment t) all ≡ true)
      (behind : last_moment g ≤ t) (within : Within rows all) (room : length (events g) + length (fresh (events g) rows) ≤ max_events) where
    abbrev next_one : Call
    next_one = record { person = p; moment = t; request = Import v (Ok rows) }

    clean : first_fault (tags_of (facts g)) t 2 (events g) rows ≡ None
    clean = no_fault (tags_of (facts g)) t 2 all (events g) rows (known_tags g rows reached.latching_still known)
        (none_ahead_of t rows not_ahead within) fit reached.inside within

    answered : verdict g next_one ≡ Ok (import_reply (events g) rows)
    answered =
        let role : held g t (p, Operator) ≡ true = reached.held_still t (p, Operator) ∙ operator in
        let operates : not (held g t (p, Operator)) ≡ false = not_from_true (held g t (p, Operator)) role in
        let holds : not (holds_some (facts g) t p) ≡ false = not_from_true (holds_some (facts g) t p) (some_role g t p role) in
        let fits : nat_lt max_events (length (events g) + length (new_numbers (events g) rows)) ≡ false =
        ap (λ n. nat_lt max_events (length (events g) + n)) (sym (fresh_count (tags_of (facts g)) t 2 (events g) rows clean))
        ∙ le-ltb max_events (length (events g) + length (fresh (events g) rows)) room in
        λ i. refused_or (first_refusal ((holds i, NotGranted) ∷ (operates i, RoleLacking Operator)
        ∷ (le-ltb t (last_moment g) behind i, MomentBehind (last_moment g)) ∷ (fits i, UnitFull TooManyEvents)
        ∷ fault_entries (clean i))) (import_reply (events g) rows)

    accepted : changes_history (verdict g next_one) next_one ≡ true
    accepted = ap (λ s. changes_history s next_one) answered

    counted_one : new_in (verdict g next_one) ≡ length (fresh (events g) rows)
    counted_one = ap new_in answered

    legal_next : IsLegal (next_one ∷ g)
    legal_next = followed g next_one reached.legal accepted refl

    both_fit : is_fit (events g ++ rows) ≡ true
    both_fit = fit_within all (events g ++ rows) fit (within_both (events g) rows all reached.inside within)

    same_after : SameMembers (events (next_one ∷ g)) (events g ++ rows)
    same_after = members_after g p t v rows both_fit

    reached_next : IsReached (next_one ∷ g)
    reached_next =
        record {
          legal = legal_next;
          inside = λ e there. within_both (events g) rows all reached.inside within e (sym (same_after e) ∙ there);
          held_still = reached.held_still;
          latching_still = reached.latching_still;
        }

    -- there are no more events than those kept and the new ones
    no_more_after : length (events (next_one ∷ g)) ≤ length (events g) + length (fresh (events g) rows)
    no_more_after =
        let es : List Event = events (next_one ∷ g) in
        let few =
        no_more es (events g ++ fresh (events g) rows)
        (distinct_rising es (rises es (fit_within all es fit (reached_next.inside)) (events_in_order (next_one ∷ g))))
        (λ e there. kept_fresh (events g) rows e ∙ sym (same_after e) ∙ there) in
        let long = length-append (events g) (fresh (events g) rows) in
        omega (arith, few, long)

  -- what the rest of a list of imports says
  record Goes (g : List Call) (calls : List Call) : Type 0 where
    accepted_each : AreAccepted g calls
    reached_last : IsReached (through g calls)
    members_last : SameMembers (events (through g calls)) (events g ++ rows_imported calls)
    counted_new : new_counted g calls ≡ length (fresh (events g) (rows_imported calls))
    rows_last : but_last (rows_of (through g calls)) ≡ rows_with g (events (through g calls))

  abbrev asking : Call → Request → Call
  asking c q = record { person = c.person; moment = c.moment; request = q }

  abbrev GoOn : List Call → Type 0
  GoOn calls = (g : List Call) → IsReached g → (t : ℕ) → last_moment g ≤ t → AreImportsInto h u all t calls → Within (rows_imported calls) all
      → length (events g) + length (fresh (events g) (rows_imported calls)) ≤ max_events → Goes g calls

  goes_one : (calls : List Call) → GoOn calls → (c : Call) (q : Request) → GoOn (asking c q ∷ calls)
  goes_one calls on c (Import v (Ok rows)) g reached t behind imports within room =
      let rest : List Event = rows_imported calls in
      let one = imports.0 in
      let not_before : t ≤ c.moment = imports.1 in
      let own : Within rows all = front_within rows rest all within in
      let split : length (fresh (events g) (rows ++ rest)) ≡ length (fresh (events g) rows) + length (fresh (events g ++ rows) rest) =
      ap (λ l. length l) (passing-append is_new (events g) rows rest) ∙ length-append (fresh (events g) rows) (fresh (events g ++ rows) rest) in
      let le : last_moment g ≤ c.moment = omega (arith, behind, not_before) in
      let here : length (events g) + length (fresh (events g) rows) ≤ max_events = omega (arith, room, split) in
      let same = same_after g reached c.person c.moment v rows one.operator one.known one.not_ahead le own here in
      let alike : length (fresh (events (asking c (Import v (Ok rows)) ∷ g)) rest) ≡ length (fresh (events g ++ rows) rest) =
      ap (λ l. length l) (fresh_alike (events (asking c (Import v (Ok rows)) ∷ g)) (events g ++ rows) rest same) in
      let counted = counted_one g reached c.person c.moment v rows one.operator one.known one.not_ahead le own here in
      let few = no_more_after g reached c.person c.moment v rows one.operator one.known one.not_ahead le own here in
      let more =
      on (asking c (Import v (Ok rows)) ∷ g)
      (reached_next g reached c.person c.moment v rows one.operator one.known one.not_ahead le own here) c.moment (omega arith) imports.2
      (back_within rows rest all within) (omega (arith, few, alike, split, room)) in
      record {
        accepted_each = (accepted g reached c.person c.moment v rows one.operator one.known one.not_ahead le own here, more.accepted_each);
        reached_last = more.reached_last;
        members_last = λ e. more.members_last e ∙ same_more (events (asking c (Import v (Ok rows)) ∷ g)) (events g ++ rows) rest same e
            ∙ ap (member e) (append_assoc (events g) rows rest);
        counted_new = (λ i. counted i + (more.counted_new ∙ alike) i) ∙ sym split;
        rows_last = more.rows_last;
      }
  goes_one calls on c (Import v (Err fault)) g reached t behind imports within room =
      absurd (let no : Some false ≡ Some true = imports.0.import.file in cc)
  goes_one calls on c _ g reached t behind imports within room = absurd (let no : None ≡ Some true = imports.0.import.file in cc)

  goes : (calls : List Call) → GoOn calls
  goes [] g reached t behind imports within room =
      record {
        accepted_each = tt;
        reached_last = reached;
        members_last = λ e. ap (member e) (sym (append-nil (events g)));
        counted_new = refl;
        rows_last = refl;
      }
  goes (c ∷ calls) g reached t behind imports within room = goes_one calls (goes calls) c c.request g reached t behind imports within room

pub imports_agree : ImportsAgree
imports_agree h u xs ys legal first second same fit room =
    let rows : List Event = rows_imported xs in
    let all : List Event = events h ++ rows in
    let inside : Within rows all = in_back (events h) rows in
    let kept_inside : Within (events h) all = in_front (events h) rows in
    let here : IsReached h u all fit h = record { legal = legal; inside = kept_inside; held_still = λ t k. refl; latching_still = λ a. refl } in
    let many = same_number_new (events h) rows (rows_imported ys) same in
    let one = goes h u all fit xs h here (last_moment h) (omega arith) first inside room in
    let two = goes h u all fit ys h here (last_moment h) (omega arith) second (λ e there. inside e (same e ∙ there)) (omega (arith, room, many)) in
    let last_same : events (through h xs) ≡ events (through h ys) =
    same_events (events (through h xs)) (events (through h ys)) (fit_within all (events (through h xs)) fit (one.reached_last.inside))
    (events_in_order (through h xs)) (events_in_order (through h ys))
    (λ e. one.members_last e ∙ list_any-append (same_event e) (events h) rows ∙ ap (λ b. member e (events h) || b) (same e)
    ∙ sym (list_any-append (same_event e) (events h) (rows_imported ys)) ∙ sym (two.members_last e)) in
    record {
      first_accepted = one.accepted_each;
      second_accepted = two.accepted_each;
      rows = one.rows_last ∙ ap (rows_with h) last_same ∙ sym two.rows_last;
      counted = one.counted_new;
      same_counted = one.counted_new ∙ many ∙ sym two.counted_new;
    }
