-- What follows from the acceptance of a call, and that an accepted call's changes turn the rows of the history.
use Rattle.std.proofs.Common.{option_to_list, Bool, None, Option, Some, cond, map, option_map, unwrap_or, ◌+◌, Err, List, Ok, Result, [], false, max, true, ℕ, ◌∷◌, ◌≡◌, ap, refl, ◌∙◌, is_none, is_ok}
use Rattle.std.proofs.lemmas.Bool.{and_parts}
use Rattle.plant_types.specs.{Names.{name_cmp, same_name, Name}, Options.{or_else, when}, Roles.{Pair, same_pair}, declared.role.Role.{Role}}
use Rattle.plant_types.proofs.public.{KeyedRowLaws.{put-rows, remove-rows}, Orders.{same_names}}
use Rattle.plant_model.specs.{Alarms.{latching, limit}, Changes.{draft, limit_revision, sheet}, Events.{events_of}, Facts.{facts, limit_of}}
use Rattle.plant_model.specs.{Histories.{Begins, Over, Said, latest, still, what_stands}, Legality.{IsLegal}}
use Rattle.plant_model.specs.Rows.{alarm_as, alarm_row, grant_as, grant_row, rows_of, unit_row}
use Rattle.plant_model.specs.steps.RowChanges.{changed_by, placed_in, taken_out}
use Rattle.plant_model.specs.{Service.{Outage, outage, said_of_outage}, Shelves.{shelf, shelf_row_as}}
use Rattle.plant_model.specs.{Verdicts.{changes_history, is_opening, verdict}, declared.call.{Call.{Call}, Request.{Request}}}
use Rattle.plant_model.specs.declared.call.Request.TheVariants.{Approve, Propose, Reject, WithdrawChange, Grant, Import, OneShotShelve, OpenUnit, PlaceInService, Register, RemoveFromService, TimedShelve, Unshelve, Withdraw}
use Rattle.plant_model.specs.declared.rows.{AlarmRow.{AlarmRow}, Row.TheVariants.{Alarm as AlarmPut, Shelf as ShelfPut, Unit as UnitPut}}
use Rattle.plant_model.specs.declared.rows.{RowEdit.TheVariants.{Put}, UnitRows.{UnitRows}}
use Rattle.plant_model.proofs.DecisionLaws.{approve_limit_turns, approve_matrix_turns, approve_sheet_turns, propose_limit_turns, propose_matrix_turns, propose_sheet_turns, reject_turns, withdraw_change_turns}
use Rattle.plant_model.proofs.{ProposalLaws.{drafted, limit_there, next_undecided}, public.Accepted.{IsEntry, made, unrefused}}
use Rattle.plant_model.proofs.public.ChangeLaws.{Turns, now_stands, register_turns, said_anew, with_request}
use Rattle.plant_model.proofs.public.EventLaws.{import_accepted, legal_kept, unspoken}
use Rattle.plant_model.proofs.public.HistoryLaws.{alarm_of, alarms_told, grants_told, pairs_of, shelves_told, tags_of_alarms, tags_of_shelves}
use Rattle.plant_model.proofs.public.{ImportLaws.{import_turns}, ServiceLaws.{registered, registered_anew, what_is}}
use Rattle.plant_ration.specs.declared.change.ChangeKind.{ChangeKind, TheVariants.{Limit, Matrix, Rationale}}
use Rattle.plant_alarm.specs.declared.event.Event.{Event}
use Rattle.plant_import.specs.declared.bad_file.BadFile.{BadFile}

-- pairs
no_more_stands : (k x : Pair) (rest : Option (Said (Option ℕ)))
    → option_map (grant_as k) (still (or_else (when (same_pair k x) Over) rest)) ≡ cond (same_pair k x) None (option_map (grant_as k) (still rest))
no_more_stands k x rest =
    elim (same_pair k x) as (λ b. option_map (grant_as k) (still (or_else (when b Over) rest))
    ≡ cond b None (option_map (grant_as k) (still rest))) [ true ↦ refl | false ↦ refl ]

-- shelves
still_when : {A : Type 0} (b : Bool) (v : Said A) (rest : Option (Said A)) → still (or_else (when b v) rest) ≡ cond b (what_stands v) (still rest)
still_when true v rest = refl
still_when false v rest = refl

module _ (h : List Call) (p : Name) (t : ℕ) where
  grant_turns : (u q : Name) (r : Role × Option ℕ) → Turns h p t (Grant u q r)
  grant_turns u q r = λ i. record (rows_of (with_request h p t (Grant u q r))) {
    grants = put-rows (grant_row h) (grant_row (with_request h p t (Grant u q r))) (pairs_of h) (pairs_of (with_request h p t (Grant u q r)))
        (grant_as (q, r.0) r.1) (grants_told h) (grants_told (with_request h p t (Grant u q r))) (λ k. now_stands k (q, r.0) r.1 _) i;
  }

  withdraw_turns : (u q : Name) (r : Role) → Turns h p t (Withdraw u q r)
  withdraw_turns u q r = λ i. record (rows_of (with_request h p t (Withdraw u q r))) {
    grants = remove-rows (grant_row h) (grant_row (with_request h p t (Withdraw u q r))) (pairs_of h) (pairs_of (with_request h p t (Withdraw u q r)))
        (q, r) (grants_told h) (grants_told (with_request h p t (Withdraw u q r))) (λ k. no_more_stands k (q, r) _) i;
  }

  timed_turns : (u a : Name) (d : ℕ) (w : Name) → Turns h p t (TimedShelve u a d w)
  timed_turns u a d w = λ i. record (rows_of (with_request h p t (TimedShelve u a d w))) {
    shelves =
        put-rows (shelf h) (shelf (with_request h p t (TimedShelve u a d w))) (tags_of_shelves h)
        (tags_of_shelves (with_request h p t (TimedShelve u a d w))) (shelf_row_as false t (t + d) p w a) (shelves_told h)
        (shelves_told (with_request h p t (TimedShelve u a d w))) (λ b. still_when (same_name b a) (Begins (shelf_row_as false t (t + d) p w a)) _) i;
  }

  unshelve_turns : (u a : Name) → Turns h p t (Unshelve u a)
  unshelve_turns u a = λ i. record (rows_of (with_request h p t (Unshelve u a))) {
    shelves =
        remove-rows (shelf h) (shelf (with_request h p t (Unshelve u a))) (tags_of_shelves h)
        (tags_of_shelves (with_request h p t (Unshelve u a))) a (shelves_told h) (shelves_told (with_request h p t (Unshelve u a)))
        (λ b. still_when (same_name b a) Over _) i;
  }

  -- the limit in the alarm's row is the limit in force
  limit_known : (a : Name) (l : Bool) → latching h a ≡ Some l → limit_of (facts h) a ≡ unwrap_or (limit h a) 0
  limit_known a l known = ap (λ o. unwrap_or (option_map (λ (r : AlarmRow). r.max_s) (option_map (alarm_of h a) o)) 0) known

  one_shot_turns : (u a : Name) (w : Name) (l : Bool) → latching h a ≡ Some l → Turns h p t (OneShotShelve u a w)
  one_shot_turns u a w l known =
      ap (λ max. changed_by (Put (UnitPut (unit_row (with_request h p t (OneShotShelve u a w))))
      ∷ Put (ShelfPut (shelf_row_as true t (t + max) p w a)) ∷ []) (rows_of h)) (limit_known a l known)
      ∙ (λ i. record (rows_of (with_request h p t (OneShotShelve u a w))) {
        shelves =
            put-rows (shelf h) (shelf (with_request h p t (OneShotShelve u a w))) (tags_of_shelves h)
            (tags_of_shelves (with_request h p t (OneShotShelve u a w))) (shelf_row_as true t (t + unwrap_or (limit h a) 0) p w a) (shelves_told h)
            (shelves_told (with_request h p t (OneShotShelve u a w)))
            (λ b. still_when (same_name b a) (Begins (shelf_row_as true t (t + unwrap_or (limit h a) 0) p w a)) _) i;
      })

  -- Service
  abbrev row_by_outage : (a : Name) → Option Outage → Bool → AlarmRow
  row_by_outage a out = alarm_as a (unwrap_or (limit h a) 0) (limit_revision h a) (events_of h a) out

  outage_anew : (a k : Name) (l : Bool) (v : Said Outage) → latching h a ≡ Some l
      → option_map (row_by_outage k (still (or_else (when (same_name k a) v) (latest (λ c before. said_of_outage k c.person c.moment c.request) h))))
      (latching h k) ≡ cond (same_name k a) (Some (row_by_outage a (what_stands v) l)) (alarm_row h k)
  outage_anew a k l v known =
      ap (λ o. option_map (row_by_outage k o) (latching h k)) (still_when (same_name k a) v _)
      ∙ said_anew name_cmp same_names row_by_outage (outage h) (latching h) a l (what_stands v) known k

  alarm_put : (q : Request) → (AlarmRow → AlarmRow) → Option AlarmRow → UnitRows
  alarm_put q g o = changed_by (Put (UnitPut (unit_row (with_request h p t q))) ∷ map (λ r. Put (AlarmPut (g r))) (option_to_list o)) (rows_of h)

  remove_turns : (u a w : Name) (l : Bool) → latching h a ≡ Some l → Turns h p t (RemoveFromService u a w)
  unfolding alarm_put
  remove_turns u a w l known =
      let c = with_request h p t (RemoveFromService u a w) in
      ap (λ o. alarm_put (RemoveFromService u a w) (taken_out p t w) (option_map (alarm_of h a) o)) known
      ∙ (λ i. record (rows_of c) {
        alarms = put-rows (alarm_row h) (alarm_row c) (tags_of_alarms h) (tags_of_alarms c)
            (row_by_outage a (Some (record { from = t; person = p; words = w })) l) (alarms_told h) (alarms_told c)
            (λ k. outage_anew a k l (Begins (record { from = t; person = p; words = w })) known) i;
      })

  place_turns : (u a : Name) (l : Bool) → latching h a ≡ Some l → Turns h p t (PlaceInService u a)
  unfolding alarm_put
  place_turns u a l known =
      let c = with_request h p t (PlaceInService u a) in
      ap (λ o. alarm_put (PlaceInService u a) placed_in (option_map (alarm_of h a) o)) known
      ∙ (λ i. record (rows_of c) {
        alarms = put-rows (alarm_row h) (alarm_row c) (tags_of_alarms h) (tags_of_alarms c) (row_by_outage a None l) (alarms_told h) (alarms_told c)
            (λ k. outage_anew a k l Over known) i;
      })

module _ (h : List Call) (p : Name) (t : ℕ) where
  abbrev pub made_by : Request → Call
  made_by q = made p t q

  -- of an alarm that has a row, it is known whether it latches
  latches : (a : Name) → is_none (alarm_row h a) ≡ false → (l : Bool) × (latching h a ≡ Some l)
  latches a there = what_is (latching h a) (registered h a there)

  file_turns : (u : Name) (file : Result (List Event) BadFile) → IsLegal h → IsEntry h (made_by (Import u file)) → Turns h p t (Import u file)
  file_turns u (Err fault) legal entry = absurd (import_accepted h p t u (Err fault) entry)
  file_turns u (Ok rows) legal entry = import_turns h p t u rows (legal_kept h legal) (import_accepted h p t u (Ok rows) entry).1

  propose_accepted : (u : Name) (k : ChangeKind) (base : ℕ) → IsLegal h → Turns h p t (Propose u (record { kind = k; base = base }))
  propose_accepted u (Rationale a s) base legal = propose_sheet_turns h p t u a s base (next_undecided h legal)
  propose_accepted u (Matrix m) base legal = propose_matrix_turns h p t u m base (next_undecided h legal)
  propose_accepted u (Limit a max) base legal = propose_limit_turns h p t u a max base (next_undecided h legal)

  approve_accepted : (u : Name) (n : ℕ) → IsLegal h → IsEntry h (made_by (Approve u n)) → Turns h p t (Approve u n)
  approve_accepted u n legal entry =
      let known = drafted h n _ (unrefused h (made_by (Approve u n)) entry).1.1.1 in
      by known.0.proposer known.0.proposed known.0.kind known.0.base known.1 where
        by : (q : Name) (s : ℕ) (k : ChangeKind) (base : ℕ) → draft h n ≡ Some (record { proposer = q; proposed = s; kind = k; base = base })
            → Turns h p t (Approve u n)
        by q s (Rationale a sheet) base known = approve_sheet_turns h p t u n q s a sheet base known
        by q s (Matrix m) base known = approve_matrix_turns h p t u n q s m base known
        by q s (Limit a max) base known =
            let alarm = limit_there h legal n _ a max known refl in
            approve_limit_turns h p t u n q s a max base alarm.0 known alarm.1

  -- the changes of an accepted call turn the rows of the legal history into those of the history followed by the call
  pub accepted_turns : IsLegal h → (q : Request) → is_opening q ≡ false → changes_history (verdict h (made_by q)) (made_by q) ≡ true → Turns h p t q
  accepted_turns legal (OpenUnit u s m k) plain accepted = cc
  accepted_turns legal (Grant u q r) plain accepted = grant_turns h p t u q r
  accepted_turns legal (Withdraw u q r) plain accepted = withdraw_turns h p t u q r
  accepted_turns legal (Register u a l max) plain accepted =
      register_turns h p t u a l max (unspoken h legal a (registered_anew h p t u a l max accepted))
  accepted_turns legal (Import u file) plain accepted = file_turns u file legal accepted
  accepted_turns legal (TimedShelve u a d w) plain accepted = timed_turns h p t u a d w
  accepted_turns legal (OneShotShelve u a w) plain accepted = let known = latches a (unrefused h (made_by (OneShotShelve u a w)) accepted).1.1.1.0 in
      one_shot_turns h p t u a w known.0 known.1
  accepted_turns legal (Unshelve u a) plain accepted = unshelve_turns h p t u a
  accepted_turns legal (RemoveFromService u a w) plain accepted = let known =
      latches a (unrefused h (made_by (RemoveFromService u a w)) accepted).1.1.1.0 in remove_turns h p t u a w known.0 known.1
  accepted_turns legal (PlaceInService u a) plain accepted = let known = latches a (unrefused h (made_by (PlaceInService u a)) accepted).1.1.1.0 in
      place_turns h p t u a known.0 known.1
  accepted_turns legal (Propose u x) plain accepted = propose_accepted u x.kind x.base legal
  accepted_turns legal (WithdrawChange u n) plain accepted = let known = drafted h n _ (unrefused h (made_by (WithdrawChange u n)) accepted).1.1.1 in
      withdraw_change_turns h p t u n known.0 known.1
  accepted_turns legal (Approve u n) plain accepted = approve_accepted u n legal accepted
  accepted_turns legal (Reject u n) plain accepted = let known = drafted h n _ (unrefused h (made_by (Reject u n)) accepted).1.1.1 in
      reject_turns h p t u n known.0 known.1
  accepted_turns legal q plain accepted = absurd (let no : false ≡ true = (and_parts (is_ok (verdict h (made_by q))) false accepted).1 in cc)
