-- Histories of schema 1 are histories of today: a quota of 2,000 refuses nothing, and without ends what stands is held.
use Rattle.std.specs.List.{AllByRecursion, cons_option, list_all, list_any}
use Rattle.std.proofs.Common.{◌≡◌, Bool, true, false, List, [], ◌∷◌, ◌++◌, ◌+◌, Option, None, Some, Result, Ok, Err, refl, sym, ap, ◌∙◌, subst, true≢false, not, arith, ◌<◌, ℕ, filter_map, is_none, is_some, length, map, nat_le, nat_lt, option_map, ◌&&◌}
use Rattle.std.proofs.lemmas.Bool.{and_from, Decides.{nat_tests}}
use Rattle.plant_alarm.specs.{Shelves.{is_one_shot, is_timed}, declared.event.Event.{Event}}
use Rattle.plant_import.specs.{Merging.{first_fault}, Numbers.{new_numbers}, declared.bad_file.BadFile.{BadFile}}
use Rattle.plant_model.specs.{Alarms.{quota, said_of_quota}, Calls.{own_refusals, reply}, Facts.{Facts, facts, limit_of, others_shelved, shelf_now}}
use Rattle.plant_model.specs.{Grants.{held, standing, stands}, Histories.{all_named, latest, same_number}, Kinds.{role_needed}, Laws.{has_no_end}, Legality.{IsLegal}}
use Rattle.plant_model.specs.Refusals.{fault_entries, file_refusals, first_refusal, holds_some, is_not_needed, is_open, kind_refusals, kind_unknown, lacks_role, of_change}
use Rattle.plant_model.specs.Rows.{alarm_row, grant_as, grant_row, pairs_named}
use Rattle.plant_model.specs.steps.RowFacts.{alarm_tag}
use Rattle.plant_model.specs.{Verdicts.{changes_history, is_opening, refusals, refused_or, verdict}, declared.call.{Call.{Call}, Request.{Request}}}
use Rattle.plant_model.specs.declared.call.Request.TheVariants.{Approve, Grant, Import, OneShotShelve, OpenUnit, Propose, Reject, TimedShelve, WithdrawChange}
use Rattle.plant_model.specs.declared.{reply.{ChangeRow.{ChangeRow}, Refused.{Refused}}, rows.GrantRow.{GrantRow}}
use Rattle.plant_model.specs.declared.reply.Full.TheVariants.{Changes as TooManyChanges, Events as TooManyEvents, Grants as TooManyGrants}
use Rattle.plant_model.specs.declared.reply.Refused.TheVariants.{AlarmUnknown, AlreadyHeld, BaseChanged, EndNotAhead, MomentBehind, NotAnAlarm, NotGranted, NotProposed, NotProposer, OutsideMatrix, SamePerson, ShelfQuota, UnitFull}
use Rattle.plant_model.proofs.public.{EndLaws.{stands_for_good, without_ends}, QuotaLaws.{few_others}}
use Rattle.plant_ration.specs.{Matrix.{priority_of, row_of}, declared.cell.Cell.{Cell, TheVariants.{N, P1, P2, P3, P4}}}
use Rattle.plant_ration.specs.declared.change.{ChangeKind.{ChangeKind, TheVariants.{Limit, Matrix, Rationale}}, ChangeState.{ChangeState}}
use Rattle.plant_ration.specs.declared.change.ChangeState.TheVariants.{Approved, Proposed, Rejected, Withdrawn}
use Rattle.plant_types.specs.{KeyedRows.{in_order}, Limits.{max_grants, max_quota}, Names.{Name, same_name}}
use Rattle.plant_types.specs.{Roles.{Pair, all_roles, pair_cmp}, declared.role.Role.{Role}}
use Rattle.plant_types.proofs.public.{Halves.{left}, KeyedRowLaws.{tied}, Orders.{same_numbers}}
use Rattle.plant_store_migration.specs.OldRules.{OldHistoriesAreLegal, OldRowsHaveNoEnds, OldVerdictsStay, WasLegal, is_of_old, old_fault_entries, old_file_refusals}
use Rattle.plant_store_migration.specs.OldRules.{old_kind_refusals, old_kind_unknown, old_lacks_role, old_max_changes, old_max_events, old_of_change, old_own_refusals}
use Rattle.plant_store_migration.specs.OldRules.{old_quota, old_refusals, old_role_needed, old_verdict, was_not_needed, was_open}

-- ---- lists of refusals

refused_alike : (xs : List (Bool × Refused)) (ys zs : List (Bool × Refused)) → first_refusal ys ≡ first_refusal zs
    → first_refusal (xs ++ ys) ≡ first_refusal (xs ++ zs)
refused_alike [] ys zs e = e
refused_alike ((true, r) ∷ xs) ys zs e = refl
refused_alike ((false, r) ∷ xs) ys zs e = refused_alike xs ys zs e

-- a last refusal whose condition does not hold
none_last : (xs : List (Bool × Refused)) (v : Refused) → first_refusal (xs ++ (false, v) ∷ []) ≡ first_refusal xs
none_last [] v = refl
none_last ((true, r) ∷ xs) v = refl
none_last ((false, r) ∷ xs) v = none_last xs v

-- and one whose condition does not hold where the first does not
none_beside : (b q : Bool) (x v : Refused) (xs : List (Bool × Refused)) → (b ≡ false → q ≡ false)
    → first_refusal ((b, x) ∷ xs ++ (q, v) ∷ []) ≡ first_refusal ((b, x) ∷ xs)
none_beside true q x v xs h = refl
none_beside false q x v xs h = ap (λ b. first_refusal (xs ++ (b, v) ∷ [])) (h refl) ∙ none_last xs v

-- ---- the quota and the ends of such a history

no_end : (q : Request) → is_of_old q ≡ true → has_no_end q ≡ true
no_end (Grant u p t) e = e
no_end _ e = refl

no_ends : (h : List Call) → WasLegal h → list_all (λ (c : Call). has_no_end c.request) h ≡ true
no_ends [] was = absurd was
no_ends (c ∷ []) was = and_from (has_no_end c.request) true (no_end c.request was.2) refl
no_ends (c ∷ d ∷ before) was = and_from (has_no_end c.request) _ (no_end c.request was.2) (no_ends (d ∷ before) was.3)

opened_with : (q : Request) → is_opening q ≡ true → is_of_old q ≡ true → said_of_quota q ≡ Some old_quota
opened_with (OpenUnit u s m n) o e = ap Some (same_numbers n old_quota (tied _ _ e refl))
opened_with _ o e = cc

says_nothing : (q : Request) → (not (is_opening q)) ≡ true → said_of_quota q ≡ None
says_nothing (OpenUnit u s m n) o = absurd (true≢false (sym o))
says_nothing _ o = refl

quota_said : (h : List Call) → WasLegal h → latest (λ (c : Call) before. said_of_quota c.request) h ≡ Some old_quota
quota_said [] was = absurd was
quota_said (c ∷ []) was = rw (opened_with c.request was.0 was.2) refl
quota_said (c ∷ d ∷ before) was = rw (says_nothing c.request (left _ _ was.0)) (quota_said (d ∷ before) was.3)

quota_is : (h : List Call) → WasLegal h → quota h ≡ old_quota
quota_is h was = rw (quota_said h was) refl

-- ---- the rows

grants_for_good : (h : List Call) → WasLegal h → (ks : List Pair) → AllByRecursion (λ (g : GrantRow). g.end_s ≡ None) (filter_map (grant_row h) ks)
grants_for_good h was [] = tt
grants_for_good h was (k ∷ ks) =
    let rest = grants_for_good h was ks in
    elim (standing h k) as (λ o. standing h k ≡ o
    → AllByRecursion (λ (g : GrantRow). g.end_s ≡ None) (cons_option (option_map (grant_as k) o) (filter_map (grant_row h) ks))) [
      | None ↦ λ _. rest
      | Some until ↦ λ is. (stands_for_good h (no_ends h was) k until is, rest)
    ] refl

pub old_rows : OldRowsHaveNoEnds
old_rows h was =
    record { quotas = (quota_is h was, tt); ends = grants_for_good h was (in_order pair_cmp (all_named (λ c before. pairs_named c.request) h)) }

-- ---- refusals that schema 1 has as today's

roles_stay : (q : Request) → role_needed q ≡ old_role_needed q
roles_stay (OpenUnit u s m n) = refl
roles_stay (Grant u p t) = refl
roles_stay _ = refl

open_alike : (s : ChangeState) → is_open s ≡ was_open s
open_alike Proposed = refl
open_alike Approved = refl
open_alike Rejected = refl
open_alike Withdrawn = refl

needed_alike : (o : Option Cell) → is_not_needed o ≡ was_not_needed o
needed_alike None = refl
needed_alike (Some N) = refl
needed_alike (Some P1) = refl
needed_alike (Some P2) = refl
needed_alike (Some P3) = refl
needed_alike (Some P4) = refl

faults_alike : (o : Option BadFile) → fault_entries o ≡ old_fault_entries o
faults_alike None = refl
faults_alike (Some fault) = refl

change_alike : (o : Option ChangeRow) (more old : ChangeRow → List (Bool × Refused)) → ((c : ChangeRow) → more c ≡ old c)
    → of_change o more ≡ old_of_change o old
change_alike None more old same = refl
change_alike (Some c) more old same = λ i. (not (open_alike c.state i), NotProposed c.state) ∷ same c i

module _ (f : Facts) where
  file_alike : (t : ℕ) (file : Result (List Event) BadFile) → file_refusals f t file ≡ old_file_refusals f t file
  file_alike t (Err fault) = refl
  file_alike t (Ok rows) =
      ap (λ rest. (nat_lt old_max_events (length f.events + length (new_numbers f.events rows)), UnitFull TooManyEvents) ∷ rest)
      (faults_alike (first_fault (map alarm_tag f.alarms) t 2 f.events rows))

  kind_alike : (base : ℕ) (k : ChangeKind) → kind_refusals f base k ≡ old_kind_refusals f base k
  kind_alike base (Rationale a s) = λ i.
      (not (same_number base (f.revision a)), BaseChanged (f.revision a)) ∷ (not (is_some (row_of f.matrix s.severity)), OutsideMatrix)
      ∷ (needed_alike (priority_of f.matrix s.severity s.response) i, NotAnAlarm) ∷ []
  kind_alike base (Matrix m) = refl
  kind_alike base (Limit a max) = refl

  proposed_alike : (base : ℕ) (k : ChangeKind) → kind_unknown f k ++ kind_refusals f base k ≡ old_kind_unknown f k ++ old_kind_refusals f base k
  proposed_alike base (Rationale a s) = ap (λ rest. (is_none (f.alarm a), AlarmUnknown) ∷ rest) (kind_alike base (Rationale a s))
  proposed_alike base (Matrix m) = refl
  proposed_alike base (Limit a max) = refl

-- ---- one call

some_of : {A : Type 0} (o : Option A) → is_none o ≡ false → is_some o ≡ true
some_of None e = cc
some_of (Some x) e = refl

not_full : (n q : ℕ) → q ≡ max_quota → n < max_quota → nat_le q n ≡ false
not_full n q e lt = grind (arith, nat_tests)

module _ (h : List Call) (was : WasLegal h) (legal : IsLegal h) where
  alike : (t : ℕ) (k : Pair) → held h t k ≡ stands h k
  alike t k = without_ends h (no_ends h was) t k

  no_quota : (a : Name) (t : ℕ) → is_none (alarm_row h a) ≡ false → nat_le (quota h) (others_shelved (facts h) a t) ≡ false
  no_quota a t known = not_full (others_shelved (facts h) a t) (quota h) (quota_is h was) (few_others h legal a t (some_of (alarm_row h a) known))

  same_some : (t : ℕ) (p : Name) → holds_some (facts h) t p ≡ list_any (λ r. stands h (p, r)) all_roles
  unfolding holds_some
  same_some t p = λ i. list_any (λ r. alike t (p, r) i) all_roles

  same_lack : (t : ℕ) (p : Name) (o : Option Role) → lacks_role (facts h) t p o ≡ old_lacks_role (facts h) p o
  same_lack t p None = refl
  same_lack t p (Some r) = rw (alike t (p, r)) refl

  same_own : (p : Name) (t : ℕ) (q : Request) → is_of_old q ≡ true
      → first_refusal (own_refusals (facts h) p t q) ≡ first_refusal (old_own_refusals (facts h) p t q)
  same_own p t (Grant u q (r, None)) e =
      rw (alike t (q, r)) (none_last ((nat_le max_grants (facts h).pairs, UnitFull TooManyGrants) ∷ (stands h (q, r), AlreadyHeld) ∷ []) EndNotAhead)
  same_own p t (Grant u q (r, Some end)) e = absurd (true≢false (sym e))
  same_own p t (TimedShelve u a d w) e =
      none_beside (is_none (alarm_row h a)) _ AlarmUnknown (ShelfQuota (quota h))
      ((nat_lt (limit_of (facts h) a) d, _) ∷ (is_timed (shelf_now (facts h) a t), _) ∷ []) (no_quota a t)
  same_own p t (OneShotShelve u a w) e =
      none_beside (is_none (alarm_row h a)) _ AlarmUnknown (ShelfQuota (quota h)) ((is_one_shot (shelf_now (facts h) a t), _) ∷ []) (no_quota a t)
  same_own p t (Import u file) e = ap first_refusal (file_alike (facts h) t file)
  same_own p t (Propose u x) e =
      ap (λ rest. first_refusal ((nat_le old_max_changes (facts h).change_count, UnitFull TooManyChanges) ∷ rest))
      (proposed_alike (facts h) x.base x.kind)
  same_own p t (WithdrawChange u n) e =
      ap first_refusal (change_alike ((facts h).change n) (λ c. (not (same_name p c.proposer), NotProposer)
      ∷ []) (λ c. (not (same_name p c.proposer), NotProposer) ∷ []) (λ c. refl))
  same_own p t (Approve u n) e =
      ap first_refusal (change_alike ((facts h).change n) (λ c. (same_name p c.proposer, SamePerson) ∷ kind_refusals (facts h) c.base c.kind)
      (λ c. (same_name p c.proposer, SamePerson) ∷ old_kind_refusals (facts h) c.base c.kind)
      (λ c. ap (λ rest. (same_name p c.proposer, SamePerson) ∷ rest) (kind_alike (facts h) c.base c.kind)))
  same_own p t (Reject u n) e =
      ap first_refusal (change_alike ((facts h).change n) (λ c. (same_name p c.proposer, SamePerson) ∷ []) (λ c. (same_name p c.proposer, SamePerson)
      ∷ []) (λ c. refl))
  same_own p t _ e = refl

  same_refusal : (c : Call) → is_of_old c.request ≡ true → first_refusal (refusals (facts h) c) ≡ first_refusal (old_refusals (facts h) c)
  same_refusal c e =
      let none : Bool × Refused = (not (list_any (λ r. stands h (c.person, r)) all_roles), NotGranted) in
      let behind : Bool × Refused = (nat_lt c.moment (facts h).unit.last_s, MomentBehind (facts h).unit.last_s) in
      let own = own_refusals (facts h) c.person c.moment c.request in
      let old_own = old_own_refusals (facts h) c.person c.moment c.request in
      ap (λ b. first_refusal ((not b, NotGranted) ∷ lacks_role (facts h) c.moment c.person (role_needed c.request) ++ behind ∷ own))
      (same_some c.moment c.person)
      ∙ ap (λ l. first_refusal (none ∷ l ++ behind ∷ own))
      (same_lack c.moment c.person (role_needed c.request) ∙ ap (old_lacks_role (facts h) c.person) (roles_stay c.request))
      ∙ refused_alike (none ∷ old_lacks_role (facts h) c.person (old_role_needed c.request)) (behind ∷ own) (behind ∷ old_own)
      (refused_alike (behind ∷ []) own old_own (same_own c.person c.moment c.request e))

  same_verdict : (c : Call) → is_of_old c.request ≡ true → verdict h c ≡ old_verdict h c
  same_verdict c e = ap (λ r. refused_or r (reply (facts h) c.moment c.request)) (same_refusal c e)

pub legal_still : OldHistoriesAreLegal
legal_still [] was = was
legal_still (c ∷ []) was = (was.0, was.1)
legal_still (c ∷ d ∷ before) was =
    let legal = legal_still (d ∷ before) was.3 in
    let same = same_verdict (d ∷ before) was.3 legal c was.2 in
    (subst (λ v. (not (is_opening c.request) && changes_history v c) ≡ true) (sym same) was.0, was.1, legal)

pub verdicts_stay : OldVerdictsStay
verdicts_stay h was c e = same_verdict h was (legal_still h was) c e
