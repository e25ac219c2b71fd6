-- In a legal history there are at most 20,000 changes, and no thing has more approved changes than that.
use Rattle.std.{specs.List.{list_any, AllByRecursion, IsDistinct}, proofs.lemmas.Map.Steps.{length-le_from_distinct_below}}
use Rattle.std.proofs.Common.{ap, arith, refl, sym, ◌∙◌, Bool, List, None, Option, Some, [], false, if◌then◌else◌, is_some, length, not, option_map, true, ℕ, ◌+◌, ◌<◌, ◌∷◌, ◌≡◌, ◌≤◌, true≢false, eqb-true, ne_eqb, eqb, length-append, inl, inr, ◌++◌, option_and_then}
use Rattle.std.proofs.lemmas.{Bool.{leb-false, or_cases, or_parts, false_from_ne_true}, List.Folds.{list_any-append}}
use Rattle.plant_model.specs.Changes.{Decision, Draft, approved_limit, approved_matrix, approved_sheet, change, change_as, decision, draft, limit_revision, matrix_revision, proposals, record_revision, said_of_decision}
use Rattle.plant_model.specs.{Histories.{counted, same_number, all_named}, Legality.{IsLegal}, Refusals.{is_open, of_change}}
use Rattle.plant_model.specs.declared.call.{Call.{Call}, Request.{Request, TheVariants.{Approve, Propose, Reject, WithdrawChange}}}
use Rattle.plant_model.{specs.declared.reply.{ChangeRow.{ChangeRow}, Refused.{Refused}}, proofs.ProposalLaws.{drafted, decided_bound}}
use Rattle.plant_model.proofs.public.{Accepted.{by_legal, AllOff, IsEntry, made, unrefused}, HistoryLaws.{latest-holds, when_Some}}
use Rattle.plant_model.proofs.public.{ReadLaws.{draft_positive, else_some}, RowsFound.{tied_numbers}, ServiceLaws.{what_is}}
use Rattle.plant_model.specs.Changes.{number_approved, matrix_in, sheet_in, limit_in, kind_of_change}
use Rattle.plant_ration.specs.declared.change.ChangeState.TheVariants.{Approved}
use Rattle.plant_types.specs.{Limits.{max_changes}, Names.{Name}, Options.{or_else, when}}

-- Each decision is of a change that was not decided before
abbrev is_closed : Decision → Bool
is_closed d = not (is_open d.state)

when_closed : (b : Bool) (v x : Decision) → is_closed v ≡ true → when b v ≡ Some x → is_closed x ≡ true
when_closed b v x closed e = ap is_closed (sym (when_Some b v x e)) ∙ closed

said_closed : (n : ℕ) (p : Name) (t : ℕ) (q : Request) (x : Decision) → said_of_decision n p t q ≡ Some x → is_closed x ≡ true
said_closed n p t (WithdrawChange u m) x e = when_closed (same_number n m) _ x refl e
said_closed n p t (Approve u m) x e = when_closed (same_number n m) _ x refl e
said_closed n p t (Reject u m) x e = when_closed (same_number n m) _ x refl e
said_closed n p t _ x e = cc

decision_closed : (h : List Call) (n : ℕ) (x : Decision) → decision h n ≡ Some x → is_closed x ≡ true
decision_closed h n x e =
    latest-holds (λ c before. said_of_decision n c.person c.moment c.request) (λ x. is_closed x ≡ true)
    (λ c before x said. said_closed n c.person c.moment c.request x said) h x e

undecided_by : (h : List Call) (m : ℕ) (d : Option Draft) (o : Option Decision) → decision h m ≡ o → (more : ChangeRow → List (Bool × Refused))
    → AllOff (of_change (option_map (change_as m o) d) more) → o ≡ None
undecided_by h m d None is more off = refl
undecided_by h m None (Some x) is more off = absurd (true≢false off.0)
undecided_by h m (Some y) (Some x) is more off = absurd (true≢false (sym (decision_closed h m x is) ∙ off.0))

was_undecided : (h : List Call) (m : ℕ) (more : ChangeRow → List (Bool × Refused)) → AllOff (of_change (change h m) more) → decision h m ≡ None
was_undecided h m = undecided_by h m (draft h m) (decision h m) refl

-- The changes that are approved: each once, and decided
abbrev approved_by : Request → List ℕ
approved_by (Approve u n) = n ∷ []
approved_by _ = []

abbrev approved : List Call → List ℕ
approved h = all_named (λ c before. approved_by c.request) h

decided_now : (n : ℕ) (p : Name) (t : ℕ) (q : Request) → list_any (eqb n) (approved_by q) ≡ true → (o : Option Decision)
    → is_some (or_else (said_of_decision n p t q) o) ≡ true
decided_now n p t (Approve u m) there o =
    elim (or_cases (eqb n m) false there) [
      | inl same ↦ ap (λ b. is_some (or_else (when b (record { state = Approved; decider = p; decided = t })) o))
          (tied_numbers n m (eqb-true n m same))
      | inr never ↦ cc
    ]
decided_now n p t _ there o = cc

decided : (h : List Call) (n : ℕ) → list_any (eqb n) (approved h) ≡ true → is_some (decision h n) ≡ true
decided [] n e = cc
decided (c ∷ h) n e =
    elim (or_cases (list_any (eqb n) (approved_by c.request)) _ (sym (list_any-append (eqb n) (approved_by c.request) (approved h)) ∙ e)) [
      | inl here ↦ decided_now n c.person c.moment c.request here (decision h n)
      | inr there ↦ else_some (said_of_decision n c.person c.moment c.request) (decision h n) (decided h n there)
    ]

apart : (n : ℕ) (ks : List ℕ) → list_any (eqb n) ks ≡ false → AllByRecursion (λ k. eqb n k ≡ false) ks
apart n [] e = tt
apart n (k ∷ ks) e = let both = or_parts _ _ e in (both.0, apart n ks both.1)

distinct_step : (h : List Call) (p : Name) (t : ℕ) (q : Request) → IsEntry h (made p t q) → IsDistinct eqb (0 ∷ approved h)
    → IsDistinct eqb (0 ∷ approved (made p t q ∷ h))
unfolding IsDistinct
distinct_step h p t (Approve u m) entry d =
    let off = (unrefused h (made p t (Approve u m)) entry).1.1.1 in
    let known = drafted h m _ off in
    let low : 1 ≤ m = draft_positive h m known.0 known.1 in
    let none =
    false_from_ne_true (list_any (eqb m) (approved h)) (λ there. true≢false (sym (decided h m there) ∙ ap is_some (was_undecided h m _ off))) in
    ((ne_eqb 0 m (λ e. omega (arith, low, e)), d.0), (apart m (approved h) none, d.1))
distinct_step h p t _ entry d = d

distinct : (h : List Call) → IsLegal h → IsDistinct eqb (0 ∷ approved h)
unfolding IsDistinct
distinct =
    by_legal (λ h. IsDistinct eqb (0 ∷ approved h)) (λ p t u s m k shape. (tt, tt)) (λ h c f. distinct_step h c.person c.moment c.request f.entry)

-- At most 20,000 proposals
few_step : (h : List Call) (p : Name) (t : ℕ) (q : Request) → IsEntry h (made p t q) → proposals h ≤ max_changes
    → proposals (made p t q ∷ h) ≤ max_changes
few_step h p t (Propose u x) entry le = let room = leb-false max_changes (proposals h) (unrefused h (made p t (Propose u x)) entry).1.1.1.0 in
    omega (arith, room)
few_step h p t _ entry le = le

pub few_proposals : (h : List Call) → IsLegal h → proposals h ≤ max_changes
few_proposals = by_legal (λ h. proposals h ≤ max_changes) (λ p t u s m k shape. omega arith) (λ h c f. few_step h c.person c.moment c.request f.entry)

few_approvals : (h : List Call) → IsLegal h → length (approved h) ≤ max_changes
few_approvals h legal =
    let some = length-le_from_distinct_below (0 ∷ approved h) (proposals h + 1) (distinct h legal) below in
    let few = few_proposals h legal in
    omega (arith, some, few)
  where
    below : (n : ℕ) → list_any (eqb n) (0 ∷ approved h) ≡ true → n < proposals h + 1
    below n e = elim (or_cases (eqb n 0) _ e) [
      | inl same ↦ let is = eqb-true n 0 same in omega (arith, is)
      | inr there ↦ let it = what_is (decision h n) (decided h n there) in let le = decided_bound h legal n it.0 it.1 in omega (arith, le)
    ]

-- what only approvals change is changed at most as often as there are approvals
fewer : {A : Type 0} (says : Call → List Call → Option A)
    → ((c : Call) (before : List Call) → is_some (says c before) ≡ true → 1 ≤ length (approved_by c.request)) → (h : List Call)
    → counted (λ c before. is_some (says c before)) h ≤ length (approved h)
fewer says each [] = omega arith
fewer says each (c ∷ h) =
    let rest = fewer says each h in
    let long = length-append (approved_by c.request) (approved h) in
    elim (is_some (says c h)) as (λ b. is_some (says c h) ≡ b
    → (if b then
    counted (λ c before. is_some (says c before)) h + 1 else counted (λ c before. is_some (says c before)) h) ≤ length (approved_by c.request
    ++ approved h)) [
      | true ↦ λ is. let one = each c h is in omega (arith, rest, long, one)
      | false ↦ λ _. omega (arith, rest, long)
    ] refl

an_approval : {A : Type 0} (brings : ℕ → Option A) (q : Request) → is_some (option_and_then brings (number_approved q)) ≡ true
    → 1 ≤ length (approved_by q)
an_approval brings (Approve u n) e = omega arith
an_approval brings _ e = cc

-- so each revision is at most 20,000
pub few_matrices : (h : List Call) → IsLegal h → matrix_revision h ≤ max_changes
few_matrices h legal = let some =
    fewer (λ c before. approved_matrix before c.request) (λ c before. an_approval (λ n. matrix_in n (kind_of_change before n)) c.request) h in
    let few = few_approvals h legal in omega (arith, some, few)

pub few_records : (h : List Call) → IsLegal h → (a : Name) → record_revision h a ≤ max_changes
few_records h legal a = let some =
    fewer (λ c before. approved_sheet a before c.request) (λ c before. an_approval (λ n. sheet_in a n (kind_of_change before n)) c.request) h in
    let few = few_approvals h legal in omega (arith, some, few)

pub few_limits : (h : List Call) → IsLegal h → (a : Name) → limit_revision h a ≤ max_changes
few_limits h legal a = let some =
    fewer (λ c before. approved_limit a before c.request) (λ c before. an_approval (λ n. limit_in a (kind_of_change before n)) c.request) h in
    let few = few_approvals h legal in omega (arith, some, few)
