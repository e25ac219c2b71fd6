-- In a legal history only what was proposed is decided, each limit that was proposed is of a registered alarm, and
-- there are as many rows of changes as proposals.
use Rattle.std.proofs.Common.{ap, arith, refl, sym, ◌∙◌, Bool, List, None, Option, Some, false, if◌then◌else◌, is_some, max, option_map, true, ℕ, ◌+◌, ◌∷◌, ◌≡◌, ◌≤◌, true≢false}
use Rattle.plant_model.specs.{Alarms.{latching}, Histories.{latest, same_number}, Legality.{IsLegal}, Refusals.{of_change}, declared.call.Call.{Call}}
use Rattle.plant_model.specs.Changes.{Decision, Draft, approved_limit, change, decision, draft, is_proposal, kind_of_change, limit_in, limit_revision, proposals, said_of_decision, said_of_draft}
use Rattle.plant_model.specs.declared.{call.Request.{Request, TheVariants.{Approve, Propose, Reject, WithdrawChange}}, reply.ChangeRow.{ChangeRow}}
use Rattle.plant_model.{specs.declared.reply.Refused.{Refused}, proofs.public.Accepted.{AllOff, IsEntry, made, unrefused, open_change, latest_legal}}
use Rattle.plant_model.proofs.public.FactLaws.{draft_bound, none_counted, same_number_of, is_some-map}
use Rattle.plant_model.proofs.public.{HistoryLaws.{change_with, when_Some, when_same}, PutLaws.{never_some}}
use Rattle.plant_model.proofs.public.ServiceLaws.{registered, registered_stays, what_is}
use Rattle.plant_ration.specs.declared.change.ChangeKind.{ChangeKind, TheVariants.{Limit, Matrix, Rationale}}
use Rattle.plant_types.specs.{Names.{Name}, Options.{when}}

-- a change that is decided has its draft
pub drafted : (h : List Call) (n : ℕ) (more : ChangeRow → List (Bool × Refused)) → AllOff (of_change (change h n) more)
    → (d : Draft) × (draft h n ≡ Some d)
drafted h n more off = what_is (draft h n) (sym (is_some-map (change_with h n) (draft h n)) ∙ ap is_some (open_change (change h n) more off).1)

said_same : (n m : ℕ) (v d : Decision) → when (same_number n m) v ≡ Some d → n ≡ m
said_same n m v d e =
    elim (same_number n m) as (λ b. same_number n m ≡ b → when b v ≡ Some d
    → n ≡ m) [ true ↦ λ s _. same_number_of n m s | false ↦ λ _ is. cc ] refl e

is_there : (h : List Call) (n m : ℕ) (v d : Decision) (more : ChangeRow → List (Bool × Refused)) → when (same_number n m) v ≡ Some d
    → AllOff (of_change (change h m) more) → n ≤ proposals h
is_there h n m v d more e off =
    let known = drafted h m more off in
    let less = draft_bound h m known.0 known.1 in
    let same = said_same n m v d e in
    omega (arith, less, same)

decided_is_there : (h : List Call) (p : Name) (t : ℕ) (q : Request) (n : ℕ) (d : Decision) → IsEntry h (made p t q)
    → said_of_decision n p t q ≡ Some d → n ≤ proposals h
decided_is_there h p t (WithdrawChange u m) n d entry e = is_there h n m _ d _ e (unrefused h (made p t (WithdrawChange u m)) entry).1.1.1
decided_is_there h p t (Approve u m) n d entry e = is_there h n m _ d _ e (unrefused h (made p t (Approve u m)) entry).1.1.1
decided_is_there h p t (Reject u m) n d entry e = is_there h n m _ d _ e (unrefused h (made p t (Reject u m)) entry).1.1.1
decided_is_there h p t _ n d entry e = cc

proposals_grow : (h : List Call) (c : Call) → proposals h ≤ proposals (c ∷ h)
proposals_grow h c =
    elim (is_proposal c.request) as (λ b. proposals h ≤ (if b then proposals h + 1 else proposals h)) [ true ↦ omega arith | false ↦ omega arith ]

-- the number of a decision is at most the number of proposals
pub decided_bound : (h : List Call) → IsLegal h → (n : ℕ) (d : Decision) → decision h n ≡ Some d → n ≤ proposals h
decided_bound h legal n =
    latest_legal (λ c before. said_of_decision n c.person c.moment c.request) (λ h d. n ≤ proposals h) (λ p t u s m k shape d e. cc)
    (λ h c f d said. let less = decided_is_there h c.person c.moment c.request n d f.entry said in let grow = proposals_grow h c in
    omega (arith, less, grow))
    (λ h c f d less. let grow = proposals_grow h c in omega (arith, less, grow)) h legal

-- nothing is decided of the next number
pub next_undecided : (h : List Call) → IsLegal h → decision h (proposals h + 1) ≡ None
next_undecided h legal = never_some _ (λ d e. let less = decided_bound h legal (proposals h + 1) d e in omega (arith, less))

-- A proposed limit is of an alarm that was registered
abbrev limited : Option ChangeKind → Option Name
limited (Some (Limit a max)) = Some a
limited _ = None

limit_is_of : (a : Name) (k : Option ChangeKind) (max : ℕ) → limit_in a k ≡ Some max → limited k ≡ Some a
limit_is_of a (Some (Limit b x)) max e = ap (λ y. Some y) (sym (when_same a b x max e))
limit_is_of a _ max e = cc

proposed_there : (h : List Call) (p : Name) (t : ℕ) (u b : Name) (max base : ℕ)
    → IsEntry h (made p t (Propose u (record { kind = Limit b max; base = base }))) → is_some (latching h b) ≡ true
proposed_there h p t u b max base entry =
    registered h b (unrefused h (made p t (Propose u (record { kind = Limit b max; base = base }))) entry).1.1.1.1.0

abbrev kind_of_draft : Option Draft → Option ChangeKind
kind_of_draft o = option_map (λ d. d.kind) o

drafted_there : (h : List Call) (p : Name) (t : ℕ) (q : Request) (n : ℕ) (d : Draft) (a : Name) → IsEntry h (made p t q)
    → said_of_draft n p t h q ≡ Some d → limited (Some d.kind) ≡ Some a → is_some (latching h a) ≡ true
drafted_there h p t (Propose u x) n d a accepted e is = by_kind x.kind x.base accepted (when_Some (same_number n (proposals h + 1)) _ d e) where
  by_kind : (k : ChangeKind) (base : ℕ) → IsEntry h (made p t (Propose u (record { kind = k; base = base })))
      → record { proposer = p; proposed = t; kind = k; base = base } ≡ d → is_some (latching h a) ≡ true
  by_kind (Limit b max) base accepted same =
      let name : Some b ≡ Some a = ap (λ (z : Draft). limited (Some z.kind)) same ∙ is in
      let plain : b ≡ a = cc in
      ap (λ y. is_some (latching h y)) (sym plain) ∙ proposed_there h p t u b max base accepted
  by_kind (Rationale b s) base accepted same = let no : None ≡ Some a = ap (λ (z : Draft). limited (Some z.kind)) same ∙ is in cc
  by_kind (Matrix m) base accepted same = let no : None ≡ Some a = ap (λ (z : Draft). limited (Some z.kind)) same ∙ is in cc
drafted_there h p t _ n d a accepted e is = cc

limited_known : (h : List Call) → IsLegal h → (n : ℕ) (a : Name) (d : Draft) → draft h n ≡ Some d → limited (Some d.kind) ≡ Some a
    → is_some (latching h a) ≡ true
limited_known h legal n a =
    latest_legal (λ c before. said_of_draft n c.person c.moment before c.request)
    (λ h d. limited (Some d.kind) ≡ Some a → is_some (latching h a) ≡ true) (λ p t u s m k shape d e is. cc)
    (λ h c f d said is. registered_stays c h a (drafted_there h c.person c.moment c.request n d a f.entry said is))
    (λ h c f d rest is. registered_stays c h a (rest is)) h legal

-- so an alarm that isn't registered has no approved limit
abbrev limit_said : List Call → Name → Option ℕ
limit_said h a = latest (λ c before. approved_limit a before c.request) h

approved_known : (h : List Call) → IsLegal h → (a : Name) (q : Request) (max : ℕ) → approved_limit a h q ≡ Some max → is_some (latching h a) ≡ true
approved_known h legal a (Approve u n) max e =
    elim (draft h n) as (λ o. draft h n ≡ o → limited (kind_of_draft o) ≡ Some a
    → is_some (latching h a) ≡ true) [ None ↦ λ _ no. cc | Some d ↦ limited_known h legal n a d ] refl (limit_is_of a (kind_of_change h n) max e)
approved_known h legal a _ max e = cc

limit_registered : (h : List Call) → IsLegal h → (a : Name) (max : ℕ) → limit_said h a ≡ Some max → is_some (latching h a) ≡ true
limit_registered h legal a =
    latest_legal (λ c before. approved_limit a before c.request) (λ h max. is_some (latching h a) ≡ true) (λ p t u s m k shape max e. cc)
    (λ h c f max said. registered_stays c h a (approved_known h f.legal a c.request max said))
    (λ h c f max there. registered_stays c h a there) h legal

pub no_revision : (h : List Call) → IsLegal h → (a : Name) → latching h a ≡ None → limit_revision h a ≡ 0
no_revision h legal a unregistered =
    none_counted (λ c before. approved_limit a before c.request) h
    (never_some (limit_said h a) (λ max e. true≢false (sym (limit_registered h legal a max e) ∙ ap is_some unregistered)))

-- the alarm of a proposed limit exists
pub limit_there : (h : List Call) → IsLegal h → (n : ℕ) (d : Draft) (b : Name) (max : ℕ) → draft h n ≡ Some d → d.kind ≡ Limit b max
    → (l : Bool) × (latching h b ≡ Some l)
limit_there h legal n d b max e is = what_is (latching h b) (limited_known h legal n b d e (ap (λ k. limited (Some k)) is))
