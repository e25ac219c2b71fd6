-- What an entry passed when it was accepted, and what holds of every legal history.
use Rattle.std.proofs.Common.{refl, ◌∙◌, ◌≡◌, Bool, List, None, Option, Some, [], false, is_ok, not, true, ℕ, ◌∷◌, sym}
use Rattle.std.proofs.lemmas.Bool.{and_parts, true≢false}
use Rattle.plant_model.specs.{Facts.{facts}, Histories.{latest}, Legality.{IsLegal, has_matrix}, Refusals.{first_refusal, is_open, of_change}}
use Rattle.plant_model.specs.{Verdicts.{changes_history, is_opening, refusals, refused_or, verdict}, declared.call.{Call.{Call}, Request.{Request}}}
use Rattle.plant_model.specs.declared.{call.Request.TheVariants.{OpenUnit}, reply.{ChangeRow.{ChangeRow}, Refused.{Refused}, Reply.{Reply}}}
use Rattle.plant_model.proofs.public.PutLaws.{else_none}
use Rattle.plant_ration.specs.Grid.{Grid}
use Rattle.plant_types.specs.{Names.{Name}, Options.{or_else}}

abbrev pub made : Name → ℕ → Request → Call
made p t q = record { person = p; moment = t; request = q }

-- the call is accepted after the history, and changes it
abbrev pub IsEntry : List Call → Call → Type 0
IsEntry h c = changes_history (verdict h c) c ≡ true

-- no condition of a refusal holds
abbrev pub AllOff : List (Bool × Refused) → Type 0
AllOff [] = Unit {0}
AllOff (r ∷ rest) = (r.0 ≡ false) × AllOff rest

all_off : (rs : List (Bool × Refused)) (r : Reply) → is_ok (refused_or (first_refusal rs) r) ≡ true → AllOff rs
all_off [] r e = tt
all_off ((true, x) ∷ rest) r e = cc
all_off ((false, x) ∷ rest) r e = (refl, all_off rest r e)

pub unrefused : (h : List Call) (c : Call) → IsEntry h c → AllOff (refusals (facts h) c)
unrefused h c entry = all_off (refusals (facts h) c) _ (and_parts _ _ entry).0

-- a change that is decided exists and is open
pub open_change : (o : Option ChangeRow) (more : ChangeRow → List (Bool × Refused)) → AllOff (of_change o more)
    → (c : ChangeRow) × (o ≡ Some c) × (not (is_open c.state) ≡ false)
open_change None more off = absurd (true≢false off.0)
open_change (Some c) more off = (c, refl, off.0)

-- an entry of a legal history
pub record Follows (h : List Call) (c : Call) : Type 0 where
  pub legal : IsLegal h
  pub plain : not (is_opening c.request) ≡ true
  pub entry : IsEntry h c
  pub matrix : has_matrix c.request ≡ true

at_opening : (P : Call → Type 0)
    → ((p : Name) (t : ℕ) (u s : Name) (m : Grid) (k : ℕ) → has_matrix (OpenUnit u s m k) ≡ true → P (made p t (OpenUnit u s m k)))
    → (p : Name) (t : ℕ) (q : Request) → is_opening q ≡ true → has_matrix q ≡ true → P (made p t q)
at_opening P first p t (OpenUnit u s m k) opens shape = first p t u s m k shape
at_opening P first p t _ opens shape = cc

-- what holds after the opening, and after each later entry, holds
pub by_legal : (P : List Call → Type 0)
    → ((p : Name) (t : ℕ) (u s : Name) (m : Grid) (k : ℕ) → has_matrix (OpenUnit u s m k) ≡ true → P (made p t (OpenUnit u s m k) ∷ []))
    → ((h : List Call) (c : Call) → Follows h c → P h → P (c ∷ h)) → (h : List Call) → IsLegal h → P h
by_legal P first next [] legal = absurd legal
by_legal P first next (c ∷ []) legal = at_opening (λ c. P (c ∷ [])) first c.person c.moment c.request legal.0 legal.1
by_legal P first next (c ∷ b ∷ h) legal =
    let parts = and_parts (not (is_opening c.request)) _ legal.0 in
    next (b ∷ h) c (record { legal = legal.2; plain = parts.0; entry = parts.1; matrix = legal.1 }) (by_legal P first next (b ∷ h) legal.2)

-- the same for the last statement: it holds when it is made, and stays
pub latest_legal : {A : Type 0} (says : Call → List Call → Option A) (P : List Call → A → Type 0)
    → ((p : Name) (t : ℕ) (u s : Name) (m : Grid) (k : ℕ) → has_matrix (OpenUnit u s m k) ≡ true → (x : A)
    → says (made p t (OpenUnit u s m k)) [] ≡ Some x → P (made p t (OpenUnit u s m k) ∷ []) x)
    → ((h : List Call) (c : Call) → Follows h c → (x : A) → says c h ≡ Some x → P (c ∷ h) x)
    → ((h : List Call) (c : Call) → Follows h c → (x : A) → P h x → P (c ∷ h) x) → (h : List Call) → IsLegal h → (x : A) → latest says h ≡ Some x
    → P h x
latest_legal {A} says P first said stays =
    by_legal (λ h. (x : A) → latest says h ≡ Some x → P h x) (λ p t u s m k shape x e. first p t u s m k shape x (sym (else_none _) ∙ e)) next where
      next : (h : List Call) (c : Call) → Follows h c → ((x : A) → latest says h ≡ Some x → P h x)
          → (x : A) → latest says (c ∷ h) ≡ Some x → P (c ∷ h) x
      next h c f rest x e =
          elim (says c h) as (λ o. says c h ≡ o → or_else o (latest says h) ≡ Some x → P (c ∷ h) x) [
            | None ↦ λ _ is. stays h c f x (rest x is)
            | Some y ↦ λ some is. said h c f x (some ∙ is)
          ] refl e
