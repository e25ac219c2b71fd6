-- In a legal history an alarm that is not registered is not out of service.
use Rattle.std.proofs.Common.{ap, refl, sym, ◌∙◌, ◌≡◌, Bool, List, None, Option, Some, false, is_none, is_some, max, true, ℕ, ◌∷◌}
use Rattle.plant_model.specs.{Alarms.{latching, said_of_latching}, Histories.{Begins, Over, Said, latest, still, what_stands}, Legality.{IsLegal}}
use Rattle.plant_model.specs.{Rows.{alarm_row}, Service.{Outage, outage, said_of_outage}, declared.call.{Call.{Call}, Request.{Request}}}
use Rattle.plant_model.specs.declared.call.Request.TheVariants.{PlaceInService, Register, RemoveFromService}
use Rattle.plant_model.proofs.public.{Accepted.{IsEntry, latest_legal, made, unrefused}, FactLaws.{is_some-map}}
use Rattle.plant_model.proofs.public.HistoryLaws.{alarm_of, when_Some, when_same}
use Rattle.plant_types.specs.{Names.{Name, same_name}, Options.{or_else}}

pub what_is : {A : Type 0} (o : Option A) → is_some o ≡ true → (x : A) × (o ≡ Some x)
what_is None there = cc
what_is (Some x) there = (x, refl)

none_of : {A : Type 0} (o : Option A) → is_some o ≡ false → o ≡ None
none_of None e = refl
none_of (Some x) e = cc

some_of : {A : Type 0} (o : Option A) → is_none o ≡ false → is_some o ≡ true
some_of None e = sym e
some_of (Some x) e = refl

pub latched_of : (h : List Call) (a : Name) → is_some (alarm_row h a) ≡ is_some (latching h a)
latched_of h a = is_some-map (alarm_of h a) (latching h a)

-- an alarm that has a row is registered, and stays so
pub registered : (h : List Call) (a : Name) → is_none (alarm_row h a) ≡ false → is_some (latching h a) ≡ true
registered h a there = sym (latched_of h a) ∙ some_of (alarm_row h a) there

pub registered_stays : (c : Call) (h : List Call) (a : Name) → is_some (latching h a) ≡ true → is_some (latching (c ∷ h) a) ≡ true
registered_stays c h a e = elim (said_of_latching a c.request) as (λ o. is_some (or_else o (latching h a)) ≡ true) [ None ↦ e | Some l ↦ refl ]

removed_is_there : (h : List Call) (p : Name) (t : ℕ) (q : Request) (a : Name) (o : Outage) → IsEntry h (made p t q)
    → said_of_outage a p t q ≡ Some (Begins o) → is_some (latching h a) ≡ true
removed_is_there h p t (RemoveFromService u b w) a o entry e =
    ap (λ y. is_some (latching h y)) (when_same a b _ _ e) ∙ registered h b (unrefused h (made p t (RemoveFromService u b w)) entry).1.1.1.0
removed_is_there h p t (PlaceInService u b) a o entry e = let no = when_Some (same_name a b) Over (Begins o) e in cc
removed_is_there h p t _ a o entry e = cc

abbrev served : List Call → Name → Option (Said Outage)
served h a = latest (λ c before. said_of_outage a c.person c.moment c.request) h

removed_known : (h : List Call) → IsLegal h → (a : Name) (v : Said Outage) → served h a ≡ Some v → (o : Outage) → v ≡ Begins o
    → is_some (latching h a) ≡ true
removed_known h legal a =
    latest_legal (λ c before. said_of_outage a c.person c.moment c.request) (λ h v. (o : Outage) → v ≡ Begins o → is_some (latching h a) ≡ true)
    (λ p t u s m k shape v e o is. cc)
    (λ h c f v said o is. registered_stays c h a (removed_is_there h c.person c.moment c.request a o f.entry (said ∙ ap (λ v. Some v) is)))
    (λ h c f v rest o is. registered_stays c h a (rest o is)) h legal

-- an alarm that isn't registered is not out of service
pub no_outage : (h : List Call) → IsLegal h → (a : Name) → latching h a ≡ None → outage h a ≡ None
no_outage h legal a unregistered =
    elim (served h a) as (λ x. served h a ≡ x → still x ≡ None) [
      | None ↦ λ _. refl
      | Some v ↦ elim v as (λ w. served h a ≡ Some w → what_stands w ≡ None) [
        | Over ↦ λ _. refl
        | Begins o ↦ λ e. let t : true ≡ false = sym (removed_known h legal a (Begins o) e o refl) ∙ ap is_some unregistered in cc
      ]
    ] refl

-- a registration is of an alarm that was not there
pub registered_anew : (h : List Call) (p : Name) (t : ℕ) (u a : Name) (l : Bool) (max : ℕ) → IsEntry h (made p t (Register u a l max))
    → latching h a ≡ None
registered_anew h p t u a l max entry = none_of (latching h a) (sym (latched_of h a) ∙ (unrefused h (made p t (Register u a l max)) entry).1.1.1.1.0)
