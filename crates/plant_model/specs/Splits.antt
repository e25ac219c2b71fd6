-- An office that is split by unit: the world of each part, and how the answers of the parts are merged.
use Rattle.std.specs.{FinMap.{retain_keys}, Set.{sorted_merge}}
use Rattle.std.specs.Prelude.{Bool, Err, List, None, Ok, Result, Some, [], false, filter, if◌then◌else◌, max, nat_eq, not, suc, true, zero, ℕ, ◌∷◌, ◌≡◌, ◌≤◌}
use Rattle.plant_model.specs.{Verdicts.{is_opening}, Views.{names_in}, Worlds.{World, answer, answers, by_admin, next, unit_named}}
use Rattle.plant_model.specs.declared.{call.Call.{Call}, reply.{Refused.{Refused, TheVariants.{MomentBehind}}, Reply.{Reply, TheVariants.{Done, Mine, Units}}}}
use Rattle.plant_types.specs.Names.{Name, name_cmp}

-- the world of these units alone
abbrev pub only : (Name → Bool) → World → World
only units w = record { admin = w.admin; units = retain_keys w.units units }

-- the world after a list of calls
abbrev pub world_after : World → List Call → World
world_after w [] = w
world_after w (c ∷ calls) = world_after (next w c) calls

-- the calls on these units, and the answers that they get while all calls are made
abbrev pub calls_on : (Name → Bool) → List Call → List Call
calls_on units calls = filter (λ c. names_in units (unit_named c.request)) calls

abbrev pub answers_on : (Name → Bool) → World → List Call → List (Result Reply Refused)
answers_on units w [] = []
answers_on units w (c ∷ calls) = if names_in units (unit_named c.request) then
    answer w c ∷ answers_on units (next w c) calls else answers_on units (next w c) calls

-- two lists of lines merged into one, in the order of the units
abbrev pub by_unit : {A : Type 0} → (A → Name) → List A → List A → List A
by_unit unit xs ys = sorted_merge (λ x y. name_cmp (unit x) (unit y)) true xs ys

-- two lists of a person's units, or of their shelves, merged into one
abbrev pub both_lists : Reply → Reply → Reply
both_lists (Units xs) (Units ys) = Units (by_unit (λ l. l.unit) xs ys)
both_lists (Mine p t xs) (Mine q s ys) = Mine p t (by_unit (λ l. l.unit) xs ys)
both_lists x y = x

-- two refusals merged: of two last moments the later one
abbrev pub later : Refused → Refused → Refused
later (MomentBehind s) (MomentBehind t) = MomentBehind (max s t)
later x y = x

-- the answers of two parts of an office to a call that names no unit, merged: a refusal if a part refuses the call
abbrev pub merged : Result Reply Refused → Result Reply Refused → Result Reply Refused
merged (Ok x) (Ok y) = Ok (both_lists x y)
merged (Ok x) (Err r) = Err r
merged (Err r) (Ok y) = Err r
merged (Err r) (Err q) = Err (later r q)

-- the merged answers of the parts from number 0 to this number; `part` gives the part of each code
abbrev pub merged_to : ℕ → (Name → ℕ) → World → Call → Result Reply Refused
merged_to zero part w c = answer (only (λ u. nat_eq (part u) zero) w) c
merged_to (suc n) part w c = merged (merged_to n part w c) (answer (only (λ u. nat_eq (part u) (suc n)) w) c)

-- an office of these units alone answers a call on one of them as the whole office does, and afterwards has these units
-- as the whole office has them
abbrev pub PartsAnswerTheirCalls : Type 0
PartsAnswerTheirCalls =
    (units : Name → Bool) (w : World) (c : Call) → names_in units (unit_named c.request) ≡ true
    → (answer (only units w) c ≡ answer w c) × (next (only units w) c ≡ only units (next w c))

-- no other call changes anything in these units
abbrev pub OtherCallsChangeNoPart : Type 0
OtherCallsChangeNoPart =
    (units : Name → Bool) (w : World) (c : Call) → names_in units (unit_named c.request) ≡ false
    → only units (next w c) ≡ only units w

-- so whatever is called, an office of these units alone that gets the calls on them answers them as the whole office
-- does, and afterwards has these units as the whole office has them
abbrev pub PartsRunAsTheWhole : Type 0
PartsRunAsTheWhole =
    (units : Name → Bool) (w : World) (calls : List Call)
    → (answers (only units w) (calls_on units calls) ≡ answers_on units w calls)
    × (world_after (only units w) (calls_on units calls) ≡ only units (world_after w calls))

-- so it makes no difference what else an office holds: two offices that are the same in these units answer the calls on
-- them alike, and are the same in them afterwards
abbrev pub OtherUnitsMakeNoDifference : Type 0
OtherUnitsMakeNoDifference =
    (units : Name → Bool) (w v : World) (c : Call) → only units w ≡ only units v
    → names_in units (unit_named c.request) ≡ true
    → (answer w c ≡ answer v c) × (only units (next w c) ≡ only units (next v c))

-- the answer to a call that names no unit is the merged answer of the parts: of two, and of any number
abbrev pub ListsAreMerged : Type 0
ListsAreMerged =
    (units : Name → Bool) (w : World) (c : Call) → unit_named c.request ≡ None
    → answer w c ≡ merged (answer (only units w) c) (answer (only (λ u. not (units u)) w) c)

abbrev pub ListsAreMergedOfMany : Type 0
ListsAreMergedOfMany =
    (n : ℕ) (part : Name → ℕ) (w : World) (c : Call) → ((u : Name) → part u ≤ n) → unit_named c.request ≡ None
    → answer w c ≡ merged_to n part w c

-- an office of other units does not know which codes are taken here: it accepts the opening of any of these codes again
abbrev pub OnlyAPartKnowsItsCodes : Type 0
OnlyAPartKnowsItsCodes =
    (units : Name → Bool) (w : World) (c : Call) (u : Name) → unit_named c.request ≡ Some u → units u ≡ false
    → is_opening c.request ≡ true → by_admin w c ≡ true → answer (only units w) c ≡ Ok Done
