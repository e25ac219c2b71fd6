-- A unit's history: the list of its accepted changing calls, the newest first.
use Rattle.std.specs.{Ordering.{eq_by_cmp, nat_cmp}, Prelude.{if◌then◌else◌, ◌+◌, Bool, List, None, Option, Some, [], false, true, ℕ, ◌++◌, ◌∷◌}}
use Rattle.plant_model.specs.declared.call.Call.{Call}
use Rattle.plant_types.specs.Options.{or_else, when}

-- what the newest entry states that states something; `says` sees each entry with those before it
abbrev pub latest : {A : Type 0} → (Call → List Call → Option A) → List Call → Option A
latest says [] = None
latest says (c ∷ before) = or_else (says c before) (latest says before)

-- what an entry states about a thing: that it stands from now on, or that it is over
pub data Said (A : Type 0) : Type 0 where
  Begins : A → Said A
  Over : Said A

abbrev pub what_stands : {A : Type 0} → Said A → Option A
what_stands (Begins x) = Some x
what_stands Over = None

-- a statement says that a thing, whose key passes the test, stands from now on
abbrev pub begins : {K A : Type 0} → (K → Bool) → Option (K × Said A) → Bool
begins test None = false
begins test (Some (k, Begins x)) = test k
begins test (Some (k, Over)) = false

-- the same statement about what a function makes of the thing
abbrev pub said_as : {A B : Type 0} → (A → B) → Said A → Said B
said_as make (Begins x) = Begins (make x)
said_as make Over = Over

-- what still stands, by the last statement about it
abbrev pub still : {A : Type 0} → Option (Said A) → Option A
still None = None
still (Some said) = what_stands said

-- the statement, if it is about this key
abbrev pub of_key : {K A : Type 0} → (K → K → Bool) → K → Option (K × A) → Option A
of_key same k None = None
of_key same k (Some e) = when (same k e.0) e.1

-- the value, if any, passes the test
abbrev pub passes : {A : Type 0} → (A → Bool) → Option A → Bool
passes test None = true
passes test (Some x) = test x

-- how many entries pass the test
abbrev pub counted : (Call → List Call → Bool) → List Call → ℕ
counted test [] = 0
counted test (c ∷ before) = if test c before then counted test before + 1 else counted test before

-- what all entries name, the newest first
abbrev pub all_named : {K : Type 0} → (Call → List Call → List K) → List Call → List K
all_named names [] = []
all_named names (c ∷ before) = names c before ++ all_named names before

-- the moment of the last entry
abbrev pub last_moment : List Call → ℕ
last_moment [] = 0
last_moment (c ∷ before) = c.moment

abbrev pub same_number : ℕ → ℕ → Bool
same_number m n = eq_by_cmp nat_cmp m n
