-- How the turns of connections keep what a connection waits for small: within a turn of all connections, from the last
-- connection to the first, those from a bound on have had theirs.
use Rattle.std.specs.Prelude.{◌≡◌, ◌≤◌, ◌<◌, ℕ, zero, suc, List, [], ◌∷◌, ◌++◌, length, map, None, Option}
use Rattle.plant_server_clients.specs.{Accounts.{AtEachMoment}, Causes.{AreDue, last_of}, Events.{Event, arrivals, calls_for}}
use Rattle.plant_server_clients.specs.Fairness.{HasWaited, IsFair, IsSteady}
use Rattle.plant_server_clients.specs.Stages.{Leads, Stage, fresh}
use Rattle.plant_server_clients.specs.declared.connections.Connection.{Connection}

-- the connections' numbers
abbrev pub numbers : List Connection → List ℕ
numbers ls = map (λ l. l.number) ls

-- all are greater
abbrev pub IsBelow : ℕ → List ℕ → Type 0
IsBelow n [] = Unit {0}
IsBelow n (m ∷ ms) = (n < m) × IsBelow n ms

abbrev pub AreRising : List ℕ → Type 0
AreRising [] = Unit {0}
AreRising (n ∷ ns) = IsBelow n ns × AreRising ns

-- the numbers before this place are below the bound, and the others are not
abbrev pub Splits : ℕ → ℕ → List ℕ → Type 0
Splits bound at [] = Unit {0}
Splits bound zero (n ∷ ns) = (bound ≤ n) × Splits bound zero ns
Splits bound (suc at) (n ∷ ns) = (n < bound) × Splits bound at ns

-- How many calls were made for the connection j since k waits, if the connections from the bound on have had their
-- turn: at most one. None, if j comes after k and neither has had its turn; if k has had its turn, and waits since
-- then, and j has not; or if j had its turn before k.
pub record Owes (bound k j n : ℕ) : Type 0 where
  pub one : n ≤ 1
  pub between : k < j → j < bound → n ≡ 0
  pub early : bound ≤ k → j < bound → n ≡ 0
  pub above : bound ≤ k → k < j → n ≡ 0

abbrev pub IsPaced : ℕ → List Event → Type 0
IsPaced bound now = (es since : List Event) (k j : ℕ) → now ≡ es ++ since → (j ≡ k → ⊥) → HasWaited k es since
    → Owes bound k j (length (calls_for j since))

-- how many things came since k waits: at most one, and none if k had its turn
pub record Came (bound k n : ℕ) : Type 0 where
  pub one : n ≤ 1
  pub none : bound ≤ k → n ≡ 0

abbrev pub IsStill : ℕ → List Event → Type 0
IsStill bound now = (es since : List Event) (k : ℕ) → now ≡ es ++ since → HasWaited k es since → Came bound k (length (arrivals since))

pub record AreKept (bound : ℕ) (events : List Event) : Type 0 where
  pub paced : IsPaced bound events
  pub still : IsStill bound events
  pub fair : AtEachMoment IsFair events
  pub steady : AtEachMoment IsSteady events
  pub due : AreDue None events

-- Whatever happened before, if it led each connection to its stage and `given` is true of the last event: these further
-- events carry the turns from one bound to the other.
abbrev pub Keeps : (Option Event → Type 0) → ℕ → ℕ → (ℕ → Stage) → List Event → Type 0
Keeps given from to stages events = (es : List Event) → given (last_of None es) → ((k : ℕ) → Leads k fresh es (stages k))
    → AreKept from es → AreKept to (es ++ events)
