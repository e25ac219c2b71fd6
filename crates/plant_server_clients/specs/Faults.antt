-- Which kinds of fault are reported: of each connection those that its calls were answered, each kind once.
use Rattle.std.specs.Prelude.{◌≡◌, ◌≤◌, ◌++◌, ◌∷◌, [], Bool, false, true, IfSome, if◌then◌else◌, List, Option, ℕ}
use Rattle.plant_server_log.specs.Log.{TellsFaults}
use Rattle.plant_office.specs.{Faults.{faults_in, no_faults, without}, declared.office.Faults.{Faults}}
use Rattle.plant_server_clients.specs.{Events.{Event, answers_for, answers_in, who}, Happens.{ServiceState}, Stages.{connection_with}}
use Rattle.plant_server_clients.specs.declared.connections.Connection.{Connection}

-- the connection, with these faults noted as reported
abbrev pub reporting : Connection → Faults → Connection
reporting connection faults = record connection { faults = faults }

-- the kinds of fault that the call of an event was answered, and no call of its connection was before
abbrev pub new_faults : List Event → Event → Faults
new_faults past e = without (faults_in (answers_in e)) (faults_in (answers_for (who e) past))

-- those of each event, the latest first, after the events of the past
abbrev pub told_faults : List Event → List Event → List Faults
told_faults past [] = []
told_faults past (e ∷ es) = told_faults (past ++ e ∷ []) es ++ new_faults past e ∷ []

-- those that a service reports, if it reports any
abbrev pub reported_faults : Bool → List Event → List Faults
reported_faults reports events = if reports then told_faults [] events else []

-- before a turn, no fault is left to be reported
abbrev pub IsClear : Bool → Faults → Type 0
IsClear reports faults = reports ≡ true → faults ≡ no_faults

-- Each open connection has noted the kinds of fault that its calls were answered, and of those that are to come no call
-- was made.
pub record AreNoted (past : List Event) (count : ℕ) (connections : List Connection) : Type 0 where
  pub each : (k : ℕ) → IfSome (connection_with k connections) (λ l. l.faults ≡ faults_in (answers_for k past))
  pub none : (k : ℕ) → count ≤ k → answers_for k past ≡ []

-- what was noted is noted still
abbrev pub StayNoted : ServiceState → ServiceState → Type 0
StayNoted before after = (past : List Event) → AreNoted past before.count before.connections
    → AreNoted past after.count after.connections

-- From one state of the service to another, with these events. If it reports faults: whatever happened before, the new
-- kinds were reported and noted. If not, nothing was written.
pub record TellsIf (reports : Bool) (before after : ServiceState) (events : List Event)
    (written written_after : Option (List ℕ)) : Type 0 where
  pub told : reports ≡ true → (past : List Event) → AreNoted past before.count before.connections
      → AreNoted (past ++ events) after.count after.connections × TellsFaults written (told_faults past events) written_after
  pub quiet : reports ≡ false → written_after ≡ written
