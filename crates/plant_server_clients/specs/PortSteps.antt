-- One read or write at a connection.
use Rattle.std.specs.Prelude.{◌≤◌, ℕ, List, [], ◌∷◌, length, take, Option}
use Rattle.plant_server_clients.specs.Events.{Event, Logs, came, ended, failed, left, looking, reading, writing}
use Rattle.plant_server_clients.specs.declared.ports.{Taken.{Taken}, Sent.{Sent}}
use Rattle.plant_server_clients.specs.declared.ports.Taken.TheVariants as taken
use Rattle.plant_server_clients.specs.declared.ports.Sent.TheVariants as sent

abbrev pub IsTaken : Option (List Event) → Option (List Event) → ℕ → List ℕ → Taken → Type 0
IsTaken seen seen' k buf (taken.Bytes n) = (n ≤ length buf) × Logs seen seen' (came k (take n buf) ∷ [])
IsTaken seen seen' k buf taken.Ended = Logs seen seen' (ended k ∷ [])
IsTaken seen seen' k buf taken.Nothing = Logs seen seen' (failed k looking ∷ [])
IsTaken seen seen' k buf taken.Failed = Logs seen seen' (failed k reading ∷ [])

abbrev pub IsSent : Option (List Event) → Option (List Event) → ℕ → List ℕ → Sent → Type 0
IsSent seen seen' k bytes (sent.Bytes n) = (n ≤ length bytes) × Logs seen seen' (left k (take n bytes) ∷ [])
IsSent seen seen' k bytes sent.Failed = Logs seen seen' (failed k writing ∷ [])
