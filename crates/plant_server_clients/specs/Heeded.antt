-- What the ports report is tried at once: a connection that came is accepted, one that can be read is read, and one that
-- takes bytes is sent what waits for it.
use Rattle.std.specs.Prelude.{◌≡◌, ◌≢◌, ◌⊎◌, ◌<◌, ℕ, List, [], ◌∷◌, ◌++◌}
use Rattle.plant_wire.specs.declared.reads.End.{End}
use Rattle.plant_server_clients.specs.Events.{Event, accepting, came, ended, failed, looking, opened, reading, reported}
use Rattle.plant_server_clients.specs.{Causes.{OffersTo}, Stages.{Leads, Stage, ending, fresh, gone, served}}
use Rattle.plant_server_clients.specs.declared.ports.Ready.{Ready}
use Rattle.plant_server_clients.specs.declared.ports.Ready.TheVariants as ready

-- the first of these events is such a one
abbrev pub Starts : (Event → Type 0) → List Event → Type 0
Starts P [] = ⊥
Starts P (e ∷ es) = P e

-- a connection was accepted, or that failed
abbrev pub IsOpening : Event → Type 0
IsOpening e = (k : ℕ) × ((e ≡ opened k) ⊎ (e ≡ failed k accepting))

-- bytes of the connection k were read, or their end; or the read failed, or found nothing
abbrev pub IsReading : ℕ → Event → Type 0
IsReading k e = ((bytes : List ℕ) × (e ≡ came k bytes)) ⊎ ((e ≡ ended k) ⊎ ((e ≡ failed k reading) ⊎ (e ≡ failed k looking)))

-- what is still to be sent of a connection at a stage
abbrev pub pending_at : Stage → List ℕ
pending_at fresh = []
pending_at (served unread pending) = pending
pending_at (ending end pending) = pending
pending_at gone = []

-- What a report asks for is the first thing that happens after it, if it can be done. `at` says at which stage each
-- connection is. A connection can be accepted while fewer than n were; it can be read if nothing of it is unread and
-- nothing is still to be sent; it can be sent what is still to be sent.
abbrev pub Heeds : ℕ → (ℕ → Stage → Type 0) → Ready → List Event → Type 0
Heeds n at ready.Came es = (k : ℕ) → k < n → at k fresh → Starts IsOpening es
Heeds n at (ready.Readable k) es = at k (served [] []) → Starts (IsReading k) es
Heeds n at (ready.Writable k) es = (stage : Stage) → at k stage → pending_at stage ≢ [] → OffersTo k es
Heeds n at (ready.Expired k) es = Unit {0}
Heeds n at ready.Nothing es = Unit {0}
Heeds n at ready.Failed es = Unit {0}

-- each report is heeded
abbrev pub AreHeeded : ℕ → List Event → Type 0
AreHeeded n now = (es fs : List Event) (what : Ready) → now ≡ es ++ reported what ∷ fs
    → Heeds n (λ k stage. Leads k fresh es stage) what fs
