-- Who waits, and how many calls of others are made meanwhile.
use Rattle.std.specs.Prelude.{◌≡◌, ◌≤◌, ◌<◌, ℕ, List, [], ◌∷◌, ◌++◌, length, if◌then◌else◌, nat_eq}
use Rattle.plant_wire.specs.Session.{IsIdle}
use Rattle.plant_server_clients.specs.Events.{Event, opened, came, ended, answered, broke, stopped, left, failed, closed, reported}
use Rattle.plant_server_clients.specs.{Events.{all_calls, arrivals, calls_for, marks_of, reports}, Stages.{Leads, fresh, served}}

-- The connection k waits: it is served, all its answers were sent, and what is unread is more than the beginning of a
-- request.
abbrev pub IsWaiting : ℕ → List Event → Type 0
IsWaiting k es = (unread : List ℕ) × Leads k fresh es (served unread []) × (IsIdle unread → ⊥)

-- It waited after these events and waits after those that followed, and no request of it was answered in between.
abbrev pub HasWaited : ℕ → List Event → List Event → Type 0
HasWaited k es since = IsWaiting k es × IsWaiting k (es ++ since) × (marks_of k since ≡ [])

-- Since a connection waits, at most one call was made for each other connection.
abbrev pub IsFair : List Event → Type 0
IsFair now = (es since : List Event) (k j : ℕ) → now ≡ es ++ since → (j ≡ k → ⊥) → HasWaited k es since
    → length (calls_for j since) ≤ 1

-- And at most one thing arrived meanwhile: a connection, bytes of one, or the end of one.
abbrev pub IsSteady : List Event → Type 0
IsSteady now = (es since : List Event) (k : ℕ) → now ≡ es ++ since → HasWaited k es since → length (arrivals since) ≤ 1

-- And the ports are asked at most once meanwhile: it is answered before they are asked again.
abbrev pub IsSoon : List Event → Type 0
IsSoon now = (es since : List Event) (k : ℕ) → now ≡ es ++ since → HasWaited k es since → length (reports since) ≤ 1

-- Whoever waits began to wait after the ports were asked last.
abbrev pub IsUpToDate : List Event → Type 0
IsUpToDate now = (es since : List Event) (k : ℕ) → now ≡ es ++ since → HasWaited k es since → reports since ≡ []

abbrev pub without : ℕ → List ℕ → List ℕ
without k [] = []
without k (j ∷ ks) = if nat_eq j k then without k ks else j ∷ without k ks

-- the connections that are open after an event, if these were before
abbrev pub open_with : List ℕ → Event → List ℕ
open_with ks (opened k) = k ∷ ks
open_with ks (came k bytes) = ks
open_with ks (ended k) = ks
open_with ks (answered k mark) = ks
open_with ks (broke k cause) = ks
open_with ks (stopped k last) = ks
open_with ks (left k bytes) = ks
open_with ks (failed k trial) = ks
open_with ks (closed k end) = without k ks
open_with ks (reported ready) = ks

abbrev pub open_after : List ℕ → List Event → List ℕ
open_after ks [] = ks
open_after ks (e ∷ es) = open_after (open_with ks e) es

-- Since it began to wait, fewer calls were made, over all connections, than connections were open when it began: with N
-- open, at most N - 1.
abbrev pub IsBounded : List Event → Type 0
IsBounded now = (es since : List Event) (k : ℕ) → now ≡ es ++ since → HasWaited k es since
    → length (all_calls since) < length (open_after [] es)
