-- What a plant may rely on: the six promises of the README, in its order and words. The first record is about the calls,
-- however they came; the second is about a port, with `--db PATH --port N`; the third about the streams, with `--db PATH`.
-- The premises: `WereServed`, files were opened and served; `Begins`, the file held the rows of this world as it was opened;
-- `IsCleanAfter`, the disk has returned what was written. `promises_are_kept` derives all from `IsKept`.
use Rattle.std.specs.Prelude.{◌≡◌, ◌⊎◌, ℕ, Bool, true, List, [], ◌∷◌, None, Ok, Option, Result, Some, string_bytes}
use Rattle.sqlite_disk.specs.declared.Disk.{Ghosts}
use Rattle.sqlite_store.specs.declared.store.FileStore.{FileStore}
use Rattle.plant_model.specs.{Splits.{only}, Views.{names_in}, Worlds.{World, unit_named}, declared.{call.Call.{Call}, reply.Answer.{Answer}}}
use Rattle.plant_office.specs.{Outcomes.{AreMade, confirms, is_fault}, Runs.{AreAnswers, AreIsolated}}
use Rattle.plant_server_clients.specs.{Accounts.{AtEachMoment, IsAnsweredFor}, Causes.{AreCaused}, Events.{Event, Logs, all_answers, all_calls, at_ports}, Fairness.{IsBounded, IsFair, IsSoon, IsSteady}, Heeded.{AreHeeded}, Order.{IsInOrder}}
use Rattle.plant_server_options.specs.declared.words.{Service.{Service}, Task.TheVariants.{Serve}}
use Rattle.plant_server.specs.{Crashes.{LeavesOutcomes}, Nets.{HasListened, Nets}, OverFiles.{Begins, IsCleanAfter, LeavesAfter, Place, WereServed}, Promise.{IsKept}, Services.{IsStreamed, is_at_once}, Streams.{Bytes, Streams, within}, declared.{remains.Left.{Left}, statuses.ExitStatus.{ExitStatus}}}
use Rattle.plant_types.specs.Names.{Name}

-- a change was confirmed by its answer, or its answer was a fault: it was not refused, and the call does not only ask
abbrev pub IsMadeFor : Call → List Call → List Answer → Type 0
IsMadeFor c (d ∷ calls) (a ∷ answers) = ((d ≡ c) × ((confirms d a ≡ true) ⊎ (is_fault a ≡ true))) ⊎ IsMadeFor c calls answers
IsMadeFor c (d ∷ calls) [] = ⊥
IsMadeFor c [] answers = ⊥

abbrev pub AreMadeFor : List Call → List Call → List Answer → Type 0
AreMadeFor [] calls answers = Unit {0}
AreMadeFor (c ∷ made) calls answers = IsMadeFor c calls answers × AreMadeFor made calls answers

-- all calls are on these units
abbrev pub AreOn : (Name → Bool) → List Call → Type 0
AreOn units [] = Unit {0}
AreOn units (c ∷ calls) = (names_in units (unit_named c.request) ≡ true) × AreOn units calls

module _ {D N F : Type 0} {g : Ghosts D} where
  pub record CallPromises (place : Place D) (path : List ℕ) (admin : Name) (after : Left D N F g) (store : FileStore D g)
      (calls : List Call) (answers : List Answer) : Type 0 where
    -- 1. Each call is answered as the world answers it that the calls before it left.
    pub answered : (w : World) → Begins place path w → IsCleanAfter after → AreAnswers w calls answers
    -- 2. The answer would be the same in any world that looks the same to its caller.
    pub apart : (w : World) → Begins place path w → IsCleanAfter after → AreIsolated w calls answers
    -- 3. No call that was refused, or that only asks, is among those that changed something (4).
    pub unchanged : (made : List Call) → AreMade calls answers made → AreMadeFor made calls answers
    -- 4. Whatever a crash leaves, at any time, holds the rows after the confirmed calls, or after these and one in doubt.
    pub lasting : (w : World) → Begins place path w → w.admin ≡ admin → IsCleanAfter after
        → LeavesOutcomes store w calls answers × LeavesAfter after w calls answers
    -- 6. If the office began as these units of another, and is asked of these alone, it answers as the other would.
    pub split : (units : Name → Bool) (v : World) → Begins place path (only units v) → IsCleanAfter after
        → AreOn units calls → AreAnswers v calls answers

  -- What happened at all connections is one list of events, and it is what the port shows.
  pub record PortPromises (place : Place D) (path : List ℕ) (admin : Name) (service : Service) (nets : Nets) (after : Left D N F g) : Type 0 where
    pub events : List Event
    pub listened : HasListened service nets
    pub shown : Logs nets.before.log nets.after.log (at_ports events)
    pub store : FileStore D g
    pub calls : CallPromises place path admin after store (all_calls events) (all_answers events)
    -- 1. Each connection was sent the answers to its own requests, in their order, and no other byte.
    pub sent : (k : ℕ) → AtEachMoment (IsAnsweredFor k) events
    -- 5. While a connection waits, at most one call is served for each other, fewer than are open in all, and the port is asked
    -- at most once. What it reports is tried at once. One is given up only for a cause. What is done is seen by who asks next.
    pub fair : AtEachMoment IsFair events × AtEachMoment IsBounded events × AtEachMoment IsSteady events × AtEachMoment IsSoon events
    pub heeded : AreHeeded service.connections events
    pub caused : AreCaused None events
    pub in_order : IsInOrder events

  -- One session: its calls are those that the bytes read ask for, and the bytes written are their answers.
  pub record StreamPromises (place : Place D) (path : List ℕ) (admin : Name) (s : Streams) (n : ExitStatus) (after : Left D N F g) : Type 0 where
    pub first : Bytes
    pub last : Bytes
    pub store : FileStore D g
    pub session : IsStreamed (CallPromises place path admin after store) (within s first last) n

  abbrev pub AllPromises : Place D → List ℕ → Name → Option Service → Streams → ExitStatus → Left D N F g → Type 0
  AllPromises place path admin None s n after = StreamPromises place path admin s n after
  AllPromises place path admin (Some service) s n after = is_at_once service ≡ true → PortPromises place path admin service s.nets after

-- They are kept by a command whose words were read as: serve this file for this administrator, in this way.
abbrev pub KeepsPromises : {D N E : Type 0} → (F : Type 0) → (g : Ghosts D) → Ghosts N → Place D → (List ℕ → Result ℕ E → Type 0)
    → (List ℕ → Result ℕ E → Type 0) → Type 0
KeepsPromises {D} {N} F g h place gives_port gives =
    (words : List (List ℕ)) (s : Streams) (number : ℕ) (after : Left D N F g) (kept : IsKept gives_port gives h place words s number after)
    (admin : Name) (path : _) (service : Option Service) → kept.line ≡ Ok (record { admin = admin; task = Serve (Some path) service })
    → WereServed after → AllPromises place (string_bytes path) admin service s kept.status after
