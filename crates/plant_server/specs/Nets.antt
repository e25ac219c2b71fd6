-- What a net shows: where it listens, and what comes and goes over its connections.
use Rattle.std.specs.Prelude.{◌≡◌, ◌⊎◌, ◌+◌, Bool, IsTrue, true, List, ℕ, length}
use Rattle.plant_server_clients.specs.Events.{Log}
use Rattle.plant_server_listener.specs.Connections.{AreSeen, Exchange, Traffic}
use Rattle.plant_server_options.specs.declared.words.Service.{Service}
use Rattle.plant_server.specs.declared.nets.Standing.{Standing}
use Rattle.plant_server.specs.declared.nets.Standing.TheVariants as standing

-- Of connections that come one after the other: whether they are shown, how many were accepted,
-- how often accepting failed, and what came and went over each.
pub record Turns : Type 0 where
  pub is_seen : Bool
  pub accepted : ℕ
  pub failures : ℕ
  pub traffic : Traffic

-- Where a net listens; whether its connections are lent, so that it can't listen again; what it shows of connections in
-- turn; and what happened at those that are served many at once, or `None`, which claims nothing.
pub record NetState : Type 0 where
  pub standing : Standing
  pub is_lent : Bool
  pub turns : Turns
  pub log : Log

-- a net before and after
pub record Nets : Type 0 where
  pub before : NetState
  pub after : NetState

abbrev pub nets_of : NetState → NetState → Nets
nets_of before after = record { before = before; after = after }

abbrev pub shown : Bool → ℕ → ℕ → Traffic → Turns
shown is_seen accepted failures traffic =
    record { is_seen = is_seen; accepted = accepted; failures = failures; traffic = traffic }

-- it listens for this service, at this number, and its connections are lent
abbrev pub lent : Service → ℕ → NetState → NetState
lent service number s = record s { standing = standing.Listens service number; is_lent = true }

-- listening was refused
abbrev pub refused : NetState → NetState
refused s = record s { standing = standing.Refused }

-- the number is the one that was asked for, or any if that is 0
abbrev pub IsAsAsked : ℕ → ℕ → Type 0
IsAsAsked asked number = (asked ≡ 0) ⊎ (number ≡ asked)

-- it listens for this service, at its number
abbrev pub ListensFor : Service → Standing → Type 0
ListensFor service now = (number : ℕ) × (now ≡ standing.Listens service number) × IsAsAsked service.port number

-- It listened for this service, or that was refused; and the connections that it lent were given back.
pub record HasListened (service : Service) (nets : Nets) : Type 0 where
  pub listens : (nets.after.standing ≡ standing.Refused) ⊎ ListensFor service nets.after.standing
  pub back : nets.after.is_lent ≡ nets.before.is_lent

-- The exchanges are those over the connections that came in turn, each over its own; none, if listening was refused.
abbrev pub AreOverNet : List Exchange → Nets → Type 0
AreOverNet exchanges nets = ((length exchanges ≡ 0) × (nets.after.standing ≡ standing.Refused))
    ⊎ ((nets.after.turns.accepted ≡ nets.before.turns.accepted + length exchanges)
    × (IsTrue nets.before.turns.is_seen → AreSeen nets.after.turns.traffic nets.before.turns.accepted exchanges))
