-- When the ports may be waited for.
use Rattle.std.specs.Prelude.{◌≡◌, ◌⊎◌, ◌<◌, ℕ, List, [], ◌∷◌, None, length}
use Rattle.plant_wire.specs.Session.{IsIdle}
use Rattle.plant_server_clients.specs.declared.connections.Connection.{Connection}

-- nothing, or fewer bytes than are wanted
abbrev pub AreFew : List ℕ → ℕ → Type 0
AreFew unread wanted = (unread ≡ []) ⊎ (length unread < wanted)

-- A connection that is served and has no answer still to be sent surely holds no whole request: nothing is unread on
-- it, or fewer bytes than it wants. Such a connection is read again. A connection without this property would never be
-- read again.
abbrev pub IsSettled : Connection → Type 0
IsSettled l = l.end ≡ None → l.pending.text.items ≡ [] → AreFew l.unread.items l.wanted

-- such a connection holds no whole request, and this is known
abbrev pub IsPrompt : Connection → Type 0
IsPrompt l = l.end ≡ None → l.pending.text.items ≡ [] → IsIdle l.unread.items × AreFew l.unread.items l.wanted

abbrev pub ArePrompt : List Connection → Type 0
ArePrompt [] = Unit {0}
ArePrompt (l ∷ ls) = IsPrompt l × ArePrompt ls
