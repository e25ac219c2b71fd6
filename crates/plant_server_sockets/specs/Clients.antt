-- Clients, by the numbers of their connections.
use Rattle.std.specs.Prelude.{ℕ, List, map}
use Rattle.plant_server_sockets.specs.declared.clients.Client.{Client}

abbrev pub numbers : List Client → List ℕ
numbers clients = map (λ client. client.number) clients
