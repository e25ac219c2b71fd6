-- What each connection was sent.
use Rattle.std.proofs.Common.{ℕ, List, [], None}
use Rattle.plant_model.specs.declared.{call.Call.{Call}, reply.Answer.{Answer}}
use Rattle.plant_server_clients.specs.Accounts.{AreSent, Outcome, HasOpened}
use Rattle.plant_server_clients.proofs.{Due.{due_none}, Numbers.{none_yet}, Rounds.{fair_none, heeded_none, soon_none, steady_none}, Whole.{sent_from}}

-- no connection was accepted
abbrev pub sent_none : {ran : List Call → List Answer → Type 0} {n : ℕ} {r : Outcome} → ran [] [] → HasOpened n 0 [] r → AreSent ran n r
sent_none {n = n} made stops = sent_from [] 0 [] made none_yet fair_none steady_none (due_none None) soon_none (heeded_none n) stops
