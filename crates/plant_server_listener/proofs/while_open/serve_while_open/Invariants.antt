use Rattle.std.proofs.Common.{◌≡◌, map}
use Rattle.plant_office.specs.Faults.{no_faults}
use Rattle.plant_server_log.specs.Log.{TellsFaults}
use Rattle.plant_server_listener.{specs.Connections.{faults_of}, proofs.Serving.{ServedSoFar, state_of}}
use Rattle.plant_server_listener.proofs.while_open.serve_while_open.Given as goal

abbrev pub invariant-connections : goal.invariant-connections
invariant-connections g l =
    (so_far : ServedSoFar g.B.Books l.fn.office.books l.office.books (g.W.Write.contents l.fn.log) (g.W.Write.contents l.log)
    (state_of g.L.Listener l.fn.listener) (state_of g.L.Listener l.listener) l.count)
    × TellsFaults (g.E.Write.contents l.fn.errors) (map faults_of so_far.exchanges) (g.E.Write.contents l.errors)
    × (l.office.faults ≡ no_faults)
