-- The faults that a service reports.
use Rattle.std.proofs.Common.{◌≡◌, Bool, true, false, List, [], map, Option, ap, refl, subst, sym, ℕ}
use Rattle.plant_office.specs.declared.office.Faults.{Faults}
use Rattle.plant_server_clients.specs.Faults.{reported_faults}
use Rattle.plant_server_listener.specs.Connections.{Exchange, faults_of}
use Rattle.plant_server_log.{proofs.public.FaultLines.{tells_no_faults}, specs.Log.{TellsFaults}}
use Rattle.plant_server.specs.Services.{reported_in_turn}

pub none_in_turn : (reports : Bool) (written : Option (List ℕ)) → TellsFaults written (reported_in_turn reports []) written
none_in_turn true written = tells_no_faults written
none_in_turn false written = tells_no_faults written

pub none_at_once : (reports : Bool) (written : Option (List ℕ)) → TellsFaults written (reported_faults reports []) written
none_at_once true written = tells_no_faults written
none_at_once false written = tells_no_faults written

pub each_in_turn : (reports : Bool) (exchanges : List Exchange) (written written' : Option (List ℕ)) → reports ≡ true
    → TellsFaults written (map faults_of exchanges) written' → TellsFaults written (reported_in_turn reports exchanges) written'
each_in_turn true exchanges written written' is told = told
each_in_turn false exchanges written written' is told = let no : false ≡ true = is in cc

pub nothing_in_turn : (reports : Bool) (exchanges : List Exchange) (written : Option (List ℕ)) → reports ≡ false
    → TellsFaults written (reported_in_turn reports exchanges) written
nothing_in_turn true exchanges written is = let no : true ≡ false = is in cc
nothing_in_turn false exchanges written is = tells_no_faults written
