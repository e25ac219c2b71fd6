use Rattle.plant_server.proofs.FilesLeft.{outcomes_left}
use Rattle.plant_server.proofs.remains.leave.Goals as goal

pub returns-clause-whole : goal.returns-clause-whole
returns-clause-whole g c clean = record { numbered = c.store_of.ensures.numbered clean; sound = c.store_of.ensures.sound clean }

pub returns-clause-open : goal.returns-clause-open
returns-clause-open g c clean up =
    let kept = c.store_of.ensures.undone.kept clean in (kept.was_open up, kept.committed up)

pub returns-clause-left : goal.returns-clause-left
returns-clause-left g c w calls answers clean sound has =
    outcomes_left c.args.books.0.0 c.store_of.result (record {
      numbered = c.store_of.ensures.numbered clean;
      sound = c.store_of.ensures.sound clean;
    }) c.store_of.ensures.quiet.outcomes
    sound w calls answers has
