use Rattle.std.proofs.KnownBytes.{Appends-nil}
use Rattle.plant_server.proofs.commands.close_and_say.Goals as goal

pub returns-in-Ok-clause-closed : goal.returns-in-Ok-clause-closed
returns-in-Ok-clause-closed g c = record {
  were = tt;
  clean = λ honest. (c.in-Ok.ensures.was_open honest).0;
  honest = c.in-Ok.ensures.was_open;
  leaves = c.in-Ok.ensures.whole;
}

pub returns-in-Ok-clause-said : goal.returns-in-Ok-clause-said
returns-in-Ok-clause-said g c = (0, Appends-nil _)

pub returns-in-Err-clause-closed : goal.returns-in-Err-clause-closed
returns-in-Err-clause-closed g c = record {
  were = tt;
  clean = c.in-Err.ensures.clean;
  honest = λ is. (c.in-Err.ensures.clean is.0, c.in-Err.ensures.open is.0 is.1);
  leaves = λ w calls answers left clean db may. left.databases db (c.in-Err.ensures.fewer db may);
}
