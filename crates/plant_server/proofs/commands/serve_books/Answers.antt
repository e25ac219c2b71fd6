use Rattle.std.proofs.KnownBytes.{Appends-nil}
use Rattle.plant_server.proofs.commands.serve_books.Goals as goal

pub returns-in-Ok : goal.returns-in-Ok
returns-in-Ok g c = (g.E.Write.contents c.args.errors.now, (0, Appends-nil _), c.serve_cached.ensures)

pub returns-in-Err : goal.returns-in-Err
returns-in-Err g c = (g.E.Write.contents c.say.new.writer, c.say.ensures, c.serve_over.ensures)
