use Rattle.std.proofs.Common.{sym}
use Rattle.plant_server.proofs.commands.serve_over.Goals as goal

pub returns : goal.returns
returns g c = rw (c.new-office.ensures.books, sym c.into_books-left.ensures) at c.serve_office-status.ensures
