use Rattle.std.proofs.Common.{Err, Ok, refl}
use Rattle.plant_server.proofs.commands.obey.Goals as goal

pub returns-in-Ok : goal.returns-in-Ok
returns-in-Ok g c = (Ok c.in-Ok.line, c.in-Ok.ensures, c.run.ensures)

pub returns-in-Err : goal.returns-in-Err
returns-in-Err g c =
    let said = c.report_command_line_error.ensures in
    (Err c.in-Err.error, c.in-Err.ensures, (tt, said.status, refl, refl, said.printed, said.said))
