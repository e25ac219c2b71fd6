use Rattle.std.proofs.Common.{option_copied}
use Rattle.std.proofs.lemmas.Result.{err_from_is_err_and}
use Rattle.plant_server_options.proofs.words.command_line_from.Goals as goal

pub returns-in_err-admin-clause-refused : goal.returns-in_err-admin-clause-refused
returns-in_err-admin-clause-refused c =
    let p = err_from_is_err_and c.from_residual.result c.from_residual.ensures.1 in
    rw (p.1, p.2) (c.in_err-admin.ensures.refused (option_copied c.args.old) (option_copied c.args.db))
