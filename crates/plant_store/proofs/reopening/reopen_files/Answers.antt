use Rattle.std.proofs.Common.{IsTrue, rules}
use Rattle.plant_store.proofs.Again.{kept_again}
use Rattle.plant_store.proofs.reopening.reopen_files.Goals as goal

pub returns-in-Ok-open_files-clause-kept : goal.returns-in-Ok-open_files-clause-kept
returns-in-Ok-open_files-clause-kept g c m keeps honest =
    let quiet : IsTrue c.is_autocommit-settled.result = search rules in
    kept_again c.args.conn c.in-Ok-open_files.again c.in-Ok.files c.schema-live.ensures.live (c.is_autocommit-settled.ensures.settled quiet)
    c.in-Ok.ensures.copied (c.in-Ok-open_files.ensures.opened honest.0) (c.in-Ok-open_files.ensures.found honest.0) honest.1 m keeps
