use Rattle.plant_server.proofs.FilesLeft.{if_ok, outcome_whole}
use Rattle.plant_server.proofs.remains.close_left.Goals as goal

pub returns-clause-whole : goal.returns-clause-whole
returns-clause-whole g c w calls answers left =
    if_ok c.copy_log.result (λ files held clean. outcome_whole c.args.store files w calls answers left (held clean)) c.copy_log.ensures.copied

pub returns-clause-was_open : goal.returns-clause-was_open
returns-clause-was_open g c = if_ok c.copy_log.result (λ files held clean. let it = held clean in (it.clean, it.is_open)) c.copy_log.ensures.copied
