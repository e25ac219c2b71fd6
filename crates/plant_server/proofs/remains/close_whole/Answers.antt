use Rattle.plant_server.proofs.FilesLeft.{if_ok, whole_books}
use Rattle.plant_server.proofs.remains.close_whole.Goals as goal

pub copy_log-requires : goal.copy_log-requires
copy_log-requires g c clean = c.leave.ensures.whole clean

pub returns : goal.returns
returns g c m held = if_ok c.copy_log.result (λ files copied clean.
    let it = copied clean in
    let up = c.leave.ensures.open it.clean it.is_open in
    whole_books c.args.books.0.0 c.leave.result files c.leave.ensures.live c.leave.ensures.settled (c.leave.ensures.clean it.clean) up.0
    up.1 m held it) c.copy_log.ensures.copied
