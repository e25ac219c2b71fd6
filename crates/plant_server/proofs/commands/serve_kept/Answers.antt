use Rattle.plant_server.proofs.Served.{served_files}
use Rattle.plant_server.proofs.commands.serve_kept.Goals as goal

pub close_and_say-left-requires : goal.close_and_say-left-requires
close_and_say-left-requires g c = c.leave.ensures.whole

pub returns : goal.returns
returns g c admin =
    let it = c.leave.ensures in
    let was = c.serve_files-status.ensures in
    served_files _ _ admin _ _ c.leave.result c.close_and_say-left.result c.close_and_say-left.ensures.closed it.clean
    (λ clean up. (it.clean clean, (it.open clean up).0)) it.left c.args.service _ _ was.0 _ was.1 c.close_and_say-left.ensures.said was.2
