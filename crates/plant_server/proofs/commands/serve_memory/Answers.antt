use Rattle.std.proofs.Common.{refl}
use Rattle.plant_store_memory.proofs.public.Clean.{always_clean}
use Rattle.plant_server.proofs.Streamed.{served}
use Rattle.plant_server.proofs.commands.serve_memory.Goals as goal

pub returns-in-Ok : goal.returns-in-Ok
returns-in-Ok g c =
    let admin = c.args.admin in
    let store = c.serve_new-status.result.1 in
    let it = c.serve_new-status.ensures admin c.in-Ok.ensures.own.0 c.in-Ok.ensures.new in
    record {
      first = it.first;
      said = it.said;
      served = served _ _ (λ calls answers is. is.answered (always_clean store)) _ _ (λ shut. shut (always_clean store)) _ c.args.service _ it.served;
    }

pub returns-in-Err : goal.returns-in-Err
returns-in-Err g c = (
  c.in-Err.fault,
  record {
    status = c.report_unopened.ensures.status;
    unread = refl;
    written = refl;
    printed = refl;
    unlistened = refl;
    said = c.report_unopened.ensures.said;
  },
  c.in-Err.ensures.named,
)
