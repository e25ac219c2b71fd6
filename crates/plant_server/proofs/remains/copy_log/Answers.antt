use Rattle.std.proofs.Common.{◌≡◌, IsTrue, ap, subst, ◌∙◌, arith}
use Rattle.sqlite.specs.Closing.{HoldsAlone}
use Rattle.sqlite.proofs.Theorems.{copied}
use Rattle.sqlite_pool.proofs.StateLemmas.{clean_is, may_leave_is}
use Rattle.sqlite_store.specs.{FileStore.{state, view}, Laws.{stays_at}}
use Rattle.sqlite_trees.proofs.Doubt.{clean_of as sure, no_doubt}
use Rattle.sqlite_trees.specs.View.{IsClean, View}
use Rattle.sqlite_wal.proofs.StateLemmas.{open_from}
use Rattle.sqlite_wal.specs.{Files.{outcomes}, Reads.{AreClean}, Recovery.{Image}}
use Rattle.plant_server.proofs.remains.copy_log.Goals as goal

pub returns-in-Ok-clause-copied : goal.returns-in-Ok-clause-copied
returns-in-Ok-clause-copied g c honest =
    let back = c.args.store in
    let before = c.rollback.new.self in
    let last = c.checkpoint.new.self in
    let q = c.checkpoint.ensures.quiet in
    let stays = g.met.D.Disk.seen_may_stay in
    let sure_now = subst (λ p. AreClean g.D.Disk p.0 p.1) c.close.ensures honest in
    let none : IsClean (view last) = no_doubt _ (clean_is last.pool ∙ sure_now) in
    let clean : IsClean (view before) = omega (arith, q.clean) in
    let early : IsClean (view back) = omega (arith, c.rollback.ensures.quiet.clean) in
    let whole = c.requires early in
    let h = open_from (state before) c.in-Ok.ensures.ready (sure (view before).is_clean clean) in
    let second = c.rollback.ensures.undone.kept clean in
    let on = c.in-Ok.ensures.open none in
    let same = c.checkpoint.ensures.same on in
    let numbered : IsTrue (view last).is_numbered = ap (λ (v : View). v.is_numbered) same ∙ second.numbered ∙ whole.numbered in
    let committed : (view last).committed ≡ (view back).committed = ap (λ (v : View). v.committed) same ∙ second.committed h in
    record {
      clean = early;
      is_open = second.was_open h;
      committed = stays_at back stays (second.was_open h);
      alone = λ (image : Image) (may : outcomes g.D.Disk c.close.result.log c.close.result.db image).
          subst (HoldsAlone image) committed (copied last stays on numbered
          (λ db found. whole.sound db (c.rollback.ensures.quiet.outcomes db (q.outcomes db found)))
          (c.in-Ok.ensures.moved (c.rollback.ensures.logged (second.was_open h))) image
          (may_leave_is last.pool image sure_now (subst (λ p. outcomes g.D.Disk p.0 p.1 image) c.close.ensures may)));
    }

pub returns-in-Err-clause-clean : goal.returns-in-Err-clause-clean
returns-in-Err-clause-clean g c clean = omega (arith, clean, c.checkpoint.ensures.quiet.clean, c.rollback.ensures.quiet.clean)

pub returns-in-Err-clause-open : goal.returns-in-Err-clause-open
returns-in-Err-clause-open g c clean up =
    let early : IsClean (view c.rollback.new.self) = omega (arith, clean, c.checkpoint.ensures.quiet.clean) in
    let same = c.checkpoint.ensures.same up in
    (c.rollback.ensures.undone.kept early).was_open (subst (λ (v : View). IsTrue v.is_open) same up)

pub returns-in-Err-clause-fewer : goal.returns-in-Err-clause-fewer
returns-in-Err-clause-fewer g c db may = c.rollback.ensures.quiet.outcomes db (c.checkpoint.ensures.quiet.outcomes db may)
