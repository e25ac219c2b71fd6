use Rattle.std.proofs.Common.{inl, inr, arith, sym, subst, ◌∙◌}
use Rattle.sqlite.specs.{Files.{file_state}, State.{HasCleanDisk}}
use Rattle.sqlite_wal.specs.Files.{image_at}
use Rattle.plant_store_migration.specs.Upgrading.{HaveOldRows}
use Rattle.plant_server.proofs.{FilesLeft.{if_ok}, Opened.{same_now}}
use Rattle.plant_server.proofs.migrations.make_from.Goals as goal

pub returns-clause-taken : goal.returns-clause-taken
returns-clause-taken g c here m is held =
    let old = file_state c.args.old in
    if_ok c.make_new.result.1 (λ files h honest.
    let then = c.make_new.ensures.read.honest honest in
    h honest (subst (HaveOldRows m) (sym (same_now (image_at g.S.Start) old c.requires.opened (c.requires.found here) then
    held.db held.database)) held.rows)) (c.make_new.ensures.taken m is)

pub returns-clause-read : goal.returns-clause-read
returns-clause-read g c here db held =
    let old = file_state c.args.old in
    record {
      shown = λ honest.
          let then = c.make_new.ensures.read.honest honest in
          c.make_new.ensures.read.same honest ∙ same_now (image_at g.S.Start) old c.requires.opened (c.requires.found here) then db held;
      left = λ clean trees may.
          let early : HasCleanDisk old = omega (arith, clean, c.make_new.ensures.read.quiet.clean) in
          elim (c.make_new.ensures.read.quiet.crash clean trees may) [
            | inl was ↦ c.note_settled.ensures trees (c.requires.opened early).0.is_open was ∙ (c.requires.found here early).holds db.trees held.trees
            | inr none ↦ absurd none
          ];
    }
