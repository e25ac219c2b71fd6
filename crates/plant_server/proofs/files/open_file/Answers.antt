use Rattle.std.proofs.Common.{subst, inl, inr, arith, sym, ◌∙◌}
use Rattle.sqlite.specs.{Effect.{Database}, Files.{file_state}, State.{HasCleanDisk}}
use Rattle.sqlite_wal.specs.Files.{image_at}
use Rattle.plant_store.specs.Opening.{IsThisOffice}
use Rattle.plant_server.specs.OverFiles.{place_of}
use Rattle.plant_server.proofs.Opened.{kept, same_now}
use Rattle.plant_server.proofs.files.open_file.Goals as goal

pub returns-in-Ok-open_books-clause-kept : goal.returns-in-Ok-open_books-clause-kept
returns-in-Ok-open_books-clause-kept g c here m held =
    c.in-Ok-open_books.ensures.kept m (kept (image_at g.S.Start) (file_state c.in-Ok.conn) c.in-Ok.ensures.opened (c.in-Ok.ensures.found here) m held)

pub returns-in-Ok-open_books-clause-office : goal.returns-in-Ok-open_books-clause-office
returns-in-Ok-open_books-clause-office g c here db held clean =
    subst (λ (d : Database). IsThisOffice c.args.admin d)
    (same_now (image_at g.S.Start) (file_state c.in-Ok.conn) c.in-Ok.ensures.opened (c.in-Ok.ensures.found here)
    (c.in-Ok-open_books.ensures.honest (clean, c.in-Ok-open_books.ensures.open clean)) db held)
    (c.in-Ok-open_books.ensures.office (clean, c.in-Ok-open_books.ensures.open clean))

pub returns-in-Ok-open_books-clause-crash : goal.returns-in-Ok-open_books-clause-crash
returns-in-Ok-open_books-clause-crash g c here m held clean =
    let conn = file_state c.in-Ok.conn in
    c.in-Ok-open_books.ensures.crash m (kept (image_at g.S.Start) conn c.in-Ok.ensures.opened (c.in-Ok.ensures.found here) m held) clean
    (λ early. (c.in-Ok.ensures.opened early).0.is_open)

pub returns-in-Err-clause-left : goal.returns-in-Err-clause-left
returns-in-Err-clause-left g c = c.in-Err.ensures.left c.args.admin

pub returns-in-Err-open_books-clause-left : goal.returns-in-Err-open_books-clause-left
returns-in-Err-open_books-clause-left g c =
    let was = file_state c.in-Ok.conn in
    let opened = c.in-Ok.ensures in
    let read = c.in-Err-open_books.ensures.read in
    record {
      still = λ here db held. record {
        shown = λ honest. read.same honest ∙ same_now (image_at g.S.Start) was opened.opened (opened.found here) (read.honest honest) db held;
        left = λ clean trees may.
            let early : HasCleanDisk was = omega (arith, clean, read.quiet.clean) in
            elim (read.quiet.crash clean trees may) [
              | inl left ↦ c.in-Err-open_books.ensures.settled trees (opened.opened early).0.is_open left ∙ (opened.found here early).holds db.trees held.trees
              | inr none ↦ absurd none
            ];
      };
      cause = λ here db held not_this honest own.
          c.in-Err-open_books.ensures.other not_this honest
          (subst (λ (d : Database). IsThisOffice c.args.admin d)
          (sym (same_now (image_at g.S.Start) was opened.opened (opened.found here) (read.honest honest) db held)) own);
    }
