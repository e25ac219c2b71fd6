use Rattle.std.proofs.Common.{inl, inr, refl, sym, ◌∙◌}
use Rattle.sqlite_wal.specs.Files.{image_at}
use Rattle.plant_office.proofs.public.Enduring.{after_none}
use Rattle.plant_server.specs.OverFiles.{place_of}
use Rattle.plant_server.proofs.{Opened.{own_admin}, Served.{files_served}}
use Rattle.plant_server.proofs.commands.serve_file.Goals as goal

pub returns-in-Ok : goal.returns-in-Ok
returns-in-Ok g c =
    let opened = c.in-Ok.ensures in
    inr (files_served _ c.args.office.admin (place_of g.F.Located.path (image_at g.F.Start) _) c.args.office.path.now
    (λ w it. record {
      now = λ clean.
          let own = own_admin it.rows.content it.rows.books.db c.args.office.admin it.rows.books.rows (opened.office it.here it.rows.books.db it.rows.books.database clean) in
          record {
            content = it.rows.content;
            represents = (opened.own.0 ∙ sym own, opened.kept it.here it.rows.content it.rows.books);
            holds = it.rows.holds;
            legal = it.rows.legal;
          };
      after = λ is_own clean.
          let start = opened.crash it.here it.rows.content it.rows.books clean in
          after_none w it.rows.content _ (opened.own.0 ∙ sym (it.rows.holds.same_admin ∙ is_own), opened.kept it.here it.rows.content it.rows.books) it.rows.holds it.rows.legal
          start.0 start.1;
    })
    opened.office
    c.args.office.service _ _ _ (c.serve_kept.ensures c.args.office.admin))

pub returns-in-Err : goal.returns-in-Err
returns-in-Err g c = inl (
  c.in-Err.fault,
  record {
    status = c.report_unopened.ensures.status;
    unread = refl;
    written = refl;
    printed = refl;
    unlistened = refl;
    said = c.report_unopened.ensures.said;
  },
  c.in-Err.ensures.left,
)
