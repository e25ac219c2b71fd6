use Rattle.std.proofs.Common.{ap, option_map, refl, sym, ◌∙◌}
use Rattle.std.specs.FinMap.{get-empty}
use Rattle.plant_books.specs.Contents.{no_units}
use Rattle.plant_model.{specs.{Rows.{rows_of}, Worlds.{empty_world}}, proofs.public.LegalLaws.{empty_legal}}
use Rattle.plant_office.specs.Served.{Holds}
use Rattle.plant_types.specs.Names.{name_cmp}
use Rattle.plant_server.proofs.Streamed.{served}
use Rattle.plant_server.proofs.commands.serve_new.Goals as goal

pub returns : goal.returns
returns g c admin own new =
    let it = c.leave.ensures in
    let was = c.serve_files-status.ensures in
    let holds : Holds (no_units admin) (empty_world admin) = record {
      same_admin = refl;
      rows = λ u. get-empty name_cmp u ∙ sym (ap (option_map rows_of) (get-empty name_cmp u));
    } in
    record {
      first = was.0;
      said = was.1;
      served = served _ _ (λ calls answers is. record {
        answered = λ clean.
            let run = is.run (no_units admin) (own, new) (empty_world admin) (empty_legal admin) holds (it.clean clean) in
            record { answered = run.answered; isolated = run.isolated };
      }) _ _ (λ not clean up. not (it.clean clean, (it.open clean up).0)) _ c.args.service _ was.2;
    }
