use Rattle.std.proofs.Common.{[], ap, append_assoc, false, rules, sym, ◌++◌, ◌∙◌, ◌∷◌, ◌≡◌}
use Rattle.plant_books.specs.declared.books.MineUnit.{MineUnit}
use Rattle.plant_store.{specs.Mine.{put_run, runs_after, runs_of, started}, proofs.MineLines.{other_run}}
use Rattle.plant_types.specs.Names.{same_name}
use Rattle.plant_store.proofs.mine.join.Goals as goal

pub returns : goal.returns
returns c = λ rest.
    let open_unit = c.in-Some.unit in
    let line = c.args.line.now in
    let units = c.args.units.now in
    let apart : same_name open_unit.unit line.unit ≡ false = search rules in
    let runs = put_run (started line) (runs_of rest) in
    ap (λ (next : MineUnit). c.push-2.new.table ++ put_run next (runs_of rest)) c.in_ok-next.ensures
    ∙ ap (λ us. us ++ runs) c.in_ok-push-2.ensures
    ∙ append_assoc units (open_unit ∷ []) runs
    ∙ ap (λ us. units ++ us) (sym (other_run open_unit line apart (runs_of rest)))
    ∙ ap (λ o. units ++ runs_after o (line ∷ rest)) (sym c.in-Some.is)
