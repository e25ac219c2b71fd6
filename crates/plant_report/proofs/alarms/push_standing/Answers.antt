use Rattle.std.proofs.{Common.{rules, ◌∷◌, []}, lemmas.Result.{on_ok_weaker}}
use Rattle.plant_report.{specs.{Columns.{left}, Moments.{moment_text}, Texts.{state_name, priority_name, flags}}, proofs.ColumnLaws.{column_then}}
use Rattle.plant_report.proofs.alarms.push_standing.Goals as goal

pub returns : goal.returns
returns c =
    let l = c.args.line.now in
    on_ok_weaker _
    (λ last.
    column_then c.args.text.now.items c.push_left.new.text.items c.push_last.new.text.items (left 24 l.tag) (left 14 (state_name l.state))
    (left 2 (priority_name l.priority) ∷ moment_text l.since ∷ flags l.shelved l.by_design l.out_of_service ∷ []) (search rules)
    (column_then c.push_left.new.text.items c.push_left-2.new.text.items c.push_last.new.text.items (left 14 (state_name l.state))
    (left 2 (priority_name l.priority)) (moment_text l.since ∷ flags l.shelved l.by_design l.out_of_service ∷ []) (search rules)
    (column_then c.push_left-2.new.text.items c.push_left-3.new.text.items c.push_last.new.text.items (left 2 (priority_name l.priority))
    (moment_text l.since) (flags l.shelved l.by_design l.out_of_service ∷ []) (search rules)
    (column_then c.push_left-3.new.text.items c.push_moment.new.text.items c.push_last.new.text.items (moment_text l.since)
    (flags l.shelved l.by_design l.out_of_service) ([]) (search rules) (search rules)))))
    c.push_last.ensures
