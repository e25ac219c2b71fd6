use Rattle.std.proofs.{Common.{rules, ◌∷◌, [], decimal}, lemmas.Result.{on_ok_weaker}}
use Rattle.plant_report.{specs.{Columns.{left, right}, Moments.{moment_text}, Texts.{shelf_kind}}, proofs.ColumnLaws.{column_then}}
use Rattle.plant_report.proofs.shelves.push_shelf.Goals as goal

pub returns : goal.returns
returns c =
    let l = c.args.line.now in
    on_ok_weaker _
    (λ last.
    column_then c.args.text.now.items c.push_left.new.text.items c.push_last.new.text.items (left 24 l.tag) (left 8 (shelf_kind l.one_shot))
    (moment_text l.start ∷ right 6 (decimal l.left) ∷ left 32 l.person ∷ l.words ∷ []) (search rules)
    (column_then c.push_left.new.text.items c.push_left-2.new.text.items c.push_last.new.text.items (left 8 (shelf_kind l.one_shot))
    (moment_text l.start) (right 6 (decimal l.left) ∷ left 32 l.person ∷ l.words ∷ []) (search rules)
    (column_then c.push_left-2.new.text.items c.push_moment.new.text.items c.push_last.new.text.items (moment_text l.start) (right 6 (decimal l.left))
    (left 32 l.person ∷ l.words ∷ []) (search rules)
    (column_then c.push_moment.new.text.items c.push_right.new.text.items c.push_last.new.text.items (right 6 (decimal l.left)) (left 32 l.person)
    (l.words ∷ []) (search rules)
    (column_then c.push_right.new.text.items c.push_left-3.new.text.items c.push_last.new.text.items (left 32 l.person) (l.words) ([]) (search rules)
    (search rules))))))
    c.push_last.ensures
