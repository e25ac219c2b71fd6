use Rattle.std.proofs.{Common.{rules, ◌∷◌, [], decimal, codes}, lemmas.Result.{on_ok_weaker}}
use Rattle.plant_report.{specs.Moments.{moment_text}, proofs.ColumnLaws.{column_then}}
use Rattle.plant_report.proofs.flood_lines.push_flood_heading.Goals as goal

pub returns : goal.returns
returns c =
    on_ok_weaker _
    (λ last.
    column_then c.args.text.now.items c.push_column.new.text.items c.push_last.new.text.items (codes "FLOODS") (c.args.unit.now)
    (codes "FROM" ∷ moment_text c.args.begin ∷ codes "TO" ∷ moment_text c.args.until ∷ codes "COUNT" ∷ decimal c.args.count ∷ []) (search rules)
    (column_then c.push_column.new.text.items c.push_column-2.new.text.items c.push_last.new.text.items (c.args.unit.now) (codes "FROM")
    (moment_text c.args.begin ∷ codes "TO" ∷ moment_text c.args.until ∷ codes "COUNT" ∷ decimal c.args.count ∷ []) (search rules)
    (column_then c.push_column-2.new.text.items c.push_column-3.new.text.items c.push_last.new.text.items (codes "FROM") (moment_text c.args.begin)
    (codes "TO" ∷ moment_text c.args.until ∷ codes "COUNT" ∷ decimal c.args.count ∷ []) (search rules)
    (column_then c.push_column-3.new.text.items c.push_moment.new.text.items c.push_last.new.text.items (moment_text c.args.begin) (codes "TO")
    (moment_text c.args.until ∷ codes "COUNT" ∷ decimal c.args.count ∷ []) (search rules)
    (column_then c.push_moment.new.text.items c.push_column-4.new.text.items c.push_last.new.text.items (codes "TO") (moment_text c.args.until)
    (codes "COUNT" ∷ decimal c.args.count ∷ []) (search rules)
    (column_then c.push_column-4.new.text.items c.push_moment-2.new.text.items c.push_last.new.text.items (moment_text c.args.until) (codes "COUNT")
    (decimal c.args.count ∷ []) (search rules)
    (column_then c.push_moment-2.new.text.items c.push_column-5.new.text.items c.push_last.new.text.items (codes "COUNT") (decimal c.args.count) ([])
    (search rules) (search rules))))))))
    c.push_last.ensures
