use Rattle.std.proofs.Common.{◌∙◌, ap, arith, fold, map, max}
use Rattle.plant_books.specs.declared.books.MineUnit.{MineUnit}
use Rattle.plant_model.specs.{Verdicts.{is_read}, Worlds.{unit_named}}
use Rattle.plant_office.{proofs.Serving.{asks_then, behind_units, leaves, serves_same, told_shelves}}
use Rattle.plant_office.proofs.office.Office.my_shelves.Goals as goal

pub returns-then-seconds : goal.returns-then-seconds
returns-then-seconds g c =
    let call = c.args.call.now in
    record {
      serves = serves_same (λ m k w legal h honest.
          leaves w call _ m (g.B.Books.represents c.mine_units.new.self) legal c.note_matrix.ensures
          (behind_units m w call c.in_ok-units.units c.latest-last.result h (ap unit_named c.requires) (c.in_ok-units.ensures.found m k honest)
          (c.latest-last.ensures ∙ ap (λ xs. fold max c.args.call.now.moment (map (λ (u : MineUnit). u.last) xs)) c.as_slice.ensures)
          (omega (arith, c.seconds.ensures.value, c.seconds-2.ensures.value, c.if-seconds.true)))
          (c.in_ok-units.ensures.unchanged.same m k))
          c.in_ok-units.ensures.unchanged tt;
    }

pub returns : goal.returns
returns g c =
    let call = c.args.call.now in
    record {
      serves = serves_same (λ m k w legal h honest.
          let mid = c.in_ok-units.ensures.unchanged.same m k in
          let early = c.in_ok-shelves.ensures.unchanged.honest honest in
          leaves w call _ m (g.B.Books.represents c.mine_shelves.new.self) legal c.note_matrix.ensures
          (told_shelves m w call c.in_ok-units.units c.latest-last.result c.in_ok-shelves.shelves c.in_ok-lines.lines c.in_ok-person.person h
          c.requires (c.in_ok-units.ensures.found m k early)
          (c.latest-last.ensures ∙ ap (λ xs. fold max c.args.call.now.moment (map (λ (u : MineUnit). u.last) xs)) c.as_slice.ensures)
          (c.in_ok-shelves.ensures.found m mid honest) c.in_ok-lines.ensures.value (omega (arith, c.seconds.ensures.value, c.seconds-2.ensures.value, c.if-seconds.false))
          c.in_ok-person.ensures.value)
          (c.in_ok-shelves.ensures.unchanged.same m mid))
          (asks_then g.B.Books c.in_ok-units.ensures.unchanged c.in_ok-shelves.ensures.unchanged) (ap is_read c.requires);
    }
