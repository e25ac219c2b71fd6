use Rattle.std.proofs.Common.{ap, refl, subst, sym, true, ◌∙◌, ◌≡◌, option_to_list, IfOk}
use Rattle.plant_books.{specs.Asking.{is_wanted}, proofs.PassingLaws.{none_passes, passing_as, passing_every}}
use Rattle.plant_types.{specs.Names.{name_cmp}, proofs.public.{Orders.{name_total, same_names}, SortedLaws.{one_passes, ordered, same_ties}}}
use Rattle.plant_books.proofs.found.rows_wanted.Goals as goal

pub returns-in-Nothing-clause-value : goal.returns-in-Nothing-clause-value
returns-in-Nothing-clause-value g c = c.new.ensures
    ∙ sym (none_passes (λ r. ap (λ w. is_wanted w (g.T.Keyed.key r)) c.in-Nothing.is) c.args.rows.now)

pub returns-in-One-clause-value : goal.returns-in-One-clause-value
returns-in-One-clause-value g c =
    let R = g.T.Keyed.order in
    let key = g.T.Keyed.key in
    let tag = c.in-One.tag.now in
    let rows = c.args.rows.now in
    subst (λ xs. IfOk c.one_copy.result (λ found. found ≡ xs))
    (ap option_to_list c.get.ensures ∙ sym (one_passes R key g.met.T.Keyed.total g.met.T.Keyed.only tag rows (ordered R key rows c.as_slice-rows.ensures.order))
    ∙ passing_as (λ r. same_ties R name_cmp g.met.T.Keyed.total g.met.T.Keyed.only name_total same_names tag (key r)) rows
    ∙ sym (passing_as (λ r. ap (λ w. is_wanted w (key r)) c.in-One.is) rows))
    c.one_copy.ensures.value

pub returns-in-Every-clause-value : goal.returns-in-Every-clause-value
returns-in-Every-clause-value g c =
    subst (λ xs. IfOk c.copy.result (λ found. found ≡ xs))
    (sym (passing_every true c.args.rows.now refl) ∙ sym (passing_as (λ r. ap (λ w. is_wanted w (g.T.Keyed.key r)) c.in-Every.is) c.args.rows.now))
    c.copy.ensures.value
