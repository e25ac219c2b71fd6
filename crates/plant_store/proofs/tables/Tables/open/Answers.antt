use Rattle.std.proofs.Common.{IsTrue, ap, not, rules, subst, ◌∙◌}
use Rattle.plant_store.proofs.public.Leaving.{settled_alike_read}
use Rattle.sqlite.specs.Held.{state}
use Rattle.plant_store.{specs.Opening.{IsThisOffice}, proofs.OfficeRow.{is_this_office}}
use Rattle.plant_store.proofs.tables.Tables.open.Goals.{in-Ok-false, in-Err}
use Rattle.plant_store.proofs.tables.Tables.open.Goals as goal

pub returns-clause-own : goal.returns-clause-own
returns-clause-own g c m keeps same honest e =
    let this =
    subst (λ a. IsThisOffice a (state g.S.Store c.args.conn).now) same
    (is_this_office (state g.S.Store c.args.conn) m (keeps (c.is_office_of.ensures.reads.honest honest))) in
    elim c.match-is_office_of.branch [
      | in-Ok-false w ↦ let fits = (w.in-Ok-false.ensures.row honest).1 this in
          search rules
      | in-Err w ↦ search rules
    ]

pub returns-in-Ok-true-clause-crash : goal.returns-in-Ok-true-clause-crash
returns-in-Ok-true-clause-crash g c m keeps =
    let quiet : IsTrue c.is_autocommit-settled.result = c.is_autocommit-settled.ensures.value ∙ ap not c.requires in
    rw c.of.ensures.same
    (settled_alike_read (state g.S.Store c.args.conn) (state g.S.Store c.is_office_of.new.conn) (c.is_autocommit-settled.ensures.settled quiet)
    c.schema-live.ensures.live
    (λ db is_open may. g.met.S.Store.settled c.args.conn.store db is_open may) c.is_office_of.ensures.reads.quiet m keeps)
