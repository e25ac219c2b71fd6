use Rattle.std.proofs.Common.{◌≡◌, rules}
use Rattle.sqlite.specs.Held.{state}
use Rattle.plant_store_columns.specs.Tables.{no_schema}
use Rattle.plant_store_statements.proofs.public.Contents.{keeps_new}
use Rattle.plant_store.proofs.tables.Tables.create.Goals as goal

pub returns-in-Ok-clause-made : goal.returns-in-Ok-clause-made
returns-in-Ok-clause-made g c =
    let blank : (state g.S.Store c.args.conn).now.schema ≡ no_schema = search rules in (
      c.of.ensures.admin,
      rw c.of.ensures.same
          (λ honest. keeps_new (state g.S.Store c.make_all.new.conn) c.args.admin (c.in-Ok.ensures.made honest blank)),
    )
