use Rattle.std.proofs.Common.{◌≡◌, refl, rules, sym, subst, IsTrue}
use Rattle.sqlite.specs.{Held.{state}, State.{HasCleanDisk}}
use Rattle.plant_store_columns.specs.Tables.{no_schema}
use Rattle.plant_store_statements.{specs.Keeping.{HaveRows}, proofs.public.Crashes.{survives_whole}}
use Rattle.plant_store_migration.{specs.TakingOver.{AreTaken}, proofs.Upgrades.{copied_rows}}
use Rattle.plant_store_migration.proofs.taking.take_over.Goals as goal

pub returns-clause-taken : goal.returns-clause-taken
returns-clause-taken g c honest told_into blank m is had =
    let filled = state g.N.Store c.fill.new.tx.conn.now in
    let last = state g.N.Store c.into-2-1.given.0 in
    let clean : HasCleanDisk filled = search rules in
    let started : IsTrue c.transaction-tx.result.conn.now.in_transaction = search rules in
    let empty : c.transaction-tx.result.conn.now.schema ≡ no_schema = search rules in
    let same : last.now ≡ filled.now = search rules in
    subst (HaveRows m) (sym same) (copied_rows m _ _ _ is had (c.in_ok-fill.ensures.made honest clean started empty had.books))

pub returns-clause-survives : goal.returns-clause-survives
returns-clause-survives g c blank =
    let old = c.args.into.now in
    let mid = c.fill.new.tx.conn.now in
    let started : IsTrue c.transaction-tx.result.conn.now.in_transaction = search rules in
    let empty : c.transaction-tx.result.conn.now.schema ≡ no_schema = search rules in
    let all =
    survives_whole g.N.Store old c.transaction-tx.result.conn.now mid c.commit.new.self.0
    (AreTaken (state g.O.Store c.args.from.now) (state g.O.Store c.fill.new.from) c.args.admin.now) c.transaction-tx.ensures.begun
    c.fill.ensures.stays.survives
    (λ clean honest books. ((state g.N.Store mid).now, refl, c.in_ok-fill.ensures.made honest clean started empty books))
    c.commit.ensures.survives in
    search (rules, all)

pub returns-in_err-commit-clause-survives : goal.returns-in_err-commit-clause-survives
returns-in_err-commit-clause-survives g c blank =
    let old = c.args.into.now in
    let mid = c.fill.new.tx.conn.now in
    let started : IsTrue c.transaction-tx.result.conn.now.in_transaction = search rules in
    let empty : c.transaction-tx.result.conn.now.schema ≡ no_schema = search rules in
    let all =
    survives_whole g.N.Store old c.transaction-tx.result.conn.now mid c.commit.new.self.0
    (AreTaken (state g.O.Store c.args.from.now) (state g.O.Store c.fill.new.from) c.args.admin.now) c.transaction-tx.ensures.begun
    c.fill.ensures.stays.survives
    (λ clean honest books. ((state g.N.Store mid).now, refl, c.in_ok-fill.ensures.made honest clean started empty books))
    c.commit.ensures.survives in
    search (rules, all)
