use Rattle.std.{specs.declared.alloc.Global.{Global}, proofs.Common.{◌≡◌, ◌⊎◌, IsTrue, Ok, None, Some, Option, Err, Result, IfOk, IfErr, OnOk, List, Vec, ℕ, arith, rules}}
use Rattle.sqlite.specs.{Held.{state}, Listing.{understood}, Order.{Row}}
use Rattle.sqlite.specs.{State.{State, Shown, ShowsRows, FailsToQuery, IsUnchanged, IsRolledBack, HasCleanDisk}, Values.{bound}, declared.error.Error.{Error}}
use Rattle.sqlite_resolve.specs.declared.compiled.Compiled.{Compiled}
use Rattle.sqlite_schema.specs.declared.command.Returning.{Returning}
use Rattle.plant_store_columns.proofs.public.Asking.{asked, same_now, was_open}
use Rattle.plant_store_statements.proofs.PlainAnywhere.{never_returns}
use Rattle.plant_store_statements.proofs.read.ask.Goals as goal

either_way : (sql : List ℕ) (params : Row) (old new : State) (r : Result (Vec Row Global) Error)
    → ((c : Compiled) → understood old.now.schema sql ≡ Ok c → c.returning ≡ None) → IfOk r (λ rows. Shown sql params old new rows.items)
    → IfErr r (FailsToQuery sql params old new) → IsUnchanged old new ⊎ IsRolledBack old new
either_way sql params old new (Ok rows) none ok err = asked sql params old new none (λ (v : Vec Row Global). v.items) (Ok rows) ok
either_way sql params old new (Err e) none ok err = asked sql params old new none (λ (v : Vec Row Global). v.items) (Err e) err

pub returns-clause-same : goal.returns-clause-same
returns-clause-same g c honest schema plain =
    let old = state g.S.Store c.args.conn.now in
    let new = state g.S.Store c.query_all.new.self in
    let quiet : IsTrue c.is_autocommit-settled.result = search rules in
    same_now old new (c.is_autocommit-settled.ensures.settled quiet) honest.1
    (either_way c.args.sql.now (bound c.args.cells.now) old new c.query_all.result (never_returns schema old.now.schema c.args.sql.now plain)
    (c.query_all.ensures.ok honest.0) (c.query_all.ensures.err honest.0))

pub returns-clause-honest : goal.returns-clause-honest
returns-clause-honest g c honest =
    let old = state g.S.Store c.args.conn.now in
    let new = state g.S.Store c.query_all.new.self in
    let early : HasCleanDisk old = omega (arith, c.query_all.ensures.survives.clean) in (
      early,
      was_open c.args.sql.now _ old new (λ (v : Vec Row Global). v.items) c.query_all.result honest.1 (c.query_all.ensures.ok honest.0)
          (c.query_all.ensures.err honest.0),
    )

-- what a query showed, it showed while the store was open
opens : (old new : State) (sql : List ℕ) (c : Compiled) (full : Row) (rows : List Row) (o : Option Returning) → ShowsRows old new sql c full rows o
    → IsTrue new.is_open
opens old new sql c full rows None it = it.3.0.is_open
opens old new sql c full rows (Some what) it = it.1.shown.is_open

opened : (sql : List ℕ) (params : Row) (old new : State) (r : Result (Vec Row Global) Error) → IfOk r (λ rows. Shown sql params old new rows.items)
    → OnOk r (IsTrue new.is_open)
unfolding Shown
opened sql params old new (Ok rows) it = opens old new sql it.0 _ rows.items it.0.returning it.2
opened sql params old new (Err e) it = tt

pub returns-clause-open : goal.returns-clause-open
returns-clause-open g c clean =
    opened c.args.sql.now (bound c.args.cells.now) (state g.S.Store c.args.conn.now) (state g.S.Store c.query_all.new.self) c.query_all.result
    (c.query_all.ensures.ok clean)
