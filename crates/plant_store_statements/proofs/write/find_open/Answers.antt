use Rattle.std.proofs.Common.{IsTrue, arith, rules, subst, []}
use Rattle.sqlite.specs.{Held.{state}, State.{HasCleanDisk, IsNotRun}}
use Rattle.plant_store_statements.proofs.NotRun.{left_alone, never_open}
use Rattle.plant_store_statements.proofs.write.find_open.Goals as goal

pub returns-in-Err-clause-reads : goal.returns-in-Err-clause-reads
returns-in-Err-clause-reads g c =
    let old = state g.S.Store c.args.conn.now in
    let new = state g.S.Store c.prepare.new.self in
    let quiet : IsTrue c.is_autocommit-settled.result = search rules in
    record {
      same = λ honest. (left_alone old new (c.is_autocommit-settled.ensures.settled quiet) _ [] _ (c.in-Err.ensures.err honest.0 []) honest.1).0;
      honest = λ honest.
          let early : HasCleanDisk old = omega (arith, honest.0, c.prepare.ensures.survives.clean) in
          (early, (left_alone old new (c.is_autocommit-settled.ensures.settled quiet) _ [] _ (c.in-Err.ensures.err honest.0 []) honest.1).1);
      quiet = c.prepare.ensures.survives;
    }

pub returns-in-Err-clause-shut : goal.returns-in-Err-clause-shut
returns-in-Err-clause-shut g c closed honest =
    let old = state g.S.Store c.args.conn.now in
    let new = state g.S.Store c.prepare.new.self in
    never_open old new _ [] (subst (IsNotRun old new _ []) closed (c.in-Err.ensures.err honest.0 [])) honest.1
