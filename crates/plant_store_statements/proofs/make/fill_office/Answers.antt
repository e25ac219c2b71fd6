use Rattle.std.proofs.Common.{arith}
use Rattle.sqlite.specs.{Held.{state}, State.{HasCleanDisk}}
use Rattle.plant_store_statements.proofs.Makings.{makes_index, makes_new}
use Rattle.plant_store_statements.proofs.make.fill_office.Goals as goal

pub returns-clause-made : goal.returns-clause-made
returns-clause-made g c clean inside has =
    let s0 = state g.S.Store c.args.tx.now.conn.now in
    let s1 = state g.S.Store c.run.new.tx.conn.now in
    let s2 = state g.S.Store c.run-2.new.tx.conn.now in
    let clean1 : HasCleanDisk s1 = omega (arith, c.run-2.ensures.stays.survives.clean) in
    let in1 = c.in_ok-run.ensures.stays.inside clean1 inside in
    let it1 = c.in_ok-run.ensures.made clean1 inside in
    let has1 = makes_index s0 s1 has it1.0 it1.1 in
    let it2 = rw c.single.ensures at (c.in_ok-run-2.ensures.made clean in1) in
    makes_new c.args.admin.now s1 s2 has1 it2.0 it2.1
