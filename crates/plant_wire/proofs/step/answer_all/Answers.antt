use Rattle.std.proofs.Common.{arith, refl, ◌∙◌}
use Rattle.plant_wire_call.proofs.public.Waiting.{waits_now}
use Rattle.plant_wire.proofs.{Serving.{serves_none, waits_from, broken_from, part_from, one_from}, public.With.{with_joins, with_none}}
use Rattle.plant_wire.proofs.step.answer_all.Goals as goal

pub returns-then-bytes-wanted-clause-does : goal.returns-then-bytes-wanted-clause-does
returns-then-bytes-wanted-clause-does g c = (
  omega arith,
  waits_now c.args.bytes.now c.args.wanted c.requires c.if-bytes-wanted.true,
  serves_none c.args.bytes.now (g.O.Outlet.written c.args.outlet.now) (with_none g.B.Books c.args.office.now),
  c.requires,
)

pub items-init : goal.items-init
items-init g c = record {
  within = omega arith;
  serves = serves_none c.args.bytes.now (g.O.Outlet.written c.args.outlet.now) (with_none g.B.Books c.args.office.now);
  honest = λ t. t;
  stalls = refl;
}

pub items-preserved : goal.items-preserved
items-preserved g c =
    let h = rw c.in-Ok-Took.field-0-is at c.in-Ok-Took.ensures.does in
    let joins = with_joins g.B.Books c.args.office.now c.items.office c.answer_next.new.office in
    record {
      within = omega (arith, c.bytes_from.ensures.len, c.items.invariant.within, h.1);
      serves = one_from joins c.args.bytes.now _ c.in-Ok-Took.n c.bytes_from.result.now _ _ _ c.bytes_from.ensures.value c.items.invariant.serves h.2;
      honest = λ t. c.items.invariant.honest (c.in-Ok-Took.ensures.honest t);
      stalls = c.in-Ok-Took.ensures.stalls ∙ c.items.invariant.stalls;
    }

pub returns-in-Err-clause-does : goal.returns-in-Err-clause-does
returns-in-Err-clause-does g c =
    let joins = with_joins g.B.Books c.args.office.now c.items.office c.answer_next.new.office in
    part_from joins c.args.bytes.now _ c.bytes_from.result.now _ _ _ _ c.bytes_from.ensures.value c.items.invariant.serves c.in-Err.ensures.does

pub returns-in-Ok-Waits-clause-does : goal.returns-in-Ok-Waits-clause-does
returns-in-Ok-Waits-clause-does g c =
    let h = rw c.in-Ok-Waits.field-0-is at c.in-Ok-Waits.ensures.does in
    let joins = with_joins g.B.Books c.args.office.now c.items.office c.answer_next.new.office in
    let both = waits_from joins c.args.bytes.now _ _ c.bytes_from.result.now _ _ _ c.bytes_from.ensures.value c.items.invariant.serves h in
    (c.items.invariant.within, both.0, both.1, both.2)

pub returns-in-Ok-Broken-clause-does : goal.returns-in-Ok-Broken-clause-does
returns-in-Ok-Broken-clause-does g c =
    let h = rw c.in-Ok-Broken.field-0-is at c.in-Ok-Broken.ensures.does in
    let joins = with_joins g.B.Books c.args.office.now c.items.office c.answer_next.new.office in
    broken_from joins c.args.bytes.now _ c.bytes_from.result.now _ _ _ c.bytes_from.ensures.value c.items.invariant.serves h
