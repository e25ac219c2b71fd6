use Rattle.std.proofs.Common.{[], ◌∙◌, ap, sym, drop, refl, arith, inl}
use Rattle.plant_wire_call.proofs.public.Waiting.{waits_left, waits_more, waits_none}
use Rattle.plant_wire.specs.{Over.{RanWith}, declared.step.Stop.TheVariants.{Fault}}
use Rattle.plant_wire.proofs.Sessions.{stands_start, ends_cut, ends_failed, ends_fault, ends_part, ends_broken, stands_next, some_left}
use Rattle.plant_wire.proofs.public.With.{with_joins, with_none}
use Rattle.plant_wire.proofs.reads.run_reads.Goals as goal

pub reads-init : goal.reads-init
reads-init g c =
    rw c.new-buffer.ensures.items record {
      stands = stands_start (g.I.Inlet.remaining c.args.inlet.now) (g.O.Outlet.written c.args.outlet.now)
          (RanWith g.B.Books c.args.office.now c.args.office.now) (with_none g.B.Books c.args.office.now);
      honest = λ t. t;
      stalls = refl;
      ended = refl;
      failed = refl;
      count = omega arith;
      waits = waits_none [];
    }

pub read_more-requires-clause-answered : goal.read_more-requires-clause-answered
read_more-requires-clause-answered g c = c.reads.invariant.stands.idle

pub answer_all-requires : goal.answer_all-requires
answer_all-requires g c =
    waits_more c.reads.buffer.items c.in-More.ensures.0 c.deref.result.now c.reads.wanted (c.deref.ensures.value
    ∙ c.in-More.ensures.2) c.reads.invariant.waits

pub returns-in-Failed-clause-does : goal.returns-in-Failed-clause-does
returns-in-Failed-clause-does g c = ends_failed c.reads.invariant.stands (g.I.Inlet.remaining c.read_more.new.inlet) c.in-Failed.ensures.0

pub returns-in-Failed-clause-stops : goal.returns-in-Failed-clause-stops
returns-in-Failed-clause-stops g c = (inl c.in-Failed.ensures.2, c.reads.invariant.stalls, c.in-Failed.ensures.5 ∙ c.reads.invariant.ended)

pub returns-in-Failed-clause-honest : goal.returns-in-Failed-clause-honest
returns-in-Failed-clause-honest g c = c.reads.invariant.honest

pub returns-in-Fault-clause-does : goal.returns-in-Fault-clause-does
returns-in-Fault-clause-does g c =
    ends_fault c.reads.invariant.stands (g.I.Inlet.remaining c.read_more.new.inlet) c.in-Fault.ensures.0 c.in-Fault.ensures.1

pub returns-in-Finished-clause-does : goal.returns-in-Finished-clause-does
returns-in-Finished-clause-does g c =
    ends_cut c.reads.invariant.stands (g.I.Inlet.remaining c.read_more.new.inlet) (g.I.Inlet.ended c.read_more.new.inlet)
    c.in-Finished.ensures.3 c.in-Finished.ensures.4 c.in-Finished.ensures.0
    (some_left c.reads.buffer.items c.as_slice.result.now c.is_empty.result (c.as_slice.ensures.value
    ∙ c.in-Finished.ensures.1) c.is_empty.ensures c.if-is_empty.false)

pub returns-in-Err-WriteFailed-clause-does : goal.returns-in-Err-WriteFailed-clause-does
returns-in-Err-WriteFailed-clause-does g c =
    let joins = with_joins g.B.Books c.args.office.now c.reads.office c.answer_all.new.office in
    let h = ends_part c.reads.invariant.stands (g.I.Inlet.remaining c.read_more.new.inlet) c.deref.result.now c.in-More.ensures.0 c.in-More.ensures.1
    (c.deref.ensures.value ∙ c.in-More.ensures.2) joins (g.O.Outlet.written c.answer_all.new.outlet) _ c.in-Err-WriteFailed.ensures.does in
    (h.0, h.1, h.2.0)

pub returns-in-Err-Fault-clause-does : goal.returns-in-Err-Fault-clause-does
returns-in-Err-Fault-clause-does g c =
    let h = rw c.in-Err-Fault.field-0-is at c.in-Err-Fault.ensures.does in
    let joins = with_joins g.B.Books c.args.office.now c.reads.office c.answer_all.new.office in
    ends_part c.reads.invariant.stands (g.I.Inlet.remaining c.read_more.new.inlet) c.deref.result.now c.in-More.ensures.0 c.in-More.ensures.1
    (c.deref.ensures.value ∙ c.in-More.ensures.2) joins (g.O.Outlet.written c.answer_all.new.outlet) Fault h

pub returns-in-Ok-Broken-clause-does : goal.returns-in-Ok-Broken-clause-does
returns-in-Ok-Broken-clause-does g c =
    let h = rw c.in-Ok-Broken.field-0-is at c.in-Ok-Broken.ensures.does in
    let joins = with_joins g.B.Books c.args.office.now c.reads.office c.answer_all.new.office in
    ends_broken c.reads.invariant.stands (g.I.Inlet.remaining c.read_more.new.inlet) c.deref.result.now c.in-More.ensures.0 c.in-More.ensures.1
    (c.deref.ensures.value ∙ c.in-More.ensures.2) joins (g.I.Inlet.ended c.read_more.new.inlet) (g.O.Outlet.written c.answer_all.new.outlet) h

pub reads-preserved : goal.reads-preserved
reads-preserved g c =
    let h = rw c.in-Ok-Waits.field-0-is at c.in-Ok-Waits.ensures.does in
    let joins = with_joins g.B.Books c.args.office.now c.reads.office c.answer_all.new.office in
    record {
      stands = stands_next c.reads.invariant.stands (g.I.Inlet.remaining c.read_more.new.inlet) c.deref.result.now c.in-More.ensures.0
          c.in-More.ensures.1
          (c.deref.ensures.value ∙ c.in-More.ensures.2) joins (g.O.Outlet.written c.answer_all.new.outlet)
          c.in-Ok-Waits.n c.drop_front.new.buffer.items
          (c.drop_front.ensures ∙ sym (ap (drop c.in-Ok-Waits.n) c.deref.ensures.value)) h.1 h.2;
      honest = λ t. c.reads.invariant.honest (c.in-Ok-Waits.ensures.honest t);
      stalls = c.in-Ok-Waits.ensures.stalls ∙ c.reads.invariant.stalls;
      ended = c.in-More.ensures.5 ∙ c.reads.invariant.ended;
      failed = c.in-More.ensures.3 ∙ c.reads.invariant.failed;
      count = omega (arith, c.in-More.ensures.4, c.reads.invariant.count);
      waits = waits_left (drop c.in-Ok-Waits.n c.deref.result.now) c.drop_front.new.buffer.items c.in-Ok-Waits.more
          (c.drop_front.ensures ∙ sym (ap (drop c.in-Ok-Waits.n) c.deref.ensures.value)) h.3;
    }
