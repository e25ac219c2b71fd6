use Rattle.std.proofs.KnownBytes.{Appends-nil}
use Rattle.plant_wire_call.{specs.Front.{body_length, item_of}, proofs.public.Cuts.{whole_fits}}
use Rattle.plant_wire.specs.Marks.{said, malformed, begun}
use Rattle.plant_wire.proofs.{Serving.{part_none, part_one, part_broken, stops_for}, public.With.{with_none}}
use Rattle.plant_wire.proofs.step.answer_cut.Goals as goal

pub returns-in-More-clause-does : goal.returns-in-More-clause-does
returns-in-More-clause-does g c bytes front waits = record {
  stands = rw c.in-More.is at front;
  writes = Appends-nil (g.O.Outlet.written c.args.outlet.now);
  served = with_none g.B.Books c.args.office.now;
  wanted_is = waits;
}

pub returns-in-Fault-clause-does : goal.returns-in-Fault-clause-does
returns-in-Fault-clause-does g c bytes front waits =
    part_none bytes (g.O.Outlet.written c.args.outlet.now) (with_none g.B.Books c.args.office.now)

pub returns-in-Ok-clause-does : goal.returns-in-Ok-clause-does
returns-in-Ok-clause-does g c bytes front waits = record {
  cause = c.in-Broken.cause;
  stands = rw c.in-Broken.is at front;
  writes = c.in-Ok.ensures.does;
  served = with_none g.B.Books c.args.office.now;
}

pub returns-in-Err-clause-does : goal.returns-in-Err-clause-does
returns-in-Err-clause-does g c bytes front waits =
    part_broken bytes _ _ _ c.in-Err.ensures.does.0 _ (rw c.in-Broken.is at front) c.in-Err.ensures.does.1 (with_none g.B.Books c.args.office.now)

pub returns-in-Ok-put_cause-clause-does : goal.returns-in-Ok-put_cause-clause-does
returns-in-Ok-put_cause-clause-does g c bytes front waits = (
  (whole_fits body_length item_of bytes _ _ (rw c.in-Malformed.is at front)).0,
  (whole_fits body_length item_of bytes _ _ (rw c.in-Malformed.is at front)).1,
  record {
    mark = malformed c.in-Malformed.cause;
    stands = rw c.in-Malformed.is at front;
    writes = c.in-Ok-put_cause.ensures.does;
    served = with_none g.B.Books c.args.office.now;
  },
)

pub returns-in-Err-put_cause-clause-does : goal.returns-in-Err-put_cause-clause-does
returns-in-Err-put_cause-clause-does g c bytes front waits =
    part_one bytes _ _ (malformed c.in-Malformed.cause) _ c.in-Err-put_cause.ensures.does.0 _ (rw c.in-Malformed.is at front)
    c.in-Err-put_cause.ensures.does.1 (with_none g.B.Books c.args.office.now)
    (stops_for (begun (malformed c.in-Malformed.cause)) _ tt)

pub returns-in-Ok-answer_call-clause-does : goal.returns-in-Ok-answer_call-clause-does
returns-in-Ok-answer_call-clause-does g c bytes front waits = (
  (whole_fits body_length item_of bytes _ _ (rw c.in-Call.is at front)).0,
  (whole_fits body_length item_of bytes _ _ (rw c.in-Call.is at front)).1,
  record {
    mark = said c.in-Call.call c.in-Ok-answer_call.ensures.does.0;
    stands = rw c.in-Call.is at front;
    writes = c.in-Ok-answer_call.ensures.does.1;
    served = c.in-Ok-answer_call.ensures.does.2;
  },
)

pub returns-in-Err-answer_call-clause-does : goal.returns-in-Err-answer_call-clause-does
returns-in-Err-answer_call-clause-does g c bytes front waits =
    part_one bytes _ _ (said c.in-Call.call c.in-Err-answer_call.ensures.does.0) _ c.in-Err-answer_call.ensures.does.1 _ (rw c.in-Call.is at front)
    c.in-Err-answer_call.ensures.does.2 c.in-Err-answer_call.ensures.does.3 c.in-Err-answer_call.ensures.does.4
