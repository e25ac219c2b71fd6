use Rattle.std.proofs.Common.{◌+◌, ap}
use Rattle.plant_wire_call.proofs.Shown.{answers_broken, answers_waits, length_read, whole_read}
use Rattle.plant_wire_call.proofs.cut.look_at.Goals as goal

pub returns-in-Err-clause-shows : goal.returns-in-Err-clause-shows
returns-in-Err-clause-shows c = λ head found. answers_broken head _ _ (length_read _ _ _ head _ found c.in-Err.ensures.value)

pub returns-then-after-count-clause-shows : goal.returns-then-after-count-clause-shows
returns-then-after-count-clause-shows c =
    λ head found. answers_waits head _ _ (length_read _ _ _ head _ found c.in-Ok.ensures.value) c.if-after-count.true

pub returns-then-after-count-clause-wants : goal.returns-then-after-count-clause-wants
returns-then-after-count-clause-wants c =
    λ head found some. (c.in-Ok.count, length_read _ _ _ head _ found c.in-Ok.ensures.value, ap (λ n. n + c.in-Ok.count) found.len)

pub returns-in-Ok-call_in-clause-shows : goal.returns-in-Ok-call_in-clause-shows
returns-in-Ok-call_in-clause-shows c =
    λ head found. whole_read _ _ _ head _ _ c.args.after.now _ _ found c.of.ensures c.of-2.ensures c.in-Ok.ensures.value c.if-after-count.false
    c.in-Ok-call_in.ensures

pub returns-in-Err-Because-clause-shows : goal.returns-in-Err-Because-clause-shows
returns-in-Err-Because-clause-shows c =
    λ head found. whole_read _ _ _ head _ _ c.args.after.now _ _ found c.of.ensures c.of-2.ensures c.in-Ok.ensures.value c.if-after-count.false
    (rw c.in-Err-Because.field-0-is at c.in-Err-Because.ensures)
