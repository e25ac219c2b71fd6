use Rattle.std.proofs.Common.{ℕ, List, length, Err, ap, subst, ◌≤◌}
use Rattle.httparse.specs.{Grammar.{HasNoRequest, MayBecomeRequest, NeverHasRequest}, Spans.{RequestExceeds}}
use Rattle.plant_wire_head.proofs.public.Room.{never_exceeds}
use Rattle.plant_wire_head.proofs.heading.read_head.Goals as goal

pub returns-else-bytes-lt-MAX_HEAD : goal.returns-else-bytes-lt-MAX_HEAD
returns-else-bytes-lt-MAX_HEAD c = (
  record {
    none = subst (λ (x : List ℕ). HasNoRequest x) c.front_of.ensures.value (rw c.in-Ok-Partial.field-0-is at c.in-Ok-Partial.ensures.partial);
    unfinished =
        subst (λ (x : List ℕ). MayBecomeRequest x) c.front_of.ensures.value (rw c.in-Ok-Partial.field-0-is at c.in-Ok-Partial.ensures.unfinished);
  },
  c.if-bytes-lt-MAX_HEAD.false,
)

pub returns-in-Err : goal.returns-in-Err
returns-in-Err c =
    let enough : 5461 ≤ length c.as_mut_slice.result.now = rw c.as_mut_slice.ensures.value c.args.room.now.enough in
    subst (λ (x : List ℕ). NeverHasRequest x) c.front_of.ensures.value (c.in-Err.ensures.invalid
    (λ e. never_exceeds (length c.as_mut_slice.result.now) c.args.bytes.now enough
    (subst (λ (x : List ℕ). RequestExceeds (length c.as_mut_slice.result.now) x) c.front_of.ensures.value (c.in-Err.ensures.too_many (ap Err e)))))
