use Rattle.std.proofs.Common.{refl}
use Rattle.plant_wire_answer.specs.Bodies.{status_body}
use Rattle.plant_wire_answer.proofs.bodies.status_body.Goals as goal

pub returns-clause-value : goal.returns-clause-value
unfolding status_body
returns-clause-value c =
    rw (
      c.in_ok-push.ensures.items,
      c.in_ok-push_string-3.ensures.value,
      c.in_ok-push_truth-3.ensures.value,
      c.in_ok-push_truth-2.ensures.value,
      c.in_ok-push_string-2.ensures.value,
      c.in_ok-push_number-3.ensures.value,
      c.in_ok-push_string.ensures.value,
      c.in_ok-push_truth.ensures.value,
      c.in_ok-push_number-2.ensures.value,
      c.in_ok-push_number.ensures.value,
    )
    (rw (
      c.in_ok-out.ensures.items,
      c.get.ensures.value,
      c.from.ensures,
      c.shelf_name.ensures,
      c.shelf_left.ensures,
      c.state_name.ensures,
      c.as_bytes.ensures.value,
    ) refl)
