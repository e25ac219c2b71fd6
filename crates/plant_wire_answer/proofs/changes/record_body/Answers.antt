use Rattle.std.proofs.Common.{refl}
use Rattle.plant_wire_answer.specs.Changes.{record_body}
use Rattle.plant_wire_answer.proofs.changes.record_body.Goals as goal

pub returns-clause-value : goal.returns-clause-value
unfolding record_body
returns-clause-value c =
    rw (
      c.in_ok-push.ensures.items,
      c.in_ok-push_string-5.ensures.value,
      c.in_ok-push_number-4.ensures.value,
      c.in_ok-push_number-3.ensures.value,
      c.in_ok-push_number-2.ensures.value,
      c.in_ok-push_string-4.ensures.value,
      c.in_ok-push_string-3.ensures.value,
      c.in_ok-push_number.ensures.value,
      c.in_ok-push_string-2.ensures.value,
      c.in_ok-push_string.ensures.value,
    )
    (rw (
      c.in_ok-out.ensures.items,
      c.as_bytes.ensures.value,
      c.as_bytes-2.ensures.value,
      c.as_bytes-3.ensures.value,
      c.as_bytes-4.ensures.value,
      c.cell_name.ensures,
      c.get.ensures.value,
      c.from.ensures,
      c.from-2.ensures,
      c.from-3.ensures,
    ) refl)
