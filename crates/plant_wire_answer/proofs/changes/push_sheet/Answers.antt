use Rattle.std.proofs.Common.{append_assoc}
use Rattle.plant_wire_answer.specs.Changes.{sheet_object}
use Rattle.plant_wire_answer.proofs.changes.push_sheet.Goals as goal

pub returns-clause-value : goal.returns-clause-value
unfolding sheet_object
returns-clause-value c =
    rw (
      c.in_ok-push.ensures.items,
      c.in_ok-push_number-2.ensures.value,
      c.in_ok-push_number.ensures.value,
      c.in_ok-push_string-3.ensures.value,
      c.in_ok-push_string-2.ensures.value,
      c.in_ok-push_string.ensures.value,
    )
    (rw (c.as_bytes.ensures.value, c.as_bytes-2.ensures.value, c.as_bytes-3.ensures.value, c.get.ensures.value, c.from.ensures) (simp append_assoc))
