use Rattle.std.proofs.Common.{refl}
use Rattle.plant_wire_answer.specs.Changes.{change_body}
use Rattle.plant_wire_answer.proofs.changes.change_body.Goals as goal

pub returns-clause-value : goal.returns-clause-value
unfolding change_body
returns-clause-value c =
    rw (
      c.in_ok-push.ensures.items,
      c.in_ok-push_string_or_null-2.ensures.value,
      c.in_ok-push_string-4.ensures.value,
      c.in_ok-push_string-3.ensures.value,
      c.in_ok-push_string-2.ensures.value,
      c.in_ok-push_number-2.ensures.value,
      c.in_ok-push_string.ensures.value,
      c.in_ok-push_string_or_null.ensures.value,
      c.in_ok-push_decided.ensures.value,
      c.in_ok-push_content.ensures.value,
      c.in_ok-extend_from_slice.ensures.items,
      c.in_ok-push_number.ensures.value,
    )
    (rw (
      c.in_ok-out.ensures.items,
      c.from.ensures,
      c.bytes_of.ensures,
      c.kind_name.ensures,
      c.from-2.ensures,
      c.write.ensures,
      c.as_bytes.ensures.value,
      c.change_state_name.ensures,
      c.changed_tag.ensures,
    ) refl)
