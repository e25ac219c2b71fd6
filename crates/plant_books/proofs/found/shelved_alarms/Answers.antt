use Rattle.std.proofs.{Common.{None, Some, [], ap, arith, drop, subst, sym, ◌+◌, ◌++◌, ◌∙◌, ◌∷◌, option_copied}, lemmas.List.{append-nil}}
use Rattle.plant_books.{specs.Found.{shelved}, proofs.ShelvedLaws.{all_shelved, next_shelved}}
use Rattle.plant_model.specs.steps.{Parts.{has_shelf}, RowFacts.{alarm_tag, shelf_tag}}
use Rattle.plant_types.{specs.{KeyedRows.{IsInOrder}, Names.{name_cmp}}, proofs.public.SortedLaws.{in_order_some}}
use Rattle.plant_books.proofs.found.shelved_alarms.Goals.{in-Some+in_ok-copy+in_ok-push, in_default}
use Rattle.plant_books.proofs.found.shelved_alarms.Goals as goal

pub loop-shelf-preserved : goal.loop-shelf-preserved
loop-shelf-preserved c =
    let alarms = c.args.alarms.now in
    let shelves = c.as_slice-shelf-items.result.now in
    let i = c.loop-shelf.shelf-index in
    let so_far = c.loop-shelf.found in
    let so = c.loop-shelf.invariant in
    let shelves_rise = subst (IsInOrder name_cmp shelf_tag) (sym c.as_slice-shelf-items.ensures.value) c.as_slice-shelf-items.ensures.order in
    elim c.match-get_next.branch [
      | in-Some+in_ok-copy+in_ok-push w ↦
          ap (λ l. l ++ shelved (drop (i + 1) shelves) alarms)
          (w.found-is ∙ w.in_ok-push.ensures.ok ∙ ap (λ x. so_far ++ x ∷ []) w.in_ok-copy.ensures.value)
          ∙ next_shelved shelves alarms i c.shelf-item.result (Some w.in-Some.alarm.now) so_far c.as_slice-alarms.ensures.order shelves_rise c.loop-shelf-test.true
          c.shelf-item.is (sym (ap option_copied w.in-Some.is) ∙ c.get_next.ensures) so
      | in_default w ↦
          ap (λ l. l ++ shelved (drop (i + 1) shelves) alarms) (w.found-is ∙ sym (append-nil so_far))
          ∙ next_shelved shelves alarms i c.shelf-item.result None so_far c.as_slice-alarms.ensures.order shelves_rise c.loop-shelf-test.true c.shelf-item.is
          (sym (ap option_copied w.in_default.is) ∙ c.get_next.ensures) so
    ]

pub of-requires : goal.of-requires
of-requires c =
    let alarms = c.args.alarms.now in
    let shelves = c.as_slice-shelf-items.result.now in
    let all =
    all_shelved shelves alarms c.loop-shelf.shelf-index c.loop-shelf.found (omega (arith, c.loop-shelf-test.false)) c.loop-shelf.invariant in
    subst (IsInOrder name_cmp alarm_tag) (sym all)
    (in_order_some name_cmp alarm_tag (λ r. has_shelf shelves r.tag) alarms c.as_slice-alarms.ensures.order)

pub returns-clause-value : goal.returns-clause-value
returns-clause-value c =
    let alarms = c.args.alarms.now in
    let shelves = c.as_slice-shelf-items.result.now in
    let all =
    all_shelved shelves alarms c.loop-shelf.shelf-index c.loop-shelf.found (omega (arith, c.loop-shelf-test.false)) c.loop-shelf.invariant in
    c.of.ensures ∙ all ∙ ap (λ l. shelved l alarms) c.as_slice-shelf-items.ensures.value
