use Rattle.std.proofs.Common.{List, OnOk, ap, filter, length, subst, sym, ◌++◌, ◌∙◌, ◌≡◌, ℕ}
use Rattle.plant_alarm.specs.declared.event.Event.{Event}
use Rattle.plant_import.specs.{Needed.{is_before_all}, Numbers.{AreNumbered, event_number, with_events}}
use Rattle.plant_import.proofs.public.{Counted.{order_puts}, NeededLaws.{put_at_end}, Placed.{rises_of}}
use Rattle.plant_import.proofs.event_numbers.put_events.Goals as goal

at_end : (kept more events slice : List Event) (before : ℕ) → events ≡ more → slice ≡ kept → AreNumbered events
    → before ≡ length (filter (is_before_all events) kept) → before ≡ length slice → with_events kept more ≡ kept ++ more
at_end kept more events slice before same all rise count is =
    put_at_end kept more (subst (λ (l : List Event). length (filter (is_before_all l) kept) ≡ length kept) same (sym count ∙ is ∙ ap length all))
    (rises_of event_number more (subst (λ (l : List Event). AreNumbered l) same rise))

pub append-requires : goal.append-requires
append-requires c =
    subst (λ (l : List Event). AreNumbered l)
    (at_end c.args.kept.now c.args.more c.as_slice-events.result.now c.as_slice.result.now c.count_before.result c.as_slice-events.ensures
    c.as_slice.ensures.value (c.rise.ensures.0 c.if-rise.true) c.count_before.ensures.value c.if-count_before-as_slice.true)
    (order_puts c.args.more c.args.kept.now c.as_slice.ensures.order)

pub returns-then-count_before-as_slice-clause-value : goal.returns-then-count_before-as_slice-clause-value
returns-then-count_before-as_slice-clause-value c =
    subst (λ (l : List Event). OnOk c.append.result (c.append.new.self ≡ l))
    (sym (at_end c.args.kept.now c.args.more c.as_slice-events.result.now c.as_slice.result.now c.count_before.result c.as_slice-events.ensures
    c.as_slice.ensures.value (c.rise.ensures.0 c.if-rise.true) c.count_before.ensures.value c.if-count_before-as_slice.true))
    c.append.ensures.ok
