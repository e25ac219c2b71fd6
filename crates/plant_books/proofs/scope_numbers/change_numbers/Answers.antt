use Rattle.std.{specs.BTreeSet.{contains}, proofs.Common.{sym, ◌∙◌, ◌≡◌, nat_cmp, ◌&&◌, ◌||◌}}
use Rattle.plant_model.specs.steps.{Parts.{is_source}, Scopes.{selection_by}}
use Rattle.plant_books.{specs.Asking.{is_asked_number, is_wanted}, proofs.NumbersAmong.{left_out, taken, with_named, without_named}}
use Rattle.plant_books.proofs.scope_numbers.change_numbers.Goals.{else-wants_sources, in-Some+in_ok-insert, in_default, then-wants_sources+in_ok-numbers}
use Rattle.plant_books.specs.Asking as asked
use Rattle.plant_books.proofs.scope_numbers.change_numbers.Goals as goal

pub returns-clause-value : goal.returns-clause-value
returns-clause-value c rows same n =
    let scope = c.args.scope in
    let looked = (selection_by rows scope).rationale in
    let base : contains nat_cmp c.if-wants_sources.numbers n ≡ (c.wants_sources.result && is_source rows looked n) =
    elim c.if-wants_sources.branch [
      | then-wants_sources+in_ok-numbers w ↦
          rw w.numbers-is
          (taken rows c.args.records.now (is_wanted w.wanted_records.result) looked w.in_ok-numbers.numbers c.wants_sources.result n same
          w.in_ok-numbers.ensures.value (λ i a. sym (w.wanted_records.ensures rows a) i) w.if-wants_sources.true)
      | else-wants_sources w ↦ rw w.numbers-is
          (left_out rows looked w.new-numbers.result c.wants_sources.result n w.new-numbers.ensures.empty w.if-wants_sources.false)
    ] in
    let all : contains nat_cmp c.match-wanted_change.numbers n
    ≡ ((c.wants_sources.result && is_source rows looked n) || is_asked_number (asked.number_named scope) n) =
    elim c.match-wanted_change.branch [
      | in-Some+in_ok-insert w ↦
          rw w.numbers-is (with_named c.if-wants_sources.numbers w.insert.new.self w.in-Some.number n (c.wants_sources.result
          && is_source rows looked n) (asked.number_named scope) w.in_ok-insert.ensures.updates (sym c.wanted_change.ensures ∙ w.in-Some.is) base)
      | in_default w ↦ rw w.numbers-is (without_named c.if-wants_sources.numbers n (c.wants_sources.result
          && is_source rows looked n) (asked.number_named scope) (sym c.wanted_change.ensures ∙ w.in_default.is) base)
    ] in
    all ∙ sym (c.wants_sources.ensures rows n)
