use Rattle.std.proofs.Common.{sym, ◌∙◌}
use Rattle.plant_books.proofs.PassingLaws.{passing_as}
use Rattle.plant_books.proofs.parts.put_asked.Goals as goal

pub returns-clause-value : goal.returns-clause-value
returns-clause-value c =
    let rows = c.args.rows.now in
    let alarms = c.in_ok-asked-3.ensures.value ∙ passing_as (λ r. sym (c.wanted_alarms.ensures.alarms rows r.tag)) rows.alarms in
    let shelves = c.in_ok-asked-4.ensures.value ∙ passing_as (λ r. sym (c.wanted_shelves.ensures rows r.tag)) rows.shelves in
    let events = c.in_ok-asked-5.ensures.value ∙ sym (c.wanted_events.ensures rows rows.events) in
    let records = c.in_ok-asked-6.ensures.value ∙ passing_as (λ r. sym (c.wanted_records.ensures rows r.tag)) rows.records in
    let matrices = c.in_ok-asked-7.ensures.value c.args.person.now in
    λ i. record {
      units = c.in_ok-asked.ensures.value i;
      grants = c.in_ok-asked-2.ensures.value i;
      alarms = alarms i;
      shelves = shelves i;
      events = events i;
      records = records i;
      bands = matrices.0 i;
      cells = matrices.1 i;
      changes = c.in_ok-asked-8.ensures.value i;
    }
