use Rattle.std.{specs.BTreeMap.{insert_entry}, proofs.Common.{ap, ◌∙◌, nat_cmp}}
use Rattle.plant_import.proofs.ByNumber.{put_entry}
use Rattle.plant_import.proofs.event_numbers.put.Goals as goal

pub returns-clause-value : goal.returns-clause-value
returns-clause-value c es holds = c.in_ok-insert.ensures.entries ∙ ap (λ l. insert_entry nat_cmp l c.args.event.seq c.args.event) holds
    ∙ put_entry c.args.event es
