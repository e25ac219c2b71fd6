use Rattle.std.proofs.{Common.{rules, nat_lt}, lemmas.{Bool.{ltb-true, ltb-false}, List.Sorted.{IsPartitionPoint-from_clause}}}
use Rattle.plant_alarm.specs.declared.event.Event.{Event}
use Rattle.plant_import.{specs.Numbers.{event_number}, proofs.public.Placed.{parted}}
use Rattle.plant_import.proofs.relation.place_of.Goals as goal

pub returns-clause-place : goal.returns-clause-place
returns-clause-place c rising =
    let part =
    IsPartitionPoint-from_clause (λ (y : Event). nat_lt y.seq c.args.seq) c.args.events.now c.partition_point.result
    c.partition_point.ensures.partitioned (parted event_number c.args.events.now c.args.seq rising) (λ a r f' k. search rules) in
    (λ k d low high. ltb-true _ _ (part.0 k d low high), λ k d low high. ltb-false _ _ (part.1 k d low high))
