use Rattle.std.proofs.Common.{subst, sym}
use Rattle.plant_unit.specs.FromFacts.{Answers}
use Rattle.plant_unit.proofs.judgement.answer_to.Goals as goal

pub returns-in-Status-clause-value : goal.returns-in-Status-clause-value
returns-in-Status-clause-value c kept =
    subst (λ r. Answers c.args.part.now c.args.call.now.person c.args.call.now.moment r c.status.result) (sym c.in-Status.is)
    (c.status.ensures.value c.args.call.now.person c.in-Status.unit)

pub returns-in-RecordOf-clause-value : goal.returns-in-RecordOf-clause-value
returns-in-RecordOf-clause-value c kept =
    subst (λ r. Answers c.args.part.now c.args.call.now.person c.args.call.now.moment r c.record.result) (sym c.in-RecordOf.is)
    (c.record.ensures.value kept c.args.call.now.moment c.args.call.now.person c.in-RecordOf.unit)

pub returns-in-ChangeOf-clause-value : goal.returns-in-ChangeOf-clause-value
returns-in-ChangeOf-clause-value c kept =
    subst (λ r. Answers c.args.part.now c.args.call.now.person c.args.call.now.moment r c.change.result) (sym c.in-ChangeOf.is)
    (c.change.ensures.value kept c.args.call.now.moment c.args.call.now.person c.in-ChangeOf.unit)

pub returns-in-Shelves-clause-value : goal.returns-in-Shelves-clause-value
returns-in-Shelves-clause-value c kept =
    subst (λ r. Answers c.args.part.now c.args.call.now.person c.args.call.now.moment r c.shelves.result) (sym c.in-Shelves.is)
    (c.shelves.ensures.value c.args.call.now.person)

pub returns-in-Alarms-clause-value : goal.returns-in-Alarms-clause-value
returns-in-Alarms-clause-value c kept =
    subst (λ r. Answers c.args.part.now c.args.call.now.person c.args.call.now.moment r c.alarms.result) (sym c.in-Alarms.is)
    (c.alarms.ensures.value kept c.args.call.now.person)

pub returns-in-Standing-clause-value : goal.returns-in-Standing-clause-value
returns-in-Standing-clause-value c kept =
    subst (λ r. Answers c.args.part.now c.args.call.now.person c.args.call.now.moment r c.standing.result) (sym c.in-Standing.is)
    (c.standing.ensures.value kept c.args.call.now.person)

pub returns-in-Floods-clause-value : goal.returns-in-Floods-clause-value
returns-in-Floods-clause-value c kept =
    subst (λ r. Answers c.args.part.now c.args.call.now.person c.args.call.now.moment r c.floods.result) (sym c.in-Floods.is)
    (c.floods.ensures.value kept.events_few c.args.call.now.moment c.args.call.now.person)
