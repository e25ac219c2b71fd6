use Rattle.std.proofs.Common.{refl}
use Rattle.plant_model.specs.steps.RowFacts.{facts_in}
use Rattle.plant_unit.proofs.VerdictLaws.{done_for}
use Rattle.plant_unit.proofs.judgement.judge_change.Goals as goal

pub returns-in-Grant-clause-value : goal.returns-in-Grant-clause-value
returns-in-Grant-clause-value c kept =
    done_for (facts_in c.args.part.now) c.args.call.now _ c.in-Grant.is refl refl refl c.args.unit.now c.requires.row c.grant.result c.verdict_of.result
    (c.grant.ensures.value c.args.call.now.person c.in-Grant.unit) c.verdict_of.ensures.value

pub returns-in-Withdraw-clause-value : goal.returns-in-Withdraw-clause-value
returns-in-Withdraw-clause-value c kept =
    done_for (facts_in c.args.part.now) c.args.call.now _ c.in-Withdraw.is refl refl refl c.args.unit.now c.requires.row c.withdraw.result
    c.verdict_of-in-Withdraw.result (c.withdraw.ensures.value c.args.call.now.moment c.args.call.now.person c.in-Withdraw.unit)
    c.verdict_of-in-Withdraw.ensures.value

pub returns-in-Register-clause-value : goal.returns-in-Register-clause-value
returns-in-Register-clause-value c kept =
    done_for (facts_in c.args.part.now) c.args.call.now _ c.in-Register.is refl refl refl c.args.unit.now c.requires.row c.register.result
    c.verdict_of-in-Register.result (c.register.ensures.value c.args.call.now.moment c.args.call.now.person c.in-Register.unit)
    c.verdict_of-in-Register.ensures.value

pub returns-in-TimedShelve-clause-value : goal.returns-in-TimedShelve-clause-value
returns-in-TimedShelve-clause-value c kept =
    done_for (facts_in c.args.part.now) c.args.call.now _ c.in-TimedShelve.is refl refl refl c.args.unit.now c.requires.row
    c.shelve_for-decision.result c.verdict_of-in-TimedShelve.result (c.shelve_for-decision.ensures.value kept c.in-TimedShelve.unit)
    c.verdict_of-in-TimedShelve.ensures.value

pub returns-in-OneShotShelve-clause-value : goal.returns-in-OneShotShelve-clause-value
returns-in-OneShotShelve-clause-value c kept =
    done_for (facts_in c.args.part.now) c.args.call.now _ c.in-OneShotShelve.is refl refl refl c.args.unit.now c.requires.row
    c.shelve_once-decision.result c.verdict_of-in-OneShotShelve.result (c.shelve_once-decision.ensures.value kept c.in-OneShotShelve.unit)
    c.verdict_of-in-OneShotShelve.ensures.value

pub returns-in-Unshelve-clause-value : goal.returns-in-Unshelve-clause-value
returns-in-Unshelve-clause-value c kept =
    done_for (facts_in c.args.part.now) c.args.call.now _ c.in-Unshelve.is refl refl refl c.args.unit.now c.requires.row c.end_shelf.result
    c.verdict_of-in-Unshelve.result (c.end_shelf.ensures.value c.args.call.now.person c.in-Unshelve.unit) c.verdict_of-in-Unshelve.ensures.value

pub returns-in-RemoveFromService-clause-value : goal.returns-in-RemoveFromService-clause-value
returns-in-RemoveFromService-clause-value c kept =
    done_for (facts_in c.args.part.now) c.args.call.now _ c.in-RemoveFromService.is refl refl refl c.args.unit.now c.requires.row
    c.remove_from_service-decision.result c.verdict_of-in-RemoveFromService.result (c.remove_from_service-decision.ensures.value c.in-RemoveFromService.unit)
    c.verdict_of-in-RemoveFromService.ensures.value

pub returns-in-PlaceInService-clause-value : goal.returns-in-PlaceInService-clause-value
returns-in-PlaceInService-clause-value c kept =
    done_for (facts_in c.args.part.now) c.args.call.now _ c.in-PlaceInService.is refl refl refl c.args.unit.now c.requires.row
    c.place_in_service.result c.verdict_of-in-PlaceInService.result
    (c.place_in_service.ensures.value c.args.call.now.moment c.args.call.now.person c.in-PlaceInService.unit) c.verdict_of-in-PlaceInService.ensures.value

pub returns-in-WithdrawChange-clause-value : goal.returns-in-WithdrawChange-clause-value
returns-in-WithdrawChange-clause-value c kept =
    done_for (facts_in c.args.part.now) c.args.call.now _ c.in-WithdrawChange.is refl refl refl c.args.unit.now c.requires.row
    c.withdraw_change.result c.verdict_of-in-WithdrawChange.result (c.withdraw_change.ensures.value kept c.in-WithdrawChange.unit)
    c.verdict_of-in-WithdrawChange.ensures.value

pub returns-in-Reject-clause-value : goal.returns-in-Reject-clause-value
returns-in-Reject-clause-value c kept =
    done_for (facts_in c.args.part.now) c.args.call.now _ c.in-Reject.is refl refl refl c.args.unit.now c.requires.row c.reject.result
    c.verdict_of-in-Reject.result (c.reject.ensures.value kept c.in-Reject.unit) c.verdict_of-in-Reject.ensures.value
