use Rattle.std.{specs.Result.{result_err}, proofs.Common.{ap, ◌∙◌}}
use Rattle.plant_unit.proofs.ProposalLaws.{refusal_told}
use Rattle.plant_unit.proofs.proposals.kind_refusal.Goals as goal

pub returns-in_ok-record_priority-in-Rationale-clause-value : goal.returns-in_ok-record_priority-in-Rationale-clause-value
returns-in_ok-record_priority-in-Rationale-clause-value c kept =
    rw c.in-Rationale.is (c.err.ensures.value ∙ ap result_err (c.in_ok-record_priority-in-Rationale.ensures.value kept) ∙ refusal_told _ _)
