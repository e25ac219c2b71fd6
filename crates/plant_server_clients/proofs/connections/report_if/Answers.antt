use Rattle.std.proofs.Common.{ap, sym, ◌∙◌}
use Rattle.plant_server_clients.specs.{Faults.{reporting}, declared.connections.Connection.{Connection}}
use Rattle.plant_server_clients.proofs.connections.report_if.Goals as goal

pub returns-then-reports-clause-told : goal.returns-then-reports-clause-told
returns-then-reports-clause-told g c = λ _. c.report_faults.ensures.told

pub returns-then-reports-clause-noted : goal.returns-then-reports-clause-noted
returns-then-reports-clause-noted g c = λ _. ap (λ (l : Connection). l.faults) c.report_faults.ensures.noted

pub returns-then-reports-clause-same : goal.returns-then-reports-clause-same
returns-then-reports-clause-same g c =
    let is = c.report_faults.ensures.noted in
    is ∙ ap (reporting c.args.connection.now) (sym (ap (λ (l : Connection). l.faults) is))
