use Rattle.std.proofs.Common.{List, OnOk, ap, subst, sym, ◌++◌, ◌∙◌, ◌≡◌}
use Rattle.plant_model.specs.declared.rows.{AlarmRow.{AlarmRow}, RowEdit.{RowEdit}}
use Rattle.plant_unit.specs.Alarms.{brought, states_put}
use Rattle.plant_unit.proofs.alarms.push_alarms.Goals as goal

pub returns-clause-value : goal.returns-clause-value
returns-clause-value c es added is new rising so =
    let have = c.in_ok-all.ensures.value es added is new rising so in
    subst (λ (l : List RowEdit). OnOk c.push_named.result (c.push_named.new.changes ≡ c.args.changes.now ++ l)) have.states
    (subst (λ (l : List AlarmRow). OnOk c.push_named.result (c.push_named.new.changes
    ≡ c.args.changes.now ++ states_put have.seen added l)) c.as_slice.ensures.value
    (c.push_named.ensures.value have.seen added
    (have.told ∙ ap (λ l. brought l have.seen added) (sym c.as_slice.ensures.value))))
