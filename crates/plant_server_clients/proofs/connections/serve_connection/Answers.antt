use Rattle.std.proofs.Common.{ap, refl, true, Some, inr}
use Rattle.plant_wire.specs.declared.reads.End.TheVariants.{BrokenInput, Fault}
use Rattle.plant_server_clients.specs.Stages.{ending, served}
use Rattle.plant_server_clients.proofs.{Handled.{made_answered, made_broke, made_none, made_part, made_short, made_waiting}, Texts.{text_some}, Waited.{idle_stage}, Waits.{on_true}}
use Rattle.plant_server_clients.proofs.connections.serve_connection.Goals as goal

pub returns-then-is_prompt-clause-made : goal.returns-then-is_prompt-clause-made
returns-then-is_prompt-clause-made g c =
    let l = c.args.connection.now in
    let prompt = on_true c.is_prompt.result _ (c.is_prompt.ensures.prompt c.requires.waits) c.if-is_prompt.true in
    made_none g.B.Books c.args.office.now.books c.args.office.now.faults l true
    (λ _ u at. idle_stage l.unread.items l.pending.text.items l.end u (λ live none. (prompt live none).0) at)

pub returns-then-is_prompt-clause-settled : goal.returns-then-is_prompt-clause-settled
returns-then-is_prompt-clause-settled g c = on_true c.is_prompt.result _ c.is_prompt.ensures.settled c.if-is_prompt.true

pub returns-in-Ok-Waits-clause-made : goal.returns-in-Ok-Waits-clause-made
returns-in-Ok-Waits-clause-made g c =
    let l = c.args.connection.now in
    let live = c.is_prompt.ensures.served c.if-is_prompt.false in
    let h = rw (c.in-Ok-Waits.field-0-is, c.deref.ensures.value) at c.in-Ok-Waits.ensures.does in
    made_waiting g.B.Books c.args.office.now.books c.answer_next.new.office.books c.args.office.now.faults
    c.answer_next.new.office.faults c.in-Ok-Waits.ensures.honest l
    (record l { wanted = c.wanted_next-connection.result })
    refl h.served refl refl (inr h.stands)

pub wanted_next-connection-requires-clause-waiting : goal.wanted_next-connection-requires-clause-waiting
wanted_next-connection-requires-clause-waiting g c =
    let h = rw (c.in-Ok-Waits.field-0-is, c.deref.ensures.value) at c.in-Ok-Waits.ensures.does in rw c.deref-in-Ok-Waits.ensures.value h.stands

pub wanted_next-connection-requires-clause-below : goal.wanted_next-connection-requires-clause-below
wanted_next-connection-requires-clause-below g c =
    let h = rw (c.in-Ok-Waits.field-0-is, c.deref.ensures.value) at c.in-Ok-Waits.ensures.does in rw c.deref-in-Ok-Waits.ensures.value h.wanted_is

pub returns-in-Ok-Waits-clause-waits : goal.returns-in-Ok-Waits-clause-waits
returns-in-Ok-Waits-clause-waits g c = rw c.deref-in-Ok-Waits.ensures.value at c.wanted_next-connection.ensures.below

pub returns-in-Ok-Waits-clause-settled : goal.returns-in-Ok-Waits-clause-settled
returns-in-Ok-Waits-clause-settled g c live none = inr (rw c.deref-in-Ok-Waits.ensures.value at c.wanted_next-connection.ensures.more)

pub returns-in_default-clause-made : goal.returns-in_default-clause-made
returns-in_default-clause-made g c =
    let l = c.args.connection.now in
    let live = c.is_prompt.ensures.served c.if-is_prompt.false in
    let empty = c.is_prompt.ensures.empty c.if-is_prompt.false in
    made_short g.B.Books c.args.office.now.books c.args.office.now.faults l (record l { wanted = 0; end = Some Fault }) refl live empty (ap (ending Fault) empty)

pub returns-in-Ok-Took-clause-made : goal.returns-in-Ok-Took-clause-made
returns-in-Ok-Took-clause-made g c =
    let l = c.args.connection.now in
    let live = c.is_prompt.ensures.served c.if-is_prompt.false in
    let h = rw (c.in-Ok-Took.field-0-is, c.deref.ensures.value) at c.in-Ok-Took.ensures.does in
    let text = c.into_answers.ensures in
    made_answered g.B.Books c.args.office.now.books c.answer_next.new.office.books c.args.office.now.faults
    c.answer_next.new.office.faults c.in-Ok-Took.ensures.honest l
    (record l { unread = c.drop_front.new.buffer; wanted = 0; pending = c.into_answers.result })
    refl live (c.is_prompt.ensures.empty c.if-is_prompt.false)
    c.in-Ok.draft.text.items c.in-Ok.ensures
    c.in-Ok-Took.n (rw text h.2)
    (rw live (ap (λ u. served u c.into_answers.result.text.items) c.drop_front.ensures))

pub returns-in-Ok-Took-clause-settled : goal.returns-in-Ok-Took-clause-settled
returns-in-Ok-Took-clause-settled g c live none =
    let h = rw (c.in-Ok-Took.field-0-is, c.deref.ensures.value) at c.in-Ok-Took.ensures.does in
    absurd
    (text_some h.2.mark c.in-Ok.draft.text.items c.answer_next.new.outlet.text.items c.into_answers.result.text.items c.in-Ok.ensures h.2.writes
    c.into_answers.ensures none)

pub returns-in-Ok-Broken-clause-made : goal.returns-in-Ok-Broken-clause-made
returns-in-Ok-Broken-clause-made g c =
    let l = c.args.connection.now in
    let live = c.is_prompt.ensures.served c.if-is_prompt.false in
    let h = rw (c.in-Ok-Broken.field-0-is, c.deref.ensures.value) at c.in-Ok-Broken.ensures.does in
    let text = c.into_answers-in-Ok-Broken.ensures in
    made_broke g.B.Books c.args.office.now.books c.answer_next.new.office.books c.args.office.now.faults
    c.answer_next.new.office.faults c.in-Ok-Broken.ensures.honest l
    (record l { wanted = 0; pending = c.into_answers-in-Ok-Broken.result; end = Some BrokenInput })
    refl live (c.is_prompt.ensures.empty c.if-is_prompt.false)
    c.in-Ok.draft.text.items c.in-Ok.ensures
    (rw text h) refl

pub returns-in-Err-clause-made : goal.returns-in-Err-clause-made
returns-in-Err-clause-made g c =
    let l = c.args.connection.now in
    let live = c.is_prompt.ensures.served c.if-is_prompt.false in
    let empty = c.is_prompt.ensures.empty c.if-is_prompt.false in
    let h = rw c.deref.ensures.value at c.in-Err.ensures.does in
    let draft = c.answer_next.new.outlet in
    made_part g.B.Books c.args.office.now.books c.answer_next.new.office.books c.args.office.now.faults
    c.answer_next.new.office.faults c.in-Err.ensures.honest l
    (record l { wanted = 0; end = Some Fault })
    refl live empty c.in-Ok.draft.text.items c.in-Ok.ensures
    _ draft.text.items _ draft.failed h c.in-Err.ensures.stalls draft.full (ap (ending Fault) empty)
