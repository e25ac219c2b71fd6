use Rattle.std.proofs.Common.{ap, refl, take, true, ◌∙◌, ◌≡◌, ◌++◌, Some}
use Rattle.plant_wire_call.proofs.public.Waiting.{waits_more}
use Rattle.plant_wire.specs.declared.reads.End.TheVariants.{Fault, ReadFailed}
use Rattle.plant_server_clients.specs.{Events.{reading, writing}, Stages.{ending, served, end_for}}
use Rattle.plant_server_clients.proofs.{Handled.{moved_came, moved_ended, moved_failed, moved_looked, moved_lost, moved_none}, Numbers.{gives_up}, Leading.{logs_none}, Waits.{both_ways, freed, on_true}}
use Rattle.plant_server_clients.proofs.connections.read_connection.Goals as goal

pub returns-then-not-is_open-clause-moved : goal.returns-then-not-is_open-clause-moved
returns-then-not-is_open-clause-moved g c =
    let seen = g.P.Ports.seen c.args.ports.now in
    let l = c.args.connection.now in
    moved_none seen seen l l refl true reading (λ (is : reading ≡ writing). cc)
    (λ _ _ free.
    let it = freed l.unread.items l.pending.text.items l.end free in
    both_ways c.is_open.result c.if-not-is_open.true (c.is_open.ensures.free it.0 it.1 it.2))
    refl (logs_none seen) refl

pub returns-in-Nothing-clause-moved : goal.returns-in-Nothing-clause-moved
returns-in-Nothing-clause-moved g c =
    moved_looked (g.P.Ports.seen c.args.ports.now) (g.P.Ports.seen c.take.new.self) c.args.connection.now c.args.connection.now refl
    (rw c.requires.own at c.in-Nothing.ensures.taken)
    (on_true c.is_open.result _ (c.is_open.ensures.open c.requires.waits) c.if-not-is_open.false).0 refl

pub returns-in-Failed-clause-moved : goal.returns-in-Failed-clause-moved
returns-in-Failed-clause-moved g c =
    moved_failed (g.P.Ports.seen c.args.ports.now) (g.P.Ports.seen c.take.new.self) c.args.connection.now c.args.connection.now refl true reading
    (λ _. (on_true c.is_open.result _ (c.is_open.ensures.open c.requires.waits) c.if-not-is_open.false).0)
    (rw c.requires.own at c.in-Failed.ensures.taken) refl

pub returns-in-Failed-clause-failed : goal.returns-in-Failed-clause-failed
returns-in-Failed-clause-failed g c none =
    gives_up c.args.connection.now ReadFailed (c.is_open.ensures.served c.if-not-is_open.false)
    (on_true c.is_open.result _ (c.is_open.ensures.open c.requires.waits) c.if-not-is_open.false)

pub returns-in-Ended-clause-moved : goal.returns-in-Ended-clause-moved
returns-in-Ended-clause-moved g c =
    let l = c.args.connection.now in
    let live = c.is_open.ensures.served c.if-not-is_open.false in
    let now = on_true c.is_open.result _ (c.is_open.ensures.open c.requires.waits) c.if-not-is_open.false in
    moved_ended (g.P.Ports.seen c.args.ports.now) (g.P.Ports.seen c.take.new.self) l
    (record l { end = Some c.end_of.result })
    refl (rw c.requires.own at c.in-Ended.ensures.taken) now live
    (ap (λ e. ending e l.pending.text.items) (c.end_of.ensures ∙ ap end_for c.deref.ensures.value) ∙ ap (ending (end_for l.unread.items)) now.0)

pub returns-then-is_err-clause-moved : goal.returns-then-is_err-clause-moved
returns-then-is_err-clause-moved g c =
    let l = c.args.connection.now in
    let live = c.is_open.ensures.served c.if-not-is_open.false in
    let now = on_true c.is_open.result _ (c.is_open.ensures.open c.requires.waits) c.if-not-is_open.false in
    moved_lost (g.P.Ports.seen c.args.ports.now) (g.P.Ports.seen c.take.new.self) l
    (record l { unread = c.extend_from_slice.new.self; wanted = 0; end = Some Fault })
    refl (take c.in-Bytes.n c.take.new.buf) (rw c.requires.own at c.in-Bytes.ensures.taken.1) now live (ap (ending Fault) now.0)

pub returns-else-is_err-clause-moved : goal.returns-else-is_err-clause-moved
returns-else-is_err-clause-moved g c =
    let l = c.args.connection.now in
    let live = c.is_open.ensures.served c.if-not-is_open.false in
    let now = on_true c.is_open.result _ (c.is_open.ensures.open c.requires.waits) c.if-not-is_open.false in
    let more : c.extend_from_slice.new.self.items ≡ l.unread.items ++ take c.in-Bytes.n c.take.new.buf = rw c.if-is_err.ensures.negation at
    c.extend_from_slice.ensures.items in
    moved_came (g.P.Ports.seen c.args.ports.now) (g.P.Ports.seen c.take.new.self) l
    (record l { unread = c.extend_from_slice.new.self })
    refl (take c.in-Bytes.n c.take.new.buf) (rw c.requires.own at c.in-Bytes.ensures.taken.1) now live
    (rw live (ap (λ u. served u l.pending.text.items) more ∙ ap (served (l.unread.items ++ take c.in-Bytes.n c.take.new.buf)) now.0))

pub returns-else-is_err-clause-waits : goal.returns-else-is_err-clause-waits
returns-else-is_err-clause-waits g c =
    let l = c.args.connection.now in
    let more : c.extend_from_slice.new.self.items ≡ l.unread.items ++ take c.in-Bytes.n c.take.new.buf = rw c.if-is_err.ensures.negation at
    c.extend_from_slice.ensures.items in
    waits_more l.unread.items (take c.in-Bytes.n c.take.new.buf) c.extend_from_slice.new.self.items l.wanted more c.requires.waits
