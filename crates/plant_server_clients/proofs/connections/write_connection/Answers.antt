use Rattle.std.proofs.Common.{ap, ◌==◌, ◌≡◌, false, true, refl, drop, take, sym, ◌∙◌, take-append-drop}
use Rattle.plant_server_clients.specs.{Events.{writing}, Stages.{stage_by}}
use Rattle.plant_server_clients.proofs.{Handled.{moved_failed, moved_left, moved_none, not_reading}, Numbers.{loses}, Leading.{logs_none}, Waits.{empty_if, full_if}}
use Rattle.plant_server_clients.proofs.connections.write_connection.Goals as goal

pub returns-then-is_empty-clause-moved : goal.returns-then-is_empty-clause-moved
returns-then-is_empty-clause-moved g c =
    let seen = g.P.Ports.seen c.args.ports.now in
    moved_none seen seen c.args.connection.now c.args.connection.now refl false writing
    (λ _. empty_if c.args.connection.now.pending.text.items c.is_empty.result (c.is_empty.ensures ∙ ap (λ n. n == 0) c.args.connection.now.pending.text.ok.0)
    c.if-is_empty.true) (λ (no : false ≡ true). cc) refl (logs_none seen) refl

pub put-requires : goal.put-requires
put-requires g c = record {
  some = λ none.
      full_if c.args.connection.now.pending.text.items c.is_empty.result (c.is_empty.ensures ∙ ap (λ n. n == 0) c.args.connection.now.pending.text.ok.0)
      c.if-is_empty.false (sym c.deref.ensures.value ∙ none);
}

pub returns-in-Failed-clause-moved : goal.returns-in-Failed-clause-moved
returns-in-Failed-clause-moved g c =
    moved_failed (g.P.Ports.seen c.args.ports.now) (g.P.Ports.seen c.put.new.self) c.args.connection.now c.args.connection.now refl false writing
    (λ is. not_reading is) (rw c.requires.own at c.in-Failed.ensures.sent) refl

pub returns-in-Failed-clause-failed : goal.returns-in-Failed-clause-failed
returns-in-Failed-clause-failed g c none =
    loses c.args.connection.now
    (full_if c.args.connection.now.pending.text.items c.is_empty.result (c.is_empty.ensures ∙ ap (λ n. n == 0) c.args.connection.now.pending.text.ok.0)
    c.if-is_empty.false)

pub returns-in-Bytes-clause-moved : goal.returns-in-Bytes-clause-moved
returns-in-Bytes-clause-moved g c =
    let l = c.args.connection.now in
    let text = l.pending.text.items in
    let h = rw (c.requires.own, c.deref.ensures.value) at c.in-Bytes.ensures.sent in
    moved_left (g.P.Ports.seen c.args.ports.now) (g.P.Ports.seen c.put.new.self) l
    (record l { pending = record { text = c.drop_front.new.buffer } })
    refl (take c.in-Bytes.n text) (drop c.in-Bytes.n text) h.1 (sym (take-append-drop c.in-Bytes.n text))
    (ap (λ p. stage_by l.unread.items p l.end) c.drop_front.ensures)
