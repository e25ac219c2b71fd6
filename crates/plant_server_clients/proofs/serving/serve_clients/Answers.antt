use Rattle.std.proofs.Common.{[], ◌==◌, ◌≡◌, ◌∙◌, ap, arith, inl, inr, refl, subst, sym, Some}
use Rattle.std.specs.Prelude.{Err, Ok}
use Rattle.plant_server_clients.specs.{Accounts.{AtEachMoment, Outcome}, Events.{reported, seen_by}, Fairness.{IsSoon}, Heeded.{AreHeeded, Heeds}}
use Rattle.plant_server_clients.specs.declared.ports.Ready.{Ready}
use Rattle.plant_server_clients.specs.declared.serving.{Halted.TheVariants.{Memory, Ports, Shut}, Plan.{Plan}}
use Rattle.plant_server_clients.proofs.{Numbers.{connections_start, prompt_start}, Leading.{happened_honest}, Paced.{rising_start}, Rounds.{way_asked, way_last}}
use Rattle.plant_server_clients.proofs.{Soon.{heeded_failed, led, soon_failed}, Telling.{asked_events, served_told, way_asked_told, way_start_told, way_then_told}, Waits.{empty_if, not_true}}
use Rattle.plant_server_clients.proofs.serving.serve_clients.Goals as goal

not_ports : {A : Type 0} (o : Outcome) (u : Unit {0}) → o ≡ Ok u → o ≡ Err Ports → A
not_ports o u served failed = let no : Ok u ≡ Err Ports = sym served ∙ failed in cc

pub returns-in_default-clause-served : goal.returns-in_default-clause-served
returns-in_default-clause-served g c =
    let start = way_start_told g.B.Books c.args.office.now.books
    (seen_by (g.P.Ports.seen c.args.ports.now) (g.W.Write.contents c.args.log.now)) [] c.args.plan (g.E.Write.contents c.args.errors.now)
    refl in
    served_told start.0 start.1 start.2.soon start.2.heeded (refl, refl) (λ (is : Err Memory ≡ Err Ports). cc)

pub turns-init : goal.turns-init
turns-init g c =
    let none = c.new-2.ensures.items in
    record {
      way = rw c.take_faults.ensures.books
          (way_start_told g.B.Books c.args.office.now.books
          (seen_by (g.P.Ports.seen c.args.ports.now) (g.W.Write.contents c.args.log.now)) _ c.args.plan
          (g.E.Write.contents c.args.errors.now) none);
      clear = λ _. c.take_faults.ensures.none;
      consistent = record { connections = connections_start 0 _ none; few = omega arith; rising = rising_start _ none; clients = rw (none, c.new-3.ensures.items) refl };
      same = refl;
      prompt = λ e. prompt_start _ none;
    }

pub returns-then-is_empty-clause-served : goal.returns-then-is_empty-clause-served
returns-then-is_empty-clause-served g c =
    let connections = c.turns.service.connections in
    let none = empty_if connections.items c.is_empty.result (c.is_empty.ensures ∙ ap (λ k. k == 0) connections.ok.0) c.if-is_empty.true in
    served_told c.turns.invariant.way.0 c.turns.invariant.way.1 c.turns.invariant.way.2.soon c.turns.invariant.way.2.heeded (c.if-service-plan.true, none) (λ is. not_ports _ _ refl is)

pub returns-then-is_empty-clause-honest : goal.returns-then-is_empty-clause-honest
returns-then-is_empty-clause-honest g c = happened_honest c.turns.invariant.way.0.happened

pub returns-then-is_over-clause-served : goal.returns-then-is_over-clause-served
returns-then-is_over-clause-served g c =
    rw c.give_back.ensures
    (served_told c.turns.invariant.way.0 c.turns.invariant.way.1 c.turns.invariant.way.2.soon c.turns.invariant.way.2.heeded
    (omega (arith, c.turns.invariant.consistent.few, ap (λ (p : Plan). p.connections) c.turns.invariant.same)) (λ (is : Err Shut ≡ Err Ports). cc))

pub returns-then-is_over-clause-honest : goal.returns-then-is_over-clause-honest
returns-then-is_over-clause-honest g c = happened_honest c.turns.invariant.way.0.happened

pub next-ready-requires : goal.next-ready-requires
next-ready-requires g c = record {
  prompt = λ may. rw c.deref.ensures.value (c.turns.invariant.prompt (not_true c.turns.service.busy may));
  aligned = rw (c.as_mut_slice-clients.ensures.value, c.deref.ensures.value) c.turns.invariant.consistent.clients;
}

pub serve_ready-requires-clause-clear : goal.serve_ready-requires-clause-clear
serve_ready-requires-clause-clear g c on = c.turns.invariant.clear (ap (λ (p : Plan). p.while_open) (sym c.turns.invariant.same) ∙ on)

pub returns-in-Failed-clause-served : goal.returns-in-Failed-clause-served
returns-in-Failed-clause-served g c =
    let to = g.P.Ports.seen c.next-ready.new.self in
    let way = c.turns.invariant.way.0 in
    let logged = c.next-ready.ensures.logged in
    rw c.give_back-in-Failed.ensures
    (served_told (way_asked to c.next-ready.result way logged) (way_asked_told to c.next-ready.result way logged c.turns.invariant.way.1)
    (subst (AtEachMoment IsSoon) (sym (asked_events to c.next-ready.result way logged))
    (soon_failed c.args.plan.connections way.happened.events c.next-ready.result c.turns.invariant.way.2))
    (subst (AreHeeded c.args.plan.connections) (sym (asked_events to c.next-ready.result way logged))
    (heeded_failed c.args.plan.connections way.happened.events c.next-ready.result c.turns.invariant.way.2
    (subst (λ (r : Ready). Heeds c.args.plan.connections (led way.happened.events) r []) (sym c.in-Failed.is) tt)))
    (omega (arith, c.turns.invariant.consistent.few, ap (λ (p : Plan). p.connections) c.turns.invariant.same))
    (λ _. inl (way_last to c.next-ready.result way logged ∙ ap (λ r. Some (reported r)) c.in-Failed.is)))

pub returns-in-Failed-clause-honest : goal.returns-in-Failed-clause-honest
returns-in-Failed-clause-honest g c = happened_honest c.turns.invariant.way.0.happened

pub turns-preserved : goal.turns-preserved
turns-preserved g c =
    let to = g.P.Ports.seen c.next-ready.new.self in
    let ready = c.next-ready.result in
    let way = c.turns.invariant.way.0 in
    record {
      way = way_then_told to ready way c.next-ready.ensures.logged c.turns.invariant.same c.turns.invariant.way.1 c.turns.invariant.way.2
          c.serve_ready.ensures.round;
      clear = λ on. c.serve_ready.ensures.clear (ap (λ (p : Plan). p.while_open) c.turns.invariant.same ∙ on);
      consistent = c.serve_ready.ensures.consistent;
      same = c.serve_ready.ensures.same ∙ c.turns.invariant.same;
      prompt = c.serve_ready.ensures.prompt;
    }

pub returns-clause-served : goal.returns-clause-served
returns-clause-served g c =
    rw c.give_back-2.ensures
    (served_told c.turns.invariant.way.0 c.turns.invariant.way.1 c.turns.invariant.way.2.soon c.turns.invariant.way.2.heeded
    (omega (arith, c.turns.invariant.consistent.few, ap (λ (p : Plan). p.connections) c.turns.invariant.same))
    (λ _. inr (omega (arith, c.turns-test.false, c.turns.invariant.way.0.asked))))

pub returns-clause-honest : goal.returns-clause-honest
returns-clause-honest g c = happened_honest c.turns.invariant.way.0.happened
