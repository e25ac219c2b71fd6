use Rattle.std.proofs.Common.{refl, true, ◌≡◌, ◌++◌, ℕ, List, [], ◌∷◌, ◌∙◌, arith, inl, length, rules, sym, take}
use Rattle.plant_wire_call.proofs.public.Waiting.{waits_none}
use Rattle.plant_server_clients.specs.{Causes.{Always}, Service.{service_state}, Stages.{served, stage_in}}
use Rattle.plant_server_clients.proofs.{Aligned.{aligned_pushed}, Ends.{take_front}, Handled.{tried_opened, tried_put_off}, Leading.{logs_none, passed_none}}
use Rattle.plant_server_clients.proofs.{Numbers.{prompt_pushed, pushed_connections}, Paced.{rising_pushed}, Told.{noted_pushed}}
use Rattle.plant_server_clients.specs.declared.connections.Connection.{Connection}
use Rattle.plant_server_clients.proofs.serving.accept.Goals as goal

pub returns-then-number-service-clause-passed : goal.returns-then-number-service-clause-passed
returns-then-number-service-clause-passed g c log =
    let seen = g.P.Ports.seen c.args.ports.now in (
      passed_none Always true (service_state seen log c.args.service.now) seen (logs_none seen),
      λ below. absurd (omega (arith, below, c.if-number-service.true)),
    )

pub returns-then-is_err-clause-passed : goal.returns-then-is_err-clause-passed
returns-then-is_err-clause-passed g c log =
    tried_put_off c.args.service.now.plan.connections (service_state (g.P.Ports.seen c.args.ports.now) log c.args.service.now)
    (g.P.Ports.seen c.put_off.new.self) c.put_off.ensures

pub returns-then-is_err-clause-consistent : goal.returns-then-is_err-clause-consistent
returns-then-is_err-clause-consistent g c = record {
  connections = c.requires.connections;
  few = c.requires.few;
  rising = c.requires.rising;
  clients = rw c.reserve.ensures.items c.requires.clients;
}

pub returns-then-is_err-2-clause-passed : goal.returns-then-is_err-2-clause-passed
returns-then-is_err-2-clause-passed g c log =
    let seen = g.P.Ports.seen c.args.ports.now in
    let same : c.push.new.self.items ≡ c.args.service.now.connections.items = rw c.if-is_err-2.ensures.negation at c.push.ensures.items in
    rw same
    (tried_put_off c.args.service.now.plan.connections (service_state seen log c.args.service.now) (g.P.Ports.seen c.put_off-then-is_err-2.new.self) c.put_off-then-is_err-2.ensures)

pub returns-then-is_err-2-clause-noted : goal.returns-then-is_err-2-clause-noted
returns-then-is_err-2-clause-noted g c log past are =
    let same : c.push.new.self.items ≡ c.args.service.now.connections.items = rw c.if-is_err-2.ensures.negation at c.push.ensures.items in
    rw same are

pub returns-then-is_err-2-clause-consistent : goal.returns-then-is_err-2-clause-consistent
returns-then-is_err-2-clause-consistent g c =
    let same : c.push.new.self.items ≡ c.args.service.now.connections.items = rw c.if-is_err-2.ensures.negation at c.push.ensures.items in
    record {
      connections = rw same c.requires.connections;
      few = c.requires.few;
      rising = rw same c.requires.rising;
      clients = rw (c.reserve.ensures.items, same) c.requires.clients;
    }

pub returns-then-is_err-2-clause-prompt : goal.returns-then-is_err-2-clause-prompt
returns-then-is_err-2-clause-prompt g c may free =
    let same : c.push.new.self.items ≡ c.args.service.now.connections.items = rw c.if-is_err-2.ensures.negation at c.push.ensures.items in
    rw same (may free)

back : (ls more : List Connection) (n : ℕ) (all new : List Connection) → all ≡ ls ++ more → n ≡ length ls → new ≡ take n all → new ≡ ls
back ls more n all new whole is taken = rw (whole, is) at taken ∙ take_front ls more

pub returns-in_default-clause-passed : goal.returns-in_default-clause-passed
returns-in_default-clause-passed g c log =
    let ls = c.args.service.now.connections.items in
    let more : c.push.new.self.items ≡ ls ++ c.new.result ∷ [] = rw c.if-is_err-2.ensures.negation at c.push.ensures.items in
    let same = back ls (c.new.result ∷ []) c.len-places.result c.push.new.self.items c.truncate.new.self.items more
    (c.len-places.ensures ∙ c.args.service.now.connections.ok.0) c.truncate.ensures.items in
    rw same
    (tried_put_off c.args.service.now.plan.connections (service_state (g.P.Ports.seen c.args.ports.now) log c.args.service.now)
    (g.P.Ports.seen c.accept.new.self) c.in_default.ensures.logged)

pub returns-in_default-clause-noted : goal.returns-in_default-clause-noted
returns-in_default-clause-noted g c log past are =
    let ls = c.args.service.now.connections.items in
    let more : c.push.new.self.items ≡ ls ++ c.new.result ∷ [] = rw c.if-is_err-2.ensures.negation at c.push.ensures.items in
    let same = back ls (c.new.result ∷ []) c.len-places.result c.push.new.self.items c.truncate.new.self.items more
    (c.len-places.ensures ∙ c.args.service.now.connections.ok.0) c.truncate.ensures.items in
    rw same are

pub returns-in_default-clause-consistent : goal.returns-in_default-clause-consistent
returns-in_default-clause-consistent g c =
    let ls = c.args.service.now.connections.items in
    let more : c.push.new.self.items ≡ ls ++ c.new.result ∷ [] = rw c.if-is_err-2.ensures.negation at c.push.ensures.items in
    let same = back ls (c.new.result ∷ []) c.len-places.result c.push.new.self.items c.truncate.new.self.items more
    (c.len-places.ensures ∙ c.args.service.now.connections.ok.0) c.truncate.ensures.items in
    record {
      connections = rw same c.requires.connections;
      few = c.requires.few;
      rising = rw same c.requires.rising;
      clients = rw (c.reserve.ensures.items, same) c.requires.clients;
    }

pub returns-in_default-clause-prompt : goal.returns-in_default-clause-prompt
returns-in_default-clause-prompt g c may free =
    let ls = c.args.service.now.connections.items in
    let more : c.push.new.self.items ≡ ls ++ c.new.result ∷ [] = rw c.if-is_err-2.ensures.negation at c.push.ensures.items in
    let same = back ls (c.new.result ∷ []) c.len-places.result c.push.new.self.items c.truncate.new.self.items more
    (c.len-places.ensures ∙ c.args.service.now.connections.ok.0) c.truncate.ensures.items in
    rw same (may free)

pub returns-clause-passed : goal.returns-clause-passed
returns-clause-passed g c log =
    let ls = c.args.service.now.connections.items in
    let l = c.new.result in
    let more : c.push.new.self.items ≡ ls ++ l ∷ [] = rw c.if-is_err-2.ensures.negation at c.push.ensures.items in
    let new : stage_in l ≡ served [] [] = rw (c.new.ensures.served, c.new.ensures.unread, c.new.ensures.pending) refl in
    rw more (tried_opened c.args.service.now.plan.connections (service_state (g.P.Ports.seen c.args.ports.now) log c.args.service.now) (g.P.Ports.seen c.accept.new.self)
    l c.requires.connections c.new.ensures.number new c.in-Some.ensures.logged)

pub returns-clause-noted : goal.returns-clause-noted
returns-clause-noted g c log past are =
    let ls = c.args.service.now.connections.items in
    let more : c.push.new.self.items ≡ ls ++ c.new.result ∷ [] = rw c.if-is_err-2.ensures.negation at c.push.ensures.items in
    rw more (noted_pushed past c.args.service.now.count ls c.new.result c.requires.connections c.new.ensures.number c.new.ensures.faults are)

pub returns-clause-consistent : goal.returns-clause-consistent
returns-clause-consistent g c =
    let ls = c.args.service.now.connections.items in
    let l = c.new.result in
    let more : c.push.new.self.items ≡ ls ++ l ∷ [] = rw c.if-is_err-2.ensures.negation at c.push.ensures.items in
    let pushed : c.push-2.new.self.items ≡ c.args.service.now.clients.items ++ c.in-Some.client ∷ [] = search rules in
    record {
      connections = rw more (pushed_connections c.args.service.now.count ls l c.requires.connections c.new.ensures.number
          (rw c.new.ensures.wanted (waits_none l.unread.items)));
      few = omega (arith, c.requires.few, c.if-number-service.false);
      rising = rw more (rising_pushed c.args.service.now.count ls l c.requires.connections c.requires.rising c.new.ensures.number);
      clients = rw (pushed, more)
          (aligned_pushed g.P.Ports.number_of c.args.service.now.clients.items ls c.in-Some.client l c.requires.clients
          (c.in-Some.ensures.numbered ∙ sym c.new.ensures.number));
    }

pub returns-clause-prompt : goal.returns-clause-prompt
returns-clause-prompt g c may free =
    let ls = c.args.service.now.connections.items in
    let l = c.new.result in
    let more : c.push.new.self.items ≡ ls ++ l ∷ [] = rw c.if-is_err-2.ensures.negation at c.push.ensures.items in
    rw more (prompt_pushed ls l (may free) (λ live none. (inl c.new.ensures.unread, inl c.new.ensures.unread)))
