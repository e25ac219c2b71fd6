use Rattle.std.proofs.Common.{ap, ℕ, arith, length, refl, subst, suc, sym, ◌-◌, ◌<◌, ◌≡◌, ◌≤◌, ◌∙◌}
use Rattle.plant_server_clients.specs.Paces.{Splits, numbers}
use Rattle.plant_server_clients.proofs.{Paced.{got, splits_start}, Telling.{round_end_told, round_next_told, round_past_told, round_start_told}}
use Rattle.plant_server_clients.specs.declared.serving.Plan.{Plan}
use Rattle.plant_server_clients.proofs.serving.serve_turn.Goals as goal

pub turn_at-requires-clause-clear : goal.turn_at-requires-clause-clear
turn_at-requires-clause-clear g c on = c.turn.invariant.clear (ap (λ (p : Plan). p.while_open) (sym c.turn.invariant.same) ∙ on)

pub turn-init : goal.turn-init
turn-init g c =
    let ls = c.args.service.now.connections.items in
    let all = c.len-at.ensures ∙ c.args.service.now.connections.ok.0 in
    record {
      round = round_start_told c.len-at.result c.args.service.now.plan.while_open (g.E.Write.contents c.args.errors.now)
          (subst (λ (n : ℕ). Splits c.args.service.now.count n (numbers ls)) (sym all) (splits_start c.args.service.now.count ls c.requires.consistent.connections));
      clear = c.requires.clear;
      consistent = c.requires.consistent;
      same = refl;
    }

pub turn-preserved-then-at-len : goal.turn-preserved-then-at-len
turn-preserved-then-at-len g c =
    let ls = c.turn.service.connections.items in
    let at = c.turn.at - 1 in
    let next : c.turn.at ≡ suc at = omega (arith, c.turn-test.true) in
    let all = c.len.ensures ∙ c.turn.service.connections.ok.0 in
    let within : at < length ls = omega (arith, all, c.if-at-len.true) in
    let connection = got ls at within in
    record {
      round = round_next_told c.turn.at at connection.0 next c.turn.invariant.same c.turn.invariant.round c.turn.invariant.consistent.connections c.turn.invariant.consistent.rising connection.1
          c.turn_at.ensures.turned;
      clear = λ on. c.turn_at.ensures.clear (ap (λ (p : Plan). p.while_open) c.turn.invariant.same ∙ on);
      consistent = c.turn_at.ensures.consistent;
      same = c.turn_at.ensures.same ∙ c.turn.invariant.same;
    }

pub turn-preserved : goal.turn-preserved
turn-preserved g c =
    let at = c.turn.at - 1 in
    let next : c.turn.at ≡ suc at = omega (arith, c.turn-test.true) in
    let all = c.len.ensures ∙ c.turn.service.connections.ok.0 in
    let past : length c.turn.service.connections.items ≤ at = omega (arith, all, c.if-at-len.false) in
    record {
      round = round_past_told c.turn.at at next past c.turn.invariant.round;
      clear = c.turn.invariant.clear;
      consistent = c.turn.invariant.consistent;
      same = c.turn.invariant.same;
    }

pub returns-clause-round : goal.returns-clause-round
returns-clause-round g c = round_end_told c.turn.at (omega (arith, c.turn-test.false)) c.turn.invariant.round

pub returns-clause-consistent : goal.returns-clause-consistent
returns-clause-consistent g c = c.turn.invariant.consistent
