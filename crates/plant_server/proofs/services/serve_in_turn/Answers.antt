use Rattle.std.proofs.{Common.{[], ap, arith, inl, refl}, KnownBytes.{Appends-nil}}
use Rattle.plant_wire.proofs.public.Running.{ran_none}
use Rattle.plant_server.{specs.Nets.{NetState}, proofs.Reported.{none_in_turn}}
use Rattle.plant_server.proofs.services.serve_in_turn.Goals as goal

pub returns-in-Err-clause-served : goal.returns-in-Err-clause-served
returns-in-Err-clause-served g c =
    let old = g.W.Write.contents c.args.output.now in (
      [],
      tt,
      ran_none _ _,
      omega arith,
      old,
      (0, Appends-nil old),
      ([], refl, Appends-nil old),
      none_in_turn c.args.service.while_open (g.E.Write.contents c.args.errors.now),
      inl (refl, ap (λ (s : NetState). s.standing) c.in-Err.ensures.refuses),
    )
