-- Lines about faults, one time after another.
use Rattle.std.{specs.Io.KnownBytes.{Appends}, proofs.KnownBytes.{Appends-nil, Appends-trans}}
use Rattle.std.proofs.Common.{List, Option, [], refl, sym, ap, subst, take, append_assoc, append-nil, ◌++◌, ◌∷◌, ◌≡◌, ◌∙◌, ℕ}
use Rattle.plant_office.specs.declared.office.Faults.{Faults}
use Rattle.plant_server_log.specs.Log.{AreFaultLines, TellsFaults, fault_lines}

pub tells_no_faults : (x : Option (List ℕ)) → TellsFaults x [] x
tells_no_faults x = ([], refl, Appends-nil x)

pub tells_faults : (x y z : Option (List ℕ)) (earlier : List Faults) (faults : Faults) (n : ℕ) → TellsFaults x earlier y
    → Appends y z (take n (fault_lines faults)) → TellsFaults x (faults ∷ earlier) z
tells_faults x y z earlier faults n so_far now = (
  so_far.0 ++ take n (fault_lines faults),
  (so_far.0, n, so_far.1, refl),
  Appends-trans x y z so_far.0 (take n (fault_lines faults)) so_far.2 now,
)

pub lines_then : (earlier later : List Faults) (xs ys : List ℕ) → AreFaultLines earlier xs → AreFaultLines later ys
    → AreFaultLines (later ++ earlier) (xs ++ ys)
lines_then earlier [] xs ys are is = subst (AreFaultLines earlier) (sym (ap (λ (t : List ℕ). xs ++ t) is ∙ append-nil xs)) are
lines_then earlier (faults ∷ later) xs ys are (before, part, rest, is) = (
  xs ++ before,
  part,
  lines_then earlier later xs before are rest,
  ap (λ (t : List ℕ). xs ++ t) is ∙ sym (append_assoc xs before (take part (fault_lines faults))),
)

pub tells_then : (a b c : Option (List ℕ)) (earlier later : List Faults) → TellsFaults a earlier b → TellsFaults b later c
    → TellsFaults a (later ++ earlier) c
tells_then a b c earlier later (xs, are, first) (ys, more, next) =
    (xs ++ ys, lines_then earlier later xs ys are more, Appends-trans a b c xs ys first next)
