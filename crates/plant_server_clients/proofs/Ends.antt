-- How a connection that is closed ends, by its stage.
use Rattle.std.proofs.Common.{◌≡◌, ℕ, List, [], ◌∷◌, ◌++◌, true, Some, None, refl, sym, ap, subst, ◌∙◌}
use Rattle.std.proofs.Common.{append-nil, nat_lt, map, take, drop, length, inl, inr, arith}
use Rattle.plant_model.specs.declared.{call.Call.{Call}, reply.Answer.{Answer}}
use Rattle.plant_wire_call.specs.Front.{Parsed, StandsAtFront, whole}
use Rattle.plant_wire.specs.Marks.{IsFaultless, Mark, begun, breaking, answers_of, calls_of, marked_item}
use Rattle.plant_wire.specs.Marks.{out_of}
use Rattle.plant_wire.specs.{Session.{EndsAs, IsIdle}, Step.{AnswersFront, ServesBroken, ServesPart}}
use Rattle.plant_wire.specs.declared.reads.End.{End}
use Rattle.plant_wire.specs.declared.reads.End.TheVariants.{BrokenInput, Closed, Fault, ReadFailed, WriteFailed}
use Rattle.plant_server_clients.specs.Events.{Event, closed, answers_in, bytes_in, calls_in, cut_in, ends_in, marks_in, of_all, sent_in}
use Rattle.plant_server_clients.specs.{Accounts.{EndsEach}, Stages.{Leads, Moves, Stage, end_for, fresh, served, ending, gone}}
use Rattle.plant_server_clients.proofs.Moments.{HasBroken, HasStopped, IsAt, IsBehind, sent_all, so_from}

abbrev Exactly : List Call → List Answer → List Call → List Answer → Type 0
Exactly d b calls answers = (calls ≡ d) × (answers ≡ b)

abbrev Ended : List ℕ → List ℕ → List ℕ → List Call → List Answer → End → Type 0
Ended c h t d b end = EndsAs c None (nat_lt 0 (length h)) (Some []) (Some t) (Exactly d b) end

abbrev Fronts : List ℕ → List ℕ → List Call → List Answer → List ℕ → Type 0
Fronts c t d b rest = AnswersFront c (Some []) (Some t) (Exactly d b) rest

abbrev Parts : List ℕ → List ℕ → List Call → List Answer → Type 0
Parts c t d b = ServesPart c (Some []) (Some t) (Exactly d b)

pub take_front : {A : Type 0} (xs ys : List A) → take (length xs) (xs ++ ys) ≡ xs
take_front [] ys = refl
take_front (x ∷ xs) ys = ap (λ l. x ∷ l) (take_front xs ys)

-- of the parses of some requests, those of all but the last
parses_last : (a : List ℕ) (ms : List Mark) (m : Mark) (rest : List ℕ) → Parsed a (map marked_item (ms ++ m ∷ [])) rest
    → (mid : List ℕ) × Parsed a (map marked_item ms) mid × ((n : ℕ) × StandsAtFront mid (whole (marked_item m) n))
parses_last a [] m rest (n, front, end) = (a, refl, (n, front))
parses_last a (x ∷ ms) m rest (n, front, more) =
    let later = parses_last (drop n a) ms m rest more in
    (later.0, (n, front, later.1), later.2)

module _ (c h : List ℕ) (m : List Mark) (x : List ℕ) (d : List Call) (b : List Answer) (t : List ℕ) where
  fronts : (rest : List ℕ) → Parsed c (map marked_item m) rest → t ≡ out_of m → d ≡ calls_of m → b ≡ answers_of m → Fronts c t d b rest
  fronts rest parses sent calls answers = record { marks = m; parses = parses; writes = sent; served = (sym calls, sym answers) }

  -- a part of the last answer was sent
  part_last : (u p : List ℕ) → Parsed c (map marked_item m) u → d ≡ calls_of m → b ≡ answers_of m → IsBehind m t p → Parts c t d b
  part_last u p parses calls answers w =
      let split = parses_last c w.earlier w.last u (subst (λ (ms : List Mark). Parsed c (map marked_item ms) u) w.are parses) in
      record {
        marks = w.earlier;
        rest = split.0;
        last = begun w.last;
        part = length w.before;
        parses = split.1;
        stands = split.2;
        writes = w.sent ∙ ap (λ (l : List ℕ). out_of w.earlier ++ l) (sym (take_front w.before p) ∙ ap (take (length w.before)) (sym w.text));
        served = (ap calls_of (sym w.are) ∙ sym calls, ap answers_of (sym w.are) ∙ sym answers);
      }

  broken_all : (e : End) (p : List ℕ) → HasBroken c m x d b t e p → p ≡ [] → ServesBroken c (Some []) (Some t) (Exactly d b)
  broken_all e p o none = record {
    marks = m;
    rest = o.rest;
    cause = o.cause;
    parses = o.parses;
    front = o.front;
    writes =
        o.sent ∙ ap (λ (l : List ℕ). out_of m ++ l) (sym (append-nil o.before) ∙ ap (λ (l : List ℕ). o.before ++ l) (sym none) ∙ sym o.split ∙ o.cut);
    served = (sym o.calls, sym o.answers);
  }

  broken_part : (e : End) (p : List ℕ) → HasBroken c m x d b t e p → Parts c t d b
  broken_part e p o = record {
    marks = m;
    rest = o.rest;
    last = breaking o.cause;
    part = length o.before;
    parses = o.parses;
    stands = o.front;
    writes = o.sent ∙ ap (λ (l : List ℕ). out_of m ++ l) (sym (take_front o.before p) ∙ ap (take (length o.before)) (sym o.split ∙ o.cut));
    served = (ap calls_of (append-nil m) ∙ sym o.calls, ap answers_of (append-nil m) ∙ sym o.answers);
  }

  stopped_part : (e : End) (p : List ℕ) (o : HasStopped c m x d b t e p) → (s : Parts c t d b) × (s.last ≡ o.last)
  stopped_part e p o = (
    record {
      marks = m;
      rest = o.rest;
      last = o.last;
      part = 0;
      parses = o.parses;
      stands = o.stands;
      writes = o.sent ∙ sym (append-nil (out_of m));
      served = (sym o.calls, sym o.answers);
    },
    refl,
  )

  -- the input ended
  ends_input : (rest : List ℕ) → nat_lt 0 (length h) ≡ true → IsIdle rest → Fronts c t d b rest → Ended c h t d b (end_for rest)
  ends_input [] seen idle a = (seen, tt, a)
  ends_input (y ∷ ys) seen (inl none) a = cc
  ends_input (y ∷ ys) seen (inr stands) a =
      inr record { seen = seen; nothing_left = tt; rest = y ∷ ys; some = omega arith; waiting = stands; serves = a }

  pub ends_at : (s : Stage) (k : ℕ) (how : End) → IsAt c h m x d b t s → Moves s (closed k how) gone → Ended c h t d b how
  ends_at fresh k how at is = absurd is
  ends_at (served u p) k Closed g (given, is) = absurd given
  ends_at (served u p) k BrokenInput g (given, is) = absurd given
  ends_at (served u p) k ReadFailed g (given, is) = (u, given.1, fronts u g.parses (sent_all m t p g.waiting given.0) g.calls g.answers)
  ends_at (served u p) k WriteFailed g (given, is) = elim g.waiting [
    | inl all ↦ absurd (given all.0)
    | inr w ↦ part_last u p g.parses g.calls g.answers w
  ]
  ends_at (served u p) k Fault g (given, is) = absurd given
  ends_at (ending e p) k how (inl o) (inl (same, none), is) =
      subst (λ (end : End). Ended c h t d b end) (sym (same ∙ o.end))
      (ends_input o.rest o.seen o.idle (fronts o.rest o.parses o.sent o.calls o.answers))
  ends_at (ending e p) k how (inl o) (inr (lost, some), is) = absurd (some o.none)
  ends_at (ending e p) k how (inr (inl o)) (inl (same, none), is) =
      subst (λ (end : End). Ended c h t d b end) (sym (same ∙ o.end)) (inl (broken_all e p o none))
  ends_at (ending e p) k how (inr (inl o)) (inr (lost, some), is) = subst (λ (end : End). Ended c h t d b end) (sym lost) (broken_part e p o)
  ends_at (ending e p) k how (inr (inr o)) (inl (same, none), is) =
      let part = stopped_part e p o in
      subst (λ (end : End). Ended c h t d b end) (sym (same ∙ o.end)) (part.0, subst IsFaultless (sym part.1) o.why)
  ends_at (ending e p) k how (inr (inr o)) (inr (lost, some), is) = absurd (some o.none)
  ends_at gone k how at is = absurd is

pub ends_each : (events : List Event) (last : ℕ → Stage) → ((k : ℕ) → Leads k fresh events (last k)) → EndsEach events
ends_each events last goes es fs k end is =
    let at = so_from k events es (closed k end ∷ fs) (last k) is (goes k) in
    let next = at.2 in
    let moved = next.1.own refl in
    ends_at (of_all bytes_in k es) (of_all ends_in k es) (of_all marks_in k es) (of_all cut_in k es) (of_all calls_in k es) (of_all answers_in k es)
    (of_all sent_in k es)
    at.0 k end at.1 (closes at.0 next.0 k end moved)
  where
    closes : (s s' : Stage) (k : ℕ) (how : End) → Moves s (closed k how) s' → Moves s (closed k how) gone
    closes fresh s' k how is = absurd is
    closes (served u p) s' k how (given, is) = (given, refl)
    closes (ending e p) s' k how (may, is) = (may, refl)
    closes gone s' k how is = absurd is
