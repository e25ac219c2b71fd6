-- One run of answers after another is one run.
use Rattle.std.{specs.Io.KnownBytes.{Appends}, proofs.{KnownBytes.{Appends-nil, Appends-trans}, lemmas.{Grind.{flat_map-append}, List.{map-append, Elements.{filter_map-append}}}}}
use Rattle.std.proofs.Common.{◌≡◌, ℕ, ◌+◌, List, [], ◌∷◌, ◌++◌, take, drop, map, Option, refl, sym, ap, subst, ◌∙◌, append_assoc, append-nil, Result, Ok, Err, IfErr}
use Rattle.plant_model.specs.declared.{call.Call.{Call}, reply.Answer.{Answer}}
use Rattle.plant_wire_answer.specs.Answers.{answer_bytes}
use Rattle.plant_wire_call.specs.{Cut.{WaitsBelow}, Front.{Item, waits, whole, broken, StandsAtFront, Parsed}, declared.causes.Cause.{Cause}}
use Rattle.plant_wire.specs.Causes.{cause_text}
use Rattle.plant_wire.specs.Marks.{Mark, said, marked_item, mark_text, out_of, call_in, calls_of, marked_answer, answers_of, Last, nothing, begun, breaking, last_text, last_marks, IsSaid, IsFaultless}
use Rattle.plant_wire.specs.{Step.{AnswersBroken, AnswersFront, AnswersOne, AnswersPart, IsAnswer, IsPut, IsStopped, IsUnfinished, ServesBroken, StopsFor}, declared.step.Stop.{Stop}}
use Rattle.plant_wire.{specs.declared.step.Stop.TheVariants.{WriteFailed, Fault}, proofs.public.Growing.{drop-add}}
use Rattle.plant_wire.proofs.public.Running.{Joins}
use Rattle.plant_types.specs.declared.fault.Fault as faults
use Rattle.plant_model.specs.declared.reply.Answer.TheVariants as answers

-- a session may stop within an answer that is not one of a fault, for any reason
pub stops_for : (last : Last) (stop : Stop) → IsFaultless last → StopsFor last stop
stops_for last WriteFailed faultless = tt
stops_for last Fault faultless = faultless

pub stops_faultless : (last : Last) (r : Result (Unit {0}) Stop) → IsFaultless last → IfErr r (λ stop. StopsFor last stop)
stops_faultless last (Ok u) faultless = tt
stops_faultless last (Err stop) faultless = stops_for last stop faultless

-- and within any answer if a write failed
pub stops_writing : (last : Last) (r : Result (Unit {0}) Stop) → IfErr r (λ stop. stop ≡ WriteFailed) → IfErr r (λ stop. StopsFor last stop)
stops_writing last (Ok u) is = tt
stops_writing last (Err stop) is = subst (StopsFor last) (sym is) tt

-- an answer that is not a fault is a reply or a refusal
pub said_unless : (answer : Answer) → ((fault : faults.Fault) → answer ≡ answers.Fault fault → ⊥) → IsSaid answer
said_unless (answers.Reply r) none = tt
said_unless (answers.Refused r) none = tt
said_unless (answers.Fault f) none = none f refl

Parsed-trans : (a b r : List ℕ) (xs ys : List Item) → Parsed a xs b → Parsed b ys r → Parsed a (xs ++ ys) r
Parsed-trans a b r [] ys is later = subst (λ (t : List ℕ). Parsed t ys r) (sym is) later
Parsed-trans a b r (x ∷ xs) ys (n, front, rest) later = (n, front, Parsed-trans (drop n a) b r xs ys rest later)

parsed_more : (a b r : List ℕ) (ms ns : List Mark) → Parsed a (map marked_item ms) b → Parsed b (map marked_item ns) r
    → Parsed a (map marked_item (ms ++ ns)) r
parsed_more a b r ms ns first later =
    subst (λ (x : List Item). Parsed a x r) (sym (map-append marked_item ms ns))
    (Parsed-trans a b r (map marked_item ms) (map marked_item ns) first later)

module _ {first second both : List Call → List Answer → Type 0} (joins : Joins first second both) where
  ran_more : (ms ns : List Mark) → first (calls_of ms) (answers_of ms) → second (calls_of ns) (answers_of ns)
      → both (calls_of (ms ++ ns)) (answers_of (ms ++ ns))
  ran_more ms ns a b =
      subst (λ (x : List Call). both x (answers_of (ms ++ ns))) (sym (filter_map-append call_in ms ns))
      (subst (λ (y : List Answer). both (calls_of ms ++ calls_of ns) y) (sym (filter_map-append marked_answer ms ns))
      (joins.join (calls_of ms) (calls_of ns) (answers_of ms) (answers_of ns) a b))

  pub serves_more : (bytes mid rest : List ℕ) (u v w : Option (List ℕ)) → AnswersFront bytes u v first mid → AnswersFront mid v w second rest
      → AnswersFront bytes u w both rest
  serves_more bytes mid rest u v w a b = record {
    marks = a.marks ++ b.marks;
    parses = parsed_more bytes mid rest a.marks b.marks a.parses b.parses;
    writes = rw (flat_map-append mark_text a.marks b.marks) (Appends-trans u v w _ _ a.writes b.writes);
    served = ran_more a.marks b.marks a.served b.served;
  }

  pub serves_then_broken : (bytes mid : List ℕ) (u v w : Option (List ℕ)) → AnswersFront bytes u v first mid → ServesBroken mid v w second
      → ServesBroken bytes u w both
  serves_then_broken bytes mid u v w a b =
      let all : Appends u w (out_of a.marks ++ (out_of b.marks ++ cause_text b.cause)) = Appends-trans u v w _ _ a.writes b.writes in
      record {
        marks = a.marks ++ b.marks;
        rest = b.rest;
        cause = b.cause;
        parses = parsed_more bytes mid b.rest a.marks b.marks a.parses b.parses;
        front = b.front;
        writes = rw (flat_map-append mark_text a.marks b.marks, append_assoc) all;
        served = ran_more a.marks b.marks a.served b.served;
      }

  pub serves_then_part : (bytes mid : List ℕ) (u v w : Option (List ℕ)) (stop : Stop) → AnswersFront bytes u v first mid
      → IsStopped mid v w second stop
      → IsStopped bytes u w both stop
  serves_then_part bytes mid u v w stop a (b, why) =
      let all : Appends u w (out_of a.marks ++ (out_of b.marks ++ take b.part (last_text b.last))) = Appends-trans u v w _ _ a.writes b.writes in
      let ran = ran_more a.marks (b.marks ++ last_marks b.last) a.served b.served in (
        record {
          marks = a.marks ++ b.marks;
          rest = b.rest;
          last = b.last;
          part = b.part;
          parses = parsed_more bytes mid b.rest a.marks b.marks a.parses b.parses;
          stands = b.stands;
          writes = rw (flat_map-append mark_text a.marks b.marks, append_assoc) all;
          served = subst (λ (x : List Mark). both (calls_of x) (answers_of x)) (sym (append_assoc a.marks b.marks (last_marks b.last))) ran;
        },
        why,
      )

module _ {ran : List Call → List Answer → Type 0} where
  pub serves_none : (bytes : List ℕ) (o : Option (List ℕ)) → ran [] [] → AnswersFront bytes o o ran bytes
  serves_none bytes o none = record { marks = []; parses = refl; writes = Appends-nil o; served = none }

  -- what one step did, of all that was answered
  pub serves_still : (bytes : List ℕ) (o o' : Option (List ℕ)) → Appends o o' [] → ran [] [] → AnswersFront bytes o o' ran bytes
  serves_still bytes o o' writes none = record { marks = []; parses = refl; writes = writes; served = none }

  pub serves_one : (bytes : List ℕ) (o o' : Option (List ℕ)) (n : ℕ) → AnswersOne bytes o o' ran n → AnswersFront bytes o o' ran (drop n bytes)
  serves_one bytes o o' n it = record {
    marks = it.mark ∷ [];
    parses = (n, it.stands, refl);
    writes = subst (Appends o o') (sym (append-nil (mark_text it.mark))) it.writes;
    served = it.served;
  }

  pub serves_broken : (bytes : List ℕ) (o o' : Option (List ℕ)) → AnswersBroken bytes o o' ran → ServesBroken bytes o o' ran
  serves_broken bytes o o' it =
      record { marks = []; rest = bytes; cause = it.cause; parses = refl; front = it.stands; writes = it.writes; served = it.served }

  pub serves_stopped : (bytes : List ℕ) (o o' : Option (List ℕ)) (stop : Stop) → AnswersPart bytes o o' ran stop → IsStopped bytes o o' ran stop
  serves_stopped bytes o o' stop it = (
    record {
      marks = [];
      rest = bytes;
      last = it.last;
      part = it.part;
      parses = refl;
      stands = it.stands;
      writes = it.writes;
      served = it.served;
    },
    it.why,
  )

  -- nothing of an answer was written
  pub part_none : (bytes : List ℕ) (o : Option (List ℕ)) → ran [] [] → AnswersPart bytes o o ran Fault
  part_none bytes o none = record { last = nothing; part = 0; stands = tt; writes = Appends-nil o; served = none; why = tt }

  pub stopped_none : (bytes : List ℕ) (o : Option (List ℕ)) → ran [] [] → IsStopped bytes o o ran Fault
  stopped_none bytes o none = serves_stopped bytes o o Fault (part_none bytes o none)

  -- a part of the answer to one request
  pub part_one : (bytes : List ℕ) (o o' : Option (List ℕ)) (m : Mark) (n part : ℕ) (stop : Stop) → StandsAtFront bytes (whole (marked_item m) n)
      → Appends o o' (take part (mark_text m)) → ran (calls_of (m ∷ [])) (answers_of (m ∷ [])) → StopsFor (begun m) stop
      → AnswersPart bytes o o' ran stop
  part_one bytes o o' m n part stop front writes ran_it why =
      record { last = begun m; part = part; stands = (n, front); writes = writes; served = ran_it; why = why }

  pub part_broken : (bytes : List ℕ) (o o' : Option (List ℕ)) (cause : Cause) (part : ℕ) (stop : Stop) → StandsAtFront bytes (broken cause)
      → Appends o o' (take part (cause_text cause)) → ran [] [] → AnswersPart bytes o o' ran stop
  part_broken bytes o o' cause part stop front writes none =
      record { last = breaking cause; part = part; stands = front; writes = writes; served = none; why = stops_for (breaking cause) stop tt }

  -- what was answered whole was answered
  pub serves_part : (bytes rest : List ℕ) (o o' : Option (List ℕ)) → AnswersFront bytes o o' ran rest → IsStopped bytes o o' ran Fault
  serves_part bytes rest o o' a = (
    record {
      marks = a.marks;
      rest = rest;
      last = nothing;
      part = 0;
      parses = a.parses;
      stands = tt;
      writes = subst (Appends o o') (sym (append-nil (out_of a.marks))) a.writes;
      served = subst (λ (x : List Mark). ran (calls_of x) (answers_of x)) (sym (append-nil a.marks)) a.served;
    },
    tt,
  )

-- the same, where the second run is a step that begins at a place in the bytes
module _ {first second both : List Call → List Answer → Type 0} (joins : Joins first second both) where
  pub one_from : (bytes : List ℕ) (at n : ℕ) (mid : List ℕ) (u v w : Option (List ℕ)) → mid ≡ drop at bytes
      → AnswersFront bytes u v first (drop at bytes) → AnswersOne mid v w second n → AnswersFront bytes u w both (drop (at + n) bytes)
  one_from bytes at n mid u v w is a b =
      let more =
      serves_more joins bytes (drop at bytes)
      (drop n mid) u v w a (subst (λ (x : List ℕ). AnswersFront x v w second (drop n mid)) is (serves_one mid v w n b)) in
      subst (λ (x : List ℕ). AnswersFront bytes u w both x) (ap (drop n) is ∙ sym (drop-add at n bytes)) more

  pub broken_from : (bytes : List ℕ) (at : ℕ) (mid : List ℕ) (u v w : Option (List ℕ)) → mid ≡ drop at bytes
      → AnswersFront bytes u v first (drop at bytes) → AnswersBroken mid v w second → ServesBroken bytes u w both
  broken_from bytes at mid u v w is a b =
      serves_then_broken joins bytes (drop at bytes) u v w a (subst (λ (x : List ℕ). ServesBroken x v w second) is (serves_broken mid v w b))

  pub part_from : (bytes : List ℕ) (at : ℕ) (mid : List ℕ) (u v w : Option (List ℕ)) (stop : Stop) → mid ≡ drop at bytes
      → AnswersFront bytes u v first (drop at bytes) → AnswersPart mid v w second stop → IsStopped bytes u w both stop
  part_from bytes at mid u v w stop is a b =
      serves_then_part joins bytes (drop at bytes) u v w stop a
      (subst (λ (x : List ℕ). IsStopped x v w second stop) is (serves_stopped mid v w stop b))

  pub waits_from : (bytes : List ℕ) (at more : ℕ) (mid : List ℕ) (u v w : Option (List ℕ)) → mid ≡ drop at bytes
      → AnswersFront bytes u v first (drop at bytes) → IsUnfinished mid v w second more
      → StandsAtFront (drop at bytes) waits × AnswersFront bytes u w both (drop at bytes) × WaitsBelow (drop at bytes) more
  waits_from bytes at more mid u v w is a b = (
    subst (λ (x : List ℕ). StandsAtFront x waits) is b.stands,
    serves_more joins bytes (drop at bytes)
        (drop at bytes) u v w a (subst (λ (x : List ℕ). AnswersFront x v w second x) is (serves_still mid v w b.writes b.served)),
    subst (λ (x : List ℕ). WaitsBelow x more) is b.wanted_is,
  )

-- the answer to a call was put
pub answer_put : (o o' : Option (List ℕ)) (ran : List Call → List Answer → Type 0) (call : Call) (answer : Answer) (r : Result (Unit {0}) Stop)
    → IsPut o o' (answer_bytes answer) r → IfErr r (λ stop. StopsFor (begun (said call answer)) stop) → ran (call ∷ []) (answer ∷ [])
    → IsAnswer o o' ran call r
answer_put o o' ran call answer (Ok u) put why ran_it = (answer, put, ran_it)
answer_put o o' ran call answer (Err stop) put why ran_it = (answer, put.0, put.1, ran_it, why)
