-- No text is empty, and that of a fault is short.
use Rattle.std.proofs.Common.{◌≡◌, ◌<◌, ◌≤◌, ℕ, zero, suc, List, [], ◌∷◌, ◌++◌, Bool, true, false, cond, length, codes, take, refl, sym, ap, ◌∙◌, arith}
use Rattle.std.specs.{Fmt.{digits}, Prelude.{Err}}
use Rattle.plant_types.specs.declared.fault.Fault.{Fault, TheVariants.{Memory, Store}}
use Rattle.plant_model.specs.declared.reply.Answer.{Answer}
use Rattle.plant_model.specs.declared.reply.Answer.TheVariants as answers
use Rattle.plant_wire_answer.specs.{Answers.{answer_bytes}, Json.{quoted}, Response.{response, status_line}, declared.responses.Media.{Media}}
use Rattle.plant_wire_call.specs.declared.causes.Cause.{Cause}
use Rattle.plant_wire.specs.{Causes.{cause_text}, Marks.{IsFaultless, Last, Mark, begun, breaking, last_text, malformed, mark_text, nothing, said}}
use Rattle.plant_wire.specs.Step.{Stalls, StopsFor}
use Rattle.plant_wire.specs.declared.step.{Step.{Step}, Stop.{Stop}}
use Rattle.plant_wire.specs.declared.step.Stop.TheVariants as stops
use Rattle.plant_server_clients.specs.Drafts.{least_room_of_answers}

some_front : (xs ys : List ℕ) → 0 < length xs → xs ++ ys ≡ [] → ⊥
some_front [] ys some is = omega (arith, some)
some_front (x ∷ xs) ys some is = cc

response_some : (status : ℕ) (media : Media) (body : List ℕ) → response status media body ≡ [] → ⊥
unfolding response
response_some status media body is = some_front (codes "HTTP/1.1 ") _ (omega arith) is

pub cause_some : (cause : Cause) → cause_text cause ≡ [] → ⊥
unfolding cause_text
cause_some cause is = response_some _ _ _ is

answer_some : (answer : Answer) → answer_bytes answer ≡ [] → ⊥
answer_some (answers.Reply r) is = response_some _ _ _ is
answer_some (answers.Refused r) is = response_some _ _ _ is
answer_some (answers.Fault f) is = response_some _ _ _ is

pub mark_some : (m : Mark) → mark_text m ≡ [] → ⊥
mark_some (said call answer) is = answer_some answer is
mark_some (malformed cause) is = cause_some cause is

-- nor is what an answer was written into
pub text_some : (m : Mark) (before after text : List ℕ) → before ≡ [] → after ≡ before ++ mark_text m → text ≡ after → text ≡ [] → ⊥
text_some m before after text none writes is empty =
    mark_some m (sym (writes ∙ ap (λ (t : List ℕ). t ++ mark_text m) none) ∙ sym is ∙ empty)

-- the answer to a fault is shorter than what always finds memory
fault_short : (f : Fault) → length (answer_bytes (answers.Fault f)) < least_room_of_answers
unfolding digits quoted response status_line
fault_short Memory = omega arith
fault_short Store = omega arith

take_short : (n : ℕ) (xs : List ℕ) → length (take n xs) ≤ length xs
take_short zero xs = omega arith
take_short (suc n) [] = omega arith
take_short (suc n) (x ∷ xs) = let e = take_short n xs in omega (arith, e)

-- so what stopped after as much as that is not the answer to a fault
pub long_faultless : (last : Last) (part : ℕ) → least_room_of_answers ≤ length (take part (last_text last)) → IsFaultless last
long_faultless nothing part long = tt
long_faultless (begun (said call (answers.Reply r))) part long = tt
long_faultless (begun (said call (answers.Refused r))) part long = tt
long_faultless (begun (said call (answers.Fault f))) part long =
    absurd (omega (arith, long, fault_short f, take_short part (answer_bytes (answers.Fault f))))
long_faultless (begun (malformed cause)) part long = tt
long_faultless (breaking cause) part long = tt

pub stop_faultless : (last : Last) (part lost : ℕ) (failed : Bool) (stop : Stop) → StopsFor last stop
    → Stalls {A = Step} lost (cond failed 1 0) (Err stop) → (failed ≡ true → least_room_of_answers ≤ length (take part (last_text last)))
    → IsFaultless last
stop_faultless last part lost failed stops.Fault why stalls full = why
stop_faultless last part lost failed stops.WriteFailed why stalls full = long_faultless last part (full (one failed stalls))
  where
    one : (b : Bool) → ◌≡◌ {A = ℕ} (cond b 1 0) 1 → b ≡ true
    one true is = refl
    one false is = absurd (omega (arith, is))
