-- What is written for a list of requests.
use Rattle.std.specs.Prelude.{ℕ, List, None, Option, Some, [], filter_map, flat_map, ◌∷◌}
use Rattle.plant_model.specs.declared.{call.Call.{Call}, reply.Answer.{Answer}}
use Rattle.plant_wire_answer.specs.Answers.{answer_bytes}
use Rattle.plant_wire_call.specs.{Front.{Item, asked, bad}, declared.causes.Cause.{Cause}}
use Rattle.plant_wire.specs.Causes.{cause_text}
use Rattle.plant_model.specs.declared.reply.Answer.TheVariants as answer

-- a request with its answer: a call with the answer of the office, or the cause for which it is malformed
pub data Mark : Type 0 where
  said : Call → Answer → Mark
  malformed : Cause → Mark

-- the request
abbrev pub marked_item : Mark → Item
marked_item (said call answer) = asked call
marked_item (malformed cause) = bad cause

-- the whole text of its answer
abbrev pub mark_text : Mark → List ℕ
mark_text (said call answer) = answer_bytes answer
mark_text (malformed cause) = cause_text cause

-- the texts of the answers to these requests
abbrev pub out_of : List Mark → List ℕ
out_of ms = flat_map mark_text ms

-- the call of a request, if it is one
abbrev pub call_in : Mark → Option Call
call_in (said call answer) = Some call
call_in (malformed cause) = None

-- the calls among these requests
abbrev pub calls_of : List Mark → List Call
calls_of ms = filter_map call_in ms

-- the answer to a call
abbrev pub marked_answer : Mark → Option Answer
marked_answer (said call answer) = Some answer
marked_answer (malformed cause) = None

-- the answers to the calls among these requests
abbrev pub answers_of : List Mark → List Answer
answers_of ms = filter_map marked_answer ms

-- what was begun when a session stopped: nothing, an answer, or that to the cause which breaks the stream
pub data Last : Type 0 where
  nothing : Last
  begun : Mark → Last
  breaking : Cause → Last

-- the whole text of what was begun
abbrev pub last_text : Last → List ℕ
last_text nothing = []
last_text (begun m) = mark_text m
last_text (breaking cause) = cause_text cause

-- the request that was begun, unless it breaks the stream
abbrev pub last_marks : Last → List Mark
last_marks nothing = []
last_marks (begun m) = m ∷ []
last_marks (breaking cause) = []

-- a reply or a refusal
abbrev pub IsSaid : Answer → Type 0
IsSaid (answer.Reply r) = Unit {0}
IsSaid (answer.Refused r) = Unit {0}
IsSaid (answer.Fault f) = ⊥

-- what was begun is not the answer to a call that got a fault
abbrev pub IsFaultless : Last → Type 0
IsFaultless nothing = Unit {0}
IsFaultless (begun (said call answer)) = IsSaid answer
IsFaultless (begun (malformed cause)) = Unit {0}
IsFaultless (breaking cause) = Unit {0}
