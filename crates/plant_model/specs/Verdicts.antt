-- What a unit answers to a call: the first refusal whose condition holds, else the reply.
use Rattle.std.specs.Prelude.{Bool, Err, List, None, Ok, Option, Result, Some, if◌then◌else◌, is_ok, nat_lt, not, ◌&&◌, ◌++◌, ◌∷◌}
use Rattle.plant_model.specs.{Calls.{own_refusals, reply}, Facts.{Facts, facts, last_of}, Kinds.{role_needed}}
use Rattle.plant_model.specs.{Refusals.{first_refusal, holds_some, lacks_role}, declared.{call.Call.{Call}, reply.Refused.{Refused}}}
use Rattle.plant_model.specs.declared.reply.{Refused.TheVariants.{MomentBehind, NotGranted}, Reply.{Reply}}
pub use Rattle.plant_model.specs.Kinds.{is_opening, is_read}

-- the refusals of a call by a person who holds some role in the unit
abbrev pub refusals_of_holder : Facts → Call → List (Bool × Refused)
refusals_of_holder f c =
    lacks_role f c.moment c.person (role_needed c.request) ++ (nat_lt c.moment (last_of f), MomentBehind (last_of f))
    ∷ own_refusals f c.person c.moment c.request

-- the refusals of a call on a unit
abbrev pub refusals : Facts → Call → List (Bool × Refused)
refusals f c = (not (holds_some f c.moment c.person), NotGranted) ∷ refusals_of_holder f c

abbrev pub refused_or : Option Refused → Reply → Result Reply Refused
refused_or None reply = Ok reply
refused_or (Some refused) reply = Err refused

abbrev pub verdict_of : Facts → Call → Result Reply Refused
verdict_of f c = refused_or (first_refusal (refusals f c)) (reply f c.moment c.request)

-- what a unit of this history answers to the call
abbrev pub verdict : List Call → Call → Result Reply Refused
verdict h c = verdict_of (facts h) c

-- an accepted call that is not a read becomes an entry of the history
abbrev pub changes_history : Result Reply Refused → Call → Bool
changes_history v c = is_ok v && not (is_read c.request)

-- the history after a call: an accepted changing call is put at its front
abbrev pub after : List Call → Call → List Call
after h c = if changes_history (verdict h c) c then c ∷ h else h
