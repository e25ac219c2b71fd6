-- The causes of what is closed, and the offers of what is answered, over events one after another.
use Rattle.std.proofs.Common.{◌≡◌, ℕ, drop, List, [], ◌∷◌, ◌++◌, Bool, true, false, true≢false, Option, Some, None, inl, inr, refl, sym, ap, subst, ◌∙◌, nat_eq, eqb-true}
use Rattle.std.{specs.Prelude.{IfSome}, proofs.lemmas.Bool.{eqb-false}}
use Rattle.plant_wire_call.specs.declared.causes.Cause.{Cause}
use Rattle.plant_wire.specs.{Causes.{cause_text}, Marks.{Last, Mark, mark_text}}
use Rattle.plant_wire.specs.declared.reads.End.{End, TheVariants.{BrokenInput, Closed, Fault, ReadFailed, WriteFailed}}
use Rattle.plant_server_clients.specs.Causes.{AreCaused, AreDue, AreOffered, HasCause, IsAnswerOf, IsDueTo, OffersTo, last_of}
use Rattle.plant_server_clients.specs.Events.{Event, Trial, opened, came, ended, answered, broke, stopped, left, failed, closed, reported, who}
use Rattle.plant_server_clients.specs.Stages.{Leads, Moves, Stage, fresh, gone, served, ending, end_for, stage_by, stage_in}
use Rattle.plant_server_clients.specs.declared.{connections.Connection.{Connection}, ports.Ready.{Ready, TheVariants.{Expired}}}

pub last_then : (before : Option Event) (es fs : List Event) → last_of before (es ++ fs) ≡ last_of (last_of before es) fs
last_then before [] fs = refl
last_then before (e ∷ es) fs = last_then (Some e) es fs

caused_then : (before : Option Event) (es fs : List Event) → AreCaused before es → AreCaused (last_of before es) fs → AreCaused before (es ++ fs)
caused_then before [] fs now later = later
caused_then before (e ∷ es) fs now later = (now.0, caused_then (Some e) es fs now.1 later)

offers_more : (k : ℕ) (es fs : List Event) → OffersTo k es → OffersTo k (es ++ fs)
offers_more k [] fs offers = absurd offers
offers_more k (e ∷ es) fs offers = offers

offered_then : (es fs : List Event) → AreOffered es → AreOffered fs → AreOffered (es ++ fs)
offered_then [] fs now later = later
offered_then (e ∷ es) fs now later = (λ k is. offers_more k es fs (now.0 k is), offered_then es fs now.1 later)

pub due_then : (before : Option Event) (es fs : List Event) → AreDue before es → AreDue (last_of before es) fs → AreDue before (es ++ fs)
due_then before es fs now later =
    record { caused = caused_then before es fs now.caused later.caused; offered = offered_then es fs now.offered later.offered }

pub due_none : (before : Option Event) → AreDue before []
due_none before = record { caused = tt; offered = tt }

-- an event that neither answers nor closes
abbrev is_calm : Event → Bool
is_calm (opened k) = true
is_calm (came k bytes) = true
is_calm (ended k) = true
is_calm (answered k mark) = false
is_calm (broke k cause) = false
is_calm (stopped k last) = true
is_calm (left k bytes) = true
is_calm (failed k trial) = true
is_calm (closed k end) = false
is_calm (reported ready) = true

abbrev is_closing : Event → Bool
is_closing (opened k) = false
is_closing (came k bytes) = false
is_closing (ended k) = false
is_closing (answered k mark) = false
is_closing (broke k cause) = false
is_closing (stopped k last) = false
is_closing (left k bytes) = false
is_closing (failed k trial) = false
is_closing (closed k end) = true
is_closing (reported ready) = false

abbrev is_mark : Event → Bool
is_mark (opened k) = false
is_mark (came k bytes) = false
is_mark (ended k) = false
is_mark (answered k mark) = true
is_mark (broke k cause) = false
is_mark (stopped k last) = false
is_mark (left k bytes) = false
is_mark (failed k trial) = false
is_mark (closed k end) = false
is_mark (reported ready) = false

both_ways : {A : Type 0} (b : Bool) → b ≡ true → b ≡ false → A
both_ways b on off = absurd (true≢false (sym on ∙ off))

no_answer : {A : Type 0} (e : Event) (k : ℕ) → is_calm e ≡ true → IsAnswerOf k e → A
no_answer e k calm (inl (mark, is)) = both_ways (is_calm e) calm (ap is_calm is)
no_answer e k calm (inr (cause, is)) = both_ways (is_calm e) calm (ap is_calm is)

calm_due : (before : Option Event) (e : Event) → is_calm e ≡ true → AreDue before (e ∷ [])
calm_due before e calm = record {
  caused = (λ k end is. both_ways (is_calm e) calm (ap is_calm is), tt);
  offered = (λ k is. no_answer e k calm is, tt);
}

pub due_opened : (before : Option Event) (k : ℕ) → AreDue before (opened k ∷ [])
due_opened before k = calm_due before (opened k) refl

pub due_came : (before : Option Event) (k : ℕ) (bytes : List ℕ) → AreDue before (came k bytes ∷ [])
due_came before k bytes = calm_due before (came k bytes) refl

pub due_ended : (before : Option Event) (k : ℕ) → AreDue before (ended k ∷ [])
due_ended before k = calm_due before (ended k) refl

pub due_left : (before : Option Event) (k : ℕ) (bytes : List ℕ) → AreDue before (left k bytes ∷ [])
due_left before k bytes = calm_due before (left k bytes) refl

pub due_failed : (before : Option Event) (k : ℕ) (trial : Trial) → AreDue before (failed k trial ∷ [])
due_failed before k trial = calm_due before (failed k trial) refl

pub due_stopped : (before : Option Event) (k : ℕ) (last : Last) → AreDue before (stopped k last ∷ [])
due_stopped before k last = calm_due before (stopped k last) refl

pub due_reported : (before : Option Event) (ready : Ready) → AreDue before (reported ready ∷ [])
due_reported before ready = calm_due before (reported ready) refl

-- an answer, if it is offered
pub due_answered : (before : Option Event) (k : ℕ) (mark : Mark) (es : List Event) → OffersTo k es → AreDue (Some (answered k mark)) es
    → AreDue before (answered k mark ∷ es)
due_answered before k mark es offers later = record {
  caused = (λ j end is. both_ways (is_closing (closed j end)) refl (sym (ap is_closing is)), later.caused);
  offered = (own, later.offered);
}
  where
    own : (j : ℕ) → IsAnswerOf j (answered k mark) → OffersTo j es
    own j (inl (other, is)) = subst (λ (i : ℕ). OffersTo i es) (ap who is) offers
    own j (inr (cause, is)) = both_ways (is_mark (answered k mark)) refl (ap is_mark is)

pub due_broke : (before : Option Event) (k : ℕ) (cause : Cause) (es : List Event) → OffersTo k es → AreDue (Some (broke k cause)) es
    → AreDue before (broke k cause ∷ es)
due_broke before k cause es offers later = record {
  caused = (λ j end is. both_ways (is_closing (closed j end)) refl (sym (ap is_closing is)), later.caused);
  offered = (own, later.offered);
}
  where
    own : (j : ℕ) → IsAnswerOf j (broke k cause) → OffersTo j es
    own j (inl (mark, is)) = both_ways (is_mark (answered j mark)) refl (sym (ap is_mark is))
    own j (inr (other, is)) = subst (λ (i : ℕ). OffersTo i es) (ap who is) offers

-- a close, if it has its cause
pub due_closed : (before : Option Event) (k : ℕ) (end : End) → HasCause before k end → AreDue before (closed k end ∷ [])
due_closed before k end cause = record { caused = (own, tt); offered = (none, tt) }
  where
    own : (j : ℕ) (how : End) → closed k end ≡ closed j how → HasCause before j how
    own j how is =
        let number : k ≡ j = ap who is in
        let same : end ≡ how = cc in
        subst (λ (h : End). HasCause before j h) same (subst (λ (i : ℕ). HasCause before i end) number cause)

    none : (j : ℕ) → IsAnswerOf j (closed k end) → OffersTo j []
    none j (inl (mark, is)) = both_ways (is_closing (closed k end)) refl (ap is_closing is)
    none j (inr (other, is)) = both_ways (is_closing (closed k end)) refl (ap is_closing is)

-- the time of the connection is over
pub late_cause : (before : Option Event) (k : ℕ) (end : End) → before ≡ Some (reported (Expired k)) → HasCause before k end
late_cause before k ReadFailed is = inr is
late_cause before k WriteFailed is = inr is
late_cause before k Closed is = tt
late_cause before k BrokenInput is = tt
late_cause before k Fault is = tt

-- An end that needs no cause: no failed read or write, and no silence.
abbrev IsPlain : End → Type 0
IsPlain Closed = Unit {0}
IsPlain BrokenInput = Unit {0}
IsPlain Fault = Unit {0}
IsPlain ReadFailed = ⊥
IsPlain WriteFailed = ⊥

plain_cause : (before : Option Event) (k : ℕ) (end : End) → IsPlain end → HasCause before k end
plain_cause before k Closed plain = tt
plain_cause before k BrokenInput plain = tt
plain_cause before k Fault plain = tt
plain_cause before k ReadFailed plain = absurd plain
plain_cause before k WriteFailed plain = absurd plain

abbrev EndsPlainly : Stage → Type 0
EndsPlainly fresh = Unit {0}
EndsPlainly (served u p) = Unit {0}
EndsPlainly (ending end p) = IsPlain end
EndsPlainly gone = Unit {0}

plain_input : (u : List ℕ) → IsPlain (end_for u)
plain_input [] = tt
plain_input (x ∷ u) = tt

to : (s t : Stage) → t ≡ s → EndsPlainly s → EndsPlainly t
to s t is plain = subst EndsPlainly (sym is) plain

plain_moves : (s t : Stage) (e : Event) → Moves s e t → EndsPlainly s → EndsPlainly t
plain_moves fresh t (opened k) is plain = to (served [] []) t is tt
plain_moves fresh t (came k bytes) is plain = absurd is
plain_moves fresh t (ended k) is plain = absurd is
plain_moves fresh t (answered k mark) is plain = absurd is
plain_moves fresh t (broke k cause) is plain = absurd is
plain_moves fresh t (stopped k last) is plain = absurd is
plain_moves fresh t (left k bytes) is plain = absurd is
plain_moves fresh t (failed k trial) is plain = to fresh t is plain
plain_moves fresh t (closed k how) is plain = absurd is
plain_moves fresh t (reported ready) is plain = to fresh t is tt
plain_moves (served u p) t (opened k) is plain = absurd is
plain_moves (served u p) t (came k bytes) (now, is) plain = to (served (u ++ bytes) []) t is tt
plain_moves (served u p) t (ended k) (now, is) plain = to (ending (end_for u) []) t is (plain_input u)
plain_moves (served u p) t (answered k mark) (none, (n, stands, is)) plain = to (served (drop n u) (mark_text mark)) t is tt
plain_moves (served u p) t (broke k cause) (none, stands, is) plain = to (ending BrokenInput (cause_text cause)) t is tt
plain_moves (served u p) t (stopped k last) (none, stands, why, is) plain = to (ending Fault []) t is tt
plain_moves (served u p) t (left k bytes) (rest, split, is) plain = to (served u rest) t is tt
plain_moves (served u p) t (failed k trial) is plain = to (served u p) t is tt
plain_moves (served u p) t (closed k how) (given, is) plain = to gone t is tt
plain_moves (served u p) t (reported ready) is plain = to (served u p) t is tt
plain_moves (ending end p) t (opened k) is plain = absurd is
plain_moves (ending end p) t (came k bytes) is plain = absurd is
plain_moves (ending end p) t (ended k) is plain = absurd is
plain_moves (ending end p) t (answered k mark) is plain = absurd is
plain_moves (ending end p) t (broke k cause) is plain = absurd is
plain_moves (ending end p) t (stopped k last) is plain = absurd is
plain_moves (ending end p) t (left k bytes) (rest, split, is) plain = to (ending end rest) t is plain
plain_moves (ending end p) t (failed k trial) is plain = to (ending end p) t is plain
plain_moves (ending end p) t (closed k how) (may, is) plain = to gone t is tt
plain_moves (ending end p) t (reported ready) is plain = to (ending end p) t is plain
plain_moves gone t (opened k) is plain = absurd is
plain_moves gone t (came k bytes) is plain = absurd is
plain_moves gone t (ended k) is plain = absurd is
plain_moves gone t (answered k mark) is plain = absurd is
plain_moves gone t (broke k cause) is plain = absurd is
plain_moves gone t (stopped k last) is plain = absurd is
plain_moves gone t (left k bytes) is plain = absurd is
plain_moves gone t (failed k trial) is plain = absurd is
plain_moves gone t (closed k how) is plain = absurd is
plain_moves gone t (reported ready) is plain = to gone t is tt

plain_leads : (k : ℕ) (s t : Stage) (es : List Event) → Leads k s es t → EndsPlainly s → EndsPlainly t
plain_leads k s t [] is plain = to s t is plain
plain_leads k s t (e ∷ es) (mid, goes, rest) plain = plain_leads k mid t es rest (one (nat_eq (who e) k) refl)
  where
    one : (own : Bool) → nat_eq (who e) k ≡ own → EndsPlainly mid
    one true is = plain_moves s mid e (goes.own (eqb-true (who e) k is)) plain
    one false is = to s mid (goes.other (eqb-false (who e) k is)) plain

-- why a connection is closed with this end after these events
pub connection_cause : (l : Connection) (end : End) (es fs : List Event) → Leads l.number fresh (es ++ fs) (stage_in l) → IsDueTo l end fs
    → HasCause (last_of None (es ++ fs)) l.number end
connection_cause l end es fs leads (inl is) =
    let plain = subst EndsPlainly (ap (λ (o : Option End). stage_by l.unread.items l.pending.text.items o) is)
    (plain_leads l.number fresh (stage_in l) (es ++ fs) leads tt) in
    plain_cause (last_of None (es ++ fs)) l.number end plain
connection_cause l end es fs leads (inr due) =
    subst (λ (before : Option Event). HasCause before l.number end) (sym (last_then None es fs)) (due (last_of None es))

-- the connection is to end with this end
pub over_due : (l : Connection) (es : List Event) (over : Option End) → IfSome over (λ end. l.end ≡ Some end) → IfSome over (λ end. IsDueTo l end es)
over_due l es None is = tt
over_due l es (Some end) is = inl is
