-- Each connection's calls within the run of all.
use Rattle.std.proofs.Common.{◌≡◌, List, [], ◌∷◌, ◌++◌, length, refl, ap, ◌∙◌, length-append, arith}
use Rattle.std.proofs.lemmas.Grind.{flat_map-append}
use Rattle.plant_model.specs.{Worlds.{World}, declared.{call.Call.{Call}, reply.Answer.{Answer}}}
use Rattle.plant_office.specs.Runs.{AreIsolated, after_answer, world_after}
use Rattle.plant_wire.specs.Marks.{Mark, said, malformed, answers_of, calls_of, last_marks}
use Rattle.plant_server_clients.specs.Accounts.{AreEachIsolated}
use Rattle.plant_server_clients.specs.Events.{Event, opened, came, ended, answered, broke, stopped, left, failed, closed, reported, all_answers, all_calls, answers_in, calls_in}

-- as many answers as calls
marks_even : (ms : List Mark) → length (calls_of ms) ≡ length (answers_of ms)
marks_even [] = refl
marks_even (said call answer ∷ ms) = let e = marks_even ms in omega (arith, e)
marks_even (malformed cause ∷ ms) = marks_even ms

event_even : (e : Event) → length (calls_in e) ≡ length (answers_in e)
event_even (opened k) = refl
event_even (came k bytes) = refl
event_even (ended k) = refl
event_even (answered k mark) = marks_even (mark ∷ [])
event_even (broke k cause) = refl
event_even (stopped k last) = marks_even (last_marks last)
event_even (left k bytes) = refl
event_even (failed k trial) = refl
event_even (closed k end) = refl
event_even (reported ready) = refl

pub all_even : (es : List Event) → length (all_calls es) ≡ length (all_answers es)
all_even [] = refl
all_even (e ∷ es) =
    let now = event_even e in
    let later = all_even es in
    let cs = length-append (calls_in e) (all_calls es) in
    let xs = length-append (answers_in e) (all_answers es) in
    omega (arith, now, later, cs, xs)

isolated_front : (w : World) (cs ds : List Call) (xs ys : List Answer) → AreIsolated w (cs ++ ds) (xs ++ ys) → AreIsolated w cs xs
isolated_front w [] ds xs ys h = tt
isolated_front w (c ∷ cs) ds [] ys h = tt
isolated_front w (c ∷ cs) ds (x ∷ xs) ys h = (h.0, isolated_front (after_answer w c x) cs ds xs ys h.1)

isolated_later : (w : World) (cs ds : List Call) (xs ys : List Answer) → length cs ≡ length xs → AreIsolated w (cs ++ ds) (xs ++ ys)
    → AreIsolated (world_after w cs xs) ds ys
isolated_later w [] ds [] ys even h = h
isolated_later w [] ds (x ∷ xs) ys even h = absurd (omega (arith, even))
isolated_later w (c ∷ cs) ds [] ys even h = absurd (omega (arith, even))
isolated_later w (c ∷ cs) ds (x ∷ xs) ys even h = isolated_later (after_answer w c x) cs ds xs ys (omega (arith, even)) h.1

pub apart_from : (w : World) (events : List Event) → AreIsolated w (all_calls events) (all_answers events) → AreEachIsolated w events
apart_from w events h es fs e is =
    let cs : all_calls events ≡ all_calls es ++ (calls_in e ++ all_calls fs) = ap all_calls is ∙ flat_map-append calls_in es (e ∷ fs) in
    let xs : all_answers events ≡ all_answers es ++ (answers_in e ++ all_answers fs) = ap all_answers is ∙ flat_map-append answers_in es (e ∷ fs) in
    let whole = rw (cs, xs) at h in
    isolated_front (world_after w (all_calls es) (all_answers es)) (calls_in e) (all_calls fs) (answers_in e) (all_answers fs)
    (isolated_later w (all_calls es) (calls_in e ++ all_calls fs) (all_answers es) (answers_in e ++ all_answers fs) (all_even es) whole)
