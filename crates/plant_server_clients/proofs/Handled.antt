-- What one connection does, and what that means among all connections.
use Rattle.std.proofs.Common.{◌≡◌, ◌≢◌, ◌+◌, slice_get, slice_set, ℕ, List, [], ◌∷◌, ◌++◌, Option, Some, None, inl, inr, drop, refl, sym, ap, subst, ◌∙◌, append-nil}
use Rattle.std.proofs.Common.{take, Bool, false, true, ◌≤◌, length, arith, eq-eqb, cond}
use Rattle.std.specs.{Io.KnownBytes.{Appends}, List.{remove}, Prelude.{Err}}
use Rattle.plant_books.specs.declared.books.Books as books
use Rattle.plant_wire.specs.{Causes.{cause_text}, Marks.{IsFaultless, Last, Mark, answers_of, begun, breaking, calls_of, last_marks, last_text, malformed, mark_text, nothing, said}, Over.{RanNoting}}
use Rattle.plant_wire.specs.Step.{AnswersBroken, AnswersOne, AnswersPart, Stalls, StandsLast}
use Rattle.plant_wire.specs.Session.{IsIdle}
use Rattle.plant_wire_call.specs.declared.causes.Cause.{Cause}
use Rattle.plant_wire.specs.declared.{reads.End.{End, TheVariants.{BrokenInput, Fault}}, step.{Step.{Step}, Stop.{Stop}}}
use Rattle.plant_office.{specs.{Faults.{noted}, declared.office.Faults.{Faults}}, proofs.public.FaultLaws.{added_none}}
use Rattle.plant_server_log.specs.Log.{line_of}
use Rattle.plant_server_clients.specs.Events.{Event, IsToldBy, Log, Logs, Shows, Trial, accepting, answered, answers_in, broke, calls_in, came, closed, ended, failed}
use Rattle.plant_server_clients.specs.Events.{all_calls, arrivals, left, looking, marks_of, opened, port_in, reading, reports_in, seen_by, stopped, who, writing}
use Rattle.plant_server_clients.specs.{Causes.{Always, AreDue, CausedAt, ExpiredAt, OffersTo}, Drafts.{least_room_of_answers}}
use Rattle.plant_server_clients.specs.Stages.{AreOpenConnections, Goes, IsOpen, Leads, MayClose, Moves, Stage, end_for, served, ending, stage_by, stage_in}
use Rattle.plant_server_clients.specs.Service.{IsAccepting}
use Rattle.plant_server_clients.specs.Happens.{Answers, ConnectionState, Happened, Made, Moved, Passed, ServiceState, Turned, Went, connection_state}
use Rattle.plant_server_clients.proofs.Due.{due_answered, due_broke, due_came, due_closed, due_ended, due_failed, due_left, due_none, due_opened, due_stopped}
use Rattle.plant_server_clients.proofs.{Due.{due_then, late_cause}, Numbers.{lifted, lifted_closed, lifted_opened, lifted_put_off}, Leading.{makes_none, shows_untold}}
use Rattle.plant_server_clients.proofs.{Texts.{cause_some, mark_some, stop_faultless}, Waited.{idle_stage}}
use Rattle.plant_server_clients.specs.declared.connections.{Asked.{Asked}, Connection.{Connection}}

own_goes : (k : ℕ) (s s' : Stage) (e : Event) → who e ≡ k → Moves s e s' → Goes k s e s'
own_goes k s s' e is moves = record { own = λ w. moves; other = λ n. absurd (n is) }

-- one event of which the log of lines has nothing
went_one : (l l' : Connection) (e : Event) → l'.number ≡ l.number → who e ≡ l.number → IsToldBy e [] → reports_in e ≡ [] → Moves (stage_in l) e (stage_in l')
    → Went (e ∷ []) l l'
went_one l l' e same is untold unasked moves = record {
  own = (is, tt);
  same = same;
  untold = ([], [], untold, refl, refl);
  unasked = append-nil (reports_in e) ∙ unasked;
  leads = (stage_in l', own_goes l.number (stage_in l) (stage_in l') e is moves, refl);
}

went_none : (l l' : Connection) → l'.number ≡ l.number → stage_in l' ≡ stage_in l → Went [] l l'
went_none l l' same stays = record { own = tt; same = same; untold = refl; unasked = refl; leads = stays }

not_writing : {A : Type 0} → reading ≡ writing → A
not_writing is = cc

pub not_reading : {A : Type 0} → writing ≡ reading → A
not_reading is = cc

module _ (seen seen' : Option (List Event)) (l l' : Connection) (same : l'.number ≡ l.number) where
  -- nothing was tried
  pub moved_none : (reads : Bool) (trial : Trial) → (trial ≡ writing → l.pending.text.items ≡ [])
      → (reads ≡ true → trial ≡ reading → stage_in l ≡ served [] [] → ⊥) → l'.pending.text.items ≡ l.pending.text.items
      → Logs seen seen' [] → stage_in l' ≡ stage_in l → Moved seen seen' l l' reads trial true
  moved_none reads trial empty held sent logged stays = record {
    events = [];
    quiet = tt;
    arrives = record { one = omega arith; none = λ _. refl };
    logged = logged;
    went = went_none l l' same stays;
    due = due_none;
    offers = λ is some. some (empty is);
    tries = λ on is free. absurd (held on is free);
    waits = λ _ _. record { none = refl; pending = sent };
    lost = λ (no : true ≡ false). cc;
  }

  pub moved_came : (bytes : List ℕ) → Logs seen seen' (came l.number bytes ∷ []) → IsOpen l.unread.items l.pending.text.items → l.end ≡ None
      → stage_in l' ≡ served (l.unread.items ++ bytes) [] → Moved seen seen' l l' true reading true
  moved_came bytes logged idle is after = record {
    events = came l.number bytes ∷ [];
    quiet = (refl, refl, tt);
    arrives = record { one = omega arith; none = λ (no : true ≡ false). cc };
    logged = logged;
    went = went_one l l' (came l.number bytes) same refl refl refl (rw is (idle, after));
    due = λ before. due_came before l.number bytes;
    offers = λ is. not_writing is;
    tries = λ _ _ _. inl (bytes, refl);
    waits = λ _ some. absurd (some idle.0);
    lost = λ (no : true ≡ false). cc;
  }

  pub moved_ended : Logs seen seen' (ended l.number ∷ []) → IsOpen l.unread.items l.pending.text.items → l.end ≡ None
      → stage_in l' ≡ ending (end_for l.unread.items) [] → Moved seen seen' l l' true reading true
  moved_ended logged idle is after = record {
    events = ended l.number ∷ [];
    quiet = (refl, refl, tt);
    arrives = record { one = omega arith; none = λ (no : true ≡ false). cc };
    logged = logged;
    went = went_one l l' (ended l.number) same refl refl refl (rw is (idle, after));
    due = λ before. due_ended before l.number;
    offers = λ is. not_writing is;
    tries = λ _ _ _. inr (inl refl);
    waits = λ _ some. absurd (some idle.0);
    lost = λ (no : true ≡ false). cc;
  }

  -- memory ran out for the bytes that arrived
  pub moved_lost : (bytes : List ℕ) → Logs seen seen' (came l.number bytes ∷ []) → IsOpen l.unread.items l.pending.text.items → l.end ≡ None
      → stage_in l' ≡ ending Fault [] → Moved seen seen' l l' true reading true
  moved_lost bytes logged idle is after = record {
    events = came l.number bytes ∷ stopped l.number nothing ∷ [];
    quiet = (refl, refl, (refl, refl, tt));
    arrives = record { one = omega arith; none = λ (no : true ≡ false). cc };
    logged = logged;
    went = record {
      own = (refl, (refl, tt));
      same = same;
      untold = ([], [], refl, ([], [], refl, refl, refl), refl);
      unasked = refl;
      leads = rw is (
        served (l.unread.items ++ bytes) [],
        own_goes l.number (served l.unread.items l.pending.text.items) (served (l.unread.items ++ bytes) []) (came l.number bytes) refl (idle, refl),
        (
          stage_in l',
          own_goes l.number (served (l.unread.items ++ bytes) []) (stage_in l') (stopped l.number nothing) refl (refl, tt, tt, after),
          refl,
        ),
      );
    };
    due = λ before.
        due_then before (came l.number bytes ∷ []) (stopped l.number nothing ∷ []) (due_came before l.number bytes)
        (due_stopped (Some (came l.number bytes)) l.number nothing);
    offers = λ is. not_writing is;
    tries = λ _ _ _. inl (bytes, refl);
    waits = λ _ some. absurd (some idle.0);
    lost = λ (no : true ≡ false). cc;
  }

  left_moves : (u p rest bytes : List ℕ) (e : Option End) → p ≡ bytes ++ rest → Moves (stage_by u p e) (left l.number bytes) (stage_by u rest e)
  left_moves u p rest bytes None split = (rest, split, refl)
  left_moves u p rest bytes (Some e) split = (rest, split, refl)

  pub moved_left : (bytes rest : List ℕ) → Logs seen seen' (left l.number bytes ∷ []) → l.pending.text.items ≡ bytes ++ rest
      → stage_in l' ≡ stage_by l.unread.items rest l.end → Moved seen seen' l l' false writing true
  moved_left bytes rest logged split after = record {
    events = left l.number bytes ∷ [];
    quiet = (refl, refl, tt);
    arrives = record { one = omega arith; none = λ _. refl };
    logged = logged;
    went = went_one l l' (left l.number bytes) same refl refl refl
        (subst (λ (s : Stage). Moves (stage_in l) (left l.number bytes) s) (sym after)
        (left_moves l.unread.items l.pending.text.items rest bytes l.end split));
    due = λ before. due_left before l.number bytes;
    offers = λ _ _. inl (bytes, refl);
    tries = λ _ is. not_reading is;
    waits = λ is. not_reading is;
    lost = λ (no : true ≡ false). cc;
  }

  failed_moves : (u p : List ℕ) (e : Option End) (trial : Trial) → Moves (stage_by u p e) (failed l.number trial) (stage_by u p e)
  failed_moves u p None trial = refl
  failed_moves u p (Some e) trial = refl

  -- what was tried failed
  pub moved_failed : (reads : Bool) (trial : Trial) → (trial ≡ reading → l.pending.text.items ≡ [])
      → Logs seen seen' (failed l.number trial ∷ []) → stage_in l' ≡ stage_in l → Moved seen seen' l l' reads trial false
  moved_failed reads trial empty logged stays = record {
    events = failed l.number trial ∷ [];
    quiet = (refl, refl, tt);
    arrives = record { one = omega arith; none = λ _. refl };
    logged = logged;
    went = went_one l l' (failed l.number trial) same refl refl refl
        (subst (λ (s : Stage). Moves (stage_in l) (failed l.number trial) s) (sym stays)
        (failed_moves l.unread.items l.pending.text.items l.end trial));
    due = λ before. due_failed before l.number trial;
    offers = λ is _. inr (ap (failed l.number) is);
    tries = λ _ is _. inr (inr (inl (ap (failed l.number) is)));
    waits = λ is some. absurd (some (empty is));
    lost = λ _ before. refl;
  }

  -- a read found nothing yet
  pub moved_looked : Logs seen seen' (failed l.number looking ∷ []) → l.pending.text.items ≡ [] → stage_in l' ≡ stage_in l
      → Moved seen seen' l l' true reading true
  moved_looked logged empty stays = record {
    events = failed l.number looking ∷ [];
    quiet = (refl, refl, tt);
    arrives = record { one = omega arith; none = λ _. refl };
    logged = logged;
    went = went_one l l' (failed l.number looking) same refl refl refl
        (subst (λ (s : Stage). Moves (stage_in l) (failed l.number looking) s) (sym stays)
        (failed_moves l.unread.items l.pending.text.items l.end looking));
    due = λ before. due_failed before l.number looking;
    offers = λ is. not_writing is;
    tries = λ _ _ _. inr (inr (inr refl));
    waits = λ _ some. absurd (some empty);
    lost = λ (no : true ≡ false). cc;
  }

few_calls : (ms : List Mark) → length ms ≤ 1 → length (calls_of ms ++ []) ≤ 1
few_calls [] few = omega arith
few_calls (said call answer ∷ []) few = omega arith
few_calls (malformed cause ∷ []) few = omega arith
few_calls (m ∷ n ∷ ms) few = absurd (omega arith)

one_last : (last : Last) → length (last_marks last) ≤ 1
one_last nothing = omega arith
one_last (begun m) = omega arith
one_last (breaking cause) = omega arith

marked : (k : ℕ) (mark : Mark) → marks_of k (answered k mark ∷ []) ≡ [] → ⊥
marked k mark none =
    let some : mark ∷ [] ≡ [] = ap (λ b. cond b (mark ∷ []) [] ++ []) (sym (eq-eqb k k refl)) ∙ none in
    cc

-- after the cause that breaks its stream, or an answer that stopped, a connection is served no more
ends_broken : (k : ℕ) (u v : List ℕ) (cause : Cause) (s : Stage) → s ≡ served u [] → Leads k s (broke k cause ∷ []) (served v []) → ⊥
ends_broken k u v cause s at (mid, goes, is) =
    let moved = subst (λ (x : Stage). Moves x (broke k cause) mid) at (goes.own refl) in
    let no : served v [] ≡ ending BrokenInput (cause_text cause) = is ∙ moved.2 in
    cc

ends_stopped : (k : ℕ) (u v : List ℕ) (last : Last) (s : Stage) → s ≡ served u [] → Leads k s (stopped k last ∷ []) (served v []) → ⊥
ends_stopped k u v last s at (mid, goes, is) =
    let moved = subst (λ (x : Stage). Moves x (stopped k last) mid) at (goes.own refl) in
    let no : served v [] ≡ ending Fault [] = is ∙ moved.3 in
    cc

-- the answer of a connection, or the cause that breaks its stream, if it is offered at once
abbrev DueBefore : Connection → Connection → Event → Type 0
DueBefore l l' e = (last : Option Event) (later : List Event) → ((each : Option Event) → AreDue each later)
    → (l'.pending.text.items ≢ [] → OffersTo l.number later) → AreDue last (e ∷ later)

module _ {B : Type 0} (b : books.Ghosts B) (x y : B) (f g : Faults) (honest : b.is_honest y → b.is_honest x) (l l' : Connection)
    (same : l'.number ≡ l.number) where
  -- no request was answered, since none is whole
  pub made_waiting : RanNoting b x y f g [] [] → stage_in l' ≡ stage_in l → l'.pending.text.items ≡ l.pending.text.items
      → IsIdle l.unread.items → Made b x y f g l l' true
  made_waiting ran stays sent idle = record {
    events = [];
    unseen = refl;
    makes = record { ran = ran.0; honest = honest };
    notes = ran.1;
    went = went_none l l' same stays;
    once = omega arith;
    answers = λ _ u at busy none v leads. busy (idle_stage l.unread.items l.pending.text.items l.end u (λ _ _. idle) at);
    asks = λ _. tt;
    calm = refl;
    waits = λ _. record { none = refl; pending = sent };
    due = λ last later each offers. each last;
  }

  made_one : (e : Event) → who e ≡ l.number → (port_in e ≡ []) → IsToldBy e [] → reports_in e ≡ [] → l.pending.text.items ≡ []
      → RanNoting b x y f g (calls_in e) (answers_in e) → Moves (stage_in l) e (stage_in l') → length (all_calls (e ∷ [])) ≤ 1 → Answers l (e ∷ [])
      → length (arrivals (e ∷ [])) ≡ 0 → DueBefore l l' e
      → Made b x y f g l l' true
  made_one e is unseen untold unasked empty ran moves few answers calm due = record {
    events = e ∷ [];
    unseen = append-nil (port_in e) ∙ unseen;
    makes = (y, record { ran = ran.0; honest = honest }, makes_none b y);
    notes = ran.1 ∙ ap (noted f) (sym (append-nil (answers_in e)));
    went = went_one l l' e same is untold unasked moves;
    once = few;
    answers = λ _. answers;
    asks = λ no. cc;
    calm = calm;
    waits = λ some. absurd (some empty);
    due = due;
  }

  module _ (is : l.end ≡ None) (empty : l.pending.text.items ≡ []) (before : List ℕ) (none_before : before ≡ []) where
    -- one request was answered
    pub made_answered : (n : ℕ) → AnswersOne l.unread.items (Some before) (Some l'.pending.text.items) (RanNoting b x y f g) n
        → stage_in l' ≡ served (drop n l.unread.items) l'.pending.text.items → Made b x y f g l l' true
    made_answered n a now =
        let text : l'.pending.text.items ≡ mark_text a.mark = a.writes ∙ ap (λ (t : List ℕ). t ++ mark_text a.mark) none_before in
        made_one (answered l.number a.mark) refl refl refl refl empty a.served (rw is (empty, (n, a.stands, now ∙ ap (served (drop n l.unread.items)) text)))
        (few_calls (a.mark ∷ []) (omega arith)) (λ u at busy none. absurd (marked l.number a.mark none)) refl
        (λ last later each offers.
        due_answered last l.number a.mark later (offers (λ gone_text. mark_some a.mark (sym text ∙ gone_text))) (each (Some (answered l.number a.mark))))

    -- the cause that breaks the stream was answered
    pub made_broke : AnswersBroken l.unread.items (Some before) (Some l'.pending.text.items) (RanNoting b x y f g)
        → stage_in l' ≡ ending BrokenInput l'.pending.text.items → Made b x y f g l l' true
    made_broke a now =
        let text : l'.pending.text.items ≡ cause_text a.cause = a.writes ∙ ap (λ (t : List ℕ). t ++ cause_text a.cause) none_before in
        made_one (broke l.number a.cause) refl refl refl refl empty a.served (rw is (empty, a.stands, now ∙ ap (ending BrokenInput) text))
        (omega arith) (λ u at busy none v leads. ends_broken l.number u v a.cause (stage_in l) at leads) refl
        (λ last later each offers.
        due_broke last l.number a.cause later (offers (λ gone_text. cause_some a.cause (sym text ∙ gone_text))) (each (Some (broke l.number a.cause))))

    -- memory ran out for what was begun
    made_stopped : (last : Last) → StandsLast l.unread.items last → IsFaultless last → RanNoting b x y f g (calls_of (last_marks last)) (answers_of (last_marks last))
        → stage_in l' ≡ ending Fault [] → Made b x y f g l l' true
    made_stopped last stands why ran now =
        made_one (stopped l.number last) refl refl refl refl empty ran (rw is (empty, stands, why, now))
        (few_calls (last_marks last) (one_last last)) (λ u at busy none v leads. ends_stopped l.number u v last (stage_in l) at leads) refl
        (λ before later each offers.
        due_then before (stopped l.number last ∷ []) later (due_stopped before l.number last) (each (Some (stopped l.number last))))

    pub made_part : (stop : Stop) (after : List ℕ) (lost : ℕ) (short : Bool) → AnswersPart l.unread.items (Some before) (Some after) (RanNoting b x y f g) stop
        → Stalls {A = Step} lost (cond short 1 0) (Err stop) → (short ≡ true → least_room_of_answers ≤ length after)
        → stage_in l' ≡ ending Fault [] → Made b x y f g l l' true
    made_part stop after lost short a stalls full now =
        let text : after ≡ take a.part (last_text a.last) = a.writes ∙ ap (λ (t : List ℕ). t ++ take a.part (last_text a.last)) none_before in
        made_stopped a.last a.stands (stop_faultless a.last a.part lost short stop a.why stalls
        (λ is_short. subst (λ (t : List ℕ). least_room_of_answers ≤ length t) text (full is_short))) a.served now

-- memory ran out before anything was begun
pub made_short : {B : Type 0} (b : books.Ghosts B) (x : B) (f : Faults) (l l' : Connection) → l'.number ≡ l.number → l.end ≡ None → l.pending.text.items ≡ []
    → stage_in l' ≡ ending Fault [] → Made b x x f f l l' true
made_short b x f l l' same is empty now =
    made_stopped b x x f f (λ t. t) l l' same is empty [] refl nothing tt tt ((makes_none b x).ran, sym (added_none f)) now

pub made_none : {B : Type 0} (b : books.Ghosts B) (x : B) (f : Faults) (l : Connection) (serves : Bool)
    → (serves ≡ true → (u : List ℕ) → stage_in l ≡ served u [] → IsIdle u) → Made b x x f f l l serves
made_none b x f l serves idle = record {
  events = [];
  unseen = refl;
  makes = makes_none b x;
  notes = sym (added_none f);
  went = went_none l l refl refl;
  once = omega arith;
  answers = λ is u at busy none v leads. busy (idle is u at);
  asks = λ _. tt;
  calm = refl;
  waits = λ _. record { none = refl; pending = refl };
  due = λ last later each offers. each last;
}

-- the service, after the connection at this place had a turn
abbrev pub turned_at : ServiceState → ℕ → ConnectionState → ServiceState
turned_at s at after = record {
  seen = seen_by after.seen s.seen.log;
  count = s.count;
  connections = slice_set s.connections at after.connection;
}

-- one connection, among all
module _ {B : Type 0} {b : books.Ghosts B} {x y : B} {l : Connection} {after : ConnectionState} {asked : Asked} {over : Option End}
    (s : ServiceState) (at : ℕ) (ok : AreOpenConnections s.count s.connections) (is : slice_get s.connections at ≡ Some l)
    (p : Turned b x y (connection_state s.seen.ports l) after asked over) where
  pub happened_connection : Happened b x y s (turned_at s at after)
  happened_connection = record {
    events = p.events;
    shown = shows_untold s.seen.ports after.seen s.seen.log p.events p.logged p.went.untold;
    makes = p.makes;
    leads = lifted s.count s.connections at l after.connection p.events ok is p.went.same p.went.own p.went.leads;
  }

  pub events_connection : happened_connection.events ≡ p.events
  unfolding happened_connection
  events_connection = refl

-- what the log of lines gets for a close
shows_closed : (s t : Option (List Event)) (log log' : Option (List ℕ)) (k : ℕ) (end : End) (part : ℕ)
    → Logs s t (closed k end ∷ []) → Appends log log' (take part (line_of (k + 1) end)) → Shows (seen_by s log) (seen_by t log') (closed k end ∷ [])
shows_closed s t log log' k end part logged written = record {
  logged = logged;
  text = take part (line_of (k + 1) end);
  told = (take part (line_of (k + 1) end), [], (part, refl), refl, sym (append-nil (take part (line_of (k + 1) end))));
  written = written;
}

pub passed_closed : (s : ServiceState) (ports : Log) (log : Option (List ℕ)) (at : ℕ) (l : Connection) (end : End)
    → AreOpenConnections s.count s.connections → slice_get s.connections at ≡ Some l
    → MayClose l end → Logs s.seen.ports ports (closed l.number end ∷ [])
    → (part : ℕ) × Appends s.seen.log log (take part (line_of (l.number + 1) end))
    → Passed (CausedAt s.connections at end) false s (record { seen = seen_by ports log; count = s.count; connections = remove s.connections at })
passed_closed s ports log at l end ok is may logged (part, written) = record {
  events = closed l.number end ∷ [];
  quiet = (refl, refl, tt);
  one = (l.number, (refl, tt));
  unasked = refl;
  due = λ before cause. due_closed before l.number end (cause l is);
  arrives = record { one = omega arith; none = λ _. refl };
  shown = shows_closed s.seen.ports ports s.seen.log log l.number end part logged written;
  leads = lifted_closed s.count s.connections at l end ok is may;
}

pub passed_opened : (s : ServiceState) (ports : Log) (l : Connection) → AreOpenConnections s.count s.connections → l.number ≡ s.count
    → stage_in l ≡ served [] [] → Logs s.seen.ports ports (opened s.count ∷ [])
    → Passed Always true s (record { seen = seen_by ports s.seen.log; count = s.count + 1; connections = s.connections ++ l ∷ [] })
passed_opened s ports l ok is new logged = record {
  events = opened s.count ∷ [];
  quiet = (refl, refl, tt);
  one = (s.count, (refl, tt));
  unasked = refl;
  due = λ before _. due_opened before s.count;
  arrives = record { one = omega arith; none = λ (no : true ≡ false). cc };
  shown = shows_untold s.seen.ports ports s.seen.log (opened s.count ∷ []) logged ([], [], refl, refl, refl);
  leads = lifted_opened s.count s.connections l ok is new;
}

-- the next connection could not be accepted
pub passed_put_off : (s : ServiceState) (ports : Log) → Logs s.seen.ports ports (failed s.count accepting ∷ [])
    → Passed Always true s (record { seen = seen_by ports s.seen.log; count = s.count; connections = s.connections })
passed_put_off s ports logged = record {
  events = failed s.count accepting ∷ [];
  quiet = (refl, refl, tt);
  one = (s.count, (refl, tt));
  unasked = refl;
  due = λ before _. due_failed before s.count accepting;
  arrives = record { one = omega arith; none = λ _. refl };
  shown = shows_untold s.seen.ports ports s.seen.log (failed s.count accepting ∷ []) logged ([], [], refl, refl, refl);
  leads = lifted_put_off s.count s.connections;
}

-- accepting it was tried
pub tried_put_off : (n : ℕ) (s : ServiceState) (ports : Log) → Logs s.seen.ports ports (failed s.count accepting ∷ [])
    → IsAccepting n s (record { seen = seen_by ports s.seen.log; count = s.count; connections = s.connections })
unfolding passed_put_off
tried_put_off n s ports logged = (passed_put_off s ports logged, λ _. (s.count, inr refl))

pub tried_opened : (n : ℕ) (s : ServiceState) (ports : Log) (l : Connection) → AreOpenConnections s.count s.connections → l.number ≡ s.count
    → stage_in l ≡ served [] [] → Logs s.seen.ports ports (opened s.count ∷ [])
    → IsAccepting n s (record { seen = seen_by ports s.seen.log; count = s.count + 1; connections = s.connections ++ l ∷ [] })
unfolding passed_opened
tried_opened n s ports l ok is new logged = (passed_opened s ports l ok is new logged, λ _. (s.count, inl refl))

-- the same, where the time of the connection is over
pub passed_expired : {s t : ServiceState} (at : ℕ) (end : End) → Passed (CausedAt s.connections at end) false s t
    → Passed (ExpiredAt s.connections at) false s t
passed_expired at end p = record {
  events = p.events;
  quiet = p.quiet;
  one = p.one;
  unasked = p.unasked;
  due = λ before late. p.due before (λ l is. late_cause before l.number end (late l is));
  arrives = p.arrives;
  shown = p.shown;
  leads = p.leads;
}
