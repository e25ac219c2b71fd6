-- What is owed, over turns one after another.
use Rattle.std.proofs.Common.{◌≡◌, ◌≢◌, ℕ, suc, List, [], ◌∷◌, ◌++◌, Bool, true, false, Option, None, Some, refl, sym, ap, subst, ◌∙◌, length, inl, inr, slice_get}
use Rattle.std.proofs.Common.{arith, ◌+◌, ◌≤◌, length-append, slice_set}
use Rattle.std.{proofs.lemmas.Grind.{flat_map-append}, specs.{List.{remove}, Prelude.{IfSome}}}
use Rattle.plant_wire_call.specs.Cut.{WaitsBelow}
use Rattle.plant_wire.specs.declared.reads.End.{End}
use Rattle.plant_books.specs.declared.books.Books as books
use Rattle.plant_server_clients.specs.{Accounts.{AtEachMoment}, Causes.{Always, CausedAt, HasCause, HasReported, IsDueTo, OffersTo, last_of}}
use Rattle.plant_server_clients.specs.Events.{Event, Logs, Seen, arrivals, calls_for, marks_of, reported, reports}
use Rattle.plant_server_clients.specs.{Fairness.{IsFair, IsSoon, IsSteady}, Happens.{ConnectionState, Happened, Passed, ServiceState, Turned, connection_state, stages}}
use Rattle.plant_server_clients.specs.Service.{AnswersFrom, IsRound, IsTurn, IsTurnAt, IsUnderWay, IsWithinRound, new_service}
use Rattle.plant_server_clients.specs.{Happens.{Answers}, Heeded.{AreHeeded, IsReading, Starts, pending_at}, Service.{IsDueTurn}}
use Rattle.plant_server_clients.specs.declared.serving.Due.{Due}
use Rattle.plant_server_clients.specs.{Paces.{AreKept, AreRising, IsPaced, IsStill, Keeps, Splits, numbers}, Prompt.{ArePrompt}}
use Rattle.plant_server_clients.specs.Stages.{AreOpenConnections, Leads, Stage, IsNoneNumbered, fresh, served, stage_by, stage_in, stage_of}
use Rattle.plant_server_clients.proofs.Handled.{events_connection, happened_connection, turned_at}
use Rattle.plant_server_clients.proofs.Leading.{events_asked, events_none, events_passed, events_then, happened_asked, happened_none, happened_passed, reports-append, sees, unasked_then}
use Rattle.plant_server_clients.proofs.{Due.{due_none, due_reported, last_then, connection_cause}, Numbers.{lifted, none_yet, nothing_pending, set_got, set_connections, stage_at, unnumbered}}
use Rattle.plant_server_clients.proofs.{Leading.{happened_then}, Soon.{answers_more, answers_next, answers_start, offers_more, keeps_up_none, recent_end, starts_more}, Waited.{none_of, open_of}}
use Rattle.plant_server_clients.proofs.Paced.{alone_keeps, come_keeps, fair_of, keeps_end, keeps_then, nothing_owed, numbers_length, numbers_removed, numbers_set, quiet_keeps, splits_here, splits_past, splits_removed, steady_of, turn_keeps}
use Rattle.plant_server_clients.specs.declared.{connections.{Asked.{Asked}, Connection.{Connection}}, ports.Ready.{Ready}}

-- it is read first of all, if nothing of it is left; or sent what is still to be sent
abbrev pub Tries : Connection → List Event → Type 0
Tries l es = stage_in l ≡ served [] [] → Starts (IsReading l.number) es

abbrev pub Offers : Connection → List Event → Type 0
Offers l es = l.pending.text.items ≢ [] → OffersTo l.number es

some_same : {A : Type 0} (x y : A) → Some x ≡ Some y → x ≡ y
some_same x y is = cc

-- no call
module _ {B : Type 0} (b : books.Ghosts B) (x : B) {s t : ServiceState} {cause : Option Event → Type 0} {comes : Bool} (p : Passed cause comes s t) where
  pub by_events : (given : Option Event → Type 0) (a c : ℕ) → Keeps given a c (stages s) p.events
      → Keeps given a c (stages s) (happened_passed {b = b} {x = x} p).events
  by_events given a c keeps = subst (Keeps given a c (stages s)) (sym (events_passed b x p)) keeps

  -- nothing came
  pub passed_keeps : comes ≡ false → (a : ℕ) → Keeps cause a a (stages s) (happened_passed {b = b} {x = x} p).events
  passed_keeps shut a = by_events cause a a (quiet_keeps cause a (stages s) p.events p.quiet (p.arrives.none shut) p.due)

  module _ (given : Option Event → Type 0) (gives : (before : Option Event) → given before → cause before) where
    pub passed_busy : Keeps given 0 t.count (stages s) (happened_passed {b = b} {x = x} p).events
    passed_busy =
        by_events given 0 t.count
        (come_keeps given t.count t.connections (stages s) p.events p.quiet p.arrives.one p.leads (λ before now. p.due before (gives before now)))

    pub passed_alone : ArePrompt s.connections → Keeps given 0 0 (stages s) (happened_passed {b = b} {x = x} p).events
    passed_alone are =
        by_events given 0 0
        (alone_keeps given 0 0 p.one.0 s.count s.connections p.events are p.one.1 (λ before now. p.due before (gives before now)))

    -- as a turn
    unfoldable pub turn_passed : (serves : Bool) → IsTurn given b x x s t serves
    turn_passed serves = record {
      happened = happened_passed p;
      unasked = ap reports (events_passed b x p) ∙ p.unasked;
      alone = λ _ are. passed_alone are;
      busy = λ _. passed_busy;
    }

pub none_keeps : {B : Type 0} (b : books.Ghosts B) (x : B) (s : ServiceState) (given : Option Event → Type 0) (a : ℕ)
    → Keeps given a a (stages s) (happened_none {b = b} {x = x} {s = s}).events
none_keeps b x s given a =
    subst (Keeps given a a (stages s)) (sym (events_none b x s)) (quiet_keeps given a (stages s) [] tt refl (λ before _. due_none before))

pub none_busy : {B : Type 0} (b : books.Ghosts B) (x : B) (s : ServiceState) (given : Option Event → Type 0)
    → Keeps given 0 s.count (stages s) (happened_none {b = b} {x = x} {s = s}).events
none_busy b x s given =
    subst (Keeps given 0 s.count (stages s)) (sym (events_none b x s))
    (come_keeps given s.count s.connections (stages s) [] tt (omega arith) (λ k. refl) (λ before _. due_none before))

-- nothing was done
unfoldable pub turn_none : {B : Type 0} (b : books.Ghosts B) (x : B) (s : ServiceState) (given : Option Event → Type 0) (serves : Bool)
    → IsTurn given b x x s s serves
turn_none b x s given serves =
    record {
      happened = happened_none;
      unasked = ap reports (events_none b x s);
      alone = λ _ _. none_keeps b x s given 0;
      busy = λ _. none_busy b x s given;
    }

-- a turn, whatever is given
unfoldable pub turn_given : {B : Type 0} {b : books.Ghosts B} {x y : B} {s t : ServiceState} {serves : Bool} (given : Option Event → Type 0)
    → IsTurn Always b x y s t serves → IsTurn given b x y s t serves
turn_given given p =
    record { happened = p.happened; unasked = p.unasked; alone = λ now are es _. p.alone now are es tt; busy = λ now es _. p.busy now es tt }

-- one part after another
module _ {B : Type 0} {b : books.Ghosts B} {x y z : B} {s t u : ServiceState} where
  pub joined_for : (given next : Option Event → Type 0) (a c d : ℕ) (p : Happened b x y s t) (q : Happened b y z t u)
      → Keeps given a c (stages s) p.events
      → ((es : List Event) → given (last_of None es) → ((k : ℕ) → Leads k fresh (es ++ p.events) (stages t k)) → next (last_of None (es ++ p.events)))
      → Keeps next c d (stages t) q.events → Keeps given a d (stages s) (happened_then p q).events
  joined_for given next a c d p q before gives after =
      subst (Keeps given a d (stages s)) (sym (events_then p q))
      (keeps_then given next a c d (stages s) (stages t) p.events q.events p.leads before gives after)

  pub joined : (given : Option Event → Type 0) (a c d : ℕ) (p : Happened b x y s t) (q : Happened b y z t u)
      → Keeps given a c (stages s) p.events
      → Keeps Always c d (stages t) q.events → Keeps given a d (stages s) (happened_then p q).events
  joined given a c d p q before after = joined_for given Always a c d p q before (λ _ _ _. tt) after

-- one connection
module _ {B : Type 0} {b : books.Ghosts B} {x y : B} {l : Connection} {after : ConnectionState} {asked : Asked} {over : Option End}
    (s : ServiceState) (at : ℕ) (ok : AreOpenConnections s.count s.connections) (is : slice_get s.connections at ≡ Some l)
    (p : Turned b x y (connection_state s.seen.ports l) after asked over) where
  pub of_connection : (a c : ℕ) → Keeps Always a c (stages s) p.events → Keeps Always a c (stages s) (happened_connection s at ok is p).events
  of_connection a c keeps = subst (Keeps Always a c (stages s)) (sym (events_connection s at ok is p)) keeps

  pub connection_alone : ArePrompt s.connections → Keeps Always 0 0 (stages s) (happened_connection s at ok is p).events
  connection_alone are =
      of_connection 0 0 (alone_keeps Always 0 0 l.number s.count s.connections p.events are p.one.own (λ before _. p.one.due before))

  pub connection_busy : asked.serves ≡ false → Keeps Always 0 s.count (stages s) (happened_connection s at ok is p).events
  connection_busy unserved =
      of_connection 0 s.count
      (come_keeps Always s.count (slice_set s.connections at after.connection) (stages s) p.events (p.one.quiet unserved) p.one.arrives.one
      (lifted s.count s.connections at l after.connection p.events ok is p.went.same p.went.own p.went.leads) (λ before _. p.one.due before))

  pub connection_paces : AreRising (numbers s.connections) → asked.reads ≡ false → asked.serves ≡ true → (bound : ℕ) (m : Connection)
      → slice_get s.connections at ≡ Some m → Splits bound (suc at) (numbers s.connections)
      → Keeps Always bound m.number (stages s) (happened_connection s at ok is p).events
  connection_paces rising unread serving bound m is_m splits =
      subst (λ (r : Connection). Keeps Always bound r.number (stages s) (happened_connection s at ok is p).events) (some_same l m (sym is ∙ is_m))
      (of_connection bound l.number (turn_keeps bound at s.count s.connections l p.events ok rising is splits (record {
        own = p.one.own;
        once = p.one.once;
        answers = λ _. p.one.answers serving;
        quiet = λ no. cc;
        arrives = record { one = p.one.arrives.one; none = λ _. p.one.arrives.none unread };
        due = p.one.due;
        tries = λ no _. cc;
        offers = p.one.offers;
      })))

  -- after it the connection may be closed so
  pub connection_closes : WaitsBelow after.connection.unread.items after.connection.wanted → (end : End) → over ≡ Some end → (es : List Event)
      → ((k : ℕ) → Leads k fresh (es ++ (happened_connection s at ok is p).events) (stages (turned_at s at after) k))
      → CausedAt (slice_set s.connections at after.connection) at end (last_of None (es ++ (happened_connection s at ok is p).events))
  connection_closes waits end now es leads m is_m =
      let l' = after.connection in
      let ls = slice_set s.connections at l' in
      let events = events_connection s at ok is p in
      let same : l' ≡ m = some_same l' m (sym (set_got s.connections at l l' is) ∙ is_m) in
      let due : IsDueTo l' end p.events = subst (λ (o : Option End). IfSome o (λ how. IsDueTo l' how p.events)) now p.why in
      let stage : stage_of l'.number s.count ls ≡ stage_in l' =
      stage_at s.count ls at l' (set_connections s.count s.connections at l l' ok is p.went.same waits) (set_got s.connections at l l' is) in
      let at_it = subst (λ (es' : List Event). Leads l'.number fresh (es ++ es') (stage_in l')) events
      (subst (λ (st : Stage). Leads l'.number fresh (es ++ (happened_connection s at ok is p).events) st) stage (leads l'.number)) in
      subst (λ (r : Connection). HasCause (last_of None (es ++ (happened_connection s at ok is p).events)) r.number end) same
      (subst (λ (es' : List Event). HasCause (last_of None (es ++ es')) l'.number end) (sym events) (connection_cause l' end es p.events at_it due))

  -- what is true of the connection and its events, by other words for both
  pub of_own : (m : Connection) → slice_get s.connections at ≡ Some m → (P : Connection → List Event → Type 0) (es fs : List Event) → es ≡ fs
      → P l fs → P m es
  of_own m is_m P es fs same holds = subst (λ (r : Connection). P r es) (some_same l m (sym is ∙ is_m)) (subst (P l) (sym same) holds)

  -- a turn, after which it is still there
  unfoldable pub turn_stays : AreRising (numbers s.connections) → IsTurnAt b x y s (turned_at s at after) (record { at = at; asked = asked })
  turn_stays rising = record {
    turned = record {
      happened = happened_connection s at ok is p;
      unasked = ap reports (events_connection s at ok is p) ∙ p.went.unasked;
      alone = λ _ are. connection_alone are;
      busy = λ unserved. connection_busy unserved;
    };
    paces = connection_paces rising;
    others = inl (numbers_set s.connections at l after.connection is p.went.same);
    answers = λ serving m is_m.
        of_own m is_m Answers (happened_connection s at ok is p).events p.events (events_connection s at ok is p) (p.one.answers serving);
    tries = λ on m is_m.
        of_own m is_m Tries (happened_connection s at ok is p).events p.events (events_connection s at ok is p) (p.one.tries on);
    offers = λ m is_m.
        of_own m is_m Offers (happened_connection s at ok is p).events p.events (events_connection s at ok is p) p.one.offers;
  }

  -- a turn, after which it is closed
  unfoldable pub turn_closes : AreRising (numbers s.connections) → WaitsBelow after.connection.unread.items after.connection.wanted → (end : End)
      → over ≡ Some end → (u : ServiceState)
      → Passed (CausedAt (slice_set s.connections at after.connection) at end) false (turned_at s at after) u
      → u.count ≡ s.count → u.connections ≡ remove (slice_set s.connections at after.connection) at
      → IsTurnAt b x y s u (record { at = at; asked = asked })
  turn_closes rising waits end now u passed same gone =
      let first = happened_connection s at ok is p in
      let closed = happened_passed {b = b} {x = y} passed in
      let cause = CausedAt (slice_set s.connections at after.connection) at end in
      let all = p.events ++ passed.events in
      let whole : (happened_then first closed).events ≡ all =
      events_then first closed ∙ (λ i. events_connection s at ok is p i ++ events_passed b y passed i) in
      record {
        turned = record {
          happened = happened_then first closed;
          unasked = ap reports whole ∙ unasked_then p.events passed.events p.went.unasked passed.unasked;
          alone = λ _ are.
              joined_for Always cause 0 0 0 first closed (connection_alone are) (λ es _. connection_closes waits end now es)
              (passed_keeps b y passed refl 0);
          busy = λ unserved.
              subst (λ (m : ℕ). Keeps Always 0 m (stages s) (happened_then first closed).events) (sym same)
              (joined_for Always cause 0 s.count s.count first closed (connection_busy unserved) (λ es _. connection_closes waits end now es)
              (passed_keeps b y passed refl s.count));
        };
        paces = λ unread serving bound m is_m splits.
            joined_for Always cause bound m.number m.number first closed (connection_paces rising unread serving bound m is_m splits)
            (λ es _. connection_closes waits end now es) (passed_keeps b y passed refl m.number);
        others = inr (ap numbers gone ∙ numbers_removed (slice_set s.connections at after.connection) at
            ∙ ap (λ (ns : List ℕ). remove ns at) (numbers_set s.connections at l after.connection is p.went.same));
        answers = λ serving m is_m.
            of_own m is_m Answers (happened_then first closed).events all whole (answers_more l p.events passed.events (p.one.answers serving));
        tries = λ on m is_m.
            of_own m is_m Tries (happened_then first closed).events all whole
            (λ free. starts_more (IsReading l.number) p.events passed.events (p.one.tries on free));
        offers = λ m is_m.
            of_own m is_m Offers (happened_then first closed).events all whole
            (λ some. offers_more l.number p.events passed.events (p.one.offers some));
      }

-- what is still to be sent of a connection
pending_in : (u p : List ℕ) (e : Option End) → pending_at (stage_by u p e) ≡ p
pending_in u p None = refl
pending_in u p (Some end) = refl

-- the turn of a connection that may be read or takes bytes
pub due_turn : {B : Type 0} {b : books.Ghosts B} {x y : B} {s t : ServiceState} (due : Due) (serves : Bool) (at : ℕ) (l : Connection)
    → AreOpenConnections s.count s.connections → slice_get s.connections at ≡ Some l → l.number ≡ due.number
    → (p : IsTurnAt b x y s t (record { at = at; asked = record { reads = due.reads; serves = serves } }))
    → IsDueTurn due s p.turned.happened.events
due_turn {s = s} due serves at l ok is named p =
    let stage : stages s due.number ≡ stage_in l = ap (stages s) (sym named) ∙ stage_at s.count s.connections at l ok is in
    record {
      tries = λ on free. subst (λ (k : ℕ). Starts (IsReading k) p.turned.happened.events) named (p.tries on l is (sym stage ∙ free));
      offers = λ there at_it some.
          subst (λ (k : ℕ). OffersTo k p.turned.happened.events) named
          (p.offers l is (λ none. some (ap pending_at (sym at_it ∙ stage) ∙ pending_in l.unread.items l.pending.text.items l.end ∙ none)));
    }

-- no connection has this number
pub due_nowhere : (due : Due) (s : ServiceState) → IsNoneNumbered due.number s.connections → IsDueTurn due s []
due_nowhere due s none =
    let nowhere = unnumbered due.number s.connections none in
    record {
      tries = λ _ free. let it = open_of due.number s.count s.connections [] [] free in elsewhere it.0 (sym nowhere ∙ it.1);
      offers = λ there at_it some. absurd (some (ap pending_at (sym at_it) ∙ nothing_pending due.number s.count s.connections nowhere));
    }
  where
    elsewhere : {A : Type 0} (l : Connection) → None ≡ Some l → A
    elsewhere l is = cc

-- the next connection's turn, in a turn of all connections
unfoldable pub round_next : {B : Type 0} {b : books.Ghosts B} {x y z : B} {s t u : ServiceState} (i at : ℕ) (l : Connection) → i ≡ suc at
    → IsWithinRound b x y s t i → AreOpenConnections t.count t.connections → AreRising (numbers t.connections) → slice_get t.connections at ≡ Some l
    → IsTurnAt b y z t u (record { at = at; asked = record { reads = false; serves = true } }) → IsWithinRound b x z s u at
round_next {s = s} {t = t} {u = u} i at l e r ok rising is p = record {
  happened = happened_then r.happened p.turned.happened;
  bound = l.number;
  splits = elim p.others as (λ _. Splits l.number at (numbers u.connections)) [
    | inl same ↦ subst (Splits l.number at) (sym same) (splits_here t.connections at l rising is)
    | inr removed ↦ subst (Splits l.number at) (sym removed)
        (splits_removed l.number (numbers t.connections) at (splits_here t.connections at l rising is))
  ];
  keeps = joined Always s.count r.bound l.number r.happened p.turned.happened r.keeps
      (p.paces refl refl r.bound l is (subst (λ (j : ℕ). Splits r.bound j (numbers t.connections)) e r.splits));
  unasked = ap reports (events_then r.happened p.turned.happened)
      ∙ unasked_then r.happened.events p.turned.happened.events r.unasked p.turned.unasked;
  answers = subst (AnswersFrom l.number (stages s)) (sym (events_then r.happened p.turned.happened))
      (answers_next (stages s) (stages t) t.count r.bound at t.connections l r.happened.events p.turned.happened.events (λ k. refl)
      r.happened.leads ok rising is (subst (λ (j : ℕ). Splits r.bound j (numbers t.connections)) e r.splits)
      r.answers (p.answers refl l is));
}

-- where no connection is at the place
unfoldable pub round_past : {B : Type 0} {b : books.Ghosts B} {x y : B} {s t : ServiceState} (i at : ℕ) → i ≡ suc at → length t.connections ≤ at
    → IsWithinRound b x y s t i → IsWithinRound b x y s t at
round_past {t = t} i at e past r = record {
  happened = r.happened;
  bound = r.bound;
  splits = splits_past r.bound at (numbers t.connections) (omega (arith, numbers_length t.connections, past))
      (subst (λ (j : ℕ). Splits r.bound j (numbers t.connections)) e r.splits);
  keeps = r.keeps;
  unasked = r.unasked;
  answers = r.answers;
}

unfoldable pub round_start : {B : Type 0} {b : books.Ghosts B} {x : B} {s : ServiceState} (at : ℕ) → Splits s.count at (numbers s.connections)
    → IsWithinRound b x x s s at
round_start {b = b} {x = x} {s = s} at splits =
    record {
      happened = happened_none;
      bound = s.count;
      splits = splits;
      keeps = none_keeps b x s Always s.count;
      unasked = ap reports (events_none b x s);
      answers = subst (AnswersFrom s.count (stages s)) (sym (events_none b x s)) (answers_start s.count s.connections);
    }

unfoldable pub round_end : {B : Type 0} {b : books.Ghosts B} {x y : B} {s t : ServiceState} (i : ℕ) → i ≡ 0 → IsWithinRound b x y s t i
    → IsRound Always s.count b x y s t
round_end {s = s} {t = t} i e r = record {
  happened = r.happened;
  keeps = keeps_end Always s.count r.bound t.count t.connections (stages s) r.happened.events r.happened.leads
      (subst (λ (j : ℕ). Splits r.bound j (numbers t.connections)) e r.splits) r.keeps;
  unasked = r.unasked;
  recent = recent_end (stages s) (stages t) t.count r.bound t.connections r.happened.events r.unasked (λ k. refl) r.happened.leads
      (subst (λ (j : ℕ). Splits r.bound j (numbers t.connections)) e r.splits) r.answers;
}

pub way_leads : {B : Type 0} {b : books.Ghosts B} {x y : B} {seen : Seen} {now : ServiceState} {turns : ℕ} (w : IsUnderWay b x y seen now turns) (k : ℕ)
    → Leads k fresh w.happened.events (stages now k)
way_leads {now = now} w k = subst (λ (a : Stage). Leads k a w.happened.events (stages now k)) (none_yet k) (w.happened.leads k)

pub soon_none : AtEachMoment IsSoon []
soon_none = (keeps_up_none 0).soon

pub heeded_none : (n : ℕ) → AreHeeded n []
heeded_none n = (keeps_up_none n).heeded

-- a service from its start on
pub kept_none : AreKept 0 []
kept_none = record { due = due_none None; paced = paced; still = still; steady = λ es fs is. steady_of 0 es (subst (IsStill 0) (sym (none_of es fs (sym is)).0) still); fair = λ es fs is. fair_of 0 es (subst (IsPaced 0) (sym (none_of es fs (sym is)).0) paced) }
  where
    still : IsStill 0 []
    still es since k is waited =
        let none = ap (λ ys. length (arrivals ys)) (none_of es since (sym is)).1 in
        record { one = omega arith; none = λ _. none }

    paced : IsPaced 0 []
    paced es since k j is apart waited =
        nothing_owed 0 k j _ (ap (λ ys. length (calls_for j ys)) (none_of es since (sym is)).1)

pub steady_none : AtEachMoment IsSteady []
steady_none = kept_none.steady

pub fair_none : AtEachMoment IsFair []
fair_none = kept_none.fair

pub way_start : {B : Type 0} {b : books.Ghosts B} {x : B} {seen : Seen} (ls : List Connection) → ls ≡ []
    → IsUnderWay b x x seen (record { seen = seen; count = 0; connections = ls }) 0
way_start {b = b} {x = x} {seen = seen} ls e =
    subst (λ (ms : List Connection). IsUnderWay b x x seen (record { seen = seen; count = 0; connections = ms }) 0) (sym e)
    (record {
      happened = happened_none;
      kept = subst (AreKept 0) (sym (events_none b x (new_service seen))) kept_none;
      asked = omega arith;
    })

-- the ports were asked what can be done next
unfoldable pub way_asked : {B : Type 0} {b : books.Ghosts B} {x y : B} {seen : Seen} {now : ServiceState} {turns : ℕ} (ports : Option (List Event))
    (ready : Ready) → IsUnderWay b x y seen now turns → Logs now.seen.ports ports (reported ready ∷ [])
    → IsUnderWay b x y seen (sees now ports) (turns + 1)
way_asked {now = now} {turns = turns} ports ready w logged =
    let is = events_asked ports ready w.happened logged in
    record {
      happened = happened_asked ports ready w.happened logged;
      kept = subst (AreKept 0) (sym is)
          (quiet_keeps Always 0 (stages now) (reported ready ∷ []) (refl, refl, tt) refl (λ before _. due_reported before ready)
          w.happened.events tt (way_leads w) w.kept);
      asked = subst (λ (es : List Event). turns + 1 ≤ length (reports es)) (sym is)
          (omega (arith, reports-append w.happened.events (reported ready ∷ []), w.asked));
    }

pub way_last : {B : Type 0} {b : books.Ghosts B} {x y : B} {seen : Seen} {now : ServiceState} {turns : ℕ} (ports : Option (List Event))
    (ready : Ready) (w : IsUnderWay b x y seen now turns) (logged : Logs now.seen.ports ports (reported ready ∷ []))
    → HasReported ready (last_of None (way_asked ports ready w logged).happened.events)
unfolding way_asked
way_last ports ready w logged =
    ap (last_of None) (events_asked ports ready w.happened logged) ∙ last_then None w.happened.events (reported ready ∷ [])

unfoldable pub way_then : {B : Type 0} {b : books.Ghosts B} {x y z : B} {seen : Seen} {s t : ServiceState} {turns : ℕ} (given : Option Event → Type 0)
    → (w : IsUnderWay b x y seen s turns) → given (last_of None w.happened.events) → IsRound given 0 b y z s t
    → IsUnderWay b x z seen t turns
way_then {turns = turns} given w now r =
    let is = events_then w.happened r.happened in
    record {
      happened = happened_then w.happened r.happened;
      kept = subst (AreKept 0) (sym is) (r.keeps w.happened.events now (way_leads w) w.kept);
      asked = subst (λ (es : List Event). turns ≤ length (reports es)) (sym is)
          (omega (arith, reports-append w.happened.events r.happened.events, w.asked));
    }
