-- Events one after another.
use Rattle.std.proofs.Common.{arith, false, ◌≡◌, ◌+◌, ℕ, length, length-append, Bool, List, [], ◌∷◌, ◌++◌, Option, Some, None, inl, inr, refl, sym, ap, subst, ◌∙◌, append_assoc, append-nil}
use Rattle.std.specs.Prelude.{IfSome}
use Rattle.std.{proofs.{KnownBytes.{Appends-nil, Appends-trans}, lemmas.Grind.{flat_map-append}}}
use Rattle.plant_model.specs.declared.{call.Call.{Call}, reply.Answer.{Answer}}
use Rattle.plant_books.specs.declared.books.Books as books
use Rattle.plant_office.specs.{Enduring.{books_state}, Faults.{noted}}
use Rattle.plant_office.proofs.public.FaultLaws.{added_none}
use Rattle.plant_wire.proofs.public.Running.{ran_none, ran_joins}
use Rattle.plant_server_clients.specs.Books.{AreQuiet, IsMoment, Makes, MakesEach}
use Rattle.plant_server_clients.specs.Events.{AreTold, Event, Logs, Seen, Shows, all_answers, all_calls, answers_in, at_ports, calls_in, failed, port_in, reading}
use Rattle.plant_server_clients.specs.Events.{reported, reports, reports_in, seen_by, writing}
use Rattle.plant_server_clients.specs.Stages.{Leads, Moves, Stage, fresh, gone, served, ending, stage_in}
use Rattle.plant_server_clients.specs.Happens.{AreOf, Happened, IsTurnOf, Made, Moved, Passed, ServiceState, Turned, Went, ConnectionState, connection_state, stages}
use Rattle.plant_server_clients.specs.Faults.{reporting}
use Rattle.plant_server_clients.{proofs.Due.{due_none, last_then}, specs.Causes.{IsDueTo, last_of}}
use Rattle.plant_server_clients.specs.declared.{connections.{Asked.{Asked}, Connection.{Connection}}, ports.Ready.{Ready}}
use Rattle.plant_wire.specs.declared.reads.End.{End, TheVariants.{ReadFailed, WriteFailed}}
use Rattle.plant_office.specs.declared.office.Faults.{Faults}

pub leads_then : (k : ℕ) (s s' s'' : Stage) (es fs : List Event) → Leads k s es s' → Leads k s' fs s'' → Leads k s (es ++ fs) s''
leads_then k s s' s'' [] fs is later = subst (λ (t : Stage). Leads k t fs s'') is later
leads_then k s s' s'' (e ∷ es) fs (mid, goes, rest) later = (mid, goes, leads_then k mid s' s'' es fs rest later)

-- the events of another connection
pub leads_other : (k j : ℕ) (s : Stage) (es : List Event) → AreOf j es → (j ≡ k → ⊥) → Leads k s es s
leads_other k j s [] own differ = refl
leads_other k j s (e ∷ es) (is, own) differ =
    (s, record { own = λ w. absurd (differ (sym is ∙ w)); other = λ n. refl }, leads_other k j s es own differ)

pub own_then : (k : ℕ) (es fs : List Event) → AreOf k es → AreOf k fs → AreOf k (es ++ fs)
own_then k [] fs own later = later
own_then k (e ∷ es) fs (is, own) later = (is, own_then k es fs own later)

pub quiet_then : (es fs : List Event) → AreQuiet es → AreQuiet fs → AreQuiet (es ++ fs)
quiet_then [] fs quiet later = later
quiet_then (e ∷ es) fs (calls, answers, quiet) later = (calls, answers, quiet_then es fs quiet later)

pub told_then : (es fs : List Event) (xs ys : List ℕ) → AreTold es xs → AreTold fs ys → AreTold (es ++ fs) (xs ++ ys)
told_then [] fs xs ys is later = subst (λ (t : List ℕ). AreTold fs (t ++ ys)) (sym is) later
told_then (e ∷ es) fs xs ys (now, rest, first, told, is) later =
    (now, rest ++ ys, first, told_then es fs rest ys told later, ap (λ (t : List ℕ). t ++ ys) is ∙ append_assoc now rest ys)

-- how often the ports were asked
pub reports-append : (es fs : List Event) → length (reports (es ++ fs)) ≡ length (reports es) + length (reports fs)
reports-append es fs = ap length (flat_map-append reports_in es fs) ∙ length-append (reports es) (reports fs)

pub unasked_then : (es fs : List Event) → reports es ≡ [] → reports fs ≡ [] → reports (es ++ fs) ≡ []
unasked_then es fs none none_then = flat_map-append reports_in es fs ∙ (λ i. none i ++ none_then i)

pub logs_none : (a : Option (List Event)) → Logs a a []
logs_none None = tt
logs_none (Some x) = sym (append-nil x)

pub logs_then : (a b c : Option (List Event)) (es fs : List Event) → Logs a b es → Logs b c fs → Logs a c (es ++ fs)
logs_then None b c es fs p q = tt
logs_then (Some x) None c es fs p q = absurd p
logs_then (Some x) (Some y) None es fs p q = absurd q
logs_then (Some x) (Some y) (Some z) es fs p q = q ∙ ap (λ l. l ++ fs) p ∙ append_assoc x es fs

pub logged_then : (a b c : Option (List Event)) (es fs : List Event) → Logs a b (at_ports es) → Logs b c (at_ports fs)
    → Logs a c (at_ports (es ++ fs))
logged_then a b c es fs p q =
    subst (λ (t : List Event). Logs a c t) (sym (flat_map-append port_in es fs)) (logs_then a b c (at_ports es) (at_ports fs) p q)

pub shows_then : (a b c : Seen) (es fs : List Event) → Shows a b es → Shows b c fs → Shows a c (es ++ fs)
shows_then a b c es fs p q = record {
  logged = logged_then a.ports b.ports c.ports es fs p.logged q.logged;
  text = p.text ++ q.text;
  told = told_then es fs p.text q.text p.told q.told;
  written = Appends-trans a.log b.log c.log p.text q.text p.written q.written;
}

-- nothing of them is in the log of lines
pub shows_untold : (a b : Option (List Event)) (log : Option (List ℕ)) (es : List Event) → Logs a b (at_ports es) → AreTold es []
    → Shows (seen_by a log) (seen_by b log) es
shows_untold a b log es logged told = record { logged = logged; text = []; told = told; written = Appends-nil log }

module _ {B : Type 0} (b : books.Ghosts B) where
  pub makes_none : (x : B) → Makes b x x [] []
  makes_none x = record { ran = ran_none (books_state b x) (b.stores x); honest = λ t. t }

  pub makes_then : (x y z : B) (cs ds : List Call) (xs ys : List Answer) → Makes b x y cs xs → Makes b y z ds ys → Makes b x z (cs ++ ds) (xs ++ ys)
  makes_then x y z cs ds xs ys p q = record {
    ran =
        (ran_joins (books_state b x) (books_state b y) (books_state b z) (b.stores x) (b.stores y) (b.stores z)).join cs ds xs ys p.ran
        q.ran;
    honest = λ t. p.honest (q.honest t);
  }

  each_from : (x y z : B) (es : List Event) → Makes b x y [] [] → MakesEach b y es z → MakesEach b x es z
  each_from x y z [] first later = makes_then x y z [] [] [] [] first later
  each_from x y z (e ∷ es) first (mid, step, rest) = (mid, makes_then x y mid [] (calls_in e) [] (answers_in e) first step, rest)

  pub each_then : (x y z : B) (es fs : List Event) → MakesEach b x es y → MakesEach b y fs z → MakesEach b x (es ++ fs) z
  each_then x y z [] fs first later = each_from x y z fs first later
  each_then x y z (e ∷ es) fs (mid, step, rest) later = (mid, step, each_then mid y z es fs rest later)

  pub each_all : (x y : B) (es : List Event) → MakesEach b x es y → Makes b x y (all_calls es) (all_answers es)
  each_all x y [] made = made
  each_all x y (e ∷ es) (mid, step, rest) =
      makes_then x mid y (calls_in e) (all_calls es) (answers_in e) (all_answers es) step (each_all mid y es rest)

  each_split : (x y : B) (es fs : List Event) → MakesEach b x (es ++ fs) y
      → (mid : B) × Makes b x mid (all_calls es) (all_answers es) × MakesEach b mid fs y
  each_split x y [] fs made = (x, makes_none x, made)
  each_split x y (e ∷ es) fs (mid, step, rest) =
      let later = each_split mid y es fs rest in
      (later.0, makes_then x mid later.0 (calls_in e) (all_calls es) (answers_in e) (all_answers es) step later.1, later.2)

  pub moment : (x y : B) (events es fs : List Event) → events ≡ es ++ fs → MakesEach b x events y → IsMoment b x y es fs
  moment x y events es fs is made =
      let halves = each_split x y es fs (subst (λ (t : List Event). MakesEach b x t y) is made) in
      record { books = halves.0; made = halves.1; goes_on = each_all halves.0 y fs halves.2 }

  pub each_quiet : (x : B) (es : List Event) → AreQuiet es → MakesEach b x es x
  each_quiet x [] quiet = makes_none x
  each_quiet x (e ∷ es) (calls, answers, quiet) = (
    x,
    subst (λ (cs : List Call). Makes b x x cs (answers_in e)) (sym calls)
        (subst (λ (xs : List Answer). Makes b x x [] xs) (sym answers) (makes_none x)),
    each_quiet x es quiet,
  )

module _ {B : Type 0} {b : books.Ghosts B} {x : B} {s : ServiceState} where
  pub happened_none : Happened b x x s s
  happened_none = record {
    events = [];
    shown = record { logged = logs_none s.seen.ports; text = []; told = refl; written = Appends-nil s.seen.log };
    makes = makes_none b x;
    leads = λ k. refl;
  }

module _ {B : Type 0} {b : books.Ghosts B} {x y z : B} {s t u : ServiceState} where
  pub happened_then : Happened b x y s t → Happened b y z t u → Happened b x z s u
  happened_then p q = record {
    events = p.events ++ q.events;
    shown = shows_then s.seen t.seen u.seen p.events q.events p.shown q.shown;
    makes = each_then b x y z p.events q.events p.makes q.makes;
    leads = λ k. leads_then k (stages s k) (stages t k) (stages u k) p.events q.events (p.leads k) (q.leads k);
  }

module _ {B : Type 0} {b : books.Ghosts B} {x y : B} {s t : ServiceState} where
  pub happened_honest : Happened b x y s t → b.is_honest y → b.is_honest x
  happened_honest p = (each_all b x y p.events p.makes).honest

module _ {B : Type 0} {b : books.Ghosts B} {x : B} {s t : ServiceState} {cause : Option Event → Type 0} {comes : Bool} where
  pub happened_passed : Passed cause comes s t → Happened b x x s t
  happened_passed p = record { events = p.events; shown = p.shown; makes = each_quiet b x p.events p.quiet; leads = p.leads }

-- the events of these
pub events_then : {B : Type 0} {b : books.Ghosts B} {x y z : B} {s t u : ServiceState} (p : Happened b x y s t) (q : Happened b y z t u)
    → (happened_then p q).events ≡ p.events ++ q.events
unfolding happened_then
events_then p q = refl

pub events_passed : {B : Type 0} (b : books.Ghosts B) (x : B) {s t : ServiceState} {cause : Option Event → Type 0} {comes : Bool}
    (p : Passed cause comes s t) → (happened_passed {b = b} {x = x} p).events ≡ p.events
unfolding happened_passed
events_passed b x p = refl

pub events_none : {B : Type 0} (b : books.Ghosts B) (x : B) (s : ServiceState) → (happened_none {b = b} {x = x} {s = s}).events ≡ []
unfolding happened_none
events_none b x s = refl

-- the service, once the ports saw this
abbrev pub sees : ServiceState → Option (List Event) → ServiceState
sees s ports = record s { seen = seen_by ports s.seen.log }

-- nothing happened
pub passed_none : (cause : Option Event → Type 0) (comes : Bool) (s : ServiceState) (ports : Option (List Event)) → Logs s.seen.ports ports []
    → Passed cause comes s (sees s ports)
passed_none cause comes s ports logged = record {
  events = [];
  quiet = tt;
  one = (0, tt);
  unasked = refl;
  due = λ before _. due_none before;
  arrives = record { one = omega arith; none = λ _. refl };
  shown = shows_untold s.seen.ports ports s.seen.log [] logged refl;
  leads = λ k. refl;
}

-- the ports were asked what can be done next
reports_moves : (s : Stage) (ready : Ready) → Moves s (reported ready) s
reports_moves fresh ready = refl
reports_moves (served u p) ready = refl
reports_moves (ending end p) ready = refl
reports_moves gone ready = refl

pub reports_leads : (k : ℕ) (s : Stage) (ready : Ready) → Leads k s (reported ready ∷ []) s
reports_leads k s ready = (s, record { own = λ _. reports_moves s ready; other = λ _. refl }, refl)

pub happened_asked : {B : Type 0} {b : books.Ghosts B} {x y : B} {s t : ServiceState} (ports : Option (List Event)) (ready : Ready)
    → Happened b x y s t → Logs t.seen.ports ports (reported ready ∷ []) → Happened b x y s (sees t ports)
happened_asked {b = b} {y = y} {t = t} ports ready p logged =
    happened_then p (record {
      events = reported ready ∷ [];
      shown = shows_untold t.seen.ports ports t.seen.log (reported ready ∷ []) logged ([], [], refl, refl, refl);
      makes = each_quiet b y (reported ready ∷ []) (refl, refl, tt);
      leads = λ k. reports_leads k (stages t k) ready;
    })

pub events_asked : {B : Type 0} {b : books.Ghosts B} {x y : B} {s t : ServiceState} (ports : Option (List Event)) (ready : Ready)
    (p : Happened b x y s t) (logged : Logs t.seen.ports ports (reported ready ∷ []))
    → (happened_asked ports ready p logged).events ≡ p.events ++ reported ready ∷ []
unfolding happened_asked happened_then
events_asked ports ready p logged = refl

-- one connection
pub went_then : (es fs : List Event) (l m n : Connection) → Went es l m → Went fs m n → Went (es ++ fs) l n
went_then es fs l m n p q = record {
  own = own_then l.number es fs p.own (subst (λ (k : ℕ). AreOf k fs) p.same q.own);
  same = q.same ∙ p.same;
  untold = told_then es fs [] [] p.untold q.untold;
  unasked = unasked_then es fs p.unasked q.unasked;
  leads =
      leads_then l.number (stage_in l) (stage_in m) (stage_in n) es fs p.leads
      (subst (λ (k : ℕ). Leads k (stage_in m) fs (stage_in n)) p.same q.leads);
}

module _ {B : Type 0} (b : books.Ghosts B) where
  -- a read of the connection, an answer and a write
  pub turned_all : (x y : B) (f g : Faults) (s t u : Option (List Event)) (l m n o : Connection) (asked : Asked) (here goes_on : Bool) (over : Option End)
      (p : Moved s t l m asked.reads reading here) (made : Made b x y f g m n asked.serves) (q : Moved t u n o false writing goes_on)
      → IsTurnOf l asked.reads asked.serves (p.events ++ (made.events ++ q.events))
      → IfSome over (λ end. IsDueTo o end (p.events ++ (made.events ++ q.events)))
      → Turned b x y (connection_state s l) (connection_state u o) asked over
  turned_all x y f g s t u l m n o asked here goes_on over p made q one why = record {
    events = p.events ++ (made.events ++ q.events);
    logged = logged_then s t u p.events (made.events ++ q.events) p.logged
        (logged_then t t u made.events q.events (subst (λ (es : List Event). Logs t t es) (sym made.unseen) (logs_none t)) q.logged);
    makes = each_then b x x y p.events (made.events ++ q.events) (each_quiet b x p.events p.quiet)
        (each_then b x y y made.events q.events made.makes (each_quiet b y q.events q.quiet));
    went = went_then p.events (made.events ++ q.events) l m o p.went (went_then made.events q.events m n o made.went q.went);
    one = one;
    why = why;
  }

  -- a read that failed
  pub turned_short : (x : B) (s t : Option (List Event)) (l m : Connection) (asked : Asked) (p : Moved s t l m asked.reads reading false)
      → IsTurnOf l asked.reads asked.serves p.events → Turned b x x (connection_state s l) (connection_state t m) asked (Some ReadFailed)
  turned_short x s t l m asked p one = record {
    events = p.events;
    logged = p.logged;
    makes = each_quiet b x p.events p.quiet;
    went = p.went;
    one = one;
    why = inr (λ before. inl (p.lost refl before ∙ ap (λ k. Some (failed k reading)) (sym p.went.same)));
  }

  -- a write that failed
  pub lost_write : (x y : B) (f g : Faults) (s t u : Option (List Event)) (l m n o : Connection) (reads serves here : Bool) (p : Moved s t l m reads reading here)
      (made : Made b x y f g m n serves) (q : Moved t u n o false writing false) → IsDueTo o WriteFailed (p.events ++ (made.events ++ q.events))
  lost_write x y f g s t u l m n o reads serves here p made q =
      inr (λ before. inl (last_then before p.events (made.events ++ q.events) ∙ last_then (last_of before p.events) made.events q.events
      ∙ q.lost refl (last_of (last_of before p.events) made.events) ∙ ap (λ k. Some (failed k writing)) (sym q.went.same)))

  -- then faults of the connection were reported, or not
  unfoldable pub turned_reported : (x y y' : B) (before : ConnectionState) (t : Option (List Event)) (m m' : Connection) (asked : Asked) (over : Option End)
      → y' ≡ y → m' ≡ reporting m m'.faults → Turned b x y before (connection_state t m) asked over
      → Turned b x y' before (connection_state t m') asked over
  turned_reported x y y' before t m m' asked over same is p =
      let went : Went p.events before.connection (reporting m m'.faults) =
      record { own = p.went.own; same = p.went.same; untold = p.went.untold; unasked = p.went.unasked; leads = p.went.leads } in
      let why : IfSome over (λ end. IsDueTo (reporting m m'.faults) end p.events) = p.why in
      record {
        events = p.events;
        logged = p.logged;
        makes = subst (λ (z : B). MakesEach b x p.events z) (sym same) p.makes;
        went = subst (λ (n : Connection). Went p.events before.connection n) (sym is) went;
        one = p.one;
        why = subst (λ (n : Connection). IfSome over (λ end. IsDueTo n end p.events)) (sym is) why;
      }

-- the answers of a turn
no_answers : (es : List Event) → AreQuiet es → all_answers es ≡ []
no_answers [] quiet = refl
no_answers (e ∷ es) quiet = ap (λ xs. xs ++ all_answers es) quiet.1 ∙ no_answers es quiet.2

module _ {B : Type 0} (b : books.Ghosts B) where
  pub notes_all : (x y : B) (f g : Faults) (s t u : Option (List Event)) (l m n o : Connection) (asked : Asked) (here goes_on : Bool)
      (over : Option End) (p : Moved s t l m asked.reads reading here) (made : Made b x y f g m n asked.serves) (q : Moved t u n o false writing goes_on)
      (one : IsTurnOf l asked.reads asked.serves (p.events ++ (made.events ++ q.events)))
      (why : IfSome over (λ end. IsDueTo o end (p.events ++ (made.events ++ q.events))))
      → g ≡ noted f (all_answers (turned_all b x y f g s t u l m n o asked here goes_on over p made q one why).events)
  unfolding turned_all
  notes_all x y f g s t u l m n o asked here goes_on over p made q one why =
      let first : all_answers (p.events ++ (made.events ++ q.events)) ≡ all_answers (made.events ++ q.events) =
      flat_map-append answers_in p.events (made.events ++ q.events)
      ∙ ap (λ xs. xs ++ all_answers (made.events ++ q.events)) (no_answers p.events p.quiet) in
      let last : all_answers (made.events ++ q.events) ≡ all_answers made.events = flat_map-append answers_in made.events q.events
      ∙ ap (λ xs. all_answers made.events ++ xs) (no_answers q.events q.quiet) ∙ append-nil (all_answers made.events) in
      made.notes ∙ ap (noted f) (sym (first ∙ last))

  pub notes_short : (x : B) (f : Faults) (s t : Option (List Event)) (l m : Connection) (asked : Asked) (p : Moved s t l m asked.reads reading false)
      (one : IsTurnOf l asked.reads asked.serves p.events) → f ≡ noted f (all_answers (turned_short b x s t l m asked p one).events)
  unfolding turned_short
  notes_short x f s t l m asked p one = sym (added_none f) ∙ ap (noted f) (sym (no_answers p.events p.quiet))
