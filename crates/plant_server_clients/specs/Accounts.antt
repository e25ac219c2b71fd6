-- What each connection was sent, at every moment.
use Rattle.std.specs.Prelude.{◌≡◌, ◌≤◌, ◌⊎◌, ℕ, List, [], ◌∷◌, ◌++◌, map, None, Some, Result, Ok, Err}
use Rattle.plant_model.specs.{Worlds.{World, IsLegalWorld}, declared.{call.Call.{Call}, reply.Answer.{Answer}}}
use Rattle.plant_books.specs.Contents.{Content}
use Rattle.plant_books.specs.declared.books.Books as books
use Rattle.plant_wire_call.specs.Front.{Parsed}
use Rattle.plant_office.specs.{Runs.{AreIsolated, world_after}, Served.{Holds}}
use Rattle.plant_wire.specs.{Marks.{Mark, marked_item, mark_text, out_of}, Over.{RanOn}, Session.{EndsAs}}
use Rattle.plant_wire.specs.declared.reads.End.{End}
use Rattle.plant_server_clients.specs.{Books.{IsMoment}, Causes.{AreCaused, AreOffered, HaveFailed}, Fairness.{IsBounded, IsFair, IsSoon, IsSteady}, Heeded.{AreHeeded}}
use Rattle.plant_server_clients.specs.{Lasting.{Lasts}, Order.{IsInOrder}}
use Rattle.plant_server_clients.specs.Events.{Event, Seen, Shows, all_answers, all_calls, answers_for, answers_in, calls_for}
use Rattle.plant_server_clients.specs.Events.{calls_in, came_to, closed, cut_of, has_ended, marks_of, sent_to}
use Rattle.plant_server_clients.specs.Stages.{Leads, fresh, stage_of}
use Rattle.plant_server_clients.specs.declared.{connections.Connection.{Connection}, serving.Halted.{Halted}}
use Rattle.plant_server_clients.specs.declared.serving.Halted.TheVariants.{Memory, Ports, Shut}

-- no text was cut, and the text of the last answer ends in these bytes, after those before them
abbrev pub IsOfLast : List ℕ → List ℕ → List Mark → List ℕ → Type 0
IsOfLast before pending marks cut = (earlier : List Mark) × (last : Mark) × (cut ≡ []) × (marks ≡ earlier ++ last ∷ [])
    × (mark_text last ≡ before ++ pending)

-- These bytes are the end of one text: of the one that was cut, or of the answer to the last request if none was cut.
abbrev pub AreOfOne : List ℕ → List Mark → List ℕ → Type 0
AreOfOne pending marks cut = (before : List ℕ) × ((cut ≡ before ++ pending) ⊎ IsOfLast before pending marks cut)

-- The requests of the connection k that were answered are the first of those that came, each once and in order. What it
-- was sent is the front of the texts of their answers, and of the text that was cut, if any; what is still to be sent
-- is of one text alone.
pub record IsAnsweredFor (k : ℕ) (es : List Event) : Type 0 where
  pub rest : List ℕ
  pub parses : Parsed (came_to k es) (map marked_item (marks_of k es)) rest
  pub pending : List ℕ
  pub texts : out_of (marks_of k es) ++ cut_of k es ≡ sent_to k es ++ pending
  pub one : AreOfOne pending (marks_of k es) (cut_of k es)

-- This holds at every moment: no byte of an answer leaves before its call was made, and no call is made before its
-- request came.
abbrev pub AtEachMoment : (List Event → Type 0) → List Event → Type 0
AtEachMoment P events = (es fs : List Event) → events ≡ es ++ fs → P es

-- the calls that were made for the connection k, with their answers
abbrev pub AreFor : ℕ → List Event → List Call → List Answer → Type 0
AreFor k es calls answers = (calls ≡ calls_for k es) × (answers ≡ answers_for k es)

-- A connection that was closed ended as a session does over what came to it and what it was sent: at Closed and
-- BrokenInput it was sent all its answers, whole, and how it ended follows from what came.
abbrev pub EndsEach : List Event → Type 0
EndsEach events = (es fs : List Event) (k : ℕ) (end : End) → events ≡ es ++ closed k end ∷ fs
    → EndsAs (came_to k es) None (has_ended k es) (Some []) (Some (sent_to k es)) (AreFor k es) end

-- The call of each event is answered as in any other office that looks the same to its caller, whatever others send:
-- from the world that all calls before it left.
abbrev pub AreEachIsolated : World → List Event → Type 0
AreEachIsolated w events = (es fs : List Event) (e : Event) → events ≡ es ++ e ∷ fs
    → AreIsolated (world_after w (all_calls es) (all_answers es)) (calls_in e) (answers_in e)

abbrev pub Outcome : Type 0
Outcome = Result (Unit {0}) Halted

-- How many connections were opened, of at most n, and which are still open. Ok: n were, and each was closed. Out of
-- memory at the start: none was. The ports failed, or the store shut: n or fewer were.
abbrev pub HasOpened : ℕ → ℕ → List Connection → Outcome → Type 0
HasOpened n count connections (Ok u) = (count ≡ n) × (connections ≡ [])
HasOpened n count connections (Err Memory) = (count ≡ 0) × (connections ≡ [])
HasOpened n count connections (Err Ports) = count ≤ n
HasOpened n count connections (Err Shut) = count ≤ n

-- If n connections are to be served: one list of what happened at all of them, numbered as they came. `ran` is true of
-- the calls that the office made, one after another, whatever the connection. Each connection was sent the answers to
-- its own requests, goes by its own events only, and ended as a session does.
pub record AreSent (ran : List Call → List Answer → Type 0) (n : ℕ) (r : Outcome) : Type 0 where
  pub events : List Event
  pub count : ℕ
  pub connections : List Connection
  pub made : ran (all_calls events) (all_answers events)
  pub answered : (k : ℕ) → AtEachMoment (IsAnsweredFor k) events
  pub goes : (k : ℕ) → Leads k fresh events (stage_of k count connections)
  pub ends : EndsEach events
  pub fair : AtEachMoment IsFair events
  pub steady : AtEachMoment IsSteady events
  pub bounded : AtEachMoment IsBounded events
  pub soon : AtEachMoment IsSoon events
  pub heeded : AreHeeded n events
  pub in_order : IsInOrder events
  pub caused : AreCaused None events
  pub offered : AreOffered events
  pub stops : HasOpened n count connections r

-- From one state of the books and of what is seen to another: the calls are one run of the books, and the ports and the
-- log saw what happened.
pub record AreServed {B : Type 0} (b : books.Ghosts B) (x y : B) (s t : Seen) (n : ℕ) (r : Outcome) : Type 0 where
  pub sent : AreSent (RanOn b x y) n r
  pub shown : Shows s t sent.events
  -- it halts with Ports only after the ports failed
  pub halts : r ≡ Err Ports → HaveFailed sent.events
  -- whatever a crash at a moment leaves of the books is what it may leave after the calls so far
  pub moments : (es fs : List Event) → sent.events ≡ es ++ fs → IsMoment b x y es fs
  -- and it has what was confirmed, once a byte of the answer has left
  pub lasting : (es fs : List Event) (is : sent.events ≡ es ++ fs) → Lasts b x (moments es fs is).books es
  pub apart : (m : Content) → b.represents x m → (w : World) → IsLegalWorld w → Holds m w → b.is_clean y
      → AreEachIsolated w sent.events
