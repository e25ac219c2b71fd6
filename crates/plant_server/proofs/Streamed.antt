-- A session, and the connections of a port, by what else is true of the office.
use Rattle.std.proofs.Common.{ℕ, List, Bool, true, false, None, Option, Some, inl, inr}
use Rattle.plant_server_options.specs.declared.words.Service.{Service}
use Rattle.plant_server_clients.specs.Accounts.{AreSent, Outcome}
use Rattle.plant_model.specs.declared.{call.Call.{Call}, reply.Answer.{Answer}}
use Rattle.plant_server.specs.{Services.{AreOfPort, HasServed, IsStreamed, is_at_once}, Streams.{Streams}, declared.statuses.ExitStatus.{ExitStatus}}
use Rattle.plant_wire.specs.{Session.{EndsAs, IsCutShort}, Step.{AnswersFront, ServesBroken, ServesPart}, declared.reads.End.{End}}
use Rattle.plant_wire.specs.declared.reads.End.TheVariants.{BrokenInput, Closed, Fault, ReadFailed, WriteFailed}

module _ (ran also : List Call → List Answer → Type 0)
    (follows : (calls : List Call) (answers : List Answer) → ran calls answers → also calls answers) (o o' : Option (List ℕ)) where
  whole : {bytes rest : List ℕ} → AnswersFront bytes o o' ran rest → AnswersFront bytes o o' also rest
  whole s = record { marks = s.marks; parses = s.parses; writes = s.writes; served = follows _ _ s.served }

  broken : {bytes : List ℕ} → ServesBroken bytes o o' ran → ServesBroken bytes o o' also
  broken s =
      record { marks = s.marks; rest = s.rest; cause = s.cause; parses = s.parses; front = s.front; writes = s.writes; served = follows _ _ s.served }

  abbrev partial : {bytes : List ℕ} → ServesPart bytes o o' ran → ServesPart bytes o o' also
  partial s =
      record {
        marks = s.marks;
        rest = s.rest;
        last = s.last;
        part = s.part;
        parses = s.parses;
        stands = s.stands;
        writes = s.writes;
        served = follows _ _ s.served;
      }

  cut : {bytes : List ℕ} {r' : Option (List ℕ)} {ended : Bool} → IsCutShort bytes r' ended o o' ran → IsCutShort bytes r' ended o o' also
  cut s = record { seen = s.seen; nothing_left = s.nothing_left; rest = s.rest; some = s.some; waiting = s.waiting; serves = whole s.serves }

  ends : (bytes : List ℕ) (r' : Option (List ℕ)) (ended : Bool) (end : End) → EndsAs bytes r' ended o o' ran end → EndsAs bytes r' ended o o' also end
  ends bytes r' ended Closed (seen, left, s) = (seen, left, whole s)
  ends bytes r' ended BrokenInput (inl s) = inl (broken s)
  ends bytes r' ended BrokenInput (inr s) = inr (cut s)
  ends bytes r' ended ReadFailed (rest, idle, s) = (rest, idle, whole s)
  ends bytes r' ended WriteFailed s = partial s
  ends bytes r' ended Fault (s, is) = (partial s, is)

  sent : {n : ℕ} {r : Outcome} → AreSent ran n r → AreSent also n r
  sent s = record {
    events = s.events;
    count = s.count;
    connections = s.connections;
    made = follows _ _ s.made;
    answered = s.answered;
    goes = s.goes;
    ends = s.ends;
    fair = s.fair;
    steady = s.steady;
    bounded = s.bounded;
    soon = s.soon;
    heeded = s.heeded;
    in_order = s.in_order;
    caused = s.caused;
    offered = s.offered;
    stops = s.stops;
  }

module _ (ran also : List Call → List Answer → Type 0)
    (follows : (calls : List Call) (answers : List Answer) → ran calls answers → also calls answers)
    (lost gone : Type 0) (loses : lost → gone) (s : Streams) where
  pub streamed : (n : ExitStatus) → IsStreamed ran s n → IsStreamed also s n
  streamed n is = record {
    end = is.end;
    ended = is.ended;
    session = (
      is.session.0,
      is.session.1,
      ends ran also follows s.written s.written_after is.session.0 s.unread_after is.ended is.end is.session.2,
    );
    said = is.said;
    status = is.status;
    stops = is.stops;
    still = is.still;
  }

  port : (many : Bool) (service : Service) (n : ExitStatus) → AreOfPort many ran lost service s.nets s.lines n → AreOfPort many also gone service s.nets s.lines n
  unfolding sent
  port false service n is = record {
    exchanges = is.exchanges;
    each = is.each;
    made = follows _ _ is.made;
    result = is.result;
    many = is.many;
    status = is.status;
    said = is.said;
    shut = λ e. ((is.shut e).0, loses (is.shut e).1);
    listened = is.listened;
    over = is.over;
    failed = is.failed;
  }
  port true service n is = record {
    result = is.result;
    sent = sent ran also follows s.written s.written_after is.sent;
    status = is.status;
    said = is.said;
    shut = λ e. ((is.shut e).0, loses (is.shut e).1);
    listened = is.listened;
    shown = is.shown;
    halts = is.halts;
  }

  pub served : (service : Option Service) (n : ExitStatus) → HasServed ran lost service s n → HasServed also gone service s n
  served None n is = streamed n is
  served (Some service) n is = port (is_at_once service) service n is

-- the calls that were made, and their answers
module _ (ran : List Call → List Answer → Type 0) (lost : Type 0) (s : Streams) where
  abbrev Made : Type 0
  Made = (calls : List Call) × (answers : List Answer) × ran calls answers

  made_at : (bytes : List ℕ) (r' o o' : Option (List ℕ)) (ended : Bool) (end : End) → EndsAs bytes r' ended o o' ran end → Made
  made_at bytes r' o o' ended Closed (seen, left, it) = (_, _, it.served)
  made_at bytes r' o o' ended BrokenInput (inl it) = (_, _, it.served)
  made_at bytes r' o o' ended BrokenInput (inr it) = (_, _, it.serves.served)
  made_at bytes r' o o' ended ReadFailed (rest, idle, it) = (_, _, it.served)
  made_at bytes r' o o' ended WriteFailed it = (_, _, it.served)
  made_at bytes r' o o' ended Fault (it, is) = (_, _, it.served)

  made_over : (many : Bool) (service : Service) (n : ExitStatus) → AreOfPort many ran lost service s.nets s.lines n → Made
  made_over false service n is = (_, _, is.made)
  made_over true service n is = (_, _, is.sent.made)

  pub made : (service : Option Service) (n : ExitStatus) → HasServed ran lost service s n → Made
  made None n is = made_at is.session.0 s.unread_after s.written s.written_after is.ended is.end is.session.2
  made (Some service) n is = made_over (is_at_once service) service n is
