-- The calls that were made, by name: what was served is a start.
use Rattle.std.proofs.Common.{ℕ, ◌≡◌, List, Bool, true, false, None, Option, Some, inl, inr, refl}
use Rattle.sqlite_disk.specs.declared.Disk.{Ghosts}
use Rattle.plant_model.specs.declared.{call.Call.{Call}, reply.Answer.{Answer}}
use Rattle.plant_office.specs.Lives.{Life}
use Rattle.plant_server.specs.{OverFiles.{Begins, AreRowsOf, Place, RanOnFiles}, Services.{AreOfPort, HasServed, is_at_once}, Streams.{Streams}}
use Rattle.plant_server.specs.declared.{remains.Left.{Left}, statuses.ExitStatus.{ExitStatus}}
use Rattle.plant_server_options.specs.declared.words.Service.{Service}
use Rattle.plant_server_starts.specs.Starts.{AreOfLife, IsAStart}
use Rattle.plant_wire.specs.{Session.{EndsAs}, Step.{AnswersFront}, declared.reads.End.{End}}
use Rattle.plant_wire.specs.declared.reads.End.TheVariants.{BrokenInput, Closed, Fault, ReadFailed, WriteFailed}
use Rattle.sqlite_store.specs.declared.store.FileStore.{FileStore}
use Rattle.plant_types.specs.Names.{Name}

abbrev life_of : List Call → List Answer → Life
life_of calls answers = record { calls = calls; answers = answers }

module _ (ran : List Call → List Answer → Type 0) where
  -- a life of which it is true, and what else is true of its calls alone
  abbrev Named : (Life → Type 0) → Type 0
  Named Holds = (life : Life) × ran life.calls life.answers × Holds life

  at_end : (bytes : List ℕ) (r' o o' : Option (List ℕ)) (ended : Bool) (end : End) → EndsAs bytes r' ended o o' ran end
      → Named (λ life. EndsAs bytes r' ended o o' (AreOfLife life) end)
  at_end bytes r' o o' ended Closed (seen, left, it) =
      (life_of _ _, it.served, (seen, left, record { marks = it.marks; parses = it.parses; writes = it.writes; served = (refl, refl) }))
  at_end bytes r' o o' ended BrokenInput (inl it) = (
    life_of _ _,
    it.served,
    inl (record {
      marks = it.marks;
      rest = it.rest;
      cause = it.cause;
      parses = it.parses;
      front = it.front;
      writes = it.writes;
      served = (refl, refl);
    }),
  )
  at_end bytes r' o o' ended BrokenInput (inr it) = (
    life_of _ _,
    it.serves.served,
    inr (record {
      seen = it.seen;
      nothing_left = it.nothing_left;
      rest = it.rest;
      some = it.some;
      waiting = it.waiting;
      serves = record { marks = it.serves.marks; parses = it.serves.parses; writes = it.serves.writes; served = (refl, refl) };
    }),
  )
  at_end bytes r' o o' ended ReadFailed (rest, idle, it) =
      (life_of _ _, it.served, (rest, idle, record { marks = it.marks; parses = it.parses; writes = it.writes; served = (refl, refl) }))
  at_end bytes r' o o' ended WriteFailed it = (
    life_of _ _,
    it.served,
    record {
      marks = it.marks;
      rest = it.rest;
      last = it.last;
      part = it.part;
      parses = it.parses;
      stands = it.stands;
      writes = it.writes;
      served = (refl, refl);
    },
  )
  at_end bytes r' o o' ended Fault (it, is) = (
    life_of _ _,
    it.served,
    (
      record {
        marks = it.marks;
        rest = it.rest;
        last = it.last;
        part = it.part;
        parses = it.parses;
        stands = it.stands;
        writes = it.writes;
        served = (refl, refl);
      },
      is,
    ),
  )

  module _ (lost : Type 0) (s : Streams) where
    at_port : (many : Bool) (service : Service) (n : ExitStatus) → AreOfPort many ran lost service s.nets s.lines n
        → Named (λ life. AreOfPort many (AreOfLife life) lost service s.nets s.lines n)
    at_port false service n it = (
      life_of _ _,
      it.made,
      record {
        exchanges = it.exchanges;
        each = it.each;
        made = (refl, refl);
        result = it.result;
        many = it.many;
        status = it.status;
        said = it.said;
        shut = it.shut;
        listened = it.listened;
        over = it.over;
        failed = it.failed;
      },
    )
    at_port true service n it = (
      life_of _ _,
      it.sent.made,
      record {
        result = it.result;
        sent = record { events = it.sent.events; count = it.sent.count; connections = it.sent.connections; made = (refl, refl); answered = it.sent.answered; goes = it.sent.goes; ends = it.sent.ends; fair = it.sent.fair; steady = it.sent.steady; bounded = it.sent.bounded; soon = it.sent.soon; heeded = it.sent.heeded; in_order = it.sent.in_order; caused = it.sent.caused; offered = it.sent.offered; stops = it.sent.stops };
        status = it.status;
        said = it.said;
        shut = it.shut;
        listened = it.listened;
        shown = it.shown;
        halts = it.halts;
      },
    )

    named : (service : Option Service) (n : ExitStatus) → HasServed ran lost service s n → Named (λ life. HasServed (AreOfLife life) lost service s n)
    named None n it =
        let found = at_end it.session.0 s.unread_after s.written s.written_after it.ended it.end it.session.2 in
        (found.0, found.1, record { end = it.end; ended = it.ended; session = (it.session.0, it.session.1, found.2); said = it.said; status = it.status; stops = it.stops; still = it.still })
    named (Some service) n it = at_port (is_at_once service) service n it

module _ {D N F : Type 0} {g : Ghosts D} where
  from_rows : (place : Place D) (admin : Name) (store : FileStore D g) (after : Left D N F g) (calls : List Call) (answers : List Answer)
      → RanOnFiles (Begins place place.path) admin store after calls answers → RanOnFiles (AreRowsOf place.files) admin store after calls answers
  from_rows place admin store after calls answers ran = record {
    answered = λ w rows. ran.answered w (record { here = refl; rows = rows });
    meanwhile = λ w rows. ran.meanwhile w (record { here = refl; rows = rows });
    afterwards = λ w rows. ran.afterwards w (record { here = refl; rows = rows });
  }

pub is_a_start : {D N : Type 0} (F : Type 0) (g : Ghosts D) (h : Ghosts N) (place : Place D) → IsAStart F g h place
is_a_start F g h place admin service s n after to it clean found =
    let by_name = named _ _ _ service n it.served in (
      by_name.0,
      record { store = it.store; after = after; ran = from_rows place admin it.store after _ _ by_name.1; clean = clean; found = found },
      by_name.2,
    )
