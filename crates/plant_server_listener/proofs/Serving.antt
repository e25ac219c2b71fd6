-- Sessions over connections, one after the other.
use Rattle.std.{specs.Io.KnownBytes.{Appends, IsAtEnd}, proofs.KnownBytes.{Appends-trans}}
use Rattle.std.proofs.Common.{◌≡◌, ◌<◌, ℕ, suc, true≢false, ◌+◌, List, [], ◌∷◌, ◌++◌, length, map, take, Bool, IsTrue, true, Option, None, Some, refl, sym, subst, ap, inl, inr, ◌⊎◌}
use Rattle.std.proofs.{Common.{arith, ◌∙◌}, KnownBytes.{Appends-nil}}
use Rattle.plant_model.specs.declared.{call.Call.{Call}, reply.Answer.{Answer}}
use Rattle.plant_books.specs.declared.books.Books as books
use Rattle.plant_office.specs.{Enduring.{books_state}, declared.office.Office.{Office}}
use Rattle.plant_wire.specs.{Causes.{cause_text}, Marks.{answers_of, calls_of, last_marks, last_text, out_of}, Over.{RanOn, RanWith}}
use Rattle.plant_wire.specs.{Session.{IsCutShort, IsSession, StopsAs}, Step.{AnswersFront, ServesBroken, ServesPart}, declared.reads.End.{End}}
use Rattle.plant_wire.specs.declared.reads.End.TheVariants.{BrokenInput, Closed, Fault, ReadFailed, WriteFailed}
use Rattle.plant_wire.proofs.public.Running.{ran_joins, ran_none}
use Rattle.plant_server_listener.specs.Connections.{AreServedInTurn, AreOf, AreSeen, Exchange, IsExchange, IsNext, IsOver, IsSeen, IsShownAs, IsWhole, Traffic, answers_over, calls_over, is_given_up}
use Rattle.plant_server_log.specs.Log.{Tells, line_of}
use Rattle.plant_server_listener.specs.declared.connections.Listener as listeners

module _ {o o' : Option (List ℕ)} {ran : List Call → List Answer → Type 0} (p p' : Option (List ℕ)) {also : List Call → List Answer → Type 0} where
  -- the same over another writer, with what else is true of the calls
  whole : {bytes rest : List ℕ} → (s : AnswersFront bytes o o' ran rest) → Appends p p' (out_of s.marks)
      → also (calls_of s.marks) (answers_of s.marks) → AnswersFront bytes p p' also rest
  whole s w k = record { marks = s.marks; parses = s.parses; writes = w; served = k }

  broken : {bytes : List ℕ} → (s : ServesBroken bytes o o' ran) → Appends p p' (out_of s.marks ++ cause_text s.cause)
      → also (calls_of s.marks) (answers_of s.marks) → ServesBroken bytes p p' also
  broken s w k = record { marks = s.marks; rest = s.rest; cause = s.cause; parses = s.parses; front = s.front; writes = w; served = k }

  abbrev partial : {bytes : List ℕ} → (s : ServesPart bytes o o' ran) → Appends p p' (out_of s.marks ++ take s.part (last_text s.last))
      → also (calls_of (s.marks ++ last_marks s.last)) (answers_of (s.marks ++ last_marks s.last)) → ServesPart bytes p p' also
  partial s w k =
      record { marks = s.marks; rest = s.rest; last = s.last; part = s.part; parses = s.parses; stands = s.stands; writes = w; served = k }

  cut : {bytes : List ℕ} {r r' : Option (List ℕ)} {ended ended' : Bool} → (s : IsCutShort bytes r ended o o' ran) → IsTrue ended'
      → IsAtEnd r' → Appends p p' (out_of s.serves.marks) → also (calls_of s.serves.marks) (answers_of s.serves.marks)
      → IsCutShort bytes r' ended' p p' also
  cut s e l w k =
      record { seen = e; nothing_left = l; rest = s.rest; some = s.some; waiting = s.waiting; serves = whole s.serves w k }

-- a session as an exchange, whose calls have a name
record IsNamed (r r' : Option (List ℕ)) (ended : Bool) (o o' : Option (List ℕ)) (ran : List Call → List Answer → Type 0) (end : End) : Type 0 where
  pub exchange : Exchange
  pub is : IsExchange exchange
  pub same : exchange.end ≡ end
  pub made : ran exchange.calls exchange.answers
  pub session : IsSession r r' ended o o' (AreOf exchange) exchange.end

named : (r r' : Option (List ℕ)) (ended : Bool) (o o' : Option (List ℕ)) (ran : List Call → List Answer → Type 0) (end : End)
    → IsSession r r' ended o o' ran end → IsNamed r r' ended o o' ran end
named r r' ended o o' ran Closed (bytes, consumes, (seen, left, s)) = record {
  exchange = record { came = bytes; went = out_of s.marks; calls = calls_of s.marks; answers = answers_of s.marks; end = Closed };
  is = (refl, tt, whole (Some []) _ s refl (refl, refl));
  same = refl;
  made = s.served;
  session = (bytes, consumes, (seen, left, whole o o' s s.writes (refl, refl)));
}
named r r' ended o o' ran BrokenInput (bytes, consumes, inl s) = record {
  exchange = record {
    came = bytes;
    went = out_of s.marks ++ cause_text s.cause;
    calls = calls_of s.marks;
    answers = answers_of s.marks;
    end = BrokenInput;
  };
  is = inl (broken (Some []) _ s refl (refl, refl));
  same = refl;
  made = s.served;
  session = (bytes, consumes, inl (broken o o' s s.writes (refl, refl)));
}
named r r' ended o o' ran BrokenInput (bytes, consumes, inr s) = record {
  exchange = record {
    came = bytes;
    went = out_of s.serves.marks;
    calls = calls_of s.serves.marks;
    answers = answers_of s.serves.marks;
    end = BrokenInput;
  };
  is = inr (cut (Some []) _ s refl tt refl (refl, refl));
  same = refl;
  made = s.serves.served;
  session = (bytes, consumes, inr (cut o o' s s.seen s.nothing_left s.serves.writes (refl, refl)));
}
named r r' ended o o' ran ReadFailed (bytes, consumes, (rest, idle, s)) = record {
  exchange = record { came = bytes; went = out_of s.marks; calls = calls_of s.marks; answers = answers_of s.marks; end = ReadFailed };
  is = (rest, idle, whole (Some []) _ s refl (refl, refl));
  same = refl;
  made = s.served;
  session = (bytes, consumes, (rest, idle, whole o o' s s.writes (refl, refl)));
}
named r r' ended o o' ran WriteFailed (bytes, consumes, s) = record {
  exchange = record {
    came = bytes;
    went = out_of s.marks ++ take s.part (last_text s.last);
    calls = calls_of (s.marks ++ last_marks s.last);
    answers = answers_of (s.marks ++ last_marks s.last);
    end = WriteFailed;
  };
  is = partial (Some []) _ s refl (refl, refl);
  same = refl;
  made = s.served;
  session = (bytes, consumes, partial o o' s s.writes (refl, refl));
}
named r r' ended o o' ran Fault (bytes, consumes, (s, why)) = record {
  exchange = record {
    came = bytes;
    went = out_of s.marks ++ take s.part (last_text s.last);
    calls = calls_of (s.marks ++ last_marks s.last);
    answers = answers_of (s.marks ++ last_marks s.last);
    end = Fault;
  };
  is = (partial (Some []) _ s refl (refl, refl), why);
  same = refl;
  made = s.served;
  session = (bytes, consumes, (partial o o' s s.writes (refl, refl), why));
}

-- what is known to be left is known still
still_known : (incoming outgoing : List ℕ) (r' : Option (List ℕ)) (ended : Bool) (ran : List Call → List Answer → Type 0) (end : End)
    → IsSession (Some incoming) r' ended (Some []) (Some outgoing) ran end
    → (unread : List ℕ) × IsSession (Some incoming) (Some unread) ended (Some []) (Some outgoing) ran end
still_known incoming outgoing (Some unread) ended ran end s = (unread, s)
still_known incoming outgoing None ended ran end (bytes, consumes, k) = absurd consumes

abbrev Stops : Option (List ℕ) → Option (List ℕ) → Bool → Bool → ℕ → ℕ → ℕ → ℕ → ℕ → ℕ → End → Type 0
Stops r r' ended ended' failed failed' reads reads' lost lost' end =
    StopsAs (record { unread = r; ended = ended; failures = failed; reads = reads })
    (record { unread = r'; ended = ended'; failures = failed'; reads = reads' }) lost lost' end

-- a session is given up only where a read or a write failed, or all reads were made
never : (r r' : Option (List ℕ)) (ended ended' : Bool) (failed' reads' lost' : ℕ) (end : End) → Stops r r' ended ended' 0 failed' 0 reads' 0 lost' end
    → IsWhole failed' reads' lost' → is_given_up end ≡ true → ⊥
never r r' ended ended' failed' reads' lost' Closed stops whole given_up = true≢false (sym given_up)
never r r' ended ended' failed' reads' lost' BrokenInput stops whole given_up = true≢false (sym given_up)
never r r' ended ended' failed' reads' lost' ReadFailed stops whole given_up = elim stops.0 [
  | inl is ↦ omega (arith, is, whole.0)
  | inr is ↦ omega (arith, is.1, whole.1)
]
never r r' ended ended' failed' reads' lost' WriteFailed stops whole given_up = omega (arith, stops.1, whole.2)
never r r' ended ended' failed' reads' lost' Fault stops whole given_up = true≢false (sym given_up)

caused : (r r' : Option (List ℕ)) (ended ended' : Bool) (failed' reads' lost' : ℕ) (flag : Bool) (end : End) → Stops r r' ended ended' 0 failed' 0 reads' 0 lost' end
    → IsTrue flag ⊎ IsWhole failed' reads' lost' → is_given_up end ≡ true → IsTrue flag
caused r r' ended ended' failed' reads' lost' flag end stops cause given_up = elim cause [
  | inl is ↦ is
  | inr whole ↦ absurd (never r r' ended ended' failed' reads' lost' end stops whole given_up)
]

-- the session over a connection that was accepted and closed
pub next_exchange : (seen : Bool) (traffic : Traffic) (k : ℕ) (r r' : Option (List ℕ)) (ended ended' : Bool) (o o' : Option (List ℕ))
    (failed failed' reads reads' lost lost' : ℕ) (ran : List Call → List Answer → Type 0) (end : End)
    → IsSession r r' ended' o o' ran end → Stops r r' ended ended' failed failed' reads reads' lost lost' end
    → (IsTrue seen → r ≡ Some (traffic.incoming k)) → (IsTrue seen → (failed ≡ 0) × (reads ≡ 0))
    → (IsTrue seen → (o ≡ Some []) × (lost ≡ 0)) → (IsTrue seen → o' ≡ Some (traffic.outgoing k))
    → (IsTrue seen → IsTrue (traffic.failed k) ⊎ IsWhole failed' reads' lost') → IsNext ran seen traffic k end
next_exchange seen traffic k r r' ended ended' o o' failed failed' reads reads' lost lost' ran end does stops comes new goes sent cause =
    let it = named r r' ended' o o' ran end does in
    record {
      exchange = it.exchange;
      is = it.is;
      ended = it.same;
      made = it.made;
      shown = λ shows.
          let over =
          subst (λ a. IsSession a r' ended' (Some []) (Some (traffic.outgoing k)) (AreOf it.exchange) it.exchange.end) (comes shows)
          (subst (λ a. IsSession r r' ended' a (Some (traffic.outgoing k)) (AreOf it.exchange) it.exchange.end) (goes shows).0
          (subst (λ a. IsSession r r' ended' o a (AreOf it.exchange) it.exchange.end) (sent shows) it.session)) in
          let known = still_known (traffic.incoming k) (traffic.outgoing k) r' ended' (AreOf it.exchange) it.exchange.end over in
          let from_none =
          subst (λ n. Stops r r' ended ended' n failed' 0 reads' 0 lost' end) (new shows).0
          (subst (λ n. Stops r r' ended ended' failed failed' n reads' 0 lost' end) (new shows).1
          (subst (λ n. Stops r r' ended ended' failed failed' reads reads' n lost' end) (goes shows).1 stops)) in
          record {
            unread = known.0;
            ended = ended';
            session = known.1;
            cause = λ given_up.
                caused r r' ended ended' failed' reads' lost' (traffic.failed k) end from_none (cause shows)
                (ap is_given_up (sym it.same) ∙ given_up);
          };
    }

-- the log with one line more
pub tells_more : (o o' o'' : Option (List ℕ)) (ends : List End) (count : ℕ) → length ends ≡ count → (end : End) → Tells o ends o'
    → (part : ℕ) × Appends o' o'' (take part (line_of (count + 1) end)) → Tells o (end ∷ ends) o''
tells_more o o' o'' ends count is end (text, lines, h) (part, k) =
    let line = take part (line_of (length ends + 1) end) in
    let k' = subst (λ (i : ℕ). Appends o' o'' (take part (line_of (i + 1) end))) (sym is) k in
    (text ++ line, (text, part, lines, refl), Appends-trans o o' o'' text line h k')

pub length_ends : (xs : List Exchange) → length (map (λ (x : Exchange). x.end) xs) ≡ length xs
length_ends [] = refl
length_ends (x ∷ xs) = ap suc (length_ends xs)

-- what is shown of a connection stays
seen_as : (old new : Traffic) (k : ℕ) (x : Exchange) → IsShownAs old new k → IsSeen old k x → IsSeen new k x
seen_as old new k x is it =
    subst (λ bytes. IsOver bytes (new.outgoing k) (new.failed k) x) (sym is.0)
    (subst (λ bytes. IsOver (old.incoming k) bytes (new.failed k) x) (sym is.1)
    (subst (λ b. IsOver (old.incoming k) (old.outgoing k) b x) (sym is.2) it))

pub seen_still : (old new : Traffic) (first : ℕ) (xs : List Exchange) → ((k : ℕ) → k < first + length xs → IsShownAs old new k) → AreSeen old first xs
    → AreSeen new first xs
seen_still old new first [] same it = tt
seen_still old new first (x ∷ xs) same it = (
  seen_as old new (first + length xs) x (same (first + length xs) (omega arith)) it.0,
  seen_still old new first xs (λ k less. same k (omega (arith, less))) it.1,
)

-- a listener at a moment
pub record ListenerState : Type 0 where
  pub seen : Bool
  pub traffic : Traffic
  pub accepted : ℕ
  pub failed : ℕ

abbrev pub state_of : {L R A : Type 0} → listeners.Ghosts L R A → L → ListenerState
state_of l it = record { seen = l.is_seen it; traffic = l.traffic it; accepted = l.accepted it; failed = l.failures it }

-- what is shown of the connections so far, where accepting another one failed
pub shown_still : (from mid to : ListenerState) (xs : List Exchange) → ((k : ℕ) → k < mid.accepted → IsShownAs mid.traffic to.traffic k)
    → mid.accepted ≡ from.accepted + length xs → (IsTrue from.seen → AreSeen mid.traffic from.accepted xs)
    → IsTrue from.seen → AreSeen to.traffic from.accepted xs
shown_still from mid to xs others count it shows =
    seen_still mid.traffic to.traffic from.accepted xs (λ k less. others k (omega (arith, less, count))) (it shows)

-- So many connections were served: what is true of the books x and y, of the log, and of the listener, each before and
-- after.
pub record ServedSoFar {B : Type 0} (b : books.Ghosts B) (x y : B) (log log' : Option (List ℕ)) (from to : ListenerState) (n : ℕ)
    : Type 0 where
  pub exchanges : List Exchange
  pub turn : AreServedInTurn b x y log log' exchanges
  pub shown : IsTrue from.seen → AreSeen to.traffic from.accepted exchanges
  pub accepted : to.accepted ≡ from.accepted + length exchanges
  pub count : length exchanges ≡ n
  pub honest : b.is_honest y → b.is_honest x
  pub failed : to.failed ≡ from.failed
  pub seen : to.seen ≡ from.seen

-- the calls of the next one were one run of the books
unfoldable pub next_ran : {B : Type 0} (b : books.Ghosts B) (x y : Office B) {seen : Bool} {traffic : Traffic} {k : ℕ} {end : End}
    → IsNext (RanWith b x y) seen traffic k end → IsNext (RanOn b x.books y.books) seen traffic k end
next_ran b x y next =
    record { exchange = next.exchange; is = next.is; ended = next.ended; made = next.made.0; shown = next.shown }

module _ {B : Type 0} (b : books.Ghosts B) (x : B) (log : Option (List ℕ)) (from : ListenerState) where
  unfoldable pub served_none : ServedSoFar b x x log log from from 0
  served_none = record {
    exchanges = [];
    turn = record { each = tt; made = ran_none (books_state b x) (b.stores x); told = ([], refl, Appends-nil log) };
    shown = λ shows. tt;
    accepted = omega arith;
    count = refl;
    honest = λ t. t;
    failed = refl;
    seen = refl;
  }

  -- and one more, which ended so
  unfoldable pub served_more : (y z : B) (log' log'' : Option (List ℕ)) (mid to : ListenerState) (count : ℕ) (end : End)
      → ServedSoFar b x y log log' from mid count → IsNext (RanOn b y z) mid.seen to.traffic mid.accepted end
      → (b.is_honest z → b.is_honest y) → to.accepted ≡ mid.accepted + 1 → to.failed ≡ mid.failed → to.seen ≡ mid.seen
      → ((k : ℕ) → k < mid.accepted → IsShownAs mid.traffic to.traffic k)
      → (part : ℕ) × Appends log' log'' (take part (line_of (count + 1) end)) → ServedSoFar b x z log log'' from to (count + 1)
  served_more y z log' log'' mid to count end s next honest counted ok seen others told =
      let it = next.exchange in
      let ends = map (λ (e : Exchange). e.end) s.exchanges in
      record {
        exchanges = it ∷ s.exchanges;
        turn = record {
          each = (next.is, s.turn.each);
          made =
              (ran_joins (books_state b x) (books_state b y) (books_state b z) (b.stores x) (b.stores y) (b.stores z)).join
              (calls_over s.exchanges) it.calls (answers_over s.exchanges) it.answers s.turn.made next.made;
          told = subst (λ (e : End). Tells log (e ∷ ends) log'') (sym next.ended)
              (tells_more log log' log'' ends count (length_ends s.exchanges ∙ s.count) end s.turn.told told);
        };
        shown = λ shows. (
          subst (λ k. IsSeen to.traffic k it) s.accepted (next.shown (subst IsTrue (sym s.seen) shows)),
          seen_still mid.traffic to.traffic from.accepted s.exchanges
              (λ k less. others k (omega (arith, less, s.accepted))) (s.shown shows),
        );
        accepted = omega (arith, counted, s.accepted);
        count = omega (arith, s.count);
        honest = λ t. s.honest (honest t);
        failed = ok ∙ s.failed;
        seen = seen ∙ s.seen;
      }
