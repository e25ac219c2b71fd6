-- From the stages of a connection, what it was sent at every moment.
use Rattle.std.proofs.Common.{◌≡◌, ◌⊎◌, ℕ, List, [], ◌∷◌, ◌++◌, Bool, true, false, refl, sym, ap, subst, ◌∙◌}
use Rattle.std.proofs.Common.{append_assoc, append-nil, nat_eq, nat_lt, map, drop, length, inl, inr, eq-eqb, eqb-true, lt-ltb}
use Rattle.std.proofs.Common.{length-append, arith}
use Rattle.std.specs.List.{flat_map}
use Rattle.std.proofs.lemmas.{Bool.{eqb-false}, Grind.{flat_map-append}, List.{map-append, Elements.{filter_map-append}}}
use Rattle.plant_model.specs.declared.{call.Call.{Call}, reply.Answer.{Answer}}
use Rattle.plant_wire_call.{specs.Front.{Item, Parsed, StandsAtFront, body_length, broken, item_of}, specs.declared.causes.Cause.{Cause}}
use Rattle.plant_wire_call.proofs.public.Cuts.{Parses-append}
use Rattle.plant_wire.specs.Causes.{cause_text}
use Rattle.plant_wire.specs.Marks.{IsFaultless, Mark, Last, marked_answer, answers_of, call_in, calls_of, marked_item, last_marks, mark_text, out_of}
use Rattle.plant_wire.specs.{Session.{IsIdle}, Step.{StandsLast}}
use Rattle.plant_wire.specs.declared.reads.End.{End, TheVariants.{BrokenInput, Fault}}
use Rattle.plant_server_clients.specs.Events.{Event, opened, came, ended, answered, broke, stopped, left, failed, closed, reported, who, of, of_all, bytes_in, ends_in, marks_in}
use Rattle.plant_server_clients.specs.Events.{came_to, cut_of, marks_of, sent_to, cut_in, sent_in, calls_in, answers_in}
use Rattle.plant_server_clients.specs.Stages.{Goes, Leads, Moves, Stage, end_for, fresh, served, ending, gone}
use Rattle.plant_server_clients.specs.Accounts.{AreOfOne, IsAnsweredFor, AtEachMoment}

-- Of a connection: c is what came, h whether the end did, m the requests that were answered, x the text that was cut, d
-- and b the calls and their answers, t what was sent; u is unread, p waits to leave.

-- what waits is the end of the last answer
pub record IsBehind (m : List Mark) (t p : List ℕ) : Type 0 where
  pub earlier : List Mark
  pub last : Mark
  pub before : List ℕ
  pub are : m ≡ earlier ++ last ∷ []
  pub text : mark_text last ≡ before ++ p
  pub sent : t ≡ out_of earlier ++ before

pub record IsGoing (c : List ℕ) (m : List Mark) (x : List ℕ) (d : List Call) (b : List Answer) (t u p : List ℕ) : Type 0 where
  pub parses : Parsed c (map marked_item m) u
  pub uncut : x ≡ []
  pub calls : d ≡ calls_of m
  pub answers : b ≡ answers_of m
  pub waiting : ((p ≡ []) × (t ≡ out_of m)) ⊎ IsBehind m t p

-- its input ended
pub record HasEnded (c h : List ℕ) (m : List Mark) (x : List ℕ) (d : List Call) (b : List Answer) (t : List ℕ) (e : End)
    (p : List ℕ) : Type 0 where
  pub rest : List ℕ
  pub parses : Parsed c (map marked_item m) rest
  pub idle : IsIdle rest
  pub seen : nat_lt 0 (length h) ≡ true
  pub uncut : x ≡ []
  pub calls : d ≡ calls_of m
  pub answers : b ≡ answers_of m
  pub none : p ≡ []
  pub sent : t ≡ out_of m
  pub end : e ≡ end_for rest

-- what came cannot be read
pub record HasBroken (c : List ℕ) (m : List Mark) (x : List ℕ) (d : List Call) (b : List Answer) (t : List ℕ) (e : End)
    (p : List ℕ) : Type 0 where
  pub rest : List ℕ
  pub cause : Cause
  pub before : List ℕ
  pub parses : Parsed c (map marked_item m) rest
  pub front : StandsAtFront rest (broken cause)
  pub cut : x ≡ cause_text cause
  pub split : x ≡ before ++ p
  pub calls : d ≡ calls_of m
  pub answers : b ≡ answers_of m
  pub sent : t ≡ out_of m ++ before
  pub end : e ≡ BrokenInput

-- memory ran out
pub record HasStopped (c : List ℕ) (m : List Mark) (x : List ℕ) (d : List Call) (b : List Answer) (t : List ℕ) (e : End)
    (p : List ℕ) : Type 0 where
  pub rest : List ℕ
  pub last : Last
  pub parses : Parsed c (map marked_item m) rest
  pub stands : StandsLast rest last
  pub why : IsFaultless last
  pub uncut : x ≡ []
  pub calls : d ≡ calls_of (m ++ last_marks last)
  pub answers : b ≡ answers_of (m ++ last_marks last)
  pub none : p ≡ []
  pub sent : t ≡ out_of m
  pub end : e ≡ Fault

abbrev pub IsOver : List ℕ → List ℕ → List Mark → List ℕ → List Call → List Answer → List ℕ → End → List ℕ → Type 0
IsOver c h m x d b t e p = HasEnded c h m x d b t e p ⊎ (HasBroken c m x d b t e p ⊎ HasStopped c m x d b t e p)

pub record HasAccount (c : List ℕ) (m : List Mark) (x t : List ℕ) : Type 0 where
  pub rest : List ℕ
  pub pending : List ℕ
  pub parses : Parsed c (map marked_item m) rest
  pub texts : out_of m ++ x ≡ t ++ pending
  pub one : AreOfOne pending m x

abbrev pub IsAt : List ℕ → List ℕ → List Mark → List ℕ → List Call → List Answer → List ℕ → Stage → Type 0
IsAt c h m x d b t fresh = (c ≡ []) × (m ≡ []) × (x ≡ []) × (d ≡ []) × (b ≡ []) × (t ≡ [])
IsAt c h m x d b t (served u p) = IsGoing c m x d b t u p
IsAt c h m x d b t (ending e p) = IsOver c h m x d b t e p
IsAt c h m x d b t gone = HasAccount c m x t

Parsed-trans : (a b r : List ℕ) (xs ys : List Item) → Parsed a xs b → Parsed b ys r → Parsed a (xs ++ ys) r
Parsed-trans a b r [] ys is later = subst (λ (t : List ℕ). Parsed t ys r) (sym is) later
Parsed-trans a b r (x ∷ xs) ys (n, front, rest) later = (n, front, Parsed-trans (drop n a) b r xs ys rest later)

parsed_more : (a b r : List ℕ) (ms ns : List Mark) → Parsed a (map marked_item ms) b → Parsed b (map marked_item ns) r
    → Parsed a (map marked_item (ms ++ ns)) r
parsed_more a b r ms ns first later =
    subst (λ (x : List Item). Parsed a x r) (sym (map-append marked_item ms ns))
    (Parsed-trans a b r (map marked_item ms) (map marked_item ns) first later)

pub out_last : (ms : List Mark) (m : Mark) → out_of (ms ++ m ∷ []) ≡ out_of ms ++ mark_text m
out_last ms m = flat_map-append mark_text ms (m ∷ []) ∙ ap (λ (l : List ℕ). out_of ms ++ l) (append-nil (mark_text m))

-- all was sent, where nothing waits
pub sent_all : (m : List Mark) (t p : List ℕ) → ((p ≡ []) × (t ≡ out_of m)) ⊎ IsBehind m t p → p ≡ [] → t ≡ out_of m
sent_all m t p (inl (none, is)) empty = is
sent_all m t p (inr w) empty =
    w.sent ∙ ap (λ (l : List ℕ). out_of w.earlier ++ l) (sym (append-nil w.before) ∙ ap (λ (l : List ℕ). w.before ++ l) (sym empty) ∙ sym w.text)
    ∙ sym (out_last w.earlier w.last) ∙ ap out_of (sym w.are)

-- nothing leaves where nothing waits
none_left : (bytes rest : List ℕ) → [] ≡ bytes ++ rest → (bytes ≡ []) × (rest ≡ [])
none_left [] [] is = (refl, refl)
none_left [] (x ∷ xs) is = cc
none_left (b ∷ bytes) rest is = cc

split_more : (x before p bytes rest : List ℕ) → x ≡ before ++ p → p ≡ bytes ++ rest → x ≡ (before ++ bytes) ++ rest
split_more x before p bytes rest is split = is ∙ ap (λ (l : List ℕ). before ++ l) split ∙ sym (append_assoc before bytes rest)

sent_more : (o t before bytes : List ℕ) → t ≡ o ++ before → t ++ bytes ≡ o ++ (before ++ bytes)
sent_more o t before bytes is = ap (λ (l : List ℕ). l ++ bytes) is ∙ append_assoc o before bytes

waiting_left : (m : List Mark) (t p bytes rest : List ℕ) → ((p ≡ []) × (t ≡ out_of m)) ⊎ IsBehind m t p → p ≡ bytes ++ rest
    → ((rest ≡ []) × (t ++ bytes ≡ out_of m)) ⊎ IsBehind m (t ++ bytes) rest
waiting_left m t p bytes rest (inl (none, is)) split =
    let e = none_left bytes rest (sym none ∙ split) in
    inl (e.1, ap (λ (l : List ℕ). t ++ l) e.0 ∙ append-nil t ∙ is)
waiting_left m t p bytes rest (inr w) split = inr record {
  earlier = w.earlier;
  last = w.last;
  before = w.before ++ bytes;
  are = w.are;
  text = split_more (mark_text w.last) w.before p bytes rest w.text split;
  sent = sent_more (out_of w.earlier) t w.before bytes w.sent;
}

over_left : (c h : List ℕ) (m : List Mark) (x : List ℕ) (d : List Call) (b : List Answer) (t : List ℕ) (e : End) (p bytes rest : List ℕ)
    → IsOver c h m x d b t e p → p ≡ bytes ++ rest → IsOver c h m x d b (t ++ bytes) e rest
over_left c h m x d b t e p bytes rest (inl o) split =
    let n = none_left bytes rest (sym o.none ∙ split) in
    inl record {
      rest = o.rest;
      parses = o.parses;
      idle = o.idle;
      seen = o.seen;
      uncut = o.uncut;
      calls = o.calls;
      answers = o.answers;
      none = n.1;
      sent = ap (λ (l : List ℕ). t ++ l) n.0 ∙ append-nil t ∙ o.sent;
      end = o.end;
    }
over_left c h m x d b t e p bytes rest (inr (inl o)) split = inr (inl record {
  rest = o.rest;
  cause = o.cause;
  before = o.before ++ bytes;
  parses = o.parses;
  front = o.front;
  cut = o.cut;
  split = split_more x o.before p bytes rest o.split split;
  calls = o.calls;
  answers = o.answers;
  sent = sent_more (out_of m) t o.before bytes o.sent;
  end = o.end;
})
over_left c h m x d b t e p bytes rest (inr (inr o)) split =
    let n = none_left bytes rest (sym o.none ∙ split) in
    inr (inr record {
      rest = o.rest;
      last = o.last;
      parses = o.parses;
      stands = o.stands;
      why = o.why;
      uncut = o.uncut;
      calls = o.calls;
      answers = o.answers;
      none = n.1;
      sent = ap (λ (l : List ℕ). t ++ l) n.0 ∙ append-nil t ∙ o.sent;
      end = o.end;
    })

-- what was sent, and the rest of one text
texts_cut : (o x before p t : List ℕ) → x ≡ before ++ p → t ≡ o ++ before → o ++ x ≡ t ++ p
texts_cut o x before p t split sent = ap (λ (l : List ℕ). o ++ l) split ∙ sym (append_assoc o before p) ∙ ap (λ (l : List ℕ). l ++ p) (sym sent)

texts_whole : (o x t p : List ℕ) → x ≡ [] → p ≡ [] → t ≡ o → o ++ x ≡ t ++ p
texts_whole o x t p uncut none sent = rw (uncut, none, sent) refl

account_waiting : (m : List Mark) (x t p : List ℕ) → x ≡ [] → ((p ≡ []) × (t ≡ out_of m)) ⊎ IsBehind m t p
    → (out_of m ++ x ≡ t ++ p) × AreOfOne p m x
account_waiting m x t p uncut (inl (none, sent)) = (texts_whole (out_of m) x t p uncut none sent, ([], inl (uncut ∙ sym none)))
account_waiting m x t p uncut (inr w) =
    let whole : out_of m ≡ out_of w.earlier ++ mark_text w.last = ap out_of w.are ∙ out_last w.earlier w.last in
    let texts : out_of w.earlier ++ mark_text w.last ≡ t ++ p = texts_cut (out_of w.earlier) (mark_text w.last) w.before p t w.text w.sent in
    (ap (λ (l : List ℕ). out_of m ++ l) uncut ∙ append-nil (out_of m) ∙ whole ∙ texts, (w.before, inr (w.earlier, w.last, uncut, w.are, w.text)))

account_over : (c h : List ℕ) (m : List Mark) (x : List ℕ) (d : List Call) (b : List Answer) (t : List ℕ) (e : End) (p : List ℕ)
    → IsOver c h m x d b t e p → HasAccount c m x t
account_over c h m x d b t e p (inl o) = record {
  rest = o.rest;
  pending = p;
  parses = o.parses;
  texts = texts_whole (out_of m) x t p o.uncut o.none o.sent;
  one = ([], inl (o.uncut ∙ sym o.none));
}
account_over c h m x d b t e p (inr (inl o)) =
    record {
      rest =
          o.rest;
      pending = p;
      parses = o.parses;
      texts = texts_cut (out_of m) x o.before p t o.split o.sent;
      one = (o.before, inl o.split);
    }
account_over c h m x d b t e p (inr (inr o)) = record {
  rest = o.rest;
  pending = p;
  parses = o.parses;
  texts = texts_whole (out_of m) x t p o.uncut o.none o.sent;
  one = ([], inl (o.uncut ∙ sym o.none));
}

account_going : (c : List ℕ) (m : List Mark) (x : List ℕ) (d : List Call) (b : List Answer) (t u p : List ℕ) → IsGoing c m x d b t u p
    → HasAccount c m x t
account_going c m x d b t u p g =
    let a = account_waiting m x t p g.uncut g.waiting in
    record { rest = u; pending = p; parses = g.parses; texts = a.0; one = a.1 }

account : (c h : List ℕ) (m : List Mark) (x : List ℕ) (d : List Call) (b : List Answer) (t : List ℕ) (s : Stage) → IsAt c h m x d b t s
    → HasAccount c m x t
account c h m x d b t fresh (rc, rm, rx, rd, rb, rt) =
    rw (rc, rm, rx, rt) record { rest = []; pending = []; parses = refl; texts = refl; one = ([], inl refl) }
account c h m x d b t (served u p) g = account_going c m x d b t u p g
account c h m x d b t (ending e p) o = account_over c h m x d b t e p o
account c h m x d b t gone a = a

seen_more : (h : List ℕ) (k : ℕ) → nat_lt 0 (length (h ++ k ∷ [])) ≡ true
seen_more h k = lt-ltb 0 (length (h ++ k ∷ [])) (omega (arith, length-append h (k ∷ [])))

moves : (s s' : Stage) (e : Event) (c h : List ℕ) (m : List Mark) (x : List ℕ) (d : List Call) (b : List Answer) (t : List ℕ)
    → IsAt c h m x d b t s
    → Moves s e s'
    → IsAt (c ++ bytes_in e) (h ++ ends_in e) (m ++ marks_in e) (x ++ cut_in e) (d ++ calls_in e) (b ++ answers_in e) (t ++ sent_in e) s'
moves fresh s' (opened k) c h m x d b t (rc, rm, rx, rd, rb, rt) is =
    rw (is, rc, rm, rx, rd, rb, rt) record { parses = refl; uncut = refl; calls = refl; answers = refl; waiting = inl (refl, refl) }
moves (served u p) s' (came k bytes) c h m x d b t g (open_now, is) =
    rw (is, append-nil m, append-nil x, append-nil d, append-nil b, append-nil t) record {
      parses = Parses-append body_length item_of c bytes (map marked_item m) u g.parses;
      uncut = g.uncut;
      calls = g.calls;
      answers = g.answers;
      waiting = inl (refl, sent_all m t p g.waiting open_now.0);
    }
moves (served u p) s' (ended k) c h m x d b t g (open_now, is) =
    rw (is, append-nil c, append-nil m, append-nil x, append-nil d, append-nil b, append-nil t) (inl record {
      rest = u;
      parses = g.parses;
      idle = open_now.1;
      seen = seen_more h k;
      uncut = g.uncut;
      calls = g.calls;
      answers = g.answers;
      none = refl;
      sent = sent_all m t p g.waiting open_now.0;
      end = refl;
    })
moves (served u p) s' (answered k mark) c h m x d b t g (empty, (n, stands, is)) =
    rw (is, append-nil c, append-nil x, append-nil t) record {
      parses = parsed_more c u (drop n u) m (mark ∷ []) g.parses (n, stands, refl);
      uncut = g.uncut;
      calls = ap (λ (l : List Call). l ++ calls_of (mark ∷ [])) g.calls ∙ sym (filter_map-append call_in m (mark ∷ []));
      answers = ap (λ (l : List Answer). l ++ answers_of (mark ∷ [])) g.answers ∙ sym (filter_map-append marked_answer m (mark ∷ []));
      waiting =
          inr record {
            earlier = m;
            last = mark;
            before = [];
            are = refl;
            text = refl;
            sent = sent_all m t p g.waiting empty ∙ sym (append-nil (out_of m));
          };
    }
moves (served u p) s' (broke k cause) c h m x d b t g (empty, front, is) =
    rw (is, append-nil c, append-nil m, append-nil d, append-nil b, append-nil t) (inr (inl record {
      rest = u;
      cause = cause;
      before = [];
      parses = g.parses;
      front = front;
      cut = ap (λ (l : List ℕ). l ++ cause_text cause) g.uncut;
      split = ap (λ (l : List ℕ). l ++ cause_text cause) g.uncut;
      calls = g.calls;
      answers = g.answers;
      sent = sent_all m t p g.waiting empty ∙ sym (append-nil (out_of m));
      end = refl;
    }))
moves (served u p) s' (stopped k last) c h m x d b t g (empty, stands, why, is) =
    rw (is, append-nil c, append-nil m, append-nil x, append-nil t) (inr (inr record {
      rest = u;
      last = last;
      parses = g.parses;
      stands = stands;
      why = why;
      uncut = g.uncut;
      calls = ap (λ (l : List Call). l ++ calls_of (last_marks last)) g.calls ∙ sym (filter_map-append call_in m (last_marks last));
      answers = ap (λ (l : List Answer). l ++ answers_of (last_marks last)) g.answers
          ∙ sym (filter_map-append marked_answer m (last_marks last));
      none = refl;
      sent = sent_all m t p g.waiting empty;
      end = refl;
    }))
moves (served u p) s' (left k bytes) c h m x d b t g (rest, split, is) =
    rw (is, append-nil c, append-nil m, append-nil x, append-nil d, append-nil b) record {
      parses = g.parses;
      uncut = g.uncut;
      calls = g.calls;
      answers = g.answers;
      waiting = waiting_left m t p bytes rest g.waiting split;
    }
moves (ending e p) s' (left k bytes) c h m x d b t o (rest, split, is) =
    rw (is, append-nil c, append-nil h, append-nil m, append-nil x, append-nil d, append-nil b) (over_left c h m x d b t e p bytes rest o split)
moves (served u p) s' (failed k trial) c h m x d b t g is =
    rw (is, append-nil c, append-nil m, append-nil x, append-nil d, append-nil b, append-nil t) g
moves (ending e p) s' (failed k trial) c h m x d b t o is =
    rw (is, append-nil c, append-nil h, append-nil m, append-nil x, append-nil d, append-nil b, append-nil t) o
moves fresh s' (reported ready) c h m x d b t at is =
    rw (is, append-nil c, append-nil m, append-nil x, append-nil d, append-nil b, append-nil t) at
moves fresh s' (failed k trial) c h m x d b t at is =
    rw (is, append-nil c, append-nil m, append-nil x, append-nil d, append-nil b, append-nil t) at
moves (served u p) s' (reported ready) c h m x d b t g is =
    rw (is, append-nil c, append-nil m, append-nil x, append-nil d, append-nil b, append-nil t) g
moves (ending e p) s' (reported ready) c h m x d b t o is =
    rw (is, append-nil c, append-nil h, append-nil m, append-nil x, append-nil d, append-nil b, append-nil t) o
moves gone s' (reported ready) c h m x d b t a is = rw (is, append-nil c, append-nil m, append-nil x, append-nil t) a
moves (served u p) s' (closed k how) c h m x d b t g (given, is) =
    rw (is, append-nil c, append-nil m, append-nil x, append-nil t) (account_going c m x d b t u p g)
moves (ending e p) s' (closed k how) c h m x d b t o (may, is) =
    rw (is, append-nil c, append-nil m, append-nil x, append-nil t) (account_over c h m x d b t e p o)
moves fresh s' (came k y) c h m x d b t at is = absurd is
moves fresh s' (ended k) c h m x d b t at is = absurd is
moves fresh s' (answered k mark) c h m x d b t at is = absurd is
moves fresh s' (broke k cause) c h m x d b t at is = absurd is
moves fresh s' (stopped k last) c h m x d b t at is = absurd is
moves fresh s' (left k y) c h m x d b t at is = absurd is
moves fresh s' (closed k how) c h m x d b t at is = absurd is
moves (served u p) s' (opened k) c h m x d b t at is = absurd is
moves (ending e p) s' (opened k) c h m x d b t at is = absurd is
moves (ending e p) s' (came k y) c h m x d b t at is = absurd is
moves (ending e p) s' (ended k) c h m x d b t at is = absurd is
moves (ending e p) s' (answered k mark) c h m x d b t at is = absurd is
moves (ending e p) s' (broke k cause) c h m x d b t at is = absurd is
moves (ending e p) s' (stopped k last) c h m x d b t at is = absurd is
moves gone s' (opened k) c h m x d b t at is = absurd is
moves gone s' (came k y) c h m x d b t at is = absurd is
moves gone s' (ended k) c h m x d b t at is = absurd is
moves gone s' (answered k mark) c h m x d b t at is = absurd is
moves gone s' (broke k cause) c h m x d b t at is = absurd is
moves gone s' (stopped k last) c h m x d b t at is = absurd is
moves gone s' (left k y) c h m x d b t at is = absurd is
moves gone s' (failed k trial) c h m x d b t at is = absurd is
moves gone s' (closed k how) c h m x d b t at is = absurd is

-- one event more
own_more : {A : Type 0} (f : Event → List A) (k : ℕ) (es : List Event) (e : Event) → who e ≡ k → of_all f k (es ++ e ∷ []) ≡ of_all f k es ++ f e
own_more f k es e is =
    flat_map-append (λ d. of k d (f d)) es (e ∷ []) ∙ ap (λ l. flat_map (λ d. of k d (f d)) es ++ l)
    (append-nil (of k e (f e)) ∙ rw (eq-eqb (who e) k is) refl)

other_more : {A : Type 0} (f : Event → List A) (k : ℕ) (es : List Event) (e : Event) → nat_eq (who e) k ≡ false
    → of_all f k (es ++ e ∷ []) ≡ of_all f k es
other_more f k es e differs =
    flat_map-append (λ d. of k d (f d)) es (e ∷ []) ∙ ap (λ l. flat_map (λ d. of k d (f d)) es ++ l)
    (append-nil (of k e (f e)) ∙ rw differs refl) ∙ append-nil (flat_map (λ d. of k d (f d)) es)

abbrev pub IsSo : ℕ → List Event → Stage → Type 0
IsSo k es s =
    IsAt (of_all bytes_in k es) (of_all ends_in k es) (of_all marks_in k es) (of_all cut_in k es) (of_all calls_in k es) (of_all answers_in k es)
    (of_all sent_in k es) s

goes_so : (k : ℕ) (es : List Event) (e : Event) (s s' : Stage) → IsSo k es s → Goes k s e s' → IsSo k (es ++ e ∷ []) s'
goes_so k es e s s' so goes = go (nat_eq (who e) k) refl
  where
    go : (b : Bool) → nat_eq (who e) k ≡ b → IsSo k (es ++ e ∷ []) s'
    go true y =
        let is = eqb-true (who e) k y in
        rw (
          own_more bytes_in k es e is,
          own_more ends_in k es e is,
          own_more marks_in k es e is,
          own_more cut_in k es e is,
          own_more calls_in k es e
              is,
          own_more answers_in k es e is,
          own_more sent_in k es e is,
        )
        (moves s s' e (of_all bytes_in k es) (of_all ends_in k es) (of_all marks_in k es) (of_all cut_in k es) (of_all calls_in k es)
        (of_all answers_in k es) (of_all sent_in k es) so (goes.own is))
    go false y =
        rw (
          other_more bytes_in k es e y,
          other_more ends_in k es e y,
          other_more marks_in k es e y,
          other_more cut_in k es e y,
          other_more calls_in k
              es e y,
          other_more answers_in k es e y,
          other_more sent_in k es e y,
          goes.other (eqb-false (who e) k y),
        ) so

-- the stage at a moment, and what follows from there
pub at_moment : (k : ℕ) (xs ys es done : List Event) (s s' : Stage) → es ≡ xs ++ ys → IsSo k done s → Leads k s es s'
    → (mid : Stage) × IsSo k (done ++ xs) mid × Leads k mid ys s'
at_moment k [] ys es done s s' is so leads =
    (s, subst (λ (d : List Event). IsSo k d s) (sym (append-nil done)) so, subst (λ (l : List Event). Leads k s l s') is leads)
at_moment k (x ∷ xs) ys [] done s s' is so leads = cc
at_moment k (x ∷ xs) ys (e ∷ es) done s s' is so (mid, goes, rest) =
    let same : e ≡ x = cc in
    let tail : es ≡ xs ++ ys = cc in
    let later = at_moment k xs ys es (done ++ e ∷ []) mid s' tail (goes_so k done e s mid so goes) rest in
    let at : IsSo k (done ++ e ∷ xs) later.0 = subst (λ (d : List Event). IsSo k d later.0) (append_assoc done (e ∷ []) xs) later.1 in
    (later.0, subst (λ (d : Event). IsSo k (done ++ d ∷ xs) later.0) same at, later.2)

pub so_from : (k : ℕ) (events es fs : List Event) (s : Stage) → events ≡ es ++ fs → Leads k fresh events s
    → (mid : Stage) × IsSo k es mid × Leads k mid fs s
so_from k events es fs s is leads = at_moment k es fs events [] fresh s is (refl, refl, refl, refl, refl, refl) leads

pub account_so : (k : ℕ) (es : List Event) (s : Stage) → IsSo k es s → HasAccount (came_to k es) (marks_of k es) (cut_of k es) (sent_to k es)
account_so k es s so =
    account (of_all bytes_in k es) (of_all ends_in k es) (of_all marks_in k es) (of_all cut_in k es) (of_all calls_in k es)
    (of_all answers_in k es) (of_all sent_in k es) s so

pub at_each_moment : (k : ℕ) (events : List Event) (s : Stage) → Leads k fresh events s → AtEachMoment (IsAnsweredFor k) events
at_each_moment k events s leads es fs is =
    let at = so_from k events es fs s is leads in
    let a = account (of_all bytes_in k es) (of_all ends_in k es) (of_all marks_in k es) (of_all cut_in k es) (of_all calls_in k es)
    (of_all answers_in k es) (of_all sent_in k es) at.0 at.1 in
    record { rest = a.rest; parses = a.parses; pending = a.pending; texts = a.texts; one = a.one }
