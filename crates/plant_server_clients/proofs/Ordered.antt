-- Answers of which a byte has left, and requests that had not come: the order of their calls, and what lasts.
use Rattle.std.proofs.Common.{◌≡◌, ◌⊎◌, ◌<◌, ◌+◌, ℕ, List, [], ◌∷◌, ◌++◌, Bool, true, false, cond, length, map, drop, inl, inr}
use Rattle.std.proofs.Common.{refl, sym, ap, subst, ◌∙◌, append_assoc, append-nil, arith, nat_eq, eqb-true, length-append}
use Rattle.std.proofs.lemmas.{Bool.{eqb-false}, Grind.{flat_map-append}}
use Rattle.plant_model.specs.{declared.{call.Call.{Call}, reply.Answer.{Answer}}}
use Rattle.plant_books.specs.declared.books.Books as books
use Rattle.plant_office.specs.{Outcomes.{AreMade, confirmed, confirms}}
use Rattle.plant_wire_call.specs.Front.{Parsed}
use Rattle.plant_wire.specs.Marks.{Mark, marked_item, mark_text, out_of, said}
use Rattle.plant_server_clients.specs.{Books.{Makes}, Lasting.{Lasts}, Order.{AsksAfter, IsAmong, IsInOrder, WasTold}}
use Rattle.plant_server_clients.specs.Events.{Event, opened, came, ended, answered, broke, stopped, left, failed, closed, reported, who, of, all_answers}
use Rattle.plant_server_clients.specs.Events.{all_calls, answers_in, calls_in, came_to, cut_of, marks_in, marks_of, sent_to}
use Rattle.plant_server_clients.specs.Stages.{Leads, Moves, Stage, fresh, gone, served, ending}
use Rattle.plant_server_clients.proofs.{Apart.{all_even}, Moments.{IsSo, account_so, so_from}, Paced.{two_ways}}
use Rattle.plant_server_clients.proofs.Waited.{is_over, marks-append, over_moves}

-- Once it is over no request of it is answered.
over_mark : (s t : Stage) (e : Event) → Moves s e t → is_over s ≡ true → marks_in e ≡ []
over_mark fresh t e is over = cc
over_mark (served u p) t e is over = cc
over_mark (ending end p) t (opened k) is over = refl
over_mark (ending end p) t (came k bytes) is over = refl
over_mark (ending end p) t (ended k) is over = refl
over_mark (ending end p) t (answered k mark) is over = absurd is
over_mark (ending end p) t (broke k cause) is over = refl
over_mark (ending end p) t (stopped k last) is over = refl
over_mark (ending end p) t (left k bytes) is over = refl
over_mark (ending end p) t (failed k trial) is over = refl
over_mark (ending end p) t (closed k how) is over = refl
over_mark (ending end p) t (reported ready) is over = refl
over_mark gone t (opened k) is over = refl
over_mark gone t (came k bytes) is over = refl
over_mark gone t (ended k) is over = refl
over_mark gone t (answered k mark) is over = absurd is
over_mark gone t (broke k cause) is over = refl
over_mark gone t (stopped k last) is over = refl
over_mark gone t (left k bytes) is over = refl
over_mark gone t (failed k trial) is over = refl
over_mark gone t (closed k how) is over = refl
over_mark gone t (reported ready) is over = refl

of_none : (k : ℕ) (e : Event) → (who e ≡ k → marks_in e ≡ []) → of k e (marks_in e) ≡ []
of_none k e none = one (nat_eq (who e) k) refl
  where
    one : (own : Bool) → nat_eq (who e) k ≡ own → of k e (marks_in e) ≡ []
    one true is = ap (λ b. cond b (marks_in e) []) is ∙ none (eqb-true (who e) k is)
    one false is = ap (λ b. cond b (marks_in e) []) is

over_marks : (k : ℕ) (s t : Stage) (es : List Event) → Leads k s es t → is_over s ≡ true → marks_of k es ≡ []
over_marks k s t [] leads over = refl
over_marks k s t (e ∷ es) (mid, goes, rest) over =
    ap (λ (ms : List Mark). ms ++ marks_of k es) (of_none k e (λ own. over_mark s mid e (goes.own own) over))
    ∙ over_marks k mid t es rest (one (nat_eq (who e) k) refl)
  where
    one : (own : Bool) → nat_eq (who e) k ≡ own → is_over mid ≡ true
    one true is = over_moves s mid e (goes.own (eqb-true (who e) k is)) over
    one false is = ap is_over (goes.other (eqb-false (who e) k is)) ∙ over

-- The texts of some requests are no longer than those of all.
out-append : (ms ns : List Mark) → length (out_of (ms ++ ns)) ≡ length (out_of ms) + length (out_of ns)
out-append ms ns = ap length (flat_map-append mark_text ms ns) ∙ length-append (out_of ms) (out_of ns)

-- where more was sent than the texts of the answered requests, nothing more is answered
none_after : (k : ℕ) (es fs : List Event) (s t : Stage) → IsSo k es s → Leads k s fs t → length (out_of (marks_of k es)) < length (sent_to k es)
    → marks_of k fs ≡ []
none_after k es fs fresh t so leads more =
    let sent = so.5 in
    absurd (omega (arith, more, ap length sent))
none_after k es fs (served u p) t so leads more =
    let a = account_so k es (served u p) so in
    let whole = ap length (a.texts) in
    absurd
    (omega (
      arith,
      more,
      whole,
      ap length so.uncut,
      length-append (out_of (marks_of k es)) (cut_of k es),
      length-append (sent_to k es) a.pending,
    ))
none_after k es fs (ending end p) t so leads more = over_marks k (ending end p) t fs leads refl
none_after k es fs gone t so leads more = over_marks k gone t fs leads refl

made_before : (j : ℕ) (now es fs : List Event) (t : Stage) (first : Mark) → now ≡ es ++ fs → Leads j fresh now t → WasTold now es j first
    → IsAmong first (marks_of j es)
made_before j now es fs t first is leads told =
    elim (two_ways (marks_of j es) (marks_of j fs) told.earlier (first ∷ told.later) parts) as (λ _. IsAmong first (marks_of j es)) [
      | inl p ↦ within p.0 p.1 p.2
      | inr p ↦ late (told.earlier) p.0 p.1 p.2
    ]
  where
    parts : marks_of j es ++ marks_of j fs ≡ told.earlier ++ first ∷ told.later
    parts = sym (marks-append j es fs) ∙ sym (ap (marks_of j) is) ∙ told.are

    at : (mid : Stage) × IsSo j es mid × Leads j mid fs t
    at = so_from j now es fs t is leads

    late : (earlier gs : List Mark) → told.earlier ≡ marks_of j es ++ gs → marks_of j fs ≡ gs ++ first ∷ told.later → IsAmong first (marks_of j es)
    late earlier gs before after =
        let long : length (out_of (marks_of j es)) < length (sent_to j es) =
        omega (arith, told.begun, ap (λ ms. length (out_of ms)) before, out-append (marks_of j es) gs) in
        let none = none_after j es fs at.0 t at.1 at.2 long in
        some_more gs (sym after ∙ none)
      where
        some_more : {A : Type 0} (gs : List Mark) → gs ++ first ∷ told.later ≡ [] → A
        some_more [] e = cc
        some_more (g ∷ gs) e = cc

    within : (gs : List Mark) → marks_of j es ≡ told.earlier ++ gs → first ∷ told.later ≡ gs ++ marks_of j fs → IsAmong first (marks_of j es)
    within [] before after = late told.earlier [] (sym (append-nil told.earlier) ∙ sym before ∙ sym (append-nil (marks_of j es))) (sym after)
    within (g ∷ gs) before after =
        let same : first ≡ g = cc in
        (told.earlier, gs, subst (λ (m : Mark). marks_of j es ≡ told.earlier ++ m ∷ gs) (sym same) before)

-- of the parses of some requests, those of the first of them
parses_first : (a : List ℕ) (ms ns : List Mark) (rest : List ℕ) → Parsed a (map marked_item (ms ++ ns)) rest
    → (mid : List ℕ) × Parsed a (map marked_item ms) mid
parses_first a [] ns rest parses = (a, refl)
parses_first a (m ∷ ms) ns rest (n, front, more) =
    let later = parses_first (drop n a) ms ns rest more in
    (later.0, (n, front, later.1))

made_after : (k : ℕ) (now es fs : List Event) (t : Stage) (next : Mark) → now ≡ es ++ fs → Leads k fresh now t → AsksAfter now es k next
    → IsAmong next (marks_of k fs)
made_after k now es fs t next is leads asks =
    elim (two_ways (marks_of k es) (marks_of k fs) asks.earlier (next ∷ asks.later) parts) as (λ _. IsAmong next (marks_of k fs)) [
      | inl p ↦ within p.0 p.1 p.2
      | inr p ↦ (p.0, asks.later, p.2)
    ]
  where
    parts : marks_of k es ++ marks_of k fs ≡ asks.earlier ++ next ∷ asks.later
    parts = sym (marks-append k es fs) ∙ sym (ap (marks_of k) is) ∙ asks.are

    within : (gs : List Mark) → marks_of k es ≡ asks.earlier ++ gs → next ∷ asks.later ≡ gs ++ marks_of k fs → IsAmong next (marks_of k fs)
    within [] before after = ([], asks.later, sym after)
    within (g ∷ gs) before after =
        let same : next ≡ g = cc in
        let at = so_from k now es fs t is leads in
        let a = account_so k es at.0 at.1 in
        let split : marks_of k es ≡ (asks.earlier ++ next ∷ []) ++ gs =
        before ∙ ap (λ (m : Mark). asks.earlier ++ m ∷ gs) (sym same) ∙ sym (append_assoc asks.earlier (next ∷ []) gs) in
        let parses = parses_first (came_to k es) (asks.earlier ++ next ∷ []) gs a.rest
        (subst (λ (ms : List Mark). Parsed (came_to k es) (map marked_item ms) a.rest) split a.parses) in
        absurd (asks.after parses.0 parses.1)

pub in_order : (events : List Event) (last : ℕ → Stage) → ((k : ℕ) → Leads k fresh events (last k)) → IsInOrder events
in_order events last goes es fs j k first next is told asks =
    (made_before j events es fs (last j) first is (goes j) told, made_after k events es fs (last k) next is (goes k) asks)

-- The event that answered a request
marks_one : (k : ℕ) (e : Event) → (of k e (marks_in e) ≡ []) ⊎ ((m : Mark) × (e ≡ answered k m) × (of k e (marks_in e) ≡ m ∷ []))
marks_one k (answered i m) = one (nat_eq i k) refl
  where
    one : (own : Bool) → nat_eq i k ≡ own
        → (of k (answered i m) (m ∷ []) ≡ []) ⊎ ((n : Mark) × (answered i m ≡ answered k n) × (of k (answered i m) (m ∷ []) ≡ n ∷ []))
    one true is = inr (m, ap (λ (j : ℕ). answered j m) (eqb-true i k is), ap (λ b. cond b (m ∷ []) []) is)
    one false is = inl (ap (λ b. cond b (m ∷ []) []) is)
marks_one k (opened i) = inl (of_none k (opened i) (λ _. refl))
marks_one k (came i bytes) = inl (of_none k (came i bytes) (λ _. refl))
marks_one k (ended i) = inl (of_none k (ended i) (λ _. refl))
marks_one k (broke i cause) = inl (of_none k (broke i cause) (λ _. refl))
marks_one k (stopped i last) = inl (of_none k (stopped i last) (λ _. refl))
marks_one k (left i bytes) = inl (of_none k (left i bytes) (λ _. refl))
marks_one k (failed i trial) = inl (of_none k (failed i trial) (λ _. refl))
marks_one k (closed i end) = inl (of_none k (closed i end) (λ _. refl))
marks_one k (reported ready) = inl (of_none k (reported ready) (λ _. refl))

abbrev Answered : ℕ → Mark → List Event → Type 0
Answered k mark es = (xs : List Event) × (ys : List Event) × (es ≡ xs ++ answered k mark ∷ ys)

found : (k : ℕ) (mark : Mark) (earlier later : List Mark) (es : List Event) → marks_of k es ≡ earlier ++ mark ∷ later → Answered k mark es
found k mark [] later [] is = cc
found k mark (m ∷ earlier) later [] is = cc
found k mark earlier later (e ∷ es) is =
    all (λ front rest. let at = found k mark front later es rest in (e ∷ at.0, at.1, ap (λ (l : List Event). e ∷ l) at.2))
  where
    first : ((front : List Mark) → marks_of k es ≡ front ++ mark ∷ later → Answered k mark (e ∷ es)) → (front : List Mark) (m : Mark)
        → e ≡ answered k m → m ∷ marks_of k es ≡ front ++ mark ∷ later → Answered k mark (e ∷ es)
    first more [] m own rest =
        let same : m ≡ mark = cc in
        ([], es, ap (λ (d : Event). d ∷ es) (own ∙ ap (answered k) same))
    first more (n ∷ front) m own rest =
        let tail : marks_of k es ≡ front ++ mark ∷ later = cc in
        more front tail

    all : ((front : List Mark) → marks_of k es ≡ front ++ mark ∷ later → Answered k mark (e ∷ es)) → Answered k mark (e ∷ es)
    all more = elim (marks_one k e) as (λ _. Answered k mark (e ∷ es)) [
      | inl none ↦ more earlier (sym (ap (λ (ms : List Mark). ms ++ marks_of k es) none) ∙ is)
      | inr one ↦ first more earlier one.0 one.1 (sym (ap (λ (ms : List Mark). ms ++ marks_of k es) one.2) ∙ is)
    ]

-- The calls that were confirmed
confirmed-append : (cs ds : List Call) (xs ys : List Answer) → length cs ≡ length xs → confirmed (cs ++ ds) (xs ++ ys) ≡ confirmed cs xs ++ confirmed ds ys
confirmed-append [] ds [] ys even = refl
confirmed-append [] ds (x ∷ xs) ys even = absurd (omega (arith, even))
confirmed-append (c ∷ cs) ds [] ys even = absurd (omega (arith, even))
confirmed-append (c ∷ cs) ds (x ∷ xs) ys even =
    let rest = confirmed-append cs ds xs ys (omega (arith, even)) in
    elim (confirms c x) as (λ b. cond b (c ∷ confirmed (cs ++ ds) (xs ++ ys)) (confirmed (cs ++ ds) (xs ++ ys))
    ≡ cond b (c ∷ confirmed cs xs) (confirmed cs xs) ++ confirmed ds ys) [
      | true ↦ ap (λ (l : List Call). c ∷ l) rest
      | false ↦ rest
    ]

confirmed_one : (c : Call) (x : Answer) (cs : List Call) (xs : List Answer) → confirms c x ≡ true → confirmed (c ∷ cs) (x ∷ xs) ≡ c ∷ confirmed cs xs
confirmed_one c x cs xs is = ap (λ b. cond b (c ∷ confirmed cs xs) (confirmed cs xs)) is

among_confirmed : (cs : List Call) (xs : List Answer) (es : List Event) (k : ℕ) (call : Call) (answer : Answer) → length cs ≡ length xs
    → Answered k (said call answer) es → confirms call answer ≡ true → IsAmong call (confirmed (cs ++ all_calls es) (xs ++ all_answers es))
among_confirmed cs xs es k call answer even (ys, zs, is) kept =
    let calls : all_calls es ≡ all_calls ys ++ call ∷ all_calls zs = ap all_calls is ∙ flat_map-append calls_in ys (answered k (said call answer) ∷ zs) in
    let answers : all_answers es ≡ all_answers ys ++ answer ∷ all_answers zs =
    ap all_answers is ∙ flat_map-append answers_in ys (answered k (said call answer) ∷ zs) in
    let whole : confirmed (cs ++ all_calls es) (xs ++ all_answers es)
    ≡ confirmed cs xs ++ (confirmed (all_calls ys) (all_answers ys) ++ call ∷ confirmed (all_calls zs) (all_answers zs)) =
    confirmed-append cs (all_calls es) xs (all_answers es) even
    ∙ ap (λ (l : List Call). confirmed cs xs ++ confirmed l (all_answers es)) calls
    ∙ ap (λ (l : List Answer). confirmed cs xs ++ confirmed (all_calls ys ++ call ∷ all_calls zs) l) answers
    ∙ ap (λ (l : List Call). confirmed cs xs ++ l)
    (confirmed-append (all_calls ys) (call ∷ all_calls zs) (all_answers ys) (answer ∷ all_answers zs) (all_even ys)
    ∙ ap (λ (l : List Call). confirmed (all_calls ys) (all_answers ys) ++ l) (confirmed_one call answer (all_calls zs) (all_answers zs) kept)) in (
      confirmed cs xs ++ confirmed (all_calls ys) (all_answers ys),
      confirmed (all_calls zs) (all_answers zs),
      whole ∙ sym (append_assoc (confirmed cs xs) (confirmed (all_calls ys) (all_answers ys)) (call ∷ confirmed (all_calls zs) (all_answers zs))),
    )

among_made : (call : Call) (calls : List Call) (answers : List Answer) (made : List Call) → IsAmong call (confirmed calls answers)
    → AreMade calls answers made → IsAmong call made
among_made call calls answers made (before, after, is) (inl all) = (before, after, all ∙ is)
among_made call calls answers made (before, after, is) (inr (c, doubt, all)) =
    (before, after ++ c ∷ [], all ∙ ap (λ (l : List Call). l ++ c ∷ []) is ∙ append_assoc before (call ∷ after) (c ∷ []))

pub lasting : {B : Type 0} (b : books.Ghosts B) (x y : B) (es : List Event) → Makes b x y (all_calls es) (all_answers es) → Lasts b x y es
lasting b x y es made w earlier answers clean were content leaves =
    let are = made.ran.endures.goes_on w earlier answers clean were in
    let outcome = are.outcomes content leaves in
    record {
      outcome = outcome;
      told = λ k call answer told kept.
          among_made call (earlier ++ all_calls es) (answers ++ all_answers es) outcome.made
          (among_confirmed earlier answers es k call answer (sym were.long) (found k (said call answer) told.earlier told.later es told.are) kept)
          outcome.are_made;
    }
