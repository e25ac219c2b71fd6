-- Which faults were reported, one turn after another.
use Rattle.std.proofs.Common.{◌≡◌, ◌≢◌, ◌≤◌, ◌+◌, ℕ, zero, suc, List, [], ◌∷◌, ◌++◌, Bool, true, false, Option, Some, length, take, refl, sym, ap, subst, ◌∙◌}
use Rattle.std.proofs.Common.{append_assoc, append-nil, arith, eq-eqb, eqb-true, length-append, nat_eq, slice_get, slice_set, if◌then◌else◌}
use Rattle.std.proofs.lemmas.{Bool.{eqb-false}, Grind.{flat_map-append}}
use Rattle.std.proofs.KnownBytes.{Appends-nil}
use Rattle.std.specs.{Io.KnownBytes.{Appends}, List.{remove}, Prelude.{IfSome}}
use Rattle.plant_model.specs.declared.reply.Answer.{Answer}
use Rattle.plant_books.specs.declared.books.Books as books
use Rattle.plant_wire.specs.{Marks.{begun, breaking, malformed, nothing, said}, declared.reads.End.{End}}
use Rattle.plant_office.specs.{Faults.{added, faults_in, no_faults, noted, without}, declared.office.Faults.{Faults}}
use Rattle.plant_office.proofs.public.FaultLaws.{faults_then}
use Rattle.plant_server_log.{proofs.public.FaultLines.{lines_then, tells_no_faults, tells_then}, specs.Log.{AreFaultLines, TellsFaults, fault_lines}}
use Rattle.plant_server_clients.specs.Events.{Event, all_answers, all_calls, answered, answers_for, answers_in, broke, calls_in, came, closed, ended, failed}
use Rattle.plant_server_clients.specs.Events.{left, of, opened, reported, stopped, who}
use Rattle.plant_server_clients.specs.Faults.{AreNoted, StayNoted, TellsIf, new_faults, reported_faults, told_faults}
use Rattle.plant_server_clients.specs.{Books.{AreQuiet}, Happens.{AreOf, ConnectionState, ServiceState, Turned, connection_state}, Stages.{AreOpenConnections, connection_with}}
use Rattle.plant_server_clients.specs.declared.{connections.{Asked.{Asked}, Connection.{Connection}}, serving.Plan.{Plan}}
use Rattle.plant_server_clients.proofs.Handled.{turned_at}
use Rattle.plant_server_clients.proofs.Numbers.{below, found, none_above, pushed_other, pushed_own, remove_other, remove_own, set_other, set_own}

told_more : (past es fs : List Event) → told_faults past (es ++ fs) ≡ told_faults (past ++ es) fs ++ told_faults past es
told_more past [] fs =
    ap (λ (p : List Event). told_faults p fs) (sym (append-nil past)) ∙ sym (append-nil (told_faults (past ++ []) fs))
told_more past (e ∷ es) fs =
    let next = past ++ e ∷ [] in
    ap (λ (l : List Faults). l ++ new_faults past e ∷ []) (told_more next es fs)
    ∙ append_assoc (told_faults (next ++ es) fs) (told_faults next es) (new_faults past e ∷ [])
    ∙ ap (λ (p : List Event). told_faults p fs ++ (told_faults next es ++ new_faults past e ∷ [])) (append_assoc past (e ∷ []) es)

-- the answers to a connection's calls
for_then : (k : ℕ) (es fs : List Event) → answers_for k (es ++ fs) ≡ answers_for k es ++ answers_for k fs
for_then k es fs = flat_map-append (λ e. of k e (answers_in e)) es fs

own_event : (k : ℕ) (e : Event) (xs : List Answer) → who e ≡ k → of k e xs ≡ xs
own_event k e xs is = rw (eq-eqb (who e) k is) refl

other_event : (k : ℕ) (e : Event) (xs : List Answer) → who e ≢ k → of k e xs ≡ []
other_event k e xs not = go (nat_eq (who e) k) refl
  where
    go : (b : Bool) → nat_eq (who e) k ≡ b → of k e xs ≡ []
    go true is = absurd (not (eqb-true (who e) k is))
    go false is = rw is refl

none_if : (b : Bool) (xs : List Answer) → xs ≡ [] → (if b then xs else []) ≡ []
none_if true xs none = none
none_if false xs none = refl

none_event : (k : ℕ) (e : Event) → answers_in e ≡ [] → of k e (answers_in e) ≡ []
none_event k e none = none_if (nat_eq (who e) k) (answers_in e) none

for_own : (k : ℕ) (es : List Event) → AreOf k es → answers_for k es ≡ all_answers es
for_own k [] own = refl
for_own k (e ∷ es) (is, own) =
    ap (λ (xs : List Answer). xs ++ answers_for k es) (own_event k e (answers_in e) is) ∙ ap (λ (xs : List Answer). answers_in e ++ xs) (for_own k es own)

for_other : (k j : ℕ) (es : List Event) → AreOf j es → j ≢ k → answers_for k es ≡ []
for_other k j [] own not = refl
for_other k j (e ∷ es) (is, own) not =
    ap (λ (xs : List Answer). xs ++ answers_for k es) (other_event k e (answers_in e) (λ w. not (sym is ∙ w))) ∙ for_other k j es own not

for_quiet : (k : ℕ) (es : List Event) → AreQuiet es → answers_for k es ≡ []
for_quiet k [] quiet = refl
for_quiet k (e ∷ es) (calls, answers, quiet) =
    ap (λ (xs : List Answer). xs ++ answers_for k es) (none_event k e answers) ∙ for_quiet k es quiet

after_none : (k : ℕ) (past es : List Event) → answers_for k es ≡ [] → answers_for k (past ++ es) ≡ answers_for k past
after_none k past es none =
    for_then k past es ∙ ap (λ (xs : List Answer). answers_for k past ++ xs) none ∙ append-nil (answers_for k past)

-- nothing of a line was written
one_unwritten : (faults : Faults) → AreFaultLines (faults ∷ []) []
one_unwritten faults = ([], 0, refl, refl)

unwritten : (past es : List Event) → AreFaultLines (told_faults past es) []
unwritten past [] = refl
unwritten past (e ∷ es) =
    lines_then (new_faults past e ∷ []) (told_faults (past ++ e ∷ []) es) [] [] (one_unwritten (new_faults past e)) (unwritten (past ++ e ∷ []) es)

take_none : (n : ℕ) (xs : List ℕ) → xs ≡ [] → take n xs ≡ []
take_none zero xs none = refl
take_none (suc n) [] none = refl
take_none (suc n) (x ∷ xs) none = cc

-- the lines for these answers, on a connection that was given those before
abbrev now_told : ℕ → List Answer → List Answer → List ℕ
now_told n answers before = take n (fault_lines (without (faults_in answers) (faults_in before)))

no_more : (xs : List Answer) → length xs ≤ 0 → xs ≡ []
no_more [] le = refl
no_more (x ∷ xs) le = absurd (omega (arith, le))

-- the lines of a turn, in which at most one call was made
turn_lines : (k n : ℕ) (past es : List Event) → AreOf k es → length (all_answers es) ≤ 1
    → AreFaultLines (told_faults past es) (now_told n (all_answers es) (answers_for k past))
turn_lines k n past [] own few = take_none n (fault_lines (without (faults_in []) (faults_in (answers_for k past)))) refl
turn_lines k n past (e ∷ es) (is, own) few =
    go (answers_in e) refl (λ less. turn_lines k n (past ++ e ∷ []) es own less)
  where
    next : List Event
    next = past ++ e ∷ []

    go : (xs : List Answer) → answers_in e ≡ xs
        → (length (all_answers es) ≤ 1 → AreFaultLines (told_faults next es) (now_told n (all_answers es) (answers_for k next)))
        → AreFaultLines (told_faults past (e ∷ es)) (now_told n (all_answers (e ∷ es)) (answers_for k past))
    go [] none later =
        let all : all_answers (e ∷ es) ≡ all_answers es = ap (λ (xs : List Answer). xs ++ all_answers es) none in
        let before : answers_for k next ≡ answers_for k past =
        after_none k past (e ∷ []) (ap (λ (xs : List Answer). xs ++ []) (none_event k e none)) in
        let rest = later (subst (λ (xs : List Answer). length xs ≤ 1) all few) in
        let text : now_told n (all_answers es) (answers_for k next) ≡ now_told n (all_answers (e ∷ es)) (answers_for k past) =
        ap (now_told n (all_answers es)) before ∙ ap (λ (xs : List Answer). now_told n xs (answers_for k past)) (sym all) in
        subst (AreFaultLines (told_faults past (e ∷ es))) text
        (lines_then (new_faults past e ∷ []) (told_faults next es) [] (now_told n (all_answers es) (answers_for k next)) (one_unwritten (new_faults past e)) rest)
    go (a ∷ more) some later =
        let count : length (all_answers (e ∷ es)) ≡ length (a ∷ more) + length (all_answers es) =
        length-append (answers_in e) (all_answers es) ∙ ap (λ (xs : List Answer). length xs + length (all_answers es)) some in
        let none = no_more (all_answers es) (omega (arith, count, few)) in
        let all : all_answers (e ∷ es) ≡ answers_in e = ap (λ (xs : List Answer). answers_in e ++ xs) none ∙ append-nil (answers_in e) in
        let text : now_told n (all_answers (e ∷ es)) (answers_for k past) ≡ take n (fault_lines (new_faults past e)) =
        ap (λ (xs : List Answer). now_told n xs (answers_for k past)) all ∙ ap (λ (j : ℕ). now_told n (answers_in e) (answers_for j past)) (sym is) in
        subst (AreFaultLines (told_faults past (e ∷ es))) (append-nil (take n (fault_lines (new_faults past e))) ∙ sym text)
        (lines_then (new_faults past e ∷ []) (told_faults next es) (take n (fault_lines (new_faults past e))) [] ([], n, refl, refl) (unwritten next es))

-- what is noted, after events without an answer
pub noted_quiet : (past es : List Event) (count : ℕ) (ls : List Connection) → AreQuiet es → AreNoted past count ls → AreNoted (past ++ es) count ls
noted_quiet past es count ls quiet are =
    let same : (k : ℕ) → answers_for k past ≡ answers_for k (past ++ es) = λ k. sym (after_none k past es (for_quiet k es quiet)) in
    record {
      each = λ k. subst (λ (xs : List Answer). IfSome (connection_with k ls) (λ l. l.faults ≡ faults_in xs)) (same k) (are.each k);
      none = λ k le. sym (same k) ∙ are.none k le;
    }

pub noted_start : (ls : List Connection) → ls ≡ [] → AreNoted [] 0 ls
noted_start ls none = record {
  each = λ k. subst (λ (ms : List Connection). IfSome (connection_with k ms) (λ l. l.faults ≡ faults_in (answers_for k []))) (sym none) tt;
  none = λ k le. refl;
}

-- after a turn of one connection
noted_turn : (past es : List Event) (count : ℕ) (ls : List Connection) (at : ℕ) (l l' : Connection) → AreOpenConnections count ls
    → slice_get ls at ≡ Some l → l'.number ≡ l.number → AreOf l.number es → l'.faults ≡ added l.faults (faults_in (all_answers es))
    → AreNoted past count ls → AreNoted (past ++ es) count (slice_set ls at l')
noted_turn past es count ls at l l' ok is same own now are = record { each = λ k. each k (nat_eq l.number k) refl; none = none }
  where
    kinds : l'.faults ≡ faults_in (answers_for l.number (past ++ es))
    kinds =
        let before : l.faults ≡ faults_in (answers_for l.number past) =
        subst (λ (o : Option Connection). IfSome o (λ m. m.faults ≡ faults_in (answers_for l.number past))) (found count ls at l ok is) (are.each l.number) in
        now ∙ ap (λ (f : Faults). added f (faults_in (all_answers es))) before
        ∙ sym (faults_then (answers_for l.number past) (all_answers es))
        ∙ ap faults_in (ap (λ (xs : List Answer). answers_for l.number past ++ xs) (sym (for_own l.number es own)) ∙ sym (for_then l.number past es))

    each : (k : ℕ) (b : Bool) → nat_eq l.number k ≡ b
        → IfSome (connection_with k (slice_set ls at l')) (λ m. m.faults ≡ faults_in (answers_for k (past ++ es)))
    each k true e =
        subst (λ (j : ℕ). IfSome (connection_with j (slice_set ls at l')) (λ m. m.faults ≡ faults_in (answers_for j (past ++ es)))) (eqb-true l.number k e)
        (subst (λ (o : Option Connection). IfSome o (λ m. m.faults ≡ faults_in (answers_for l.number (past ++ es)))) (sym (set_own count ls at l l' ok is same)) kinds)
    each k false e =
        let not = eqb-false l.number k e in
        subst (λ (o : Option Connection). IfSome o (λ m. m.faults ≡ faults_in (answers_for k (past ++ es)))) (sym (set_other ls at l l' k is same not))
        (subst (λ (xs : List Answer). IfSome (connection_with k ls) (λ m. m.faults ≡ faults_in xs))
        (sym (after_none k past es (for_other k l.number es own not))) (are.each k))

    none : (k : ℕ) → count ≤ k → answers_for k (past ++ es) ≡ []
    none k le =
        let lt = below count ls at l ok is in
        after_none k past es (for_other k l.number es own (λ e. omega (arith, lt, le, e))) ∙ are.none k le

-- once one is closed
pub noted_removed : (past : List Event) (count : ℕ) (ls : List Connection) (at : ℕ) (l : Connection) → AreOpenConnections count ls
    → slice_get ls at ≡ Some l → AreNoted past count ls → AreNoted past count (remove ls at)
noted_removed past count ls at l ok is are = record { each = λ k. each k (nat_eq l.number k) refl; none = are.none }
  where
    each : (k : ℕ) (b : Bool) → nat_eq l.number k ≡ b → IfSome (connection_with k (remove ls at)) (λ m. m.faults ≡ faults_in (answers_for k past))
    each k true e =
        subst (λ (j : ℕ). IfSome (connection_with j (remove ls at)) (λ m. m.faults ≡ faults_in (answers_for j past))) (eqb-true l.number k e)
        (subst (λ (o : Option Connection). IfSome o (λ m. m.faults ≡ faults_in (answers_for l.number past))) (sym (remove_own count ls at l ok is)) tt)
    each k false e =
        subst (λ (o : Option Connection). IfSome o (λ m. m.faults ≡ faults_in (answers_for k past))) (sym (remove_other ls at l k is (eqb-false l.number k e)))
        (are.each k)

-- once one is accepted
pub noted_pushed : (past : List Event) (count : ℕ) (ls : List Connection) (l : Connection) → AreOpenConnections count ls → l.number ≡ count
    → l.faults ≡ no_faults → AreNoted past count ls → AreNoted past (count + 1) (ls ++ l ∷ [])
noted_pushed past count ls l ok is new are = record { each = λ k. each k (nat_eq count k) refl; none = λ k le. are.none k (omega (arith, le)) }
  where
    each : (k : ℕ) (b : Bool) → nat_eq count k ≡ b → IfSome (connection_with k (ls ++ l ∷ [])) (λ m. m.faults ≡ faults_in (answers_for k past))
    each k true e =
        let same = eqb-true count k e in
        let le : count ≤ k = omega (arith, same) in
        subst (λ (o : Option Connection). IfSome o (λ m. m.faults ≡ faults_in (answers_for k past)))
        (sym (pushed_own ls l k (none_above count ls k ok le) (is ∙ same)))
        (new ∙ ap faults_in (sym (are.none k le)))
    each k false e =
        let not = eqb-false count k e in
        subst (λ (o : Option Connection). IfSome o (λ m. m.faults ≡ faults_in (answers_for k past))) (sym (pushed_other ls l k (λ w. not (sym is ∙ w))))
        (are.each k)

-- as many answers as calls
as_many : (e : Event) → length (answers_in e) ≡ length (calls_in e)
as_many (opened k) = refl
as_many (came k bytes) = refl
as_many (ended k) = refl
as_many (answered k (said call answer)) = refl
as_many (answered k (malformed cause)) = refl
as_many (broke k cause) = refl
as_many (stopped k nothing) = refl
as_many (stopped k (begun (said call answer))) = refl
as_many (stopped k (begun (malformed cause))) = refl
as_many (stopped k (breaking cause)) = refl
as_many (left k bytes) = refl
as_many (failed k trial) = refl
as_many (closed k end) = refl
as_many (reported ready) = refl

all_as_many : (es : List Event) → length (all_answers es) ≡ length (all_calls es)
all_as_many [] = refl
all_as_many (e ∷ es) =
    length-append (answers_in e) (all_answers es) ∙ (λ i. as_many e i + all_as_many es i) ∙ sym (length-append (calls_in e) (all_calls es))

-- once a connection is closed, what was noted is noted still
pub stay_removed : (s t : ServiceState) (at : ℕ) (l : Connection) → AreOpenConnections s.count s.connections → slice_get s.connections at ≡ Some l
    → t.count ≡ s.count → t.connections ≡ remove s.connections at → StayNoted s t
stay_removed s t at l ok is count connections past are =
    subst (λ (n : ℕ). AreNoted past n t.connections) (sym count)
    (subst (AreNoted past s.count) (sym connections) (noted_removed past s.count s.connections at l ok is are))

-- nothing happened
pub tells_none : (reports : Bool) (s : ServiceState) (written : Option (List ℕ)) → TellsIf reports s s [] written written
tells_none reports s written = record {
  told = λ _ past are. (subst (λ (es : List Event). AreNoted es s.count s.connections) (sym (append-nil past)) are, tells_no_faults written);
  quiet = λ _. refl;
}

-- events without an answer
pub tells_quiet : (reports : Bool) (s t : ServiceState) (es : List Event) (written : Option (List ℕ)) → AreQuiet es → StayNoted s t
    → TellsIf reports s t es written written
tells_quiet reports s t es written quiet stay = record {
  told = λ _ past are. (noted_quiet past es t.count t.connections quiet (stay past are), ([], unwritten past es, Appends-nil written));
  quiet = λ _. refl;
}

-- a turn of one connection
pub tells_turn : (reports : Bool) (s t : ServiceState) (es : List Event) (at : ℕ) (l l' : Connection) (written written' : Option (List ℕ))
    → AreOpenConnections s.count s.connections → slice_get s.connections at ≡ Some l → l'.number ≡ l.number → AreOf l.number es
    → length (all_answers es) ≤ 1 → t.count ≡ s.count → t.connections ≡ slice_set s.connections at l'
    → (reports ≡ true → l'.faults ≡ added l.faults (faults_in (all_answers es)))
    → (reports ≡ true → (n : ℕ) × Appends written written' (take n (fault_lines (without (faults_in (all_answers es)) l.faults))))
    → (reports ≡ false → written' ≡ written) → TellsIf reports s t es written written'
tells_turn reports s t es at l l' written written' ok is same own few count connections now told quiet = record {
  told = λ on past are.
      let noted_now = noted_turn past es s.count s.connections at l l' ok is same own (now on) are in
      let before : l.faults ≡ faults_in (answers_for l.number past) =
      subst (λ (o : Option Connection). IfSome o (λ m. m.faults ≡ faults_in (answers_for l.number past))) (found s.count s.connections at l ok is) (are.each l.number) in
      let n = (told on).0 in (
        subst (λ (m : ℕ). AreNoted (past ++ es) m t.connections) (sym count)
            (subst (λ (ls : List Connection). AreNoted (past ++ es) s.count ls) (sym connections) noted_now),
        (
          now_told n (all_answers es) (answers_for l.number past),
          turn_lines l.number n past es own few,
          subst (λ (f : Faults). Appends written written' (take n (fault_lines (without (faults_in (all_answers es)) f)))) before (told on).1,
        ),
      );
  quiet = quiet;
}

-- a turn, after which the faults that the office noted were reported, if any are
pub tells_reported : {B : Type 0} {b : books.Ghosts B} {x y : B} {l : Connection} {after : ConnectionState} {asked : Asked} {over : Option End}
    (reports : Bool) (s : ServiceState) (at : ℕ) (m : Connection) (f g : Faults) (written written' : Option (List ℕ))
    → AreOpenConnections s.count s.connections → slice_get s.connections at ≡ Some l
    → (p : Turned b x y (connection_state s.seen.ports l) after asked over) → (reports ≡ true → f ≡ no_faults)
    → g ≡ noted f (all_answers p.events) → m.faults ≡ l.faults → (reports ≡ true → after.connection.faults ≡ added m.faults g)
    → (reports ≡ true → (n : ℕ) × Appends written written' (take n (fault_lines (without g m.faults))))
    → (reports ≡ false → written' ≡ written) → TellsIf reports s (turned_at s at after) p.events written written'
tells_reported {l = l} {after = after} reports s at m f g written written' ok is p clear notes same now told quiet =
    tells_turn reports s (turned_at s at after) p.events at l after.connection written written' ok is p.went.same p.went.own
    (omega (arith, all_as_many p.events, p.one.once)) refl refl
    (λ on. now on ∙ (λ i. added (same i) (kinds on i)))
    (λ on. ((told on).0, subst (λ (f : Faults). Appends written written' (take (told on).0 (fault_lines f))) (λ i. without (kinds on i) (same i)) (told on).1))
    quiet
  where
    kinds : reports ≡ true → g ≡ faults_in (all_answers p.events)
    kinds on = notes ∙ ap (λ (f : Faults). noted f (all_answers p.events)) (clear on)

-- one part after another, by one plan
pub tells_if_then : {p q : Plan} {s t u : ServiceState} {es fs gs : List Event} {a b c : Option (List ℕ)} → gs ≡ es ++ fs → q ≡ p
    → TellsIf p.while_open s t es a b → TellsIf q.while_open t u fs b c → TellsIf p.while_open s u gs a c
tells_if_then {p = p} {q = q} {s = s} {t = t} {u = u} {es = es} {fs = fs} {gs = gs} {a = a} {b = b} {c = c} is same first next = record {
  told = λ on past are.
      let before = first.told on past are in
      let after = next.told (ap (λ (r : Plan). r.while_open) same ∙ on) (past ++ es) before.0 in (
        subst (λ (all : List Event). AreNoted all u.count u.connections)
            (append_assoc past es fs ∙ ap (λ (all : List Event). past ++ all) (sym is)) after.0,
        subst (λ (l : List Faults). TellsFaults a l c) (sym (told_more past es fs) ∙ ap (told_faults past) (sym is))
            (tells_then a b c (told_faults past es) (told_faults (past ++ es) fs) before.1 after.1),
      );
  quiet = λ no. next.quiet (ap (λ (r : Plan). r.while_open) same ∙ no) ∙ first.quiet no;
}

-- events without an answer, after these
pub tells_then_quiet : {reports : Bool} {s t u : ServiceState} {es gs : List Event} {a b : Option (List ℕ)} (fs : List Event)
    → gs ≡ es ++ fs → AreQuiet fs → StayNoted t u → TellsIf reports s t es a b → TellsIf reports s u gs a b
tells_then_quiet {reports = reports} {t = t} {u = u} {b = b} fs is quiet stay first =
    let plan : Plan = record { connections = 0; while_open = reports } in
    tells_if_then {p = plan} {q = plan} is refl first (tells_quiet reports t u fs b quiet stay)

-- all the lines of a service, from its start
pub tells_all : (reports : Bool) (s t : ServiceState) (es : List Event) (written written' : Option (List ℕ)) → s.count ≡ 0 → s.connections ≡ []
    → TellsIf reports s t es written written' → TellsFaults written (reported_faults reports es) written'
tells_all true s t es written written' count none it =
    (it.told refl [] (subst (λ (n : ℕ). AreNoted [] n s.connections) (sym count) (noted_start s.connections none))).1
tells_all false s t es written written' count none it =
    subst (λ (o : Option (List ℕ)). TellsFaults written [] o) (sym (it.quiet refl)) (tells_no_faults written)
