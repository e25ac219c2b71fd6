-- The open connections, by their numbers.
use Rattle.std.proofs.Common.{◌≡◌, ◌≢◌, ◌≤◌, ◌<◌, ◌+◌, ℕ, zero, suc, List, [], ◌∷◌, ◌++◌, Bool, true, false, Option, Some, None, slice_get}
use Rattle.std.proofs.Common.{slice_index_or, slice_set, refl, sym, ap, subst, ◌∙◌, cond, nat_eq, nat_lt, arith, take, inl, inr}
use Rattle.std.proofs.Common.{ltb-true, ltb-false, lt-ltb, le-ltb, eq-eqb, eqb-true}
use Rattle.std.proofs.lemmas.Bool.{eqb-false}
use Rattle.std.specs.{List.{remove}, Prelude.{IfSome}}
use Rattle.plant_wire_call.specs.Cut.{WaitsBelow}
use Rattle.plant_wire.specs.declared.reads.End.{End}
use Rattle.plant_wire.specs.declared.reads.End.TheVariants.{WriteFailed}
use Rattle.plant_server_clients.specs.Events.{Event, accepting, opened, closed, failed}
use Rattle.plant_server_clients.specs.Stages.{AreOpenConnections, IsGivenUp, Leads, MayClose, Moves, Stage, fresh, gone, served, connection_with, stage_by, stage_if_open}
use Rattle.plant_server_clients.specs.Stages.{stage_in, stage_of}
use Rattle.plant_server_clients.specs.{Happens.{AreOf}, Heeded.{pending_at}, Prompt.{ArePrompt, IsPrompt}, Stages.{IsNoneNumbered}}
use Rattle.plant_server_clients.proofs.Leading.{leads_other}
use Rattle.plant_server_clients.specs.declared.connections.Connection.{Connection}

-- the first connection with the number, or a later one
here : (x : Connection) (k : ℕ) (ls : List Connection) → x.number ≡ k → connection_with k (x ∷ ls) ≡ Some x
here x k ls is = rw (eq-eqb x.number k is) refl

later : (x : Connection) (k : ℕ) (ls : List Connection) → x.number ≢ k → connection_with k (x ∷ ls) ≡ connection_with k ls
later x k ls not = go (nat_eq x.number k) refl
  where
    go : (b : Bool) → nat_eq x.number k ≡ b → connection_with k (x ∷ ls) ≡ connection_with k ls
    go true e = absurd (not (eqb-true x.number k e))
    go false e = rw e refl

pub below : (count : ℕ) (ls : List Connection) (at : ℕ) (l : Connection) → AreOpenConnections count ls → slice_get ls at ≡ Some l → l.number < count
below count [] at l ok is = cc
below count (x ∷ ls) zero l ok is = let e : x ≡ l = cc in subst (λ (t : Connection). t.number < count) e ok.0
below count (x ∷ ls) (suc at) l ok is = below count ls at l ok.3 is

-- a number that no connection has is not that of an open connection
absent : (k : ℕ) (ls : List Connection) (at : ℕ) (l : Connection) → connection_with k ls ≡ None → slice_get ls at ≡ Some l → l.number ≡ k → ⊥
absent k [] at l none is same = cc
absent k (x ∷ ls) zero l none is same =
    let e : x ≡ l = cc in
    let h = here x k ls (ap (λ (t : Connection). t.number) e ∙ same) in
    cc
absent k (x ∷ ls) (suc at) l none is same = go (nat_eq x.number k) refl (λ h. absent k ls at l h is same)
  where
    go : (b : Bool) → nat_eq x.number k ≡ b → (connection_with k ls ≡ None → ⊥) → ⊥
    go true e before = let h = here x k ls (eqb-true x.number k e) in cc
    go false e before = before (sym (later x k ls (eqb-false x.number k e)) ∙ none)

-- a connection has another number than a later one
differs : (count : ℕ) (x : Connection) (ls : List Connection) (at : ℕ) (l : Connection) → AreOpenConnections count (x ∷ ls) → slice_get ls at ≡ Some l
    → x.number ≢ l.number
differs count x ls at l ok is same = absent x.number ls at l ok.1 is (sym same)

pub found : (count : ℕ) (ls : List Connection) (at : ℕ) (l : Connection) → AreOpenConnections count ls → slice_get ls at ≡ Some l → connection_with l.number ls ≡ Some l
found count [] at l ok is = cc
found count (x ∷ ls) zero l ok is = let e : x ≡ l = cc in here x l.number ls (ap (λ (t : Connection). t.number) e) ∙ ap Some e
found count (x ∷ ls) (suc at) l ok is = later x l.number ls (differs count x ls at l ok is) ∙ found count ls at l ok.3 is

pub set_own : (count : ℕ) (ls : List Connection) (at : ℕ) (l l' : Connection) → AreOpenConnections count ls → slice_get ls at ≡ Some l → l'.number ≡ l.number
    → connection_with l.number (slice_set ls at l') ≡ Some l'
set_own count [] at l l' ok is same = cc
set_own count (x ∷ ls) zero l l' ok is same = here l' l.number ls same
set_own count (x ∷ ls) (suc at) l l' ok is same =
    later x l.number (slice_set ls at l') (differs count x ls at l ok is) ∙ set_own count ls at l l' ok.3 is same

pub set_other : (ls : List Connection) (at : ℕ) (l l' : Connection) (k : ℕ) → slice_get ls at ≡ Some l → l'.number ≡ l.number → l.number ≢ k
    → connection_with k (slice_set ls at l') ≡ connection_with k ls
set_other [] at l l' k is same not = cc
set_other (x ∷ ls) zero l l' k is same not =
    let e : x ≡ l = cc in
    later l' k ls (λ w. not (sym same ∙ w)) ∙ sym (later x k ls (λ w. not (sym (ap (λ (t : Connection). t.number) e) ∙ w)))
set_other (x ∷ ls) (suc at) l l' k is same not = go (nat_eq x.number k) refl (set_other ls at l l' k is same not)
  where
    go : (b : Bool) → nat_eq x.number k ≡ b → connection_with k (slice_set ls at l') ≡ connection_with k ls
        → connection_with k (x ∷ slice_set ls at l') ≡ connection_with k (x ∷ ls)
    go true e h = rw e refl
    go false e h = rw e h

pub set_connections : (count : ℕ) (ls : List Connection) (at : ℕ) (l l' : Connection) → AreOpenConnections count ls → slice_get ls at ≡ Some l → l'.number ≡ l.number
    → WaitsBelow l'.unread.items l'.wanted → AreOpenConnections count (slice_set ls at l')
set_connections count [] at l l' ok is same waits = tt
set_connections count (x ∷ ls) zero l l' ok is same waits =
    let first : l ≡ x = cc in
    let e : l'.number ≡ x.number = same ∙ ap (λ (t : Connection). t.number) first in
    (subst (λ (n : ℕ). n < count) (sym e) ok.0, ap (λ n. connection_with n ls) e ∙ ok.1, waits, ok.3)
set_connections count (x ∷ ls) (suc at) l l' ok is same waits = (
  ok.0,
  set_other ls at l l' x.number is same (λ w. differs count x ls at l ok is (sym w)) ∙ ok.1,
  ok.2,
  set_connections count ls at l l' ok.3 is same
      waits,
)

-- where a connection is
stage_open_at : (k count : ℕ) (ls : List Connection) → k < count → stage_of k count ls ≡ stage_if_open (connection_with k ls)
stage_open_at k count ls lt = rw (lt-ltb k count lt) refl

stage_fresh_at : (k count : ℕ) (ls : List Connection) → count ≤ k → stage_of k count ls ≡ fresh
stage_fresh_at k count ls le = rw (le-ltb k count le) refl

stage_same : (k count : ℕ) (ls ms : List Connection) → connection_with k ms ≡ connection_with k ls → stage_of k count ms ≡ stage_of k count ls
stage_same k count ls ms e = rw e refl

pub stage_at : (count : ℕ) (ls : List Connection) (at : ℕ) (l : Connection) → AreOpenConnections count ls → slice_get ls at ≡ Some l
    → stage_of l.number count ls ≡ stage_in l
stage_at count ls at l ok is = stage_open_at l.number count ls (below count ls at l ok is) ∙ ap stage_if_open (found count ls at l ok is)

-- one connection moved on by these events: so did its connection, and no other
pub lifted : (count : ℕ) (ls : List Connection) (at : ℕ) (l l' : Connection) (events : List Event) → AreOpenConnections count ls → slice_get ls at ≡ Some l
    → l'.number ≡ l.number
    → AreOf l.number events → Leads l.number (stage_in l) events (stage_in l') → (k : ℕ)
    → Leads k (stage_of k count ls) events (stage_of k count (slice_set ls at l'))
lifted count ls at l l' events ok is same own leads k = go (nat_eq l.number k) refl
  where
    go : (b : Bool) → nat_eq l.number k ≡ b → Leads k (stage_of k count ls) events (stage_of k count (slice_set ls at l'))
    go true e =
        let after = stage_open_at l.number count (slice_set ls at l') (below count ls at l ok is) ∙ ap stage_if_open
        (set_own count ls at l l' ok is same) in
        subst (λ (n : ℕ). Leads n (stage_of n count ls) events (stage_of n count (slice_set ls at l'))) (eqb-true l.number k e)
        (subst (λ (s : Stage). Leads l.number s events (stage_of l.number count (slice_set ls at l'))) (sym (stage_at count ls at l ok is))
        (subst (λ (s : Stage). Leads l.number (stage_in l) events s) (sym after) leads))
    go false e =
        let not = eqb-false l.number k e in
        subst (λ (s : Stage). Leads k (stage_of k count ls) events s)
        (sym (stage_same k count ls (slice_set ls at l') (set_other ls at l l' k is same not)))
        (leads_other k l.number (stage_of k count ls) events own not)

-- once a connection is closed, no connection has its number
pub remove_own : (count : ℕ) (ls : List Connection) (at : ℕ) (l : Connection) → AreOpenConnections count ls → slice_get ls at ≡ Some l
    → connection_with l.number (remove ls at) ≡ None
remove_own count [] at l ok is = cc
remove_own count (x ∷ ls) zero l ok is = let e : x ≡ l = cc in ap (λ (t : Connection). connection_with t.number ls) (sym e) ∙ ok.1
remove_own count (x ∷ ls) (suc at) l ok is = later x l.number (remove ls at) (differs count x ls at l ok is) ∙ remove_own count ls at l ok.3 is

pub remove_other : (ls : List Connection) (at : ℕ) (l : Connection) (k : ℕ) → slice_get ls at ≡ Some l → l.number ≢ k
    → connection_with k (remove ls at) ≡ connection_with k ls
remove_other [] at l k is not = cc
remove_other (x ∷ ls) zero l k is not = let e : x ≡ l = cc in sym (later x k ls (λ w. not (sym (ap (λ (t : Connection). t.number) e) ∙ w)))
remove_other (x ∷ ls) (suc at) l k is not = go (nat_eq x.number k) refl (remove_other ls at l k is not)
  where
    go : (b : Bool) → nat_eq x.number k ≡ b → connection_with k (remove ls at) ≡ connection_with k ls → connection_with k (x ∷ remove ls at) ≡ connection_with k (x ∷ ls)
    go true e h = rw e refl
    go false e h = rw e h

pub remove_connections : (count : ℕ) (ls : List Connection) (at : ℕ) (l : Connection) → AreOpenConnections count ls → slice_get ls at ≡ Some l
    → AreOpenConnections count (remove ls at)
remove_connections count [] at l ok is = cc
remove_connections count (x ∷ ls) zero l ok is = ok.3
remove_connections count (x ∷ ls) (suc at) l ok is =
    (ok.0, remove_other ls at l x.number is (λ w. differs count x ls at l ok is (sym w)) ∙ ok.1, ok.2, remove_connections count ls at l ok.3 is)

pub gives_up : (l : Connection) (end : End) → l.end ≡ None → IsGivenUp l.unread.items l.pending.text.items end → MayClose l end
gives_up l end is given = rw is (given, refl)

pub loses : (l : Connection) → l.pending.text.items ≢ [] → MayClose l WriteFailed
loses l some = go l.unread.items l.pending.text.items l.end some
  where
    go : (u p : List ℕ) (e : Option End) → p ≢ [] → Moves (stage_by u p e) (closed l.number WriteFailed) gone
    go u p None some = (some, refl)
    go u p (Some e) some = (inr (refl, some), refl)

pub ends_so : (l : Connection) (end : End) → l.end ≡ Some end → l.pending.text.items ≡ [] → MayClose l end
ends_so l end is none = rw (is, none) (inl (refl, refl), refl)

pub over_so : (l : Connection) → l.pending.text.items ≡ [] → IfSome l.end (λ end. MayClose l end)
over_so l none = go l.end refl
  where
    go : (e : Option End) → l.end ≡ e → IfSome e (λ end. MayClose l end)
    go None is = tt
    go (Some e) is = ends_so l e is none

pub lifted_closed : (count : ℕ) (ls : List Connection) (at : ℕ) (l : Connection) (end : End) → AreOpenConnections count ls → slice_get ls at ≡ Some l
    → MayClose l end
    → (k : ℕ) → Leads k (stage_of k count ls) (closed l.number end ∷ []) (stage_of k count (remove ls at))
lifted_closed count ls at l end ok is may k = go (nat_eq l.number k) refl
  where
    go : (b : Bool) → nat_eq l.number k ≡ b → Leads k (stage_of k count ls) (closed l.number end ∷ []) (stage_of k count (remove ls at))
    go true e =
        let after = stage_open_at l.number count (remove ls at) (below count ls at l ok is) ∙ ap stage_if_open (remove_own count ls at l ok is) in
        subst (λ (n : ℕ). Leads n (stage_of n count ls) (closed l.number end ∷ []) (stage_of n count (remove ls at))) (eqb-true l.number k e)
        (subst (λ (s : Stage). Leads l.number s (closed l.number end ∷ []) (stage_of l.number count (remove ls at)))
        (sym (stage_at count ls at l ok is))
        (gone, record { own = λ w. may; other = λ n. absurd (n refl) }, after))
    go false e =
        let not = eqb-false l.number k e in
        subst (λ (s : Stage). Leads k (stage_of k count ls) (closed l.number end ∷ []) s)
        (sym (stage_same k count ls (remove ls at) (remove_other ls at l k is not)))
        (leads_other k l.number (stage_of k count ls) (closed l.number end ∷ []) (refl, tt) not)

-- a connection is accepted
pub none_above : (count : ℕ) (ls : List Connection) (k : ℕ) → AreOpenConnections count ls → count ≤ k → connection_with k ls ≡ None
none_above count [] k ok le = refl
none_above count (x ∷ ls) k ok le = later x k ls (λ e. let lt = ok.0 in omega (arith, e)) ∙ none_above count ls k ok.3 le

pub pushed_own : (ls : List Connection) (l : Connection) (k : ℕ) → connection_with k ls ≡ None → l.number ≡ k → connection_with k (ls ++ l ∷ []) ≡ Some l
pushed_own [] l k none is = here l k [] is
pushed_own (x ∷ ls) l k none is = go (nat_eq x.number k) refl (λ h. pushed_own ls l k h is)
  where
    go : (b : Bool) → nat_eq x.number k ≡ b → (connection_with k ls ≡ None → connection_with k (ls ++ l ∷ []) ≡ Some l)
        → connection_with k (x ∷ (ls ++ l ∷ [])) ≡ Some l
    go true e more = let h = here x k ls (eqb-true x.number k e) in cc
    go false e more = rw e (more (sym (later x k ls (eqb-false x.number k e)) ∙ none))

pub pushed_other : (ls : List Connection) (l : Connection) (k : ℕ) → l.number ≢ k → connection_with k (ls ++ l ∷ []) ≡ connection_with k ls
pushed_other [] l k not = later l k [] not
pushed_other (x ∷ ls) l k not = go (nat_eq x.number k) refl (pushed_other ls l k not)
  where
    go : (b : Bool) → nat_eq x.number k ≡ b → connection_with k (ls ++ l ∷ []) ≡ connection_with k ls
        → connection_with k (x ∷ (ls ++ l ∷ [])) ≡ connection_with k (x ∷ ls)
    go true e h = rw e refl
    go false e h = rw e h

pub pushed_connections : (count : ℕ) (ls : List Connection) (l : Connection) → AreOpenConnections count ls → l.number ≡ count → WaitsBelow l.unread.items l.wanted
    → AreOpenConnections (count + 1) (ls ++ l ∷ [])
pushed_connections count [] l ok is waits = (omega (arith, is), refl, waits, tt)
pushed_connections count (x ∷ ls) l ok is waits = (
  omega (arith, ok.0),
  pushed_other ls l x.number (λ e. omega (arith, e, is, ok.0)) ∙ ok.1,
  ok.2,
  pushed_connections count ls l ok.3 is waits,
)

pub more_connections : (count : ℕ) (ls : List Connection) → AreOpenConnections count ls → AreOpenConnections (count + 1) ls
more_connections count [] ok = tt
more_connections count (x ∷ ls) ok = (omega (arith, ok.0), ok.1, ok.2, more_connections count ls ok.3)

-- another connection stays where it was as one more is counted
counted_other : (count : ℕ) (ls : List Connection) (k : ℕ) → AreOpenConnections count ls → count ≢ k → stage_of k (count + 1) ls ≡ stage_of k count ls
counted_other count ls k ok not = go (nat_lt k count) refl
  where
    go : (b : Bool) → nat_lt k count ≡ b → stage_of k (count + 1) ls ≡ stage_of k count ls
    go true e = let lt = ltb-true k count e in stage_open_at k (count + 1) ls (omega arith) ∙ sym (stage_open_at k count ls lt)
    go false e = let le = ltb-false k count e in stage_fresh_at k (count + 1) ls (omega (arith, not)) ∙ sym (stage_fresh_at k count ls le)

pub lifted_opened : (count : ℕ) (ls : List Connection) (l : Connection) → AreOpenConnections count ls → l.number ≡ count → stage_in l ≡ served [] []
    → (k : ℕ) → Leads k (stage_of k count ls) (opened count ∷ []) (stage_of k (count + 1) (ls ++ l ∷ []))
lifted_opened count ls l ok is new k = go (nat_eq count k) refl
  where
    go : (b : Bool) → nat_eq count k ≡ b → Leads k (stage_of k count ls) (opened count ∷ []) (stage_of k (count + 1) (ls ++ l ∷ []))
    go true e =
        let same = eqb-true count k e in
        let before = stage_fresh_at k count ls (omega (arith, same)) in
        let after = stage_open_at k (count + 1) (ls ++ l ∷ []) (omega (arith, same)) ∙ ap stage_if_open
        (pushed_own ls l k (none_above count ls k ok (omega (arith, same))) (is ∙ same)) ∙ new in
        rw (before, after) (served [] [], record { own = λ w. refl; other = λ n. absurd (n same) }, refl)
    go false e =
        let not = eqb-false count k e in
        let stays : stage_of k (count + 1) (ls ++ l ∷ []) ≡ stage_of k count ls =
        stage_same k (count + 1) ls (ls ++ l ∷ []) (pushed_other ls l k (λ w. not (sym is ∙ w))) ∙ counted_other count ls k ok not in
        subst (λ (s : Stage). Leads k (stage_of k count ls) (opened count ∷ []) s) (sym stays)
        (leads_other k count (stage_of k count ls) (opened count ∷ []) (refl, tt) not)

-- the next connection could not be accepted
pub lifted_put_off : (count : ℕ) (ls : List Connection) (k : ℕ)
    → Leads k (stage_of k count ls) (failed count accepting ∷ []) (stage_of k count ls)
lifted_put_off count ls k = go (nat_eq count k) refl
  where
    go : (b : Bool) → nat_eq count k ≡ b → Leads k (stage_of k count ls) (failed count accepting ∷ []) (stage_of k count ls)
    go true e =
        let same = eqb-true count k e in
        let before = stage_fresh_at k count ls (omega (arith, same)) in
        rw before (fresh, record { own = λ w. refl; other = λ n. absurd (n same) }, refl)
    go false e = leads_other k count (stage_of k count ls) (failed count accepting ∷ []) (refl, tt) (eqb-false count k e)

-- a connection that was not accepted yet
pub uncounted : (k count : ℕ) (ls : List Connection) → stage_of k count ls ≡ fresh → count ≤ k
uncounted k count ls is = go (nat_lt k count) refl is
  where
    by_end : (u p : List ℕ) (end : Option End) → stage_by u p end ≡ fresh → ⊥
    by_end u p None e = cc
    by_end u p (Some end) e = cc

    no_stage : (o : Option Connection) → stage_if_open o ≡ fresh → ⊥
    no_stage None e = cc
    no_stage (Some l) e = by_end l.unread.items l.pending.text.items l.end e

    go : (b : Bool) → nat_lt k count ≡ b → cond b (stage_if_open (connection_with k ls)) fresh ≡ fresh → count ≤ k
    go true e at_it = absurd (no_stage (connection_with k ls) at_it)
    go false e at_it = ltb-false k count e

-- a number that no connection has
pub unnumbered : (k : ℕ) (ls : List Connection) → IsNoneNumbered k ls → connection_with k ls ≡ None
unnumbered k [] none = refl
unnumbered k (x ∷ ls) none = later x k ls none.0 ∙ unnumbered k ls none.1

pub nothing_pending : (k count : ℕ) (ls : List Connection) → connection_with k ls ≡ None → pending_at (stage_of k count ls) ≡ []
nothing_pending k count ls none = go (nat_lt k count) refl
  where
    go : (b : Bool) → nat_lt k count ≡ b → pending_at (stage_of k count ls) ≡ []
    go true e = rw (e, none) refl
    go false e = rw e refl

unnumbered_more : (k : ℕ) (ls : List Connection) (at : ℕ) (l : Connection) → slice_get ls at ≡ Some l → IsNoneNumbered k (take at ls)
    → l.number ≢ k → IsNoneNumbered k (take (suc at) ls)
unnumbered_more k [] at l is before now = cc
unnumbered_more k (x ∷ ls) zero l is before now =
    let e : x ≡ l = cc in (λ same. now (ap (λ (y : Connection). y.number) (sym e) ∙ same), tt)
unnumbered_more k (x ∷ ls) (suc at) l is before now = (before.0, unnumbered_more k ls at l is before.1 now)

pub unnumbered_next : (k : ℕ) (ls : List Connection) (at : ℕ) (l : Connection) → slice_get ls at ≡ Some l → IsNoneNumbered k (take at ls)
    → l.number ≢ k → IsNoneNumbered k (take (at + 1) ls)
unnumbered_next k ls at l is before now =
    let e : suc at ≡ at + 1 = omega arith in
    subst (λ (n : ℕ). IsNoneNumbered k (take n ls)) e (unnumbered_more k ls at l is before now)

pub connections_start : (count : ℕ) (ls : List Connection) → ls ≡ [] → AreOpenConnections count ls
connections_start count [] e = tt
connections_start count (x ∷ ls) e = cc

pub prompt_start : (ls : List Connection) → ls ≡ [] → ArePrompt ls
prompt_start [] e = tt
prompt_start (x ∷ ls) e = cc

-- before any connection was accepted
pub none_yet : (k : ℕ) → stage_of k 0 [] ≡ fresh
none_yet k = stage_fresh_at k 0 [] (omega arith)

pub waits_at : (count : ℕ) (ls : List Connection) (at : ℕ) (l : Connection) → AreOpenConnections count ls → slice_get ls at ≡ Some l
    → WaitsBelow l.unread.items l.wanted
waits_at count [] at l ok is = cc
waits_at count (x ∷ ls) zero l ok is = let e : x ≡ l = cc in subst (λ (t : Connection). WaitsBelow t.unread.items t.wanted) e ok.2
waits_at count (x ∷ ls) (suc at) l ok is = waits_at count ls at l ok.3 is

pub prompt_more : (ls : List Connection) (at : ℕ) (l : Connection) → slice_get ls at ≡ Some l → ArePrompt (take at ls) → IsPrompt l
    → ArePrompt (take (suc at) ls)
prompt_more [] at l is before now = cc
prompt_more (x ∷ ls) zero l is before now = let e : x ≡ l = cc in (subst IsPrompt (sym e) now, tt)
prompt_more (x ∷ ls) (suc at) l is before now = (before.0, prompt_more ls at l is before.1 now)

pub prompt_next : (ls : List Connection) (at : ℕ) (l : Connection) → slice_get ls at ≡ Some l → ArePrompt (take at ls) → IsPrompt l
    → ArePrompt (take (at + 1) ls)
prompt_next ls at l is before now =
    let e : suc at ≡ at + 1 = omega arith in
    subst (λ (n : ℕ). ArePrompt (take n ls)) e (prompt_more ls at l is before now)

pub read_one : (ls : List Connection) (at : ℕ) (x y : Connection) → slice_get ls at ≡ Some y → x ≡ slice_index_or ls at x → x ≡ y
read_one [] at x y is e = cc
read_one (z ∷ ls) zero x y is e = cc
read_one (z ∷ ls) (suc at) x y is e = read_one ls at x y is e

-- the other connections stay as prompt as they were
pub prompt_set : (ls : List Connection) (at : ℕ) (l : Connection) → ArePrompt ls → IsPrompt l → ArePrompt (slice_set ls at l)
prompt_set [] at l are now = tt
prompt_set (x ∷ ls) zero l are now = (now, are.1)
prompt_set (x ∷ ls) (suc at) l are now = (are.0, prompt_set ls at l are.1 now)

pub prompt_removed : (ls : List Connection) (at : ℕ) → ArePrompt ls → ArePrompt (remove ls at)
prompt_removed [] zero are = tt
prompt_removed [] (suc at) are = tt
prompt_removed (x ∷ ls) zero are = are.1
prompt_removed (x ∷ ls) (suc at) are = (are.0, prompt_removed ls at are.1)

pub prompt_closed : (ls : List Connection) (at : ℕ) (l : Connection) → ArePrompt ls → ArePrompt (remove (slice_set ls at l) at)
prompt_closed [] zero l are = tt
prompt_closed [] (suc at) l are = tt
prompt_closed (x ∷ ls) zero l are = are.1
prompt_closed (x ∷ ls) (suc at) l are = (are.0, prompt_closed ls at l are.1)

pub prompt_pushed : (ls : List Connection) (l : Connection) → ArePrompt ls → IsPrompt l → ArePrompt (ls ++ l ∷ [])
prompt_pushed [] l are now = (now, tt)
prompt_pushed (x ∷ ls) l are now = (are.0, prompt_pushed ls l are.1 now)

pub set_got : (ls : List Connection) (at : ℕ) (l l' : Connection) → slice_get ls at ≡ Some l → slice_get (slice_set ls at l') at ≡ Some l'
set_got [] at l l' is = cc
set_got (x ∷ ls) zero l l' is = refl
set_got (x ∷ ls) (suc at) l l' is = set_got ls at l l' is
