-- Whether a connection holds a whole request.
use Rattle.std.proofs.Common.{◌+◌, length-append, true≢false, ne_eqb, Option, None, Some, ◌≡◌, ℕ, List, [], ◌∷◌, Bool, true, false, length}
use Rattle.std.proofs.Common.{nat_lt, ◌==◌, refl, sym, ap, subst, ◌∙◌, append-nil, inr, arith, ltb-true}
use Rattle.std.specs.{Bool.{OnTrue}, Prelude.{not, ◌||◌}}
use Rattle.std.specs.Option.{is_some}
use Rattle.plant_wire_call.specs.{Cut.{WaitsBelow}, Front.{StandsAtFront, waits}}
use Rattle.plant_wire.specs.{Session.{IsIdle}, declared.reads.End.{End}}
use Rattle.plant_wire.specs.declared.reads.End.TheVariants.{BrokenInput, Closed}
use Rattle.plant_server_clients.specs.{Prompt.{AreFew}, Stages.{end_for, ending, served, stage_by}}

pub idle_if : (u : List ℕ) (n wanted : ℕ) → n ≡ length u → WaitsBelow u wanted → OnTrue (nat_lt n wanted) (IsIdle u)
idle_if u n wanted is below = go (nat_lt n wanted) refl
  where
    go : (b : Bool) → nat_lt n wanted ≡ b → OnTrue (nat_lt n wanted) (IsIdle u)
    go true e =
        let lt = ltb-true n wanted e in
        let same = ap length (append-nil u) in
        rw e (inr (subst (λ (x : List ℕ). StandsAtFront x waits) (append-nil u) (below [] (omega (arith, lt, is, same)))))
    go false e = rw e tt

pub few_if : (u : List ℕ) (n wanted : ℕ) → n ≡ length u → OnTrue (nat_lt n wanted) (AreFew u wanted)
few_if u n wanted is = go (nat_lt n wanted) refl
  where
    go : (b : Bool) → nat_lt n wanted ≡ b → OnTrue (nat_lt n wanted) (AreFew u wanted)
    go true e = let lt = ltb-true n wanted e in rw e (inr (omega (arith, lt, is)))
    go false e = rw e tt

pub on_true : (b : Bool) (P : Type 0) → OnTrue b P → b ≡ true → P
on_true true P h e = h
on_true false P h e = cc

none_long : {A : Type 0} (x : A) (u : List A) → length (x ∷ u) == 0 ≡ false
none_long x u = ne_eqb (length (x ∷ u)) 0 (λ e. omega (arith, e))

pub ends_closed : (u : List ℕ) (b : Bool) (end : End) → b ≡ (length u == 0) → b ≡ true → end ≡ Closed → end ≡ end_for u
ends_closed [] b end e is so = so
ends_closed (x ∷ u) b end e is so = absurd (true≢false (sym is ∙ e ∙ none_long x u))

pub ends_broken : (u : List ℕ) (b : Bool) (end : End) → b ≡ (length u == 0) → b ≡ false → end ≡ BrokenInput → end ≡ end_for u
ends_broken [] b end e is so = absurd (true≢false (sym e ∙ is))
ends_broken (x ∷ u) b end e is so = so

pub none_if : (o : Option End) (b : Bool) → b ≡ is_some o → b ≡ false → o ≡ None
none_if None b e is = refl
none_if (Some x) b e is = absurd (true≢false (sym e ∙ is))

pub some_if : (o : Option End) (b : Bool) → b ≡ is_some o → b ≡ true → o ≡ None → ⊥
some_if None b e is none = true≢false (sym is ∙ e)
some_if (Some x) b e is none = cc

pub empty_if : {A : Type 0} (u : List A) (b : Bool) → b ≡ (length u == 0) → b ≡ true → u ≡ []
empty_if [] b e is = refl
empty_if (x ∷ u) b e is = absurd (true≢false (sym is ∙ e ∙ none_long x u))

pub full_if : {A : Type 0} (u : List A) (b : Bool) → b ≡ (length u == 0) → b ≡ false → u ≡ [] → ⊥
full_if [] b e is none = true≢false (sym e ∙ is)
full_if (x ∷ u) b e is none = cc

pub if_true : (b : Bool) (P : Type 0) → (b ≡ true → P) → OnTrue b P
if_true true P f = f refl
if_true false P f = tt

pub not_false : (b : Bool) → not b ≡ false → b ≡ true
not_false true e = refl
not_false false e = absurd (true≢false e)

-- nothing was left, and nothing is
pub none_left : (busy prompt : Bool) → busy || not prompt ≡ false → (busy ≡ false) × (prompt ≡ true)
none_left true prompt none = absurd (true≢false none)
none_left false prompt none = (refl, not_false prompt none)

pub not_true : (b : Bool) → not b ≡ true → b ≡ false
not_true true e = absurd (true≢false (sym e))
not_true false e = refl

-- with one byte more it may be whole
pub waits_one : (u : List ℕ) (n : ℕ) → n ≡ length u + 1 → StandsAtFront u waits → WaitsBelow u n
waits_one u n is now [] few = subst (λ (x : List ℕ). StandsAtFront x waits) (sym (append-nil u)) now
waits_one u n is now (x ∷ more) few = absurd (omega (arith, few, is, length-append u (x ∷ more)))

pub both_ways : {A : Type 0} (b : Bool) → b ≡ false → b ≡ true → A
both_ways b off on = absurd (true≢false (sym on ∙ off))

-- a connection of which nothing is left, and that is served
pub freed : (u p : List ℕ) (e : Option End) → stage_by u p e ≡ served [] [] → (e ≡ None) × (p ≡ []) × (u ≡ [])
freed u p None is = let none : u ≡ [] = cc in let sent : p ≡ [] = cc in (refl, sent, none)
freed u p (Some end) is = let no : ending end p ≡ served [] [] = is in cc
