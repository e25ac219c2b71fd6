-- Without ends, standing is holding.
use Rattle.std.{specs.List.{list_all}, proofs.lemmas.Bool.{and_parts}}
use Rattle.std.proofs.Common.{refl, Bool, List, None, Option, Some, [], false, is_none, is_some, option_map, true, unwrap_or, ℕ, ◌∷◌, ◌≡◌}
use Rattle.plant_model.specs.{Grants.{is_before, said_of_pair, standing}, Histories.{Begins, Over, Said, latest, still}, Laws.{WithoutEndsStandingIsHolding}}
use Rattle.plant_model.specs.{Laws.{has_no_end}, declared.call.{Call.{Call}, Request.{Request, TheVariants.{Grant, OpenUnit, Withdraw}}}}
use Rattle.plant_types.specs.{Options.{or_else, when}, Roles.{Pair, same_pair}, declared.role.Role.TheVariants.{Steward}}

-- no statement about a pair gives it an end
abbrev NoEnd : Option (Said (Option ℕ)) → Type 0
NoEnd (Some (Begins (Some until))) = ⊥
NoEnd _ = Unit {0}

no_end_when : (b : Bool) (v : Said (Option ℕ)) → NoEnd (Some v) → NoEnd (when b v)
no_end_when true v n = n
no_end_when false v n = tt

given_for_good : (until : Option ℕ) → is_none until ≡ true → NoEnd (Some (Begins until))
given_for_good None e = tt
given_for_good (Some u) e = absurd (let no : false ≡ true = e in cc)

said_without_end : (k : Pair) (q : Request) → has_no_end q ≡ true → NoEnd (said_of_pair k q)
said_without_end k (OpenUnit u s m n) e = no_end_when (same_pair k (s, Steward)) (Begins None) tt
said_without_end k (Grant u p t) e = no_end_when (same_pair k (p, t.0)) (Begins t.1) (given_for_good t.1 e)
said_without_end k (Withdraw u p r) e = no_end_when (same_pair k (p, r)) Over tt
said_without_end k _ e = tt

or_else_without : (a b : Option (Said (Option ℕ))) → NoEnd a → NoEnd b → NoEnd (or_else a b)
or_else_without None b x y = y
or_else_without (Some v) b x y = x

latest_without : (k : Pair) (h : List Call) → list_all (λ c. has_no_end c.request) h ≡ true → NoEnd (latest (λ c before. said_of_pair k c.request) h)
latest_without k [] e = tt
latest_without k (c ∷ h) e =
    let parts = and_parts (has_no_end c.request) (list_all (λ c. has_no_end c.request) h) e in
    or_else_without (said_of_pair k c.request) _ (said_without_end k c.request parts.0) (latest_without k h parts.1)

held_for_good : (t : ℕ) (o : Option (Said (Option ℕ))) → NoEnd o → unwrap_or (option_map (is_before t) (still o)) false ≡ is_some (still o)
held_for_good t (Some (Begins (Some until))) n = absurd n
held_for_good t _ n = refl

pub without_ends : WithoutEndsStandingIsHolding
without_ends h e t k = held_for_good t (latest (λ c before. said_of_pair k c.request) h) (latest_without k h e)

-- and what stands has no end
no_end_stands : (o : Option (Said (Option ℕ))) → NoEnd o → (until : Option ℕ) → still o ≡ Some until → until ≡ None
no_end_stands (Some (Begins (Some u))) n until e = absurd n
no_end_stands (Some (Begins None)) n until e = cc
no_end_stands (Some Over) n until e = cc
no_end_stands None n until e = cc

pub stands_for_good : (h : List Call) → list_all (λ c. has_no_end c.request) h ≡ true → (k : Pair) (until : Option ℕ) → standing h k ≡ Some until
    → until ≡ None
stands_for_good h e k until is = no_end_stands (latest (λ c before. said_of_pair k c.request) h) (latest_without k h e) until is
