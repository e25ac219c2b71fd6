-- Several starts, with a crash or a stop between one and the next.
use Rattle.std.proofs.Common.{◌≡◌, inl, inr, List, [], ◌∷◌, ◌++◌, ◌+◌, ◌≤◌, length, refl, sym, ap, subst, ◌∙◌, arith, append_assoc, length-append}
use Rattle.plant_model.specs.{Worlds.{IsLegalWorld, World, next}, declared.{call.Call.{Call}, reply.Answer.{Answer}}}
use Rattle.plant_office.specs.{Lives.{CrashesLeaveAWorld, IsWithin, confirmed_in_all}, Outcomes.{AreMade, after_calls, confirmed}, Served.{Holds}}

after_both : (w : World) (cs ds : List Call) → after_calls w (cs ++ ds) ≡ after_calls (after_calls w cs) ds
after_both w [] ds = refl
after_both w (c ∷ cs) ds = after_both (next w c) cs ds

within_both : (xs ys zs : List Call) → IsWithin ys zs → IsWithin (xs ++ ys) (xs ++ zs)
within_both [] ys zs it = it
within_both (x ∷ xs) ys zs it = inl (refl, within_both xs ys zs it)

within_more : (ys zs : List Call) (c : Call) → IsWithin ys zs → IsWithin ys (c ∷ zs)
within_more [] zs c it = tt
within_more (y ∷ ys) zs c it = inr it

-- the confirmed calls of a life and of those after it, among those that were made
within_life : (calls : List Call) (answers : List Answer) (own ys zs : List Call) → AreMade calls answers own → IsWithin ys zs
    → IsWithin (confirmed calls answers ++ ys) (own ++ zs)
within_life calls answers own ys zs (inl is) it =
    subst (λ l. IsWithin (confirmed calls answers ++ ys) (l ++ zs)) (sym is) (within_both (confirmed calls answers) ys zs it)
within_life calls answers own ys zs (inr (c, doubt, is)) it =
    subst (IsWithin (confirmed calls answers ++ ys)) (sym (ap (λ l. l ++ zs) is ∙ append_assoc (confirmed calls answers) (c ∷ []) zs))
    (within_both (confirmed calls answers) ys (c ∷ zs) (within_more ys zs c it))

-- at most one more than were confirmed
made_bound : (calls : List Call) (answers : List Answer) (own : List Call) → AreMade calls answers own
    → length own ≤ length (confirmed calls answers) + 1
made_bound calls answers own (inl is) = let same = ap length is in omega (arith, same)
made_bound calls answers own (inr (c, doubt, is)) = let same = ap length is in omega (arith, same, length-append (confirmed calls answers) (c ∷ []))

pub crashes_leave_a_world : CrashesLeaveAWorld
crashes_leave_a_world first last [] w legal holds lead = ([], subst (λ m. Holds m w) (sym lead) holds, legal, tt, omega arith, refl)
crashes_leave_a_world first last (life ∷ lives) w legal holds (found, outcome, lead) =
    let o = outcome w legal holds in
    let (later, held, is_legal, within, few, made) = crashes_leave_a_world found last lives (after_calls w o.made) o.legal o.holds lead in
    let bound = made_bound life.calls life.answers o.made o.are_made in (
      o.made ++ later,
      subst (Holds last) (sym (after_both w o.made later)) held,
      subst IsLegalWorld (sym (after_both w o.made later)) is_legal,
      within_life life.calls life.answers o.made (confirmed_in_all lives) later o.are_made within,
      omega (arith, few, bound, length-append o.made later, length-append (confirmed life.calls life.answers) (confirmed_in_all lives)),
      (o.made, later, o.are_made, made, refl),
    )
