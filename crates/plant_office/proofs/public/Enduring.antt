-- A run with one more call.
use Rattle.std.proofs.Common.{◌≡◌, ◌⊎◌, inl, inr, List, [], ◌∷◌, ◌++◌, length, not, true, false, if◌then◌else◌, Bool, refl, sym, ap, subst, ◌∙◌, arith, append_assoc, append-nil, length-append}
use Rattle.std.proofs.lemmas.Bool.{cases_Bool}
use Rattle.plant_books.specs.{Contents.{Content}, Crashes.{Alike}}
use Rattle.plant_model.specs.{Verdicts.{is_read}, Worlds.{IsLegalWorld, World, next}, declared.{call.Call.{Call}, reply.Answer.{Answer}}}
use Rattle.plant_model.specs.declared.reply.Answer.TheVariants.{Fault as Faulted, Refused as WasRefused, Reply as Replied}
use Rattle.plant_office.specs.{Outcomes.{AreMade, IsInDoubt, IsOutcome, after_calls, confirmed, confirms, is_fault}, Served.{Holds}}
use Rattle.plant_office.specs.Enduring.{AreAfter, BooksState, EnduresAll, EnduresSettled, HoldsWorld}

-- books alike to those that hold a world hold it
pub holds_alike : (x m : Content) (w : World) → Alike x m → Holds m w → Holds x w
holds_alike x m w same h = record { same_admin = same.admin ∙ h.same_admin; rows = λ u. same.units u ∙ h.rows u }

-- ---- the calls that were confirmed, and one that is in doubt

confirmed_more : (cs : List Call) (xs : List Answer) (c : Call) (a : Answer) → length xs ≡ length cs
    → confirmed (cs ++ c ∷ []) (xs ++ a ∷ []) ≡ confirmed cs xs ++ (if confirms c a then c ∷ [] else [])
confirmed_more [] [] c a long = refl
confirmed_more (d ∷ cs) (y ∷ xs) c a long =
    let rest = confirmed_more cs xs c a (omega (arith, long)) in
    elim (confirms d y) as (λ b. (if b then d ∷ confirmed (cs ++ c ∷ []) (xs ++ a ∷ []) else confirmed (cs ++ c ∷ []) (xs ++ a ∷ []))
    ≡ (if b then d ∷ confirmed cs xs else confirmed cs xs) ++ (if confirms c a then c ∷ [] else []))
    [ true ↦ ap (λ l. d ∷ l) rest | false ↦ rest ]
confirmed_more [] (y ∷ xs) c a long = absurd (omega (arith, long))
confirmed_more (d ∷ cs) [] c a long = absurd (omega (arith, long))

after_more : (w : World) (cs : List Call) (c : Call) → after_calls w (cs ++ c ∷ []) ≡ next (after_calls w cs) c
after_more w [] c = refl
after_more w (d ∷ cs) c = after_more (next w d) cs c

plain : (cs : List Call) (xs : List Answer) (c : Call) (a : Answer) → length xs ≡ length cs → confirms c a ≡ false
    → confirmed (cs ++ c ∷ []) (xs ++ a ∷ []) ≡ confirmed cs xs
plain cs xs c a long none = confirmed_more cs xs c a long ∙ ap (λ (b : Bool). confirmed cs xs ++ (if b then c ∷ [] else [])) none
    ∙ append-nil (confirmed cs xs)

with_it : (cs : List Call) (xs : List Answer) (c : Call) (a : Answer) → length xs ≡ length cs → confirms c a ≡ true
    → confirmed (cs ++ c ∷ []) (xs ++ a ∷ []) ≡ confirmed cs xs ++ c ∷ []
with_it cs xs c a long told = confirmed_more cs xs c a long ∙ ap (λ (b : Bool). confirmed cs xs ++ (if b then c ∷ [] else [])) told

doubt_more : (d : Call) (cs : List Call) (xs : List Answer) (c : Call) (a : Answer) → length xs ≡ length cs → confirms c a ≡ false → IsInDoubt d cs xs
    → IsInDoubt d (cs ++ c ∷ []) (xs ++ a ∷ [])
doubt_more d [] xs c a long none doubt = absurd doubt
doubt_more d (e ∷ cs) [] c a long none doubt = absurd doubt
doubt_more d (e ∷ cs) (y ∷ xs) c a long none (inl (is, faulted, last)) = inl (is, faulted, plain cs xs c a (omega (arith, long)) none ∙ last)
doubt_more d (e ∷ cs) (y ∷ xs) c a long none (inr later) = inr (doubt_more d cs xs c a (omega (arith, long)) none later)

doubt_new : (cs : List Call) (xs : List Answer) (c : Call) (a : Answer) → length xs ≡ length cs → is_fault a ≡ true
    → IsInDoubt c (cs ++ c ∷ []) (xs ++ a ∷ [])
doubt_new [] [] c a long faulted = inl (refl, faulted, refl)
doubt_new (d ∷ cs) (y ∷ xs) c a long faulted = inr (doubt_new cs xs c a (omega (arith, long)) faulted)
doubt_new [] (y ∷ xs) c a long faulted = absurd (omega (arith, long))
doubt_new (d ∷ cs) [] c a long faulted = absurd (omega (arith, long))

made_more : (cs : List Call) (xs : List Answer) (c : Call) (a : Answer) (made : List Call) → length xs ≡ length cs → confirms c a ≡ false
    → AreMade cs xs made → AreMade (cs ++ c ∷ []) (xs ++ a ∷ []) made
made_more cs xs c a made long none (inl is) = inl (is ∙ sym (plain cs xs c a long none))
made_more cs xs c a made long none (inr (d, doubt, is)) =
    inr (d, doubt_more d cs xs c a long none doubt, is ∙ ap (λ l. l ++ d ∷ []) (sym (plain cs xs c a long none)))

module _ (w : World) (calls : List Call) (answers : List Answer) (long : length answers ≡ length calls) (c : Call) (a : Answer) where
  -- a call that was not confirmed
  outcome_same : confirms c a ≡ false → (x : Content) → IsOutcome w calls answers x → IsOutcome w (calls ++ c ∷ []) (answers ++ a ∷ []) x
  outcome_same none x o =
      record { made = o.made; are_made = made_more calls answers c a o.made long none o.are_made; holds = o.holds; legal = o.legal }

  one_more : (x : Content) → AreMade (calls ++ c ∷ []) (answers ++ a ∷ []) (confirmed calls answers ++ c ∷ [])
      → Holds x (next (after_calls w (confirmed calls answers)) c) → IsLegalWorld (next (after_calls w (confirmed calls answers)) c)
      → IsOutcome w (calls ++ c ∷ []) (answers ++ a ∷ []) x
  one_more x are_made h legal = record {
    made = confirmed calls answers ++ c ∷ [];
    are_made = are_made;
    holds = subst (Holds x) (sym (after_more w (confirmed calls answers) c)) h;
    legal = subst IsLegalWorld (sym (after_more w (confirmed calls answers) c)) legal;
  }

-- before any call, on books that a crash leaves as they are
pub after_none : (w : World) (m : Content) (books : BooksState) → books.represents m → Holds m w → IsLegalWorld w → books.sound
    → ((x : Content) → books.leaves x → Alike x m) → AreAfter w [] [] books
after_none w m books held holds legal all same = record {
  long = refl;
  now = record { content = m; represents = held; holds = holds; legal = legal };
  sound = all;
  outcomes = λ x l. record { made = []; are_made = inl refl; holds = holds_alike x m w (same x l) holds; legal = legal };
}

module _ (w : World) (calls : List Call) (answers : List Answer) (before after : BooksState) (c : Call)
    (so_far : AreAfter w calls answers before) where
  abbrev old : World
  old = after_calls w (confirmed calls answers)

  outcome_each : (a : Answer) → EnduresSettled c a before after → after.clean → (x : Content) → after.leaves x
      → IsOutcome w (calls ++ c ∷ []) (answers ++ a ∷ []) x
  outcome_each (Faulted f) it tidy x l =
      elim (it.endures.each tidy old so_far.now x l) [
        | inl earlier ↦ outcome_same w calls answers so_far.long c (Faulted f) refl x (so_far.outcomes x earlier)
        | inr made ↦
            one_more w calls answers so_far.long c (Faulted f) x
            (inr (
              c,
              doubt_new calls answers c (Faulted f) so_far.long refl,
              ap (λ l. l ++ c
                  ∷ []) (sym (plain calls answers c (Faulted f) so_far.long refl)),
            )) made.0 made.1
      ]
  outcome_each (WasRefused r) it tidy x l =
      outcome_same w calls answers so_far.long c (WasRefused r) refl x (so_far.outcomes x (it.endures.quiet tidy tt x l))
  outcome_each (Replied r) it tidy x l = go (cases_Bool (is_read c.request))
    where
      go : (is_read c.request ≡ true) ⊎ (is_read c.request ≡ false) → IsOutcome w (calls ++ c ∷ []) (answers ++ Replied r ∷ []) x
      go (inl reads) = outcome_same w calls answers so_far.long c (Replied r) (ap not reads) x (so_far.outcomes x (it.endures.quiet tidy reads x l))
      go (inr changes) =
          let told : confirms c (Replied r) ≡ true = ap not changes in
          let is_open = it.endures.kept tidy told in
          let now = it.endures.made is_open told old so_far.now in
          one_more w calls answers so_far.long c (Replied r) x (inl (sym (with_it calls answers c (Replied r) so_far.long told)))
          (holds_alike x now.content (next old c) (it.settled is_open now.content now.represents x l) now.holds) now.legal

  now_as : (a : Answer) → EnduresSettled c a before after → after.clean → (b : Bool) → confirms c a ≡ b
      → HoldsWorld (after_calls w (confirmed (calls ++ c ∷ []) (answers ++ a ∷ []))) after
  now_as a it tidy true told =
      subst (λ v. HoldsWorld v after)
      (sym (ap (after_calls w) (with_it calls answers c a so_far.long told) ∙ after_more w (confirmed calls answers) c))
      (it.endures.made (it.endures.kept tidy told) told old so_far.now)
  now_as a it tidy false none =
      let was = so_far.now in
      subst (λ v. HoldsWorld v after) (sym (ap (after_calls w) (plain calls answers c a so_far.long none)))
      (record { content = was.content; represents = it.endures.unmade none was.content was.represents; holds = was.holds; legal = was.legal })

  -- one call more
  pub after_next : (a : Answer) → EnduresSettled c a before after → after.clean → AreAfter w (calls ++ c ∷ []) (answers ++ a ∷ []) after
  after_next a it tidy = record {
    long = omega (arith, so_far.long, length-append answers (a ∷ []), length-append calls (c ∷ []));
    now = now_as a it tidy (confirms c a) refl;
    sound = it.endures.sound tidy old so_far.now so_far.sound;
    outcomes = outcome_each a it tidy;
  }

-- ---- runs

pub all_none : (books : BooksState) → EnduresAll books books [] []
all_none books = record {
  clean = λ h. h;
  goes_on =
      λ w earlier said tidy k. subst (λ cs. AreAfter w cs (said ++ []) books) (sym (append-nil earlier))
      (subst (λ xs. AreAfter w earlier xs books) (sym (append-nil said)) k);
}

pub all_one : (before after : BooksState) (c : Call) (a : Answer) → EnduresSettled c a before after → EnduresAll before after (c ∷ []) (a ∷ [])
all_one before after c a it =
    record { clean = it.endures.clean; goes_on = λ w earlier said tidy k. after_next w earlier said before after c k a it tidy }

pub all_then : (before mid after : BooksState) (cs ds : List Call) (xs ys : List Answer) → EnduresAll before mid cs xs → EnduresAll mid after ds ys
    → EnduresAll before after (cs ++ ds) (xs ++ ys)
all_then before mid after cs ds xs ys one two = record {
  clean = λ h. one.clean (two.clean h);
  goes_on = λ w earlier said tidy k.
      subst (λ l. AreAfter w l (said ++ (xs ++ ys)) after) (append_assoc earlier cs ds)
      (subst (λ l. AreAfter w ((earlier ++ cs) ++ ds) l after) (append_assoc said xs ys)
      (two.goes_on w (earlier ++ cs) (said ++ xs) tidy (one.goes_on w earlier said (two.clean tidy) k)));
}

-- ---- the run of a whole program, from books that were opened

-- after it a crash leaves books, with the calls that were confirmed, or these and one that is in doubt
pub all_from : (before after : BooksState) (calls : List Call) (answers : List Answer) → EnduresAll before after calls answers
    → (w : World) (m : Content) → before.represents m → Holds m w → IsLegalWorld w → before.sound → ((x : Content) → before.leaves x → Alike x m)
    → after.clean → after.sound × ((x : Content) → after.leaves x → IsOutcome w calls answers x)
all_from before after calls answers it w m held holds legal sound same tidy =
    let k = it.goes_on w [] [] tidy (after_none w m before held holds legal sound same) in
    (k.sound, k.outcomes)
