-- What the front shows doesn't change when more bytes come, unless it waits.
use Rattle.std.proofs.Common.{◌≡◌, ◌≢◌, ◌⊎◌, ℕ, zero, suc, ◌+◌, ◌<◌, ◌≤◌, List, [], ◌∷◌, ◌++◌, length, take, drop, Result, Ok, Err, Bool, true, false, cond, refl, sym, ap, subst, ◌∙◌, inl, inr, arith, append_assoc, append-nil, length-append, length-drop, ltb}
use Rattle.std.proofs.lemmas.{Bool.{ltb-false, le-ltb}, List.{take-append-le, drop-append-le, length-take}}
use Rattle.plant_types.specs.Limits.{max_head}
use Rattle.httparse.specs.Grammar.{RequestHead, print_request, ReadsRequest, NeverHasRequest, HasNoRequest, MayBecomeRequest, EndsInTarget}
use Rattle.httparse.proofs.GrammarLemmas.{ReadsRequest-append, request_unique}
use Rattle.plant_wire_head.{specs.Head.{front, BeginsWith, IsHopeless, IsUnfinished}, proofs.public.Room.{head_length}}
use Rattle.plant_wire_call.specs.{Front.{Item, Front, waits, whole, broken, with_length, of_head, IsFront, Parses}, declared.causes.Cause.{Cause}}
use Rattle.plant_wire_call.specs.declared.causes.Cause.TheVariants.{HeadTooLong}

-- the first bytes of more are the first bytes, and some of the rest
take_front : (n : ℕ) (xs ys : List ℕ) → (m : List ℕ) × (take n (xs ++ ys) ≡ take n xs ++ m)
take_front zero xs ys = ([], refl)
take_front (suc n) [] ys = (take (suc n) ys, refl)
take_front (suc n) (x ∷ xs) ys = let r = take_front n xs ys in (r.0, ap (λ (t : List ℕ). x ∷ t) r.1)

pub front-append : (bytes more : List ℕ) → (m : List ℕ) × (front (bytes ++ more) ≡ front bytes ++ m)
front-append bytes more = take_front max_head bytes more

pub front_full : (bytes more : List ℕ) → max_head ≤ length bytes → front (bytes ++ more) ≡ front bytes
front_full bytes more long = take-append-le max_head bytes more long

pub begins-append : (bytes more : List ℕ) (head : RequestHead) → BeginsWith bytes head → BeginsWith (bytes ++ more) head
begins-append bytes more head (rest, reads) =
    let m = front-append bytes more in
    (rest ++ m.0, subst (λ (x : List ℕ). ReadsRequest x head (rest ++ m.0)) (sym m.1) (ReadsRequest-append (front bytes) head rest m.0 reads))

pub hopeless-append : (bytes more : List ℕ) → IsHopeless bytes → IsHopeless (bytes ++ more)
hopeless-append bytes more never =
    let m = front-append bytes more in
    subst (λ (x : List ℕ). NeverHasRequest x) (sym m.1)
    (λ later. subst (λ (x : List ℕ). HasNoRequest x) (sym (append_assoc (front bytes) m.0 later)) (never (m.0 ++ later)))

pub unfinished_full : (bytes more : List ℕ) → max_head ≤ length bytes → IsUnfinished bytes → IsUnfinished (bytes ++ more)
unfinished_full bytes more long open_still =
    let e = sym (front_full bytes more long) in
    record {
      none = subst (λ (x : List ℕ). HasNoRequest x) e open_still.none;
      unfinished = subst (λ (x : List ℕ). MayBecomeRequest x) e open_still.unfinished;
    }

-- a head lies in the first bytes
pub head_fits : (bytes : List ℕ) (head : RequestHead) → BeginsWith bytes head → length (print_request head) ≤ length bytes
head_fits bytes head (rest, reads) =
    let a = ap length reads.1 in
    omega (arith, length-append (print_request head) rest, length-take max_head bytes)

-- no continuation is a head, and the parser may not have seen it: the target is still being read
pub target_open : (bytes : List ℕ) → IsHopeless bytes → MayBecomeRequest (front bytes) → EndsInTarget (front bytes)
target_open bytes never (inl (more, h, reads)) = absurd (never more h [] reads)
target_open bytes never (inr target) = target

module _ (body_length : RequestHead → Result ℕ Cause) (item_of : RequestHead → List ℕ → Item) where
  -- more bytes after a whole request
  pub with_length-append : (n : Result ℕ Cause) (head : RequestHead) (after more : List ℕ) → with_length body_length item_of n head after ≢ waits
      → with_length body_length item_of n head (after ++ more) ≡ with_length body_length item_of n head after
  with_length-append (Err cause) head after more ready = refl
  with_length-append (Ok n) head after more ready = go (ltb (length after) n) refl
    where
      go : (b : Bool) → ltb (length after) n ≡ b
          → with_length body_length item_of (Ok n) head (after ++ more) ≡ with_length body_length item_of (Ok n) head after
      go true e = absurd (ready (rw e))
      go false e =
          let fits : n ≤ length after = ltb-false (length after) n e in
          let longer : n ≤ length (after ++ more) = omega (arith, length-append after more) in
          rw (e, le-ltb (length (after ++ more)) n longer, take-append-le n after more fits) refl

  pub of_head-append : (head : RequestHead) (after more : List ℕ) → of_head body_length item_of head after ≢ waits
      → of_head body_length item_of head (after ++ more) ≡ of_head body_length item_of head after
  unfolding of_head
  of_head-append head after more ready = with_length-append (body_length head) head after more ready

  -- A front that doesn't wait stays, whatever follows.
  pub front-stays : (bytes more : List ℕ) (f : Front) → f ≢ waits → IsFront body_length item_of bytes f
      → IsFront body_length item_of (bytes ++ more) f
  front-stays bytes more f ready (inl (head, begins, is)) =
      let n = length (print_request head) in
      let e = drop-append-le n bytes more (head_fits bytes head begins) in
      let stays = of_head-append head (drop n bytes) more (λ w. ready (is ∙ w)) in
      inl (head, begins-append bytes more head begins, is ∙ sym stays ∙ ap (of_head body_length item_of head) (sym e))
  front-stays bytes more f ready (inr (inl (never, is))) = inr (inl (hopeless-append bytes more never, is))
  front-stays bytes more f ready (inr (inr (open_still, is))) = go (ltb (length bytes) max_head) refl
    where
      go : (b : Bool) → ltb (length bytes) max_head ≡ b → IsFront body_length item_of (bytes ++ more) f
      go true e = absurd (ready (is ∙ rw e refl))
      go false e =
          let long : max_head ≤ length bytes = ltb-false (length bytes) max_head e in
          let longer : max_head ≤ length (bytes ++ more) = omega (arith, length-append bytes more) in
          inr (inr (unfinished_full bytes more long open_still, is ∙ rw (e, le-ltb (length (bytes ++ more)) max_head longer) refl))

  -- what a whole request takes: its head, and no more than there is
  whole_takes : (r : Result ℕ Cause) (head : RequestHead) (after : List ℕ) (x : Item) (n : ℕ)
      → whole x n ≡ with_length body_length item_of r head after
      → (length (print_request head) ≤ n) × (n ≤ length (print_request head) + length after)
  whole_takes (Err cause) head after x n e = cc
  whole_takes (Ok m) head after x n e = go (ltb (length after) m) refl
    where
      go : (b : Bool) → ltb (length after) m ≡ b → (length (print_request head) ≤ n) × (n ≤ length (print_request head) + length after)
      go true is_short =
          let w : whole x n ≡ waits = e ∙ rw is_short refl in cc
      go false is_short =
          let fits : m ≤ length after = ltb-false (length after) m is_short in
          let w : whole x n ≡ whole (item_of head (take m after)) (length (print_request head) + m) = e ∙ rw is_short refl in
          let k : n ≡ length (print_request head) + m = cc in
          (omega arith, omega arith)

  -- a whole request lies in the bytes, and takes some of them
  pub whole_fits : (bytes : List ℕ) (x : Item) (n : ℕ) → IsFront body_length item_of bytes (whole x n) → (0 < n) × (n ≤ length bytes)
  unfolding of_head
  whole_fits bytes x n (inl (head, begins, is)) =
      let a = whole_takes (body_length head) head (drop (length (print_request head)) bytes) x n is in
      let b = head_fits bytes head begins in
      let c = head_length head begins.1.0 in
      (omega (arith, a.0), omega (arith, a.1, length-drop (length (print_request head)) bytes))
  whole_fits bytes x n (inr (inl (never, is))) = cc
  whole_fits bytes x n (inr (inr (open_still, is))) = go (ltb (length bytes) max_head) is
    where
      go : (b : Bool) → whole x n ≡ cond b waits (broken HeadTooLong) → (0 < n) × (n ≤ length bytes)
      go true e = cc
      go false e = cc

  pub Parses-append : (bytes more : List ℕ) (xs : List Item) (rest : List ℕ) → Parses body_length item_of bytes xs rest
      → Parses body_length item_of (bytes ++ more) xs (rest ++ more)
  Parses-append bytes more [] rest is = ap (λ (x : List ℕ). x ++ more) is
  Parses-append bytes more (x ∷ xs) rest (n, is, later) = (
    n,
    front-stays bytes more (whole x n) (λ (e : whole x n ≡ waits). cc) is,
    subst (λ (y : List ℕ). Parses body_length item_of y xs (rest ++ more)) (sym (drop-append-le n bytes more (whole_fits bytes x n is).1))
        (Parses-append (drop n bytes) more xs rest later),
  )

  -- Two readings of one front are one, save in the case that httparse leaves open: no continuation is a head, and
  -- the target is still being read.
  pub front_unique : (bytes : List ℕ) (f g : Front) → IsFront body_length item_of bytes f → IsFront body_length item_of bytes g
      → (f ≡ g) ⊎ (IsHopeless bytes × EndsInTarget (front bytes))
  front_unique bytes f g (inl (h, (r, reads), is)) (inl (k, (q, reads'), is')) =
      let e = (request_unique (front bytes) h k r q reads reads').0 in
      inl (is ∙ ap (λ (x : RequestHead). of_head body_length item_of x (drop (length (print_request x)) bytes)) e ∙ sym is')
  front_unique bytes f g (inl (h, (r, reads), is)) (inr (inl (never, is'))) = absurd (never [] h r (rw append-nil reads))
  front_unique bytes f g (inl (h, (r, reads), is)) (inr (inr (open_still, is'))) = absurd (open_still.none h r reads)
  front_unique bytes f g (inr (inl (never, is))) (inl (k, (q, reads'), is')) = absurd (never [] k q (rw append-nil reads'))
  front_unique bytes f g (inr (inl (never, is))) (inr (inl (never', is'))) = inl (is ∙ sym is')
  front_unique bytes f g (inr (inl (never, is))) (inr (inr (open_still, is'))) = inr (never, target_open bytes never open_still.unfinished)
  front_unique bytes f g (inr (inr (open_still, is))) (inl (k, (q, reads'), is')) = absurd (open_still.none k q reads')
  front_unique bytes f g (inr (inr (open_still, is))) (inr (inl (never, is'))) = inr (never, target_open bytes never open_still.unfinished)
  front_unique bytes f g (inr (inr (open_still, is))) (inr (inr (open_still', is'))) = inl (is ∙ sym is')
