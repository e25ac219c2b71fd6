-- A request whose head is whole waits for its body.
use Rattle.std.proofs.Common.{◌≡◌, ℕ, ◌+◌, ◌<◌, List, [], ◌++◌, length, drop, Ok, sym, subst, inl, arith, append_assoc, append-nil, length-drop}
use Rattle.httparse.specs.{Grammar.{RequestHead, print_request}, Spans.{IsRequestAt}, declared.spans.HeaderSpan.{HeaderSpan}}
use Rattle.httparse.specs.declared.spans.RequestSpans.{RequestSpans}
use Rattle.plant_wire_head.specs.Head.{front, BeginsWith}
use Rattle.plant_wire_call.{specs.{Cut.{WaitsBelow, IsLengthOf}, Front.{waits, body_length, StandsAtFront}}, proofs.Shown.{answers_waits}}
use Rattle.plant_wire_call.proofs.public.Cuts.{begins-append, head_fits}

-- whatever follows, as long as the body isn't whole
pub waits_on : (bytes more : List ℕ) (head : RequestHead) (n : ℕ) → BeginsWith bytes head → body_length head ≡ Ok n
    → length (bytes ++ more) < length (print_request head) + n → StandsAtFront (bytes ++ more) waits
waits_on bytes more head n begins is few =
    let at = length (print_request head) in
    let still = begins-append bytes more head begins in
    let fits = head_fits (bytes ++ more) head still in
    let short : length (drop at (bytes ++ more)) < n = omega (arith, length-drop at (bytes ++ more)) in
    inl (head, still, sym (answers_waits head (drop at (bytes ++ more)) n is short))

-- if no bytes are asked for, nothing is claimed
pub waits_none : (bytes : List ℕ) → WaitsBelow bytes 0
waits_none bytes more few = absurd (omega arith)

pub waits_read : (bytes : List ℕ) (headers : List HeaderSpan) (spans : RequestSpans) (head : RequestHead) (n : ℕ)
    → IsRequestAt (front bytes) headers spans head
    → (0 < n → IsLengthOf head n) → WaitsBelow bytes n
waits_read bytes headers spans head n at wants more few =
    let some : 0 < n = omega arith in
    let w = wants some in
    let short : length (bytes ++ more) < length (print_request head) + w.0 = omega (arith, w.2, few) in
    waits_on bytes more head w.0 (drop spans.len (front bytes), at.reads) w.1 short

-- and so do bytes that go on from these
pub waits_more : (bytes more seen : List ℕ) (n : ℕ) → seen ≡ bytes ++ more → WaitsBelow bytes n → WaitsBelow seen n
waits_more bytes more seen n is below later few =
    let e : seen ++ later ≡ bytes ++ (more ++ later) = rw is (append_assoc bytes more later) in
    subst (λ (x : List ℕ). StandsAtFront x waits) (sym e) (below (more ++ later) (subst (λ (x : List ℕ). length x < n) e few))

pub waits_now : (bytes : List ℕ) (n : ℕ) → WaitsBelow bytes n → length bytes < n → StandsAtFront bytes waits
waits_now bytes n below few =
    let e = append-nil bytes in
    subst (λ (x : List ℕ). StandsAtFront x waits) e (below [] (subst (λ (x : List ℕ). length x < n) (sym e) few))

pub waits_left : (bytes rest : List ℕ) (n : ℕ) → rest ≡ bytes → WaitsBelow bytes n → WaitsBelow rest n
waits_left bytes rest n is below = subst (λ (x : List ℕ). WaitsBelow x n) (sym is) below
