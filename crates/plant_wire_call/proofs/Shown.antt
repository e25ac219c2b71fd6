-- From what the steps of `next_call` say to what stands at the front.
use Rattle.std.proofs.{Common.{◌≡◌, ℕ, ◌+◌, ◌<◌, ◌≤◌, List, length, take, map, Result, Ok, Err, refl, sym, ap, ◌∙◌}, lemmas.Bool.{lt-ltb, le-ltb}}
use Rattle.httparse.specs.{Grammar.{RequestHead, print_request}, Spans.{header_bytes, span_bytes, name_and_value, IsRequestAt}}
use Rattle.httparse.specs.declared.spans.{HeaderSpan.{HeaderSpan}, RequestSpans.{RequestSpans}}
use Rattle.plant_wire_call.specs.{Front.{item_from, waits, whole, broken, of_head, body_length, item_of, answer_to}, Lengths.{body_length_in}}
use Rattle.plant_wire_call.specs.{Reading.{call_in}, declared.{causes.Cause.{Cause}}}
use Rattle.plant_model.specs.declared.call.Call as model

pub answers_broken : (head : RequestHead) (after : List ℕ) (cause : Cause) → body_length head ≡ Err cause → answer_to head after ≡ broken cause
unfolding of_head
answers_broken head after cause e = rw e refl

pub answers_waits : (head : RequestHead) (after : List ℕ) (n : ℕ) → body_length head ≡ Ok n → length after < n → answer_to head after ≡ waits
unfolding of_head
answers_waits head after n e lt = rw (e, lt-ltb (length after) n lt) refl

pub answers_whole : (head : RequestHead) (after : List ℕ) (n : ℕ) → body_length head ≡ Ok n → n ≤ length after
    → answer_to head after ≡ whole (item_of head (take n after)) (length (print_request head) + n)
unfolding of_head
answers_whole head after n e le = rw (e, le-ltb (length after) n le) refl

-- the fields that were read are the head's
fields_are : (front : List ℕ) (headers : List HeaderSpan) (spans : RequestSpans) (head : RequestHead) → IsRequestAt front headers spans head
    → map name_and_value head.fields ≡ map (header_bytes front) (take spans.headers headers)
fields_are front headers spans head at = sym at.fields

pub length_read : (front : List ℕ) (headers : List HeaderSpan) (spans : RequestSpans) (head : RequestHead) (r : Result ℕ Cause)
    → IsRequestAt front headers spans head → r ≡ body_length_in (map (header_bytes front) (take spans.headers headers)) → body_length head ≡ r
length_read front headers spans head r at e = ap body_length_in (fields_are front headers spans head at) ∙ sym e

pub item_read : (front : List ℕ) (headers : List HeaderSpan) (spans : RequestSpans) (head : RequestHead) (m t body : List ℕ)
    (r : Result model.Call Cause)
    → IsRequestAt front headers spans head → m ≡ span_bytes front spans.method → t ≡ span_bytes front spans.path
    → call_in m t (map (header_bytes front) (take spans.headers headers)) body ≡ r → item_of head body ≡ item_from r
item_read front headers spans head m t body r at em et e =
    let parts : call_in head.method head.target (map name_and_value head.fields) body ≡ r =
    rw (fields_are front headers spans head at, ← at.method, ← at.path, ← em, ← et) e in
    ap item_from parts

pub whole_read : (front : List ℕ) (headers : List HeaderSpan) (spans : RequestSpans) (head : RequestHead) (m t after : List ℕ) (n : ℕ)
    (r : Result model.Call Cause)
    → IsRequestAt front headers spans head → m ≡ span_bytes front spans.method → t ≡ span_bytes front spans.path
    → Ok n ≡ body_length_in (map (header_bytes front) (take spans.headers headers)) → n ≤ length after
    → call_in m t (map (header_bytes front) (take spans.headers headers)) (take n after) ≡ r
    → answer_to head after ≡ whole (item_from r) (spans.len + n)
whole_read front headers spans head m t after n r at em et en le e =
    let whole_is = answers_whole head after n (length_read front headers spans head (Ok n) at en) le in
    let item_is = item_read front headers spans head m t (take n after) r at em et e in
    whole_is ∙ rw (item_is, ← at.len) refl
