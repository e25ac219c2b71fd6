-- A head of so many bytes has no more fields than the room: a field takes three bytes at least.
use Rattle.std.{specs.List.{AllByRecursion}, proofs.Common.{ℕ, ◌+◌, ◌*◌, ◌<◌, ◌≤◌, List, [], ◌∷◌, length, ap, arith, length-append, flat_map}}
use Rattle.std.proofs.lemmas.List.{length-take, Elements.{recursion_from_All}}
use Rattle.plant_types.specs.Limits.{max_head}
use Rattle.httparse.specs.Grammar.{LineEnd, crlf, lf, print_end, Field, IsField, print_field, RequestHead, IsRequestHead, print_request}
use Rattle.httparse.specs.Spans.{RequestExceeds}
use Rattle.plant_wire_head.specs.Head.{front}

pub some_end : (end : LineEnd) → 1 ≤ length (print_end end)
some_end crlf = omega arith
some_end lf = omega arith

pub field_length : (f : Field) → IsField f → 3 ≤ length (print_field f)
field_length f ok =
    let a = some_end f.end in
    let b : 0 < length f.name = ok.name.0 in
    simp length-append (omega (arith, length-append {A = ℕ}))

pub fields_length : (fs : List Field) → AllByRecursion IsField fs → 3 * length fs ≤ length (flat_map print_field fs)
fields_length [] ok = omega arith
fields_length (f ∷ fs) ok =
    let a = field_length f ok.0 in
    let b = fields_length fs ok.1 in
    omega (arith, length-append (print_field f) (flat_map print_field fs))

pub head_length : (h : RequestHead) → IsRequestHead h → 3 * length h.fields + 1 ≤ length (print_request h)
unfolding print_request
head_length h ok =
    let a = some_end h.last in
    let b = fields_length h.fields (recursion_from_All IsField h.fields ok.fields) in
    simp length-append (omega arith)

pub never_exceeds : (room : ℕ) (bytes : List ℕ) → 5461 ≤ room → RequestExceeds room (front bytes) → ⊥
never_exceeds room bytes enough (begin, rest, is, h, reads, over) =
    let a = head_length h reads.0 in
    let b = ap length is in
    let c = ap length reads.1 in
    omega (arith, length-append {A = ℕ}, length-take max_head bytes)
