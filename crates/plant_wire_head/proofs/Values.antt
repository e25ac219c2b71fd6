-- One field more: its value comes last, if its name is the one that is looked for.
use Rattle.std.proofs.Common.{◌≡◌, ℕ, ◌+◌, ◌<◌, List, [], ◌∷◌, ◌++◌, length, take, map, get_or, true, false, Bool, cond, sym, ap, ◌∙◌, append-nil, filter}
use Rattle.std.proofs.lemmas.List.{take_more, map_push, Elements.{filter-append}}
use Rattle.httparse.specs.{Spans.{header_bytes}, declared.spans.HeaderSpan.{HeaderSpan}}
use Rattle.plant_wire_head.specs.Fields.{NameValue, is_named, values_named}

values_push : (name : List ℕ) (fields : List NameValue) (f : NameValue) (b : Bool) → is_named name f ≡ b
    → values_named name (fields ++ f ∷ []) ≡ values_named name fields ++ cond b (f.1 ∷ []) []
values_push name fields f true e =
    rw (filter-append (is_named name) fields (f ∷ []), e) (map_push (λ (x : NameValue). x.1) (filter (is_named name) fields) f)
values_push name fields f false e =
    rw (filter-append (is_named name) fields (f ∷ []), e) (simp append-nil)

pub values_more : (buf name : List ℕ) (headers : List HeaderSpan) (i : ℕ) (d : HeaderSpan) (b : Bool) → i < length headers
    → b ≡ is_named name (header_bytes buf (get_or headers i d))
    → values_named name (map (header_bytes buf) (take (i + 1) headers))
    ≡ values_named name (map (header_bytes buf) (take i headers)) ++ cond b ((header_bytes buf (get_or headers i d)).1 ∷ []) []
values_more buf name headers i d b lt e =
    ap (λ (hs : List HeaderSpan). values_named name (map (header_bytes buf) hs)) (take_more headers i d lt)
    ∙ ap (values_named name) (map_push (header_bytes buf) (take i headers) (get_or headers i d))
    ∙ values_push name (map (header_bytes buf) (take i headers)) (header_bytes buf (get_or headers i d)) b (sym e)
