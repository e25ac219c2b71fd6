-- What a function appends to a text or a list.
use Rattle.std.specs.Prelude.{List, OnOk, Result, ◌++◌, ◌≡◌}

-- if it succeeds, it has appended these values
abbrev pub Adds : {V E A : Type 0} → Result V E → List A → List A → List A → Type 0
Adds said before after more = OnOk said (after ≡ before ++ more)
