-- A value that depends on a test, and the first of two optional values.
use Rattle.std.specs.Prelude.{Bool, None, Option, Some, if◌then◌else◌}

-- x if the test holds, else none
abbrev pub when : {A : Type 0} → Bool → A → Option A
when b x = if b then Some x else None

-- the first value, or the second if the first is None
abbrev pub or_else : {A : Type 0} → Option A → Option A → Option A
or_else None o = o
or_else (Some x) o = Some x
