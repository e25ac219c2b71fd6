-- The values of a body's members. `read` is serde_json's reader of a `Value`, which takes text.
use Rattle.std.specs.Prelude.{◌≡◌, ℕ, List, Option, Some, None, option_and_then, option_map, is_some, Result, Ok, Err, Bool, ◌&&◌, nat_le, codes, if◌then◌else◌, ok_or, bytes_eq}
use Rattle.std.specs.Str.{is_utf8}
use Rattle.plant_types.specs.{Limits.{max_changes, max_quota}, Moment.{moment_of}, Numbers.{is_seconds, is_quota, number_if}, Tenure.{is_tenure}}
use Rattle.plant_types.specs.{Text.{text_of, person_of, tag_of, words_of}, declared.role.Role.{Role}}
use Rattle.plant_types.specs.declared.role.Role.TheVariants.{Viewer, Operator, Maintainer, Engineer, Approver, Steward}
use Rattle.serde_json.specs.{Data.{Data}, Find.{get, as_number, as_u64, as_str, as_bool, as_null}, Read.{read}}
use Rattle.plant_wire_body.specs.declared.members.{BodyError.{BodyError, TheVariants.{Memory, Because}}, Unfit.{Unfit, TheVariants.{Body}}}

-- the JSON value of the bytes
abbrev pub value_of : List ℕ → Option Data
value_of bytes = if is_utf8 bytes then read bytes else None

-- a whole number below 2 ^ 64, written in digits alone
abbrev pub whole_number : Data → Option ℕ
whole_number d = option_and_then as_u64 (as_number d)

abbrev pub number_at : List ℕ → Data → Option ℕ
number_at name d = option_and_then whole_number (get name d)

-- a member that is a string
abbrev pub string_at : List ℕ → Data → Option (List ℕ)
string_at name d = option_and_then as_str (get name d)

abbrev pub truth_at : List ℕ → Data → Option Bool
truth_at name d = option_and_then as_bool (get name d)

-- a member that is a text over a set of bytes
abbrev pub text_at : (ℕ → Bool) → ℕ → List ℕ → Data → Option (List ℕ)
text_at admits longest name d = option_and_then (text_of admits longest) (string_at name d)

abbrev pub person_at : List ℕ → Data → Option (List ℕ)
person_at name d = option_and_then person_of (string_at name d)

abbrev pub tag_at : List ℕ → Data → Option (List ℕ)
tag_at name d = option_and_then tag_of (string_at name d)

abbrev pub words_at : List ℕ → Data → Option (List ℕ)
words_at name d = option_and_then words_of (string_at name d)

-- a length of time, in seconds
abbrev pub seconds_at : List ℕ → Data → Option ℕ
seconds_at name d = option_and_then (λ n. number_if (is_seconds n) n) (number_at name d)

-- the revision that a proposal is drawn up for, at most the greatest number of changes of a unit
abbrev pub base_at : List ℕ → Data → Option ℕ
base_at name d = option_and_then (λ n. number_if (nat_le n max_changes) n) (number_at name d)

-- the severity of a consequence, from 1, the least, to 5
abbrev pub severity_at : List ℕ → Data → Option ℕ
severity_at name d = option_and_then (λ n. number_if (nat_le 1 n && nat_le n 5) n) (number_at name d)

-- the role with this name
abbrev pub role_named : List ℕ → Option Role
role_named name =
    if bytes_eq name (codes "Viewer") then Some Viewer
    else if bytes_eq name (codes "Operator") then Some Operator
    else if bytes_eq name (codes "Maintainer") then Some Maintainer
    else if bytes_eq name (codes "Engineer") then Some Engineer
    else if bytes_eq name (codes "Approver") then Some Approver
    else if bytes_eq name (codes "Steward") then Some Steward
    else None

abbrev pub role_at : List ℕ → Data → Option Role
role_at name d = option_and_then role_named (string_at name d)

-- a quota: default 2000
abbrev pub quota_in : Option Data → Option ℕ
quota_in None = Some max_quota
quota_in (Some d) = option_and_then (λ n. number_if (is_quota n) n) (whole_number d)

abbrev pub quota_at : List ℕ → Data → Option ℕ
quota_at name d = quota_in (get name d)

-- an end: none if it is missing or null
abbrev pub end_in : Option Data → Option (Option ℕ)
end_in None = Some None
end_in (Some d) =
    if is_some (as_null d) then Some None
    else option_map (λ m. Some m) (option_and_then moment_of (as_str d))

abbrev pub end_at : List ℕ → Data → Option (Option ℕ)
end_at name d = end_in (get name d)

-- a role with its end; a steward has none
abbrev pub tenure_of : Role → Option ℕ → Option (Role × Option ℕ)
tenure_of role until = if is_tenure role until then Some (role, until) else None

-- a missing value makes the body unfit
abbrev pub or_body : {A : Type 0} → Option A → Result A Unfit
or_body o = ok_or o Body

infixl 10 ◌>>=◌
abbrev pub ◌>>=◌ : {A B : Type 0} → Result A Unfit → (A → Result B Unfit) → Result B Unfit
(Ok x) >>= f = f x
(Err e) >>= f = Err e

-- What a reader returned is what the definition gives, unless memory ran out.
abbrev pub Fails : {A : Type 0} → BodyError → Result A Unfit → Type 0
Fails Memory given = Unit {0}
Fails (Because unfit) given = given ≡ Err unfit

abbrev pub ReadsAs : {A : Type 0} → Result A BodyError → Result A Unfit → Type 0
ReadsAs (Ok x) given = given ≡ Ok x
ReadsAs (Err e) given = Fails e given

-- the same for a returned value that is seen through a view
abbrev pub ReadsAsSeen : {A B : Type 0} → (A → B) → Result A BodyError → Result B Unfit → Type 0
ReadsAsSeen view (Ok x) given = given ≡ Ok (view x)
ReadsAsSeen view (Err e) given = Fails e given
