-- The contracts of the trait `Books`, in terms of its ghost members.
use Rattle.std.specs.Prelude.{IfOk, List, OnErr, OnOk, Option, Result, Some, ℕ, ◌≡◌}
use Rattle.plant_books.specs.{Contents.{Content, IsKnownTo, after_changes, part_in}, Counting.{Counts}, Crashes.{LosesNothing}}
use Rattle.plant_model.specs.{Worlds.{unit_named}, declared.{call.Call.{Call}, rows.{RowEdit.{RowEdit}, UnitPart.{UnitPart}}}}
use Rattle.plant_types.specs.{Names.{Name}, declared.fault.Fault.{Fault}}

-- if the keeper's premise holds when a call ends, it held when the call began
abbrev pub WasHonest : {B : Type 0} → (B → Type 0) → B → B → Type 0
WasHonest is_honest before after = is_honest after → is_honest before

-- if the call succeeds and the keeper's premise holds when it ends, it gives this value of the books' content
abbrev pub Finds : {B A E : Type 0} → (B → Content → Type 0) → (B → Type 0) → B → B → Result A E → (Content → A)
    → Type 0
Finds represents is_honest before after said what = (m : Content) → represents before m → is_honest after
    → IfOk said (λ x. x ≡ what m)

-- the same for the part of the rows that a call looks at, if it names a unit
abbrev pub FindsPart : {B E : Type 0} → (B → Content → Type 0) → (B → Type 0) → B → B → Call
    → Result (Option UnitPart) E → Type 0
FindsPart represents is_honest before after c said = (m : Content) → represents before m → is_honest after → (u : Name)
    → unit_named c.request ≡ Some u → IfOk said (λ part. part ≡ part_in m c u)

-- the books hold what they held
abbrev pub Keeps : {B : Type 0} → (B → Content → Type 0) → B → B → Type 0
Keeps represents before after = (m : Content) → represents before m → represents after m

-- if the call fails, the books hold what they held
abbrev pub KeepsOnErr : {B A E : Type 0} → (B → Content → Type 0) → B → B → Result A E → Type 0
KeepsOnErr represents before after said = (m : Content) → represents before m → OnErr said (represents after m)

-- if the call succeeds, the books hold what they held with these changes of a unit that they know
abbrev pub Makes : {B A E : Type 0} → (B → Content → Type 0) → B → B → Name → List RowEdit → Result A E → Type 0
Makes represents before after u cs said = (m : Content) → represents before m → IsKnownTo m u cs
    → OnOk said (represents after (after_changes m u cs))

-- the call adds one to the count of `Store` if it fails with `Store`, else nothing
abbrev pub CountsBy : {B A : Type 0} → (B → ℕ) → B → B → Result A Fault → Type 0
CountsBy stores before after said = Counts (stores before) (stores after) said

-- if the store was open, and the disk has returned what was written, then the store is open after a success
abbrev pub StaysHonest : {B A E : Type 0} → (B → Type 0) → (B → Type 0) → B → B → Result A E → Type 0
StaysHonest is_honest is_clean before after said = (is_clean before → is_honest before) → is_clean after
    → OnOk said (is_honest after)

-- a question leaves the books unchanged: they hold what they held, the keeper's premise held before, a crash leaves what
-- it left before, the fault Store is counted, and a question that succeeds does not shut the store
pub record LeavesUnchanged {B A : Type 0} (represents : B → Content → Type 0) (is_honest is_clean leaves_books : B → Type 0)
    (may_leave : B → Content → Type 0) (stores : B → ℕ) (before after : B) (said : Result A Fault) : Type 0 where
  pub same : Keeps represents before after
  pub honest : WasHonest is_honest before after
  pub stays_open : StaysHonest is_honest is_clean before after said
  pub crash : LosesNothing represents is_honest is_clean leaves_books may_leave before after
  pub count : CountsBy stores before after said
