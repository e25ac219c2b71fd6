-- What a read returns, and what it leaves of the tables. Each definition takes the connection before and after. A disk
-- is clean if it has returned what was written, and honest if besides no failure has shut the database.
use Rattle.std.specs.Prelude.{IfOk, IsTrue, List, OnOk, Result, false, filter, map, ℕ, ◌≡◌}
use Rattle.sqlite.specs.{Held.{Held, state}, Listing.{understood}, Schema.{Schema}, State.{CommitsShowing, HasCleanDisk, Shown as IsShown, Survives}, Tree.{Trees}}
use Rattle.sqlite.{specs.Values.{bound}, proofs.Callers.{IsPlain}}
use Rattle.sqlite_trees.specs.declared.store.Store.{Ghosts}
use Rattle.sqlite_value.specs.{Order.{Row as Line}, declared.value.ValueRef.{ValueRef}}
use Rattle.plant_books.specs.Contents.{Content}
use Rattle.plant_store_columns.specs.{Shown.{columns}, Tables.{AreBooks}}
use Rattle.plant_model.specs.Histories.{same_number}
use Rattle.plant_store_statements.specs.{Changes.{IsHonest}, Keeping.{HasContent}, OnlyReads.{OnlyReads}}
use Rattle.plant_types.specs.Names.{Name, same_name}

-- the connection is only read
abbrev pub IsOnlyRead : {S : Type 0} → Ghosts S → Held S → Held S → Type 0
IsOnlyRead g before after = OnlyReads (state g before) (state g after)

-- no transaction is begun
abbrev pub HasNoTransaction : {S : Type 0} → Held S → Type 0
HasNoTransaction conn = conn.in_transaction ≡ false

-- the disk is honest and the store is open
abbrev pub IsHonestIn : {S : Type 0} → Ghosts S → Held S → Type 0
IsHonestIn g conn = IsHonest (state g conn)

-- after a success on a clean disk a store that was open is open
abbrev pub LeavesOpen : {S A E : Type 0} → Ghosts S → Held S → Held S → Result A E → Type 0
LeavesOpen g before after said =
    HasCleanDisk (state g after) → IsTrue (state g before).is_open → OnOk said (IsTrue (state g after).is_open)

-- on an honest disk a query that is plain under some schema leaves the database as it was, whatever its own schema is
abbrev pub SameIfPlain : {S : Type 0} → Ghosts S → Held S → Held S → List ℕ → Type 0
SameIfPlain g before after sql =
    IsHonest (state g after) → (schema : Schema) → IsPlain (understood schema sql)
    → (state g after).now ≡ (state g before).now

-- a crash leaves what it left before, or what the query commits
abbrev pub CrashesAsShown : {S : Type 0} → Ghosts S → Held S → Held S → List ℕ → List ValueRef → Type 0
CrashesAsShown g before after sql cells =
    Survives (state g before) (state g after) (CommitsShowing sql (bound cells) (state g before))

-- on a clean disk the lines are those that the query returns
abbrev pub Asks : {S A E : Type 0} → Ghosts S → Held S → Held S → List ℕ → List ValueRef → Result A E → (A → List Line)
    → Type 0
Asks g before after sql cells said lines =
    HasCleanDisk (state g after)
    → IfOk said (λ rows. IsShown sql (bound cells) (state g before) (state g after) (lines rows))

-- on a clean disk the rows are those whose cells the query returns
abbrev pub Decodes : {S X E : Type 0} → Ghosts S → Held S → Held S → List ℕ → List ValueRef → ℕ → (X → Line)
    → Result (List X) E → Type 0
Decodes g before after sql cells width shown said =
    HasCleanDisk (state g after)
    → IfOk said (λ rows. (lines : List Line)
    × (IsShown sql (bound cells) (state g before) (state g after) lines × (map (columns width) lines ≡ map shown rows)))

-- on a clean disk the result is this of the tables of the books
abbrev pub Loads : {S A E : Type 0} → Ghosts S → Held S → Held S → (Trees → A) → Result A E → Type 0
Loads g before after what said =
    HasCleanDisk (state g after) → AreBooks (state g before).now
    → IfOk said (λ found. found ≡ what (state g before).now.trees)

-- on a clean disk the rows are the unit's rows with this tag
abbrev pub LoadsTag : {S X E : Type 0} → Ghosts S → Held S → Held S → (Name → Trees → List X) → Name → (X → Name) → Name
    → Result (List X) E → Type 0
LoadsTag g before after seen unit tag_of tag said =
    Loads g before after (λ trees. filter (λ r. same_name tag (tag_of r)) (seen unit trees)) said

-- on a clean disk the rows are the unit's rows with this number
abbrev pub LoadsNumber : {S X E : Type 0} → Ghosts S → Held S → Held S → (Name → Trees → List X) → Name → (X → ℕ) → ℕ
    → Result (List X) E → Type 0
LoadsNumber g before after seen unit number_of number said =
    Loads g before after (λ trees. filter (λ r. same_number number (number_of r)) (seen unit trees)) said

-- on an honest disk the result is this of every content that the books hold
abbrev pub ReadsContent : {S A E : Type 0} → Ghosts S → Held S → Held S → Result A E → (Content → A) → Type 0
ReadsContent g before after said what =
    IsHonest (state g after) → (m : Content) → HasContent (state g before) m → IfOk said (λ found. found ≡ what m)
