-- What a connection that is accepted or refused as an office's books was before, and what it keeps.
use Rattle.std.specs.Prelude.{Bool, IfErr, IfOk, IsTrue, Result, false, ℕ, ◌↔◌, ◌≡◌}
use Rattle.sqlite.specs.Held.{Held, state}
use Rattle.sqlite_trees.specs.declared.store.Store.{Ghosts}
use Rattle.plant_books.specs.Contents.{Content}
use Rattle.plant_store_statements.specs.{Changes.{IsHonest}, Keeping.{Represents}}
use Rattle.plant_store.specs.Opening.{IsOffice, has_office}
use Rattle.plant_store.specs.declared.tables.StoreFault.{StoreFault, TheVariants.{NotThisStore}}
use Rattle.plant_types.specs.Names.{Name}

-- the schema has no table `office` with the columns that an office has
abbrev pub HasNoOffice : {S : Type 0} → Ghosts S → Held S → Type 0
HasNoOffice g conn = has_office (state g conn).now.schema ≡ false

-- on an honest disk the result is whether this is an office of the schema and the person
abbrev pub FindsOffice : {S E : Type 0} → Ghosts S → Held S → Held S → ℕ → Name → Result Bool E → Type 0
FindsOffice g before after schema admin said = IsHonest (state g after)
    → IfOk said (λ is. IsTrue is ↔ IsOffice schema admin (state g before).now)

-- on an honest disk it was an office of the schema and the person
abbrev pub WasOffice : {S : Type 0} → Ghosts S → Held S → Held S → ℕ → Name → Type 0
WasOffice g before after schema admin = IsHonest (state g after) → IsOffice schema admin (state g before).now

-- a connection that was refused as not this store was, on an honest disk, not an office of the schema and the person
abbrev pub IsAnothers : {S : Type 0} → Ghosts S → Held S → Held S → ℕ → Name → StoreFault → Type 0
IsAnothers g before after schema admin fault = fault ≡ NotThisStore → IsHonest (state g after)
    → ¬ IsOffice schema admin (state g before).now

-- every content that was kept before is kept after
abbrev pub KeepsAll : {S : Type 0} → Ghosts S → Held S → Held S → Type 0
KeepsAll g before after = (m : Content) → Represents (state g before) m → Represents (state g after) m

-- after a success the connection in the result keeps every content that was kept before
abbrev pub KeepsIfOk : {S A E : Type 0} → Ghosts S → Held S → Result A E → (A → Held S) → Type 0
KeepsIfOk g before said conn_of = (m : Content) → Represents (state g before) m
    → IfOk said (λ taken. Represents (state g (conn_of taken)) m)

-- after a refusal the connection in the error keeps every content that was kept before
abbrev pub KeepsIfErr : {S A E : Type 0} → Ghosts S → Held S → Result A E → (E → Held S) → Type 0
KeepsIfErr g before said conn_of = (m : Content) → Represents (state g before) m
    → IfErr said (λ refused. Represents (state g (conn_of refused)) m)
