-- What was only read: by one query that writes nothing, and by reads one after another.
use Rattle.std.proofs.Common.{◌≡◌, List, ℕ, refl, sym, subst, ◌∙◌}
use Rattle.sqlite.{specs.{Held.{Held, state}, Listing.{understood}, Schema.{Schema}, State.{CommitsShowing, State, Survives}}, proofs.Callers.{IsPlain}}
use Rattle.sqlite.proofs.StateLemmas.{survives_then, survives_weaker}
use Rattle.sqlite_value.specs.Order.{Row}
use Rattle.plant_store_statements.proofs.PlainAnywhere.{never_commits_anywhere}
use Rattle.sqlite_trees.specs.declared.store.Store.{Ghosts}
use Rattle.plant_books.specs.Contents.{Content}
use Rattle.plant_store_columns.specs.Tables.{AreBooks, books_schema}
use Rattle.plant_store_statements.{specs.{Keeping.{HasContent, Represents}, Reading.{HasNoTransaction, IsOnlyRead}}, proofs.public.Contents.{keeps_same}}
use Rattle.plant_store_statements.specs.{Changes.{IsHonest}, OnlyReads.{OnlyReads}}

-- what was only read twice was only read
pub reads_then : {first mid last : State} → OnlyReads first mid → OnlyReads mid last → OnlyReads first last
reads_then {first} {mid} {last} one two = record {
  same = λ honest. two.same honest ∙ one.same (two.honest honest);
  honest = λ honest. one.honest (two.honest honest);
  quiet = survives_then first mid last (λ _. ⊥) (λ _. ⊥) (λ _. ⊥) (λ _ db none. none) (λ _ db none. none) one.quiet two.quiet;
}

-- and has what it had
pub keeps_read : {old new : State} (m : Content) → Represents old m → OnlyReads old new → Represents new m
keeps_read {old} {new} m keeps it honest = keeps_same old new m (keeps (it.honest honest)) (it.same honest)

-- a query that is plain under some schema commits nothing
pub asks_nothing : (schema : Schema) (text : List ℕ) → IsPlain (understood schema text) → (params : Row) (before after : State)
    → Survives before after (CommitsShowing text params before) → Survives before after (λ _. ⊥)
asks_nothing schema text plain params before after shows =
    survives_weaker before after (CommitsShowing text params before) (λ _. ⊥)
    (λ _ db commits. never_commits_anywhere schema text plain params before db commits) shows

-- a query that is plain over the books only reads, whatever it reads
pub reads_plain : {before after : State} (text : List ℕ) → IsPlain (understood books_schema text)
    → (IsHonest after → (schema : Schema) → IsPlain (understood schema text) → after.now ≡ before.now)
    → (IsHonest after → IsHonest before) → (params : Row) → Survives before after (CommitsShowing text params before) → OnlyReads before after
reads_plain {before} {after} text plain same honest params shows =
    record { same = λ tell. same tell books_schema plain; honest = honest; quiet = asks_nothing books_schema text plain params before after shows }

-- the books stand as in an earlier state
pub record Still (old s : State) : Type 0 where
  pub now : s.now ≡ old.now
  pub books : AreBooks s.now

pub begins : {s : State} → AreBooks s.now → Still s s
begins books = record { now = refl; books = books }

-- also after one read more
pub goes_on : {old s next : State} → OnlyReads s next → IsHonest next → Still old s → Still old next
goes_on it honest so_far =
    let same = it.same honest in
    record { now = same ∙ so_far.now; books = subst AreBooks (sym same) so_far.books }

-- ---- lists that are made read by read

-- what is listed, and then what is left, is the whole, and the books were only read
pub record IsListed {S X : Type 0} (g : Ghosts S) (before after : Held S) (listed whole : Content → List X) : Type 0 where
  pub mode : HasNoTransaction after
  pub found : IsHonest (state g after) → (m : Content) → HasContent (state g before) m → listed m ≡ whole m
  pub reads : IsOnlyRead g before after

-- also after one read more, if that leaves the whole
pub lists_on : {S X : Type 0} {g : Ghosts S} {before mid after : Held S} {listed more whole : Content → List X} → IsListed g before mid listed whole
    → HasNoTransaction after → IsOnlyRead g mid after
    → (IsHonest (state g after) → (m : Content) → HasContent (state g mid) m → listed m ≡ whole m → more m ≡ whole m)
    → IsListed g before after more whole
lists_on {S} {X} {g} {before} {mid} {after} so_far mode reads next = record {
  mode = mode;
  found = λ honest m k.
      let was = reads.honest honest in
      next honest m (keeps_same (state g before) (state g mid) m k (so_far.reads.same was)) (so_far.found was m k);
  reads = reads_then so_far.reads reads;
}
