-- What the files hold that a crash leaves.
use Rattle.std.proofs.Common.{◌≡◌, Err, IfErr, IfOk, IfSome, IsErr, IsTrue, List, None, Ok, Option, Result, Some, [], ap, sym, subst, true≢false, ◌∙◌}
use Rattle.std.proofs.Math.Logic.{∥∥₁_map}
use Rattle.sqlite.specs.{Effect.{Database, IsDatabase}, Files.{HoldsDatabase, file_state}, Held.{Held}, State.{HasCleanDisk, IsLive}, Tree.{Trees}}
use Rattle.sqlite.proofs.Theorems.{opens_again}
use Rattle.sqlite_disk.specs.declared.{Disk.{Ghosts}, Files.{Files}}
use Rattle.sqlite_store.specs.{FileStore.{recovers, view}, declared.store.FileStore.{FileStore}}
use Rattle.sqlite_wal.specs.{Recovery.{Image}}
use Rattle.plant_books.specs.{Contents.{Content}}
use Rattle.plant_model.specs.{Worlds.{World}, declared.{call.Call.{Call}, reply.Answer.{Answer}}}
use Rattle.plant_office.specs.Outcomes.{IsOutcome}
use Rattle.plant_server.specs.{Crashes.{AreAsCommitted, AreOutcomeOf, AreWholeBooksWith, AreWholeOutcomeOf, IsOutcomeIn, IsWhole, LeavesOutcomes}, Files.{AreBooksWith}}
use Rattle.plant_store_statements.specs.Keeping.{HaveRows, LeavesBooks, LeavesContent, Represents}

pub if_ok : {A E : Type 0} (said : Result A E) {P Q : A → Type 0} → ((a : A) → P a → Q a) → IfOk said P → IfOk said Q
if_ok (Ok a) then h = then a h
if_ok (Err e) then h = tt

pub if_some : {A : Type 0} (found : Option A) {P Q : A → Type 0} → ((a : A) → P a → Q a) → IfSome found P → IfSome found Q
if_some None then h = tt
if_some (Some a) then h = then a h

held_by : (image : Image) (d : Database) (m : Content) (db : Trees) → db ≡ d.trees → IsDatabase d → HaveRows m d → HoldsDatabase image db
    → AreBooksWith image m
held_by image d m db same live rows holds =
    record { db = d; database = record { trees = subst (HoldsDatabase image) same holds; listed = live }; rows = rows }

outcome_held : (image : Image) (w : World) (calls : List Call) (answers : List Answer) (db : Trees) → IsOutcomeIn w calls answers db
    → HoldsDatabase image db → AreOutcomeOf w calls answers image
outcome_held image w calls answers db it holds = record {
  content = it.content;
  books = held_by image it.database it.content db (sym it.same) it.books.database it.books.rows holds;
  outcome = it.outcome;
}

module _ {D : Type 0} {g : Ghosts D} where
  -- a store of which a crash leaves no more than of a connection leaves the same outcomes
  pub outcomes_left : (c : Held (FileStore D g)) (it : FileStore D g) → IsWhole it → ((db : Trees) → recovers it db → recovers c.store db)
      → LeavesBooks (file_state c) → (w : World) (calls : List Call) (answers : List Answer)
      → ((x : Content) → LeavesContent (file_state c) x → IsOutcome w calls answers x) → LeavesOutcomes it w calls answers
  outcomes_left c it whole fewer_trees sound w calls answers has =
      let each : (db : Trees) → recovers it db → IsOutcomeIn w calls answers db = λ db may.
      let was = fewer_trees db may in
      let b = sound db was in
      record { content = b.0; database = b.1; same = b.2; books = b.3; outcome = has b.0 (b.1, subst (recovers c.store) (sym b.2) was, b.3) } in
      record {
        databases = each;
        files = λ image may. ∥∥₁_map (opens_again it whole.numbered whole.sound image may)
            (λ found. outcome_held image w calls answers found.0 (each found.0 found.1) found.2);
      }

  -- what was committed is among what a crash could leave before the closing
  pub outcome_whole : (it : FileStore D g) (files : Files D) (w : World) (calls : List Call) (answers : List Answer)
      → LeavesOutcomes it w calls answers → AreAsCommitted g it files → AreWholeOutcomeOf g files w calls answers
  outcome_whole it files w calls answers left held image may =
      let alone = held.alone image may in
      let is = left.databases (view it).committed held.committed in (
        ∥∥₁_map alone.both (outcome_held image w calls answers (view it).committed is),
        ∥∥₁_map alone.alone (outcome_held (record image { log = [] }) w calls answers (view it).committed is),
      )

  pub whole_books : (c : Held (FileStore D g)) (it : FileStore D g) (files : Files D) → IsLive (file_state c)
      → (IsTrue (file_state c).is_open → (file_state c).now ≡ (file_state c).committed)
      → HasCleanDisk (file_state c) → IsTrue (file_state c).is_open → (view it).committed ≡ (file_state c).committed.trees
      → (m : Content) → Represents (file_state c) m → AreAsCommitted g it files → AreWholeBooksWith g files m
  whole_books c it files live settled clean up committed m held copied image may =
      let k = held (clean, up) in
      let same : (view it).committed ≡ (file_state c).now.trees = committed ∙ sym (ap (λ (d : Database). d.trees) (settled up)) in
      let alone = copied.alone image may in
      let now = (live up).0 in (
        ∥∥₁_map alone.both (held_by image (file_state c).now m _ same now k),
        ∥∥₁_map alone.alone (held_by (record image { log = [] }) (file_state c).now m _ same now k),
      )

-- what was closed has the property if what was made has it, on the same premises
pub closed_of : {A B E F : Type 0} (P Q : Type 0) (R : A → Type 0) (S : B → Type 0) (made : Result A E) (closed : Result B F)
    → IfOk made (λ a. P → Q → R a) → IfOk made (λ a. R a → IfOk closed S) → IfErr made (λ _. IsErr closed) → IfOk closed (λ b. P → Q → S b)
closed_of P Q R S made (Err e) was whole unmade = tt
closed_of P Q R S (Ok a) (Ok b) was whole unmade = λ p q. whole (was p q)
closed_of P Q R S (Err e) (Ok b) was whole unmade = absurd (true≢false (sym unmade))

-- what was renamed is what was made
pub placed_of : {A E F : Type 0} (P : A → Type 0) (made : Result A E) (placed : Result A F) → IfOk placed (λ a. made ≡ Ok a) → IfOk made P
    → IfOk placed P
placed_of P made (Err e) is was = tt
placed_of P made (Ok a) is was = subst (λ r. IfOk r P) is was
