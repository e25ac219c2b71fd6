-- What the engine leaves on the way to a new database, of any page size.
use Rattle.std.proofs.Common.{◌⊎◌, ◌≡◌, ◌≤◌, ℕ, true, [], refl, subst, inl, inr, ◌∙◌, arith}
use Rattle.std.proofs.Math.Logic.{∥∥₁_map}
use Rattle.sqlite.specs.{Files.{HoldsDatabase, IsEmpty}, Opening.{reported}, State.{store_error}, Steps.{FailsToOpen}}
use Rattle.sqlite.specs.declared.error.{Error.{Error, TheVariants.{SqliteFailure}}, ErrorCode.TheVariants.{OutOfMemory}}
use Rattle.sqlite_disk.specs.Disk.{MoreFaults}
use Rattle.sqlite_rules.specs.Calls.{Excuses}
use Rattle.sqlite_store.specs.declared.error.OpenError.{OpenError}
use Rattle.sqlite_store.specs.declared.error.OpenError.TheVariants as opening
use Rattle.sqlite_trees.specs.declared.error.StoreError.{StoreError}
use Rattle.sqlite_trees.specs.declared.error.StoreError.TheVariants as stored
use Rattle.sqlite.proofs.ListingLemmas.{empty_is_sound}
use Rattle.sqlite_pool.proofs.ResealLemmas.{adopts_of}
use Rattle.sqlite_pool.specs.{File.{in_use, version_in}, Opening.{IsBlankFile, IsNew}, Stored.{Recovers, stored_size}, StoredLaws.{trimmed_whole}}
use Rattle.sqlite_store.specs.Opening as store
use Rattle.sqlite_store.specs.{Db.{trees_in}, Listed.{catalog_rows}, Listing.{IsOurs, all_trees, file_trees}}
use Rattle.sqlite_store.proofs.{BuildLemmas.{new_is_empty}, ListingLemmas.{named_tree, past_version}}
use Rattle.sqlite_trees.specs.Tree.{Trees}
use Rattle.sqlite_wal.specs.{PageSize.{IsPageSize}, Recovery.{AreWhole, Image, Pages}}
use Rattle.plant_store_files.specs.Creations.{IsBegun}

without_tables : (size : ℕ) (image : Image) (pages : Pages) → IsPageSize (stored_size size) → Recovers size image pages
    → IsOurs size true [] pages → (db : Trees) × HoldsDatabase image db × IsEmpty db
unfolding trees_in
without_tables size image pages valid found ours =
    let db = file_trees size [] pages in
    let unlisted = catalog_rows size [] (in_use size pages) in (
      db,
      (size, valid, record { pages = pages; wanted = []; schema = _; found = adopts_of size image pages found; ours = ours; reads = refl; sound = empty_is_sound db unlisted }),
      (λ tree low. past_version tree low (all_trees size [] (in_use size pages)) (version_in pages) ∙ named_tree tree low size [] (in_use size pages), unlisted),
    )

pub begun_of : (size : ℕ) (image : Image) → IsPageSize (stored_size size)
    → IsBlankFile size image ⊎ ((pages : Pages) × Recovers size image pages × (IsNew size pages ⊎ ∥ store.IsFresh size [] pages ∥₁))
    → IsBegun size image
begun_of size image valid (inl blank) = inl blank
begun_of size image valid (inr made) =
    inr (elim made.2 [
      | inl new ↦
          let whole : AreWhole size made.0 = subst (AreWhole size) made.1.shows (trimmed_whole size made.1.stored made.1.whole) in
          let empty = new_is_empty size made.0 whole new in
          ∣ without_tables size image made.0 valid made.1 (record { file = empty.0; numbered = λ _. record { listed = empty.1; spaced = refl; ordered = refl } }) ∣₁
      | inr fresh ↦ ∥∥₁_map fresh (λ it. without_tables size image made.0 valid made.1 it.0)
    ])

-- why the engine makes no store
pub cause_of : (a b c : ℕ) (Limit Blank Wanted : Type 0) (e : OpenError) → a ≤ b → (Blank → Wanted) → store.FailsToOpen b c Limit Wanted e
    → (reported e ≡ SqliteFailure OutOfMemory) ⊎ (MoreFaults a c ⊎ (Limit ⊎ (¬ Blank)))
cause_of a b c Limit Blank Wanted opening.OutOfMemory p so h = inl refl
cause_of a b c Limit Blank Wanted opening.Io p so h = inr (inl (omega arith))
cause_of a b c Limit Blank Wanted opening.Full p so h = inr (inr (inl h))
cause_of a b c Limit Blank Wanted opening.Refused p so h = inr (inr (inr (λ blank. h (so blank))))

excused : (Fault : Type 0) (e : Error) (cause : StoreError) → e ≡ store_error cause → Excuses Fault ⊥ cause
    → (e ≡ SqliteFailure OutOfMemory) ⊎ Fault
excused Fault e stored.OutOfMemory is why = inl is
excused Fault e stored.Io is why = inr why
excused Fault e stored.Corrupt is why = inr why
excused Fault e stored.Full is why = inr why
excused Fault e stored.Broken is why = absurd why
excused Fault e stored.Unstorable is why = absurd why

-- why it makes no connection to a store without tables
pub fault_of_connection : (db : Trees) (Fault : Type 0) (e : Error) → IsEmpty db → FailsToOpen db Fault e
    → (e ≡ SqliteFailure OutOfMemory) ⊎ Fault
fault_of_connection db Fault e none (inl refused) = absurd (refused.1 _ (empty_is_sound db none.1))
fault_of_connection db Fault e none (inr failed) = excused Fault e failed.0 failed.1 failed.2
