-- Files that are opened again hold the same books.
use Rattle.std.proofs.Common.{◌≡◌, IsTrue, sym, ap, ◌∙◌}
use Rattle.sqlite.specs.{Closing.{IsCopied}, Effect.{Database}, Files.{file_state, IsOpened, Finds}, Held.{Held}, State.{IsLive}, WalReads.{AreClean}}
use Rattle.sqlite.proofs.Callers.{finds_again}
use Rattle.sqlite_disk.specs.declared.Files.{Files}
use Rattle.sqlite_store.specs.declared.store.FileStore.{FileStore}
use Rattle.plant_books.specs.Contents.{Content}
use Rattle.plant_store_statements.{specs.{Changes.{IsHonest}, Keeping.{Represents, HasContent}}, proofs.public.Contents.{keeps_same}}
use Rattle.plant_store.proofs.public.Databases.{same_database}
use Rattle.sqlite_disk.specs.declared.Disk as disk

module _ {D : Type 0} {g : disk.Ghosts D} (old new : Held (FileStore D g)) (files : Files D) (live : IsLive (file_state old))
    (settled : IsTrue (file_state old).is_open → (file_state old).now ≡ (file_state old).committed)
    (copied : AreClean g files.log files.db → IsCopied old files) (opened : IsOpened new) (found : Finds files new)
    (up : IsTrue (file_state new).is_open) where
  was_told : IsHonest (file_state old)
  was_told = let it = copied found.honest in (it.was_clean, it.was_open)

  same_trees : (file_state new).now.trees ≡ (file_state old).now.trees
  same_trees =
      ap (λ (d : Database). d.trees) opened.0.clean
      ∙ finds_again old new files copied found
      ∙ sym (ap (λ (d : Database). d.trees) (settled was_told.1))

  pub kept_again : (m : Content) → Represents (file_state old) m → HasContent (file_state new) m
  kept_again m keeps =
      keeps_same (file_state old) (file_state new) m (keeps was_told)
      (same_database (file_state old).now (file_state new).now (live was_told.1).0 (opened.1 up).0 same_trees)
