-- Files that were not opened as a database are no books.
use Rattle.std.proofs.Common.{◌≡◌, inl, sym, List, ℕ, ◌∙◌}
use Rattle.sqlite.specs.declared.error.Error.{Error}
use Rattle.sqlite_disk.specs.declared.Disk.{Ghosts}
use Rattle.plant_server.specs.{Files.{fault_by_error}, OverFiles.{IsNoDatabase, IsRefusal, Place}, declared.remains.Left.{Left}}
use Rattle.plant_server.specs.declared.remains.Left.TheVariants as left
use Rattle.plant_store.specs.declared.tables.StoreFault.{StoreFault}
use Rattle.plant_types.specs.Names.{Name}
use Rattle.plant_server.proofs.Opened.{not_refused}

module _ {D N F : Type 0} {g : Ghosts D} where
  pub refused_of : (place : Place D) (path : List ℕ) (admin : Name) (error : Error) (fault : StoreFault) → fault ≡ fault_by_error error
      → (after : Left D N F g) → IsNoDatabase place path error after → IsRefusal place path admin fault after
  refused_of place path admin error fault same (left.Nothing start) is = λ e. is (sym same ∙ e)
  refused_of place path admin error fault same (left.Unreached it) is = λ e. is (sym same ∙ e)
  refused_of place path admin error fault same (left.Empty start found) is = absurd is
  refused_of place path admin error fault same (left.Unopened rest) is = record {
    opened = is.0;
    fresh = is.1;
    still = λ clean. (is.2 clean).0;
    cause = λ clean not_this db held. not_refused _ _ _ _ _ error (is.2 clean).1 (sym same ∙ not_this) (inl (db, held));
  }
  refused_of place path admin error fault same (left.Refused conn) is = absurd is
  refused_of place path admin error fault same (left.Closed files) is = absurd is
  refused_of place path admin error fault same (left.Unclosed store) is = absurd is
  refused_of place path admin error fault same (left.InMemory start store) is = absurd is
  refused_of place path admin error fault same (left.Migrated old made) is = absurd is
