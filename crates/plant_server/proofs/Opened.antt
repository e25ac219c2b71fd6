-- What a connection over files shows, if the files held a database.
use Rattle.std.proofs.Common.{◌≡◌, inl, inr, ap, map, refl, subst, sym, ◌∙◌, ◌∷◌, [], Some, ℕ}
use Rattle.sqlite.specs.{Effect.{Database}, Opening.{FailsAs}, Start.{FindsIn}, State.{HasCleanDisk, IsLive, Opens, State, store_error}, Table.{Table}}
use Rattle.sqlite.specs.declared.error.{Error.{Error, TheVariants.{SqliteFailure}}, ErrorCode.TheVariants.{DiskFull, OutOfMemory}}
use Rattle.sqlite_schema.specs.Names.{same_name}
use Rattle.sqlite_trees.specs.declared.error.StoreError.{StoreError}
use Rattle.sqlite_trees.specs.declared.error.StoreError.TheVariants as store
use Rattle.sqlite_wal.specs.Recovery.{Image}
use Rattle.plant_books.specs.Contents.{Content}
use Rattle.plant_store_columns.specs.Tables.{office_table, schema_no}
use Rattle.plant_server.specs.Files.{AreBooksWith, AreOfDatabase, fault_by_error}
use Rattle.plant_store_statements.specs.{Changes.{IsHonest}, Keeping.{HaveRows, Represents}}
use Rattle.plant_store.{specs.{Opening.{IsThisOffice, office_cells, office_in, office_shown}, declared.tables.StoreFault.TheVariants.{NotThisStore}}, proofs.public.Databases.{same_database}}
use Rattle.plant_types.specs.Names.{Name}

module _ (files : Image) (s : State) (opened : HasCleanDisk s → Opens s × IsLive s) (found : HasCleanDisk s → FindsIn files s) where
  pub same_now : IsHonest s → (db : Database) → AreOfDatabase files db → s.now ≡ db
  same_now tells db held =
      let it = opened tells.0 in
      same_database db s.now held.listed (it.1 tells.1).0
      (ap (λ (d : Database). d.trees) it.0.clean ∙ (found tells.0).holds db.trees held.trees)

  pub kept : (m : Content) → AreBooksWith files m → Represents s m
  kept m held tells = subst (HaveRows m) (sym (same_now tells held.db held.database)) held.rows

-- the books of an office are its administrator's
pub own_admin : (m : Content) (db : Database) (admin : Name) → HaveRows m db → IsThisOffice admin db → m.admin ≡ admin
unfolding same_name
own_admin m db admin k it =
    let there : office_in db.schema ≡ Some office_table = rw k.books.same_schema refl in
    let same : it.table ≡ office_table = let e = sym it.is_there ∙ there in cc in
    let row : map (office_shown office_table) (db.trees 0) ≡ office_cells schema_no admin ∷ [] =
    subst (λ (t : Table). map (office_shown t) (db.trees t.tree) ≡ office_cells schema_no admin ∷ []) same it.row in
    let mine : map (office_shown office_table) (db.trees 0) ≡ office_cells schema_no m.admin ∷ [] = ap (map (office_shown office_table)) k.office in
    let both = sym mine ∙ row in cc

-- a fault of the engine's store is not reported as not this store
by_kind : (kind : StoreError) → fault_by_error (store_error kind) ≡ NotThisStore → ⊥
by_kind store.OutOfMemory e = cc
by_kind store.Io e = cc
by_kind store.Corrupt e = cc
by_kind store.Full e = cc
by_kind store.Broken e = cc
by_kind store.Unstorable e = cc

-- files that are to open are not refused as not this store
pub not_refused : (kind : StoreError) (old new : ℕ) (full wanted : Type 0) (error : Error) → FailsAs kind old new full wanted error
    → fault_by_error error ≡ NotThisStore → wanted → ⊥
not_refused kind old new full wanted error (inl is) e w =
    let it : fault_by_error (SqliteFailure OutOfMemory) ≡ NotThisStore = sym (ap fault_by_error is) ∙ e in cc
not_refused kind old new full wanted error (inr (inl (is, none))) e w = none w
not_refused kind old new full wanted error (inr (inr (inl (is, more)))) e w = by_kind kind (sym (ap fault_by_error is) ∙ e)
not_refused kind old new full wanted error (inr (inr (inr (is, at)))) e w =
    let it : fault_by_error (SqliteFailure DiskFull) ≡ NotThisStore = sym (ap fault_by_error is) ∙ e in cc
