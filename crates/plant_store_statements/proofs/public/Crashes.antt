-- What a crash leaves of a transaction that is committed.
use Rattle.std.proofs.Common.{◌≡◌, List, inl, refl, sym, subst, arith, true, IsTrue}
use Rattle.sqlite.specs.{Effect.{Database, IsDatabase}, Held.{Held, state}, State.{HasCleanDisk, State, Survives}, Tree.{Trees}}
use Rattle.sqlite.proofs.{Callers.{survives_begin}, StateLemmas.{survives_then}}
use Rattle.sqlite_trees.specs.declared.store.Store.{Ghosts}
use Rattle.plant_store_columns.specs.Tables.{AreBooks}
use Rattle.plant_model.specs.declared.rows.RowEdit.{RowEdit}
use Rattle.plant_store_statements.specs.{Changes.{Applies, IsHonest}, Writing.{AreChanged, AreChangedHonestly}}
use Rattle.plant_types.specs.Names.{Name}

-- a transaction leaves what it commits, or what was left before
pub survives_whole : {S : Type 0} (g : Ghosts S) (old begun mid last : Held S) (Commits : Trees → Type 0)
    → begun ≡ record old { in_transaction = true }
    → Survives (state g begun) (state g mid) (λ _. ⊥) → (HasCleanDisk (state g mid) → Commits (state g mid).now.trees)
    → Survives (state g mid) (state g last) (λ db. db ≡ (state g mid).now.trees) → Survives (state g old) (state g last) Commits
survives_whole g old begun mid last Commits is inside made commit =
    survives_then (state g old) (state g mid) (state g last) (λ _. ⊥) (λ db. db ≡ (state g mid).now.trees) Commits
    (λ _ db none. absurd none) (λ clean db same. subst Commits (sym same) (made (omega (arith, commit.clean))))
    (survives_begin g old (state g mid) (λ _. ⊥) (rw is at inside)) commit

-- one that changes a unit's rows leaves them changed
pub survives_commit : {S : Type 0} (g : Ghosts S) (old begun mid last : Held S) (u : Name) (cs : List RowEdit)
    → begun ≡ record old { in_transaction = true }
    → Survives (state g begun) (state g mid) (λ _. ⊥)
    → (HasCleanDisk (state g mid) → AreBooks (state g begun).now → Applies u cs (state g begun).now (state g mid).now)
    → Survives (state g mid) (state g last) (λ db. db ≡ (state g mid).now.trees)
    → Survives (state g old) (state g last) (AreChanged (state g old) u cs)
survives_commit g old begun mid last u cs is inside made commit =
    let changed = rw is at made in
    survives_whole g old begun mid last (AreChanged (state g old) u cs) is inside
    (λ clean books database.
    let it = changed clean books in
    ((state g mid).now, refl, it.database database, it)) commit

-- what was not called leaves what it left
pub survives_unmade : (s : State) (Commits : Trees → Type 0) → Survives s s Commits
survives_unmade s Commits =
    record { clean = omega arith; shield = λ h. h; counts = omega arith; limit = refl; closes = λ _ up. inl up; crash = λ _ db may. inl may }

-- the same, after a step that left the database as it was and found the store open
pub survives_open : {S : Type 0} (g : Ghosts S) (old mid last : Held S) (u : Name) (cs : List RowEdit) → Survives (state g old) (state g mid) (λ _. ⊥)
    → (IsHonest (state g mid) → (state g mid).now ≡ (state g old).now)
    → (HasCleanDisk (state g mid) → IsTrue (state g old).is_open × IsTrue (state g mid).is_open × IsDatabase (state g old).now)
    → Survives (state g mid) (state g last) (AreChanged (state g mid) u cs)
    → Survives (state g old) (state g last) (AreChangedHonestly (state g old) u cs)
survives_open g old mid last u cs first same was second =
    survives_then (state g old) (state g mid) (state g last) (λ _. ⊥) (AreChanged (state g mid) u cs) (AreChangedHonestly (state g old) u cs)
    (λ _ db none. absurd none)
    (λ clean db made.
    let tidy : HasCleanDisk (state g mid) = omega (arith, clean, second.clean) in
    let before : HasCleanDisk (state g old) = omega (arith, tidy, first.clean) in
    let all = was tidy in
    let e = same (tidy, all.1) in (
      (before, all.0),
      all.2,
      λ books database.
          let it = made (subst AreBooks (sym e) books) (subst IsDatabase (sym e) database) in
          (it.0, it.1, it.2, subst (λ (d : Database). Applies u cs d it.0) e it.3),
    ))
    first second
