-- Rows of a unit taken over table by table.
use Rattle.std.proofs.Common.{List, ◌++◌, IsTrue, Ok, [], arith, map, subst, sym}
use Rattle.std.proofs.lemmas.List.{append-nil}
use Rattle.sqlite.specs.{Effect.{Database}, State.{HasCleanDisk, State}, Tree.{Trees}}
use Rattle.sqlite_keyed.proofs.ListLemmas.{map-map}
use Rattle.plant_store_columns.specs.Tables.{AreBooks}
use Rattle.plant_model.specs.declared.rows.RowEdit.{RowEdit}
use Rattle.plant_store_statements.specs.{Changes.{Applies, IsHonest}, OnlyReads.{OnlyReads}, StaysInside.{StaysInside}}
use Rattle.plant_store_migration.specs.OldTables.{AreOldBooks}
use Rattle.plant_store_statements.proofs.public.{ReadsOnly.{reads_then}, StepsInside.{stays_then}, Writes.{applies_then}}
use Rattle.plant_types.specs.Names.{Name}

-- these puts, of what the old tables have, were made of the unit's rows
pub record Took (u : Name) (puts : Trees → List RowEdit) (had has old new : State) : Type 0 where
  pub reads : OnlyReads had has
  pub stays : StaysInside {V = Unit {0}} (Ok tt) old new
  pub made : IsHonest has → AreOldBooks had.now → HasCleanDisk new → IsTrue old.in_transaction → AreBooks old.now
      → Applies u (puts had.now.trees) old.now new.now

pub took : {u : Name} (puts : Trees → List RowEdit) {had has old new : State} → OnlyReads had has → StaysInside {V = Unit {0}} (Ok tt) old new
    → (IsHonest has → AreOldBooks had.now → HasCleanDisk new → IsTrue old.in_transaction → AreBooks old.now
    → Applies u (puts had.now.trees) old.now new.now) → Took u puts had has old new
took puts reads stays made = record { reads = reads; stays = stays; made = made }

pub took_then : {u : Name} {p q : Trees → List RowEdit} {had mid has old between new : State} → Took u p had mid old between
    → Took u q mid has between new → Took u (λ trees. p trees ++ q trees) had has old new
took_then {u} {p} {q} {had} {mid} {has} {old} {between} {new} one two = record {
  reads = reads_then one.reads two.reads;
  stays = stays_then one.stays two.stays;
  made = λ honest old_books clean started books.
      let before = two.reads.honest honest in
      let is = one.reads.same before in
      let early : HasCleanDisk between = omega (arith, two.stays.survives.clean) in
      let first = one.made before old_books early started books in
      let second = two.made honest (subst AreOldBooks (sym is) old_books) clean (one.stays.inside early started) first.books in
      applies_then u (p had.now.trees)
      (q had.now.trees) old.now between.now new.now first (subst (λ (d : Database). Applies u (q d.trees) between.now new.now) is second);
}

-- rows that were put as what they become
pub took_as : {u : Name} {X Y : Type 0} (put : Y → RowEdit) (become : X → Y) (rows : Trees → List X) {had has old new : State} → OnlyReads had has
    → StaysInside {V = Unit {0}} (Ok tt) old new
    → (IsHonest has → AreOldBooks had.now → HasCleanDisk new → IsTrue old.in_transaction → AreBooks old.now
    → Applies u (map (λ r. put (become r)) (rows had.now.trees)) old.now new.now)
    → Took u (λ trees. map put (map become (rows trees))) had has old new
took_as {u} {X} {Y} put become rows {had} {has} {old} {new} reads stays made = took (λ trees. map put (map become (rows trees))) reads stays
    (λ honest old_books clean started books. subst (λ (cs : List RowEdit). Applies u cs old.now new.now)
    (sym (map-map put become (rows had.now.trees))) (made honest old_books clean started books))

pub took_last : {u : Name} {p : Trees → List RowEdit} {had has old new : State} → Took u p had has old new
    → Took u (λ trees. p trees ++ []) had has old new
took_last {u} {p} {had} {has} {old} {new} one = took (λ trees. p trees ++ []) one.reads one.stays
    (λ honest old_books clean started books. subst (λ (cs : List RowEdit). Applies u cs old.now new.now) (sym (append-nil (p had.now.trees)))
    (one.made honest old_books clean started books))
