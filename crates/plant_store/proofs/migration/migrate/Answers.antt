use Rattle.std.proofs.Common.{◌≡◌, rules, sym, subst}
use Rattle.sqlite.{specs.{Effect.{Database}, Held.{state}}, proofs.StateLemmas.{survives_weaker}}
use Rattle.plant_store_migration.specs.{OldTables.{AreOldBooks}, TakingOver.{AreTaken}, Upgrading.{HaveOldRows, IsCopyOf}}
use Rattle.plant_store_statements.proofs.public.{Crashes.{survives_unmade}, ReadsOnly.{reads_then}}
use Rattle.plant_store.proofs.migration.migrate.Goals.{in-Ok-true+in-Err-take_into_blank, in-Ok-false, in-Err}
use Rattle.plant_store.proofs.migration.migrate.Goals as goal

pub returns-in-Ok-clause-taken : goal.returns-in-Ok-clause-taken
returns-in-Ok-clause-taken g c m is honest had =
    let same = c.is_office_of.ensures.reads.same (c.take_into_blank.ensures.reads.honest honest) in
    rw c.of.ensures.same (c.in-Ok.ensures.taken honest m is (subst (HaveOldRows m) (sym same) had))

pub returns-in-Ok-clause-crash : goal.returns-in-Ok-clause-crash
returns-in-Ok-clause-crash g c =
    rw c.of.ensures.same (survives_weaker _ _ _ (AreTaken (state g.O.Store c.args.old) (state g.O.Store c.take_into_blank.new.from) c.args.admin)
    (λ _ db made honest books.
    let same = c.is_office_of.ensures.reads.same (c.take_into_blank.ensures.reads.honest honest) in
    subst (λ (it : Database). (d : Database) × (d.trees ≡ db) × IsCopyOf c.args.admin it.trees d) same
    (made honest (subst AreOldBooks (sym same) books)))
    c.take_into_blank.ensures.survives)

pub returns-clause-crash_unmade : goal.returns-clause-crash_unmade
returns-clause-crash_unmade g c = elim c.match-is_office_of.branch [
  | in-Ok-true+in-Err-take_into_blank w ↦
      rw (w.new-is, w.old-is) (survives_weaker _ _ _ (AreTaken (state g.O.Store c.args.old) (state g.O.Store w.take_into_blank.new.from) c.args.admin)
      (λ _ db made honest books.
      let same = c.is_office_of.ensures.reads.same (w.take_into_blank.ensures.reads.honest honest) in
      subst (λ (it : Database). (d : Database) × (d.trees ≡ db) × IsCopyOf c.args.admin it.trees d) same
      (made honest (subst AreOldBooks (sym same) books)))
      w.take_into_blank.ensures.survives)
  | in-Ok-false w ↦ rw w.new-is (survives_unmade _ _)
  | in-Err w ↦ rw w.new-is (survives_unmade _ _)
]

pub returns-clause-full : goal.returns-clause-full
returns-clause-full g c full honest own = elim c.match-is_office_of.branch [
  | in-Ok-true+in-Err-take_into_blank w ↦ let is = w.take_into_blank.ensures.full full in search rules
  | in-Ok-false w ↦
      let told = rw w.old-is at honest in
      let fits = (w.in-Ok-false.ensures.row told).1 own in
      search rules
  | in-Err w ↦ search rules
]

pub returns-in-Ok-clause-read : goal.returns-in-Ok-clause-read
returns-in-Ok-clause-read g c = reads_then c.is_office_of.ensures.reads c.take_into_blank.ensures.reads
