-- What DELETE and the statements that make the schema do to the trees, whatever the table.
use Rattle.std.specs.List.{AllByRecursion}
use Rattle.std.proofs.Common.{◌≡◌, ◌≢◌, ◌⊎◌, inl, inr, ℕ, List, [], ◌∷◌, slice_get, None, Some, Ok, Err, Result, refl, sym, ap, subst, ◌∙◌, flat_map, ◌++◌, false, filter_map}
use Rattle.sqlite_rules.specs.{Action.{works, work_for, Writes as Edits}, Calls.{ids_of}, Edit.{Edit, taken_by, Applies, without_all}}
use Rattle.sqlite_schema.specs.declared.schema.{Index.{Index}, Keys.{Keys}}
use Rattle.sqlite.specs.{Change.{created, indexed, next_tree, KeepsRows}, Command.TheVariants.{Delete, CreateTable, CreateIndex}}
use Rattle.sqlite.specs.{Compile.{table_defined_by, index_defined_by}, Does.{Tally, Does, OnRows, AtPlace, Defines, MakesIndex, lacks_sequence}}
use Rattle.sqlite.specs.{Edit.{edit_of}, Effect.{Database}, Listing.{understood}, Order.{Row}, Program.{overlay}, Query.{Query, IsAnswer}}
use Rattle.sqlite.specs.{Rowids.TheVariants.{Given}, Rows.{Written}, Schema.{Schema}, State.{State, mode_of, Writes, Executes}, Table.{Table}}
use Rattle.sqlite.{specs.Tree.{Trees}, proofs.Callers.{IsPlain, command_of, statement_of, runs_as, one_step}}
use Rattle.sqlite_value.specs.declared.value.Value.TheVariants.{Null}

-- a part that gave a value did not stop on the way
pub went : {B E R : Type 0} {b : B} {Stops : E → Type 0} → ((stop : E) × Stops stop × (Ok b ≡ Err stop)) ⊎ R → R
went (inl stopped) = absurd (let e = stopped.2 in cc)
went (inr on) = on

pub same_value : {B E : Type 0} {a b : B} → ◌≡◌ {A = Result B E} (Ok a) (Ok b) → a ≡ b
same_value e = cc

-- the rows of the other tables are as they were
abbrev pub KeepsOthers : Schema → ℕ → Trees → Trees → Type 0
KeepsOthers schema tree old new = AllByRecursion (λ t. t.tree ≢ tree → new t.tree ≡ old t.tree) schema.tables

-- no table refers to another
abbrev pub HasNoReferences : Schema → Type 0
HasNoReferences schema = AllByRecursion (λ t. t.references ≡ []) schema.tables

no_works : (schema : Schema) (keys : Keys) (tree : ℕ) (olds news : List Row) → HasNoReferences schema → works schema keys 0 tree olds news ≡ []
no_works schema keys tree olds news free = each schema.tables free
  where
    each : (ts : List Table) → AllByRecursion (λ t. t.references ≡ []) ts
        → flat_map (λ child. filter_map (work_for schema keys 0 tree olds news child) child.references) ts ≡ []
    each [] all = refl
    each (t ∷ ts) all =
        ap (λ rs. filter_map (work_for schema keys 0 tree olds news t) rs
        ++ flat_map (λ child. filter_map (work_for schema keys 0 tree olds news child) child.references) ts) all.0 ∙ each ts all.1

-- so a step on one table writes no other
pub lone_step : (schema : Schema) → HasNoReferences schema → (keys : Keys) (db next : Trees) (edit : Edit) → Edits schema keys db edit (Ok next)
    → Applies schema keys db edit next
lone_step schema free keys db next edit h =
    one_step schema keys db next edit (no_works schema keys edit.table.tree (taken_by db edit) edit.news free) h

-- the answer names the rowids that are taken out
pub record HasDeleted (schema : Schema) (table : Table) (q : Query) (params : Row) (old new : Database) : Type 0 where
  pub found : List Row
  pub answer : IsAnswer q (overlay old.trees []) params found
  pub rows : new.trees table.tree ≡ without_all (old.trees table.tree) (ids_of found)
  pub others : KeepsOthers schema table.tree old.trees new.trees
  pub same_schema : new.schema ≡ schema

pub deletes : (schema : Schema) → HasNoReferences schema → (text : List ℕ) (params : Row) (old new : State) (at : ℕ) (table : Table) (q : Query)
    → old.now.schema ≡ schema → slice_get schema.tables at ≡ Some table
    → command_of (understood schema text) ≡ Delete at (record { lets = []; body = q }) → IsPlain (understood schema text)
    → (count : ℕ) → Executes text params old new (Ok count) → HasDeleted schema table q params old.now new.now
deletes schema free text params old new at table q has listed is plain count h =
    let command = Delete at (record { lets = []; body = q }) in
    let db = old.now.trees in
    let w = runs_as text params old new schema has command is plain count h in
    let sql = statement_of text (understood schema text) in
    let does =
    subst (λ s. Does old.step_limit (mode_of old) params (record old.now { schema = s }) sql None command (Ok (w.tally, new.now))) has
    w.changed in
    let on = subst
    (λ o. AtPlace (λ t. OnRows (record {
      limit = old.step_limit;
      keys = (mode_of old).keys;
      schema = schema;
      table = t;
      params = params;
    }) (mode_of old) None command db) o (Ok (w.tally, new.now))) listed does in
    let done = went on in
    let now = ap (λ (p : Tally × Database). p.1) (same_value (went (went done.2).2).2) in
    let got = went done.1 in
    let written = went got.2 in
    let trees : done.0.trees ≡ written.0 = ap (λ (it : Written). it.trees) (same_value written.2) in
    let step = lone_step schema free (mode_of old).keys db written.0 (edit_of db table (ids_of got.0) Given 0 []) written.1 in
    let all : new.now.trees ≡ written.0 = ap (λ (d : Database). d.trees) now ∙ trees in
    record {
      found = got.0;
      answer = got.1.answer Null;
      rows = ap (λ (t : Trees). t table.tree) all ∙ step.rows;
      others = subst (KeepsOthers schema table.tree db) (sym all) step.tables;
      same_schema = ap (λ (d : Database). d.schema) now;
    }

-- ---- the schema is made, one statement after another

pub record HasCreated (tree : ℕ) (before after : Schema) (old new : Database) : Type 0 where
  pub schema : new.schema ≡ after
  pub empty : new.trees tree ≡ []
  pub kept : KeepsRows before.tables old.trees new.trees

pub creates : (text : List ℕ) (before after : Schema) (made : Table) (tree : ℕ) (old new : State) → old.now.schema ≡ before
    → command_of (understood before text) ≡ CreateTable → statement_of text (understood before text) ≡ text → IsPlain (understood before text)
    → table_defined_by text ≡ Ok made → created before made ≡ after → next_tree before ≡ tree → lacks_sequence after ≡ false
    → (count : ℕ) → Executes text [] old new (Ok count) → HasCreated tree before after old.now new.now
creates text before after made tree old new has is whole plain defined is_after at free count h =
    let w = subst (λ t. Writes old new None CreateTable t [] count) whole (runs_as text [] old new before has CreateTable is plain count h) in
    let all = went w.changed in
    let first = went all.1 in
    let it = first.1 in
    let both : Ok it.table ≡ Ok made = sym it.defined ∙ defined in
    let same : it.table ≡ made = cc in
    let schema : first.0.schema ≡ after = it.is ∙ ap (λ s. created s it.table) has ∙ ap (created before) same ∙ is_after in
    let none : lacks_sequence first.0.schema ≡ false = ap lacks_sequence schema ∙ free in
    let now : new.now ≡ first.0 = ap (λ (p : Tally × Database). p.1) (same_value all.2) ∙ same_value (rw none at first.2) in
    record {
      schema = ap (λ (d : Database). d.schema) now ∙ schema;
      empty = ap (λ (d : Database). d.trees tree) now
          ∙ subst (λ t. first.0.trees t ≡ []) at (subst (λ s. first.0.trees (next_tree s) ≡ []) has it.empty);
      kept = subst (λ (d : Database). KeepsRows before.tables old.now.trees d.trees) (sym now)
          (subst (λ s. KeepsRows s.tables old.now.trees first.0.trees) has it.others);
    }

pub record HasIndexed (before after : Schema) (old new : Database) : Type 0 where
  pub schema : new.schema ≡ after
  pub kept : KeepsRows before.tables old.trees new.trees

pub indexes : (text : List ℕ) (before after : Schema) (place : ℕ) (table : Table) (made : Index) (old new : State) → old.now.schema ≡ before
    → slice_get before.tables place ≡ Some table
    → command_of (understood before text) ≡ CreateIndex place → statement_of text (understood before text) ≡ text → IsPlain (understood before text)
    → index_defined_by table text ≡ Ok made → indexed before table made ≡ after
    → (count : ℕ) → Executes text [] old new (Ok count) → HasIndexed before after old.now new.now
indexes text before after place table made old new has listed is whole plain defined is_after count h =
    let w = subst (λ t. Writes old new None (CreateIndex place) t [] count) whole
    (runs_as text [] old new before has (CreateIndex place) is plain count h) in
    let does =
    subst (λ s. Does old.step_limit (mode_of old) [] (record old.now { schema = s }) text None (CreateIndex place) (Ok (w.tally, new.now))) has
    w.changed in
    let on = subst
    (λ o. AtPlace (λ t. Defines (mode_of old) (MakesIndex text (record { schema = before; trees = old.now.trees }) t)) o (Ok (w.tally, new.now)))
    listed does in
    let all = went on in
    let it = all.1 in
    let both : Ok it.index ≡ Ok made = sym it.defined ∙ defined in
    let same : it.index ≡ made = cc in
    let now : new.now ≡ all.0 = ap (λ (p : Tally × Database). p.1) (same_value all.2) in
    record {
      schema = ap (λ (d : Database). d.schema) now ∙ it.is ∙ ap (indexed before table) same ∙ is_after;
      kept = subst (λ (d : Database). KeepsRows before.tables old.now.trees d.trees) (sym now) it.rows;
    }
