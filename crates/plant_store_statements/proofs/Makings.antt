-- The statements that make the tables.
use Rattle.std.specs.List.{AllByRecursion}
use Rattle.std.proofs.Common.{◌≡◌, ℕ, pos, List, [], ◌∷◌, ◌++◌, Ok, None, refl, sym, ap, ◌∙◌, subst, false, ◌-◌}
use Rattle.sqlite.specs.{Change.{next_tree, KeepsRows}, Command.TheVariants.{Insert}, Does.{Does, Tally, lacks_sequence}, Edit.{edit_of, edited}}
use Rattle.sqlite.specs.{Effect.{Database}, Listing.{understood}, Rowids.TheVariants.{Chosen}, Rows.{Written}, Schema.{Schema}}
use Rattle.sqlite.specs.{Source.TheVariants.{Values}, State.{Executes, State, mode_of}, Table.{Table}, Tree.{Trees}}
use Rattle.sqlite.proofs.Callers.{runs_as, statement_of}
use Rattle.sqlite_keyed.proofs.ListLemmas.{all-append}
use Rattle.sqlite_trees.proofs.ListLemmas.{all-slice_get}
use Rattle.sqlite_value.specs.{Order.{Row}, declared.value.Value.TheVariants.{Int, Null, Text}}
use Rattle.plant_store_columns.specs.{Shape.{IsRowIn, table_in}, declared.tables.TableKind.{TableKind, TheVariants.{Units}}}
use Rattle.plant_store_columns.specs.Tables.{books_schema, grant_shape, no_schema, office_row, office_table, schema_with, shape, table_count, unit_shape}
use Rattle.plant_store_columns.{specs.Tidy.{IsTidy}, proofs.public.{Changes.{KeepsOthers, creates, indexes, lone_step, same_value, went}, Family.{kept_at}}}
use Rattle.plant_store_columns.proofs.public.{Laws.{cast_int, cast_null}, ShapeLaws.{all_listed}}
use Rattle.plant_store_statements.specs.{Making.{AreEmpty, AreNew}, Texts.{table_text}, declared.texts.TheConstants.{CREATE_GRANTS_BY_PERSON, CREATE_OFFICE, INSERT_OFFICE}}
use Rattle.plant_store_statements.proofs.public.Meanings.{Makes, by_person_created, by_person_made, by_person_means, by_person_whole, makes_office as office_means, makes_table, put_office}
use Rattle.plant_store_statements.proofs.public.Writes.{free, office_apart}

still_empty : (ts : List Table) (old new : Trees) → KeepsRows ts old new → AllByRecursion (λ t. old t.tree ≡ []) ts
    → AllByRecursion (λ t. new t.tree ≡ []) ts
still_empty [] old new kept none = tt
still_empty (t ∷ ts) old new kept none = (kept.0 ∙ none.0, still_empty ts old new kept.1 none.1)

makes : (before : Schema) (text : List ℕ) (made : Table) (after : Schema) → Makes before text made after → (last : Table)
    → after.tables ≡ before.tables ++ last ∷ [] → next_tree before ≡ last.tree → lacks_sequence after ≡ false
    → (old new : State) → AreEmpty before old.now → (count : ℕ) → Executes text [] old new (Ok count) → AreEmpty after new.now
makes before text made after it last more at free_ old new has count h =
    let done =
    creates text before after made last.tree old new has.same_schema it.means.is it.whole it.means.plain it.defines it.leaves at free_ count h in
    record {
      same_schema = done.schema;
      empty = subst (AllByRecursion (λ t. new.now.trees t.tree ≡ [])) (sym more)
          (all-append (λ t. new.now.trees t.tree ≡ []) before.tables (last
          ∷ []) (still_empty before.tables old.now.trees new.now.trees done.kept has.empty) (done.empty, tt));
    }

pub makes_office : (old new : State) → AreEmpty no_schema old.now → (count : ℕ) → Executes CREATE_OFFICE.now [] old new (Ok count)
    → AreEmpty (schema_with 0) new.now
makes_office = makes _ _ _ _ office_means office_table refl refl refl

-- by computing, for each table
pub makes_each : (i : TableKind) (old new : State) → AreEmpty (schema_with ((shape i).place - 1)) old.now → (count : ℕ)
    → Executes (table_text i) [] old new (Ok count) → AreEmpty (schema_with (shape i).place) new.now
makes_each Units = makes _ _ _ _ (makes_table Units) (table_in unit_shape) refl refl refl
makes_each i = makes _ _ _ _ (makes_table i) (table_in (shape i)) refl refl refl

pub makes_index : (old new : State) → AreEmpty (schema_with table_count) old.now → (count : ℕ) → Executes CREATE_GRANTS_BY_PERSON.now [] old new (Ok count)
    → AreEmpty books_schema new.now
makes_index old new has count h =
    let it = indexes CREATE_GRANTS_BY_PERSON.now (schema_with table_count) books_schema 2 (table_in grant_shape) _ old new has.same_schema refl by_person_means.is
    by_person_whole by_person_means.plain by_person_made by_person_created count h in
    record { same_schema = it.schema; empty = still_empty (schema_with table_count).tables old.now.trees new.now.trees it.kept has.empty }

-- ---- the office's row

tidy_none : (Wf : Row → Type 0) (key : List ℕ) → IsTidy Wf key []
tidy_none Wf key = record { are = record { rise = tt; ints = tt }; each = tt; apart = tt }

empty_at : (i : TableKind) (db : Database) → AreEmpty books_schema db → db.trees (shape i).tree ≡ []
empty_at i db h = all-slice_get (λ t. db.trees t.tree ≡ []) books_schema.tables (shape i).place (table_in (shape i)) (all_listed.at i) h.empty

pub makes_new : (admin : List ℕ) (old new : State) → AreEmpty books_schema old.now → (count : ℕ)
    → Executes INSERT_OFFICE.now (Text admin ∷ []) old new (Ok count) → AreNew admin new.now
makes_new admin old new has count h =
    let params : Row = Text admin ∷ [] in
    let db = old.now.trees in
    let command =
    Insert 0 (Values (Rattle.sqlite.specs.Term.lit (Int (pos 1)) ∷ Rattle.sqlite.specs.Term.lit Null ∷ Rattle.sqlite.specs.Term.lit (Int (pos 2))
    ∷ Rattle.sqlite.specs.Term.col 0 0 ∷ []) 4) in
    let w = runs_as INSERT_OFFICE.now params old new books_schema has.same_schema command put_office.is put_office.plain count h in
    let text = statement_of INSERT_OFFICE.now (understood books_schema INSERT_OFFICE.now) in
    let done =
    went (subst (λ s. Does old.step_limit (mode_of old) params (record old.now { schema = s }) text None command (Ok (w.tally, new.now)))
    has.same_schema w.changed) in
    let now : new.now ≡ record { schema = books_schema; trees = done.0.trees } =
    ap (λ (p : Tally × Database). p.1) (same_value (went (went done.2).2).2) in
    let given = went done.1 in
    let written = went (went given.2).2 in
    let counted = went written.2 in
    let trees : done.0.trees ≡ written.0 = ap (λ (it : Written). it.trees) (same_value counted.2) ∙ same_value counted.1 in
    let step = lone_step books_schema free _ db written.0 (edit_of db office_table [] Chosen 0 given.0) written.1 in
    let edit : edited db (edit_of db office_table [] Chosen 0 given.0) ≡ office_row admin ∷ [] =
    ap (λ all. edited db (edit_of db office_table [] Chosen 0 all)) given.1.1 ∙ rw (has.empty.0, cast_int (pos 1), cast_null, cast_int (pos 2)) in
    let all : new.now.trees ≡ written.0 = ap (λ (d : Database). d.trees) now ∙ trees in
    let kept : KeepsOthers books_schema 0 db new.now.trees = subst (KeepsOthers books_schema 0 db) (sym all) step.tables in
    let none : (i : TableKind)
    → new.now.trees (shape i).tree ≡ [] =
    λ i. kept_at books_schema 0 db new.now.trees kept (shape i).place (table_in (shape i)) (all_listed.at i) (λ e. office_apart i (sym e))
    ∙ empty_at i old.now has in
    record {
      books = record {
        same_schema = ap (λ (d : Database). d.schema) now;
        tidy = λ i. subst (IsTidy (IsRowIn (shape i)) (1 ∷ (shape i).keys)) (sym (none i)) (tidy_none (IsRowIn (shape i)) (1 ∷ (shape i).keys));
      };
      office = ap (λ (t : Trees). t 0) all ∙ step.rows ∙ edit;
      empty = none;
      database = w.sound;
    }
