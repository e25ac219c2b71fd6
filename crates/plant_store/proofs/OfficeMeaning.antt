-- What the question for the office's row means under any schema that has the table with its columns.
use Rattle.std.proofs.Common.{◌≡◌, ℕ, Bool, List, [], ◌∷◌, codes, cond, Some, None, Ok, Err, true, false, slice_get}
use Rattle.sqlite.specs.{Listing.{understood, reads_listing}, Query.{Query, inner, end}, Term.{col}}
use Rattle.sqlite_resolve.specs.{Compile.{compiled}, Scope.{Name}, declared.{compiled.Compiled.{Compiled}, error.CompileError.TheVariants.{Mismatch}}}
use Rattle.sqlite_schema.specs.{Names.{table_named, place_of}, declared.{command.Command.TheVariants.{Select}, program.Program.{Program}}}
use Rattle.sqlite_schema.specs.declared.schema.{Schema.{Schema}, Table.{Table}}
use Rattle.sqlite_typing.specs.Types.{accepts_program}
use Rattle.plant_store_columns.specs.Kept.{plain_query}
use Rattle.plant_store_statements.specs.declared.texts.TheConstants.{SELECT_OFFICE}
use Rattle.plant_store.proofs.{OfficeAsked.{asked}, ThreeColumns.{IsColumn, is_read}}
use Rattle.sqlite_resolve.specs.Compile as compile

module _ (schema : Schema) (k : ℕ) (t : Table) (named : table_named schema (codes "office") ≡ Some k) (is : slice_get schema.tables k ≡ Some t)
    (id : IsColumn t (codes "id")) (schema_no : IsColumn t (codes "schema_no")) (admin : IsColumn t (codes "admin")) where
  abbrev pub query : Query
  query = plain_query (inner t.tree end) [] (col 1 (place_of t id.at) ∷ col 1 (place_of t schema_no.at) ∷ col 1 (place_of t admin.at) ∷ []) []

  abbrev pub names : List Name
  names = id.column.name ∷ schema_no.column.name ∷ admin.column.name ∷ []

  abbrev pub program : Program
  program = record { lets = []; body = query }

  abbrev pub meant : Compiled
  meant = record {
    command = Select program names;
    returning = None;
    names = [];
    formats = [];
    start = asked.p.start;
    end = asked.p.end;
    tail = asked.p.tail;
  }

  reads : (b : Bool) → accepts_program schema [] query [] ≡ b → compile.read schema asked.s ≡ cond b (Ok (Select program names)) (Err Mismatch)
  reads = is_read schema (codes "office") k t named is (codes "id") (codes "schema_no") (codes "admin") asked.s asked.asks id schema_no admin

  compiles : (b : Bool) → accepts_program schema [] query [] ≡ b → compiled schema SELECT_OFFICE.now ≡ cond b (Ok meant) (Err Mismatch)
  unfolding compiled compile.planned compile.meaning compile.returning compile.command compile.timed
  compiles true h = rw (asked.is, asked.statement_is, asked.formats, asked.names, reads true h)
  compiles false h = rw (asked.is, asked.statement_is, asked.formats, asked.names, reads false h)

  pub is_understood : accepts_program schema [] query [] ≡ true
      → (understood schema SELECT_OFFICE.now ≡ Ok meant) × (reads_listing schema SELECT_OFFICE.now ≡ false)
  unfolding understood
  is_understood h = (rw (compiles true h), rw (compiles true h))

  pub is_refused : accepts_program schema [] query [] ≡ false → understood schema SELECT_OFFICE.now ≡ Err Mismatch
  unfolding understood
  is_refused h = rw (compiles false h)
