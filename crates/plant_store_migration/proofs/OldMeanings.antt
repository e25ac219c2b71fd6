-- What the texts that read a store of schema 1 mean there.
use Rattle.std.proofs.Common.{refl, List, ℕ, [], ◌∷◌, codes}
use Rattle.sqlite.specs.{Listing.{understood}, Query.{inner, end}, Term.{col}}
use Rattle.sqlite_tied.specs.Compute.{everything}
use Rattle.plant_store_columns.specs.{Kept.{plain_query}, declared.tables.TableKind.{TableKind, TheVariants.{Grants, Units}}}
use Rattle.plant_store_migration.specs.OldTables.{old_books_schema, old_shape, old_unit_shape}
use Rattle.plant_store_statements.specs.{Texts.{rows_text}, declared.texts.TheConstants.{SELECT_OLD_CODES, SELECT_OLD_GRANTS, SELECT_OLD_UNITS}}
use Rattle.plant_store_statements.proofs.public.Meanings.{Asks, Lists, by_key, by_unit}

pub asks_codes : Asks old_books_schema SELECT_OLD_CODES.now (plain_query (inner 1 end) [] (col 1 1 ∷ []) (by_key old_unit_shape)) (codes "unit" ∷ [])
unfolding understood everything
asks_codes = record { is = refl; unlisted = refl; plain = (refl, refl) }

-- two tables are read by texts of their own, the others by those of today
abbrev pub old_text : TableKind → List ℕ
old_text Units = SELECT_OLD_UNITS.now
old_text Grants = SELECT_OLD_GRANTS.now
old_text i = rows_text i

-- by running it for each table
pub lists_old : (i : TableKind) → Lists (old_shape i) old_books_schema (old_text i) by_unit
unfolding understood everything
lists_old Units = record { is = refl; unlisted = refl; plain = (refl, refl) }
lists_old i = record { is = refl; unlisted = refl; plain = (refl, refl) }
