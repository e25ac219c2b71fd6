-- What the texts of the two joins mean under the schema, found by running the resolver's meaning.
use Rattle.std.proofs.Common.{refl, List, ℕ, [], ◌∷◌, ◌++◌, drop, codes, map}
use Rattle.sqlite.specs.{Collation.TheVariants.{Binary}, Listing.{understood}, Query.{inner, left, end}, Term.{Term, col, op2}}
use Rattle.sqlite_sql.specs.declared.ops.{BinaryOp.TheVariants.{Compare}, CompareOp.TheVariants.{Eq}}
use Rattle.sqlite_tied.specs.Compute.{everything}
use Rattle.sqlite_value.specs.{Keys.{ascending}, declared.keys.Key.{Key}}
use Rattle.plant_store_columns.specs.{Kept.{plain_query}, Tables.{books_schema, grant_shape, shelf_shape}}
use Rattle.plant_store_statements.proofs.public.Meanings.{Asks, by_key, own_names, terms}
use Rattle.plant_store.specs.declared.texts.TheConstants.{SELECT_SHELF_LINES, SELECT_UNIT_LINES}

-- rows of a table beside the grants of a person in their unit, by the keys of both
abbrev pub joined_tests : List Term
joined_tests = op2 (Compare Eq Binary) (col 2 1) (col 1 1) ∷ op2 (Compare Eq Binary) (col 1 2) (col 0 0) ∷ []

abbrev pub joined_order : List ℕ → List (Term × Key)
joined_order keys = by_key grant_shape ++ map (λ n. (col 2 n, ascending Binary)) (1 ∷ keys)

abbrev pub grant_shows : List Term
grant_shows = col 1 1 ∷ col 1 3 ∷ col 1 4 ∷ []

abbrev pub grant_names : List (List ℕ)
grant_names = codes "unit" ∷ codes "role_no" ∷ codes "end_s" ∷ []

pub unit_lines : Asks books_schema SELECT_UNIT_LINES.now (plain_query (inner 3 (inner 1 end)) joined_tests (grant_shows ++ col 2 2 ∷ []) (joined_order []))
    (grant_names ++ codes "last_s" ∷ [])
unfolding understood everything
unit_lines = record { is = refl; unlisted = refl; plain = (refl, refl) }

-- the lines of one unit in no order
abbrev pub unit_order : List (Term × Key)
unit_order = (col 1 1, ascending Binary) ∷ []

-- a shelf's alarm
abbrev pub alarm_tests : List Term
alarm_tests = op2 (Compare Eq Binary) (col 3 1) (col 2 1) ∷ op2 (Compare Eq Binary) (col 3 2) (col 2 2) ∷ []

abbrev pub shelf_shows : List Term
shelf_shows = grant_shows ++ terms 2 2 (drop 1 shelf_shape.columns) ++ col 3 9 ∷ []

pub shelf_lines : Asks books_schema SELECT_SHELF_LINES.now (plain_query (inner 3 (inner 7 (left 5 alarm_tests end))) joined_tests shelf_shows unit_order)
    (grant_names ++ own_names shelf_shape ++ codes "return_s" ∷ [])
unfolding understood everything
shelf_lines = record { is = refl; unlisted = refl; plain = (refl, refl) }
