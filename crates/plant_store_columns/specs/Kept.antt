-- Rows in the order of their keys. `cmp` compares keys, so rows that compare as equal have the same key.
use Rattle.std.specs.{Ordering.{is_eq, then_cmp, on}, Prelude.{ℕ, Bool, not, List, [], ◌∷◌, filter, None, false, pos, negsuc}}
use Rattle.std.specs.declared.cmp.Ordering.{Ordering, TheVariants.{Equal}}
use Rattle.sqlite_value.specs.{Order.{Row, column, value_cmp}, declared.{keys.Key.{Key}, value.Value.TheVariants.{Int, Text}}}
use Rattle.sqlite.specs.{Query.{Query, Join}, Term.{Term, lit}}
use Rattle.sqlite_keyed.specs.Lists.{insert_sorted, sort_by}

module _ {X : Type 0} (cmp : X → X → Ordering) where
  -- the rows without the one that has this key
  abbrev pub taken_out : X → List X → List X
  taken_out x rows = filter (λ y. not (is_eq (cmp x y))) rows

  -- the rows with this one in its place, and in place of the one that has its key
  abbrev pub put_in : X → List X → List X
  put_in x rows = insert_sorted cmp x (taken_out x rows)

  -- those that pass the test, in the order of their keys
  abbrev pub kept : (X → Bool) → List X → List X
  kept p rows = sort_by cmp (filter p rows)

-- by the columns at these places, in turn
abbrev pub by_columns : List ℕ → Row → Row → Ordering
by_columns [] = λ a b. Equal
by_columns (k ∷ ks) = then_cmp (on (λ r. column r k) value_cmp) (by_columns ks)

-- the rows of a unit, whose code is in the first column
abbrev pub is_of : List ℕ → Row → Bool
is_of unit r = is_eq (value_cmp (column r 1) (Text unit))

-- a query with no group, no DISTINCT and no LIMIT
abbrev pub plain_query : Join → List Term → List Term → List (Term × Key) → Query
plain_query from tests project order = record {
  from = from;
  filter = tests;
  group = None;
  project = project;
  distinct = false;
  collations = [];
  order = order;
  limit = lit (Int (negsuc 0));
  offset = lit (Int (pos 0));
}
