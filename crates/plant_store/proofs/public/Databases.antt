-- The trees of a database determine its schema.
use Rattle.std.proofs.Common.{◌≡◌, sym, subst}
use Rattle.sqlite.specs.{Effect.{Database, IsDatabase}, Tree.{Trees}}
use Rattle.sqlite_catalog.{specs.Listing.{Lists}, proofs.ReadLemmas.{lists_once}}
use Rattle.sqlite_trees.specs.Objects.{catalog_tree}

same_schema : (a b : Database) → IsDatabase a → IsDatabase b → a.trees ≡ b.trees → a.schema ≡ b.schema
same_schema a b p q same = lists_once _ a.schema b.schema p.lists (subst (λ (t : Trees). Lists (t catalog_tree) b.schema) (sym same) q.lists)

pub same_database : (a b : Database) → IsDatabase a → IsDatabase b → b.trees ≡ a.trees → b ≡ a
same_database a b p q same = λ i. record { schema = same_schema b a q p same i; trees = same i }
