-- What a store of schema 1 answers.
use Rattle.std.{specs.Ordering.{ordering_then}, proofs.Common.{◌≡◌, ℕ, true, List, [], ◌∷◌, drop, length, map, refl, sym, ap, ap₂, ◌∙◌}}
use Rattle.std.proofs.lemmas.Cmp.{nat_cmp_total}
use Rattle.sqlite.{specs.{Listing.{understood}, Schema.{Schema}, State.{CommitsShowing, State, Shown, Survives}}, proofs.Callers.{IsPlain}}
use Rattle.sqlite_value.{specs.{Order.{Row, bytes, column}, declared.value.Value.TheVariants.{Text}}, proofs.OrderLemmas.{value_cmp-Text}}
use Rattle.plant_store_columns.specs.{Shown.{columns}, Tables.{KeyOf}, declared.tables.TableKind.{TableKind, TheVariants.{Grants, Units}}}
use Rattle.plant_store_columns.proofs.public.{ShapeLaws.{cast_number, good, numbers, one, role_back}, Shapes.{IsShape, finds_rows}}
use Rattle.plant_store_migration.specs.OldTables.{AreOldBooks, OldRowOf, old_books_schema, old_grant_shape, old_rows, old_shape, old_unit_shape}
use Rattle.plant_store_migration.specs.{OldReading.{ReadsOld}, Upgrading.{old_codes}, declared.old_rows.CodeLine.{CodeLine}}
use Rattle.plant_store_statements.specs.{Changes.{IsHonest}, OnlyReads.{OnlyReads}, declared.texts.TheConstants.{SELECT_OLD_CODES}}
use Rattle.plant_store_statements.proofs.public.Meanings.{by_key}
use Rattle.plant_store_migration.proofs.OldMeanings.{lists_old, asks_codes, old_text}
use Rattle.plant_store_statements.proofs.public.{Queries.{one_test}, Reading.{reads_all, told}, ReadsOnly.{asks_nothing}}
use Rattle.plant_types.{specs.{Names.{Name}, Roles.{role_no}}, proofs.public.Orders.{pair_total}}

-- ---- the two tables of that schema alone

pub old_unit_good : IsShape old_unit_shape
old_unit_good = record {
  total = nat_cmp_total;
  back = λ id u x. refl;
  agrees = λ id jd u v x y. refl;
  keyed = λ id u x. (refl, tt);
  fits = λ u x i. Text u ∷ cast_number x.last_s i ∷ cast_number x.matrix_no i ∷ cast_number x.matrix_rev i ∷ [];
}

pub old_grant_good : IsShape old_grant_shape
old_grant_good = record {
  total = pair_total;
  back = λ id u x i. record { person = x.person; role_no = role_back x.role_no i };
  agrees = λ id jd u v x y. sym (ap₂ ordering_then (value_cmp-Text x.person y.person) (one (numbers (role_no x.role_no) (role_no y.role_no))));
  keyed = λ id u x. (refl, (refl, (refl, tt)));
  fits = λ u x i. Text u ∷ Text x.person ∷ cast_number (role_no x.role_no) i ∷ [];
}

pub old_good : (i : TableKind) → IsShape (old_shape i)
old_good Units = old_unit_good
old_good Grants = old_grant_good
old_good i = good i

-- ---- all rows of a unit, by computing for each table

pub old_read : (i : TableKind) (u : Name)
    → ReadsOld (length (drop 1 (old_shape i).columns)) (old_shape i).cells (λ trees. old_rows u trees i) (Text u ∷ []) (old_text i)
old_read Units u =
    reads_all OldRowOf KeyOf old_shape old_good old_books_schema Units _ (λ x. refl) _ (lists_old Units) u refl (λ r. one_test (column r 1) u)
    (λ id v x. refl)
old_read i u =
    reads_all OldRowOf KeyOf old_shape old_good old_books_schema i _ (λ x. refl) _ (lists_old i) u refl (λ r. one_test (column r 1) u)
    (λ id v x. refl)

-- ---- the codes of all units

code_back : Row → CodeLine
code_back r = record { unit = bytes (column r 0) }

pub old_codes_read : (old new : State) → AreOldBooks old.now → (rows : List Row) → Shown SELECT_OLD_CODES.now [] old new rows
    → (lines : List CodeLine) → map (columns 1) rows ≡ map (λ (l : CodeLine). Text l.unit ∷ []) lines
    → map (λ (l : CodeLine). l.unit) lines ≡ old_codes old.now.trees
unfolding code_back
old_codes_read old new books rows h lines said =
    let found =
    finds_rows old_unit_shape old_unit_good old_books_schema SELECT_OLD_CODES.now [] _ (by_key old_unit_shape) _ asks_codes.is asks_codes.unlisted
    asks_codes.plain [] refl (λ r. true) (λ r. refl)
    old new books.same_schema (books.tidy Units).apart rows h in
    ap (map (λ (l : CodeLine). l.unit)) (told (λ (l : CodeLine). Text l.unit ∷ []) code_back (λ l. refl) _ lines said)
    ∙ ap (λ rs. codes_in (map (columns 1) rs)) found ∙ again _
  where
    codes_in : List Row → List Name
    codes_in rs = map (λ (l : CodeLine). l.unit) (map code_back rs)

    again : (rs : List Row) → codes_in (map (columns 1) (map (λ r. column r 1 ∷ []) rs)) ≡ map (λ r. bytes (column r 1)) rs
    again [] = refl
    again (r ∷ rs) = ap (λ t. bytes (column r 1) ∷ t) (again rs)

-- a query that is plain over the tables of schema 1 only reads, whatever it reads
pub reads_plain_old : {before after : State} (text : List ℕ) → IsPlain (understood old_books_schema text)
    → (IsHonest after → (schema : Schema) → IsPlain (understood schema text) → after.now ≡ before.now)
    → (IsHonest after → IsHonest before) → (params : Row) → Survives before after (CommitsShowing text params before) → OnlyReads before after
reads_plain_old {before} {after} text plain same honest params shows =
    record {
      same = λ tell. same tell old_books_schema plain;
      honest = honest;
      quiet = asks_nothing old_books_schema text plain params before after shows;
    }
