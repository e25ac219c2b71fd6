-- A row that is removed and put as a new one is put over the one of its key.
use Rattle.std.specs.{Cmp.{IsTotalOrder}, Ordering.{eq_by_cmp}}
use Rattle.std.proofs.Common.{◌≡◌, Bool, true, false, cond, List, [], ◌∷◌, Option, None, Some, refl, sym, ap, ◌∙◌, subst, Ordering, Equal}
use Rattle.sqlite.specs.Effect.{Database}
use Rattle.plant_store_columns.specs.{Tables.{AreBooks, AreSeen, grant_shape, shelf_shape}, declared.tables.TableKind.TheVariants.{Grants, Shelves}}
use Rattle.plant_store_columns.proofs.public.{ShapeLaws.{good}, Shapes.{rises}}
use Rattle.plant_model.specs.declared.rows.{GrantRow.{GrantRow}, ShelfRow.{ShelfRow}, Key.TheVariants.{Grant as GrantKey, Shelf as ShelfKey}}
use Rattle.plant_model.specs.steps.RowFacts.{pair_of, shelf_tag}
use Rattle.plant_model.specs.declared.rows.{Row.TheVariants.{Grant as GrantPut, Shelf as ShelfPut}, RowEdit.TheVariants.{Put, Remove}}
use Rattle.plant_store_statements.{specs.Changes.{Applies}, proofs.public.Writes.{applies_then}}
use Rattle.plant_types.specs.{KeyedRows.{IsInOrder, put_row, remove_row, row_at}, Names.{Name, name_cmp}, Roles.{pair_cmp}}
use Rattle.plant_types.proofs.public.{KeyedRowLaws.{IsInOrder-put_row, IsInOrder-remove_row, row_at-put_row, row_at-remove_row, same_rows}, Orders.{name_total, pair_total, same_names, same_pairs}}

again : {K X : Type 0} (R : K → K → Ordering) (key : X → K) → IsTotalOrder R → ((x y : K) → R x y ≡ Equal → x ≡ y) → (x : X) (rows : List X)
    → IsInOrder R key rows
    → put_row R key x (remove_row R key (key x) rows) ≡ put_row R key x rows
again {K} {X} R key total same x rows up =
    same_rows R key total same _ _ (IsInOrder-put_row R key total same x _ (IsInOrder-remove_row R key total same (key x) rows up))
    (IsInOrder-put_row R key total same x rows up)
    (λ q. row_at-put_row R key total same q x (remove_row R key (key x) rows)
    ∙ ap (cond (eq_by_cmp R q (key x)) (Some x)) (row_at-remove_row R key total same q (key x) rows)
    ∙ by (eq_by_cmp R q (key x)) (row_at R key q rows) ∙ sym (row_at-put_row R key total same q x rows))
  where
    by : (b : Bool) (o : Option X) → cond b (Some x) (cond b None o) ≡ cond b (Some x) o
    by true o = refl
    by false o = refl

pub grant_again : (u : Name) (x : GrantRow) (a b c : Database) → AreBooks a → Applies u (Remove (GrantKey x.person x.role_no) ∷ []) a b
    → Applies u (Put (GrantPut x) ∷ []) b c → Applies u (Put (GrantPut x) ∷ []) a c
grant_again u x a b c books p q =
    let both = applies_then u (Remove (GrantKey x.person x.role_no) ∷ []) (Put (GrantPut x) ∷ []) a b c p q in
    record {
      books = both.books;
      mine = λ rows seen. subst (λ gs. AreSeen u c (record rows { grants = gs }))
          (again pair_cmp pair_of pair_total same_pairs x rows.grants
          (subst (IsInOrder pair_cmp pair_of) (seen Grants) (rises grant_shape (good Grants) u (a.trees 3) (books.tidy Grants))))
          (both.mine rows seen);
      others = both.others;
      office = both.office;
      database = both.database;
    }

pub shelf_again : (u : Name) (x : ShelfRow) (a b c : Database) → AreBooks a → Applies u (Remove (ShelfKey x.tag) ∷ []) a b
    → Applies u (Put (ShelfPut x) ∷ []) b c → Applies u (Put (ShelfPut x) ∷ []) a c
shelf_again u x a b c books p q =
    let both = applies_then u (Remove (ShelfKey x.tag) ∷ []) (Put (ShelfPut x) ∷ []) a b c p q in
    record {
      books = both.books;
      mine = λ rows seen. subst (λ ss. AreSeen u c (record rows { shelves = ss }))
          (again name_cmp shelf_tag name_total same_names x rows.shelves
          (subst (IsInOrder name_cmp shelf_tag) (seen Shelves) (rises shelf_shape (good Shelves) u (a.trees 7) (books.tidy Shelves))))
          (both.mine rows seen);
      others = both.others;
      office = both.office;
      database = both.database;
    }
