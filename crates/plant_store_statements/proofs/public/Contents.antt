-- What the tables have of units, and the content of the books.
use Rattle.std.specs.{Cmp.Lexicographic.{nat_list_cmp_total}, FinMap.{get, contains_key, get-empty, get-insert}}
use Rattle.std.proofs.Common.{◌≡◌, ◌≢◌, ◌⊎◌, inl, inr, Bool, true, false, cond, List, [], ◌∷◌, Option, None, Some, refl, sym, ap, ◌∙◌, option_map, subst, true≢false, unwrap_or, is_eq, is_some}
use Rattle.std.proofs.lemmas.Cmp.{tied_itself}
use Rattle.sqlite.specs.State.{State}
use Rattle.plant_books.specs.Contents.{Content, IsKnownTo, after_changes, no_units, rows_in, with_history_of, without_history}
use Rattle.plant_model.specs.steps.RowChanges.{changed, changed_by, no_rows, puts_unit}
use Rattle.plant_model.specs.declared.rows.{Key.TheVariants.{Grant as GrantKey}, Row.TheVariants.{Unit as UnitPut}}
use Rattle.plant_model.specs.declared.rows.{RowEdit.{RowEdit, TheVariants.{Put, Remove}}, UnitRows.{UnitRows}}
use Rattle.plant_types.{specs.Names.{Name, name_cmp, same_name}, proofs.public.{KeyedRowLaws.{tied}, Orders.{same_names}}}
use Rattle.plant_store_statements.specs.{Changes.{Applies, IsOfficeOf}, Keeping.{HasContent, has_any}, Making.{AreNew}}
use Rattle.plant_store_columns.specs.Shape.{rows_in as rows_of}
use Rattle.plant_store_columns.specs.{Tables.{AreBooks, AreSeen, rows_of_table, rows_seen, shape}, declared.tables.TableKind.{TableKind, TheVariants.{Units}}}

pub same_codes : (a b : Name) → same_name a b ≡ true → a ≡ b
same_codes a b h = same_names a b (tied _ _ h refl)

pub differs : (x u : Name) → same_name x u ≡ false → u ≢ x
differs x u h e = true≢false (sym (subst (λ y. same_name x y ≡ true) (sym e) (ap is_eq (tied_itself nat_list_cmp_total x))) ∙ h)

-- a unit that has its row keeps it, and one whose row is put has it
still_there : (cs : List RowEdit) (rows : UnitRows) → has_any rows.units ≡ true → has_any (changed_by cs rows).units ≡ true
still_there [] rows h = h
still_there (Put (UnitPut r) ∷ cs) rows h = still_there cs (changed (Put (UnitPut r)) rows) refl
still_there (Remove (GrantKey p r) ∷ cs) rows h = still_there cs (changed (Remove (GrantKey p r)) rows) h
still_there (c ∷ cs) rows h = still_there cs (changed c rows) h

comes_there : (cs : List RowEdit) (rows : UnitRows) → puts_unit cs ≡ true → has_any (changed_by cs rows).units ≡ true
comes_there [] rows h = absurd (true≢false (sym h))
comes_there (Put (UnitPut r) ∷ cs) rows h = still_there cs (changed (Put (UnitPut r)) rows) refl
comes_there (Remove (GrantKey p r) ∷ cs) rows h = comes_there cs (changed (Remove (GrantKey p r)) rows) h
comes_there (c ∷ cs) rows h = comes_there cs (changed c rows) h

-- the content after changes is what is kept after them
pub keeps_after : (old new : State) (m : Content) (u : Name) (cs : List RowEdit) → HasContent old m → IsKnownTo m u cs → Applies u cs old.now new.now
    → HasContent new (after_changes m u cs)
keeps_after old new m u cs k known it = record {
  books = it.books;
  office = it.office ∙ k.office;
  seen = λ q. subst (AreSeen q new.now) (sym (ap (λ o. unwrap_or o no_rows) (kept_at q))) (seen q (same_name q u) refl);
  opened = λ q. ap is_some (kept_at q) ∙ opened q (same_name q u) refl ∙ sym (ap (λ o. has_any (unwrap_or o no_rows).units) (kept_at q));
}
  where
    rows : UnitRows
    rows = changed_by cs (rows_in m u)

    kept_at : (q : Name) → get (after_changes m u cs).units q ≡ cond (same_name q u) (Some (changed_by cs (rows_in m u))) (get m.units q)
    kept_at q = get-insert nat_list_cmp_total m.units u (changed_by cs (rows_in m u)) q

    seen : (q : Name) (b : Bool) → same_name q u ≡ b
        → AreSeen q new.now (unwrap_or (cond b (Some (changed_by cs (rows_in m u))) (get m.units q)) no_rows)
    seen q true h = subst (λ x. AreSeen x new.now (changed_by cs (rows_in m u))) (sym (same_codes q u h)) (it.mine (rows_in m u) (k.seen u))
    seen q false h = λ i. it.others q (λ e. differs q u h (sym e)) i ∙ k.seen q i

    there : (contains_key m.units u ≡ true) ⊎ (puts_unit cs ≡ true) → has_any (changed_by cs (rows_in m u)).units ≡ true
    there (inl h) = still_there cs (rows_in m u) (sym (k.opened u) ∙ h)
    there (inr h) = comes_there cs (rows_in m u) h

    opened : (q : Name) (b : Bool) → same_name q u ≡ b
        → is_some (cond b (Some (changed_by cs (rows_in m u))) (get m.units q))
        ≡ has_any (unwrap_or (cond b (Some (changed_by cs (rows_in m u))) (get m.units q)) no_rows).units
    opened q true h = sym (there known)
    opened q false h = k.opened q

pub keeps_same : (old new : State) (m : Content) → HasContent old m → new.now ≡ old.now → HasContent new m
keeps_same old new m k same = record {
  books = subst AreBooks (sym same) k.books;
  office = subst (IsOfficeOf m.admin) (sym same) k.office;
  seen = λ u. subst (λ d. AreSeen u d (rows_in m u)) (sym same) (k.seen u);
  opened = k.opened;
}

-- ---- what is kept of one unit

some_rows : (o : Option UnitRows) → is_some o ≡ true → o ≡ Some (unwrap_or o no_rows)
some_rows None h = absurd (true≢false (sym h))
some_rows (Some rows) h = refl

pub no_some : (o : Option UnitRows) → is_some o ≡ false → o ≡ None
no_some None h = refl
no_some (Some rows) h = absurd (true≢false h)

module _ (s : State) (m : Content) (u : Name) (k : HasContent s m) where
  pub was_opened : contains_key m.units u ≡ has_any (rows_seen u s.now.trees Units)
  was_opened = k.opened u ∙ ap has_any (sym (k.seen u Units))

  -- a unit with a row of its own has these rows
  pub kept_rows : has_any (rows_seen u s.now.trees Units) ≡ true → get m.units u ≡ Some (rows_in m u)
  kept_rows h = some_rows (get m.units u) (was_opened ∙ h)

  pub never_opened : has_any (rows_seen u s.now.trees Units) ≡ false → get m.units u ≡ None
  never_opened h = no_some (get m.units u) (was_opened ∙ h)

pub any_is : {A : Type 0} (xs : List A)
    → Rattle.std.proofs.Common.not (Rattle.std.specs.Prelude.nat_eq (Rattle.std.proofs.Common.length xs) 0) ≡ has_any xs
any_is [] = refl
any_is (x ∷ xs) = ap Rattle.std.proofs.Common.not (Rattle.std.proofs.Math.Dec.eqb-suc-zero (Rattle.std.proofs.Common.length xs))

pub none_found : (s : State) (m : Content) (u : Name) → HasContent s m → (units : List Rattle.plant_model.specs.declared.rows.UnitRow.UnitRow)
    → units ≡ rows_seen u s.now.trees Units → has_any units ≡ false → ◌≡◌ {A = Option UnitRows} None (get m.units u)
none_found s m u k units is any = sym (never_opened s m u k (ap has_any (sym is) ∙ any))

-- rows but their history, with that history again
pub whole_again : (o : Option UnitRows) (rows : UnitRows) → Some rows ≡ option_map without_history o
    → Some (with_history_of (unwrap_or o no_rows) rows) ≡ o
whole_again None rows e = absurd (cc e)
whole_again (Some r) rows e =
    let same : rows ≡ without_history r = cc e in
    ap (λ (x : UnitRows). Some (with_history_of r x)) same

-- ---- new books

pub nothing_at : (i : TableKind) → [] ≡ rows_of_table i no_rows
nothing_at Units = refl
nothing_at i = refl

pub keeps_new : (s : State) (admin : Name) → AreNew admin s.now → HasContent s (no_units admin)
keeps_new s admin it = record {
  books = it.books;
  office = it.office;
  seen = λ u i. ap (rows_of (shape i) u) (it.empty i) ∙ nothing_at i ∙ sym (ap (λ o. rows_of_table i (unwrap_or o no_rows)) (get-empty name_cmp u));
  opened = λ u. ap is_some (get-empty name_cmp u) ∙ sym (ap (λ o. has_any (unwrap_or o no_rows).units) (get-empty name_cmp u));
}
