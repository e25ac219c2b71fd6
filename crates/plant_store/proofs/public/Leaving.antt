-- What a crash leaves of the tables.
use Rattle.std.specs.FinMap.{get}
use Rattle.std.proofs.Common.{◌≡◌, ◌⊎◌, inl, inr, true, false, IsTrue, List, OnOk, Result, ◌∷◌, [], Some, sym, ap, subst, ◌∙◌, arith, ℕ}
use Rattle.std.proofs.lemmas.Bool.{cases_Bool}
use Rattle.sqlite.specs.{Effect.{Database, IsDatabase}, Held.{Held, state}, State.{HasCleanDisk, IsLive, State, Survives}, Tree.{Trees}}
use Rattle.sqlite_trees.specs.declared.store.Store.{Ghosts}
use Rattle.plant_books.specs.{Contents.{Content, IsKnownTo, after_changes, rows_in}, Books.{LeavesUnchanged}, Counting.{Counts}, Crashes.{Alike, IsSettled, LosesNoPart}}
use Rattle.plant_store_columns.specs.{Tables.{office_row, rows_of_table, rows_seen}, declared.tables.TableKind.{TableKind, TheVariants.{Units, Grants, Alarms, Shelves, Bands, Cells, Events, Records, Changes}}}
use Rattle.plant_model.specs.declared.rows.{RowEdit.{RowEdit}, UnitRows.{UnitRows}}
use Rattle.plant_store_statements.specs.{Changes.{Applies, IsHonest}, Keeping.{HasContent, HaveRows, LeavesAlike, LeavesBooks, LeavesContent, Represents, has_any}, Reading.{IsOnlyRead, LeavesOpen}, Writing.{AreChangedHonestly}}
use Rattle.plant_store_statements.proofs.public.{Contents.{keeps_after, kept_rows, never_opened}, ReadsOnly.{keeps_read, reads_then}}
use Rattle.plant_store.{specs.Counting.{SaysAgain}, proofs.{Standings.{stays_open}, public.Databases.{same_database}}}
use Rattle.sqlite.specs.declared.error.Error.{Error}
use Rattle.plant_types.specs.{Names.{Name}, declared.fault.Fault.{Fault}}

-- ---- a database has the rows of one content

one_admin : (a b : Name) → office_row a ∷ [] ≡ office_row b ∷ [] → a ≡ b
one_admin a b same = cc

same_rows : (a b : UnitRows) → ((i : TableKind) → rows_of_table i a ≡ rows_of_table i b) → a ≡ b
same_rows a b same = λ k. record {
  units = same Units k;
  grants = same Grants k;
  alarms = same Alarms k;
  shelves = same Shelves k;
  bands = same Bands k;
  cells = same Cells k;
  events = same Events k;
  records = same Records k;
  changes = same Changes k;
}

-- a state that shows a database
abbrev showing : State → Database → State
showing s d = record s { now = d }

pub one_content : (s : State) (x m : Content) (d : Database) → HaveRows x d → HaveRows m d → Alike x m
one_content s x m d p q = record {
  admin = one_admin x.admin m.admin (sym p.office ∙ q.office);
  units = λ u. go u (cases_Bool (has_any (rows_seen u d.trees Units)));
}
  where
    rows : (u : Name) → rows_in x u ≡ rows_in m u
    rows u = same_rows (rows_in x u) (rows_in m u) (λ i. sym (p.seen u i) ∙ q.seen u i)

    go : (u : Name) → (has_any (rows_seen u d.trees Units) ≡ true) ⊎ (has_any (rows_seen u d.trees Units) ≡ false) → get x.units u ≡ get m.units u
    go u (inl there) = kept_rows (showing s d) x u p there ∙ ap (λ r. Some r) (rows u) ∙ sym (kept_rows (showing s d) m u q there)
    go u (inr none) = never_opened (showing s d) x u p none ∙ sym (never_opened (showing s d) m u q none)

-- ---- while the store is open, a crash leaves what the tables show

module _ (s : State) (law : (db : Trees) → s.may_leave db → db ≡ s.committed.trees) (settled : s.now ≡ s.committed) (live : IsDatabase s.now)
    (m : Content) (k : HaveRows m s.now) where
  shown_trees : (db : Trees) → s.may_leave db → db ≡ s.now.trees
  shown_trees db may = law db may ∙ ap (λ (d : Database). d.trees) (sym settled)

  pub settled_sound : LeavesBooks s
  settled_sound db may = (m, s.now, sym (shown_trees db may), record { database = live; rows = k })

  pub settled_alike : (x : Content) → LeavesContent s x → Alike x m
  settled_alike x (d, may, it) =
      let same : d ≡ s.now = same_database s.now d live it.database (shown_trees d.trees may) in
      one_content s x m s.now (subst (HaveRows x) same it.rows) k

-- ---- what was left before, and what a transaction commits

module _ (a b : State) where
  module _ (quiet : Survives a b (λ _. ⊥)) (clean : HasCleanDisk b) where
    pub fewer : (x : Content) → LeavesContent b x → LeavesContent a x
    fewer x (d, may, it) = elim (quiet.crash clean d.trees may) [ inl was ↦ (d, was, it) | inr new ↦ absurd new ]

    pub still_sound : LeavesBooks a → LeavesBooks b
    still_sound sound db may = elim (quiet.crash clean db may) [ inl was ↦ sound db was | inr new ↦ absurd new ]

  module _ (u : Name) (cs : List RowEdit) (made : Survives a b (AreChangedHonestly a u cs)) (clean : HasCleanDisk b) where
    changed_rows : (m : Content) → HaveRows m a.now → IsKnownTo m u cs → (d : Database) → Applies u cs a.now d → HaveRows (after_changes m u cs) d
    changed_rows m k known d it = keeps_after a (showing a d) m u cs k known it

    pub fewer_changed : (x : Content) → LeavesContent b x
        → LeavesContent a x ⊎ (IsHonest a × ((m : Content) → (IsHonest a → HasContent a m) → IsKnownTo m u cs → Alike x (after_changes m u cs)))
    fewer_changed x (d, may, it) = elim (made.crash clean d.trees may) [
      | inl was ↦ inl (d, was, it)
      | inr new ↦ inr (
        new.0,
        λ m held known.
            let k = held new.0 in
            let at = new.2 k.books new.1 in
            let same : d ≡ at.0 = same_database at.0 d at.2 it.database (sym at.1) in
            one_content a x (after_changes m u cs) at.0 (subst (HaveRows x) same it.rows) (changed_rows m k known at.0 at.3),
      )
    ]

    pub sound_changed : (m : Content) → (IsHonest a → HasContent a m) → (IsHonest a → IsKnownTo m u cs) → LeavesBooks a → LeavesBooks b
    sound_changed m held known sound db may = elim (made.crash clean db may) [
      | inl was ↦ sound db was
      | inr new ↦
          let k = held new.0 in
          let at = new.2 k.books new.1 in
          (after_changes m u cs, at.0, at.1, record { database = at.2; rows = changed_rows m k (known new.0) at.0 at.3 })
    ]

-- ---- as the keeper says it: a connection, the administrator's name and a count

module _ {S : Type 0} (g : Ghosts S) where
  abbrev Kept : Type 0
  Kept = (Held S × Name) × ℕ

  abbrev shown : Kept → State
  shown t = state g t.0.0

  abbrev holds : Kept → Content → Type 0
  holds t m = (t.0.1 ≡ m.admin) × Represents (shown t) m

  -- a question that only read, and what its result was then said to be
  pub leaves_unchanged : {A : Type 0} (a b : Kept) (m : Held S) (outcome : Result A Error) (said : Result A Fault) → b.0.1 ≡ a.0.1
      → IsOnlyRead g a.0.0 m → IsOnlyRead g m b.0.0 → LeavesOpen g a.0.0 m outcome → SaysAgain outcome said → OnOk said (b.0.0 ≡ m) → Counts a.1 b.1 said
      → LeavesUnchanged holds (λ t. IsHonest (shown t)) (λ t. HasCleanDisk (shown t)) (λ t. LeavesBooks (shown t)) (λ t m. LeavesContent (shown t) m)
      (λ t. t.1) a b said
  leaves_unchanged a b m outcome said admin first second stays again same count =
      let reads = reads_then first second in
      record {
        same = λ m held. (admin ∙ held.0, keeps_read m held.1 reads);
        honest = reads.honest;
        stays_open = λ was clean. stays_open g a.0.0 m b.0.0 outcome said again first stays same was clean;
        crash = record {
          clean = λ clean. let was : HasCleanDisk (shown a) = omega (arith, clean, reads.quiet.clean) in was;
          fewer = fewer (shown a) (shown b) reads.quiet;
          sound = still_sound (shown a) (shown b) reads.quiet;
        };
        count = count;
      }

  pub loses_no_part : (a b : Kept) (u : Name) (cs : List RowEdit) → Survives (shown a) (shown b) (AreChangedHonestly (shown a) u cs)
      → LosesNoPart holds (λ t. IsHonest (shown t)) (λ t. HasCleanDisk (shown t)) (λ t. LeavesBooks (shown t))
      (λ t m. LeavesContent (shown t) m) u cs a b
  loses_no_part a b u cs made = record {
    clean = λ clean. let was : HasCleanDisk (shown a) = omega (arith, clean, made.clean) in was;
    fewer = λ clean x l. elim (fewer_changed (shown a) (shown b) u cs made clean x l) [
      | inl was ↦ inl was
      | inr new ↦ inr (new.0, λ m held known. new.1 m held.1 known)
    ];
    sound = λ clean m held known. sound_changed (shown a) (shown b) u cs made clean m held.1 known;
  }

  pub is_settled : (t : Kept) → ((db : Trees) → IsTrue (shown t).is_open → (shown t).may_leave db → db ≡ (shown t).committed.trees)
      → (IsTrue (shown t).is_open → (shown t).now ≡ (shown t).committed) → IsLive (shown t)
      → IsSettled holds (λ t. IsHonest (shown t)) (λ t. HasCleanDisk (shown t)) (λ t. LeavesBooks (shown t)) (λ t m. LeavesContent (shown t) m) t
  is_settled t law settled live = record {
    sound = λ honest m held. settled_sound (shown t) (λ db. law db honest.1) (settled honest.1) (live honest.1).0 m (held.1 honest);
    alike = λ honest m held. settled_alike (shown t) (λ db. law db honest.1) (settled honest.1) (live honest.1).0 m (held.1 honest);
  }

-- books that were settled, and then read
pub settled_alike_read : (s t : State) → (IsTrue s.is_open → s.now ≡ s.committed) → IsLive s
    → ((db : Trees) → IsTrue s.is_open → s.may_leave db → db ≡ s.committed.trees) → Survives s t (λ _. ⊥)
    → (m : Content) → Represents s m → LeavesAlike s t m
settled_alike_read s t settled live law quiet m keeps clean opened =
    let early : HasCleanDisk s = omega (arith, clean, quiet.clean) in
    let up = opened early in
    let k = keeps (early, up) in
    let only = λ (db : Trees) (may : s.may_leave db). law db up may in
    let is = (live up).0 in (
      still_sound s t quiet clean (settled_sound s only (settled up) is m k),
      λ x l. settled_alike s only (settled up) is m k x (fewer s t quiet clean x l),
    )
