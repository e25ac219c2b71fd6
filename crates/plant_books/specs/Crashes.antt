-- What the contracts of the trait `Books` state about a crash: what the next opening may find after it.
use Rattle.std.specs.{FinMap.{get}, Prelude.{List, ◌≡◌, ◌⊎◌}}
use Rattle.plant_books.specs.Contents.{Content, IsKnownTo, after_changes}
use Rattle.plant_model.specs.declared.rows.RowEdit.{RowEdit}
use Rattle.plant_types.specs.Names.{Name}

-- two contents are alike: the same administrator, and the same rows of each unit, so every call has the same answer
pub record Alike (x m : Content) : Type 0 where
  pub admin : x.admin ≡ m.admin
  pub units : (u : Name) → get x.units u ≡ get m.units u

module _ {B : Type 0} (represents : B → Content → Type 0) (is_honest is_clean leaves_books : B → Type 0)
    (may_leave : B → Content → Type 0) where
  -- while the store is open a crash leaves books that are alike to what these hold
  pub record IsSettled (books : B) : Type 0 where
    pub sound : is_honest books → (m : Content) → represents books m → leaves_books books
    pub alike : is_honest books → (m : Content) → represents books m → (x : Content) → may_leave books x → Alike x m

  -- a crash leaves what it left before
  pub record LosesNothing (before after : B) : Type 0 where
    pub clean : is_clean after → is_clean before
    pub fewer : is_clean after → (x : Content) → may_leave after x → may_leave before x
    pub sound : is_clean after → leaves_books before → leaves_books after

  -- a crash leaves what it left before, or all these changes: the latter only if the store was open
  pub record LosesNoPart (u : Name) (cs : List RowEdit) (before after : B) : Type 0 where
    pub clean : is_clean after → is_clean before
    pub fewer : is_clean after → (x : Content) → may_leave after x
        → may_leave before x
        ⊎ (is_honest before × ((m : Content) → represents before m → IsKnownTo m u cs → Alike x (after_changes m u cs)))
    pub sound : is_clean after → (m : Content) → represents before m → (is_honest before → IsKnownTo m u cs)
        → leaves_books before → leaves_books after
