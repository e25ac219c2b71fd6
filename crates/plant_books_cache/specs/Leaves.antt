-- What reading leaves of the books and of the cached copies.
use Rattle.std.specs.Prelude.{IfOk, Result}
use Rattle.plant_books.specs.Crashes.{LosesNothing}
use Rattle.plant_books.specs.{Books.{StaysHonest}, Contents.{Content}, Counting.{Counts}, declared.books.Books.{Ghosts}}
use Rattle.plant_books_cache.specs.{Cache.{IsCached}, declared.cached_books.CachedBooks.{CachedBooks}}
use Rattle.plant_types.specs.declared.fault.Fault.{Fault}

-- reading changes nothing: books and copies hold the same content, the keeper's premise held before, the fault Store is
-- counted, and a store that was open is open after a success
pub record Leaves {B A : Type 0} (books : Ghosts B) (said : Result A Fault) (before after : CachedBooks B) : Type 0 where
  pub same : (m : Content)
      → IsCached (books.represents before.books) (books.is_honest before.books) before.copies.units.entries m
      → IsCached (books.represents after.books) (books.is_honest after.books) after.copies.units.entries m
  pub honest : books.is_honest after.books → books.is_honest before.books
  pub stays_open : StaysHonest books.is_honest books.is_clean before.books after.books said
  pub count : Counts (books.stores before.books) (books.stores after.books) said
  pub crash : LosesNothing books.represents books.is_honest books.is_clean books.leaves_books books.may_leave
      before.books after.books

-- the books hold the content, and the cached copies are true copies of it
abbrev pub Caches : {B : Type 0} → Ghosts B → CachedBooks B → Content → Type 0
Caches books m content = IsCached (books.represents m.books) (books.is_honest m.books) m.copies.units.entries content

-- the result is right for every content that the books held
abbrev pub AnswersOf : {B A : Type 0} → Ghosts B → CachedBooks B → CachedBooks B → Result A Fault → (Content → A → Type 0)
    → Type 0
AnswersOf books before after said what = (m : Content) → books.represents before.books m → books.is_honest after.books
    → IfOk said (what m)
