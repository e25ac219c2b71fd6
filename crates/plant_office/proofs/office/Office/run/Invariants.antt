use Rattle.std.proofs.Common.{◌≡◌, ◌+◌, ◌<◌, ◌≤◌, ◌^◌, length, take, vec_capacity}
use Rattle.plant_books.specs.Contents.{Content}
use Rattle.plant_model.specs.Worlds.{World, IsLegalWorld}
use Rattle.plant_office.specs.{Enduring.{EnduresAll, books_state}, Runs.{AllChangeNothing, EachKeepsUnchanged, IsRun, stores_in}, Served.{Holds}}
use Rattle.plant_office.proofs.office.Office.run.Given as goal

abbrev pub invariant-loop-call : goal.invariant-loop-call
invariant-loop-call g l =
    let represents = g.B.Books.represents in
    let is_honest = g.B.Books.is_honest in
    let is_clean = g.B.Books.is_clean in
    let stores = g.B.Books.stores in
    record {
      honest : is_honest l.self.books → is_honest l.fn.self.books;
      ran : (m : Content) → represents l.fn.self.books m → (w : World) → IsLegalWorld w → Holds m w → is_clean l.self.books
          → IsRun w (take l.call-index l.calls) l.answers.items (represents l.self.books);
      unchanged : (m : Content) → represents l.fn.self.books m → AllChangeNothing (take l.call-index l.calls) l.answers.items
          → represents l.self.books m;
      kept : EachKeepsUnchanged represents (take l.call-index l.calls) l.answers.items l.fn.self.books l.self.books;
      endures : EnduresAll (books_state g.B.Books l.fn.self.books) (books_state g.B.Books l.self.books) (take l.call-index l.calls) l.answers.items;
      long : length l.answers.items ≡ l.call-index;
      room : length l.calls ≤ vec_capacity l.answers;
      count : stores l.fn.self.books + length l.calls < 2 ^ 64 → stores l.self.books ≡ stores l.fn.self.books + stores_in l.answers.items;
    }
