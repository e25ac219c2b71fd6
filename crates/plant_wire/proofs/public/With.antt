-- What the office did in one step after another, with the kinds of fault that it noted.
use Rattle.std.proofs.Common.{◌≡◌, ◌∙◌, ap, sym, ◌∷◌, []}
use Rattle.plant_model.specs.{Worlds.{World, IsLegalWorld}, declared.{call.Call.{Call}, reply.Answer.{Answer}}}
use Rattle.plant_books.specs.Contents.{Content}
use Rattle.plant_books.specs.declared.books.Books as books
use Rattle.plant_office.specs.{Answers.{CountsAnswer, IfSaid, OnFault}, Enduring.{EnduresSettled, books_state}, Faults.{noted}, Served.{Holds, IsServed}}
use Rattle.plant_office.{specs.declared.office.Office.{Office}, proofs.public.FaultLaws.{added_none, noted_then}}
use Rattle.plant_wire.specs.Over.{RanWith}
use Rattle.plant_wire.proofs.public.Running.{Joins, ran_joins, ran_none, ran_one}

module _ {B : Type 0} (b : books.Ghosts B) where
  pub with_none : (office : Office B) → RanWith b office office [] []
  with_none office = (ran_none (books_state b office.books) (b.stores office.books), sym (added_none office.faults))

  pub with_one : (before after : Office B) (call : Call) (answer : Answer)
      → ((m : Content) → b.represents before.books m → (w : World) → IsLegalWorld w → Holds m w → b.is_clean after.books
      → IfSaid answer (λ a. IsServed w call a (b.represents after.books)))
      → ((m : Content) → b.represents before.books m → OnFault answer (b.represents after.books m))
      → CountsAnswer (b.stores before.books) (b.stores after.books) answer
      → EnduresSettled call answer (books_state b before.books) (books_state b after.books)
      → after.faults ≡ noted before.faults (answer ∷ [])
      → RanWith b before after (call ∷ []) (answer ∷ [])
  with_one before after call answer served fault counts endured kinds = (
    ran_one (books_state b before.books) (books_state b after.books) (b.stores before.books) (b.stores after.books)
        call answer served fault counts endured,
    kinds,
  )

  pub with_joins : (before mid after : Office B) → Joins (RanWith b before mid) (RanWith b mid after) (RanWith b before after)
  with_joins before mid after = record {
    join = λ cs ds xs ys first second. (
      (ran_joins (books_state b before.books) (books_state b mid.books) (books_state b after.books) (b.stores before.books)
          (b.stores mid.books) (b.stores after.books)).join cs ds xs ys first.0 second.0,
      second.1 ∙ ap (λ faults. noted faults ys) first.1 ∙ noted_then before.faults xs ys,
    );
  }
