use Rattle.std.proofs.Common.{◌≡◌, false, subst, sym}
use Rattle.plant_model.specs.{Verdicts.{changes_history}, declared.reply.Answer.{Answer}}
use Rattle.plant_office.specs.{Answers.{CountsAnswer, IfSaid, OnFault}, Served.{IsIsolated, IsServed}}
use Rattle.plant_office.proofs.Serving.{counts_if, fault_if, if_open, isolated_if, said_if}
use Rattle.plant_office.specs.Enduring.{Endures, books_state}
use Rattle.plant_office.proofs.office.Office.serve.Goals as goal

pub returns-clause-served : goal.returns-clause-served
returns-clause-served g c = λ m k w legal h tidy.
    subst (λ (a : Answer). IfSaid a (λ x. IsServed w c.args.call.now x (g.B.Books.represents c.serve_open-outcome.new.self.books)))
    (sym c.answer_of.ensures) (said_if c.serve_open-outcome.result _ (if_open c.serve_open-outcome.result _ _ c.serve_open-outcome.ensures.open
    (λ stands. c.serve_open-outcome.ensures.serves.served m k w legal h (stands tidy))))

pub returns-clause-isolated : goal.returns-clause-isolated
returns-clause-isolated g c = λ m k w v legal h admin e tidy.
    subst (λ (a : Answer). IfSaid a (λ x. IsIsolated v c.args.call.now x (g.B.Books.represents c.serve_open-outcome.new.self.books)))
    (sym c.answer_of.ensures)
    (isolated_if w v c.args.call.now _ _ (said_if c.serve_open-outcome.result _ (if_open c.serve_open-outcome.result _ _
    c.serve_open-outcome.ensures.open (λ stands. c.serve_open-outcome.ensures.serves.served m k w legal h (stands tidy)))) admin e)

pub returns-clause-unchanged : goal.returns-clause-unchanged
returns-clause-unchanged g c = λ m k.
    subst (λ (a : Answer). IfSaid a (λ x. changes_history x c.args.call.now ≡ false → g.B.Books.represents c.serve_open-outcome.new.self.books m))
    (sym c.answer_of.ensures) (said_if c.serve_open-outcome.result _ (c.serve_open-outcome.ensures.serves.unchanged m k))

pub returns-clause-fault : goal.returns-clause-fault
returns-clause-fault g c = λ m k.
    subst (λ (a : Answer). OnFault a (g.B.Books.represents c.serve_open-outcome.new.self.books m)) (sym c.answer_of.ensures)
    (fault_if c.serve_open-outcome.result _ (c.serve_open-outcome.ensures.serves.fault m k))

pub returns-clause-count : goal.returns-clause-count
returns-clause-count g c =
    subst (λ (a : Answer). CountsAnswer (g.B.Books.stores c.args.self.now.books) (g.B.Books.stores c.serve_open-outcome.new.self.books) a)
    (sym c.answer_of.ensures) (counts_if _ _ c.serve_open-outcome.result c.serve_open-outcome.ensures.serves.count)

pub returns-clause-endures : goal.returns-clause-endures
returns-clause-endures g c = record {
  endures =
      subst (λ (a : Answer). Endures c.args.call.now a (books_state g.B.Books c.args.self.now.books)
      (books_state g.B.Books c.serve_open-outcome.new.self.books)) (sym c.answer_of.ensures) c.serve_open-outcome.ensures.serves.endures;
  settled = c.settle.ensures.alike;
}
