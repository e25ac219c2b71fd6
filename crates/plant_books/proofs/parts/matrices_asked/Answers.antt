use Rattle.std.proofs.Common.{refl, ◌∙◌}
use Rattle.plant_books.proofs.PassingLaws.{passing_as}
use Rattle.plant_books.proofs.parts.matrices_asked.Goals as goal

pub returns-clause-value : goal.returns-clause-value
returns-clause-value c p = (
  c.in_ok-rows_of_numbers.ensures.value ∙ passing_as (λ r. c.in_ok-matrices.ensures.value c.args.rows.now refl r.matrix_no) c.args.rows.now.bands,
  c.in_ok-rows_of_numbers-2.ensures.value ∙ passing_as (λ r. c.in_ok-matrices.ensures.value c.args.rows.now refl r.matrix_no) c.args.rows.now.cells,
)
