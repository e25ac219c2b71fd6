use Rattle.std.proofs.Common.{◌≡◌, List, ℕ, Some, Option, IfOk, subst, ◌∙◌}
use Rattle.plant_books.specs.Contents.{part_in}
use Rattle.plant_store_reads.proofs.part.part_of.Goals as goal

pub returns-in-Some-clause-found : goal.returns-in-Some-clause-found
returns-in-Some-clause-found g c honest m k u named =
    let both : ◌≡◌ {A = Option (List ℕ)} (Some c.in-Some.unit.now) (Some u) = c.in-Some.ensures ∙ named in
    let same : c.in-Some.unit.now ≡ u = cc in
    subst (λ v. IfOk c.unit_part.result (λ part. part ≡ part_in m c.args.call.now v)) same (c.unit_part.ensures.found honest m k)
