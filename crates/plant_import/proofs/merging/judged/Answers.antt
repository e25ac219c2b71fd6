use Rattle.std.proofs.{Common.{◌≡◌, rules, sym, ◌∙◌, subst, Bool, Result, nat_lt}, lemmas.Bool.{ltb-false}}
use Rattle.plant_import.{specs.{Relation.{JudgesRow}, declared.bad_file.Cause.{Cause}}, proofs.Merges.{judged_so}}
use Rattle.plant_import.proofs.merging.judged.Goals as goal

pub returns : goal.returns
returns c tags known kept seen rises near =
    let less : c.lt.result ≡ nat_lt c.args.now c.args.event.now.moment = search rules in
    subst (λ (r : Result Bool Cause). JudgesRow tags c.args.now c.args.kept.now seen c.args.event.now r) (sym c.joined.ensures)
    (judged_so tags c.args.now c.args.kept.now seen c.args.event.now (sym known ∙ search rules) (ltb-false _ _ (sym less ∙ c.if-lt.false)) c.relation_of.result c.relation_of-2.result
    (c.relation_of.ensures c.args.kept.now kept c.nearest_among.ensures) (c.relation_of-2.ensures seen rises near))
