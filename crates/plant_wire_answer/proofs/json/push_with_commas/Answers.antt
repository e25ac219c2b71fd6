use Rattle.plant_wire_answer.proofs.Joined.{adds_joined}
use Rattle.plant_wire_answer.proofs.json.push_with_commas.Goals as goal

pub returns-in_ok-push-in-len1-up-clause-value : goal.returns-in_ok-push-in-len1-up-clause-value
returns-in_ok-push-in-len1-up-clause-value g c =
    adds_joined 44 g.T.Json.json c.args.values.now c.first-item.result c.push_after_commas.result c.args.out.now.items c.push.new.out.items
    c.push_after_commas.new.out.items
    c.in-len1-up.len_at_least c.first-item.is c.in_ok-push-in-len1-up.ensures.value c.push_after_commas.ensures.value
