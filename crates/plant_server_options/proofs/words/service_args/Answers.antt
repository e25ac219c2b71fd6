use Rattle.std.proofs.Common.{rules, ap₂, codes, refl, ◌∙◌, ◌≡◌}
use Rattle.std.proofs.lemmas.Result.{IfOk-weaker}
use Rattle.clap.specs.{Simple.{app_of, with_rule}, Walk.{rule_of}}
use Rattle.plant_server_options.specs.CommandLines.{forever_rule, number_rule}
use Rattle.plant_server_options.proofs.words.service_args.Goals as goal

pub returns : goal.returns
returns c =
    let port : rule_of c.number_arg.result ≡ number_rule (codes "port") 65535 = search rules in
    let connections : rule_of c.number_arg-2.result ≡ number_rule (codes "connections") 1000 = search rules in
    let clients : rule_of c.number_arg-3.result ≡ number_rule (codes "clients") 1000 = search rules in
    let idle : rule_of c.number_arg-4.result ≡ number_rule (codes "idle") 3600 = search rules in
    let first = c.in_ok-arg.ensures.shape c.number_arg.ensures.local ∙ ap₂ with_rule refl port in
    let second = c.in_ok-arg-2.ensures.shape c.number_arg-2.ensures.local ∙ ap₂ with_rule first connections in
    let third = c.in_ok-command.ensures.shape c.number_arg-3.ensures.local ∙ ap₂ with_rule second clients in
    let fourth = c.in_ok-arg-3.ensures.shape c.forever_arg.ensures.local ∙ ap₂ with_rule third c.forever_arg.ensures.rule in
    IfOk-weaker c.arg-5.result _ _ (λ r it. it.shape c.number_arg-4.ensures.local ∙ ap₂ with_rule fourth idle) c.arg-5.ensures
