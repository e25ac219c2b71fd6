use Rattle.std.proofs.Common.{refl, sym, ap, subst, ◌∙◌, ◌≡◌, true, map}
use Rattle.clap.specs.{Faults.{fault_of, is_simple_and_free}, Kinds.{HasKind}, Simple.{App, is_simple, matches_of}}
use Rattle.plant_server_options.specs.CommandLines.{office}
use Rattle.plant_server_options.proofs.Read.{read_as, told_as}
use Rattle.plant_server_options.proofs.words.command_line_of.Goals as goal

office_is_simple : is_simple office ≡ true
office_is_simple = refl

office_is_free : is_simple_and_free office ≡ true
office_is_free = refl

pub returns-in-Ok-try_get_matches_from : goal.returns-in-Ok-try_get_matches_from
returns-in-Ok-try_get_matches_from g c =
    let words = map g.S.AsStr.text c.args.words.now in
    let same = c.in-Ok.ensures in
    read_as _ _ words
    (ap (λ (a : App). fault_of a words) (sym same) ∙ c.in-Ok-try_get_matches_from.ensures.kinds (ap is_simple_and_free same ∙ office_is_free))
    c.in-Ok-try_get_matches_from.matches
    ((c.in-Ok-try_get_matches_from.ensures.matches (ap is_simple same ∙ office_is_simple)).0 ∙ ap (λ (a : App). matches_of a words) same)
    c.asked_of.result c.asked_of.ensures.asked c.asked_of.ensures.refused

pub returns-in-Err : goal.returns-in-Err
returns-in-Err g c =
    let words = map g.S.AsStr.text c.args.words.now in
    let same = c.in-Ok.ensures in
    told_as _ _ words c.in-Err.error c.text_of.result c.text_of.ensures
    (subst (λ (a : App). HasKind (fault_of a words) c.in-Err.error) same
    (c.in-Err.ensures.kinds (ap is_simple_and_free same ∙ office_is_free)))
