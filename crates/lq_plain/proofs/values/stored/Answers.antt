use Rattle.std.proofs.lemmas.Result.{IfOk-weaker}
use Rattle.lq_tree.specs.Seen.{seen}
use Rattle.lq_plain.specs.Flat.{type_of, flatten}
use Rattle.lq_plain.specs.SeenMade.{made_of}
use Rattle.lq_plain.specs.Sites.{env_of}
use Rattle.lq_plain.proofs.Wanted.{at_element, at_nothing}
use Rattle.lq_plain.proofs.values.stored.Goals as goal

pub returns-in_ok-value-in-Names : goal.returns-in_ok-value-in-Names
returns-in_ok-value-in-Names c =
    let env = env_of c.args.site in
    let at = c.args.site.at in
    IfOk-weaker c.stand.result _ _
    (λ v given. at_element env at (type_of env c.args.into.now) c.args.word.now (flatten env at c.args.into.now (made_of c.args.made.now)) c.in_ok-found.found c.in-Names.base c.in-Names.field c.in-Names.index c.in_ok-index-in-Names.index c.in_ok-value-in-Names.value (seen c.type_of.result) c.is_pure.result
    (made_of c.flatten.new.made) (made_of c.number_operand.new.made) (made_of c.flat_as.new.made) (made_of c.stand.new.self)
    c.in-Names.is c.in_ok-found.ensures c.is_pure.ensures c.in_ok-index-in-Names.ensures c.type_of.ensures c.in_ok-value-in-Names.ensures given)
    c.stand.ensures

pub returns-in_ok-value-in_default : goal.returns-in_ok-value-in_default
returns-in_ok-value-in_default c =
    let env = env_of c.args.site in
    let at = c.args.site.at in
    IfOk-weaker c.stand-in_default.result _ _
    (λ v given. at_nothing env at (type_of env c.args.into.now) c.args.word.now (flatten env at c.args.into.now (made_of c.args.made.now)) c.in_ok-found.found c.in_ok-atom-in_default.field-0 c.in_ok-value-in_default.value (seen c.type_of-in_default.result) (seen c.type_of-in_default-2.result)
    (made_of c.flatten.new.made) (made_of c.atom.new.made) (made_of c.flat_as-in_default.new.made) (made_of c.stand-in_default.new.self)
    c.in_default.not-Names c.in_ok-found.ensures c.type_of-in_default.ensures c.in_ok-atom-in_default.ensures c.type_of-in_default-2.ensures c.in_ok-value-in_default.ensures given)
    c.stand-in_default.ensures
