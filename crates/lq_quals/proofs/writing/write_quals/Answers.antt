use Rattle.std.proofs.Common.{◌≡◌, ◌++◌, ◌∷◌, [], sym, ap, subst, ◌∙◌}
use Rattle.std.specs.List.{flat_map}
use Rattle.std.proofs.lemmas.List.{take_all}
use Rattle.lq_quals.specs.Quals.{IsQualsText}
use Rattle.lq_quals.specs.Writing.{qualifier_text, quals_text}
use Rattle.lq_quals.proofs.BackLemmas.{text_back}
use Rattle.lq_quals.proofs.writing.write_quals.Goals as goal

pub returns-clause-back : goal.returns-clause-back
returns-clause-back c =
    let quals = c.args.quals.now in
    let all = take_all c.loop-qualifier.qualifier-index c.as_slice-qualifier-items.result.now c.loop-qualifier-test.false ∙ c.as_slice-qualifier-items.ensures in
    let whole : c.loop-qualifier.out.items ≡ quals_text quals = c.loop-qualifier.invariant ∙ ap (flat_map (λ each. qualifier_text quals.atoms each ++ 10 ∷ [])) all in
    subst (λ text. IsQualsText text quals) (sym whole) (text_back c.requires.0 quals c.requires.1)
