use Rattle.std.proofs.Common.{◌∷◌, ◌++◌, []}
use Rattle.std.proofs.lemmas.Bool.Decides.{Decides-eqb}
use Rattle.std.proofs.lemmas.Slice.Eq.{strip_prefix_is, strip_suffix_is}
use Rattle.lq_text.proofs.AtomLemmas.{inside_found}
use Rattle.lq_text.proofs.atom.inside.Goals as goal

pub returns-in_err-strip_prefix : goal.returns-in_err-strip_prefix
returns-in_err-strip_prefix c =
    let front = strip_prefix_is Decides-eqb c.args.text.now c.args.front.now c.strip_prefix.result c.strip_prefix.ensures.cases in
    let none = rw c.in_err-strip_prefix.was at front in
    rw c.from_residual.ensures (λ inner. none (inner ++ (41 ∷ [])))

pub returns : goal.returns
returns c =
    let front = strip_prefix_is Decides-eqb c.args.text.now c.args.front.now c.strip_prefix.result c.strip_prefix.ensures.cases in
    let some = rw c.in_ok-strip_prefix.was at front in
    let back = strip_suffix_is Decides-eqb c.in_ok-strip_prefix.field-0.now (41 ∷ []) c.strip_suffix.result c.strip_suffix.ensures.cases in
    inside_found c.args.text.now c.args.front.now c.in_ok-strip_prefix.field-0.now c.strip_suffix.result some back
