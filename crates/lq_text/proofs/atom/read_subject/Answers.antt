use Rattle.std.proofs.Common.{◌∷◌, [], ◌≢◌, rules}
use Rattle.std.specs.Prelude.{codes}
use Rattle.std.proofs.lemmas.Bool.Decides.{Decides-eqb}
use Rattle.std.proofs.lemmas.Slice.Eq.{strip_prefix_is}
use Rattle.lq_text.proofs.AtomLemmas.{field_read, placeholder_read, local_read}
use Rattle.lq_text.proofs.atom.read_subject.Goals as goal

pub returns-in-Some : goal.returns-in-Some
returns-in-Some c =
    let front = strip_prefix_is Decides-eqb c.args.text.now (46 ∷ []) c.strip_prefix.result c.strip_prefix.ensures.cases in
    field_read c.in-Some.field.now c.args.text.now c.in_ok-name.name c.map.result (rw c.in-Some.is at front) c.in_ok-name.ensures c.map.ensures.cases

pub returns-in-Some-strip_prefix : goal.returns-in-Some-strip_prefix
returns-in-Some-strip_prefix c =
    let front = strip_prefix_is Decides-eqb c.args.text.now (63 ∷ []) c.strip_prefix-2.result c.strip_prefix-2.ensures.cases in
    placeholder_read c.in-Some-strip_prefix.placeholder.now c.args.text.now c.in_ok-name-2.name c.map-in-Some-strip_prefix.result (rw c.in-Some-strip_prefix.is at front) c.in_ok-name-2.ensures c.map-in-Some-strip_prefix.ensures.cases

pub returns : goal.returns
returns c =
    let field = strip_prefix_is Decides-eqb c.args.text.now (46 ∷ []) c.strip_prefix.result c.strip_prefix.ensures.cases in
    let place = strip_prefix_is Decides-eqb c.args.text.now (63 ∷ []) c.strip_prefix-2.result c.strip_prefix-2.ensures.cases in
    let word : c.args.text.now ≢ codes "result" = search rules in
    local_read c.args.text.now c.in_ok-name-3.name c.map-2.result word (rw c.in_default.is at field) (rw c.in_default-strip_prefix.is at place) c.in_ok-name-3.ensures c.map-2.ensures.cases
