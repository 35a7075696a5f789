use Rattle.std.proofs.Common.{sym, ap, ◌∙◌, ◌∷◌, ◌++◌, []}
use Rattle.std.specs.List.{list_any}
use Rattle.std.proofs.lemmas.Result.{IfOk-equal}
use Rattle.lq_quals.specs.Collect.{same_atom}
use Rattle.lq_quals.proofs.CollectLemmas.{atom_among, atom_gone, atom_added}
use Rattle.lq_quals.proofs.collect.number_atom.Goals as goal
use Rattle.lq_quals.proofs.collect.number_atom.Goals.{then-is_among-via-then-is_among, then-is_among-via-else-is_among+in_ok-stays+then-not-branch}

pub returns-then-is_among : goal.returns-then-is_among
returns-then-is_among c =
    let among = ap (list_any (λ other. same_atom c.in-Some.atom other)) (sym c.as_slice.ensures) ∙ sym c.is_among.ensures in
    elim c.then-is_among.branch [
      | then-is_among-via-then-is_among w ↦ atom_among c.args.addends.now c.args.atoms.now c.args.addend.now.atom c.in-Some.atom c.in-Some.is (among ∙ w.if-is_among.true)
      | then-is_among-via-else-is_among+in_ok-stays+then-not-branch w ↦
          atom_gone c.args.addends.now c.args.atoms.now c.args.addend.now.atom c.in-Some.atom c.in-Some.is (among ∙ w.if-is_among.false) (sym w.in_ok-stays.ensures ∙ w.if-not-branch.true)
    ]

pub returns : goal.returns
returns c =
    let among = ap (list_any (λ other. same_atom c.in-Some.atom other)) (sym c.as_slice.ensures) ∙ sym c.is_among.ensures in
    IfOk-equal c.push.result _ _ _ c.push.ensures.ok
    (ap (λ atom. c.args.atoms.now ++ atom ∷ []) c.in_ok-copy.ensures
    ∙ atom_added c.args.addends.now c.args.atoms.now c.args.addend.now.atom c.in-Some.atom c.in-Some.is (among ∙ c.if-is_among.false) (sym c.in_ok-stays.ensures ∙ c.if-not-branch.false))
