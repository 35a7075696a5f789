use Rattle.std.proofs.Common.{◌≡◌, ℕ, zero, suc, ◌<◌, Bool, true, List, [], ◌∷◌, length, get_or, slice_get, Some, sym, ap, ◌∙◌, arith}
use Rattle.std.proofs.lemmas.Result.{IfOk-weaker}
use Rattle.lq_templates.specs.Conditions.{facts_of}
use Rattle.lq_fixpoint.specs.Thinning.{IsServedBy}
use Rattle.lq_fixpoint.specs.Work.{Drops, IsTested}
use Rattle.lq_fixpoint.proofs.RoundLemmas.{not_due, is_tested}
use Rattle.lq_fixpoint.proofs.solving.serve.Goals as goal

-- what is read at a place that is there
read : (due : List Bool) (n : ℕ) (b : Bool) → n < length due → b ≡ get_or due n b → get_or due n true ≡ b
read [] n b l e = absurd (omega arith)
read (x ∷ due) zero b l e = sym e
read (x ∷ due) (suc n) b l e = read due n b (omega arith) e

found : {X : Type 0} (list : List X) (n : ℕ) (x : X) → n < length list → x ≡ get_or list n x → slice_get list n ≡ Some x
found [] n x l e = absurd (omega arith)
found (y ∷ list) zero x l e = ap (λ z. Some z) (sym e)
found (y ∷ list) (suc n) x l e = found list n x (omega arith) e

pub returns-then-not-index : goal.returns-then-not-index
returns-then-not-index c =
    not_due c.args.mults.now c.args.list.now c.args.users.now c.args.number c.args.work.now c.requires.users c.requires.kept c.requires.there
    (read c.args.work.now.due.items c.args.number c.index.result.now (omega (arith, c.requires.there, c.requires.kept.counted)) c.index.ensures ∙ c.if-not-index.true)

pub returns : goal.returns
returns c =
    let M = c.args.mults.now in
    let list = c.args.list.now in
    let users = c.args.users.now in
    let number = c.args.number in
    let old = c.args.work.now in
    let condition = c.index-list-number.result in
    let mid = c.settle.new.self in
    let new = c.thin.new.work in
    IfOk-weaker c.thin.result (λ (d : Bool). Drops (IsServedBy M (facts_of mid.assign condition) condition) users d mid new)
    (λ (d : Bool). IsTested M list users number d old new)
    (λ d h. is_tested M list users number old c.requires.users c.requires.kept c.requires.there condition
    (found list number condition c.requires.there c.index-list-number.is) d mid new c.settle.ensures.assign c.settle.ensures.due h)
    c.thin.ensures
