-- The calls of a line.
use Rattle.std.proofs.Common.{◌≡◌, ℕ, zero, suc, ◌+◌, ◌<◌, ◌≤◌, ℤ, List, [], ◌∷◌, ◌++◌, length, drop, get_or, Option, refl, ap, ◌∙◌, sym, arith, append_assoc, append-nil, drop-cons}
use Rattle.std.proofs.lemmas.Grind.{common_steps}
use Rattle.std.proofs.Math.Path.{fun_ext}
use Rattle.lq_tree.specs.declared.place.Place.{Place}
use Rattle.std.proofs.lemmas.List.{drop_all}
use Rattle.lq_tree.specs.declared.plain.PExpr.{PExpr}
use Rattle.lq_tree.specs.declared.plain.PKind.{Call}
use Rattle.lq_tree.specs.declared.plain.PProgram.{PProgram}
use Rattle.lq_meaning.specs.declared.action.Action.TheVariants.{Enter}
use Rattle.lq_meaning.specs.declared.line.Stop.TheVariants.{Call as CallStop}
use Rattle.lq_meaning.specs.Operators.{Computes}
use Rattle.lq_meaning.specs.Control.{GoesOn}
use Rattle.lq_meaning.specs.PlainMeaning.{Slots, value, into}
use Rattle.lq_meaning.specs.TaskControl.{Next, due}
use Rattle.lq_meaning.specs.Behaviour.{eval_list, called}
use Rattle.lq_meaning.specs.Line.{inside_call}
use Rattle.lq_meaning.specs.Moves.{StandsFor}

-- a call is due, and goes on inside
pub called-due : (p : PProgram) (turns left : ℕ) (branch : List ℕ) (at : Place) (function : ℕ) (words : List ℤ) (next : Next ℤ) (passed : ℕ)
    → due branch at (Enter left) (λ word. inside_call p turns branch left function words word next) passed ≡ called p turns left branch at function words next passed
unfolding called
called-due p turns zero branch at function words next passed = refl
called-due p turns (suc left) branch at function words next passed = refl

-- a line that stands in front of a call, behind its arguments
pub calls : (p : PProgram) (at : Place) (to : Option ℕ) (function : ℕ) (args : List PExpr) (words : List ℤ) (slots : Slots)
    → ((next : Next (List ℤ)) (passed : ℕ) → eval_list at slots args next passed ≡ next words passed) → StandsFor p at (Call to function args) slots (CallStop at function words to)
calls p at to function args words slots evaluates = record {
  same = λ turns branch left next passed.
      let back : Next ℤ = λ word. next (GoesOn (into to slots word)) in
      called-due p turns left branch at function words back passed ∙ sym (evaluates (λ words. called p turns left branch at function words back) passed);
  few = λ turns. tt;
}

drop_one : (args : List PExpr) (i : ℕ) (e : PExpr) → i < length args → e ≡ get_or args i e → drop i args ≡ e ∷ drop (i + 1) args
drop_one args i e within is = grind (arith, common_steps, drop-cons args i e)

-- one argument more
pub argument_more : (at : Place) (slots : Slots) (args : List PExpr) (i : ℕ) (e : PExpr) (words : List ℤ) (word : ℤ) → i < length args → e ≡ get_or args i e → value slots e ≡ Computes word
    → ((next : Next (List ℤ)) (passed : ℕ) → eval_list at slots args next passed ≡ eval_list at slots (drop i args) (λ more. next (words ++ more)) passed)
    → (next : Next (List ℤ)) (passed : ℕ) → eval_list at slots args next passed ≡ eval_list at slots (drop (i + 1) args) (λ more. next ((words ++ word ∷ []) ++ more)) passed
argument_more at slots args i e words word within is computes before next passed =
    before next passed
    ∙ ap (λ (rest : List PExpr). eval_list at slots rest (λ more. next (words ++ more)) passed) (drop_one args i e within is)
    ∙ rw computes (ap (λ (after : List ℤ → List ℤ). eval_list at slots (drop (i + 1) args) (λ more. next (after more)) passed) (fun_ext (λ more. sym (append_assoc words (word ∷ []) more))))

-- all arguments
pub arguments_all : (at : Place) (slots : Slots) (args : List PExpr) (i : ℕ) (words : List ℤ) → length args ≤ i
    → ((next : Next (List ℤ)) (passed : ℕ) → eval_list at slots args next passed ≡ eval_list at slots (drop i args) (λ more. next (words ++ more)) passed)
    → (next : Next (List ℤ)) (passed : ℕ) → eval_list at slots args next passed ≡ next words passed
arguments_all at slots args i words all before next passed =
    before next passed
    ∙ ap (λ (rest : List PExpr). eval_list at slots rest (λ more. next (words ++ more)) passed) (drop_all i args all)
    ∙ ap (λ (words : List ℤ). next words passed) (append-nil words)
