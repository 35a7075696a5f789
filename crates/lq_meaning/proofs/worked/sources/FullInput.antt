-- An input that takes all words.
use Rattle.std.proofs.Common.{◌≡◌, refl}
use Rattle.std.specs.Prelude.{[], ◌∷◌, Some}
use Rattle.lq_tree.specs.declared.expr.BinOp.TheVariants.{Sub}
use Rattle.lq_tree.specs.declared.trap.TrapKind.TheVariants.{Words}
use Rattle.lq_tree.specs.declared.stmt.StmtKind.{Print, Return}
use Rattle.lq_tree.specs.declared.program.Func.{Func}
use Rattle.lq_tree.specs.declared.program.Program.{Program}
use Rattle.lq_meaning.specs.Ending.{Outcome, Done}
use Rattle.lq_meaning.specs.Control.{trapped, loop, iterations}
use Rattle.lq_meaning.specs.Meaning.{sequential, called}
use Rattle.lq_meaning.proofs.worked.Outcomes.{numbers, memory_block, outcome}
use Rattle.lq_meaning.proofs.worked.SourceWords.{at, int, num, var, bin, index, stmt, param, func, program}

-- int main(int *in, int n) {
--   print(in[n - 1]);
--   return 0;
-- }
abbrev full_input_main : Func
full_input_main =
    func 1 1 (Some (int 0)) "main" (param (int 1) "in" ∷ param (int 0) "n" ∷ []) (
    stmt 2 3 (Print (index (var "in") (bin Sub (var "n") (num 1)))) ∷ stmt 3 3 (Return (Some (num 0))) ∷ [])

abbrev pub full_input : Program
full_input = program [] (full_input_main ∷ [])

-- three numbers in three words
abbrev pub three_outcome : Outcome
three_outcome = outcome Done (memory_block 1 (numbers (5 ∷ 6 ∷ 7 ∷ [])) ∷ []) 0 2 (numbers (7 ∷ []))

three : sequential 1000 3 full_input (numbers (5 ∷ 6 ∷ 7 ∷ [])) ≡ three_outcome
unfolding called loop iterations
three = refl

-- and in two
abbrev pub two_outcome : Outcome
two_outcome = outcome (trapped Words (at 1 1)) [] 2 0 []

two : sequential 1000 2 full_input (numbers (5 ∷ 6 ∷ 7 ∷ [])) ≡ two_outcome
unfolding called loop iterations
two = refl
