-- Slices, the sources that they are, and where the literal check fails.
use Rattle.std.proofs.Common.{◌≡◌, refl}
use Rattle.std.specs.Prelude.{ℕ, ℤ, pos, negsuc, List, [], ◌∷◌, codes}
use denote.Hole.Carrier.{hidden}
use Rattle.lq_tree.specs.declared.expr.Expr.TheBlock.{hidden-the_row-Expr-0, shape-the_row-Expr-0}
use Rattle.lq_tree.specs.declared.stmt.StmtKind.TheBlock.{hidden-the_row-Stmt-0, shape-the_row-Stmt-0}
use Rattle.lq_meaning.proofs.worked.SourceWords.{at}
use Rattle.lq_meaning.proofs.worked.sources.TwoStores.{two_stores}
use Rattle.lq_alone.specs.declared.slice.Store.{Store}
use Rattle.lq_alone.specs.declared.slice.Step.{Step}
use Rattle.lq_alone.specs.declared.slice.Step.TheVariants.{Store as StoreStep, Print as PrintStep}
use Rattle.lq_alone.specs.declared.slice.Slice.{Slice}
use Rattle.lq_alone.specs.Slice.{program}
use Rattle.lq_alone.specs.Literal.{literal_faults, IsAccepted}

abbrev store : (line col index : ℕ) → (value : ℤ) → Store
store line col index value = record { at = at line col; index = index; value = value }

-- a slice with the places of two-stores.c, of so many elements, and with these stores and prints
abbrev slice : (count : ℕ) → (before left right : List Store) → List Step → Slice
slice count before left right after =
    record {
      main = at 1 1;
      declaration = at 2 3;
      count = count;
      before = before;
      fork = at 3 3;
      left = record { at = at 4 5; stores = left };
      right = record { at = at 5 5; stores = right };
      after = after;
      end = at 9 3;
    }

abbrev prints : List Step
prints = PrintStep (at 7 3) 0 ∷ PrintStep (at 8 3) 1 ∷ []

-- int main(void) {
--   int *a = calloc(2, sizeof(int));
--   cobegin {
--     { a[0] = 1; }
--     { a[1] = 2; }
--   }
--   print(a[0]);
--   print(a[1]);
--   return 0;
-- }
abbrev two : Slice
two = slice 2 [] (store 4 7 0 (pos 1) ∷ []) (store 5 7 1 (pos 2) ∷ []) prints

two-source : program (codes "a") two ≡ two_stores
unfolding hidden hidden-the_row-Expr-0 shape-the_row-Expr-0 hidden-the_row-Stmt-0 shape-the_row-Stmt-0
two-source = refl

two-accepted : IsAccepted two
two-accepted = refl

-- with `a[0] = 2;` in line 5
same_element : literal_faults (slice 2 [] (store 4 7 0 (pos 1) ∷ []) (store 5 7 0 (pos 2) ∷ []) prints) ≡ at 5 7 ∷ []
same_element = refl

-- with `a[2] = 2;` there: 2 elements have no element 2
past_the_count : literal_faults (slice 2 [] (store 4 7 0 (pos 1) ∷ []) (store 5 7 2 (pos 2) ∷ []) prints) ≡ at 5 7 ∷ []
past_the_count = refl

-- one block may store to one element several times, and all may store to what was stored before
stored_before : literal_faults (slice 2 (store 2 40 0 (pos 5) ∷ store 2 50 1 (pos 6) ∷ []) (store 4 7 0 (pos 1) ∷ store 4 17 0 (pos 3) ∷ []) (store 5 7 1 (pos 2) ∷ []) (StoreStep (store 6 5 1 (negsuc 0)) ∷ prints)) ≡ []
stored_before = refl

-- without an element each statement fails, in the order of the text
no_elements : literal_faults (slice 0 (store 2 40 0 (pos 5) ∷ []) (store 4 7 0 (pos 1) ∷ []) (store 5 7 1 (pos 2) ∷ []) prints) ≡ at 2 3 ∷ at 2 40 ∷ at 4 7 ∷ at 5 7 ∷ at 7 3 ∷ at 8 3 ∷ []
no_elements = refl
