-- Null as a value, an argument, a result and a field.
use Rattle.std.proofs.Common.{◌≡◌, refl}
use Rattle.std.specs.Prelude.{[], ◌∷◌, Some}
use Rattle.lq_tree.specs.declared.expr.BinOp.TheVariants.{Mul, Add, Eq, Ne, And}
use Rattle.lq_tree.specs.declared.stmt.StmtKind.{Store, Print, Return}
use Rattle.lq_tree.specs.declared.program.Func.{Func}
use Rattle.lq_tree.specs.declared.program.Program.{Program}
use Rattle.lq_meaning.specs.Ending.{Outcome, Done}
use Rattle.lq_meaning.specs.Control.{loop, iterations}
use Rattle.lq_meaning.proofs.worked.Outcomes.{numbers, memory_block, outcome}
use Rattle.lq_meaning.proofs.worked.SourceWords.{int, struct, num, var, bin, arrow, call, calloc, stmt, block, local, local_set, set, while, param, struct_at, func, program}
use Rattle.lq_meaning.specs.Meaning.{sequential, called}

-- struct Node { int value; struct Node *next; };
-- struct Node *push(int value, struct Node *next) {
--   struct Node *n = calloc(1, sizeof(struct Node));
--   n->value = value;
--   n->next = next;
--   return n;
-- }
-- struct Node *end(void) { return 0; }
-- int main(void) {
--   struct Node *list = 0;
--   struct Node *none;
--   list = push(1, push(0, 0));
--   list->next->next = 0;
--   while (list != 0 && list->next != 0) { print(list->value); list = list->next; }
--   print((list->next == 0) + (end() == 0) * 2 + (none == 0) * 4);
--   list = 0;
--   return 0;
-- }
abbrev lists_push : Func
lists_push =
    func 2 1 (Some (struct "Node" 1)) "push" (param (int 0) "value" ∷ param (struct "Node" 1) "next" ∷ []) (
    stmt 3 3 (local_set (struct "Node" 1) "n" (calloc (num 1) (struct "Node" 0))) ∷
    stmt 4 3 (Store (arrow (var "n") "value") (var "value")) ∷
    stmt 5 3 (Store (arrow (var "n") "next") (var "next")) ∷
    stmt 6 3 (Return (Some (var "n"))) ∷
    [])

abbrev lists_end : Func
lists_end = func 8 1 (Some (struct "Node" 1)) "end" [] (stmt 8 26 (Return (Some (num 0))) ∷ [])

abbrev lists_main : Func
lists_main =
    func 9 1 (Some (int 0)) "main" [] (
    stmt 10 3 (local_set (struct "Node" 1) "list" (num 0)) ∷
    stmt 11 3 (local (struct "Node" 1) "none") ∷
    stmt 12 3 (set "list" (call "push" (num 1 ∷ call "push" (num 0 ∷ num 0 ∷ []) ∷ []))) ∷
    stmt 13 3 (Store (arrow (arrow (var "list") "next") "next") (num 0)) ∷
    stmt 14 3
    (while (bin And (bin Ne (var "list") (num 0)) (bin Ne (arrow (var "list") "next") (num 0)))
    (stmt 14 40
    (block (
    stmt 14 42 (Print (arrow (var "list") "value")) ∷
    stmt 14 62 (set "list" (arrow (var "list") "next")) ∷
    [])))) ∷
    stmt 15 3
    (Print
    (bin Add
    (bin Add (bin Eq (arrow (var "list") "next") (num 0))
    (bin Mul (bin Eq (call "end" []) (num 0)) (num 2)))
    (bin Mul (bin Eq (var "none") (num 0)) (num 4)))) ∷
    stmt 16 3 (set "list" (num 0)) ∷
    stmt 17 3 (Return (Some (num 0))) ∷
    [])

abbrev pub lists : Program
lists =
    program (struct_at 1 1 "Node" (param (int 0) "value" ∷ param (struct "Node" 1) "next" ∷ []) ∷ []) (
    lists_push ∷ lists_end ∷ lists_main ∷ [])

-- where a pointer is wanted 0 is null
abbrev pub null_outcome : Outcome
null_outcome =
    outcome Done (memory_block 2 (numbers (0 ∷ 0 ∷ [])) ∷ memory_block 2 (numbers (1 ∷ 4294967296 ∷ [])) ∷ []) 96 20
    (numbers (1 ∷ 7 ∷ []))

null : sequential 1000 100 lists [] ≡ null_outcome
unfolding called loop iterations
null = refl
