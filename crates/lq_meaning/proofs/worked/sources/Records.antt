-- Arrays of records, and pointers in records.
use Rattle.std.proofs.Common.{◌≡◌, refl}
use Rattle.std.specs.Prelude.{[], ◌∷◌, Some}
use Rattle.lq_tree.specs.declared.trap.TrapKind.TheVariants.{Words}
use Rattle.lq_tree.specs.declared.expr.BinOp.TheVariants.{Add, Eq}
use Rattle.lq_tree.specs.declared.stmt.StmtKind.{Store, Print, Return}
use Rattle.lq_tree.specs.declared.program.Func.{Func}
use Rattle.lq_tree.specs.declared.program.Program.{Program}
use Rattle.lq_meaning.specs.Ending.{Outcome, Done}
use Rattle.lq_meaning.specs.Control.{trapped, loop, iterations}
use Rattle.lq_meaning.proofs.worked.Outcomes.{numbers, memory_block, outcome}
use Rattle.lq_meaning.proofs.worked.SourceWords.{at, int, struct, num, var, bin, index, deref, arrow, dot, call, calloc, stmt, local_set, param, struct_at, func, program}
use Rattle.lq_meaning.specs.Meaning.{sequential, called}

-- struct Pair { int left; int right; struct Pair *next; };
-- struct Pair *make(int left, struct Pair *next) {
--   struct Pair *p = calloc(2, sizeof(struct Pair));
--   p->left = left;
--   p[1].right = left + 1;
--   p->next = next;
--   return p;
-- }
-- int main(void) {
--   struct Pair *p = make(3, make(5, 0));
--   print(p->next->left);
--   print(p->next[1].right);
--   (*p->next).right = 8;
--   print((*(p->next)).right);
--   print(p->next->next == 0);
--   (p + 1)->next = p;
--   print(p[1].next->left);
--   struct Pair **q = calloc(1, sizeof(struct Pair *));
--   q[0] = p->next;
--   print((*q)->right);
--   return 0;
-- }
abbrev records_make : Func
records_make =
    func 2 1 (Some (struct "Pair" 1)) "make" (param (int 0) "left" ∷ param (struct "Pair" 1) "next" ∷ []) (
    stmt 3 3 (local_set (struct "Pair" 1) "p" (calloc (num 2) (struct "Pair" 0))) ∷
    stmt 4 3 (Store (arrow (var "p") "left") (var "left")) ∷
    stmt 5 3 (Store (dot (index (var "p") (num 1)) "right") (bin Add (var "left") (num 1))) ∷
    stmt 6 3 (Store (arrow (var "p") "next") (var "next")) ∷
    stmt 7 3 (Return (Some (var "p"))) ∷
    [])

abbrev records_main : Func
records_main =
    func 9 1 (Some (int 0)) "main" [] (
    stmt 10 3 (local_set (struct "Pair" 1) "p" (call "make" (num 3 ∷ call "make" (num 5 ∷ num 0 ∷ []) ∷ []))) ∷
    stmt 11 3 (Print (arrow (arrow (var "p") "next") "left")) ∷
    stmt 12 3 (Print (dot (index (arrow (var "p") "next") (num 1)) "right")) ∷
    stmt 13 3 (Store (dot (deref (arrow (var "p") "next")) "right") (num 8)) ∷
    stmt 14 3 (Print (dot (deref (arrow (var "p") "next")) "right")) ∷
    stmt 15 3 (Print (bin Eq (arrow (arrow (var "p") "next") "next") (num 0))) ∷
    stmt 16 3 (Store (arrow (bin Add (var "p") (num 1)) "next") (var "p")) ∷
    stmt 17 3 (Print (arrow (dot (index (var "p") (num 1)) "next") "left")) ∷
    stmt 18 3 (local_set (struct "Pair" 2) "q" (calloc (num 1) (struct "Pair" 1))) ∷
    stmt 19 3 (Store (index (var "q") (num 0)) (arrow (var "p") "next")) ∷
    stmt 20 3 (Print (arrow (deref (var "q")) "right")) ∷
    stmt 21 3 (Return (Some (num 0))) ∷
    [])

abbrev pub records : Program
records =
    program
    (struct_at 1 1 "Pair" (param (int 0) "left" ∷ param (int 0) "right" ∷ param (struct "Pair" 1) "next" ∷ []) ∷ [])
    (records_make ∷ records_main ∷ [])

-- each field of each element
abbrev pub fields_outcome : Outcome
fields_outcome =
    outcome Done
    (memory_block 3 (numbers (5 ∷ 8 ∷ 0 ∷ 0 ∷ 6 ∷ 0 ∷ [])) ∷
    memory_block 3 (numbers (3 ∷ 0 ∷ 4294967296 ∷ 0 ∷ 4 ∷ 8589934592 ∷ [])) ∷
    memory_block 1 (numbers (4294967296 ∷ [])) ∷
    [])
    87 34 (numbers (5 ∷ 6 ∷ 8 ∷ 1 ∷ 3 ∷ 8 ∷ []))

fields : sequential 1000 100 records [] ≡ fields_outcome
unfolding called loop iterations
fields = refl

-- a block of two pairs needs six words
abbrev pub short_outcome : Outcome
short_outcome = outcome (trapped Words (at 3 3)) (memory_block 3 (numbers (5 ∷ 0 ∷ 0 ∷ 0 ∷ 6 ∷ 0 ∷ [])) ∷ []) 5 7 []

short : sequential 1000 11 records [] ≡ short_outcome
unfolding called loop iterations
short = refl

-- struct Pair { int left; int right; };
-- int main(void) {
--   struct Pair *p = calloc(5, sizeof(struct Pair));
--   return 0;
-- }
abbrev pairs_main : Func
pairs_main =
    func 2 1 (Some (int 0)) "main" [] (
    stmt 3 3 (local_set (struct "Pair" 1) "p" (calloc (num 5) (struct "Pair" 0))) ∷
    stmt 4 3 (Return (Some (num 0))) ∷
    [])

abbrev pub pairs : Program
pairs = program (struct_at 1 1 "Pair" (param (int 0) "left" ∷ param (int 0) "right" ∷ []) ∷ []) (pairs_main ∷ [])

-- five pairs need ten words
abbrev pub ten_outcome : Outcome
ten_outcome = outcome Done (memory_block 2 (numbers (0 ∷ 0 ∷ 0 ∷ 0 ∷ 0 ∷ 0 ∷ 0 ∷ 0 ∷ 0 ∷ 0 ∷ [])) ∷ []) 0 1 []

ten : sequential 1000 10 pairs [] ≡ ten_outcome
unfolding called loop iterations
ten = refl

-- nine are too few
abbrev pub nine_outcome : Outcome
nine_outcome = outcome (trapped Words (at 3 3)) [] 9 1 []

nine : sequential 1000 9 pairs [] ≡ nine_outcome
unfolding called loop iterations
nine = refl
