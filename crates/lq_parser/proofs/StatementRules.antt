-- The rules of statements as sequences.
use Rattle.std.proofs.Common.{sym, ap, ◌∙◌, subst, refl}
use Rattle.std.specs.Prelude.{◌≡◌, Bool, true, false, Option, None, Some, List, [], ◌∷◌, ◌++◌}
use Rattle.std.proofs.lemmas.List.{append_assoc, append-nil}
use Rattle.lq_tree.specs.declared.place.Place.{Place}
use Rattle.lq_tree.specs.declared.expr.Expr.{Expr}
use Rattle.lq_tree.specs.declared.stmt.Arm.{Arm}
use Rattle.lq_tree.specs.declared.stmt.Stmt.{Stmt}
use Rattle.lq_tree.specs.declared.stmt.StmtKind.{StmtKind, Block, If, While, For, Foreach}
use Rattle.lq_parser.specs.declared.lexeme.Lexeme.{Lexeme}
use Rattle.lq_parser.specs.declared.lexeme.Sign.TheVariants.{LeftParen, RightParen, LeftBrace, RightBrace, Comma, Semicolon}
use Rattle.lq_parser.specs.declared.lexeme.Keyword.TheVariants.{If as IfWord, Else, While as WhileWord, For as ForWord, Return as ReturnWord, Print as PrintWord, Cobegin as CobeginWord, Foreach as ForeachWord}
use Rattle.lq_parser.specs.declared.lexeme.Symbol.{Symbol}
use Rattle.lq_parser.specs.declared.lexeme.Symbol.TheVariants.{Sign as SignSymbol, Keyword as KeywordSymbol}
use Rattle.lq_parser.specs.Lexemes.{first, sign_at, word_at}
use Rattle.lq_parser.specs.Expressions.{IsExpression}
use Rattle.lq_parser.specs.Statements.{Placed, placed, IsSimple, IsPart, IsFlat, empty, part, return, print, IsBlock, braces, AreStatements, no_statement, statement, IsBody, block_body, flat_body, IsGuarded, guarded, AreElses, IsStep, IsStatement, block, flat, if, while, for, cobegin, foreach, IsBranch, branch}
use Rattle.lq_parser.specs.Sequence.{Then, then, Makes, makes, one, IsSign, IsName, held, IsClosed}
use Rattle.lq_parser.specs.Outcome.{Done, Fails, Begins, Lacks, Ends, NoElse, place_of_first}
use Rattle.lq_parser.proofs.Apart.{signs, keywords, heads, tails}
use Rattle.lq_parser.proofs.Leads.{Leads, Completes, anywhere, leads_choose, complete_one, complete_then, complete_makes}
use Rattle.lq_parser.proofs.Firsts.{complete_expression}
use Rattle.lq_parser.proofs.Cuts.{first_then}
use Rattle.lq_parser.proofs.Followers.{paren_ends}
use Rattle.lq_parser.proofs.FlatRules.{begun, begun_type, not_part, complete_sign}

-- a statement at its place

pub done_placed : {X : List Lexeme → StmtKind → Type 0} {F : Option Lexeme → Type 0} {ls rest : List Lexeme} {kind : StmtKind}
    → ((v : StmtKind) → X [] v → ⊥) → Done X F ls kind rest → Done (Placed X) F ls (record { at = place_of_first ls; kind = kind }) rest
done_placed {X = X} {F = F} {ls = ls} {rest = rest} {kind = kind} never d = go d.front d.split d.spelled d.only
  where
    unique : (l : Lexeme) (front f r other : List Lexeme) (w : Stmt) → ls ≡ l ∷ (front ++ rest)
        → ((other f r : List Lexeme) (v : StmtKind) → first other ≡ first rest → (l ∷ front) ++ other ≡ f ++ r → X f v → F (first r) → (v ≡ kind) × (r ≡ other))
        → first other ≡ first rest → (l ∷ front) ++ other ≡ f ++ r → Placed X f w → F (first r) → (w ≡ record { at = place_of_first ls; kind = kind }) × (r ≡ other)
    unique l front f r other w e only h eq (placed {l = l'} {ls = fs} {kind = k} y) s =
        let o = only other (l' ∷ fs) r k h eq y s in
        (rw (e, o.0, heads eq) refl, o.1)

    go : (front : List Lexeme) → ls ≡ front ++ rest → X front kind
        → ((other f r : List Lexeme) (v : StmtKind) → first other ≡ first rest → front ++ other ≡ f ++ r → X f v → F (first r) → (v ≡ kind) × (r ≡ other))
        → Done (Placed X) F ls (record { at = place_of_first ls; kind = kind }) rest
    go [] e x only = absurd (never _ x)
    go (l ∷ front) e x only = record {
      front = l ∷ front;
      split = e;
      spelled = subst (λ z. Placed X (l ∷ front) (record { at = place_of_first z; kind = kind })) (sym e) (placed x);
      only = λ other f r w h eq y s. unique l front f r other w e only h eq y s;
    }

pub fails_placed : {X : List Lexeme → StmtKind → Type 0} {F : Option Lexeme → Type 0} {ls end : List Lexeme}
    → ((v : StmtKind) → X [] v → ⊥) → Fails X F ls end → Fails (Placed X) F ls end
fails_placed {X = X} {F = F} {ls = ls} {end = end} never e =
    let s = somewhere (e.front ++ e.more) e.value e.viable in
    record {
      front = e.front;
      split = e.split;
      more = e.more;
      value = s.0;
      viable = s.1;
      dead = λ other f r v h eq x s. dead f r v other h eq x s;
    }
  where
    somewhere : (w : List Lexeme) (v : StmtKind) → X w v → (s : Stmt) × Placed X w s
    somewhere [] v x = absurd (never v x)
    somewhere (l ∷ w) v x = (_, placed x)

    dead : (f r : List Lexeme) (v : Stmt) (other : List Lexeme) → first other ≡ first end → e.front ++ other ≡ f ++ r → Placed X f v → F (first r) → ⊥
    dead f r v other h eq (placed {l = l} {ls = fs} {kind = k} x) s = e.dead other (l ∷ fs) r k h eq x s

pub complete_placed : {X : List Lexeme → StmtKind → Type 0} → ((v : StmtKind) → X [] v → ⊥) → Completes X → Completes (Placed X)
complete_placed {X = X} never x = somewhere x.0 x.1 x.2
  where
    somewhere : (w : List Lexeme) (v : StmtKind) → X w v → Completes (Placed X)
    somewhere [] v x = absurd (never v x)
    somewhere (l ∷ w) v x = (l ∷ w, _, placed x)

-- what statements begin with

abbrev flat_symbol : Symbol → Bool
flat_symbol (SignSymbol Semicolon) = true
flat_symbol (KeywordSymbol ReturnWord) = true
flat_symbol (KeywordSymbol PrintWord) = true
flat_symbol _ = false

abbrev pub begun_flat : Option Lexeme → Bool
begun_flat None = false
begun_flat (Some l) = flat_symbol l.symbol

-- what no statement without a body begins with
pub not_flat : {u : List Lexeme} {v : StmtKind} (r : List Lexeme) {b : Option Lexeme}
    → begun b ≡ false → begun_type b ≡ false → begun_flat b ≡ false → first (u ++ r) ≡ b → IsFlat u v → ⊥
not_flat r h k m e empty = cc (ap begun_flat e)
not_flat r h k m e (part end {p = p} x) = not_part ((sign_at Semicolon end ∷ []) ++ r) h k (sym (ap first (append_assoc p (sign_at Semicolon end ∷ []) r)) ∙ e) x
not_flat r h k m e (return end x) = cc (ap begun_flat e)
not_flat r h k m e (print closing end x) = cc (ap begun_flat e)

block_never : (v : List Stmt) → IsBlock [] v → ⊥
block_never v x = go refl x
  where
    go : {w : List Lexeme} {v : List Stmt} → w ≡ [] → IsBlock w v → ⊥
    go e (braces closing x) = cc

pub made_block_never : (v : StmtKind) → Makes IsBlock Block [] v → ⊥
made_block_never v (makes x) = block_never _ x

pub block_begins : {u : List Lexeme} {v : List Stmt} → IsBlock u v → (r : List Lexeme) → (at : Place) × (first (u ++ r) ≡ Some (sign_at LeftBrace at))
block_begins (braces closing x) r = (_, refl)

-- branches and bodies

branch_into : (u : List Lexeme) (v : Stmt) → Placed (Makes IsBlock Block) u v → IsBranch u v
branch_into u v (placed (makes x)) = branch x

branch_from : (u : List Lexeme) (v : Stmt) → IsBranch u v → Placed (Makes IsBlock Block) u v
branch_from u v (branch x) = placed (makes x)

pub leads_branch : {F : Option Lexeme → Type 0} {ls : List Lexeme} → Leads IsBranch F ls (Placed (Makes IsBlock Block)) ls
leads_branch = leads_choose branch_into (λ u r v h x s. branch_from u v x)

block_body_into : (u : List Lexeme) (v : Stmt) → IsBranch u v → IsBody u v
block_body_into u v (branch x) = block_body x

block_body_from : (u r : List Lexeme) (v : Stmt) (at : Place) → first (u ++ r) ≡ Some (sign_at LeftBrace at) → IsBody u v → IsBranch u v
block_body_from u r v at h (block_body x) = branch x
block_body_from u r v at h (flat_body x) = absurd (not_flat r {b = Some (sign_at LeftBrace at)} refl refl refl h x)

pub leads_block_body : {F : Option Lexeme → Type 0} {ls rest : List Lexeme} → Begins (sign_at LeftBrace) ls rest → Leads IsBody F ls IsBranch ls
leads_block_body b = leads_choose block_body_into (λ u r v h x s. block_body_from u r v b.0 (h ∙ ap first b.1) x)

flat_body_into : (u : List Lexeme) (v : Stmt) → Placed IsFlat u v → IsBody u v
flat_body_into u v (placed x) = flat_body x

flat_body_from : (u r : List Lexeme) (v : Stmt) (ls : List Lexeme) → Lacks (sign_at LeftBrace) ls → first (u ++ r) ≡ first ls → IsBody u v → Placed IsFlat u v
flat_body_from u r v ls lacks h (block_body x) = let b = block_begins x r in absurd (lacks b.0 (sym h ∙ b.1))
flat_body_from u r v ls lacks h (flat_body x) = placed x

pub leads_flat_body : {F : Option Lexeme → Type 0} {ls : List Lexeme} → Lacks (sign_at LeftBrace) ls → Leads IsBody F ls (Placed IsFlat) ls
leads_flat_body {ls = ls} lacks = leads_choose flat_body_into (λ u r v h x s. flat_body_from u r v ls lacks h x)

pub complete_block : Completes IsBlock
complete_block = (sign_at LeftBrace anywhere ∷ ([] ++ (sign_at RightBrace anywhere ∷ [])), [], braces anywhere no_statement)

pub complete_branch : Completes IsBranch
unfolding complete_block
complete_branch = (_, _, branch complete_block.2)

pub complete_body : Completes IsBody
unfolding complete_block
complete_body = (_, _, block_body complete_block.2)

-- a condition and its body

abbrev pub Guarded : List Lexeme → Expr × Stmt → Type 0
Guarded = Then (IsSign LeftParen) (λ _. Then IsExpression (λ cond. Then (IsSign RightParen) (λ _. Makes IsBody (λ body. (cond, body)))))

guarded_into : (u : List Lexeme) (v : Expr × Stmt) → Guarded u v → IsGuarded u v
guarded_into u v (then one (then x (then one (makes y)))) = guarded _ x y

guarded_from : (u : List Lexeme) (v : Expr × Stmt) → IsGuarded u v → Guarded u v
guarded_from u v (guarded closing x y) = then one (then x (then one (makes y)))

pub leads_guarded : {F : Option Lexeme → Type 0} {ls : List Lexeme} → Leads IsGuarded F ls Guarded ls
leads_guarded = leads_choose guarded_into (λ u r v h x s. guarded_from u v x)

pub guarded_follows : (e : Expr) (b : Expr × Stmt) (g r : List Lexeme) → Then (IsSign RightParen) (λ _. Makes IsBody (λ body. (e, body))) g b → Ends 6 (first (g ++ r))
guarded_follows e b g r x = paren_ends (first_then x r)

pub complete_behind : (e : Expr) → Completes {B = Expr × Stmt} (Then (IsSign RightParen) (λ _. Makes IsBody (λ body. (e, body))))
complete_behind e = complete_then complete_one (λ u. complete_makes complete_body)

pub complete_guarded : Completes Guarded
complete_guarded = complete_then complete_one (λ u. complete_then complete_expression complete_behind)

-- which kind of statement

statement_never_at : {w : List Lexeme} {v : StmtKind} → w ≡ [] → IsStatement w v → ⊥
statement_never_at e (block x) = let b = block_begins x [] in absurd (cc (sym b.1 ∙ ap (λ z. first (z ++ [])) e))
statement_never_at e (flat x) = not_flat [] {b = None} refl refl refl (ap (λ z. first (z ++ [])) e) x
statement_never_at e (if x y) = cc
statement_never_at e (while x) = cc
statement_never_at e (for end end' closing i c s b) = cc
statement_never_at e (cobegin closing a b m) = cc
statement_never_at e (foreach comma closing l h s b) = cc

pub statement_never : (v : StmtKind) → IsStatement [] v → ⊥
statement_never v x = statement_never_at refl x

abbrev statement_symbol : Symbol → Bool
statement_symbol (SignSymbol LeftBrace) = true
statement_symbol (KeywordSymbol IfWord) = true
statement_symbol (KeywordSymbol WhileWord) = true
statement_symbol (KeywordSymbol ForWord) = true
statement_symbol (KeywordSymbol CobeginWord) = true
statement_symbol (KeywordSymbol ForeachWord) = true
statement_symbol _ = false

abbrev begun_statement : Option Lexeme → Bool
begun_statement None = false
begun_statement (Some l) = statement_symbol l.symbol

-- what no statement begins with
pub not_statement : {u : List Lexeme} {v : StmtKind} (r : List Lexeme) {b : Option Lexeme}
    → begun b ≡ false → begun_type b ≡ false → begun_flat b ≡ false → begun_statement b ≡ false → first (u ++ r) ≡ b → IsStatement u v → ⊥
not_statement r h k m n e (block x) = let b = block_begins x r in cc (ap begun_statement (sym b.1 ∙ e))
not_statement r h k m n e (flat x) = not_flat r h k m e x
not_statement r h k m n e (if x y) = cc (ap begun_statement e)
not_statement r h k m n e (while x) = cc (ap begun_statement e)
not_statement r h k m n e (for end end' closing i c s b) = cc (ap begun_statement e)
not_statement r h k m n e (cobegin closing a b m') = cc (ap begun_statement e)
not_statement r h k m n e (foreach comma closing l h' s b) = cc (ap begun_statement e)

block_from : (u r : List Lexeme) (v : StmtKind) (at : Place) → first (u ++ r) ≡ Some (sign_at LeftBrace at) → IsStatement u v → Makes IsBlock Block u v
block_from u r v at h (block x) = makes x
block_from u r v at h (flat x) = absurd (not_flat r {b = Some (sign_at LeftBrace at)} refl refl refl h x)
block_from u r v at h (if x y) = absurd (cc (signs h))
block_from u r v at h (while x) = absurd (cc (signs h))
block_from u r v at h (for end end' closing i c s b) = absurd (cc (signs h))
block_from u r v at h (cobegin closing a b m) = absurd (cc (signs h))
block_from u r v at h (foreach comma closing l h' s' b) = absurd (cc (signs h))

block_into : (u : List Lexeme) (v : StmtKind) → Makes IsBlock Block u v → IsStatement u v
block_into u v (makes x) = block x

pub leads_block : {F : Option Lexeme → Type 0} {ls rest : List Lexeme} → Begins (sign_at LeftBrace) ls rest → Leads IsStatement F ls (Makes IsBlock Block) ls
leads_block b = leads_choose block_into (λ u r v h x s. block_from u r v b.0 (h ∙ ap first b.1) x)

flat_from : (u r : List Lexeme) (v : StmtKind) (ls : List Lexeme) → Lacks (sign_at LeftBrace) ls → Lacks (word_at IfWord) ls → Lacks (word_at WhileWord) ls → Lacks (word_at ForWord) ls
    → Lacks (word_at CobeginWord) ls → Lacks (word_at ForeachWord) ls → first (u ++ r) ≡ first ls → IsStatement u v → IsFlat u v
flat_from u r v ls no_block no_if no_while no_for no_cobegin no_foreach h (block x) = let b = block_begins x r in absurd (no_block b.0 (sym h ∙ b.1))
flat_from u r v ls no_block no_if no_while no_for no_cobegin no_foreach h (flat x) = x
flat_from u r v ls no_block no_if no_while no_for no_cobegin no_foreach h (if {at = at} x y) = absurd (no_if at (sym h))
flat_from u r v ls no_block no_if no_while no_for no_cobegin no_foreach h (while {at = at} x) = absurd (no_while at (sym h))
flat_from u r v ls no_block no_if no_while no_for no_cobegin no_foreach h (for {at = at} end end' closing i c s b) = absurd (no_for at (sym h))
flat_from u r v ls no_block no_if no_while no_for no_cobegin no_foreach h (cobegin {at = at} closing a b m) = absurd (no_cobegin at (sym h))
flat_from u r v ls no_block no_if no_while no_for no_cobegin no_foreach h (foreach {at = at} comma closing l h' s b) = absurd (no_foreach at (sym h))

pub leads_flat : {F : Option Lexeme → Type 0} {ls : List Lexeme} → Lacks (sign_at LeftBrace) ls → Lacks (word_at IfWord) ls → Lacks (word_at WhileWord) ls → Lacks (word_at ForWord) ls
    → Lacks (word_at CobeginWord) ls → Lacks (word_at ForeachWord) ls → Leads IsStatement F ls IsFlat ls
leads_flat {ls = ls} a b c d e f = leads_choose (λ u v x. flat x) (λ u r v h x s. flat_from u r v ls a b c d e f h x)

-- loops with a condition

abbrev pub Loop : List Lexeme → StmtKind → Type 0
Loop = Makes IsGuarded (λ one. While one.0 one.1)

the_while_into : (at : Place) (u : List Lexeme) (v : StmtKind) → Loop u v → IsStatement (word_at WhileWord at ∷ u) v
the_while_into at u v (makes x) = while x

the_while_from : {at : Place} {w : List Lexeme} (u : List Lexeme) {v : StmtKind} → w ≡ word_at WhileWord at ∷ u → IsStatement w v → Loop u v
the_while_from u eq (block x) = let b = block_begins x [] in absurd (cc (signs (sym b.1 ∙ ap (λ z. first (z ++ [])) eq)))
the_while_from {at = at} u eq (flat x) = absurd (not_flat [] {b = Some (word_at WhileWord at)} refl refl refl (ap (λ z. first (z ++ [])) eq) x)
the_while_from u eq (if x y) = absurd (cc (keywords (ap first eq)))
the_while_from u eq (while x) = rw (← tails eq) (makes x)
the_while_from u eq (for end end' closing i c s b) = absurd (cc (keywords (ap first eq)))
the_while_from u eq (cobegin closing a b m) = absurd (cc (keywords (ap first eq)))
the_while_from u eq (foreach comma closing l h s b) = absurd (cc (keywords (ap first eq)))

pub leads_the_while : {at : Place} {F : Option Lexeme → Type 0} {ls : List Lexeme} → Leads (λ u v. IsStatement (word_at WhileWord at ∷ u) v) F ls Loop ls
leads_the_while {at = at} = leads_choose (the_while_into at) (λ u r v h x s. the_while_from u refl x)

-- loops with a head of three parts

abbrev pub ForLoop : List Lexeme → StmtKind → Type 0
ForLoop = Then (IsSign LeftParen) (λ _. Then (IsClosed (Placed IsPart) (sign_at Semicolon)) (λ i. Then (IsClosed IsExpression (sign_at Semicolon)) (λ c. Then (IsClosed (Placed IsSimple) (sign_at RightParen)) (λ s. Makes IsBody (For i c s)))))

the_for_into : (at : Place) (u : List Lexeme) (v : StmtKind) → ForLoop u v → IsStatement (word_at ForWord at ∷ u) v
the_for_into at u v (then one (then (then i (makes one)) (then (then c (makes one)) (then (then s (makes one)) (makes b))))) = rw (append_assoc, append_assoc, append_assoc) (for _ _ _ i c s b)

the_for_from : {at : Place} {w : List Lexeme} (u : List Lexeme) {v : StmtKind} → w ≡ word_at ForWord at ∷ u → IsStatement w v → ForLoop u v
the_for_from u eq (block x) = let b = block_begins x [] in absurd (cc (signs (sym b.1 ∙ ap (λ z. first (z ++ [])) eq)))
the_for_from {at = at} u eq (flat x) = absurd (not_flat [] {b = Some (word_at ForWord at)} refl refl refl (ap (λ z. first (z ++ [])) eq) x)
the_for_from u eq (if x y) = absurd (cc (keywords (ap first eq)))
the_for_from u eq (while x) = absurd (cc (keywords (ap first eq)))
the_for_from u eq (for end end' closing {i = i} {c = c} {s = s} {b = b} x y z k) = rw (← tails eq) (rw (← append_assoc i (sign_at Semicolon end ∷ []) (c ++ (sign_at Semicolon end' ∷ (s ++ (sign_at RightParen closing ∷ b)))), ← append_assoc c (sign_at Semicolon end' ∷ []) (s ++ (sign_at RightParen closing ∷ b)), ← append_assoc s (sign_at RightParen closing ∷ []) b) (then one (then (then x (makes one)) (then (then y (makes one)) (then (then z (makes one)) (makes k))))))
the_for_from u eq (cobegin closing a b m) = absurd (cc (keywords (ap first eq)))
the_for_from u eq (foreach comma closing l h s b) = absurd (cc (keywords (ap first eq)))

pub leads_the_for : {at : Place} {F : Option Lexeme → Type 0} {ls : List Lexeme} → Leads (λ u v. IsStatement (word_at ForWord at ∷ u) v) F ls ForLoop ls
leads_the_for {at = at} = leads_choose (the_for_into at) (λ u r v h x s. the_for_from u refl x)

-- parallel loops

abbrev pub Parallel : List Lexeme → StmtKind → Type 0
Parallel = Then (IsSign LeftParen) (λ _. Then IsName (λ text. Then (IsSign Comma) (λ _. Then IsExpression (λ low. Then (IsSign Comma) (λ _. Then IsExpression (λ high. Then IsStep (λ step. Then (IsSign RightParen) (λ _. Makes IsBranch (Foreach text low high step)))))))))

the_foreach_into : (at : Place) (u : List Lexeme) (v : StmtKind) → Parallel u v → IsStatement (word_at ForeachWord at ∷ u) v
the_foreach_into at u v (then one (then held (then one (then l (then one (then h (then s (then one (makes b))))))))) = foreach _ _ l h s b

the_foreach_from : {at : Place} {w : List Lexeme} (u : List Lexeme) {v : StmtKind} → w ≡ word_at ForeachWord at ∷ u → IsStatement w v → Parallel u v
the_foreach_from u eq (block x) = let b = block_begins x [] in absurd (cc (signs (sym b.1 ∙ ap (λ z. first (z ++ [])) eq)))
the_foreach_from {at = at} u eq (flat x) = absurd (not_flat [] {b = Some (word_at ForeachWord at)} refl refl refl (ap (λ z. first (z ++ [])) eq) x)
the_foreach_from u eq (if x y) = absurd (cc (keywords (ap first eq)))
the_foreach_from u eq (while x) = absurd (cc (keywords (ap first eq)))
the_foreach_from u eq (for end end' closing i c s b) = absurd (cc (keywords (ap first eq)))
the_foreach_from u eq (cobegin closing a b m) = absurd (cc (keywords (ap first eq)))
the_foreach_from u eq (foreach comma closing l h s b) = rw (← tails eq) (then one (then held (then one (then l (then one (then h (then s (then one (makes b)))))))))

pub leads_the_foreach : {at : Place} {F : Option Lexeme → Type 0} {ls : List Lexeme} → Leads (λ u v. IsStatement (word_at ForeachWord at ∷ u) v) F ls Parallel ls
leads_the_foreach {at = at} = leads_choose (the_foreach_into at) (λ u r v h x s. the_foreach_from u refl x)

-- what stands between braces

-- statements behind those that were read, and the `}`
abbrev pub BlockRest : List Stmt → List Lexeme → List Stmt → Type 0
BlockRest read = Then AreStatements (λ more. Makes (IsSign RightBrace) (λ _. read ++ more))

abbrev pub Braced : List Lexeme → List Stmt → Type 0
Braced = Then (IsSign LeftBrace) (λ _. BlockRest [])

braced_into : (u : List Lexeme) (v : List Stmt) → Braced u v → IsBlock u v
braced_into u v (then one (then x (makes one))) = braces _ x

braced_from : (u : List Lexeme) (v : List Stmt) → IsBlock u v → Braced u v
braced_from u v (braces closing x) = then one (then x (makes one))

pub leads_braced : {F : Option Lexeme → Type 0} {ls : List Lexeme} → Leads IsBlock F ls Braced ls
leads_braced = leads_choose braced_into (λ u r v h x s. braced_from u v x)

closed_into : (read : List Stmt) (u : List Lexeme) (v : List Stmt) → Makes (IsSign RightBrace) (λ _. read) u v → BlockRest read u v
closed_into read u v (makes (one {at = at})) = subst (λ z. BlockRest read (sign_at RightBrace at ∷ []) z) (append-nil read) (then no_statement (makes one))

closed_from : (read : List Stmt) (u r : List Lexeme) (v : List Stmt) (at : Place) → first (u ++ r) ≡ Some (sign_at RightBrace at) → BlockRest read u v → Makes (IsSign RightBrace) (λ _. read) u v
closed_from read u r v at h (then no_statement (makes (one {at = at'}))) = subst (λ z. Makes (IsSign RightBrace) (λ _. read) (sign_at RightBrace at' ∷ []) z) (sym (append-nil read)) (makes one)
closed_from read u r v at h (then (statement {s = s} {m = m} x y) (makes (one {at = at'}))) =
    absurd (not_statement (m ++ ((sign_at RightBrace at' ∷ []) ++ r)) {b = Some (sign_at RightBrace at)} refl refl refl refl h x)

pub leads_closed : {F : Option Lexeme → Type 0} {ls rest : List Lexeme} (read : List Stmt) → Begins (sign_at RightBrace) ls rest → Leads (BlockRest read) F ls (Makes (IsSign RightBrace) (λ _. read)) ls
leads_closed read b = leads_choose (closed_into read) (λ u r v h x s. closed_from read u r v b.0 (h ∙ ap first b.1) x)

abbrev pub OneMore : List Stmt → List Lexeme → List Stmt → Type 0
OneMore read = Then (Placed IsStatement) (λ next. BlockRest (read ++ (next ∷ [])))

more_into : (read : List Stmt) (u : List Lexeme) (v : List Stmt) → OneMore read u v → BlockRest read u v
more_into read u v (then {front = p} (placed {l = l} {ls = s} {kind = kind} x) (then {front = m} {a = more} y (makes (one {at = at})))) =
    rw (append_assoc read (record { at = l.at; kind = kind } ∷ []) more, ← append_assoc s m (sign_at RightBrace at ∷ [])) (then (statement x y) (makes one))

more_from : (read : List Stmt) (u r : List Lexeme) (v : List Stmt) (ls : List Lexeme) → Lacks (sign_at RightBrace) ls → first (u ++ r) ≡ first ls → BlockRest read u v → OneMore read u v
more_from read u r v ls lacks h (then no_statement (makes (one {at = at}))) = absurd (lacks at (sym h))
more_from read u r v ls lacks h (then (statement {l = l} {s = s} {m = m} {kind = kind} {more = more} x y) (makes (one {at = at}))) =
    rw (append_assoc s m (sign_at RightBrace at ∷ []), ← append_assoc read (record { at = l.at; kind = kind } ∷ []) more) (then (placed x) (then y (makes one)))

pub leads_more : {F : Option Lexeme → Type 0} {ls : List Lexeme} (read : List Stmt) → Lacks (sign_at RightBrace) ls → Leads (BlockRest read) F ls (OneMore read) ls
leads_more {ls = ls} read lacks = leads_choose (more_into read) (λ u r v h x s. more_from read u r v ls lacks h x)

-- no `else` follows a statement of a block
pub statement_follows : (read : List Stmt) (next : Stmt) (b : List Stmt) (g r : List Lexeme) → BlockRest (read ++ (next ∷ [])) g b → NoElse (first (g ++ r))
statement_follows read next b g r (then no_statement (makes one)) at h = cc (keywords h)
statement_follows read next b g r (then (statement {s = s} {m = m} x y) (makes one)) at h =
    not_statement [] {b = Some (word_at Else at)} refl refl refl refl h x

pub complete_block_rest : (read : List Stmt) → Completes (BlockRest read)
complete_block_rest read = complete_then ([], [], no_statement) (λ more. complete_sign)

-- conditions in turn

pub data IsElses : List Lexeme → List Arm × Option Stmt → Type 0 where
  elses : {ls : List Lexeme} {more : List Arm} {last : Option Stmt} → AreElses ls more last → IsElses ls (more, last)

-- the arms behind those that were read
abbrev pub ElsesRest : List Arm → List Lexeme → StmtKind → Type 0
ElsesRest read = Makes IsElses (λ e. If (read ++ e.0) e.1)
