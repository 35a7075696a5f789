-- The rules of `if`, and of `cobegin`, as sequences.
use Rattle.std.proofs.Common.{sym, ap, ◌∙◌, subst, refl}
use Rattle.std.specs.Prelude.{◌≡◌, Option, None, Some, List, [], ◌∷◌, ◌++◌}
use Rattle.std.proofs.lemmas.List.{append_assoc, append-nil}
use Rattle.lq_tree.specs.declared.place.Place.{Place}
use Rattle.lq_tree.specs.declared.expr.Expr.{Expr}
use Rattle.lq_tree.specs.declared.stmt.Arm.{Arm}
use Rattle.lq_tree.specs.declared.stmt.Stmt.{Stmt}
use Rattle.lq_tree.specs.declared.stmt.StmtKind.{StmtKind, If, Cobegin}
use Rattle.lq_parser.specs.declared.lexeme.Lexeme.{Lexeme}
use Rattle.lq_parser.specs.declared.lexeme.Sign.TheVariants.{LeftBrace, RightBrace}
use Rattle.lq_parser.specs.declared.lexeme.Keyword.TheVariants.{If as IfWord, Else, Cobegin as CobeginWord}
use Rattle.lq_parser.specs.Lexemes.{first, sign_at, word_at}
use Rattle.lq_parser.specs.Statements.{arm_of, IsBody, block_body, flat_body, IsGuarded, AreElses, no_else, else_body, else_if, IsStatement, block, flat, if, while, for, cobegin, foreach, IsBranch, branch, AreBranches, no_branch, branches}
use Rattle.lq_parser.specs.Sequence.{Then, then, Makes, makes, Nothing, nothing, one, IsSign, IsWord}
use Rattle.lq_parser.specs.Outcome.{Begins, Lacks, NoElse}
use Rattle.lq_parser.proofs.Apart.{signs, keywords, tails}
use Rattle.lq_parser.proofs.Leads.{Leads, Completes, leads_choose, complete_one, complete_then, complete_makes}
use Rattle.lq_parser.proofs.StatementRules.{block_begins, not_flat, complete_branch}

-- what stands behind arms that were read
pub data Elses (read : List Arm) : List Lexeme → StmtKind → Type 0 where
  elses : {ls : List Lexeme} {more : List Arm} {last : Option Stmt} → AreElses ls more last → Elses read ls (If (read ++ more) last)

-- what stands behind an `else`: one more arm, or the last body
pub data AfterElse (read : List Arm) : List Lexeme → StmtKind → Type 0 where
  after_body : {ls : List Lexeme} {body : Stmt} → IsBody ls body → AfterElse read ls (If read (Some body))
  after_if : {at : Place} {a e : List Lexeme} {one : Expr × Stmt} {more : List Arm} {last : Option Stmt}
      → IsGuarded a one → AreElses e more last → AfterElse read (word_at IfWord at ∷ (a ++ e)) (If (read ++ (arm_of one ∷ more)) last)

abbrev pub Conditional : List Lexeme → StmtKind → Type 0
Conditional = Then IsGuarded (λ guarded. Elses (arm_of guarded ∷ []))

if_made : (at : Place) (g : Expr × Stmt) {a e : List Lexeme} → IsGuarded a g → {v : StmtKind} → Elses (arm_of g ∷ []) e v → IsStatement (word_at IfWord at ∷ (a ++ e)) v
if_made at g x (elses y) = if x y

the_if_into : (at : Place) (u : List Lexeme) (v : StmtKind) → Conditional u v → IsStatement (word_at IfWord at ∷ u) v
the_if_into at u v (then {a = g} x y) = if_made at g x y

the_if_from : {at : Place} {w : List Lexeme} (u : List Lexeme) {v : StmtKind} → w ≡ word_at IfWord at ∷ u → IsStatement w v → Conditional u v
the_if_from u eq (block x) = let b = block_begins x [] in absurd (cc (signs (sym b.1 ∙ ap (λ z. first (z ++ [])) eq)))
the_if_from {at = at} u eq (flat x) = absurd (not_flat [] {b = Some (word_at IfWord at)} refl refl refl (ap (λ z. first (z ++ [])) eq) x)
the_if_from u eq (if x y) = rw (← tails eq) (then x (elses y))
the_if_from u eq (while x) = absurd (cc (keywords (ap first eq)))
the_if_from u eq (for end end' closing i c s b) = absurd (cc (keywords (ap first eq)))
the_if_from u eq (cobegin closing a b m) = absurd (cc (keywords (ap first eq)))
the_if_from u eq (foreach comma closing l h s b) = absurd (cc (keywords (ap first eq)))

pub leads_the_if : {at : Place} {F : Option Lexeme → Type 0} {ls : List Lexeme} → Leads (λ u v. IsStatement (word_at IfWord at ∷ u) v) F ls Conditional ls
leads_the_if {at = at} = leads_choose (the_if_into at) (λ u r v h x s. the_if_from u refl x)

-- no `else` comes
over_into : (read : List Arm) (u : List Lexeme) (v : StmtKind) → Nothing (If read None) u v → Elses read u v
over_into read u v nothing = subst (λ z. Elses read [] (If z None)) (append-nil read) (elses no_else)

over_from : (read : List Arm) (u r : List Lexeme) (v : StmtKind) (ls : List Lexeme) → Lacks (word_at Else) ls → first (u ++ r) ≡ first ls → Elses read u v → Nothing (If read None) u v
over_from read u r v ls lacks h (elses no_else) = subst (λ z. Nothing (If read None) [] (If z None)) (sym (append-nil read)) nothing
over_from read u r v ls lacks h (elses (else_body {at = at} x)) = absurd (lacks at (sym h))
over_from read u r v ls lacks h (elses (else_if {at = at} x y)) = absurd (lacks at (sym h))

pub leads_over : {F : Option Lexeme → Type 0} {ls : List Lexeme} (read : List Arm) → Lacks (word_at Else) ls → Leads (Elses read) F ls (Nothing (If read None)) ls
leads_over {ls = ls} read lacks = leads_choose (over_into read) (λ u r v h x s. over_from read u r v ls lacks h x)

-- an `else` comes
abbrev pub AnElse : List Arm → List Lexeme → StmtKind → Type 0
AnElse read = Then (IsWord Else) (λ _. AfterElse read)

else_into : (read : List Arm) (u : List Lexeme) (v : StmtKind) → AnElse read u v → Elses read u v
else_into read u v (then (one {at = at}) (after_body {ls = b} {body = body} x)) = subst (λ z. Elses read (word_at Else at ∷ b) (If z (Some body))) (append-nil read) (elses (else_body x))
else_into read u v (then one (after_if x y)) = elses (else_if x y)

else_from : (read : List Arm) (u r : List Lexeme) (v : StmtKind) (at : Place) → first (u ++ r) ≡ Some (word_at Else at) → NoElse (first r) → Elses read u v → AnElse read u v
else_from read u r v at h s (elses no_else) = absurd (s at h)
else_from read u r v at h s (elses (else_body {at = at'} {b = b} {body = body} x)) = subst (λ z. AnElse read (word_at Else at' ∷ b) (If z (Some body))) (sym (append-nil read)) (then one (after_body x))
else_from read u r v at h s (elses (else_if x y)) = then one (after_if x y)

pub leads_else : {ls rest : List Lexeme} (read : List Arm) → Begins (word_at Else) ls rest → Leads (Elses read) NoElse ls (AnElse read) ls
leads_else read b = leads_choose (else_into read) (λ u r v h x s. else_from read u r v b.0 (h ∙ ap first b.1) s x)

-- no body begins with `if`
pub body_no_if : {u : List Lexeme} {v : Stmt} (r : List Lexeme) (at : Place) → first (u ++ r) ≡ Some (word_at IfWord at) → IsBody u v → ⊥
body_no_if r at h (block_body x) = let b = block_begins x r in absurd (cc (signs (sym b.1 ∙ h)))
body_no_if r at h (flat_body x) = not_flat r {b = Some (word_at IfWord at)} refl refl refl h x

-- one more arm comes
abbrev pub OneArm : List Arm → List Lexeme → StmtKind → Type 0
OneArm read = Then (IsWord IfWord) (λ _. Then IsGuarded (λ guarded. Elses (read ++ (arm_of guarded ∷ []))))

arm_made : (read : List Arm) (at : Place) (g : Expr × Stmt) (a e : List Lexeme) → IsGuarded a g → {v : StmtKind} → Elses (read ++ (arm_of g ∷ [])) e v → AfterElse read (word_at IfWord at ∷ (a ++ e)) v
arm_made read at g a e x (elses {more = more} {last = last} y) =
    subst (λ z. AfterElse read (word_at IfWord at ∷ (a ++ e)) (If z last)) (sym (append_assoc read (arm_of g ∷ []) more)) (after_if x y)

arm_into : (read : List Arm) (u : List Lexeme) (v : StmtKind) → OneArm read u v → AfterElse read u v
arm_into read u v (then (one {at = at}) (then {front = a} {back = e} {a = g} x y)) = arm_made read at g a e x y

arm_from : (read : List Arm) (u r : List Lexeme) (v : StmtKind) (at : Place) → first (u ++ r) ≡ Some (word_at IfWord at) → AfterElse read u v → OneArm read u v
arm_from read u r v at h (after_body x) = absurd (body_no_if r at h x)
arm_from read u r v at h (after_if {at = at'} {a = a} {e = e} {one = g} {more = more} {last = last} x y) =
    subst (λ z. OneArm read (word_at IfWord at' ∷ (a ++ e)) (If z last)) (append_assoc read (arm_of g ∷ []) more) (then one (then x (elses y)))

pub leads_arm : {F : Option Lexeme → Type 0} {ls rest : List Lexeme} (read : List Arm) → Begins (word_at IfWord) ls rest → Leads (AfterElse read) F ls (OneArm read) ls
leads_arm read b = leads_choose (arm_into read) (λ u r v h x s. arm_from read u r v b.0 (h ∙ ap first b.1) x)

-- the last body comes
abbrev pub LastBody : List Arm → List Lexeme → StmtKind → Type 0
LastBody read = Makes IsBody (λ body. If read (Some body))

last_into : (read : List Arm) (u : List Lexeme) (v : StmtKind) → LastBody read u v → AfterElse read u v
last_into read u v (makes x) = after_body x

last_from : (read : List Arm) (u r : List Lexeme) (v : StmtKind) (ls : List Lexeme) → Lacks (word_at IfWord) ls → first (u ++ r) ≡ first ls → AfterElse read u v → LastBody read u v
last_from read u r v ls lacks h (after_body x) = makes x
last_from read u r v ls lacks h (after_if {at = at} x y) = absurd (lacks at (sym h))

pub leads_last : {F : Option Lexeme → Type 0} {ls : List Lexeme} (read : List Arm) → Lacks (word_at IfWord) ls → Leads (AfterElse read) F ls (LastBody read) ls
leads_last {ls = ls} read lacks = leads_choose (last_into read) (λ u r v h x s. last_from read u r v ls lacks h x)

pub complete_elses : (read : List Arm) → Completes (Elses read)
complete_elses read = ([], If (read ++ []) None, elses no_else)

-- ---- `cobegin`

-- what stands behind branches that were read
abbrev pub BranchesRest : List Stmt → List Lexeme → StmtKind → Type 0
BranchesRest read = Then AreBranches (λ more. Makes (IsSign RightBrace) (λ _. Cobegin (read ++ more)))

abbrev pub Branched : List Lexeme → StmtKind → Type 0
Branched = Then (IsSign LeftBrace) (λ _. Then IsBranch (λ first. Then IsBranch (λ second. BranchesRest (first ∷ second ∷ []))))

cobegin_made : (at opening : Place) {a b m : List Lexeme} (left right : Stmt) (more : List Stmt) → IsBranch a left → IsBranch b right → AreBranches m more
    → {k : List Lexeme} {v : StmtKind} → Makes (IsSign RightBrace) (λ _. Cobegin (left ∷ right ∷ more)) k v → IsStatement (word_at CobeginWord at ∷ sign_at LeftBrace opening ∷ (a ++ (b ++ (m ++ k)))) v
cobegin_made at opening left right more x y z (makes (one {at = closing})) = cobegin closing x y z

the_cobegin_into : (at : Place) (u : List Lexeme) (v : StmtKind) → Branched u v → IsStatement (word_at CobeginWord at ∷ u) v
the_cobegin_into at u v (then (one {at = opening}) (then {a = x} a (then {a = y} b (then {a = more} m k)))) = cobegin_made at opening x y more a b m k

the_cobegin_from : {at : Place} {w : List Lexeme} (u : List Lexeme) {v : StmtKind} → w ≡ word_at CobeginWord at ∷ u → IsStatement w v → Branched u v
the_cobegin_from u eq (block x) = let b = block_begins x [] in absurd (cc (signs (sym b.1 ∙ ap (λ z. first (z ++ [])) eq)))
the_cobegin_from {at = at} u eq (flat x) = absurd (not_flat [] {b = Some (word_at CobeginWord at)} refl refl refl (ap (λ z. first (z ++ [])) eq) x)
the_cobegin_from u eq (if x y) = absurd (cc (keywords (ap first eq)))
the_cobegin_from u eq (while x) = absurd (cc (keywords (ap first eq)))
the_cobegin_from u eq (for end end' closing i c s b) = absurd (cc (keywords (ap first eq)))
the_cobegin_from u eq (cobegin closing a b m) = rw (← tails eq) (then one (then a (then b (then m (makes one)))))
the_cobegin_from u eq (foreach comma closing l h s b) = absurd (cc (keywords (ap first eq)))

pub leads_the_cobegin : {at : Place} {F : Option Lexeme → Type 0} {ls : List Lexeme} → Leads (λ u v. IsStatement (word_at CobeginWord at ∷ u) v) F ls Branched ls
leads_the_cobegin {at = at} = leads_choose (the_cobegin_into at) (λ u r v h x s. the_cobegin_from u refl x)

branch_begins : {u : List Lexeme} {v : Stmt} → IsBranch u v → (r : List Lexeme) → (at : Place) × (first (u ++ r) ≡ Some (sign_at LeftBrace at))
branch_begins (branch x) r = block_begins x r

closed_into : (read : List Stmt) (u : List Lexeme) (v : StmtKind) → Makes (IsSign RightBrace) (λ _. Cobegin read) u v → BranchesRest read u v
closed_into read u v (makes (one {at = at})) = subst (λ z. BranchesRest read (sign_at RightBrace at ∷ []) (Cobegin z)) (append-nil read) (then no_branch (makes one))

closed_from : (read : List Stmt) (u r : List Lexeme) (v : StmtKind) (at : Place) → first (u ++ r) ≡ Some (sign_at RightBrace at) → BranchesRest read u v → Makes (IsSign RightBrace) (λ _. Cobegin read) u v
closed_from read u r v at h (then no_branch (makes (one {at = at'}))) = subst (λ z. Makes (IsSign RightBrace) (λ _. Cobegin read) (sign_at RightBrace at' ∷ []) (Cobegin z)) (sym (append-nil read)) (makes one)
closed_from read u r v at h (then {back = k} (branches {b = b} {m = m} x y) z) =
    let c = branch_begins x (m ++ (k ++ r)) in
    absurd (cc (signs (sym c.1 ∙ ap first (sym (append_assoc (b ++ m) k r ∙ append_assoc b m (k ++ r))) ∙ h)))

pub leads_closed_branches : {F : Option Lexeme → Type 0} {ls rest : List Lexeme} (read : List Stmt) → Begins (sign_at RightBrace) ls rest → Leads (BranchesRest read) F ls (Makes (IsSign RightBrace) (λ _. Cobegin read)) ls
leads_closed_branches read b = leads_choose (closed_into read) (λ u r v h x s. closed_from read u r v b.0 (h ∙ ap first b.1) x)

abbrev pub OneBranch : List Stmt → List Lexeme → StmtKind → Type 0
OneBranch read = Then IsBranch (λ next. BranchesRest (read ++ (next ∷ [])))

more_made : (read : List Stmt) (b m : List Lexeme) (next : Stmt) (more : List Stmt) → IsBranch b next → AreBranches m more → {k : List Lexeme} {v : StmtKind}
    → Makes (IsSign RightBrace) (λ _. Cobegin ((read ++ (next ∷ [])) ++ more)) k v → BranchesRest read (b ++ (m ++ k)) v
more_made read b m next more x y (makes (one {at = at})) =
    subst (λ z. BranchesRest read (b ++ (m ++ (sign_at RightBrace at ∷ []))) (Cobegin z)) (sym (append_assoc read (next ∷ []) more))
    (subst (λ z. BranchesRest read z (Cobegin (read ++ (next ∷ more)))) (append_assoc b m (sign_at RightBrace at ∷ [])) (then (branches x y) (makes one)))

more_into : (read : List Stmt) (u : List Lexeme) (v : StmtKind) → OneBranch read u v → BranchesRest read u v
more_into read u v (then {front = b} {a = next} x (then {front = m} {a = more} y k)) = more_made read b m next more x y k

more_split : (read : List Stmt) (b m : List Lexeme) (next : Stmt) (more : List Stmt) → IsBranch b next → AreBranches m more → {k : List Lexeme} {v : StmtKind}
    → Makes (IsSign RightBrace) (λ _. Cobegin (read ++ (next ∷ more))) k v → OneBranch read ((b ++ m) ++ k) v
more_split read b m next more x y (makes (one {at = at})) =
    subst (λ z. OneBranch read z (Cobegin (read ++ (next ∷ more)))) (sym (append_assoc b m (sign_at RightBrace at ∷ [])))
    (subst (λ z. OneBranch read (b ++ (m ++ (sign_at RightBrace at ∷ []))) (Cobegin z)) (append_assoc read (next ∷ []) more) (then x (then y (makes one))))

more_from : (read : List Stmt) (u r : List Lexeme) (v : StmtKind) (ls : List Lexeme) → Lacks (sign_at RightBrace) ls → first (u ++ r) ≡ first ls → BranchesRest read u v → OneBranch read u v
more_from read u r v ls lacks h (then no_branch (makes (one {at = at}))) = absurd (lacks at (sym h))
more_from read u r v ls lacks h (then (branches {b = b} {m = m} {one = next} {more = more} x y) k) = more_split read b m next more x y k

pub leads_one_branch : {F : Option Lexeme → Type 0} {ls : List Lexeme} (read : List Stmt) → Lacks (sign_at RightBrace) ls → Leads (BranchesRest read) F ls (OneBranch read) ls
leads_one_branch {ls = ls} read lacks = leads_choose (more_into read) (λ u r v h x s. more_from read u r v ls lacks h x)

pub complete_branches : (read : List Stmt) → Completes (BranchesRest read)
complete_branches read = complete_then ([], [], no_branch) (λ more. complete_makes complete_one)

pub complete_second : (read : Stmt) → Completes (Then IsBranch (λ second. BranchesRest (read ∷ second ∷ [])))
complete_second read = complete_then complete_branch (λ second. complete_branches (read ∷ second ∷ []))
