-- The rules of expressions as sequences.
use Rattle.std.proofs.Common.{sym, ap, ◌∙◌, subst, refl, arith}
use Rattle.std.specs.Prelude.{◌≡◌, ℕ, suc, ◌+◌, ◌<◌, ◌≤◌, ℤ, Option, Some, List, [], ◌∷◌, ◌++◌}
use Rattle.std.proofs.lemmas.List.{append_assoc, append-nil}
use Rattle.lq_tree.specs.declared.place.Place.{Place}
use Rattle.lq_tree.specs.declared.expr.CType.{CType}
use Rattle.lq_tree.specs.declared.expr.BinOp.{BinOp}
use Rattle.lq_tree.specs.declared.expr.Expr.{Expr, Num, Var, Neg, Not, Bin, Index, Deref, Arrow, Dot, Call, Calloc}
use Rattle.lq_parser.specs.declared.lexeme.Lexeme.{Lexeme}
use Rattle.lq_parser.specs.declared.lexeme.Sign.{Sign}
use Rattle.lq_parser.specs.declared.lexeme.Sign.TheVariants.{LeftParen, RightParen, LeftBracket, RightBracket, Comma, Dot as DotSign, Arrow as ArrowSign, Minus, Star, Not as NotSign}
use Rattle.lq_parser.specs.declared.lexeme.Keyword.TheVariants.{Calloc as CallocWord, Sizeof}
use Rattle.lq_parser.specs.Lexemes.{first, sign_at, word_at, name_at, number_at, operator, looseness}
use Rattle.lq_parser.specs.Types.{IsType}
use Rattle.lq_parser.specs.Expressions.{IsPrimary, number, variable, call, calloc, parens, AreArguments, no_arguments, arguments, AreMore, no_more, more, IsTail, no_tail, index, arrow, dot, IsPostfix, primary, IsUnary, postfix, negative, not, deref, IsBinary, operand, joined, IsChain, no_chain, chain}
use Rattle.lq_parser.specs.Sequence.{Then, then, Makes, makes, Nothing, nothing, IsOne, one, IsWord, IsSign, IsName, held, IsEnclosed}
use Rattle.lq_parser.specs.Outcome.{Done, Fails, Begins, BeginsName, Lacks, LacksName, BeginsOperator, LacksOperator, binds, binds_as, binds_sign, Ends, Anything, NoParen, NoStar}
use Rattle.lq_parser.proofs.Followers.{ends_sign, sign_ends, binds_operator}
use Rattle.lq_parser.proofs.Apart.{keywords, signs, names, numbers, tails}
use Rattle.lq_parser.proofs.Leads.{Leads, leads_choose, leads_then, leads_one, leads_on, leads_makes, fails_then, fails_makes, done_nothing, stuck_one, Completes, complete_one, complete_then, complete_makes}
use Rattle.lq_parser.proofs.Cuts.{done_under, fails_under, leads_cut, first_then, first_makes}
use Rattle.lq_parser.proofs.Firsts.{CanBegin, by_name, by_number, by_calloc, by_paren, by_minus, by_not, by_star, none_begins, primary_begins, binary_begins, begins_on, complete_expression, complete_tail, complete_chain, complete_type}

-- ---- What follows

pub chain_follow : {n : ℕ} (a b : Expr) (g r : List Lexeme) → IsChain (suc n) a g b → Ends (suc n) (first r) → Ends n (first (g ++ r))
chain_follow a b g r no_chain ends = omega arith
chain_follow a b g r (chain {s = s} {op = op} e l x y) ends = let h = binds_operator s op e in omega arith

pub tail_follow : (a b : Expr) (g r : List Lexeme) → IsTail a g b → Ends 0 (first r) → NoParen (first (g ++ r))
tail_follow a b g r no_tail ends = λ at e. ends_sign e ends (omega arith)
tail_follow a b g r (index closing i t) ends = λ at e. cc (signs e)
tail_follow a b g r (arrow t) ends = λ at e. cc (signs e)
tail_follow a b g r (dot t) ends = λ at e. cc (signs e)

-- ---- Operands joined by operators

abbrev pub IsLevel : ℕ → List Lexeme → Expr → Type 0
IsLevel n ls e = IsBinary ls n e

operand_into : (u : List Lexeme) (v : Expr) → IsUnary u v → IsLevel 0 u v
operand_into u v x = operand x

operand_from : (u : List Lexeme) (v : Expr) → IsLevel 0 u v → IsUnary u v
operand_from u v (operand x) = x

pub leads_operand : {ls : List Lexeme} → Leads (λ u v. IsBinary u 0 v) (Ends 0) ls IsUnary ls
leads_operand = leads_choose operand_into (λ u r v h x s. operand_from u v x)

abbrev pub LevelAndChain : ℕ → List Lexeme → Expr → Type 0
LevelAndChain n = Then (λ u v. IsBinary u n v) (λ left. IsChain (suc n) left)

joined_into : {n : ℕ} (u : List Lexeme) (v : Expr) → LevelAndChain n u v → IsLevel (suc n) u v
joined_into u v (then x y) = joined x y

joined_from : {n : ℕ} (u : List Lexeme) (v : Expr) → IsLevel (suc n) u v → LevelAndChain n u v
joined_from u v (joined x y) = then x y

leads_level : {n : ℕ} {ls : List Lexeme} → Leads (λ u v. IsBinary u (suc n) v) (Ends (suc n)) ls (LevelAndChain n) ls
leads_level = leads_choose joined_into (λ u r v h x s. joined_from u v x)

pub leads_left : {n : ℕ} {ls rest : List Lexeme} {left : Expr} → Done (λ u v. IsBinary u n v) (Ends n) ls left rest
    → Leads (λ u v. IsBinary u (suc n) v) (Ends (suc n)) ls (IsChain (suc n) left) rest
leads_left d = leads_on leads_level (leads_then chain_follow d)

pub fails_left : {n : ℕ} {ls end : List Lexeme} → Fails (λ u v. IsBinary u n v) (Ends n) ls end → Fails (λ u v. IsBinary u (suc n) v) (Ends (suc n)) ls end
fails_left e = leads_level.fails _ (fails_then chain_follow (λ a. complete_chain) e)

-- ---- Operators of one looseness

abbrev pub OperatorFirst : ℕ → Sign → BinOp → Expr → List Lexeme → Expr → Type 0
OperatorFirst n s op left = Then (IsSign s) (λ _. Then (λ u v. IsBinary u n v) (λ right. IsChain (suc n) (Bin op left right)))

chain_into : {n : ℕ} {left : Expr} (s : Sign) (op : BinOp) → operator s ≡ Some op → looseness op ≡ suc n
    → (u : List Lexeme) (v : Expr) → OperatorFirst n s op left u v → IsChain (suc n) left u v
chain_into s op e l u v (then one (then x y)) = chain e l x y

chain_from : {n : ℕ} {left : Expr} (s : Sign) (op : BinOp) (at : Place) → operator s ≡ Some op → looseness op ≡ suc n
    → (u r : List Lexeme) (v : Expr) → first (u ++ r) ≡ Some (sign_at s at) → Ends (suc n) (first r) → IsChain (suc n) left u v → OperatorFirst n s op left u v
chain_from {n = n} s op at e l u r v h ends no_chain = absurd (ends_sign h ends (let b = binds_operator s op e in omega arith))
chain_from s op at e l u r v h ends (chain {s = t} {op = o} e' l' x y) =
    let same : t ≡ s = cc (signs h) in
    let agree : o ≡ op = cc (e, e', ap operator same) in
    rw (← same, ← agree) (then one (then x y))

pub leads_operator : {n : ℕ} {left : Expr} {ls rest : List Lexeme} {op : BinOp} → BeginsOperator (suc n) ls op rest
    → Leads (IsChain (suc n) left) (Ends (suc n)) ls (Then (λ u v. IsBinary u n v) (λ right. IsChain (suc n) (Bin op left right))) rest
leads_operator {op = op} b = leads_on
    (leads_choose (chain_into b.0 op b.3 b.4) (λ u r v h x s. chain_from b.0 op b.1 b.3 b.4 u r v (h ∙ ap first b.2) s x))
    (leads_one {make = sign_at b.0} (b.1, b.2))

pub leads_right : {n : ℕ} {left right : Expr} {ls mid rest : List Lexeme} {op : BinOp} → BeginsOperator (suc n) ls op mid
    → Done (λ u v. IsBinary u n v) (Ends n) mid right rest → Leads (IsChain (suc n) left) (Ends (suc n)) ls (IsChain (suc n) (Bin op left right)) rest
leads_right {left = left} {op = op} b d = leads_on (leads_operator b) (leads_then (λ right. chain_follow (Bin op left right)) d)

pub fails_right : {n : ℕ} {left : Expr} {ls mid end : List Lexeme} {op : BinOp} → BeginsOperator (suc n) ls op mid
    → Fails (λ u v. IsBinary u n v) (Ends n) mid end → Fails (IsChain (suc n) left) (Ends (suc n)) ls end
fails_right {left = left} {op = op} b e = (leads_operator b).fails _ (fails_then (λ right. chain_follow (Bin op left right)) (λ a. complete_chain) e)

no_chain_into : {n : ℕ} {left : Expr} (u : List Lexeme) (v : Expr) → Nothing left u v → IsChain n left u v
no_chain_into u v nothing = no_chain

no_chain_from : {n : ℕ} {left : Expr} (u r : List Lexeme) (v : Expr) (ls : List Lexeme) → LacksOperator n ls → first (u ++ r) ≡ first ls → IsChain n left u v → Nothing left u v
no_chain_from u r v ls lacks h no_chain = nothing
no_chain_from u r v ls lacks h (chain {at = at} {s = s} {op = op} e l x y) = absurd (lacks s at op (sym h) e l)

pub ends_chain : {n : ℕ} {left : Expr} {ls : List Lexeme} → LacksOperator n ls → Done (IsChain n left) (Ends n) ls left ls
ends_chain {ls = ls} lacks = (leads_choose no_chain_into (λ u r v h x s. no_chain_from u r v ls lacks h x)).done _ _ done_nothing

-- ---- Prefix signs

-- a primary begins with no sign but `(`
primary_sign : {u : List Lexeme} {v : Expr} {s : Sign} {at : Place} (r : List Lexeme) → IsPrimary u v → first (u ++ r) ≡ Some (sign_at s at) → LeftParen ≡ s
primary_sign r number h = absurd (cc (signs h))
primary_sign r variable h = absurd (cc (signs h))
primary_sign r (call closing a) h = absurd (cc (signs h))
primary_sign r (calloc comma size opening' closing' closing c t) h = absurd (cc (signs h))
primary_sign r (parens closing i) h = cc (signs h)

postfix_sign : {u : List Lexeme} {v : Expr} {s : Sign} {at : Place} (r : List Lexeme) → IsPostfix u v → first (u ++ r) ≡ Some (sign_at s at) → LeftParen ≡ s
postfix_sign r (primary {p = p} {t = t} x y) h = primary_sign (t ++ r) x (ap first (sym (append_assoc p t r)) ∙ h)

abbrev pub Prefixed : Sign → (Expr → Expr) → List Lexeme → Expr → Type 0
Prefixed s make = Then (IsSign s) (λ _. Makes IsUnary make)

minus_into : (u : List Lexeme) (v : Expr) → Prefixed Minus Neg u v → IsUnary u v
minus_into u v (then one (makes x)) = negative x

not_into : (u : List Lexeme) (v : Expr) → Prefixed NotSign Not u v → IsUnary u v
not_into u v (then one (makes x)) = not x

star_into : (u : List Lexeme) (v : Expr) → Prefixed Star Deref u v → IsUnary u v
star_into u v (then one (makes x)) = deref x

minus_from : (u r : List Lexeme) (v : Expr) (at : Place) → first (u ++ r) ≡ Some (sign_at Minus at) → IsUnary u v → Prefixed Minus Neg u v
minus_from u r v at h (postfix x) = absurd (cc (postfix_sign r x h))
minus_from u r v at h (negative x) = then one (makes x)
minus_from u r v at h (not x) = absurd (cc (signs h))
minus_from u r v at h (deref x) = absurd (cc (signs h))

not_from : (u r : List Lexeme) (v : Expr) (at : Place) → first (u ++ r) ≡ Some (sign_at NotSign at) → IsUnary u v → Prefixed NotSign Not u v
not_from u r v at h (postfix x) = absurd (cc (postfix_sign r x h))
not_from u r v at h (negative x) = absurd (cc (signs h))
not_from u r v at h (not x) = then one (makes x)
not_from u r v at h (deref x) = absurd (cc (signs h))

star_from : (u r : List Lexeme) (v : Expr) (at : Place) → first (u ++ r) ≡ Some (sign_at Star at) → IsUnary u v → Prefixed Star Deref u v
star_from u r v at h (postfix x) = absurd (cc (postfix_sign r x h))
star_from u r v at h (negative x) = absurd (cc (signs h))
star_from u r v at h (not x) = absurd (cc (signs h))
star_from u r v at h (deref x) = then one (makes x)

pub leads_minus : {ls rest : List Lexeme} → Begins (sign_at Minus) ls rest → Leads IsUnary (Ends 0) ls (Makes IsUnary Neg) rest
leads_minus b = leads_on (leads_choose minus_into (λ u r v h x s. minus_from u r v b.0 (h ∙ ap first b.1) x)) (leads_one b)

pub leads_not : {ls rest : List Lexeme} → Begins (sign_at NotSign) ls rest → Leads IsUnary (Ends 0) ls (Makes IsUnary Not) rest
leads_not b = leads_on (leads_choose not_into (λ u r v h x s. not_from u r v b.0 (h ∙ ap first b.1) x)) (leads_one b)

pub leads_star : {ls rest : List Lexeme} → Begins (sign_at Star) ls rest → Leads IsUnary (Ends 0) ls (Makes IsUnary Deref) rest
leads_star b = leads_on (leads_choose star_into (λ u r v h x s. star_from u r v b.0 (h ∙ ap first b.1) x)) (leads_one b)

postfix_into : (u : List Lexeme) (v : Expr) → IsPostfix u v → IsUnary u v
postfix_into u v x = postfix x

postfix_from : (u r : List Lexeme) (v : Expr) (ls : List Lexeme) → Lacks (sign_at Minus) ls → Lacks (sign_at NotSign) ls → Lacks (sign_at Star) ls
    → first (u ++ r) ≡ first ls → IsUnary u v → IsPostfix u v
postfix_from u r v ls minus bang star h (postfix x) = x
postfix_from u r v ls minus bang star h (negative {at = at} x) = absurd (minus at (sym h))
postfix_from u r v ls minus bang star h (not {at = at} x) = absurd (bang at (sym h))
postfix_from u r v ls minus bang star h (deref {at = at} x) = absurd (star at (sym h))

pub leads_postfix : {ls : List Lexeme} → Lacks (sign_at Minus) ls → Lacks (sign_at NotSign) ls → Lacks (sign_at Star) ls → Leads IsUnary (Ends 0) ls IsPostfix ls
leads_postfix {ls = ls} minus bang star = leads_choose postfix_into (λ u r v h x s. postfix_from u r v ls minus bang star h x)

-- ---- A primary and its tail

tailed_into : (u : List Lexeme) (v : Expr) → Then IsPrimary IsTail u v → IsPostfix u v
tailed_into u v (then p t) = primary p t

tailed_from : (u : List Lexeme) (v : Expr) → IsPostfix u v → Then IsPrimary IsTail u v
tailed_from u v (primary p t) = then p t

leads_tailed : {ls : List Lexeme} → Leads IsPostfix (Ends 0) ls (Then IsPrimary IsTail) ls
leads_tailed = leads_choose tailed_into (λ u r v h x s. tailed_from u v x)

pub leads_primary : {ls rest : List Lexeme} {before : Expr} → Done IsPrimary NoParen ls before rest → Leads IsPostfix (Ends 0) ls (IsTail before) rest
leads_primary d = leads_on leads_tailed (leads_then tail_follow d)

pub fails_primary : {ls end : List Lexeme} → Fails IsPrimary NoParen ls end → Fails IsPostfix (Ends 0) ls end
fails_primary e = leads_tailed.fails _ (fails_then tail_follow (λ a. complete_tail) e)

-- ---- Tails

-- an expression and the bracket that closes it
abbrev pub ClosedBy : Sign → List Lexeme → Expr → Type 0
ClosedBy bracket = Then (λ u v. IsBinary u 6 v) (λ e. Makes (IsSign bracket) (λ _. e))

pub closed_follow : (bracket : Sign) → 6 < binds_sign bracket → (a b : Expr) (g r : List Lexeme) → Makes (IsSign bracket) (λ _. a) g b → Anything (first r) → Ends 6 (first (g ++ r))
closed_follow bracket high a b g r x s = sign_ends (first_makes x r).1 high

pub leads_closed : (bracket : Sign) → 6 < binds_sign bracket → {ls rest : List Lexeme} {e : Expr} → Done (λ u v. IsBinary u 6 v) (Ends 6) ls e rest
    → Leads (ClosedBy bracket) Anything ls (Makes (IsSign bracket) (λ _. e)) rest
leads_closed bracket high d = leads_then (closed_follow bracket high) d

pub fails_closed : (bracket : Sign) → 6 < binds_sign bracket → {ls end : List Lexeme} → Fails (λ u v. IsBinary u 6 v) (Ends 6) ls end → Fails (ClosedBy bracket) Anything ls end
fails_closed bracket high f = fails_then (closed_follow bracket high) (λ e. complete_makes complete_one) f

abbrev pub Indexed : Expr → List Lexeme → Expr → Type 0
Indexed before = Then (IsSign LeftBracket) (λ _. Then (ClosedBy RightBracket) (λ at. IsTail (Index before at)))

abbrev pub Arrowed : Expr → List Lexeme → Expr → Type 0
Arrowed before = Then (IsSign ArrowSign) (λ _. Then (Makes IsName (Arrow before)) (λ e. IsTail e))

abbrev pub Dotted : Expr → List Lexeme → Expr → Type 0
Dotted before = Then (IsSign DotSign) (λ _. Then (Makes IsName (Dot before)) (λ e. IsTail e))

index_into : {before : Expr} (u : List Lexeme) (v : Expr) → Indexed before u v → IsTail before u v
index_into {before = before} u v (then (one {at = at}) (then {back = t} (then {front = i} x (makes (one {at = at'}))) y)) =
    subst (λ k. IsTail before (sign_at LeftBracket at ∷ k) v) (sym (append_assoc i (sign_at RightBracket at' ∷ []) t)) (index at' x y)

arrow_into : {before : Expr} (u : List Lexeme) (v : Expr) → Arrowed before u v → IsTail before u v
arrow_into u v (then one (then (makes held) t)) = arrow t

dot_into : {before : Expr} (u : List Lexeme) (v : Expr) → Dotted before u v → IsTail before u v
dot_into u v (then one (then (makes held) t)) = dot t

index_from : {before : Expr} (u r : List Lexeme) (v : Expr) (at : Place) → first (u ++ r) ≡ Some (sign_at LeftBracket at) → Ends 0 (first r) → IsTail before u v → Indexed before u v
index_from u r v at h ends no_tail = absurd (ends_sign h ends (omega arith))
index_from {before = before} u r v at h ends (index {opening = o} closing {i = i} {t = t} x y) =
    subst (λ k. Indexed before (sign_at LeftBracket o ∷ k) v) (append_assoc i (sign_at RightBracket closing ∷ []) t) (then one (then (then x (makes one)) y))
index_from u r v at h ends (arrow t) = absurd (cc (signs h))
index_from u r v at h ends (dot t) = absurd (cc (signs h))

arrow_from : {before : Expr} (u r : List Lexeme) (v : Expr) (at : Place) → first (u ++ r) ≡ Some (sign_at ArrowSign at) → Ends 0 (first r) → IsTail before u v → Arrowed before u v
arrow_from u r v at h ends no_tail = absurd (ends_sign h ends (omega arith))
arrow_from u r v at h ends (index closing i t) = absurd (cc (signs h))
arrow_from u r v at h ends (arrow t) = then one (then (makes held) t)
arrow_from u r v at h ends (dot t) = absurd (cc (signs h))

dot_from : {before : Expr} (u r : List Lexeme) (v : Expr) (at : Place) → first (u ++ r) ≡ Some (sign_at DotSign at) → Ends 0 (first r) → IsTail before u v → Dotted before u v
dot_from u r v at h ends no_tail = absurd (ends_sign h ends (omega arith))
dot_from u r v at h ends (index closing i t) = absurd (cc (signs h))
dot_from u r v at h ends (arrow t) = absurd (cc (signs h))
dot_from u r v at h ends (dot t) = then one (then (makes held) t)

leads_bracket : {before : Expr} {ls rest : List Lexeme} → Begins (sign_at LeftBracket) ls rest
    → Leads (IsTail before) (Ends 0) ls (Then (ClosedBy RightBracket) (λ at. IsTail (Index before at))) rest
leads_bracket b = leads_on (leads_choose index_into (λ u r v h x s. index_from u r v b.0 (h ∙ ap first b.1) s x)) (leads_one b)

leads_arrow : {before : Expr} {ls rest : List Lexeme} → Begins (sign_at ArrowSign) ls rest
    → Leads (IsTail before) (Ends 0) ls (Then (Makes IsName (Arrow before)) (λ e. IsTail e)) rest
leads_arrow b = leads_on (leads_choose arrow_into (λ u r v h x s. arrow_from u r v b.0 (h ∙ ap first b.1) s x)) (leads_one b)

leads_dot : {before : Expr} {ls rest : List Lexeme} → Begins (sign_at DotSign) ls rest
    → Leads (IsTail before) (Ends 0) ls (Then (Makes IsName (Dot before)) (λ e. IsTail e)) rest
leads_dot b = leads_on (leads_choose dot_into (λ u r v h x s. dot_from u r v b.0 (h ∙ ap first b.1) s x)) (leads_one b)

pub leads_element : {before at : Expr} {ls mid rest : List Lexeme} → Begins (sign_at LeftBracket) ls mid → Done (ClosedBy RightBracket) Anything mid at rest
    → Leads (IsTail before) (Ends 0) ls (IsTail (Index before at)) rest
leads_element {before = before} b d = leads_on (leads_bracket b) (leads_then {K = λ at. IsTail (Index before at)} (λ a v g r x s. tt) d)

pub fails_element : {before : Expr} {ls mid end : List Lexeme} → Begins (sign_at LeftBracket) ls mid → Fails (ClosedBy RightBracket) Anything mid end → Fails (IsTail before) (Ends 0) ls end
fails_element {before = before} b f = (leads_bracket b).fails _ (fails_then {K = λ at. IsTail (Index before at)} (λ a v g r x s. tt) (λ a. complete_tail) f)

pub leads_through : {before field : Expr} {ls mid rest : List Lexeme} → Begins (sign_at ArrowSign) ls mid → Done (Makes IsName (Arrow before)) Anything mid field rest
    → Leads (IsTail before) (Ends 0) ls (IsTail field) rest
leads_through b d = leads_on (leads_arrow b) (leads_then (λ a v g r x s. tt) d)

pub fails_through : {before : Expr} {ls mid end : List Lexeme} → Begins (sign_at ArrowSign) ls mid → Fails (Makes IsName (Arrow before)) Anything mid end → Fails (IsTail before) (Ends 0) ls end
fails_through b f = (leads_arrow b).fails _ (fails_then (λ a v g r x s. tt) (λ a. complete_tail) f)

pub leads_member : {before field : Expr} {ls mid rest : List Lexeme} → Begins (sign_at DotSign) ls mid → Done (Makes IsName (Dot before)) Anything mid field rest
    → Leads (IsTail before) (Ends 0) ls (IsTail field) rest
leads_member b d = leads_on (leads_dot b) (leads_then (λ a v g r x s. tt) d)

pub fails_member : {before : Expr} {ls mid end : List Lexeme} → Begins (sign_at DotSign) ls mid → Fails (Makes IsName (Dot before)) Anything mid end → Fails (IsTail before) (Ends 0) ls end
fails_member b f = (leads_dot b).fails _ (fails_then (λ a v g r x s. tt) (λ a. complete_tail) f)

no_tail_into : {before : Expr} (u : List Lexeme) (v : Expr) → Nothing before u v → IsTail before u v
no_tail_into u v nothing = no_tail

no_tail_from : {before : Expr} (u r : List Lexeme) (v : Expr) (ls : List Lexeme) → Lacks (sign_at LeftBracket) ls → Lacks (sign_at ArrowSign) ls → Lacks (sign_at DotSign) ls
    → first (u ++ r) ≡ first ls → IsTail before u v → Nothing before u v
no_tail_from u r v ls bracket to point h no_tail = nothing
no_tail_from u r v ls bracket to point h (index {opening = at} closing i t) = absurd (bracket at (sym h))
no_tail_from u r v ls bracket to point h (arrow {at = at} t) = absurd (to at (sym h))
no_tail_from u r v ls bracket to point h (dot {at = at} t) = absurd (point at (sym h))

pub ends_tail : {before : Expr} {ls : List Lexeme} → Lacks (sign_at LeftBracket) ls → Lacks (sign_at ArrowSign) ls → Lacks (sign_at DotSign) ls
    → Done (IsTail before) (Ends 0) ls before ls
ends_tail {ls = ls} bracket to point = (leads_choose no_tail_into (λ u r v h x s. no_tail_from u r v ls bracket to point h x)).done _ _ done_nothing

-- ---- Primaries

number_into : {value : ℤ} (u : List Lexeme) (v : Expr) → Makes (IsOne (number_at value)) (λ _. Num value) u v → IsPrimary u v
number_into u v (makes one) = number

number_from : {value : ℤ} (u r : List Lexeme) (v : Expr) (at : Place) → first (u ++ r) ≡ Some (number_at value at) → IsPrimary u v → Makes (IsOne (number_at value)) (λ _. Num value) u v
number_from {value = value} u r v at h (number {value = w}) = let same : w ≡ value = cc (numbers h) in rw (← same) (makes one)
number_from u r v at h variable = absurd (cc (numbers h))
number_from u r v at h (call closing a) = absurd (cc (numbers h))
number_from u r v at h (calloc comma size opening' closing' closing c t) = absurd (cc (numbers h))
number_from u r v at h (parens closing i) = absurd (cc (numbers h))

pub leads_number : {value : ℤ} {ls rest : List Lexeme} → Begins (number_at value) ls rest → Leads IsPrimary NoParen ls (Makes (IsOne (number_at value)) (λ _. Num value)) ls
leads_number b = leads_choose number_into (λ u r v h x s. number_from u r v b.0 (h ∙ ap first b.1) x)

abbrev pub InParens : List Lexeme → Expr → Type 0
InParens = Then (IsSign LeftParen) (λ _. ClosedBy RightParen)

parens_into : (u : List Lexeme) (v : Expr) → InParens u v → IsPrimary u v
parens_into u v (then one (then i (makes one))) = parens _ i

parens_from : (u r : List Lexeme) (v : Expr) (ls : List Lexeme) → ((value : ℤ) → Lacks (number_at value) ls) → LacksName ls → Lacks (word_at CallocWord) ls
    → first (u ++ r) ≡ first ls → IsPrimary u v → InParens u v
parens_from u r v ls digits name word h (number {at = at} {value = w}) = absurd (digits w at (sym h))
parens_from u r v ls digits name word h (variable {at = at} {text = t}) = absurd (name t at (sym h))
parens_from u r v ls digits name word h (call {at = at} closing {text = t} a) = absurd (name t at (sym h))
parens_from u r v ls digits name word h (calloc {at = at} comma size opening' closing' closing c t) = absurd (word at (sym h))
parens_from u r v ls digits name word h (parens closing i) = then one (then i (makes one))

pub leads_parens : {ls : List Lexeme} → ((value : ℤ) → Lacks (number_at value) ls) → LacksName ls → Lacks (word_at CallocWord) ls → Leads IsPrimary NoParen ls InParens ls
leads_parens {ls = ls} digits name word = leads_choose parens_into (λ u r v h x s. parens_from u r v ls digits name word h x)

never_nothing : (v : Expr) → IsPrimary [] v → ⊥
never_nothing v x = none_begins (primary_begins x)

pub leads_named : {text : List ℕ} {ls rest : List Lexeme} → (b : BeginsName ls text rest) → Leads IsPrimary NoParen ls (λ u v. IsPrimary (name_at text b.0 ∷ u) v) rest
leads_named b = leads_cut never_nothing b.1

pub leads_allocated : {ls rest : List Lexeme} → (b : Begins (word_at CallocWord) ls rest) → Leads IsPrimary NoParen ls (λ u v. IsPrimary (word_at CallocWord b.0 ∷ u) v) rest
leads_allocated b = leads_cut never_nothing b.1

-- ---- Behind a name

-- what may stand behind a name in a primary
pub data BehindName (text : List ℕ) : List Lexeme → Expr → Type 0 where
  alone : BehindName text [] (Var text)
  called : {opening : Place} (closing : Place) {a : List Lexeme} {args : List Expr}
      → AreArguments a args → BehindName text (sign_at LeftParen opening ∷ (a ++ (sign_at RightParen closing ∷ []))) (Call text args)

alone_at : {t text : List ℕ} {u : List Lexeme} → t ≡ text → [] ≡ u → BehindName text u (Var t)
alone_at same empty = rw (← empty, same) alone

called_at : {t text : List ℕ} {opening : Place} (closing : Place) {a u : List Lexeme} {args : List Expr}
    → t ≡ text → sign_at LeftParen opening ∷ (a ++ (sign_at RightParen closing ∷ [])) ≡ u → AreArguments a args → BehindName text u (Call t args)
called_at closing same rest x = rw (← rest, same) (called closing x)

behind_name : {w : List Lexeme} {v : Expr} (text : List ℕ) (at : Place) (u : List Lexeme) → w ≡ name_at text at ∷ u → IsPrimary w v → BehindName text u v
behind_name text at u e number = absurd (cc (names (ap first e)))
behind_name text at u e (variable {text = t}) = alone_at (cc (names (ap first e))) (tails e)
behind_name text at u e (call closing {text = t} x) = called_at closing (cc (names (ap first e))) (tails e) x
behind_name text at u e (calloc comma size opening' closing' closing c t) = absurd (cc (names (ap first e)))
behind_name text at u e (parens closing i) = absurd (cc (names (ap first e)))

before_name : (text : List ℕ) (at : Place) (u : List Lexeme) (v : Expr) → BehindName text u v → IsPrimary (name_at text at ∷ u) v
before_name text at u v alone = variable
before_name text at u v (called closing x) = call closing x

abbrev pub CallRest : List ℕ → List Lexeme → Expr → Type 0
CallRest text = Then (IsSign LeftParen) (λ _. Makes IsEnclosed (Call text))

call_into : {text : List ℕ} (u : List Lexeme) (v : Expr) → CallRest text u v → BehindName text u v
call_into u v (then one (makes (then x (makes one)))) = called _ x

call_from : {text : List ℕ} (u r : List Lexeme) (v : Expr) (at : Place) → first (u ++ r) ≡ Some (sign_at LeftParen at) → NoParen (first r) → BehindName text u v → CallRest text u v
call_from u r v at h ends alone = absurd (ends at h)
call_from u r v at h ends (called closing x) = then one (makes (then x (makes one)))

variable_into : {text : List ℕ} (u : List Lexeme) (v : Expr) → Nothing (Var text) u v → BehindName text u v
variable_into u v nothing = alone

variable_from : {text : List ℕ} (u r : List Lexeme) (v : Expr) (ls : List Lexeme) → Lacks (sign_at LeftParen) ls → first (u ++ r) ≡ first ls → BehindName text u v → Nothing (Var text) u v
variable_from u r v ls lacks h alone = nothing
variable_from u r v ls lacks h (called {opening = at} closing x) = absurd (lacks at (sym h))

leads_behind : {text : List ℕ} {at : Place} {ls : List Lexeme} → Leads (λ u v. IsPrimary (name_at text at ∷ u) v) NoParen ls (BehindName text) ls
leads_behind {text = text} {at = at} = leads_choose (before_name text at) (λ u r v h x s. behind_name text at u refl x)

pub leads_call : {text : List ℕ} {at : Place} {ls rest : List Lexeme} → Begins (sign_at LeftParen) ls rest
    → Leads (λ u v. IsPrimary (name_at text at ∷ u) v) NoParen ls (Makes IsEnclosed (Call text)) rest
leads_call b = leads_on leads_behind (leads_on (leads_choose call_into (λ u r v h x s. call_from u r v b.0 (h ∙ ap first b.1) s x)) (leads_one b))

pub done_variable : {text : List ℕ} {at : Place} {ls : List Lexeme} → Lacks (sign_at LeftParen) ls → Done (λ u v. IsPrimary (name_at text at ∷ u) v) NoParen ls (Var text) ls
done_variable {ls = ls} lacks = leads_behind.done _ _ ((leads_choose variable_into (λ u r v h x s. variable_from u r v ls lacks h x)).done _ _ done_nothing)

-- ---- Behind the word `calloc`

abbrev pub TypeEnd : CType → List Lexeme → CType → Type 0
TypeEnd type = Then (IsSign RightParen) (λ _. Makes (IsSign RightParen) (λ _. type))

abbrev pub TypeAndEnd : List Lexeme → CType → Type 0
TypeAndEnd = Then IsType (λ type. TypeEnd type)

abbrev pub ItemType : List Lexeme → CType → Type 0
ItemType = Then (IsSign Comma) (λ _. Then (IsWord Sizeof) (λ _. Then (IsSign LeftParen) (λ _. TypeAndEnd)))

abbrev pub AllocationRest : List Lexeme → Expr → Type 0
AllocationRest = Then (IsSign LeftParen) (λ _. Then (λ u v. IsBinary u 6 v) (λ count. Makes ItemType (Calloc count)))

type_closes : (type : CType) (g : List Lexeme) (v : CType) → TypeEnd type g v
    → (P : List Lexeme → CType → Type 0) → ((at at' : Place) → P (sign_at RightParen at ∷ sign_at RightParen at' ∷ []) type) → P g v
type_closes type g v (then one (makes one)) P closed = closed _ _

allocated_made : (at o : Place) {f : List Lexeme} {count : Expr} → IsBinary f 6 count → (g : List Lexeme) (v : Expr) → Makes ItemType (Calloc count) g v
    → IsPrimary (word_at CallocWord at ∷ sign_at LeftParen o ∷ (f ++ g)) v
allocated_made at o {f = f} {count = count} c u v (makes {a = made} (then (one {at = m}) (then (one {at = w}) (then (one {at = p}) (then {front = e} {back = g} {a = type} t s))))) =
    type_closes type g made s
    (λ k made. IsPrimary (word_at CallocWord at ∷ sign_at LeftParen o ∷ (f ++ (sign_at Comma m ∷ word_at Sizeof w ∷ sign_at LeftParen p ∷ (e ++ k)))) (Calloc count made))
    (λ closing closing'. calloc m w p closing closing' c t)

allocated_into : (at : Place) (u : List Lexeme) (v : Expr) → AllocationRest u v → IsPrimary (word_at CallocWord at ∷ u) v
allocated_into at u v (then (one {at = o}) (then {back = g} c x)) = allocated_made at o c g v x

allocated_from : {w : List Lexeme} {v : Expr} (at : Place) (u : List Lexeme) → w ≡ word_at CallocWord at ∷ u → IsPrimary w v → AllocationRest u v
allocated_from at u e number = absurd (cc (keywords (ap first e)))
allocated_from at u e variable = absurd (cc (keywords (ap first e)))
allocated_from at u e (call closing x) = absurd (cc (keywords (ap first e)))
allocated_from {v = v} at u e (calloc comma size opening' closing' closing c t) =
    subst (λ k. AllocationRest k v) (tails e) (then one (then c (makes (then one (then one (then one (then t (then one (makes one)))))))))
allocated_from at u e (parens closing i) = absurd (cc (keywords (ap first e)))

pub leads_allocation : {at : Place} {ls : List Lexeme} → Leads (λ u v. IsPrimary (word_at CallocWord at ∷ u) v) Anything ls AllocationRest ls
leads_allocation {at = at} = leads_choose (allocated_into at) (λ u r v h x s. allocated_from at u refl x)

item_first : {g : List Lexeme} {b : CType} (r : List Lexeme) → ItemType g b → (at : Place) × (first (g ++ r) ≡ Some (sign_at Comma at))
item_first r x = first_then x r

count_follow : (a b : Expr) (g r : List Lexeme) → Makes ItemType (Calloc a) g b → Anything (first r) → Ends 6 (first (g ++ r))
count_follow a b g r (makes x) s = sign_ends (item_first r x).1 (omega arith)

type_follow : (a b : CType) (g r : List Lexeme) → TypeEnd a g b → Anything (first r) → NoStar (first (g ++ r))
type_follow a b g r x s = λ at e. cc (signs (sym (first_then x r).1 ∙ e))

pub complete_end : (type : CType) → Completes (TypeEnd type)
complete_end type = complete_then complete_one (λ _. complete_makes complete_one)

pub complete_typed : Completes TypeAndEnd
complete_typed = complete_then complete_type (λ type. complete_end type)

pub complete_bracketed : Completes (Then (IsSign LeftParen) (λ _. TypeAndEnd))
complete_bracketed = complete_then complete_one (λ _. complete_typed)

pub complete_sized : Completes (Then (IsWord Sizeof) (λ _. Then (IsSign LeftParen) (λ _. TypeAndEnd)))
complete_sized = complete_then complete_one (λ _. complete_bracketed)

pub complete_item : Completes ItemType
complete_item = complete_then complete_one (λ _. complete_sized)

pub complete_count : (count : Expr) → Completes (Makes ItemType (Calloc count))
complete_count count = complete_makes complete_item

pub leads_type : {ls rest : List Lexeme} {type : CType} → Done IsType NoStar ls type rest → Leads TypeAndEnd Anything ls (TypeEnd type) rest
leads_type d = leads_then type_follow d

pub fails_type : {ls end : List Lexeme} → Fails IsType NoStar ls end → Fails TypeAndEnd Anything ls end
fails_type f = fails_then type_follow complete_end f

pub leads_count : {ls rest : List Lexeme} {count : Expr} → Done (λ u v. IsBinary u 6 v) (Ends 6) ls count rest
    → Leads (Then (λ u v. IsBinary u 6 v) (λ count. Makes ItemType (Calloc count))) Anything ls (Makes ItemType (Calloc count)) rest
leads_count d = leads_then count_follow d

pub fails_count : {ls end : List Lexeme} → Fails (λ u v. IsBinary u 6 v) (Ends 6) ls end
    → Fails (Then (λ u v. IsBinary u 6 v) (λ count. Makes ItemType (Calloc count))) Anything ls end
fails_count f = fails_then count_follow complete_count f

pub complete_counted : Completes (Then (λ u v. IsBinary u 6 v) (λ count. Makes ItemType (Calloc count)))
complete_counted = complete_then complete_expression complete_count

pub complete_closed : (bracket : Sign) → Completes (ClosedBy bracket)
complete_closed bracket = complete_then complete_expression (λ e. complete_makes complete_one)

-- ---- Arguments

-- the arguments that were read, with those to come and the `)`
abbrev pub MoreArguments : List Expr → List Lexeme → List Expr → Type 0
MoreArguments read = Then AreMore (λ rest. Makes (IsSign RightParen) (λ _. read ++ rest))

abbrev pub Ended : List Expr → List Lexeme → List Expr → Type 0
Ended read = Makes (IsSign RightParen) (λ _. read)

none_into : (u : List Lexeme) (v : List Expr) → Ended [] u v → IsEnclosed u v
none_into u v (makes one) = then no_arguments (makes one)

not_closed : {o : Option Lexeme} {at : Place} → o ≡ Some (sign_at RightParen at) → CanBegin o → ⊥
not_closed h (by_name text at e) = cc (signs (sym h ∙ e))
not_closed h (by_number value at e) = cc (signs (sym h ∙ e))
not_closed h (by_calloc at e) = cc (signs (sym h ∙ e))
not_closed h (by_paren at e) = cc (signs (sym h ∙ e))
not_closed h (by_minus at e) = cc (signs (sym h ∙ e))
not_closed h (by_not at e) = cc (signs (sym h ∙ e))
not_closed h (by_star at e) = cc (signs (sym h ∙ e))

none_from : (u r : List Lexeme) (v : List Expr) (at : Place) → first (u ++ r) ≡ Some (sign_at RightParen at) → IsEnclosed u v → Ended [] u v
none_from u r v at h (then no_arguments y) = y
none_from u r v at h (then {back = g} (arguments {e = e} {m = m} x y) z) = absurd (not_closed h (begins_on ((e ++ m) ++ g) r (begins_on (e ++ m) g (begins_on e m (binary_begins x)))))

pub leads_none : {ls : List Lexeme} {rest : List Lexeme} → Begins (sign_at RightParen) ls rest → Leads IsEnclosed Anything ls (Ended []) ls
leads_none b = leads_choose none_into (λ u r v h x s. none_from u r v b.0 (h ∙ ap first b.1) x)

abbrev pub FirstArgument : List Lexeme → List Expr → Type 0
FirstArgument = Then (λ u v. IsBinary u 6 v) (λ e. MoreArguments (e ∷ []))

first_into : (u : List Lexeme) (v : List Expr) → FirstArgument u v → IsEnclosed u v
first_into u v (then {front = f} x (then {front = m} {back = g} y z)) = subst (λ k. IsEnclosed k v) (append_assoc f m g) (then (arguments x y) z)

first_from : (u r : List Lexeme) (v : List Expr) (ls : List Lexeme) → Lacks (sign_at RightParen) ls → first (u ++ r) ≡ first ls → IsEnclosed u v → FirstArgument u v
first_from u r v ls lacks h (then no_arguments (makes (one {at = at}))) = absurd (lacks at (sym h))
first_from u r v ls lacks h (then {back = g} (arguments {e = e} {m = m} x y) z) = subst (λ k. FirstArgument k v) (sym (append_assoc e m g)) (then x (then y z))

pub argument_follow : (read : List Expr) (b : List Expr) (g r : List Lexeme) → MoreArguments read g b → Anything (first r) → Ends 6 (first (g ++ r))
argument_follow read b g r (then no_more (makes (one {at = at}))) s = sign_ends {s = RightParen} {at = at} refl (omega arith)
argument_follow read b g r (then (more {comma = at} x y) z) s = sign_ends {s = Comma} {at = at} refl (omega arith)

pub complete_more : (read : List Expr) → Completes (MoreArguments read)
complete_more read = complete_then ([], [], no_more) (λ rest. complete_makes complete_one)

leads_argument : {ls : List Lexeme} → Lacks (sign_at RightParen) ls → Leads IsEnclosed Anything ls FirstArgument ls
leads_argument {ls = ls} lacks = leads_choose first_into (λ u r v h x s. first_from u r v ls lacks h x)

pub leads_first : {ls rest : List Lexeme} {e : Expr} → Lacks (sign_at RightParen) ls → Done (λ u v. IsBinary u 6 v) (Ends 6) ls e rest
    → Leads IsEnclosed Anything ls (MoreArguments (e ∷ [])) rest
leads_first lacks d = leads_on (leads_argument lacks) (leads_then (λ e. argument_follow (e ∷ [])) d)

pub fails_first : {ls end : List Lexeme} → Lacks (sign_at RightParen) ls → Fails (λ u v. IsBinary u 6 v) (Ends 6) ls end → Fails IsEnclosed Anything ls end
fails_first lacks f = (leads_argument lacks).fails _ (fails_then (λ e. argument_follow (e ∷ [])) (λ e. complete_more (e ∷ [])) f)

abbrev pub NextArgument : List Expr → List Lexeme → List Expr → Type 0
NextArgument read = Then (λ u v. IsBinary u 6 v) (λ e. MoreArguments (read ++ (e ∷ [])))

next_into : (read : List Expr) (u : List Lexeme) (v : List Expr) → Then (IsSign Comma) (λ _. NextArgument read) u v → MoreArguments read u v
next_into read u v (then (one {at = at}) (then {front = f} {a = e} x (then {front = m} {back = g} {a = rest} y z))) =
    subst (λ k. MoreArguments read (sign_at Comma at ∷ k) v) (append_assoc f m g)
    (then (more x y) (subst (λ k. Makes (IsSign RightParen) (λ _. k) g v) (append_assoc read (e ∷ []) rest) z))

next_from : (read : List Expr) (u r : List Lexeme) (v : List Expr) (at : Place) → first (u ++ r) ≡ Some (sign_at Comma at) → MoreArguments read u v → Then (IsSign Comma) (λ _. NextArgument read) u v
next_from read u r v at h (then no_more (makes one)) = absurd (cc (signs h))
next_from read u r v at h (then {back = g} (more {comma = c} {e = f} {m = m} {argument = e} {rest = rest} x y) z) =
    subst (λ k. Then (IsSign Comma) (λ _. NextArgument read) (sign_at Comma c ∷ k) v) (sym (append_assoc f m g))
    (then one (then x (then y (subst (λ k. Makes (IsSign RightParen) (λ _. k) g v) (sym (append_assoc read (e ∷ []) rest)) z))))

leads_comma : (read : List Expr) {ls rest : List Lexeme} → Begins (sign_at Comma) ls rest → Leads (MoreArguments read) Anything ls (NextArgument read) rest
leads_comma read b = leads_on (leads_choose (next_into read) (λ u r v h x s. next_from read u r v b.0 (h ∙ ap first b.1) x)) (leads_one b)

pub leads_next : (read : List Expr) {ls mid rest : List Lexeme} {e : Expr} → Begins (sign_at Comma) ls mid → Done (λ u v. IsBinary u 6 v) (Ends 6) mid e rest
    → Leads (MoreArguments read) Anything ls (MoreArguments (read ++ (e ∷ []))) rest
leads_next read b d = leads_on (leads_comma read b) (leads_then (λ e. argument_follow (read ++ (e ∷ []))) d)

pub fails_next : (read : List Expr) {ls mid end : List Lexeme} → Begins (sign_at Comma) ls mid → Fails (λ u v. IsBinary u 6 v) (Ends 6) mid end → Fails (MoreArguments read) Anything ls end
fails_next read b f = (leads_comma read b).fails _ (fails_then (λ e. argument_follow (read ++ (e ∷ []))) (λ e. complete_more (read ++ (e ∷ []))) f)

ended_into : {read : List Expr} (u : List Lexeme) (v : List Expr) → Ended read u v → MoreArguments read u v
ended_into {read = read} u v z = then no_more (subst (λ k. Makes (IsSign RightParen) (λ _. k) u v) (sym (append-nil read)) z)

ended_from : {read : List Expr} (u r : List Lexeme) (v : List Expr) (ls : List Lexeme) → Lacks (sign_at Comma) ls → first (u ++ r) ≡ first ls → MoreArguments read u v → Ended read u v
ended_from {read = read} u r v ls lacks h (then {back = g} no_more z) = subst (λ k. Makes (IsSign RightParen) (λ _. k) g v) (append-nil read) z
ended_from u r v ls lacks h (then (more {comma = at} x y) z) = absurd (lacks at (sym h))

pub leads_ended : {read : List Expr} {ls : List Lexeme} → Lacks (sign_at Comma) ls → Leads (MoreArguments read) Anything ls (Ended read) ls
leads_ended {ls = ls} lacks = leads_choose ended_into (λ u r v h x s. ended_from u r v ls lacks h x)

-- ---- What the functions answer

-- operands of one level, and their chain
pub joins : {m n : ℕ} {ls rest end : List Lexeme} {left v : Expr} → suc m ≡ n → Done (λ u v. IsBinary u m v) (Ends m) ls left rest
    → Done (IsChain (suc m) left) (Ends (suc m)) rest v end → Done (λ u v. IsBinary u n v) (Ends n) ls v end
joins {ls = ls} {end = end} {v = v} e d k = subst (λ n. Done (λ u v. IsBinary u n v) (Ends n) ls v end) e ((leads_left d).done _ _ k)

pub joins_stop : {m n : ℕ} {ls rest end : List Lexeme} {left : Expr} → suc m ≡ n → Done (λ u v. IsBinary u m v) (Ends m) ls left rest
    → Fails (IsChain (suc m) left) (Ends (suc m)) rest end → Fails (λ u v. IsBinary u n v) (Ends n) ls end
joins_stop {ls = ls} {end = end} e d k = subst (λ n. Fails (λ u v. IsBinary u n v) (Ends n) ls end) e ((leads_left d).fails _ k)

pub joins_left : {m n : ℕ} {ls end : List Lexeme} → suc m ≡ n → Fails (λ u v. IsBinary u m v) (Ends m) ls end → Fails (λ u v. IsBinary u n v) (Ends n) ls end
joins_left {ls = ls} {end = end} e k = subst (λ n. Fails (λ u v. IsBinary u n v) (Ends n) ls end) e (fails_left k)

pub tightest : {n : ℕ} {ls end : List Lexeme} {v : Expr} → 0 ≡ n → Done IsUnary (Ends 0) ls v end → Done (λ u v. IsBinary u n v) (Ends n) ls v end
tightest {ls = ls} {end = end} {v = v} e d = subst (λ n. Done (λ u v. IsBinary u n v) (Ends n) ls v end) e (leads_operand.done _ _ d)

pub tightest_stop : {n : ℕ} {ls end : List Lexeme} → 0 ≡ n → Fails IsUnary (Ends 0) ls end → Fails (λ u v. IsBinary u n v) (Ends n) ls end
tightest_stop {ls = ls} {end = end} e d = subst (λ n. Fails (λ u v. IsBinary u n v) (Ends n) ls end) e (leads_operand.fails _ d)

-- the code counts `n + 1`
pub begins_suc : {n : ℕ} {ls rest : List Lexeme} {op : BinOp} → BeginsOperator (n + 1) ls op rest → BeginsOperator (suc n) ls op rest
begins_suc b = (b.0, b.1, b.2, b.3, b.4 ∙ omega arith)

pub lacks_suc : {n : ℕ} (ls : List Lexeme) → LacksOperator (n + 1) ls → LacksOperator (suc n) ls
lacks_suc ls lacks = λ s at op h e l. lacks s at op h e (l ∙ omega arith)

pub chains : {n : ℕ} {left right e v : Expr} {ls mid rest end : List Lexeme} {op : BinOp} → BeginsOperator (suc n) ls op mid → Done (λ u v. IsBinary u n v) (Ends n) mid right rest
    → e ≡ Bin op left right → Done (IsChain (suc n) e) (Ends (suc n)) rest v end → Done (IsChain (suc n) left) (Ends (suc n)) ls v end
chains {n = n} {v = v} {rest = rest} {end = end} b d same k = (leads_right b d).done _ _ (subst (λ e. Done (IsChain (suc n) e) (Ends (suc n)) rest v end) same k)

pub chains_stop : {n : ℕ} {left right e : Expr} {ls mid rest end : List Lexeme} {op : BinOp} → BeginsOperator (suc n) ls op mid → Done (λ u v. IsBinary u n v) (Ends n) mid right rest
    → e ≡ Bin op left right → Fails (IsChain (suc n) e) (Ends (suc n)) rest end → Fails (IsChain (suc n) left) (Ends (suc n)) ls end
chains_stop {n = n} {rest = rest} {end = end} b d same k = (leads_right b d).fails _ (subst (λ e. Fails (IsChain (suc n) e) (Ends (suc n)) rest end) same k)

-- the tail behind what another expression was made of
pub tails_element : {before at e v : Expr} {ls mid rest end : List Lexeme} → Begins (sign_at LeftBracket) ls mid → Done (ClosedBy RightBracket) Anything mid at rest
    → e ≡ Index before at → Done (IsTail e) (Ends 0) rest v end → Done (IsTail before) (Ends 0) ls v end
tails_element {v = v} {rest = rest} {end = end} b d same k = (leads_element b d).done _ _ (subst (λ e. Done (IsTail e) (Ends 0) rest v end) same k)

pub tails_element_stop : {before at e : Expr} {ls mid rest end : List Lexeme} → Begins (sign_at LeftBracket) ls mid → Done (ClosedBy RightBracket) Anything mid at rest
    → e ≡ Index before at → Fails (IsTail e) (Ends 0) rest end → Fails (IsTail before) (Ends 0) ls end
tails_element_stop {rest = rest} {end = end} b d same k = (leads_element b d).fails _ (subst (λ e. Fails (IsTail e) (Ends 0) rest end) same k)

pub calls_on : {text : List ℕ} {at : Place} {e : Expr} {args : List Expr} {ls mid rest : List Lexeme} → Begins (sign_at LeftParen) ls mid → Done IsEnclosed Anything mid args rest
    → e ≡ Call text args → Done (λ u v. IsPrimary (name_at text at ∷ u) v) NoParen ls e rest
calls_on {text = text} {at = at} {ls = ls} {rest = rest} b d same = subst (λ e. Done (λ u v. IsPrimary (name_at text at ∷ u) v) NoParen ls e rest) (sym same)
    ((leads_call b).done _ _ (leads_makes (done_under (λ next s. tt) d)))

pub calls_stop : {text : List ℕ} {at : Place} {ls mid end : List Lexeme} → Begins (sign_at LeftParen) ls mid → Fails IsEnclosed Anything mid end
    → Fails (λ u v. IsPrimary (name_at text at ∷ u) v) NoParen ls end
calls_stop b f = (leads_call b).fails _ (fails_makes (fails_under (λ next s. tt) f))

pub variable_on : {text : List ℕ} {at : Place} {e : Expr} {ls : List Lexeme} → Lacks (sign_at LeftParen) ls → e ≡ Var text → Done (λ u v. IsPrimary (name_at text at ∷ u) v) NoParen ls e ls
variable_on {text = text} {at = at} {ls = ls} lacks same = subst (λ e. Done (λ u v. IsPrimary (name_at text at ∷ u) v) NoParen ls e ls) (sym same) (done_variable lacks)

-- what a `calloc` reads
pub allocates : {at : Place} {ls mid rest end : List Lexeme} {count e : Expr} {type : CType} → Begins (sign_at LeftParen) ls mid → Done (λ u v. IsBinary u 6 v) (Ends 6) mid count rest
    → Done ItemType Anything rest type end → e ≡ Calloc count type → Done (λ u v. IsPrimary (word_at CallocWord at ∷ u) v) Anything ls e end
allocates {at = at} {ls = ls} {end = end} b d t same = subst (λ e. Done (λ u v. IsPrimary (word_at CallocWord at ∷ u) v) Anything ls e end) (sym same)
    (leads_allocation.done _ _ ((leads_one b).done _ _ ((leads_count d).done _ _ (leads_makes t))))

pub allocates_open : {at : Place} {ls : List Lexeme} → Lacks (sign_at LeftParen) ls → Fails (λ u v. IsPrimary (word_at CallocWord at ∷ u) v) Anything ls ls
allocates_open lacks = leads_allocation.fails _ (stuck_one complete_counted lacks)

pub allocates_count : {at : Place} {ls mid end : List Lexeme} → Begins (sign_at LeftParen) ls mid → Fails (λ u v. IsBinary u 6 v) (Ends 6) mid end → Fails (λ u v. IsPrimary (word_at CallocWord at ∷ u) v) Anything ls end
allocates_count b f = leads_allocation.fails _ ((leads_one b).fails _ (fails_count f))

pub allocates_type : {at : Place} {ls mid rest end : List Lexeme} {count : Expr} → Begins (sign_at LeftParen) ls mid → Done (λ u v. IsBinary u 6 v) (Ends 6) mid count rest
    → Fails ItemType Anything rest end → Fails (λ u v. IsPrimary (word_at CallocWord at ∷ u) v) Anything ls end
allocates_type b d f = leads_allocation.fails _ ((leads_one b).fails _ ((leads_count d).fails _ (fails_makes f)))

-- the arguments behind those that were read
pub goes_first : {ls rest end : List Lexeme} {e : Expr} {read v : List Expr} → Lacks (sign_at RightParen) ls → Done (λ u v. IsBinary u 6 v) (Ends 6) ls e rest → read ≡ e ∷ []
    → Done (MoreArguments read) Anything rest v end → Done IsEnclosed Anything ls v end
goes_first {rest = rest} {end = end} {v = v} lacks d same k = (leads_first lacks d).done _ _ (subst (λ read. Done (MoreArguments read) Anything rest v end) same k)

pub goes_first_stop : {ls rest end : List Lexeme} {e : Expr} {read : List Expr} → Lacks (sign_at RightParen) ls → Done (λ u v. IsBinary u 6 v) (Ends 6) ls e rest → read ≡ e ∷ []
    → Fails (MoreArguments read) Anything rest end → Fails IsEnclosed Anything ls end
goes_first_stop {rest = rest} {end = end} lacks d same k = (leads_first lacks d).fails _ (subst (λ read. Fails (MoreArguments read) Anything rest end) same k)

pub goes_on : (read : List Expr) {ls mid rest end : List Lexeme} {e : Expr} {all v : List Expr} → Begins (sign_at Comma) ls mid → Done (λ u v. IsBinary u 6 v) (Ends 6) mid e rest → all ≡ read ++ (e ∷ [])
    → Done (MoreArguments all) Anything rest v end → Done (MoreArguments read) Anything ls v end
goes_on read {rest = rest} {end = end} {v = v} b d same k = (leads_next read b d).done _ _ (subst (λ all. Done (MoreArguments all) Anything rest v end) same k)

pub goes_on_stop : (read : List Expr) {ls mid rest end : List Lexeme} {e : Expr} {all : List Expr} → Begins (sign_at Comma) ls mid → Done (λ u v. IsBinary u 6 v) (Ends 6) mid e rest → all ≡ read ++ (e ∷ [])
    → Fails (MoreArguments all) Anything rest end → Fails (MoreArguments read) Anything ls end
goes_on_stop read {rest = rest} {end = end} b d same k = (leads_next read b d).fails _ (subst (λ all. Fails (MoreArguments all) Anything rest end) same k)
