-- Lexemes spell at most one expression, where what follows it may.
use Rattle.std.proofs.Common.{sym, ap, ◌∙◌, refl, arith}
use Rattle.std.specs.Prelude.{◌≡◌, ◌<◌, ℕ, Bool, true, false, Option, None, Some, List, [], ◌∷◌, ◌++◌}
use Rattle.std.proofs.lemmas.List.{append_assoc}
use Rattle.lq_tree.specs.declared.place.Place.{Place}
use Rattle.lq_tree.specs.declared.expr.BinOp.{BinOp}
use Rattle.lq_tree.specs.declared.expr.Expr.{Expr, Num, Var, Neg, Not, Bin, Index, Deref, Arrow, Dot, Call, Calloc}
use Rattle.lq_parser.specs.declared.lexeme.Lexeme.{Lexeme}
use Rattle.lq_parser.specs.declared.lexeme.Sign.{Sign}
use Rattle.lq_parser.specs.declared.lexeme.Sign.TheVariants.{LeftParen, RightParen, LeftBracket, RightBracket, Comma, Minus, Star, Dot as DotSign, Arrow as ArrowSign, Not as NotSign}
use Rattle.lq_parser.specs.declared.lexeme.Keyword.TheVariants.{Calloc as CallocWord, Sizeof}
use Rattle.lq_parser.specs.declared.lexeme.Symbol.{Symbol}
use Rattle.lq_parser.specs.declared.lexeme.Symbol.TheVariants.{Name, Number, Sign as SignSymbol, Keyword as KeywordSymbol}
use Rattle.lq_parser.specs.Lexemes.{first, sign_at, word_at, operator}
use Rattle.lq_parser.specs.Expressions.{IsPrimary, number, variable, call, calloc, parens, AreArguments, no_arguments, arguments, AreMore, no_more, more, IsTail, no_tail, index, arrow, dot, IsPostfix, primary, IsUnary, postfix, negative, not, deref, IsBinary, operand, joined, IsChain, no_chain, chain}
use Rattle.lq_parser.specs.Outcome.{NoParen, Ends, binds_symbol}
use Rattle.lq_parser.proofs.ExpressionRules.{chain_follow, tail_follow}
use Rattle.lq_parser.proofs.Followers.{Heads, ends_sign, sign_ends, binds_operator}
use Rattle.lq_parser.proofs.Apart.{symbol_of, signs, tails, symbols, same_text, same_number}
use Rattle.lq_parser.proofs.OneType.{both, shift, differs, one_type}

-- ---- what expressions begin with

abbrev pub begins_symbol : Option Symbol → Bool
begins_symbol (Some (Name text)) = true
begins_symbol (Some (Number value)) = true
begins_symbol (Some (KeywordSymbol CallocWord)) = true
begins_symbol (Some (SignSymbol LeftParen)) = true
begins_symbol (Some (SignSymbol Minus)) = true
begins_symbol (Some (SignSymbol NotSign)) = true
begins_symbol (Some (SignSymbol Star)) = true
begins_symbol _ = false

abbrev pub begins_expression : Option Lexeme → Bool
begins_expression next = begins_symbol (symbol_of next)

-- the signs that stand before an operand, and none
abbrev prefix_symbol : Option Symbol → ℕ
prefix_symbol (Some (SignSymbol Minus)) = 1
prefix_symbol (Some (SignSymbol NotSign)) = 2
prefix_symbol (Some (SignSymbol Star)) = 3
prefix_symbol _ = 0

abbrev prefix : Option Lexeme → ℕ
prefix next = prefix_symbol (symbol_of next)

primary_first : {u : List Lexeme} {e : Expr} → IsPrimary u e → (r : List Lexeme) → begins_expression (first (u ++ r)) ≡ true
primary_first number r = refl
primary_first variable r = refl
primary_first (call closing a) r = refl
primary_first (calloc comma size opening' closing' closing c t) r = refl
primary_first (parens closing i) r = refl

primary_prefix : {u : List Lexeme} {e : Expr} → IsPrimary u e → (r : List Lexeme) → prefix (first (u ++ r)) ≡ 0
primary_prefix number r = refl
primary_prefix variable r = refl
primary_prefix (call closing a) r = refl
primary_prefix (calloc comma size opening' closing' closing c t) r = refl
primary_prefix (parens closing i) r = refl

pub postfix_first : {u : List Lexeme} {e : Expr} → IsPostfix u e → (r : List Lexeme) → begins_expression (first (u ++ r)) ≡ true
postfix_first (primary {p = p} {t = t} x y) r = ap (λ w. begins_expression (first w)) (append_assoc p t r) ∙ primary_first x (t ++ r)

postfix_prefix : {u : List Lexeme} {e : Expr} → IsPostfix u e → (r : List Lexeme) → prefix (first (u ++ r)) ≡ 0
postfix_prefix (primary {p = p} {t = t} x y) r = ap (λ w. prefix (first w)) (append_assoc p t r) ∙ primary_prefix x (t ++ r)

pub unary_first : {u : List Lexeme} {e : Expr} → IsUnary u e → (r : List Lexeme) → begins_expression (first (u ++ r)) ≡ true
unary_first (postfix x) r = postfix_first x r
unary_first (negative x) r = refl
unary_first (not x) r = refl
unary_first (deref x) r = refl

pub expression_first : {u : List Lexeme} {n : ℕ} {e : Expr} → IsBinary u n e → (r : List Lexeme) → begins_expression (first (u ++ r)) ≡ true
expression_first (operand x) r = unary_first x r
expression_first (joined {l = l} {c = c} x y) r = ap (λ w. begins_expression (first w)) (append_assoc l c r) ∙ expression_first x (c ++ r)

-- ---- what follows them

more_ends : {m : List Lexeme} {a : List Expr} → AreMore m a → (r : List Lexeme) → Heads (sign_at RightParen) (first r) → Ends 6 (first (m ++ r))
more_ends no_more r (at, e) = sign_ends e (omega arith)
more_ends (more x y) r h = omega arith

-- what makes a primary longer, by its first sign, and what doesn't
abbrev access_symbol : Option Symbol → ℕ
access_symbol (Some (SignSymbol LeftBracket)) = 1
access_symbol (Some (SignSymbol ArrowSign)) = 2
access_symbol (Some (SignSymbol DotSign)) = 3
access_symbol _ = 0

abbrev access : Option Lexeme → ℕ
access next = access_symbol (symbol_of next)

abbrev tail_access : {before e : Expr} {u : List Lexeme} → IsTail before u e → ℕ
tail_access no_tail = 0
tail_access (index closing i t) = 1
tail_access (arrow t) = 2
tail_access (dot t) = 3

symbol_access : (s : Symbol) → 0 < binds_symbol s → access_symbol (Some s) ≡ 0
symbol_access (SignSymbol LeftBracket) h = absurd (omega arith)
symbol_access (SignSymbol ArrowSign) h = absurd (omega arith)
symbol_access (SignSymbol DotSign) h = absurd (omega arith)
symbol_access s h = refl

ends_access : (next : Option Lexeme) → Ends 0 next → access next ≡ 0
ends_access None h = refl
ends_access (Some l) h = symbol_access l.symbol h

tail_first : {before e : Expr} {u : List Lexeme} → (t : IsTail before u e) → (r : List Lexeme) → Ends 0 (first r) → access (first (u ++ r)) ≡ tail_access t
tail_first no_tail r h = ends_access (first r) h
tail_first (index closing i t) r h = refl
tail_first (arrow t) r h = refl
tail_first (dot t) r h = refl

abbrev unary_prefix : {u : List Lexeme} {e : Expr} → IsUnary u e → ℕ
unary_prefix (postfix x) = 0
unary_prefix (negative x) = 1
unary_prefix (not x) = 2
unary_prefix (deref x) = 3

unary_prefix_first : {u : List Lexeme} {e : Expr} → (x : IsUnary u e) → (r : List Lexeme) → prefix (first (u ++ r)) ≡ unary_prefix x
unary_prefix_first (postfix x) r = postfix_prefix x r
unary_prefix_first (negative x) r = refl
unary_prefix_first (not x) r = refl
unary_prefix_first (deref x) r = refl

-- signs of one operator
same_operator : {s s' : Sign} {at at' : Place} {op op' : BinOp} {w w' : List Lexeme} → sign_at s at ∷ w ≡ sign_at s' at' ∷ w' → operator s ≡ Some op → operator s' ≡ Some op' → op ≡ op'
same_operator e h h' = of_some (sym h ∙ ap operator (sign_of_some (signs (ap first e))) ∙ h')
  where
    of_some : {A : Type 0} {a b : A} → Some a ≡ Some b → a ≡ b
    of_some q = cc

    sign_of_some : {a b : Sign} → Some a ≡ Some b → a ≡ b
    sign_of_some q = cc

joined_same : {op op' : BinOp} {a a' b b' : Expr} → op ≡ op' → a ≡ a' → b ≡ b' → Bin op a b ≡ Bin op' a' b'
joined_same p q h = cc

mutual
  pub one_primary : {u u' : List Lexeme} {v v' : Expr} → IsPrimary u v → IsPrimary u' v' → (r r' : List Lexeme) → NoParen (first r) → NoParen (first r') → u ++ r ≡ u' ++ r' → (v ≡ v') × (r ≡ r')
  one_primary number number r r' f f' e = (ap Num (same_number e), tails e)
  one_primary variable variable r r' f f' e = (ap Var (same_text e), tails e)
  one_primary variable (call {opening = opening} closing a) r r' f f' e = absurd (f opening (ap first (tails e)))
  one_primary (call {opening = opening} closing a) variable r r' f f' e = absurd (f' opening (sym (ap first (tails e))))
  one_primary (call closing {a = a} x) (call closing' {a = a'} x') r r' f f' e =
      let p = one_arguments x x' (sign_at RightParen closing ∷ r) (sign_at RightParen closing' ∷ r') (closing, refl) (closing', refl) (shift a _ r a' _ r' (tails (tails e))) in
      (both Call (same_text e) p.0, tails p.1)
  one_primary (calloc comma size opening' closing' closing {c = c} {t = t} x y) (calloc comma1 size1 opening1 closing1 closing2 {c = c1} {t = t1} x1 y1) r r' f f' e =
      let back = sign_at RightParen closing' ∷ sign_at RightParen closing ∷ [] in
      let back1 = sign_at RightParen closing1 ∷ sign_at RightParen closing2 ∷ [] in
      let p = one_binary x x1 (sign_at Comma comma ∷ word_at Sizeof size ∷ sign_at LeftParen opening' ∷ ((t ++ back) ++ r)) (sign_at Comma comma1 ∷ word_at Sizeof size1 ∷ sign_at LeftParen opening1 ∷ ((t1 ++ back1) ++ r')) (omega arith) (omega arith)
      (shift c _ r c1 _ r' (tails (tails e))) in
      let q = one_type y y1 (back ++ r) (back1 ++ r') (λ at h. cc (signs h)) (λ at h. cc (signs h)) (shift t back r t1 back1 r' (tails (tails (tails p.1)))) in
      (both Calloc p.0 q.0, tails (tails q.1))
  one_primary (parens closing {i = i} x) (parens closing' {i = i'} x') r r' f f' e =
      let p = one_binary x x' (sign_at RightParen closing ∷ r) (sign_at RightParen closing' ∷ r') (omega arith) (omega arith) (shift i _ r i' _ r' (tails e)) in
      (p.0, tails p.1)
  one_primary x y r r' f f' e = absurd (cc (symbols (ap first e)))

  pub one_arguments : {u u' : List Lexeme} {v v' : List Expr} → AreArguments u v → AreArguments u' v' → (r r' : List Lexeme) → Heads (sign_at RightParen) (first r) → Heads (sign_at RightParen) (first r') → u ++ r ≡ u' ++ r' → (v ≡ v') × (r ≡ r')
  one_arguments no_arguments no_arguments r r' f f' e = (refl, e)
  one_arguments (arguments {e = a} {m = m} x y) (arguments {e = a'} {m = m'} x' y') r r' f f' e =
      let p = one_binary x x' (m ++ r) (m' ++ r') (more_ends y r f) (more_ends y' r' f') (shift a m r a' m' r' e) in
      let q = one_more y y' r r' f f' p.1 in
      (both (λ a b. a ∷ b) p.0 q.0, q.1)
  one_arguments no_arguments (arguments {e = a} {m = m} x y) r r' f f' e =
      absurd (differs begins_expression (sym (ap first (e ∙ append_assoc a m r')) ∙ f.1) (expression_first x (m ++ r')) refl)
  one_arguments (arguments {e = a} {m = m} x y) no_arguments r r' f f' e =
      absurd (differs begins_expression (sym (ap first (append_assoc a m r)) ∙ ap first e ∙ f'.1) (expression_first x (m ++ r)) refl)

  pub one_more : {u u' : List Lexeme} {v v' : List Expr} → AreMore u v → AreMore u' v' → (r r' : List Lexeme) → Heads (sign_at RightParen) (first r) → Heads (sign_at RightParen) (first r') → u ++ r ≡ u' ++ r' → (v ≡ v') × (r ≡ r')
  one_more no_more no_more r r' f f' e = (refl, e)
  one_more (more {e = a} {m = m} x y) (more {e = a'} {m = m'} x' y') r r' f f' e =
      let p = one_binary x x' (m ++ r) (m' ++ r') (more_ends y r f) (more_ends y' r' f') (shift a m r a' m' r' (tails e)) in
      let q = one_more y y' r r' f f' p.1 in
      (both (λ a b. a ∷ b) p.0 q.0, q.1)
  one_more no_more (more x y) r r' f f' e = absurd (cc (signs (sym f.1 ∙ ap first e)))
  one_more (more x y) no_more r r' f f' e = absurd (cc (signs (ap first e ∙ f'.1)))

  pub one_tail : {u u' : List Lexeme} {b b' v v' : Expr} → IsTail b u v → IsTail b' u' v' → (r r' : List Lexeme) → Ends 0 (first r) → Ends 0 (first r') → b ≡ b' → u ++ r ≡ u' ++ r' → (v ≡ v') × (r ≡ r')
  one_tail no_tail no_tail r r' f f' b e = (b, e)
  one_tail (index closing {i = i} {t = t} x y) (index closing' {i = i'} {t = t'} x' y') r r' f f' b e =
      let p = one_binary x x' (sign_at RightBracket closing ∷ (t ++ r)) (sign_at RightBracket closing' ∷ (t' ++ r')) (omega arith) (omega arith) (shift i _ r i' _ r' (tails e)) in
      one_tail y y' r r' f f' (both Index b p.0) (tails p.1)
  one_tail (arrow y) (arrow y') r r' f f' b e = one_tail y y' r r' f f' (both Arrow b (same_text (tails e))) (tails (tails e))
  one_tail (dot y) (dot y') r r' f f' b e = one_tail y y' r r' f f' (both Dot b (same_text (tails e))) (tails (tails e))
  one_tail x y r r' f f' b e = absurd (cc (sym (tail_first x r f) ∙ ap access (ap first e) ∙ tail_first y r' f'))

  pub one_postfix : {u u' : List Lexeme} {v v' : Expr} → IsPostfix u v → IsPostfix u' v' → (r r' : List Lexeme) → Ends 0 (first r) → Ends 0 (first r') → u ++ r ≡ u' ++ r' → (v ≡ v') × (r ≡ r')
  one_postfix (primary {p = p} {t = t} x y) (primary {p = p'} {t = t'} x' y') r r' f f' e =
      let q = one_primary x x' (t ++ r) (t' ++ r') (tail_follow _ _ t r y f) (tail_follow _ _ t' r' y' f') (shift p t r p' t' r' e) in
      one_tail y y' r r' f f' q.0 q.1

  pub one_unary : {u u' : List Lexeme} {v v' : Expr} → IsUnary u v → IsUnary u' v' → (r r' : List Lexeme) → Ends 0 (first r) → Ends 0 (first r') → u ++ r ≡ u' ++ r' → (v ≡ v') × (r ≡ r')
  one_unary (postfix x) (postfix y) r r' f f' e = one_postfix x y r r' f f' e
  one_unary (negative x) (negative y) r r' f f' e = let h = one_unary x y r r' f f' (tails e) in (ap Neg h.0, h.1)
  one_unary (not x) (not y) r r' f f' e = let h = one_unary x y r r' f f' (tails e) in (ap Not h.0, h.1)
  one_unary (deref x) (deref y) r r' f f' e = let h = one_unary x y r r' f f' (tails e) in (ap Deref h.0, h.1)
  one_unary x y r r' f f' e = absurd (cc (sym (unary_prefix_first x r) ∙ ap prefix (ap first e) ∙ unary_prefix_first y r'))

  pub one_binary : {u u' : List Lexeme} {n : ℕ} {v v' : Expr} → IsBinary u n v → IsBinary u' n v' → (r r' : List Lexeme) → Ends n (first r) → Ends n (first r') → u ++ r ≡ u' ++ r' → (v ≡ v') × (r ≡ r')
  one_binary (operand x) (operand y) r r' f f' e = one_unary x y r r' f f' e
  one_binary (joined {l = l} {c = c} x y) (joined {l = l'} {c = c'} x' y') r r' f f' e =
      let p = one_binary x x' (c ++ r) (c' ++ r') (chain_follow _ _ c r y f) (chain_follow _ _ c' r' y' f') (shift l c r l' c' r' e) in
      one_chain y y' r r' f f' p.0 p.1

  pub one_chain : {n : ℕ} {u u' : List Lexeme} {b b' v v' : Expr} → IsChain n b u v → IsChain n b' u' v' → (r r' : List Lexeme) → Ends n (first r) → Ends n (first r') → b ≡ b' → u ++ r ≡ u' ++ r' → (v ≡ v') × (r ≡ r')
  one_chain no_chain no_chain r r' f f' b e = (b, e)
  one_chain (chain {r = o} {c = c} h k x y) (chain {r = o'} {c = c'} h' k' x' y') r r' f f' b e =
      let p = one_binary x x' (c ++ r) (c' ++ r') (chain_follow _ _ c r y f) (chain_follow _ _ c' r' y' f') (shift o c r o' c' r' (tails e)) in
      one_chain y y' r r' f f' (joined_same (same_operator e h h') b p.0) p.1
  one_chain no_chain (chain {s = s} {op = op} h k x y) r r' f f' b e = absurd (ends_sign (ap first e) f (let q = binds_operator s op h in omega arith))
  one_chain (chain {s = s} {op = op} h k x y) no_chain r r' f f' b e = absurd (ends_sign (sym (ap first e)) f' (let q = binds_operator s op h in omega arith))
