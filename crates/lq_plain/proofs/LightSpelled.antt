-- An expression that lexemes spell is light by their number, and lies in one stretch.
use Rattle.std.proofs.Common.{◌≡◌, ℕ, suc, ◌+◌, ◌*◌, Bool, true, false, List, [], ◌∷◌, ◌++◌, length, Some, refl, arith}
use Rattle.std.specs.List.{AllByRecursion}
use Rattle.std.proofs.lemmas.List.{length-append}
use Rattle.lq_tree.specs.declared.expr.Base.{Base}
use Rattle.lq_tree.specs.declared.expr.BinOp.{BinOp}
use Rattle.lq_tree.specs.declared.expr.CType.{CType}
use Rattle.lq_tree.specs.declared.expr.Expr.{Expr}
use Rattle.lq_parser.specs.declared.lexeme.Lexeme.{Lexeme}
use Rattle.lq_parser.specs.declared.lexeme.Symbol.{Symbol}
use Rattle.lq_parser.specs.declared.lexeme.Symbol.TheVariants.{Sign as SignSymbol}
use Rattle.lq_parser.specs.declared.lexeme.Sign.{Sign}
use Rattle.lq_parser.specs.declared.lexeme.Sign.TheVariants.{LeftParen, RightParen, LeftBrace, RightBrace, RightBracket, Semicolon, Comma}
use Rattle.lq_parser.specs.declared.lexeme.Keyword.TheVariants.{Sizeof}
use Rattle.lq_parser.specs.Lexemes.{sign_at, word_at, operator}
use Rattle.lq_parser.specs.Types.{IsBase, int, struct, AreStars, none, star, IsType, type}
use Rattle.lq_parser.specs.Expressions.{IsPrimary, number, variable, call, calloc, parens, AreArguments, no_arguments, arguments, AreMore, no_more, more, IsTail, no_tail, index, arrow, dot, IsPostfix, primary, IsUnary, postfix, negative, not, deref, IsBinary, operand, joined, IsChain, no_chain, chain, IsPlace, postfix_place, deref_place}
use Rattle.lq_plain.proofs.LightExpressions.{IsLight, light_num, light_var, light_more, light_neg, light_not, light_bin, light_index, light_deref, light_arrow, light_dot, AreLight, light_nothing, light_others, light_call, light_calloc}

-- what ends a stretch
abbrev pub ends_stretch : Symbol → Bool
ends_stretch (SignSymbol Semicolon) = true
ends_stretch (SignSymbol LeftBrace) = true
ends_stretch (SignSymbol RightBrace) = true
ends_stretch _ = false

-- all of these lie in one stretch
abbrev pub AreInner : List Lexeme → Type 0
AreInner ls = AllByRecursion (λ (l : Lexeme). ends_stretch l.symbol ≡ false) ls

inner : (a b : List Lexeme) → AreInner a → AreInner b → AreInner (a ++ b)
inner [] b x y = y
inner (l ∷ a) b x y = (x.0, inner a b x.1 y)

operator_inner : (s : Sign) (op : BinOp) → operator s ≡ Some op → ends_stretch (SignSymbol s) ≡ false
operator_inner Semicolon op is = cc
operator_inner LeftBrace op is = cc
operator_inner RightBrace op is = cc
operator_inner _ op is = refl

base_inner : {ls : List Lexeme} {base : Base} → IsBase ls base → AreInner ls
base_inner int = (refl, tt)
base_inner struct = (refl, (refl, tt))

stars_inner : {ls : List Lexeme} {n : ℕ} → AreStars ls n → AreInner ls
stars_inner none = tt
stars_inner (star x) = (refl, stars_inner x)

type_inner : {ls : List Lexeme} {t : CType} → IsType ls t → AreInner ls
type_inner (type {b = b} {s = s} x y le) = inner b s (base_inner x) (stars_inner y)

mutual
  primary_light : {ls : List Lexeme} {e : Expr} → IsPrimary ls e → IsLight (length ls) e × AreInner ls
  primary_light (number {value = value}) = (light_num value, (refl, tt))
  primary_light (variable {text = text}) = (light_var text, (refl, tt))
  primary_light (call closing {text = text} {a = a} {arguments = args} x) =
      let all = arguments_light x in
      let end = sign_at RightParen closing ∷ [] in
      let long = length-append a end in
      (light_call (length a) (suc (suc (length (a ++ end)))) (16 * length a + 3) text args (omega (arith, long)) (omega (arith, long)) all.0, (refl, (refl, inner a end all.1 (refl, tt))))
  primary_light (calloc comma size opening' closing' closing {c = c} {t = t} {count = count} {type = ctype} x y) =
      let one = binary_light x in
      let end = sign_at RightParen closing' ∷ sign_at RightParen closing ∷ [] in
      let rest = sign_at Comma comma ∷ word_at Sizeof size ∷ sign_at LeftParen opening' ∷ (t ++ end) in
      let long = length-append c rest in
      (light_calloc (length c) (suc (suc (length (c ++ rest)))) count ctype (omega (arith, long)) one.0, (refl, (refl, inner c rest one.1 (refl, (refl, (refl, inner t end (type_inner y) (refl, (refl, tt))))))))
  primary_light (parens closing {i = i} {inside = inside} x) =
      let one = binary_light x in
      let end = sign_at RightParen closing ∷ [] in
      let long = length-append i end in
      (light_more (length i) (suc (length (i ++ end))) inside (omega (arith, long)) one.0, (refl, inner i end one.1 (refl, tt)))

  pub arguments_light : {ls : List Lexeme} {args : List Expr} → AreArguments ls args → AreLight (length ls) (16 * length ls + 3) args × AreInner ls
  arguments_light no_arguments = (light_nothing 3, tt)
  arguments_light (arguments {e = e} {m = m} {argument = argument} {rest = rest} x y) =
      let one = binary_light x in
      let others = more_light y in
      let long = length-append e m in
      (light_others (length e) (length m) (16 * length m) (length (e ++ m)) (16 * length (e ++ m) + 3) argument rest (omega (arith, long)) (omega (arith, long)) one.0 others.0, inner e m one.1 others.1)

  more_light : {ls : List Lexeme} {args : List Expr} → AreMore ls args → AreLight (length ls) (16 * length ls) args × AreInner ls
  more_light no_more = (light_nothing 0, tt)
  more_light (more {e = e} {m = m} {argument = argument} {rest = rest} x y) =
      let one = binary_light x in
      let others = more_light y in
      let long = length-append e m in
      (light_others (length e) (length m) (16 * length m) (suc (length (e ++ m))) (16 * suc (length (e ++ m))) argument rest (omega (arith, long)) (omega (arith, long)) one.0 others.0, (refl, inner e m one.1 others.1))

  tail_light : {before after : Expr} {ls : List Lexeme} → IsTail before ls after → (k : ℕ) → IsLight k before → IsLight (k + length ls) after × AreInner ls
  tail_light (no_tail {before = e}) k h = (light_more k (k + 0) e (omega arith) h, tt)
  tail_light (index closing {i = i} {t = t} {before = before} {at = at} {after = after} x y) k h =
      let one = binary_light x in
      let back = sign_at RightBracket closing ∷ t in
      let long = length-append i back in
      let rest = tail_light y (k + length i + 2) (light_index k (length i) (k + length i + 2) before at (omega arith) h one.0) in
      (light_more (k + length i + 2 + length t) (k + suc (length (i ++ back))) after (omega (arith, long)) rest.0, (refl, inner i back one.1 (refl, rest.1)))
  tail_light (arrow {text = text} {t = t} {before = before} {after = after} y) k h =
      let rest = tail_light y (k + 2) (light_arrow k (k + 2) before text (omega arith) h) in
      (light_more (k + 2 + length t) (k + suc (suc (length t))) after (omega arith) rest.0, (refl, (refl, rest.1)))
  tail_light (dot {text = text} {t = t} {before = before} {after = after} y) k h =
      let rest = tail_light y (k + 2) (light_dot k (k + 2) before text (omega arith) h) in
      (light_more (k + 2 + length t) (k + suc (suc (length t))) after (omega arith) rest.0, (refl, (refl, rest.1)))

  postfix_light : {ls : List Lexeme} {e : Expr} → IsPostfix ls e → IsLight (length ls) e × AreInner ls
  postfix_light {e = e} (primary {p = p} {t = t} x y) =
      let one = primary_light x in
      let rest = tail_light y (length p) one.0 in
      let long = length-append p t in
      (light_more (length p + length t) (length (p ++ t)) e (omega (arith, long)) rest.0, inner p t one.1 rest.1)

  unary_light : {ls : List Lexeme} {e : Expr} → IsUnary ls e → IsLight (length ls) e × AreInner ls
  unary_light (postfix x) = postfix_light x
  unary_light (negative {o = o} {operand = a} x) = let one = unary_light x in (light_neg (length o) (suc (length o)) a (omega arith) one.0, (refl, one.1))
  unary_light (not {o = o} {operand = a} x) = let one = unary_light x in (light_not (length o) (suc (length o)) a (omega arith) one.0, (refl, one.1))
  unary_light (deref {o = o} {operand = a} x) = let one = unary_light x in (light_deref (length o) (suc (length o)) a (omega arith) one.0, (refl, one.1))

  pub binary_light : {ls : List Lexeme} {n : ℕ} {e : Expr} → IsBinary ls n e → IsLight (length ls) e × AreInner ls
  binary_light (operand x) = unary_light x
  binary_light {e = e} (joined {l = l} {c = c} x y) =
      let one = binary_light x in
      let rest = chain_light y (length l) one.0 in
      let long = length-append l c in
      (light_more (length l + length c) (length (l ++ c)) e (omega (arith, long)) rest.0, inner l c one.1 rest.1)

  chain_light : {n : ℕ} {left after : Expr} {ls : List Lexeme} → IsChain n left ls after → (k : ℕ) → IsLight k left → IsLight (k + length ls) after × AreInner ls
  chain_light (no_chain {left = e}) k h = (light_more k (k + 0) e (omega arith) h, tt)
  chain_light (chain {s = s} {op = op} {r = r} {c = c} {left = left} {right = right} {after = after} is loose x y) k h =
      let one = binary_light x in
      let rest = chain_light y (k + length r + 1) (light_bin op k (length r) (k + length r + 1) left right (omega arith) h one.0) in
      let long = length-append r c in
      (light_more (k + length r + 1 + length c) (k + suc (length (r ++ c))) after (omega (arith, long)) rest.0, (operator_inner s op is, inner r c one.1 rest.1))

pub place_light : {ls : List Lexeme} {e : Expr} → IsPlace ls e → IsLight (length ls) e × AreInner ls
place_light (postfix_place x is) = postfix_light x
place_light (deref_place {o = o} {operand = a} x) = let one = unary_light x in (light_deref (length o) (suc (length o)) a (omega arith) one.0, (refl, one.1))
