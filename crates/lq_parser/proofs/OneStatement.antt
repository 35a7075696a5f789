-- Lexemes spell at most one statement, where what follows it may.
use Rattle.std.proofs.Common.{sym, ap, ◌∙◌, subst, refl, arith, inl, inr}
use Rattle.std.specs.Prelude.{◌≡◌, ℕ, ℤ, Bool, true, false, ◌||◌, Option, None, Some, List, [], ◌∷◌, ◌++◌}
use Rattle.std.proofs.lemmas.List.{append_assoc}
use Rattle.std.proofs.lemmas.Bool.{or_left, or_right}
use Rattle.lq_tree.specs.declared.place.Place.{Place}
use Rattle.lq_tree.specs.declared.expr.BinOp.{BinOp}
use Rattle.lq_tree.specs.declared.expr.CType.{CType}
use Rattle.lq_tree.specs.declared.expr.Expr.{Expr, Var, Bin, Deref}
use Rattle.lq_tree.specs.declared.stmt.Arm.{Arm}
use Rattle.lq_tree.specs.declared.stmt.Stmt.{Stmt}
use Rattle.lq_tree.specs.declared.stmt.StmtKind.{StmtKind, Block, Local, Set, Store, Call, If, While, For, Return, Print, Cobegin, Foreach}
use Rattle.lq_parser.specs.declared.lexeme.Lexeme.{Lexeme}
use Rattle.lq_parser.specs.declared.lexeme.Sign.{Sign}
use Rattle.lq_parser.specs.declared.lexeme.Sign.TheVariants.{LeftParen, RightParen, LeftBracket, LeftBrace, RightBrace, Comma, Semicolon, Equal, Arrow as ArrowSign, Dot as DotSign, PlusEqual, MinusEqual, StarEqual, PlusPlus, MinusMinus}
use Rattle.lq_parser.specs.declared.lexeme.Keyword.TheVariants.{Calloc as CallocWord, If as IfWord, Else, While as WhileWord, For as ForWord, Return as ReturnWord, Print as PrintWord, Cobegin as CobeginWord, Foreach as ForeachWord}
use Rattle.lq_parser.specs.declared.lexeme.Symbol.{Symbol}
use Rattle.lq_parser.specs.declared.lexeme.Symbol.TheVariants.{Name, Number, Sign as SignSymbol, Keyword as KeywordSymbol}
use Rattle.lq_parser.specs.Lexemes.{first, sign_at, name_at, updating, stepping}
use Rattle.lq_parser.specs.Expressions.{number, variable, call, calloc, parens, AreArguments, IsTail, no_tail, index, arrow, dot, primary, IsExpression, IsPlace, postfix_place, deref_place}
use Rattle.lq_parser.specs.Statements.{arm_of, IsOptional, none as none_there, some as some_there, Placed, placed, IsInitial, initial, IsDeclaration, declaration, IsSimple, set, update, step, store, call as call_there, IsPart, declaration_part, simple_part, IsFlat, empty, part, return, print, IsStep, no_step, a_step, IsBlock, braces, AreStatements, no_statement, statement, IsBody, block_body, flat_body, IsGuarded, guarded, AreElses, no_else, else_body, else_if, IsStatement, block, flat, if, while, for, cobegin, foreach, IsBranch, branch, AreBranches, no_branch, branches}
use Rattle.lq_parser.specs.Outcome.{NoElse, Ends, IsEqual, EndsPart}
use Rattle.lq_parser.proofs.IfRules.{body_no_if}
use Rattle.lq_parser.proofs.PartRules.{postfix_no_star}
use Rattle.lq_parser.proofs.ExpressionRules.{tail_follow}
use Rattle.lq_parser.proofs.Followers.{Heads, ends_sign, part_ends, equal_ends, semicolon_ends, part_not}
use Rattle.lq_parser.proofs.Apart.{symbol_of, signs, heads, tails, symbols, same_text, same_number, same_sign, some_same}
use Rattle.lq_parser.proofs.OneType.{both, shift, differs, begins_type, begins_type_symbol, type_first, one_type}
use Rattle.lq_parser.proofs.OneExpression.{begins_symbol, begins_expression, postfix_first, expression_first, one_primary, one_arguments, one_postfix, one_unary, one_binary}

-- ---- places

one_place : {u u' : List Lexeme} {v v' : Expr} → IsPlace u v → IsPlace u' v' → (r r' : List Lexeme) → IsEqual (first r) → IsEqual (first r') → u ++ r ≡ u' ++ r' → (v ≡ v') × (r ≡ r')
one_place (postfix_place x h) (postfix_place y k) r r' f f' e = one_postfix x y r r' (equal_ends _ f) (equal_ends _ f') e
one_place (deref_place x) (deref_place y) r r' f f' e = let h = one_unary x y r r' (equal_ends _ f) (equal_ends _ f') (tails e) in (ap Deref h.0, h.1)
one_place (postfix_place x h) (deref_place y) r r' f f' e = absurd (postfix_no_star x r _ (ap first e))
one_place (deref_place x) (postfix_place y k) r r' f f' e = absurd (postfix_no_star y r' _ (sym (ap first e)))

place_first : {u : List Lexeme} {v : Expr} → IsPlace u v → (r : List Lexeme) → begins_expression (first (u ++ r)) ≡ true
place_first (postfix_place x h) r = postfix_first x r
place_first (deref_place x) r = refl

-- a call that a part consists of is no place
no_store_behind : {before after : Expr} {t : List Lexeme} (r w : List Lexeme) (at : Place) → IsTail before t after → EndsPart (first r) → r ≡ t ++ (sign_at Equal at ∷ w) → ⊥
no_store_behind r w at no_tail f e = part_not {s = Equal} _ refl f (ap first e)
no_store_behind r w at (index closing i t) f e = part_not {s = LeftBracket} _ refl f (ap first e)
no_store_behind r w at (arrow t) f e = part_not {s = ArrowSign} _ refl f (ap first e)
no_store_behind r w at (dot t) f e = part_not {s = DotSign} _ refl f (ap first e)

call_is_no_place : {u : List Lexeme} {v : Expr} → IsPlace u v → (text : List ℕ) (at opening closing equal : Place) {a : List Lexeme} {arguments : List Expr} → AreArguments a arguments → (r w : List Lexeme) → EndsPart (first r)
    → (name_at text at ∷ sign_at LeftParen opening ∷ (a ++ (sign_at RightParen closing ∷ []))) ++ r ≡ u ++ (sign_at Equal equal ∷ w) → ⊥
call_is_no_place (deref_place x) text at opening closing equal args r w f e = cc (symbols (ap first e))
call_is_no_place (postfix_place (primary {p = p} {t = t} x y) h) text at opening closing equal args r w f e =
    let q = one_primary (call {at = at} {opening = opening} closing {text = text} args) x r (t ++ (sign_at Equal equal ∷ w)) (λ at' h'. ends_sign h' (part_ends _ f) (omega arith)) (tail_follow _ _ t (sign_at Equal equal ∷ w) y (omega arith)) (e ∙ append_assoc p t (sign_at Equal equal ∷ w)) in
    no_store_behind r w equal y f q.1

-- ---- simple statements

-- what the second lexeme makes of a name
abbrev second_sign : Sign → ℕ
second_sign Equal = 0
second_sign PlusEqual = 1
second_sign MinusEqual = 1
second_sign StarEqual = 1
second_sign PlusPlus = 2
second_sign MinusMinus = 2
second_sign _ = 3

abbrev second_symbol : Option Symbol → ℕ
second_symbol (Some (SignSymbol s)) = second_sign s
second_symbol _ = 3

abbrev tag_first : Symbol → Option Lexeme → ℕ
tag_first (Name text) next = second_symbol (symbol_of next)
tag_first _ next = 3

abbrev simple_tag : List Lexeme → ℕ
simple_tag [] = 3
simple_tag (l ∷ ls) = tag_first l.symbol (first ls)

abbrev simple_kind : {u : List Lexeme} {k : StmtKind} → IsSimple u k → ℕ
simple_kind (set x) = 0
simple_kind (update h x) = 1
simple_kind (step h) = 2
simple_kind (store at x y) = 3
simple_kind (call_there closing a) = 3

updating_second : (s : Sign) {op : BinOp} → updating s ≡ Some op → second_sign s ≡ 1
updating_second PlusEqual h = refl
updating_second MinusEqual h = refl
updating_second StarEqual h = refl
updating_second s h = absurd cc

stepping_second : (s : Sign) {op : BinOp} → stepping s ≡ Some op → second_sign s ≡ 2
stepping_second PlusPlus h = refl
stepping_second MinusMinus h = refl
stepping_second s h = absurd cc

place_tag : {u : List Lexeme} {v : Expr} → IsPlace u v → (w : List Lexeme) → simple_tag (u ++ w) ≡ 3
place_tag (deref_place x) w = refl
place_tag (postfix_place (primary number y) h) w = refl
place_tag (postfix_place (primary (calloc comma size opening' closing' closing c k) y) h) w = refl
place_tag (postfix_place (primary (parens closing i) y) h) w = refl
place_tag (postfix_place (primary (call closing a) y) h) w = refl
place_tag (postfix_place (primary variable no_tail) h) w = absurd cc
place_tag (postfix_place (primary variable (index closing i t)) h) w = refl
place_tag (postfix_place (primary variable (arrow t)) h) w = refl
place_tag (postfix_place (primary variable (dot t)) h) w = refl

simple_tag_is : {u : List Lexeme} {k : StmtKind} → (x : IsSimple u k) → (r : List Lexeme) → simple_tag (u ++ r) ≡ simple_kind x
simple_tag_is (set x) r = refl
simple_tag_is (update {s = s} h x) r = updating_second s h
simple_tag_is (step {s = s} h) r = stepping_second s h
simple_tag_is (store at {p = p} {e = e} x y) r = ap simple_tag (append_assoc p (sign_at Equal at ∷ e) r) ∙ place_tag x (sign_at Equal at ∷ (e ++ r))
simple_tag_is (call_there closing a) r = refl

simple_first : {u : List Lexeme} {k : StmtKind} → IsSimple u k → (r : List Lexeme) → begins_expression (first (u ++ r)) ≡ true
simple_first (set x) r = refl
simple_first (update h x) r = refl
simple_first (step h) r = refl
simple_first (store at {p = p} {e = e} x y) r = ap (λ w. begins_expression (first w)) (append_assoc p (sign_at Equal at ∷ e) r) ∙ place_first x (sign_at Equal at ∷ (e ++ r))
simple_first (call_there closing a) r = refl

same_meaning : (meaning : Sign → Option BinOp) {s s' : Sign} {op op' : BinOp} → s ≡ s' → meaning s ≡ Some op → meaning s' ≡ Some op' → op ≡ op'
same_meaning meaning e h h' = some_same (sym h ∙ ap meaning e ∙ h')

updated_same : {t t' : List ℕ} {op op' : BinOp} {v v' : Expr} → t ≡ t' → op ≡ op' → v ≡ v' → Set t (Bin op (Var t) v) ≡ Set t' (Bin op' (Var t') v')
updated_same p q h = cc

one_simple : {u u' : List Lexeme} {v v' : StmtKind} → IsSimple u v → IsSimple u' v' → (r r' : List Lexeme) → EndsPart (first r) → EndsPart (first r') → u ++ r ≡ u' ++ r' → (v ≡ v') × (r ≡ r')
one_simple (set x) (set x') r r' f f' e =
    let h = one_binary x x' r r' (part_ends _ f) (part_ends _ f') (tails (tails e)) in (both Set (same_text e) h.0, h.1)
one_simple (update m x) (update m' x') r r' f f' e =
    let h = one_binary x x' r r' (part_ends _ f) (part_ends _ f') (tails (tails e)) in
    (updated_same (same_text e) (same_meaning updating (same_sign (tails e)) m m') h.0, h.1)
one_simple (step m) (step m') r r' f f' e = (updated_same (same_text e) (same_meaning stepping (same_sign (tails e)) m m') refl, tails (tails e))
one_simple (store at {p = p} {e = a} x y) (store at' {p = p'} {e = a'} x' y') r r' f f' e =
    let q = one_place x x' (sign_at Equal at ∷ (a ++ r)) (sign_at Equal at' ∷ (a' ++ r')) (at, refl) (at', refl) (shift p (sign_at Equal at ∷ a) r p' (sign_at Equal at' ∷ a') r' e) in
    let h = one_binary y y' r r' (part_ends _ f) (part_ends _ f') (tails q.1) in
    (both Store q.0 h.0, h.1)
one_simple (call_there closing {a = a} x) (call_there closing' {a = a'} x') r r' f f' e =
    let h = one_arguments x x' (sign_at RightParen closing ∷ r) (sign_at RightParen closing' ∷ r') (closing, refl) (closing', refl) (shift a _ r a' _ r' (tails (tails e))) in
    (both Call (same_text e) h.0, tails h.1)
one_simple (call_there {at = at} {opening = opening} closing {text = text} x) (store equal {p = p} {e = a} y z) r r' f f' e =
    absurd (call_is_no_place y text at opening closing equal x r (a ++ r') f (e ∙ append_assoc p (sign_at Equal equal ∷ a) r'))
one_simple (store equal {p = p} {e = a} y z) (call_there {at = at} {opening = opening} closing {text = text} x) r r' f f' e =
    absurd (call_is_no_place y text at opening closing equal x r' (a ++ r) f' (sym e ∙ append_assoc p (sign_at Equal equal ∷ a) r))
one_simple x y r r' f f' e = absurd (cc (sym (simple_tag_is x r) ∙ ap simple_tag e ∙ simple_tag_is y r'))

-- ---- declarations and parts

pub one_optional : {A : Type 0} {X : List Lexeme → A → Type 0} (F : Option Lexeme → Type 0) {u u' : List Lexeme} {o o' : Option A}
    → ((u u' : List Lexeme) (v v' : A) → X u v → X u' v' → (r r' : List Lexeme) → F (first r) → F (first r') → u ++ r ≡ u' ++ r' → (v ≡ v') × (r ≡ r'))
    → ((u : List Lexeme) (v : A) → X u v → (r : List Lexeme) → F (first (u ++ r)) → ⊥)
    → IsOptional X u o → IsOptional X u' o' → (r r' : List Lexeme) → F (first r) → F (first r') → u ++ r ≡ u' ++ r' → (o ≡ o') × (r ≡ r')
one_optional F same apart none_there none_there r r' f f' e = (refl, e)
one_optional F same apart (some_there x) (some_there y) r r' f f' e = let h = same _ _ _ _ x y r r' f f' e in (ap Some h.0, h.1)
one_optional F same apart none_there (some_there y) r r' f f' e = absurd (apart _ _ y r' (subst (λ w. F (first w)) e f))
one_optional F same apart (some_there x) none_there r r' f f' e = absurd (apart _ _ x r (subst (λ w. F (first w)) (sym e) f'))

one_initial : (u u' : List Lexeme) (v v' : Expr) → IsInitial u v → IsInitial u' v' → (r r' : List Lexeme) → EndsPart (first r) → EndsPart (first r') → u ++ r ≡ u' ++ r' → (v ≡ v') × (r ≡ r')
one_initial u u' v v' (initial x) (initial y) r r' f f' e = one_binary x y r r' (part_ends _ f) (part_ends _ f') (tails e)

initial_apart : (u : List Lexeme) (v : Expr) → IsInitial u v → (r : List Lexeme) → EndsPart (first (u ++ r)) → ⊥
initial_apart u v (initial x) r f = part_not {s = Equal} _ refl f refl

one_declaration : {u u' : List Lexeme} {v v' : StmtKind} → IsDeclaration u v → IsDeclaration u' v' → (r r' : List Lexeme) → EndsPart (first r) → EndsPart (first r') → u ++ r ≡ u' ++ r' → (v ≡ v') × (r ≡ r')
one_declaration (declaration at {t = t} {i = i} {text = text} x y) (declaration at' {t = t'} {i = i'} {text = text'} x' y') r r' f f' e =
    let p = one_type x x' (name_at text at ∷ (i ++ r)) (name_at text' at' ∷ (i' ++ r')) (λ a h. cc (signs h)) (λ a h. cc (signs h)) (shift t (name_at text at ∷ i) r t' (name_at text' at' ∷ i') r' e) in
    let q = one_optional EndsPart one_initial initial_apart y y' r r' f f' (tails p.1) in
    (declared_same p.0 (same_text p.1) q.0, q.1)
  where
    declared_same : {a a' : CType} {b b' : List ℕ} {c c' : Option Expr} → a ≡ a' → b ≡ b' → c ≡ c' → Local a b c ≡ Local a' b' c'
    declared_same p q h = cc

declaration_first : {u : List Lexeme} {k : StmtKind} → IsDeclaration u k → (r : List Lexeme) → begins_type (first (u ++ r)) ≡ true
declaration_first (declaration at {t = t} {i = i} {text = text} x y) r = ap (λ w. begins_type (first w)) (append_assoc t (name_at text at ∷ i) r) ∙ type_first x (name_at text at ∷ (i ++ r))

-- an expression begins otherwise than a type
expression_no_type : (s : Option Symbol) → begins_symbol s ≡ true → begins_type_symbol s ≡ true → ⊥
expression_no_type None h k = cc
expression_no_type (Some (Name text)) h k = cc
expression_no_type (Some (Number value)) h k = cc
expression_no_type (Some (SignSymbol s)) h k = cc
expression_no_type (Some (KeywordSymbol CallocWord)) h k = cc
expression_no_type (Some s) h k = cc

pub one_part : {u u' : List Lexeme} {v v' : StmtKind} → IsPart u v → IsPart u' v' → (r r' : List Lexeme) → EndsPart (first r) → EndsPart (first r') → u ++ r ≡ u' ++ r' → (v ≡ v') × (r ≡ r')
one_part (declaration_part x) (declaration_part y) r r' f f' e = one_declaration x y r r' f f' e
one_part (simple_part x) (simple_part y) r r' f f' e = one_simple x y r r' f f' e
one_part (declaration_part x) (simple_part y) r r' f f' e = absurd (expression_no_type (symbol_of (first (_ ++ r'))) (simple_first y r') (ap (λ w. begins_type (first w)) (sym e) ∙ declaration_first x r))
one_part (simple_part x) (declaration_part y) r r' f f' e = absurd (expression_no_type (symbol_of (first (_ ++ r))) (simple_first x r) (ap (λ w. begins_type (first w)) e ∙ declaration_first y r'))

-- ---- flat statements

abbrev begins_part_symbol : Option Symbol → Bool
begins_part_symbol s = begins_symbol s || begins_type_symbol s

abbrev begins_part : Option Lexeme → Bool
begins_part next = begins_part_symbol (symbol_of next)

part_first : {u : List Lexeme} {k : StmtKind} → IsPart u k → (r : List Lexeme) → begins_part (first (u ++ r)) ≡ true
part_first (declaration_part {ls = u} x) r = or_right (begins_expression (first (u ++ r))) (begins_type (first (u ++ r))) (declaration_first x r)
part_first (simple_part {ls = u} x) r = or_left (begins_expression (first (u ++ r))) (begins_type (first (u ++ r))) (simple_first x r)

abbrev flat_symbol : Option Symbol → ℕ
flat_symbol (Some (SignSymbol Semicolon)) = 0
flat_symbol (Some (KeywordSymbol ReturnWord)) = 1
flat_symbol (Some (KeywordSymbol PrintWord)) = 2
flat_symbol _ = 3

abbrev flat_tag : Option Lexeme → ℕ
flat_tag next = flat_symbol (symbol_of next)

part_symbol : (s : Option Symbol) → begins_part_symbol s ≡ true → flat_symbol s ≡ 3
part_symbol (Some (SignSymbol Semicolon)) h = absurd cc
part_symbol (Some (KeywordSymbol ReturnWord)) h = absurd cc
part_symbol (Some (KeywordSymbol PrintWord)) h = absurd cc
part_symbol s h = refl

abbrev flat_kind : {u : List Lexeme} {k : StmtKind} → IsFlat u k → ℕ
flat_kind empty = 0
flat_kind (part end x) = 3
flat_kind (return end x) = 1
flat_kind (print closing end x) = 2

flat_part_first : {p : List Lexeme} {k : StmtKind} (end : Place) → IsPart p k → (r : List Lexeme) → begins_part (first ((p ++ (sign_at Semicolon end ∷ [])) ++ r)) ≡ true
flat_part_first {p = p} end x r = ap (λ w. begins_part (first w)) (append_assoc p (sign_at Semicolon end ∷ []) r) ∙ part_first x (sign_at Semicolon end ∷ r)

flat_tag_is : {u : List Lexeme} {k : StmtKind} → (x : IsFlat u k) → (r : List Lexeme) → flat_tag (first (u ++ r)) ≡ flat_kind x
flat_tag_is empty r = refl
flat_tag_is (part end {p = p} x) r = part_symbol (symbol_of (first ((p ++ (sign_at Semicolon end ∷ [])) ++ r))) (flat_part_first end x r)
flat_tag_is (return end x) r = refl
flat_tag_is (print closing end x) r = refl

semicolon_part : {next : Option Lexeme} → Heads (sign_at Semicolon) next → EndsPart next
semicolon_part (at, e) = (at, inl e)

paren_part : {next : Option Lexeme} → Heads (sign_at RightParen) next → EndsPart next
paren_part (at, e) = (at, inr e)

one_value : (u u' : List Lexeme) (v v' : Expr) → IsExpression u v → IsExpression u' v' → (r r' : List Lexeme) → Heads (sign_at Semicolon) (first r) → Heads (sign_at Semicolon) (first r') → u ++ r ≡ u' ++ r' → (v ≡ v') × (r ≡ r')
one_value u u' v v' x y r r' f f' e = one_binary x y r r' (semicolon_ends f) (semicolon_ends f') e

value_apart : (u : List Lexeme) (v : Expr) → IsExpression u v → (r : List Lexeme) → Heads (sign_at Semicolon) (first (u ++ r)) → ⊥
value_apart u v x r f = differs begins_expression f.1 (expression_first x r) refl

pub one_flat : {u u' : List Lexeme} {v v' : StmtKind} → IsFlat u v → IsFlat u' v' → (r r' : List Lexeme) → u ++ r ≡ u' ++ r' → (v ≡ v') × (r ≡ r')
one_flat empty empty r r' e = (refl, tails e)
one_flat (part end {p = p} x) (part end' {p = p'} x') r r' e =
    let h = one_part x x' (sign_at Semicolon end ∷ r) (sign_at Semicolon end' ∷ r') (end, inl refl) (end', inl refl) (shift p _ r p' _ r' e) in (h.0, tails h.1)
one_flat (return end {e = a} x) (return end' {e = a'} x') r r' e =
    let h = one_optional (Heads (sign_at Semicolon)) one_value value_apart x x' (sign_at Semicolon end ∷ r) (sign_at Semicolon end' ∷ r') (end, refl) (end', refl) (shift a _ r a' _ r' (tails e)) in
    (ap Return h.0, tails h.1)
one_flat (print closing end {e = a} x) (print closing' end' {e = a'} x') r r' e =
    let h = one_binary x x' (sign_at RightParen closing ∷ sign_at Semicolon end ∷ r) (sign_at RightParen closing' ∷ sign_at Semicolon end' ∷ r') (omega arith) (omega arith) (shift a _ r a' _ r' (tails (tails e))) in
    (ap Print h.0, tails (tails h.1))
one_flat x y r r' e = absurd (cc (sym (flat_tag_is x r) ∙ ap (λ w. flat_tag (first w)) e ∙ flat_tag_is y r'))

-- ---- statements

abbrev compound_symbol : Option Symbol → ℕ
compound_symbol (Some (SignSymbol LeftBrace)) = 1
compound_symbol (Some (KeywordSymbol IfWord)) = 2
compound_symbol (Some (KeywordSymbol WhileWord)) = 3
compound_symbol (Some (KeywordSymbol ForWord)) = 4
compound_symbol (Some (KeywordSymbol CobeginWord)) = 5
compound_symbol (Some (KeywordSymbol ForeachWord)) = 6
compound_symbol _ = 0

abbrev compound : Option Lexeme → ℕ
compound next = compound_symbol (symbol_of next)

part_compound : (s : Option Symbol) → begins_part_symbol s ≡ true → compound_symbol s ≡ 0
part_compound (Some (SignSymbol LeftBrace)) h = absurd cc
part_compound (Some (KeywordSymbol IfWord)) h = absurd cc
part_compound (Some (KeywordSymbol WhileWord)) h = absurd cc
part_compound (Some (KeywordSymbol ForWord)) h = absurd cc
part_compound (Some (KeywordSymbol CobeginWord)) h = absurd cc
part_compound (Some (KeywordSymbol ForeachWord)) h = absurd cc
part_compound s h = refl

-- what a statement can begin with: neither `}` nor `else`
abbrev opens_symbol : Option Symbol → Bool
opens_symbol None = false
opens_symbol (Some (SignSymbol RightBrace)) = false
opens_symbol (Some (KeywordSymbol Else)) = false
opens_symbol _ = true

abbrev opens : Option Lexeme → Bool
opens next = opens_symbol (symbol_of next)

part_opens : (s : Option Symbol) → begins_part_symbol s ≡ true → opens_symbol s ≡ true
part_opens None h = absurd cc
part_opens (Some (SignSymbol RightBrace)) h = absurd cc
part_opens (Some (KeywordSymbol Else)) h = absurd cc
part_opens s h = refl

flat_compound : {u : List Lexeme} {k : StmtKind} → IsFlat u k → (r : List Lexeme) → compound (first (u ++ r)) ≡ 0
flat_compound empty r = refl
flat_compound (part end {p = p} x) r = part_compound (symbol_of (first ((p ++ (sign_at Semicolon end ∷ [])) ++ r))) (flat_part_first end x r)
flat_compound (return end x) r = refl
flat_compound (print closing end x) r = refl

flat_opens : {u : List Lexeme} {k : StmtKind} → IsFlat u k → (r : List Lexeme) → opens (first (u ++ r)) ≡ true
flat_opens empty r = refl
flat_opens (part end {p = p} x) r = part_opens (symbol_of (first ((p ++ (sign_at Semicolon end ∷ [])) ++ r))) (flat_part_first end x r)
flat_opens (return end x) r = refl
flat_opens (print closing end x) r = refl

block_compound : {u : List Lexeme} {s : List Stmt} → IsBlock u s → (r : List Lexeme) → compound (first (u ++ r)) ≡ 1
block_compound (braces closing x) r = refl

block_opens : {u : List Lexeme} {s : List Stmt} → IsBlock u s → (r : List Lexeme) → opens (first (u ++ r)) ≡ true
block_opens (braces closing x) r = refl

abbrev statement_kind : {u : List Lexeme} {k : StmtKind} → IsStatement u k → ℕ
statement_kind (block x) = 1
statement_kind (flat x) = 0
statement_kind (if x y) = 2
statement_kind (while x) = 3
statement_kind (for end end' closing x y z b) = 4
statement_kind (cobegin closing x y z) = 5
statement_kind (foreach comma closing x y z b) = 6

statement_compound : {u : List Lexeme} {k : StmtKind} → (x : IsStatement u k) → (r : List Lexeme) → compound (first (u ++ r)) ≡ statement_kind x
statement_compound (block x) r = block_compound x r
statement_compound (flat x) r = flat_compound x r
statement_compound (if x y) r = refl
statement_compound (while x) r = refl
statement_compound (for end end' closing x y z b) r = refl
statement_compound (cobegin closing x y z) r = refl
statement_compound (foreach comma closing x y z b) r = refl

statement_opens : {u : List Lexeme} {k : StmtKind} → (x : IsStatement u k) → (r : List Lexeme) → opens (first (u ++ r)) ≡ true
statement_opens (block x) r = block_opens x r
statement_opens (flat x) r = flat_opens x r
statement_opens (if x y) r = refl
statement_opens (while x) r = refl
statement_opens (for end end' closing x y z b) r = refl
statement_opens (cobegin closing x y z) r = refl
statement_opens (foreach comma closing x y z b) r = refl

statements_end : {u : List Lexeme} {s : List Stmt} → AreStatements u s → (r : List Lexeme) → Heads (sign_at RightBrace) (first r) → NoElse (first (u ++ r))
statements_end no_statement r f = λ at h. cc (symbols (sym f.1 ∙ h))
statements_end (statement {l = l} {s = s} {m = m} x y) r f = λ at h. differs opens h (statement_opens x (m ++ r)) refl

abbrev stmt_at : Lexeme → StmtKind → Stmt
stmt_at l k = record { at = l.at; kind = k }

-- statements of the same kind at the same lexeme
same_stmt : {l l' : Lexeme} {k k' : StmtKind} {w w' : List Lexeme} → l ∷ w ≡ l' ∷ w' → k ≡ k' → stmt_at l k ≡ stmt_at l' k'
same_stmt e h = both stmt_at (heads e) h

one_placed_part : (u u' : List Lexeme) (v v' : Stmt) → Placed IsPart u v → Placed IsPart u' v' → (r r' : List Lexeme) → Heads (sign_at Semicolon) (first r) → Heads (sign_at Semicolon) (first r') → u ++ r ≡ u' ++ r' → (v ≡ v') × (r ≡ r')
one_placed_part u u' v v' (placed x) (placed y) r r' f f' e = let h = one_part x y r r' (semicolon_part f) (semicolon_part f') e in (same_stmt e h.0, h.1)

placed_part_apart : (u : List Lexeme) (v : Stmt) → Placed IsPart u v → (r : List Lexeme) → Heads (sign_at Semicolon) (first (u ++ r)) → ⊥
placed_part_apart u v (placed x) r f = differs begins_part f.1 (part_first x r) refl

one_placed_simple : (u u' : List Lexeme) (v v' : Stmt) → Placed IsSimple u v → Placed IsSimple u' v' → (r r' : List Lexeme) → Heads (sign_at RightParen) (first r) → Heads (sign_at RightParen) (first r') → u ++ r ≡ u' ++ r' → (v ≡ v') × (r ≡ r')
one_placed_simple u u' v v' (placed x) (placed y) r r' f f' e = let h = one_simple x y r r' (paren_part f) (paren_part f') e in (same_stmt e h.0, h.1)

placed_simple_apart : (u : List Lexeme) (v : Stmt) → Placed IsSimple u v → (r : List Lexeme) → Heads (sign_at RightParen) (first (u ++ r)) → ⊥
placed_simple_apart u v (placed x) r f = differs begins_expression f.1 (simple_first x r) refl

arms_same : {a a' : Expr × Stmt} {b b' : List Arm} → a ≡ a' → b ≡ b' → arm_of a ∷ b ≡ arm_of a' ∷ b'
arms_same p q = both (λ (a : Expr × Stmt) (b : List Arm). arm_of a ∷ b) p q

for_same : {a a' : Option Stmt} {b b' : Option Expr} {c c' : Option Stmt} {d d' : Stmt} → a ≡ a' → b ≡ b' → c ≡ c' → d ≡ d' → For a b c d ≡ For a' b' c' d'
for_same p q s t = cc

foreach_same : {a a' : List ℕ} {b b' c c' : Expr} {n n' : ℤ} {d d' : Stmt} → a ≡ a' → b ≡ b' → c ≡ c' → n ≡ n' → d ≡ d' → Foreach a b c n d ≡ Foreach a' b' c' n' d'
foreach_same p q s k t = cc

-- what stands behind the bounds in the head of a `foreach` ends an expression
step_ends : {s : List Lexeme} {n : ℤ} → IsStep s n → (closing : Place) (w r : List Lexeme) → Ends 6 (first ((s ++ (sign_at RightParen closing ∷ w)) ++ r))
step_ends no_step closing w r = omega arith
step_ends a_step closing w r = omega arith

one_step : {s s' : List Lexeme} {n n' : ℤ} → IsStep s n → IsStep s' n' → (closing closing' : Place) (w w' : List Lexeme)
    → s ++ (sign_at RightParen closing ∷ w) ≡ s' ++ (sign_at RightParen closing' ∷ w') → (n ≡ n') × (w ≡ w')
one_step no_step no_step closing closing' w w' e = (refl, tails e)
one_step a_step a_step closing closing' w w' e = (same_number (tails e), tails (tails (tails e)))
one_step no_step a_step closing closing' w w' e = absurd (cc (symbols (ap first e)))
one_step a_step no_step closing closing' w w' e = absurd (cc (symbols (ap first e)))

cobegin_same : {a a' b b' : Stmt} {c c' : List Stmt} → a ≡ a' → b ≡ b' → c ≡ c' → Cobegin (a ∷ b ∷ c) ≡ Cobegin (a' ∷ b' ∷ c')
cobegin_same p q s = cc

branch_opens : {u : List Lexeme} {s : Stmt} → IsBranch u s → (r : List Lexeme) → opens (first (u ++ r)) ≡ true
branch_opens (branch x) r = block_opens x r

mutual
  pub one_block : {u u' : List Lexeme} {v v' : List Stmt} → IsBlock u v → IsBlock u' v' → (r r' : List Lexeme) → u ++ r ≡ u' ++ r' → (v ≡ v') × (r ≡ r')
  one_block (braces closing {s = s} x) (braces closing' {s = s'} x') r r' e =
      let h = one_statements x x' (sign_at RightBrace closing ∷ r) (sign_at RightBrace closing' ∷ r') (closing, refl) (closing', refl) (shift s _ r s' _ r' (tails e)) in (h.0, tails h.1)

  pub one_statements : {u u' : List Lexeme} {v v' : List Stmt} → AreStatements u v → AreStatements u' v' → (r r' : List Lexeme) → Heads (sign_at RightBrace) (first r) → Heads (sign_at RightBrace) (first r') → u ++ r ≡ u' ++ r' → (v ≡ v') × (r ≡ r')
  one_statements no_statement no_statement r r' f f' e = (refl, e)
  one_statements (statement {l = l} {s = s} {m = m} x y) (statement {l = l'} {s = s'} {m = m'} x' y') r r' f f' e =
      let p = one_statement x x' (m ++ r) (m' ++ r') (statements_end y r f) (statements_end y' r' f') (shift (l ∷ s) m r (l' ∷ s') m' r' e) in
      let q = one_statements y y' r r' f f' p.1 in
      (both (λ (a : Stmt) (b : List Stmt). a ∷ b) (same_stmt e p.0) q.0, q.1)
  one_statements no_statement (statement {m = m} x y) r r' f f' e = absurd (differs opens (sym (ap first e) ∙ f.1) (statement_opens x (m ++ r')) refl)
  one_statements (statement {m = m} x y) no_statement r r' f f' e = absurd (differs opens (ap first e ∙ f'.1) (statement_opens x (m ++ r)) refl)

  pub one_body : {u u' : List Lexeme} {v v' : Stmt} → IsBody u v → IsBody u' v' → (r r' : List Lexeme) → u ++ r ≡ u' ++ r' → (v ≡ v') × (r ≡ r')
  one_body (block_body x) (block_body y) r r' e = let h = one_block x y r r' e in (same_stmt e (ap Block h.0), h.1)
  one_body (flat_body x) (flat_body y) r r' e = let h = one_flat x y r r' e in (same_stmt e h.0, h.1)
  one_body (block_body x) (flat_body y) r r' e = absurd (cc (sym (block_compound x r) ∙ ap (λ w. compound (first w)) e ∙ flat_compound y r'))
  one_body (flat_body x) (block_body y) r r' e = absurd (cc (sym (flat_compound x r) ∙ ap (λ w. compound (first w)) e ∙ block_compound y r'))

  pub one_guarded : {u u' : List Lexeme} {v v' : Expr × Stmt} → IsGuarded u v → IsGuarded u' v' → (r r' : List Lexeme) → u ++ r ≡ u' ++ r' → (v ≡ v') × (r ≡ r')
  one_guarded (guarded closing {c = c} {b = b} x y) (guarded closing' {c = c'} {b = b'} x' y') r r' e =
      let p = one_binary x x' (sign_at RightParen closing ∷ (b ++ r)) (sign_at RightParen closing' ∷ (b' ++ r')) (omega arith) (omega arith) (shift c (sign_at RightParen closing ∷ b) r c' (sign_at RightParen closing' ∷ b') r' (tails e)) in
      let q = one_body y y' r r' (tails p.1) in
      (both (λ (a : Expr) (b : Stmt). (a, b)) p.0 q.0, q.1)

  pub one_elses : {u u' : List Lexeme} {v v' : List Arm} {o o' : Option Stmt} → AreElses u v o → AreElses u' v' o' → (r r' : List Lexeme) → NoElse (first r) → NoElse (first r') → u ++ r ≡ u' ++ r' → (v ≡ v') × (o ≡ o') × (r ≡ r')
  one_elses no_else no_else r r' f f' e = (refl, refl, e)
  one_elses (else_body x) (else_body y) r r' f f' e = let h = one_body x y r r' (tails e) in (refl, ap Some h.0, h.1)
  one_elses (else_if {a = a} {e = m} x y) (else_if {a = a'} {e = m'} x' y') r r' f f' e =
      let p = one_guarded x x' (m ++ r) (m' ++ r') (shift a m r a' m' r' (tails (tails e))) in
      let q = one_elses y y' r r' f f' p.1 in
      (arms_same p.0 q.0, q.1, q.2)
  one_elses no_else (else_body {at = at} x) r r' f f' e = absurd (f at (ap first e))
  one_elses no_else (else_if {at = at} x y) r r' f f' e = absurd (f at (ap first e))
  one_elses (else_body {at = at} x) no_else r r' f f' e = absurd (f' at (sym (ap first e)))
  one_elses (else_if {at = at} x y) no_else r r' f f' e = absurd (f' at (sym (ap first e)))
  one_elses (else_body x) (else_if x' y') r r' f f' e = absurd (body_no_if r _ (ap first (tails e)) x)
  one_elses (else_if x y) (else_body x') r r' f f' e = absurd (body_no_if r' _ (sym (ap first (tails e))) x')

  pub one_statement : {u u' : List Lexeme} {v v' : StmtKind} → IsStatement u v → IsStatement u' v' → (r r' : List Lexeme) → NoElse (first r) → NoElse (first r') → u ++ r ≡ u' ++ r' → (v ≡ v') × (r ≡ r')
  one_statement (block x) (block y) r r' f f' e = let h = one_block x y r r' e in (ap Block h.0, h.1)
  one_statement (flat x) (flat y) r r' f f' e = one_flat x y r r' e
  one_statement (if {a = a} {e = m} x y) (if {a = a'} {e = m'} x' y') r r' f f' e =
      let p = one_guarded x x' (m ++ r) (m' ++ r') (shift a m r a' m' r' (tails e)) in
      let q = one_elses y y' r r' f f' p.1 in
      (both If (arms_same p.0 q.0) q.1, q.2)
  one_statement (while x) (while x') r r' f f' e = let h = one_guarded x x' r r' (tails e) in (ap (λ (g : Expr × Stmt). While g.0 g.1) h.0, h.1)
  one_statement (for end end' closing {i = i} {c = c} {s = s} {b = b} x y z w) (for end1 end1' closing1 {i = i1} {c = c1} {s = s1} {b = b1} x1 y1 z1 w1) r r' f f' e =
      let after_step = sign_at RightParen closing ∷ (b ++ r) in
      let after_step1 = sign_at RightParen closing1 ∷ (b1 ++ r') in
      let step_back = sign_at RightParen closing ∷ b in
      let step_back1 = sign_at RightParen closing1 ∷ b1 in
      let cond_back = sign_at Semicolon end' ∷ (s ++ step_back) in
      let cond_back1 = sign_at Semicolon end1' ∷ (s1 ++ step_back1) in
      let initial_back = sign_at Semicolon end ∷ (c ++ cond_back) in
      let initial_back1 = sign_at Semicolon end1 ∷ (c1 ++ cond_back1) in
      let p = one_optional (Heads (sign_at Semicolon)) one_placed_part placed_part_apart x x1 (initial_back ++ r) (initial_back1 ++ r') (end, refl) (end1, refl) (shift i initial_back r i1 initial_back1 r' (tails (tails e))) in
      let q = one_optional (Heads (sign_at Semicolon)) one_value value_apart y y1 (cond_back ++ r) (cond_back1 ++ r') (end', refl) (end1', refl) (shift c cond_back r c1 cond_back1 r' (tails p.1)) in
      let t = one_optional (Heads (sign_at RightParen)) one_placed_simple placed_simple_apart z z1 (step_back ++ r) (step_back1 ++ r') (closing, refl) (closing1, refl) (shift s step_back r s1 step_back1 r' (tails q.1)) in
      let l = one_body w w1 r r' (tails t.1) in
      (for_same p.0 q.0 t.0 l.0, l.1)
  one_statement (cobegin closing {a = a} {b = b} {m = m} x y z) (cobegin closing1 {a = a1} {b = b1} {m = m1} x1 y1 z1) r r' f f' e =
      let more_back = sign_at RightBrace closing ∷ [] in
      let more_back1 = sign_at RightBrace closing1 ∷ [] in
      let p = one_branch x x1 ((b ++ (m ++ more_back)) ++ r) ((b1 ++ (m1 ++ more_back1)) ++ r') (shift a (b ++ (m ++ more_back)) r a1 (b1 ++ (m1 ++ more_back1)) r' (tails (tails e))) in
      let q = one_branch y y1 ((m ++ more_back) ++ r) ((m1 ++ more_back1) ++ r') (shift b (m ++ more_back) r b1 (m1 ++ more_back1) r' p.1) in
      let t = one_branches z z1 (more_back ++ r) (more_back1 ++ r') (closing, refl) (closing1, refl) (shift m more_back r m1 more_back1 r' q.1) in
      (cobegin_same p.0 q.0 t.0, tails t.1)
  one_statement (foreach comma closing {l = l} {h = h} {s = s} {b = b} x y z w) (foreach comma1 closing1 {l = l1} {h = h1} {s = s1} {b = b1} x1 y1 z1 w1) r r' f f' e =
      let high_back = s ++ (sign_at RightParen closing ∷ b) in
      let high_back1 = s1 ++ (sign_at RightParen closing1 ∷ b1) in
      let low_back = sign_at Comma comma ∷ (h ++ high_back) in
      let low_back1 = sign_at Comma comma1 ∷ (h1 ++ high_back1) in
      let p = one_binary x x1 (low_back ++ r) (low_back1 ++ r') (omega arith) (omega arith) (shift l low_back r l1 low_back1 r' (tails (tails (tails (tails e))))) in
      let q = one_binary y y1 (high_back ++ r) (high_back1 ++ r') (step_ends z closing b r) (step_ends z1 closing1 b1 r') (shift h high_back r h1 high_back1 r' (tails p.1)) in
      let k = one_step z z1 closing closing1 (b ++ r) (b1 ++ r') (shift s (sign_at RightParen closing ∷ b) r s1 (sign_at RightParen closing1 ∷ b1) r' q.1) in
      let t = one_branch w w1 r r' k.1 in
      (foreach_same (same_text (tails (tails e))) p.0 q.0 k.0 t.0, t.1)
  one_statement x y r r' f f' e = absurd (cc (sym (statement_compound x r) ∙ ap (λ w. compound (first w)) e ∙ statement_compound y r'))

  pub one_branch : {u u' : List Lexeme} {v v' : Stmt} → IsBranch u v → IsBranch u' v' → (r r' : List Lexeme) → u ++ r ≡ u' ++ r' → (v ≡ v') × (r ≡ r')
  one_branch (branch x) (branch y) r r' e = let h = one_block x y r r' e in (same_stmt e (ap Block h.0), h.1)

  pub one_branches : {u u' : List Lexeme} {v v' : List Stmt} → AreBranches u v → AreBranches u' v' → (r r' : List Lexeme) → Heads (sign_at RightBrace) (first r) → Heads (sign_at RightBrace) (first r') → u ++ r ≡ u' ++ r' → (v ≡ v') × (r ≡ r')
  one_branches no_branch no_branch r r' f f' e = (refl, e)
  one_branches (branches {b = b} {m = m} x y) (branches {b = b'} {m = m'} x' y') r r' f f' e =
      let p = one_branch x x' (m ++ r) (m' ++ r') (shift b m r b' m' r' e) in
      let q = one_branches y y' r r' f f' p.1 in
      (both (λ (a : Stmt) (b : List Stmt). a ∷ b) p.0 q.0, q.1)
  one_branches no_branch (branches {b = b} {m = m} x y) r r' f f' e = absurd (differs opens (sym (ap first (e ∙ append_assoc b m r')) ∙ f.1) (branch_opens x (m ++ r')) refl)
  one_branches (branches {b = b} {m = m} x y) no_branch r r' f f' e = absurd (differs opens (sym (ap first (append_assoc b m r)) ∙ ap first e ∙ f'.1) (branch_opens x (m ++ r)) refl)
