-- Lexemes spell at most one program.
use Rattle.std.proofs.Common.{sym, ap, ◌∙◌, refl}
use Rattle.std.specs.Prelude.{◌≡◌, ℕ, true, Option, Some, List, [], ◌∷◌, ◌++◌}
use Rattle.std.proofs.lemmas.List.{append_assoc}
use Rattle.lq_tree.specs.declared.expr.CType.{CType}
use Rattle.lq_tree.specs.declared.stmt.Stmt.{Stmt}
use Rattle.lq_tree.specs.declared.program.Param.{Param}
use Rattle.lq_tree.specs.declared.program.StructDef.{StructDef}
use Rattle.lq_tree.specs.declared.program.Func.{Func}
use Rattle.lq_tree.specs.declared.program.Program.{Program}
use Rattle.lq_parser.specs.declared.lexeme.Lexeme.{Lexeme}
use Rattle.lq_parser.specs.declared.lexeme.Sign.TheVariants.{LeftParen, RightParen, RightBrace, Semicolon}
use Rattle.lq_parser.specs.declared.lexeme.Keyword.TheVariants.{Void}
use Rattle.lq_parser.specs.declared.lexeme.Symbol.{Symbol}
use Rattle.lq_parser.specs.declared.lexeme.Symbol.TheVariants.{Sign as SignSymbol, Keyword as KeywordSymbol}
use Rattle.lq_parser.specs.Lexemes.{first, sign_at, name_at}
use Rattle.lq_parser.specs.Programs.{IsParam, param, AreMoreParams, no_more, more, AreParams, no_params, void_params, params, IsResult, void_result, type_result, IsFunc, func, AreFields, no_field, fields, IsStruct, struct, IsProgram, nothing, with_struct, with_func}
use Rattle.lq_parser.specs.Outcome.{NoStar}
use Rattle.lq_parser.proofs.Followers.{Heads}
use Rattle.lq_parser.proofs.Apart.{symbol_of, signs, heads, tails, same_text}
use Rattle.lq_parser.proofs.ItemRules.{func_no_struct}
use Rattle.lq_parser.proofs.OneType.{both, shift, differs, begins_type, begins_type_symbol, type_first, one_type}
use Rattle.lq_parser.proofs.OneStatement.{one_block}

-- ---- parameters

param_first : {u : List Lexeme} {p : Param} → IsParam u p → (r : List Lexeme) → begins_type (first (u ++ r)) ≡ true
param_first (param at {t = t} {text = text} x) r = ap (λ w. begins_type (first w)) (append_assoc t (name_at text at ∷ []) r) ∙ type_first x (name_at text at ∷ r)

abbrev param_of : CType → List ℕ → Param
param_of type text = record { ctype = type; name = text }

one_param : {u u' : List Lexeme} {v v' : Param} → IsParam u v → IsParam u' v' → (r r' : List Lexeme) → u ++ r ≡ u' ++ r' → (v ≡ v') × (r ≡ r')
one_param (param at {t = t} {text = text} x) (param at' {t = t'} {text = text'} x') r r' e =
    let p = one_type x x' (name_at text at ∷ r) (name_at text' at' ∷ r') (λ a h. cc (signs h)) (λ a h. cc (signs h)) (shift t _ r t' _ r' e) in
    (both param_of p.0 (same_text p.1), tails p.1)

one_more_params : {u u' : List Lexeme} {v v' : List Param} → AreMoreParams u v → AreMoreParams u' v' → (r r' : List Lexeme) → Heads (sign_at RightParen) (first r) → Heads (sign_at RightParen) (first r') → u ++ r ≡ u' ++ r' → (v ≡ v') × (r ≡ r')
one_more_params no_more no_more r r' f f' e = (refl, e)
one_more_params (more {p = p} {m = m} x y) (more {p = p'} {m = m'} x' y') r r' f f' e =
    let q = one_param x x' (m ++ r) (m' ++ r') (shift p m r p' m' r' (tails e)) in
    let s = one_more_params y y' r r' f f' q.1 in
    (both (λ (a : Param) (b : List Param). a ∷ b) q.0 s.0, s.1)
one_more_params no_more (more x y) r r' f f' e = absurd (cc (signs (sym f.1 ∙ ap first e)))
one_more_params (more x y) no_more r r' f f' e = absurd (cc (signs (ap first e ∙ f'.1)))

abbrev params_symbol : Option Symbol → ℕ
params_symbol (Some (SignSymbol RightParen)) = 0
params_symbol (Some (KeywordSymbol Void)) = 1
params_symbol _ = 2

abbrev params_tag : Option Lexeme → ℕ
params_tag next = params_symbol (symbol_of next)

type_params : (s : Option Symbol) → begins_type_symbol s ≡ true → params_symbol s ≡ 2
type_params (Some (SignSymbol RightParen)) h = absurd cc
type_params (Some (KeywordSymbol Void)) h = absurd cc
type_params s h = refl

abbrev params_kind : {u : List Lexeme} {v : List Param} → AreParams u v → ℕ
params_kind no_params = 0
params_kind void_params = 1
params_kind (params x y) = 2

params_tag_is : {u : List Lexeme} {v : List Param} → (x : AreParams u v) → (r : List Lexeme) → Heads (sign_at RightParen) (first r) → params_tag (first (u ++ r)) ≡ params_kind x
params_tag_is no_params r f = ap params_tag f.1
params_tag_is void_params r f = refl
params_tag_is (params {p = p} {m = m} x y) r f = ap (λ w. params_tag (first w)) (append_assoc p m r) ∙ type_params (symbol_of (first (p ++ (m ++ r)))) (param_first x (m ++ r))

one_params : {u u' : List Lexeme} {v v' : List Param} → AreParams u v → AreParams u' v' → (r r' : List Lexeme) → Heads (sign_at RightParen) (first r) → Heads (sign_at RightParen) (first r') → u ++ r ≡ u' ++ r' → (v ≡ v') × (r ≡ r')
one_params no_params no_params r r' f f' e = (refl, e)
one_params void_params void_params r r' f f' e = (refl, tails e)
one_params (params {p = p} {m = m} x y) (params {p = p'} {m = m'} x' y') r r' f f' e =
    let q = one_param x x' (m ++ r) (m' ++ r') (shift p m r p' m' r' e) in
    let s = one_more_params y y' r r' f f' q.1 in
    (both (λ (a : Param) (b : List Param). a ∷ b) q.0 s.0, s.1)
one_params x y r r' f f' e = absurd (cc (sym (params_tag_is x r f) ∙ ap (λ w. params_tag (first w)) e ∙ params_tag_is y r' f'))

-- ---- functions

one_result : {u u' : List Lexeme} {v v' : Option CType} → IsResult u v → IsResult u' v' → (r r' : List Lexeme) → NoStar (first r) → NoStar (first r') → u ++ r ≡ u' ++ r' → (v ≡ v') × (r ≡ r')
one_result void_result void_result r r' f f' e = (refl, tails e)
one_result (type_result x) (type_result y) r r' f f' e = let h = one_type x y r r' f f' e in (ap Some h.0, h.1)
one_result void_result (type_result y) r r' f f' e = absurd (differs begins_type (sym (ap first e)) (type_first y r') refl)
one_result (type_result x) void_result r r' f f' e = absurd (differs begins_type (ap first e) (type_first x r) refl)

abbrev func_of : Lexeme → Option CType → List ℕ → List Param → List Stmt → Func
func_of l result text ps body = record { at = l.at; result = result; name = text; params = ps; body = body }

same_func : {l l' : Lexeme} {a a' : Option CType} {b b' : List ℕ} {c c' : List Param} {d d' : List Stmt} → l ≡ l' → a ≡ a' → b ≡ b' → c ≡ c' → d ≡ d' → func_of l a b c d ≡ func_of l' a' b' c' d'
same_func {l' = l'} {a = a} {a' = a'} {b = b} {b' = b'} {c = c} {c' = c'} {d = d} {d' = d'} p q s t w =
    ap (λ (x : Lexeme). func_of x a b c d) p ∙ ap (λ (x : Option CType). func_of l' x b c d) q ∙ ap (λ (x : List ℕ). func_of l' a' x c d) s ∙ ap (λ (x : List Param). func_of l' a' b' x d) t ∙ ap (λ (x : List Stmt). func_of l' a' b' c' x) w

one_func : {u u' : List Lexeme} {v v' : Func} → IsFunc u v → IsFunc u' v' → (r r' : List Lexeme) → u ++ r ≡ u' ++ r' → (v ≡ v') × (r ≡ r')
one_func (func at opening closing {l = l} {r = a} {p = p} {b = b} {text = text} x y z) (func at1 opening1 closing1 {l = l1} {r = a1} {p = p1} {b = b1} {text = text1} x1 y1 z1) r r' e =
    let params_back = sign_at RightParen closing ∷ b in
    let params_back1 = sign_at RightParen closing1 ∷ b1 in
    let back = name_at text at ∷ sign_at LeftParen opening ∷ (p ++ params_back) in
    let back1 = name_at text1 at1 ∷ sign_at LeftParen opening1 ∷ (p1 ++ params_back1) in
    let q = one_result x x1 (back ++ r) (back1 ++ r') (λ w h. cc (signs h)) (λ w h. cc (signs h)) (shift (l ∷ a) back r (l1 ∷ a1) back1 r' e) in
    let s = one_params y y1 (params_back ++ r) (params_back1 ++ r') (closing, refl) (closing1, refl) (shift p params_back r p1 params_back1 r' (tails (tails q.1))) in
    let t = one_block z z1 r r' (tails s.1) in
    (same_func (heads e) q.0 (same_text q.1) s.0 t.0, t.1)

-- ---- structs

one_fields : {u u' : List Lexeme} {v v' : List Param} → AreFields u v → AreFields u' v' → (r r' : List Lexeme) → Heads (sign_at RightBrace) (first r) → Heads (sign_at RightBrace) (first r') → u ++ r ≡ u' ++ r' → (v ≡ v') × (r ≡ r')
one_fields no_field no_field r r' f f' e = (refl, e)
one_fields (fields end {f = a} {m = m} x y) (fields end' {f = a'} {m = m'} x' y') r r' f f' e =
    let q = one_param x x' (sign_at Semicolon end ∷ (m ++ r)) (sign_at Semicolon end' ∷ (m' ++ r')) (shift a (sign_at Semicolon end ∷ m) r a' (sign_at Semicolon end' ∷ m') r' e) in
    let s = one_fields y y' r r' f f' (tails q.1) in
    (both (λ (a : Param) (b : List Param). a ∷ b) q.0 s.0, s.1)
one_fields no_field (fields end {f = a} {m = m} x y) r r' f f' e =
    absurd (differs begins_type (sym (ap first (e ∙ append_assoc a (sign_at Semicolon end ∷ m) r')) ∙ f.1) (param_first x (sign_at Semicolon end ∷ (m ++ r'))) refl)
one_fields (fields end {f = a} {m = m} x y) no_field r r' f f' e =
    absurd (differs begins_type (sym (ap first (append_assoc a (sign_at Semicolon end ∷ m) r)) ∙ ap first e ∙ f'.1) (param_first x (sign_at Semicolon end ∷ (m ++ r))) refl)

abbrev struct_of : Lexeme → List ℕ → List Param → StructDef
struct_of l text members = record { at = l.at; name = text; fields = members }

same_struct : {l l' : Lexeme} {a a' : List ℕ} {b b' : List Param} → l ≡ l' → a ≡ a' → b ≡ b' → struct_of l a b ≡ struct_of l' a' b'
same_struct {l' = l'} {a = a} {a' = a'} {b = b} p q s = ap (λ (x : Lexeme). struct_of x a b) p ∙ ap (λ (x : List ℕ). struct_of l' x b) q ∙ ap (λ (x : List Param). struct_of l' a' x) s

one_struct : {u u' : List Lexeme} {v v' : StructDef} → IsStruct u v → IsStruct u' v' → (r r' : List Lexeme) → u ++ r ≡ u' ++ r' → (v ≡ v') × (r ≡ r')
one_struct (struct closing end {f = f} x) (struct closing1 end1 {f = f1} x1) r r' e =
    let back = sign_at RightBrace closing ∷ sign_at Semicolon end ∷ [] in
    let back1 = sign_at RightBrace closing1 ∷ sign_at Semicolon end1 ∷ [] in
    let q = one_fields x x1 (back ++ r) (back1 ++ r') (closing, refl) (closing1, refl) (shift f back r f1 back1 r' (tails (tails (tails e)))) in
    (same_struct (heads e) (same_text (tails e)) q.0, tails (tails q.1))

-- ---- programs

abbrev struct_first : StructDef → Program → Program
struct_first single others = record { structs = single ∷ others.structs; funcs = others.funcs }

abbrev func_first : Func → Program → Program
func_first single others = record { structs = others.structs; funcs = single ∷ others.funcs }

struct_or_func : {s f : List Lexeme} {v : StructDef} {w : Func} (m m' : List Lexeme) → IsStruct s v → IsFunc f w → s ++ m ≡ f ++ m' → ⊥
struct_or_func m m' (struct {at = at} {at' = name} {opening = opening} closing end {text = text} {f = g} x) y e =
    func_no_struct m' at name opening text ((g ++ (sign_at RightBrace closing ∷ sign_at Semicolon end ∷ [])) ++ m) y (sym e)

pub one_program : {u u' : List Lexeme} {v v' : Program} → IsProgram u v → IsProgram u' v' → u ≡ u' → v ≡ v'
one_program nothing nothing e = refl
one_program (with_struct {m = m} x y) (with_struct {m = m'} x' y') e = let q = one_struct x x' m m' e in both struct_first q.0 (one_program y y' q.1)
one_program (with_func {m = m} x y) (with_func {m = m'} x' y') e = let q = one_func x x' m m' e in both func_first q.0 (one_program y y' q.1)
one_program (with_struct {m = m} x y) (with_func {m = m'} x' y') e = absurd (struct_or_func m m' x x' e)
one_program (with_func {m = m} x y) (with_struct {m = m'} x' y') e = absurd (struct_or_func m' m x' x (sym e))
one_program nothing (with_struct (struct closing end x) y) e = absurd cc
one_program nothing (with_func (func at opening closing x z w) y) e = absurd cc
one_program (with_struct (struct closing end x) y) nothing e = absurd cc
one_program (with_func (func at opening closing x z w) y) nothing e = absurd cc
