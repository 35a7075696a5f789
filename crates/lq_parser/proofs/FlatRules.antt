-- The rules of declarations, parts and statements without a body as sequences.
use Rattle.std.proofs.Common.{sym, ap, ◌∙◌, refl, inl, inr}
use Rattle.std.specs.Prelude.{◌≡◌, ◌⊎◌, Bool, true, false, Option, None, Some, List, [], ◌∷◌, ◌++◌}
use Rattle.std.proofs.lemmas.List.{append_assoc}
use Rattle.lq_tree.specs.declared.place.Place.{Place}
use Rattle.lq_tree.specs.declared.expr.CType.{CType}
use Rattle.lq_tree.specs.declared.expr.Expr.{Expr}
use Rattle.lq_tree.specs.declared.stmt.StmtKind.{StmtKind, Empty, Local, Return, Print}
use Rattle.lq_parser.specs.declared.lexeme.Lexeme.{Lexeme}
use Rattle.lq_parser.specs.declared.lexeme.Sign.{Sign}
use Rattle.lq_parser.specs.declared.lexeme.Sign.TheVariants.{LeftParen, RightParen, Semicolon, Equal, Star, Minus, Not as NotSign}
use Rattle.lq_parser.specs.declared.lexeme.Symbol.{Symbol}
use Rattle.lq_parser.specs.declared.lexeme.Symbol.TheVariants.{Name, Number, Sign as SignSymbol, Keyword as KeywordSymbol, Reserved}
use Rattle.lq_parser.specs.declared.lexeme.Keyword.{Keyword}
use Rattle.lq_parser.specs.declared.lexeme.Keyword.TheVariants.{Calloc as CallocWord, Int as IntWord, Struct as StructWord, Return as ReturnWord, Print as PrintWord}
use Rattle.lq_parser.specs.Lexemes.{first, sign_at, word_at, name_at}
use Rattle.lq_parser.specs.Types.{IsType}
use Rattle.lq_parser.specs.Expressions.{IsExpression}
use Rattle.lq_parser.specs.Statements.{IsOptional, none, some, IsInitial, initial, IsDeclaration, declaration, IsSimple, IsPart, declaration_part, simple_part, IsFlat, empty, part, return, print}
use Rattle.lq_parser.specs.Sequence.{Then, then, Makes, makes, Nothing, nothing, IsOne, one, IsSign, IsName, held}
use Rattle.lq_parser.specs.Outcome.{Begins, Lacks, Anything, Ends, EndsPart, NoStar}
use Rattle.lq_parser.proofs.Apart.{signs, keywords, tails}
use Rattle.lq_parser.proofs.Leads.{Leads, Completes, leads_choose, complete_one, complete_then, complete_makes, complete_name}
use Rattle.lq_parser.proofs.Firsts.{CanBegin, by_name, by_number, by_calloc, by_paren, by_minus, by_not, by_star, CanBeginType, by_int, by_struct, binary_begins, type_begins, begins_on, type_begins_on, none_begins_type}
use Rattle.lq_parser.proofs.Cuts.{first_makes, first_then}
use Rattle.lq_parser.proofs.Followers.{part_not, semicolon_ends, paren_ends}
use Rattle.lq_parser.proofs.PartRules.{simple_begins}

-- what no expression begins with

abbrev begun_sign : Sign → Bool
begun_sign LeftParen = true
begun_sign Minus = true
begun_sign NotSign = true
begun_sign Star = true
begun_sign _ = false

abbrev begun_word : Keyword → Bool
begun_word CallocWord = true
begun_word _ = false

abbrev begun_symbol : Symbol → Bool
begun_symbol (Name text) = true
begun_symbol (Number value) = true
begun_symbol (SignSymbol s) = begun_sign s
begun_symbol (KeywordSymbol k) = begun_word k
begun_symbol Reserved = false

abbrev pub begun : Option Lexeme → Bool
begun (Some l) = begun_symbol l.symbol
begun None = false

can_begin_begun : {next : Option Lexeme} → CanBegin next → begun next ≡ true
can_begin_begun (by_name text at e) = rw e refl
can_begin_begun (by_number value at e) = rw e refl
can_begin_begun (by_calloc at e) = rw e refl
can_begin_begun (by_paren at e) = rw e refl
can_begin_begun (by_minus at e) = rw e refl
can_begin_begun (by_not at e) = rw e refl
can_begin_begun (by_star at e) = rw e refl

abbrev begun_type_word : Keyword → Bool
begun_type_word IntWord = true
begun_type_word StructWord = true
begun_type_word _ = false

abbrev begun_type_symbol : Symbol → Bool
begun_type_symbol (KeywordSymbol k) = begun_type_word k
begun_type_symbol _ = false

abbrev pub begun_type : Option Lexeme → Bool
begun_type (Some l) = begun_type_symbol l.symbol
begun_type None = false

can_begin_type_begun : {next : Option Lexeme} → CanBeginType next → begun_type next ≡ true
can_begin_type_begun (by_int at e) = rw e refl
can_begin_type_begun (by_struct at e) = rw e refl

-- what begins an expression or a type is no other lexeme
pub not_begun : {a b : Option Lexeme} → begun b ≡ false → a ≡ b → CanBegin a → ⊥
not_begun h e x = cc (can_begin_begun x, ap begun e)

pub not_begun_type : {a b : Option Lexeme} → begun_type b ≡ false → a ≡ b → CanBeginType a → ⊥
not_begun_type h e x = cc (can_begin_type_begun x, ap begun_type e)

-- a part that may be absent, and what closes it

-- X is never nothing, and never begins with this lexeme
abbrev pub Avoids : {A : Type 0} → (Place → Lexeme) → (List Lexeme → A → Type 0) → Type 0
Avoids {A} make X = (u : List Lexeme) (v : A) → X u v → (r : List Lexeme) (at : Place) → first (u ++ r) ≡ Some (make at) → ⊥

absent_into : {A B : Type 0} {X : List Lexeme → A → Type 0} {make : Place → Lexeme} {f : Option A → B} (u : List Lexeme) (v : B)
    → Makes (IsOne make) (λ _. f None) u v → Then (IsOptional X) (λ value. Makes (IsOne make) (λ _. f value)) u v
absent_into u v (makes one) = then none (makes one)

absent_from : {A B : Type 0} {X : List Lexeme → A → Type 0} {make : Place → Lexeme} {f : Option A → B} (u r : List Lexeme) (v : B) (at : Place)
    → Avoids make X → first (u ++ r) ≡ Some (make at)
    → Then (IsOptional X) (λ value. Makes (IsOne make) (λ _. f value)) u v → Makes (IsOne make) (λ _. f None) u v
absent_from u r v at avoids h (then none (makes one)) = makes one
absent_from u r v at avoids h (then {front = p} {back = q} (some x) k) = absurd (avoids p _ x (q ++ r) at (sym (ap first (append_assoc p q r)) ∙ h))

pub leads_absent : {A B : Type 0} {X : List Lexeme → A → Type 0} {make : Place → Lexeme} {f : Option A → B} {F : Option Lexeme → Type 0} {ls rest : List Lexeme}
    → Avoids make X → Begins make ls rest
    → Leads (Then (IsOptional X) (λ value. Makes (IsOne make) (λ _. f value))) F ls (Makes (IsOne make) (λ _. f None)) ls
leads_absent {X = X} {f = f} avoids b = leads_choose (λ u v x. absent_into {X = X} {f = f} u v x) (λ u r v h x s. absent_from {X = X} {f = f} u r v b.0 avoids (h ∙ ap first b.1) x)

present_into : {A B : Type 0} {X : List Lexeme → A → Type 0} {make : Place → Lexeme} {f : Option A → B} (u : List Lexeme) (v : B)
    → Then X (λ value. Makes (IsOne make) (λ _. f (Some value))) u v → Then (IsOptional X) (λ value. Makes (IsOne make) (λ _. f value)) u v
present_into u v (then x (makes one)) = then (some x) (makes one)

present_from : {A B : Type 0} {X : List Lexeme → A → Type 0} {make : Place → Lexeme} {f : Option A → B} (u r : List Lexeme) (v : B) (ls : List Lexeme)
    → Lacks make ls → first (u ++ r) ≡ first ls
    → Then (IsOptional X) (λ value. Makes (IsOne make) (λ _. f value)) u v → Then X (λ value. Makes (IsOne make) (λ _. f (Some value))) u v
present_from u r v ls lacks h (then none (makes (one {at = at}))) = absurd (lacks at (sym h))
present_from u r v ls lacks h (then (some x) (makes one)) = then x (makes one)

pub leads_present : {A B : Type 0} {X : List Lexeme → A → Type 0} {make : Place → Lexeme} {f : Option A → B} {F : Option Lexeme → Type 0} {ls : List Lexeme}
    → Lacks make ls
    → Leads (Then (IsOptional X) (λ value. Makes (IsOne make) (λ _. f value))) F ls (Then X (λ value. Makes (IsOne make) (λ _. f (Some value)))) ls
leads_present {X = X} {f = f} {ls = ls} lacks = leads_choose (λ u v x. present_into {X = X} {f = f} u v x) (λ u r v h x s. present_from {X = X} {f = f} u r v ls lacks h x)

-- expressions

pub expression_avoids : {s : Sign} → begun_sign s ≡ false → Avoids (sign_at s) IsExpression
expression_avoids {s = s} h u v x r at e = not_begun {b = Some (sign_at s at)} h e (begins_on u r (binary_begins x))

-- declarations

abbrev pub Declared : List Lexeme → StmtKind → Type 0
Declared = Then IsType (λ type. Then IsName (λ text. Makes (IsOptional IsInitial) (Local type text)))

declared_into : (u : List Lexeme) (v : StmtKind) → Declared u v → IsDeclaration u v
declared_into u v (then x (then held (makes i))) = declaration _ x i

declared_from : (u : List Lexeme) (v : StmtKind) → IsDeclaration u v → Declared u v
declared_from u v (declaration at x i) = then x (then held (makes i))

pub leads_declared : {F : Option Lexeme → Type 0} {ls : List Lexeme} → Leads IsDeclaration F ls Declared ls
leads_declared = leads_choose declared_into (λ u r v h x s. declared_from u v x)

-- no `*` follows a type
pub type_follows : (type : CType) (b : StmtKind) (g r : List Lexeme)
    → Then IsName (λ text. Makes (IsOptional IsInitial) (Local type text)) g b → NoStar (first (g ++ r))
type_follows type b g r (then held k) at h = cc (signs h)

pub complete_initial : Completes (IsOptional IsInitial)
complete_initial = ([], None, none)

pub complete_declared : (type : CType) → Completes (Then IsName (λ text. Makes (IsOptional IsInitial) (Local type text)))
complete_declared type = complete_then complete_name (λ text. complete_makes complete_initial)

abbrev pub Initial : List Lexeme → Option Expr → Type 0
Initial = Then (IsSign Equal) (λ _. Makes IsExpression Some)

initial_into : (u : List Lexeme) (v : Option Expr) → Initial u v → IsOptional IsInitial u v
initial_into u v (then one (makes x)) = some (initial x)

initial_from : (u r : List Lexeme) (v : Option Expr) (at : Place) → first (u ++ r) ≡ Some (sign_at Equal at) → EndsPart (first r) → IsOptional IsInitial u v → Initial u v
initial_from u r v at h s none = absurd (part_not (first r) refl s h)
initial_from u r v at h s (some (initial x)) = then one (makes x)

pub leads_initial : {ls rest : List Lexeme} → Begins (sign_at Equal) ls rest → Leads (IsOptional IsInitial) EndsPart ls Initial ls
leads_initial b = leads_choose initial_into (λ u r v h x s. initial_from u r v b.0 (h ∙ ap first b.1) s x)

no_initial_into : (u : List Lexeme) (v : Option Expr) → Nothing None u v → IsOptional IsInitial u v
no_initial_into u v nothing = none

no_initial_from : (u r : List Lexeme) (v : Option Expr) (ls : List Lexeme) → Lacks (sign_at Equal) ls → first (u ++ r) ≡ first ls → IsOptional IsInitial u v → Nothing None u v
no_initial_from u r v ls lacks h none = nothing
no_initial_from u r v ls lacks h (some (initial {at = at} x)) = absurd (lacks at (sym h))

pub leads_no_initial : {ls : List Lexeme} → Lacks (sign_at Equal) ls → Leads (IsOptional IsInitial) EndsPart ls (Nothing None) ls
leads_no_initial {ls = ls} lacks = leads_choose no_initial_into (λ u r v h x s. no_initial_from u r v ls lacks h x)

-- parts

declaration_begins : {u : List Lexeme} {v : StmtKind} → IsDeclaration u v → CanBeginType (first u)
declaration_begins (declaration at {t = t} {i = i} x k) = type_begins_on t (name_at _ at ∷ i) (type_begins x)

pub declaration_some : (v : StmtKind) → IsDeclaration [] v → ⊥
declaration_some v x = none_begins_type (declaration_begins x)

pub part_begins : {u : List Lexeme} {v : StmtKind} → IsPart u v → CanBegin (first u) ⊎ CanBeginType (first u)
part_begins (declaration_part x) = inr (declaration_begins x)
part_begins (simple_part x) = inl (simple_begins x)

-- what no part begins with
pub not_part : {u : List Lexeme} {v : StmtKind} (r : List Lexeme) {b : Option Lexeme} → begun b ≡ false → begun_type b ≡ false → first (u ++ r) ≡ b → IsPart u v → ⊥
not_part {u = u} r h k e (declaration_part x) = not_begun_type k e (type_begins_on u r (declaration_begins x))
not_part {u = u} r h k e (simple_part x) = not_begun h e (begins_on u r (simple_begins x))

declaration_from : (u r : List Lexeme) (v : StmtKind) {b : Option Lexeme} → begun b ≡ false → first (u ++ r) ≡ b → IsPart u v → IsDeclaration u v
declaration_from u r v h e (declaration_part x) = x
declaration_from u r v h e (simple_part x) = absurd (not_begun h e (begins_on u r (simple_begins x)))

pub leads_declaration : {k : Keyword} {ls rest : List Lexeme} {F : Option Lexeme → Type 0} → begun_word k ≡ false → Begins (word_at k) ls rest → Leads IsPart F ls IsDeclaration ls
leads_declaration {k = k} other b = leads_choose (λ u v x. declaration_part x) (λ u r v h x s. declaration_from u r v {b = Some (word_at k b.0)} other (h ∙ ap first b.1) x)

simple_from : (u r : List Lexeme) (v : StmtKind) (ls : List Lexeme) → Lacks (word_at IntWord) ls → Lacks (word_at StructWord) ls → first (u ++ r) ≡ first ls → IsPart u v → IsSimple u v
simple_from u r v ls no_int no_struct h (declaration_part x) = absurd (go (type_begins_on u r (declaration_begins x)))
  where
    go : CanBeginType (first (u ++ r)) → ⊥
    go (by_int at e) = no_int at (sym h ∙ e)
    go (by_struct at e) = no_struct at (sym h ∙ e)
simple_from u r v ls no_int no_struct h (simple_part x) = x

pub leads_simple : {ls : List Lexeme} {F : Option Lexeme → Type 0} → Lacks (word_at IntWord) ls → Lacks (word_at StructWord) ls → Leads IsPart F ls IsSimple ls
leads_simple {ls = ls} no_int no_struct = leads_choose (λ u v x. simple_part x) (λ u r v h x s. simple_from u r v ls no_int no_struct h x)

-- statements without a body

pub part_avoids : {s : Sign} → begun_sign s ≡ false → Avoids (sign_at s) IsPart
part_avoids {s = s} h u v x r at e = not_part r {b = Some (sign_at s at)} h refl e x

pub flat_some : (v : StmtKind) → IsFlat [] v → ⊥
flat_some v x = go refl x
  where
    go : {w : List Lexeme} {v : StmtKind} → w ≡ [] → IsFlat w v → ⊥
    go e empty = cc
    go e (part end {p = []} x) = cc
    go e (part end {p = l ∷ p} x) = cc
    go e (return end x) = cc
    go e (print closing end x) = cc

abbrev pub EmptyFlat : List Lexeme → StmtKind → Type 0
EmptyFlat = Makes (IsSign Semicolon) (λ _. Empty)

empty_into : (u : List Lexeme) (v : StmtKind) → EmptyFlat u v → IsFlat u v
empty_into u v (makes one) = empty

empty_from : (u r : List Lexeme) (v : StmtKind) (at : Place) → first (u ++ r) ≡ Some (sign_at Semicolon at) → IsFlat u v → EmptyFlat u v
empty_from u r v at h empty = makes one
empty_from u r v at h (part end {p = p} x) = absurd (part_avoids {s = Semicolon} refl p _ x ((sign_at Semicolon end ∷ []) ++ r) at (sym (ap first (append_assoc p (sign_at Semicolon end ∷ []) r)) ∙ h))
empty_from u r v at h (return end x) = absurd (cc (signs h))
empty_from u r v at h (print closing end x) = absurd (cc (signs h))

pub leads_empty : {ls rest : List Lexeme} → Begins (sign_at Semicolon) ls rest → Leads IsFlat Anything ls EmptyFlat ls
leads_empty b = leads_choose empty_into (λ u r v h x s. empty_from u r v b.0 (h ∙ ap first b.1) x)

abbrev pub PartFlat : List Lexeme → StmtKind → Type 0
PartFlat = Then IsPart (λ kind. Makes (IsSign Semicolon) (λ _. kind))

part_into : (u : List Lexeme) (v : StmtKind) → PartFlat u v → IsFlat u v
part_into u v (then x (makes one)) = part _ x

part_from : (u r : List Lexeme) (v : StmtKind) (ls : List Lexeme) → Lacks (sign_at Semicolon) ls → Lacks (word_at ReturnWord) ls → Lacks (word_at PrintWord) ls
    → first (u ++ r) ≡ first ls → IsFlat u v → PartFlat u v
part_from u r v ls no_end no_return no_print h (empty {end = end}) = absurd (no_end end (sym h))
part_from u r v ls no_end no_return no_print h (part end x) = then x (makes one)
part_from u r v ls no_end no_return no_print h (return {at = at} end x) = absurd (no_return at (sym h))
part_from u r v ls no_end no_return no_print h (print {at = at} closing end x) = absurd (no_print at (sym h))

pub leads_part : {ls : List Lexeme} → Lacks (sign_at Semicolon) ls → Lacks (word_at ReturnWord) ls → Lacks (word_at PrintWord) ls → Leads IsFlat Anything ls PartFlat ls
leads_part {ls = ls} no_end no_return no_print = leads_choose part_into (λ u r v h x s. part_from u r v ls no_end no_return no_print h x)

-- `;` may follow a part
pub semicolon_after : (kind b : StmtKind) (g r : List Lexeme) → Makes (IsSign Semicolon) (λ _. kind) g b → EndsPart (first (g ++ r))
semicolon_after kind b g r x = let h = first_makes x r in (h.0, inl h.1)

pub complete_sign : {A : Type 0} {make : Place → Lexeme} {f : Unit {0} → A} → Completes (Makes (IsOne make) f)
complete_sign = complete_makes complete_one

-- behind `return`
abbrev pub Returned : List Lexeme → StmtKind → Type 0
Returned = Then (IsOptional IsExpression) (λ value. Makes (IsSign Semicolon) (λ _. Return value))

returned_into : (at : Place) (u : List Lexeme) (v : StmtKind) → Returned u v → IsFlat (word_at ReturnWord at ∷ u) v
returned_into at u v (then x (makes one)) = return _ x

returned_from : {at : Place} {w : List Lexeme} (u : List Lexeme) {v : StmtKind} → w ≡ word_at ReturnWord at ∷ u → IsFlat w v → Returned u v
returned_from u eq empty = absurd (cc (keywords (ap first eq)))
returned_from {at = at} u eq (part end {p = p} x) = absurd (not_part (sign_at Semicolon end ∷ []) {b = Some (word_at ReturnWord at)} refl refl (ap first eq) x)
returned_from u eq (return end x) = rw (← tails eq) (then x (makes one))
returned_from u eq (print closing end x) = absurd (cc (keywords (ap first eq)))

pub leads_returned : {at : Place} {F : Option Lexeme → Type 0} {ls : List Lexeme} → Leads (λ u v. IsFlat (word_at ReturnWord at ∷ u) v) F ls Returned ls
leads_returned {at = at} = leads_choose (returned_into at) (λ u r v h x s. returned_from u refl x)

pub leads_return_value : {F : Option Lexeme → Type 0} {ls : List Lexeme} → Lacks (sign_at Semicolon) ls
    → Leads Returned F ls (Then IsExpression (λ value. Makes (IsSign Semicolon) (λ _. Return (Some value)))) ls
leads_return_value lacks = leads_present {X = IsExpression} {f = Return} lacks

pub leads_return_none : {F : Option Lexeme → Type 0} {ls rest : List Lexeme} → Begins (sign_at Semicolon) ls rest
    → Leads Returned F ls (Makes (IsSign Semicolon) (λ _. Return None)) ls
leads_return_none b = leads_absent {X = IsExpression} {f = Return} (expression_avoids refl) b

-- a sign may follow an expression
pub semicolon_follows : {B : Type 0} (f : Expr → Unit {0} → B) (e : Expr) (b : B) (g r : List Lexeme) → Makes (IsSign Semicolon) (f e) g b → Ends 6 (first (g ++ r))
semicolon_follows f e b g r x = semicolon_ends (first_makes x r)

-- behind `print`
abbrev pub Printed : List Lexeme → StmtKind → Type 0
Printed = Then (IsSign LeftParen) (λ _. Then IsExpression (λ value. Then (IsSign RightParen) (λ _. Makes (IsSign Semicolon) (λ _. Print value))))

printed_into : (at : Place) (u : List Lexeme) (v : StmtKind) → Printed u v → IsFlat (word_at PrintWord at ∷ u) v
printed_into at u v (then one (then x (then one (makes one)))) = print _ _ x

printed_from : {at : Place} {w : List Lexeme} (u : List Lexeme) {v : StmtKind} → w ≡ word_at PrintWord at ∷ u → IsFlat w v → Printed u v
printed_from u eq empty = absurd (cc (keywords (ap first eq)))
printed_from {at = at} u eq (part end {p = p} x) = absurd (not_part (sign_at Semicolon end ∷ []) {b = Some (word_at PrintWord at)} refl refl (ap first eq) x)
printed_from u eq (return end x) = absurd (cc (keywords (ap first eq)))
printed_from u eq (print closing end x) = rw (← tails eq) (then one (then x (then one (makes one))))

pub leads_printed : {at : Place} {F : Option Lexeme → Type 0} {ls : List Lexeme} → Leads (λ u v. IsFlat (word_at PrintWord at ∷ u) v) F ls Printed ls
leads_printed {at = at} = leads_choose (printed_into at) (λ u r v h x s. printed_from u refl x)

pub printed_follows : (e : Expr) (b : StmtKind) (g r : List Lexeme)
    → Then (IsSign RightParen) (λ _. Makes (IsSign Semicolon) (λ _. Print e)) g b → Ends 6 (first (g ++ r))
printed_follows e b g r x = paren_ends (first_then x r)

pub complete_printed : (e : Expr) → Completes (Then (IsSign RightParen) (λ _. Makes (IsSign Semicolon) (λ _. Print e)))
complete_printed e = complete_then complete_one (λ u. complete_sign)
