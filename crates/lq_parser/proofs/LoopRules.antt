-- The heads of loops as sequences.
use Rattle.std.proofs.Common.{sym, ap, ◌∙◌, refl, inl, inr, arith}
use Rattle.std.specs.Prelude.{◌≡◌, ◌⊎◌, ℕ, ℤ, pos, Option, None, Some, List, [], ◌∷◌, ◌++◌}
use Rattle.lq_tree.specs.declared.place.Place.{Place}
use Rattle.lq_tree.specs.declared.expr.Expr.{Expr}
use Rattle.lq_tree.specs.declared.stmt.Stmt.{Stmt}
use Rattle.lq_tree.specs.declared.stmt.StmtKind.{StmtKind}
use Rattle.lq_parser.specs.declared.lexeme.Lexeme.{Lexeme}
use Rattle.lq_parser.specs.declared.lexeme.Sign.TheVariants.{RightParen, Comma, Semicolon}
use Rattle.lq_parser.specs.Lexemes.{first, sign_at}
use Rattle.lq_parser.specs.Expressions.{IsExpression}
use Rattle.lq_parser.specs.Statements.{none, Placed, placed, IsSimple, IsPart, IsStep, no_step, a_step}
use Rattle.lq_parser.specs.Sequence.{Then, then, Makes, Nothing, nothing, IsOne, one, IsSign, held, IsNumber, IsClosed, IsBehindFirst, IsBehindCondition, IsBehindIndex, IsBehindBounds, IsBehindStep}
use Rattle.lq_parser.specs.Outcome.{Begins, Lacks, Ends, EndsPart, NoComma}
use Rattle.lq_parser.proofs.Apart.{signs}
use Rattle.lq_parser.proofs.Leads.{Leads, Completes, leads_choose, complete_one, complete_then, complete_makes}
use Rattle.lq_parser.proofs.Firsts.{CanBegin, CanBeginType, none_begins, none_begins_type, begins_on, complete_expression}
use Rattle.lq_parser.proofs.Cuts.{first_makes, first_then}
use Rattle.lq_parser.proofs.Followers.{paren_ends, comma_ends}
use Rattle.lq_parser.proofs.PartRules.{simple_begins}
use Rattle.lq_parser.proofs.FlatRules.{not_begun, Avoids, part_begins, leads_absent, leads_present, complete_sign}
use Rattle.lq_parser.proofs.StatementRules.{complete_body, complete_branch}

-- a part that may be absent and what closes it

pub leads_no_part : {A : Type 0} {X : List Lexeme → A → Type 0} {make : Place → Lexeme} {F : Option Lexeme → Type 0} {ls rest : List Lexeme}
    → Avoids make X → Begins make ls rest → Leads (IsClosed X make) F ls (Makes (IsOne make) (λ _. None)) ls
leads_no_part {A = A} {X = X} avoids b = leads_absent {B = Option A} {X = X} {f = λ v. v} avoids b

pub leads_a_part : {A : Type 0} {X : List Lexeme → A → Type 0} {make : Place → Lexeme} {F : Option Lexeme → Type 0} {ls : List Lexeme}
    → Lacks make ls → Leads (IsClosed X make) F ls (Then X (λ value. Makes (IsOne make) (λ _. Some value))) ls
leads_a_part {A = A} {X = X} lacks = leads_present {B = Option A} {X = X} {f = λ v. v} lacks

pub complete_closed : {A : Type 0} {X : List Lexeme → A → Type 0} {make : Place → Lexeme} → Completes (IsClosed X make)
complete_closed = complete_then ([], None, none) (λ value. complete_sign)

-- the parts of a head

pub placed_avoids : {X : List Lexeme → StmtKind → Type 0} {make : Place → Lexeme} → Avoids make X → Avoids make (Placed X)
placed_avoids avoids u v (placed {l = l} {ls = ls} {kind = kind} x) r at h = avoids (l ∷ ls) kind x r at h

pub part_never : (v : StmtKind) → IsPart [] v → ⊥
part_never v x = go (part_begins x)
  where
    go : CanBegin None ⊎ CanBeginType None → ⊥
    go (inl b) = none_begins b
    go (inr b) = none_begins_type b

pub simple_never : (v : StmtKind) → IsSimple [] v → ⊥
simple_never v x = none_begins (simple_begins x)

pub simple_avoids : Avoids (sign_at RightParen) IsSimple
simple_avoids u v x r at e = not_begun {b = Some (sign_at RightParen at)} refl e (begins_on u r (simple_begins x))

pub semicolon_behind : {A B : Type 0} (f : A → Unit {0} → B) (a : A) (b : B) (g r : List Lexeme) → Makes (IsSign Semicolon) (f a) g b → EndsPart (first (g ++ r))
semicolon_behind f a b g r x = let h = first_makes x r in (h.0, inl h.1)

pub paren_behind : {A B : Type 0} (f : A → Unit {0} → B) (a : A) (b : B) (g r : List Lexeme) → Makes (IsSign RightParen) (f a) g b → EndsPart (first (g ++ r))
paren_behind f a b g r x = let h = first_makes x r in (h.0, inr h.1)

-- what completes a `for`

pub complete_behind_condition : (initial : Option Stmt) (cond : Option Expr) → Completes (IsBehindCondition initial cond)
complete_behind_condition initial cond = complete_then complete_closed (λ step. complete_makes complete_body)

pub complete_behind_first : (initial : Option Stmt) → Completes (IsBehindFirst initial)
complete_behind_first initial = complete_then complete_closed (λ cond. complete_behind_condition initial cond)

-- the step of a `foreach`

abbrev pub Stepped : List Lexeme → ℤ → Type 0
Stepped = Then (IsSign Comma) (λ _. IsNumber)

stepped_into : (u : List Lexeme) (v : ℤ) → Stepped u v → IsStep u v
stepped_into u v (then one held) = a_step

stepped_from : (u r : List Lexeme) (v : ℤ) (at : Place) → first (u ++ r) ≡ Some (sign_at Comma at) → NoComma (first r) → IsStep u v → Stepped u v
stepped_from u r v at h s no_step = absurd (s at h)
stepped_from u r v at h s a_step = then one held

pub leads_a_step : {ls rest : List Lexeme} → Begins (sign_at Comma) ls rest → Leads IsStep NoComma ls Stepped ls
leads_a_step b = leads_choose stepped_into (λ u r v h x s. stepped_from u r v b.0 (h ∙ ap first b.1) s x)

unstepped_into : (u : List Lexeme) (v : ℤ) → Nothing (pos 1) u v → IsStep u v
unstepped_into u v nothing = no_step

unstepped_from : (u r : List Lexeme) (v : ℤ) (ls : List Lexeme) → Lacks (sign_at Comma) ls → first (u ++ r) ≡ first ls → IsStep u v → Nothing (pos 1) u v
unstepped_from u r v ls lacks h no_step = nothing
unstepped_from u r v ls lacks h (a_step {comma = at}) = absurd (lacks at (sym h))

pub leads_no_step : {F : Option Lexeme → Type 0} {ls : List Lexeme} → Lacks (sign_at Comma) ls → Leads IsStep F ls (Nothing (pos 1)) ls
leads_no_step {ls = ls} lacks = leads_choose unstepped_into (λ u r v h x s. unstepped_from u r v ls lacks h x)

-- what completes a `foreach`

abbrev pub IsBehindLow : List ℕ → Expr → List Lexeme → StmtKind → Type 0
IsBehindLow index low = Then (IsSign Comma) (λ _. Then IsExpression (IsBehindBounds index low))

pub complete_behind_step : (index : List ℕ) (low high : Expr) (step : ℤ) → Completes (IsBehindStep index low high step)
complete_behind_step index low high step = complete_then complete_one (λ u. complete_makes complete_branch)

pub complete_behind_bounds : (index : List ℕ) (low high : Expr) → Completes (IsBehindBounds index low high)
complete_behind_bounds index low high = complete_then ([], pos 1, no_step) (complete_behind_step index low high)

pub complete_behind_low : (index : List ℕ) (low : Expr) → Completes (IsBehindLow index low)
complete_behind_low index low = complete_then complete_one (λ u. complete_then complete_expression (complete_behind_bounds index low))

pub complete_behind_index : (index : List ℕ) → Completes (IsBehindIndex index)
complete_behind_index index = complete_then complete_one (λ u. complete_then complete_expression (complete_behind_low index))

pub bounds_follow : (index : List ℕ) (low high : Expr) (b : StmtKind) (g r : List Lexeme) → IsBehindBounds index low high g b → Ends 6 (first (g ++ r))
bounds_follow index low high b g r (then no_step x) = paren_ends (first_then x r)
bounds_follow index low high b g r (then a_step x) = omega arith

-- no `,` follows a step
pub step_follows : (index : List ℕ) (low high : Expr) (step : ℤ) (b : StmtKind) (g r : List Lexeme) → IsBehindStep index low high step g b → NoComma (first (g ++ r))
step_follows index low high step b g r (then one x) at h = cc (signs h)

pub low_follows : (index : List ℕ) (low : Expr) (b : StmtKind) (g r : List Lexeme) → IsBehindLow index low g b → Ends 6 (first (g ++ r))
low_follows index low b g r x = comma_ends (first_then x r)
