-- The plain form of each function is light, and its expressions are shallow.
use Rattle.std.proofs.Common.{◌≡◌, ℕ, zero, suc, ◌+◌, ◌^◌, ◌<◌, ◌≤◌, true, ◌&&◌, List, [], ◌∷◌, ◌++◌, length, map, Some, IsTrue, refl, ap, ap₂, ◌∙◌, subst, arith}
use Rattle.std.specs.Prelude.{slice_get}
use Rattle.std.specs.List.{AllByRecursion, list_all, flat_map}
use Rattle.std.proofs.lemmas.List.{length-append, length-map}
use Rattle.std.proofs.lemmas.List.Folds.{list_all-append}
use Rattle.std.proofs.lemmas.Grind.{flat_map-append}
use Rattle.std.proofs.lemmas.Bool.{le-leb}
use Rattle.std.proofs.lemmas.Option.{none-some, same_Some}
use Rattle.lq_tree.specs.declared.limit.Quantity.TheVariants.{SourceBytes}
use Rattle.lq_tree.specs.declared.plain.PExpr.{PExpr}
use Rattle.lq_tree.specs.declared.plain.PFunc.{PFunc}
use Rattle.lq_tree.specs.declared.plain.PStmt.{PStmt}
use Rattle.lq_tree.specs.declared.program.Func.{Func}
use Rattle.lq_tree.specs.declared.program.Program.{Program}
use Rattle.lq_tree.specs.Formed.{weight}
use Rattle.lq_tree.specs.Limit.{row_of}
use Rattle.lq_tree.specs.PlainShape.{depth, is_shallow}
use Rattle.lq_tree.specs.PlainWalk.{nodes, values, statements, expressions}
use Rattle.lq_lexer.specs.declared.token.Token.{Token}
use Rattle.lq_lexer.specs.Shape.{IsShapely}
use Rattle.lq_lexer.specs.Tokens.{Tokens}
use Rattle.lq_parser.specs.Source.{lexeme_of}
use Rattle.lq_parser.specs.Spelling.{Spells}
use Rattle.lq_plain.specs.Plain.{plain_body, plain_func, plain_program}
use Rattle.lq_plain.proofs.LightNodes.{sizes, heft, AreShallow}
use Rattle.lq_plain.proofs.LightFlat.{AllShallow}
use Rattle.lq_plain.proofs.LightStretches.{tokens_few, stretchy}
use Rattle.lq_plain.proofs.LightPrograms.{LightFunc, program_light}

-- ---- the measures in the words of the tree

nodes_total : (es : List PExpr) → length (flat_map nodes es) ≡ sizes es
nodes_total [] = refl
nodes_total (e ∷ es) = length-append (nodes e) (flat_map nodes es) ∙ ap (λ n. length (nodes e) + n) (nodes_total es)

heft_total : (ss : List PStmt) → length ss + length (flat_map nodes (flat_map (λ (s : PStmt). values s.kind) ss)) ≡ heft ss
heft_total [] = refl
heft_total (s ∷ ss) =
    let more = heft_total ss in
    let own = nodes_total (values s.kind) in
    let others = flat_map (λ (s : PStmt). values s.kind) ss in
    let both : length (flat_map nodes (values s.kind ++ others)) ≡ length (flat_map nodes (values s.kind)) + length (flat_map nodes others) =
    ap length (flat_map-append nodes (values s.kind) others) ∙ length-append (flat_map nodes (values s.kind)) (flat_map nodes others) in
    omega (arith, more, own, both)

shallow_one : (e : PExpr) → depth e ≤ 600 → is_shallow e ≡ true
shallow_one e h = le-leb (depth e) 600 h

shallow_all : (es : List PExpr) → AllShallow es → list_all is_shallow es ≡ true
shallow_all [] h = refl
shallow_all (e ∷ es) h = ap₂ (λ x y. x && y) (shallow_one e h.0) (shallow_all es h.1)

shallow_total : (ss : List PStmt) → AreShallow ss → list_all is_shallow (flat_map (λ (s : PStmt). values s.kind) ss) ≡ true
shallow_total [] h = refl
shallow_total (s ∷ ss) h =
    list_all-append is_shallow (values s.kind) (flat_map (λ (s : PStmt). values s.kind) ss) ∙ ap₂ (λ x y. x && y) (shallow_all (values s.kind) h.0) (shallow_total ss h.1)

-- ---- functions

-- light, and shallow
abbrev IsFine : PFunc → Type 0
IsFine f = IsTrue (list_all is_shallow (expressions f.body)) × (weight f < 2 ^ 23)

fine : (q : Program) (f : Func) → LightFunc 262144 f → IsFine (plain_func q f)
fine q f h =
    let made = h q in
    let light = made.light in
    let total = heft_total (statements (plain_body q f).front) in
    (shallow_total (statements (plain_body q f).front) made.shallow, omega (arith, light, total))

each_fine : (q : Program) (funcs : List Func) → AllByRecursion (LightFunc 262144) funcs → (number : ℕ) (f : PFunc) → slice_get (map (plain_func q) funcs) number ≡ Some f → IsFine f
each_fine q [] h number f is = absurd (none-some f is)
each_fine q (g ∷ funcs) h zero f is = subst IsFine (same_Some (plain_func q g) f is) (fine q g h.0)
each_fine q (g ∷ funcs) h (suc number) f is = each_fine q funcs h.1 number f is

pub light_and_shallow : (text : List ℕ) (tokens : List Token) (p : Program) → Tokens text tokens → length text ≤ (row_of SourceBytes).allowed → IsShapely text tokens → Spells text tokens p
    → (number : ℕ) (f : PFunc) → slice_get (plain_program p).funcs number ≡ Some f → IsTrue (list_all is_shallow (expressions f.body)) × (weight f < 2 ^ 23)
light_and_shallow text tokens p h small shape spells =
    let few = tokens_few h.whole in
    let long = length-map tokens (lexeme_of text) in
    each_fine p p.funcs (program_light 262144 spells (stretchy text tokens h shape) (omega (arith, few, long, small)))
