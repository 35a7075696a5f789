-- Statements, functions and programs that lexemes spell are light by the number of lexemes.
use Rattle.std.proofs.Common.{ℕ, pos, ◌+◌, ◌*◌, ◌≤◌, List, [], ◌∷◌, ◌++◌, length, map, Option, arith}
use Rattle.std.specs.List.{AllByRecursion}
use Rattle.std.proofs.lemmas.List.{length-append, length-map}
use Rattle.lq_tree.specs.declared.expr.Expr.{Expr, Num, Var, Bin}
use Rattle.lq_tree.specs.declared.program.Func.{Func}
use Rattle.lq_tree.specs.declared.program.Param.{Param}
use Rattle.lq_tree.specs.declared.program.Program.{Program}
use Rattle.lq_tree.specs.declared.stmt.Arm.{Arm}
use Rattle.lq_tree.specs.declared.stmt.Stmt.{Stmt}
use Rattle.lq_tree.specs.declared.stmt.StmtKind.{StmtKind, Block}
use Rattle.lq_tree.specs.Types.{result_of}
use Rattle.lq_parser.specs.declared.lexeme.Lexeme.{Lexeme}
use Rattle.lq_parser.specs.declared.lexeme.Sign.TheVariants.{LeftParen, RightParen, RightBrace, Semicolon, Comma, Equal}
use Rattle.lq_parser.specs.Lexemes.{sign_at, name_at}
use Rattle.lq_parser.specs.Expressions.{IsExpression}
use Rattle.lq_parser.specs.Statements.{arm_of, IsOptional, none, some, Placed, placed, initial, IsDeclaration, declaration, IsSimple, set, update, step, store, call, IsPart, declaration_part, simple_part, IsFlat, empty, part, return, print, IsBlock, braces, AreStatements, no_statement, statement, IsBody, block_body, flat_body, IsGuarded, guarded, AreElses, no_else, else_body, else_if, IsStatement, block, flat, if, while, for, cobegin, foreach, IsBranch, branch, AreBranches, no_branch, branches}
use Rattle.lq_parser.specs.Programs.{IsParam, param, AreMoreParams, no_more, more, AreParams, no_params, void_params, params, IsFunc, func, IsProgram, nothing, with_struct, with_func}
use Rattle.lq_plain.specs.Plain.{param_slot, scope_from, plain_body}
use Rattle.lq_plain.proofs.LightFlat.{MadeFits, fresh_fits, made_more}
use Rattle.lq_plain.proofs.LightExpressions.{IsLight, light_num, light_var, light_bin}
use Rattle.lq_plain.proofs.LightSpelled.{arguments_light, binary_light, place_light}
use Rattle.lq_plain.proofs.LightStretches.{AreStretchy, stretch_left, stretch_right, stretch_tail, stretch_whole}
use Rattle.lq_plain.proofs.LightStatements.{LightStatement, LightStatements, light_empty, light_set, light_declared, light_initial, light_store, light_called, light_print, light_end, light_return, light_nothing, light_statement, light_block, LightArms, light_no_arm, light_else, light_arm, light_if, ConditionFits, no_condition, some_condition, light_while, LightPart, light_missing, light_part, light_for, LightBlocks, light_no_block, light_blocks, light_cobegin, light_foreach}

-- an expression in a stretch that is kept
record IsShort (ls : List Lexeme) (e : Expr) : Type 0 where
  pub low : length ls ≤ 512
  pub light : IsLight (length ls) e

short : {ls : List Lexeme} {e : Expr} → IsExpression ls e → AreStretchy ls → IsShort ls e
short {ls = ls} x s = let it = binary_light x in record { low = stretch_whole ls s it.1; light = it.0 }

declaration_light : {ls : List Lexeme} {kind : StmtKind} → IsDeclaration ls kind → AreStretchy ls → LightStatement (length ls) kind
declaration_light (declaration at {t = t} {type = type} {text = text} x none) s =
    let long = length-append t (name_at text at ∷ []) in light_declared _ type text (omega (arith, long))
declaration_light (declaration at {t = t} {i = i} {type = type} {text = text} x (some (initial {at = equal} {e = e} {value = value} y))) s =
    let long = length-append t (name_at text at ∷ i) in
    let one = short y (stretch_tail _ e (stretch_tail _ _ (stretch_right t (name_at text at ∷ i) s))) in
    let low = one.low in
    light_initial (length e) _ type text value (omega (arith, long)) (omega (arith, low)) one.light

simple_light : {ls : List Lexeme} {kind : StmtKind} → IsSimple ls kind → AreStretchy ls → LightStatement (length ls) kind
simple_light (set {text = text} {e = e} {value = value} x) s =
    let one = short x (stretch_tail _ e (stretch_tail _ _ s)) in
    let low = one.low in
    light_set (length e) _ text value (omega arith) (omega (arith, low)) one.light
simple_light (update {text = text} {op = op} {e = e} {value = value} is x) s =
    let one = short x (stretch_tail _ e (stretch_tail _ _ s)) in
    let low = one.low in
    light_set (length e + 2) _ text (Bin op (Var text) value) (omega arith) (omega (arith, low)) (light_bin op 1 (length e) (length e + 2) (Var text) value (omega arith) (light_var text) one.light)
simple_light (step {text = text} {op = op} is) s = light_set 3 2 text (Bin op (Var text) (Num (pos 1))) (omega arith) (omega arith) (light_bin op 1 1 3 (Var text) (Num (pos 1)) (omega arith) (light_var text) (light_num (pos 1)))
simple_light (store at {p = p} {e = e} {place = place} {value = value} x y) s =
    let long = length-append p (sign_at Equal at ∷ e) in
    let into = place_light x in
    let lower = stretch_whole p (stretch_left p _ s) into.1 in
    let one = short y (stretch_tail _ e (stretch_right p _ s)) in
    let low = one.low in
    light_store (length p) (length e) _ place value (omega (arith, long)) (omega (arith, lower)) (omega (arith, low)) into.0 one.light
simple_light (call closing {text = text} {a = a} {arguments = args} x) s =
    let long = length-append a (sign_at RightParen closing ∷ []) in
    let all = arguments_light x in
    let low = stretch_whole a (stretch_left a _ (stretch_tail _ _ (stretch_tail _ _ s))) all.1 in
    light_called (length a) _ (16 * length a + 3) text args (omega (arith, long)) (omega (arith, low)) all.0

part_light : {ls : List Lexeme} {kind : StmtKind} → IsPart ls kind → AreStretchy ls → LightStatement (length ls) kind
part_light (declaration_part x) s = declaration_light x s
part_light (simple_part x) s = simple_light x s

-- a longer list of lexemes allows more
longer : (j k : ℕ) (kind : StmtKind) → j ≤ k → LightStatement j kind → LightStatement k kind
longer j k kind le h env at n m made = made_more (omega (arith, le)) (h env at n m made)

flat_light : {ls : List Lexeme} {kind : StmtKind} → IsFlat ls kind → AreStretchy ls → LightStatement (length ls) kind
flat_light empty s = light_empty 1
flat_light (part end {p = p} {kind = kind} x) s = let long = length-append p (sign_at Semicolon end ∷ []) in longer (length p) _ kind (omega (arith, long)) (part_light x (stretch_left p _ s))
flat_light (return end none) s = light_end 2 (omega arith)
flat_light (return end {e = e} (some {value = value} x)) s =
    let long = length-append e (sign_at Semicolon end ∷ []) in
    let one = short x (stretch_left e _ (stretch_tail _ _ s)) in
    let low = one.low in
    light_return (length e) _ value (omega (arith, long)) (omega (arith, low)) one.light
flat_light (print closing end {e = e} {value = value} x) s =
    let long = length-append e (sign_at RightParen closing ∷ sign_at Semicolon end ∷ []) in
    let one = short x (stretch_left e _ (stretch_tail _ _ (stretch_tail _ _ s))) in
    let low = one.low in
    light_print (length e) _ value (omega (arith, long)) (omega (arith, low)) one.light

first_light : {ls : List Lexeme} {first : Option Stmt} → IsOptional (Placed IsPart) ls first → AreStretchy ls → LightPart (length ls) first
first_light none s = light_missing 0
first_light (some (placed {l = l} {kind = kind} x)) s = light_part _ (record { at = l.at; kind = kind }) (part_light x s)

third_light : {ls : List Lexeme} {third : Option Stmt} → IsOptional (Placed IsSimple) ls third → AreStretchy ls → LightPart (length ls) third
third_light none s = light_missing 0
third_light (some (placed {l = l} {kind = kind} x)) s = light_part _ (record { at = l.at; kind = kind }) (simple_light x s)

condition_light : {ls : List Lexeme} {e : Option Expr} → IsOptional IsExpression ls e → AreStretchy ls → (cost : ℕ) × (cost ≤ 16 * length ls + 3) × ConditionFits cost e
condition_light none s = (1, omega arith, no_condition)
condition_light {ls = ls} (some {value = value} x) s =
    let one = short x s in
    let low = one.low in
    (16 * length ls + 3, omega arith, some_condition (length ls) value (omega (arith, low)) one.light)

as_block : (k : ℕ) (body : List Stmt) → (j : ℕ) × (j + 2 ≤ k) × LightStatements j body → LightStatement k (Block body)
as_block k body it = let fits = it.1 in longer it.0 k (Block body) (omega (arith, fits)) (light_block it.0 body it.2)

mutual
  block_light : {ls : List Lexeme} {body : List Stmt} → IsBlock ls body → AreStretchy ls → (k : ℕ) × (k + 2 ≤ length ls) × LightStatements k body
  block_light (braces closing {s = b} x) s =
      let long = length-append b (sign_at RightBrace closing ∷ []) in
      (length b, omega (arith, long), statements_light x (stretch_left b _ (stretch_tail _ _ s)))

  statements_light : {ls : List Lexeme} {body : List Stmt} → AreStatements ls body → AreStretchy ls → LightStatements (length ls) body
  statements_light no_statement s = light_nothing 0
  statements_light (statement {l = l} {s = a} {m = m} {kind = kind} {more = others} x y) s =
      let long = length-append (l ∷ a) m in
      light_statement (length (l ∷ a)) (length m) _ (record { at = l.at; kind = kind }) others (omega (arith, long)) (statement_light x (stretch_left (l ∷ a) m s)) (statements_light y (stretch_right (l ∷ a) m s))

  body_light : {ls : List Lexeme} {body : Stmt} → IsBody ls body → AreStretchy ls → LightStatement (length ls) body.kind
  body_light (block_body {statements = body} x) s = as_block _ body (block_light x s)
  body_light (flat_body x) s = flat_light x s

  guarded_light : {ls : List Lexeme} {one : Expr × Stmt} → IsGuarded ls one → AreStretchy ls → (i j : ℕ) × (i + j + 2 ≤ length ls) × (i ≤ 512) × IsLight i one.0 × LightStatement j (one.1).kind
  guarded_light (guarded closing {c = c} {b = b} x y) s =
      let long = length-append c (sign_at RightParen closing ∷ b) in
      let inside = stretch_tail _ _ s in
      let cond = short x (stretch_left c _ inside) in
      (length c, length b, omega (arith, long), cond.low, cond.light, body_light y (stretch_tail _ b (stretch_right c _ inside)))

  elses_light : {ls : List Lexeme} {arms : List Arm} {last : Option Stmt} → AreElses ls arms last → AreStretchy ls → LightArms (length ls) arms last
  elses_light no_else s = light_no_arm 0
  elses_light (else_body {b = b} {body = body} x) s = light_else _ (length b) body (omega arith) (body_light x (stretch_tail _ b s))
  elses_light (else_if {a = a} {e = e} {one = one} {more = others} {last = last} x y) s =
      let inside = stretch_tail _ _ (stretch_tail _ _ s) in
      let g = guarded_light x (stretch_left a e inside) in
      let long = length-append a e in
      let fits = g.2 in
      let low = g.3 in
      light_arm g.0 g.1 (length e) _ one.0 one.1 others last (omega (arith, long, fits)) (omega (arith, low)) g.4 g.5 (elses_light y (stretch_right a e inside))

  statement_light : {ls : List Lexeme} {kind : StmtKind} → IsStatement ls kind → AreStretchy ls → LightStatement (length ls) kind
  statement_light (block {statements = body} x) s = as_block _ body (block_light x s)
  statement_light (flat x) s = flat_light x s
  statement_light (if {a = a} {e = e} {one = one} {more = others} {last = last} x y) s =
      let inside = stretch_tail _ _ s in
      let g = guarded_light x (stretch_left a e inside) in
      let long = length-append a e in
      let fits = g.2 in
      let low = g.3 in
      light_if _ (arm_of one ∷ others) last (light_arm g.0 g.1 (length e) _ one.0 one.1 others last (omega (arith, long, fits)) (omega (arith, low)) g.4 g.5 (elses_light y (stretch_right a e inside)))
  statement_light (while {a = a} {one = one} x) s =
      let g = guarded_light x (stretch_tail _ a s) in
      let fits = g.2 in
      let low = g.3 in
      light_while g.0 g.1 _ one.0 one.1 (omega (arith, fits)) (omega (arith, low)) g.4 g.5
  statement_light (for end end' closing {i = i} {c = c} {s = t} {b = b} {initial = first} {step = third} {cond = cond} {body = body} x y z w) s =
      let one = stretch_tail _ _ (stretch_tail _ _ s) in
      let two = stretch_tail _ _ (stretch_right i _ one) in
      let three = stretch_tail _ _ (stretch_right c _ two) in
      let four = stretch_tail _ _ (stretch_right t _ three) in
      let e = condition_light y (stretch_left c _ two) in
      let cost = e.1 in
      let long = length-append i (sign_at Semicolon end ∷ (c ++ (sign_at Semicolon end' ∷ (t ++ (sign_at RightParen closing ∷ b))))) in
      let longer = length-append c (sign_at Semicolon end' ∷ (t ++ (sign_at RightParen closing ∷ b))) in
      let longest = length-append t (sign_at RightParen closing ∷ b) in
      light_for (length i) e.0 (length t) (length b) _ first cond third body (omega (arith, cost, long, longer, longest)) (first_light x (stretch_left i _ one)) e.2 (third_light z (stretch_left t _ three)) (body_light w four)
  statement_light (cobegin closing {a = a} {b = b} {m = m} {first = first} {second = second} {more = others} x y z) s =
      let one = stretch_tail _ _ (stretch_tail _ _ s) in
      let two = stretch_right a _ one in
      let three = stretch_right b _ two in
      let long = length-append a (b ++ (m ++ (sign_at RightBrace closing ∷ []))) in
      let longer = length-append b (m ++ (sign_at RightBrace closing ∷ [])) in
      let longest = length-append m (sign_at RightBrace closing ∷ []) in
      light_cobegin _ (first ∷ second ∷ others) (length a + (length b + length m)) (omega (arith, long, longer, longest))
      (light_blocks (length a) (length b + length m) _ first (second ∷ others) (omega arith) (branch_light x (stretch_left a _ one))
      (light_blocks (length b) (length m) _ second others (omega arith) (branch_light y (stretch_left b _ two)) (branches_light z (stretch_left m _ three))))
  statement_light (foreach comma' closing {text = text} {l = l} {h = h} {s = t} {b = b} {low = low} {high = high} {step = stride} {body = body} x y z w) s =
      let one = stretch_tail _ _ (stretch_tail _ _ (stretch_tail _ _ (stretch_tail _ _ s))) in
      let two = stretch_tail _ _ (stretch_right l _ one) in
      let three = stretch_right t _ (stretch_right h _ two) in
      let from = short x (stretch_left l _ one) in
      let to = short y (stretch_left h _ two) in
      let from_low = from.low in
      let to_low = to.low in
      let long = length-append l (sign_at Comma comma' ∷ (h ++ (t ++ (sign_at RightParen closing ∷ b)))) in
      let longer = length-append h (t ++ (sign_at RightParen closing ∷ b)) in
      let longest = length-append t (sign_at RightParen closing ∷ b) in
      light_foreach (length l) (length h) (length b) _ text low high stride body (omega (arith, long, longer, longest)) (omega (arith, from_low)) (omega (arith, to_low)) from.light to.light (branch_light w (stretch_tail _ b three))

  branch_light : {ls : List Lexeme} {body : Stmt} → IsBranch ls body → AreStretchy ls → LightStatement (length ls) body.kind
  branch_light (branch {statements = body} x) s = as_block _ body (block_light x s)

  branches_light : {ls : List Lexeme} {blocks : List Stmt} → AreBranches ls blocks → AreStretchy ls → LightBlocks (length ls) blocks
  branches_light no_branch s = light_no_block 0
  branches_light (branches {b = b} {m = m} {one = one} {more = others} x y) s =
      let long = length-append b m in
      light_blocks (length b) (length m) _ one others (omega (arith, long)) (branch_light x (stretch_left b m s)) (branches_light y (stretch_right b m s))

-- ---- functions

more_params_few : {ls : List Lexeme} {ps : List Param} → AreMoreParams ls ps → length ps ≤ length ls
more_params_few no_more = omega arith
more_params_few (more {p = p} {m = m} x y) = let few = more_params_few y in let long = length-append p m in omega (arith, few, long)

param_some : {ls : List Lexeme} {p : Param} → IsParam ls p → 1 ≤ length ls
param_some (param at {t = t} {text = text} x) = let long = length-append t (name_at text at ∷ []) in omega (arith, long)

params_few : {ls : List Lexeme} {ps : List Param} → AreParams ls ps → length ps ≤ length ls
params_few no_params = omega arith
params_few void_params = omega arith
params_few (params {p = p} {m = m} x y) = let some = param_some x in let few = more_params_few y in let long = length-append p m in omega (arith, some, few, long)

-- the plain form of a function comes to no more than 30 for each of so many lexemes
abbrev pub LightFunc : ℕ → Func → Type 0
LightFunc k f = (q : Program) → MadeFits (30 * k) (plain_body q f)

func_light : {ls : List Lexeme} {f : Func} → IsFunc ls f → AreStretchy ls → LightFunc (length ls) f
func_light (func at opening closing {l = l} {r = r} {p = p} {b = b} {result = result} {text = text} {params = ps} {body = body} x y z) s q =
    let one = stretch_right r _ (stretch_tail _ _ s) in
    let two = stretch_tail _ _ (stretch_tail _ _ one) in
    let three = stretch_tail _ b (stretch_right p _ two) in
    let it = block_light z three in
    let few = params_few y in
    let fits = it.1 in
    let long = length-append r (name_at text at ∷ sign_at LeftParen opening ∷ (p ++ (sign_at RightParen closing ∷ b))) in
    let longer = length-append p (sign_at RightParen closing ∷ b) in
    let slots = length-map ps param_slot in
    made_more (omega (arith, few, fits, long, longer, slots)) (it.2 (record { program = q; result = result_of result; scope = scope_from 0 ps [] }) _ _ (fresh_fits (map param_slot ps)))

-- of a program that is a part of so many lexemes
pub program_light : {ls : List Lexeme} {p : Program} (total : ℕ) → IsProgram ls p → AreStretchy ls → length ls ≤ total → AllByRecursion (LightFunc total) p.funcs
program_light total nothing s le = tt
program_light total (with_struct {s = a} {m = m} x y) s le = let long = length-append a m in program_light total y (stretch_right a m s) (omega (arith, le, long))
program_light total (with_func {f = a} {m = m} x y) s le =
    let long = length-append a m in
    ((λ (q : Program). made_more (omega (arith, le, long)) (func_light x (stretch_left a m s) q)), program_light total y (stretch_right a m s) (omega (arith, le, long)))
