-- Each store that lexemes spell goes to a place, and each `cobegin` has two blocks.
use Rattle.std.proofs.Common.{◌≡◌, ℕ, ◌≤◌, ℤ, Bool, true, List, [], ◌∷◌, ◌++◌, Option, None, Some, IsTrue, All, length, refl, ap, sym, ◌∙◌, subst, arith}
use denote.Hole.Carrier
use Rattle.std.specs.Prelude.{nat_le}
use Rattle.std.specs.List.{AllByRecursion, flat_map}
use Rattle.std.proofs.lemmas.Bool.{le-leb}
use Rattle.std.proofs.lemmas.List.Elements.{All-from_recursion}
use Rattle.lq_tree.specs.declared.expr.Expr.{Expr}
use Rattle.lq_tree.specs.declared.program.Func.{Func}
use Rattle.lq_tree.specs.declared.program.Program.{Program}
use Rattle.lq_tree.specs.declared.program.StructDef.{StructDef}
use Rattle.lq_tree.specs.declared.stmt.Stmt.{Stmt}
use Rattle.lq_tree.specs.declared.stmt.Arm.{Arm, Arm', roll-Arm}
use Rattle.lq_tree.specs.declared.stmt.StmtKind.{StmtKind, Block, If, While, For, Cobegin, Foreach, Block', If', While', For', Cobegin', Foreach', Held-StmtKind-If-1, None', Some', Row_of-Stmt, end_of-Stmt, more_of-Stmt, Row_of-Arm, end_of-Arm, more_of-Arm, items-the_row-Stmt, items-the_row-Arm, items_hidden-the_row-Stmt-0, items_hidden-the_row-Arm-1, items_hidden-the_row-Stmt-2}
use Rattle.lq_tree.specs.Walk.{inside, within_row, within_arms, within_arm, within_held, statements}
use Rattle.lq_parser.specs.declared.lexeme.Lexeme.{Lexeme}
use Rattle.lq_parser.specs.Expressions.{IsPlace, postfix_place, deref_place}
use Rattle.lq_parser.specs.Statements.{arm_of, IsOptional, none, some, Placed, placed, declaration, IsSimple, set, update, step, store, call, IsPart, declaration_part, simple_part, IsFlat, empty, part, return, print, IsBlock, braces, AreStatements, no_statement, statement, IsBody, block_body, flat_body, IsGuarded, guarded, AreElses, no_else, else_body, else_if, IsStatement, block, flat, if, while, for, cobegin, foreach, IsBranch, branch, AreBranches, no_branch, branches}
use Rattle.lq_parser.specs.Programs.{IsFunc, func, IsStruct, struct, IsProgram, nothing, with_struct, with_func}
use Rattle.lq_plain.specs.Places.{is_place, stores_to_place, StoresToPlaces}

-- ---- the statements inside each form of statement

-- a statement that may be missing, as a list
abbrev pub listed : Option Stmt → List Stmt
listed None = []
listed (Some s) = s ∷ []

joined_parts : {a b c d : List Stmt} → a ≡ b → c ≡ d → a ++ c ≡ b ++ d
joined_parts {b = b} {c = c} p q = ap (λ (ss : List Stmt). ss ++ c) p ∙ ap (λ (ss : List Stmt). b ++ ss) q

row_items : (n : _) (row : Row_of-Stmt n) → within_row row ≡ statements (items-the_row-Stmt n row)
unfolding within_row
row_items _ end_of-Stmt = refl
row_items _ (more_of-Stmt at kind rest) = ap (λ ss. record { at = at; kind = kind } ∷ (inside kind ++ ss)) (row_items _ rest)

arm_items : (n : _) (row : Row_of-Arm n) → within_arms row ≡ flat_map within_arm (items-the_row-Arm n row)
unfolding within_arms
arm_items _ end_of-Arm = refl
arm_items _ (more_of-Arm arm rest) = ap (λ ss. within_arm arm ++ ss) (arm_items _ rest)

abbrev in_held : Held-StmtKind-If-1 → List Stmt
in_held None' = []
in_held (Some' p s) = items-the_row-Stmt _ s

held_items : (held : Held-StmtKind-If-1) → within_held held ≡ statements (in_held held)
unfolding within_held
held_items None' = refl
held_items (Some' p s) = row_items _ s

abbrev in_arm : Arm → List Stmt
in_arm (Arm' e p body) = statements (items-the_row-Stmt _ body)

by_arm : (arm : Arm) → within_arm arm ≡ in_arm arm
unfolding within_arm
by_arm (Arm' e p body) = row_items _ body

abbrev unrolled : StmtKind → List Stmt
unrolled (Block' n body) = statements (items-the_row-Stmt _ body)
unrolled (If' n arms other) = flat_map within_arm (items-the_row-Arm _ arms) ++ statements (in_held other)
unrolled (While' e p body) = statements (items-the_row-Stmt _ body)
unrolled (For' first e third p body) = statements (in_held first) ++ statements (in_held third) ++ statements (items-the_row-Stmt _ body)
unrolled (Cobegin' n blocks) = statements (items-the_row-Stmt _ blocks)
unrolled (Foreach' index low high stride p body) = statements (items-the_row-Stmt _ body)
unrolled _ = []

unroll : (kind : StmtKind) → inside kind ≡ unrolled kind
unfolding inside
unroll (Block' n body) = row_items _ body
unroll (If' n arms other) = ap (λ ss. ss ++ within_held other) (arm_items _ arms) ∙ ap (λ ss. flat_map within_arm (items-the_row-Arm _ arms) ++ ss) (held_items other)
unroll (While' e p body) = row_items _ body
unroll (For' first e third p body) =
    ap (λ ss. ss ++ within_held third ++ within_row body) (held_items first) ∙ ap (λ ss. statements (in_held first) ++ ss ++ within_row body) (held_items third)
    ∙ ap (λ ss. statements (in_held first) ++ statements (in_held third) ++ ss) (row_items _ body)
unroll (Cobegin' n blocks) = row_items _ blocks
unroll (Foreach' index low high stride p body) = row_items _ body
unroll _ = refl

pub inside_block : (body : List Stmt) → inside (Block body) ≡ statements body
inside_block body = unroll (Block body) ∙ ap statements (items_hidden-the_row-Stmt-0 body)

pub inside_cobegin : (blocks : List Stmt) → inside (Cobegin blocks) ≡ statements blocks
inside_cobegin blocks = unroll (Cobegin blocks) ∙ ap statements (items_hidden-the_row-Stmt-0 blocks)

pub inside_while : (e : Expr) (body : Stmt) → inside (While e body) ≡ statements (body ∷ [])
inside_while e body = unroll (While e body) ∙ ap statements (items_hidden-the_row-Stmt-2 body)

pub inside_foreach : (index : List ℕ) (low high : Expr) (stride : ℤ) (body : Stmt) → inside (Foreach index low high stride body) ≡ statements (body ∷ [])
inside_foreach index low high stride body = unroll (Foreach index low high stride body) ∙ ap statements (items_hidden-the_row-Stmt-2 body)

rolled_arm : (e : Expr) (body : Stmt) → in_arm (roll-Arm (record { cond = e; body = body })) ≡ statements (body ∷ [])
unfolding roll-Arm denote.Hole.Carrier.roll
rolled_arm e body = ap statements (items_hidden-the_row-Stmt-2 body)

pub inside_arm : (one : Expr × Stmt) → within_arm (arm_of one) ≡ statements (one.1 ∷ [])
inside_arm one = by_arm (arm_of one) ∙ rolled_arm one.0 one.1

pub inside_if : (arms : List Arm) (other : Option Stmt) → inside (If arms other) ≡ flat_map within_arm arms ++ statements (listed other)
inside_if arms None = unroll (If arms None) ∙ ap (λ all. flat_map within_arm all ++ []) (items_hidden-the_row-Arm-1 arms)
inside_if arms (Some s) = unroll (If arms (Some s)) ∙ joined_parts (ap (flat_map within_arm) (items_hidden-the_row-Arm-1 arms)) (ap statements (items_hidden-the_row-Stmt-2 s))

pub inside_for : (first : Option Stmt) (e : Option Expr) (third : Option Stmt) (body : Stmt) → inside (For first e third body) ≡ statements (listed first) ++ statements (listed third) ++ statements (body ∷ [])
inside_for None e None body = unroll (For None e None body) ∙ ap statements (items_hidden-the_row-Stmt-2 body)
inside_for None e (Some third) body =
    unroll (For None e (Some third) body) ∙ joined_parts (ap statements (items_hidden-the_row-Stmt-2 third)) (ap statements (items_hidden-the_row-Stmt-2 body))
inside_for (Some first) e None body =
    unroll (For (Some first) e None body) ∙ joined_parts (ap (λ (ss : List Stmt). statements ss ++ []) (items_hidden-the_row-Stmt-2 first)) (ap statements (items_hidden-the_row-Stmt-2 body))
inside_for (Some first) e (Some third) body =
    unroll (For (Some first) e (Some third) body)
    ∙ joined_parts (joined_parts (ap statements (items_hidden-the_row-Stmt-2 first)) (ap statements (items_hidden-the_row-Stmt-2 third))) (ap statements (items_hidden-the_row-Stmt-2 body))

-- ---- stores that go to places, and blocks beside each other

-- a `cobegin` has two blocks; all other statements pass
abbrev pub is_pair : StmtKind → Bool
is_pair (Cobegin' n blocks) = nat_le 2 (length (items-the_row-Stmt _ blocks))
is_pair _ = true

-- a statement itself
abbrev pub Passes : StmtKind → Type 0
Passes kind = IsTrue (stores_to_place kind) × IsTrue (is_pair kind)

abbrev AreStored : List Stmt → Type 0
AreStored ss = AllByRecursion (λ (s : Stmt). Passes s.kind) ss

-- a statement and those inside it
abbrev IsStored : StmtKind → Type 0
IsStored kind = Passes kind × AreStored (inside kind)

joined : (a b : List Stmt) → AreStored a → AreStored b → AreStored (a ++ b)
joined [] b x y = y
joined (s ∷ a) b x y = (x.0, joined a b x.1 y)

by : {a b : List Stmt} → a ≡ b → AreStored b → AreStored a
by is h = subst AreStored (sym is) h

one_stored : (s : Stmt) → IsStored s.kind → AreStored (statements (s ∷ []))
one_stored s h = (h.0, joined (inside s.kind) [] h.1 tt)

more_stored : (s : Stmt) (rest : List Stmt) → IsStored s.kind → AreStored (statements rest) → AreStored (statements (s ∷ rest))
more_stored s rest h more = (h.0, joined (inside s.kind) (statements rest) h.1 more)

two_blocks : (first second : Stmt) (more : List Stmt) → is_pair (Cobegin (first ∷ second ∷ more)) ≡ true
two_blocks first second more = ap (λ (ss : List Stmt). nat_le 2 (length ss)) (items_hidden-the_row-Stmt-0 (first ∷ second ∷ more)) ∙ le-leb 2 (length (first ∷ second ∷ more)) (omega arith)

place_is : {ls : List Lexeme} {e : Expr} → IsPlace ls e → is_place e ≡ true
place_is (postfix_place x is) = is
place_is (deref_place x) = refl

simple_stored : {ls : List Lexeme} {kind : StmtKind} → IsSimple ls kind → IsStored kind
unfolding inside
simple_stored (set x) = ((refl, refl), tt)
simple_stored (update is x) = ((refl, refl), tt)
simple_stored (step is) = ((refl, refl), tt)
simple_stored (store at x y) = ((place_is x, refl), tt)
simple_stored (call closing x) = ((refl, refl), tt)

part_stored : {ls : List Lexeme} {kind : StmtKind} → IsPart ls kind → IsStored kind
unfolding inside
part_stored (declaration_part (declaration at x y)) = ((refl, refl), tt)
part_stored (simple_part x) = simple_stored x

flat_stored : {ls : List Lexeme} {kind : StmtKind} → IsFlat ls kind → IsStored kind
unfolding inside
flat_stored empty = ((refl, refl), tt)
flat_stored (part end x) = part_stored x
flat_stored (return end x) = ((refl, refl), tt)
flat_stored (print closing end x) = ((refl, refl), tt)

first_stored : {ls : List Lexeme} {s : Option Stmt} → IsOptional (Placed IsPart) ls s → AreStored (statements (listed s))
first_stored none = tt
first_stored (some (placed {l = l} {kind = kind} x)) = one_stored (record { at = l.at; kind = kind }) (part_stored x)

third_stored : {ls : List Lexeme} {s : Option Stmt} → IsOptional (Placed IsSimple) ls s → AreStored (statements (listed s))
third_stored none = tt
third_stored (some (placed {l = l} {kind = kind} x)) = one_stored (record { at = l.at; kind = kind }) (simple_stored x)

mutual
  block_stored : {ls : List Lexeme} {body : List Stmt} → IsBlock ls body → AreStored (statements body)
  block_stored (braces closing x) = statements_stored x

  statements_stored : {ls : List Lexeme} {body : List Stmt} → AreStatements ls body → AreStored (statements body)
  statements_stored no_statement = tt
  statements_stored (statement {l = l} {kind = kind} {more = more} x y) = more_stored (record { at = l.at; kind = kind }) more (statement_stored x) (statements_stored y)

  body_stored : {ls : List Lexeme} {s : Stmt} → IsBody ls s → IsStored s.kind
  body_stored (block_body {statements = body} x) = ((refl, refl), by (inside_block body) (block_stored x))
  body_stored (flat_body x) = flat_stored x

  guarded_stored : {ls : List Lexeme} {one : Expr × Stmt} → IsGuarded ls one → AreStored (statements (one.1 ∷ []))
  guarded_stored (guarded closing {body = body} x y) = one_stored body (body_stored y)

  elses_stored : {ls : List Lexeme} {arms : List Arm} {last : Option Stmt} → AreElses ls arms last → AreStored (flat_map within_arm arms) × AreStored (statements (listed last))
  elses_stored no_else = (tt, tt)
  elses_stored (else_body {body = body} x) = (tt, one_stored body (body_stored x))
  elses_stored (else_if {one = one} {more = more} x y) =
      let rest = elses_stored y in
      (joined (within_arm (arm_of one)) (flat_map within_arm more) (by (inside_arm one) (guarded_stored x)) rest.0, rest.1)

  statement_stored : {ls : List Lexeme} {kind : StmtKind} → IsStatement ls kind → IsStored kind
  statement_stored (block {statements = body} x) = ((refl, refl), by (inside_block body) (block_stored x))
  statement_stored (flat x) = flat_stored x
  statement_stored (if {one = one} {more = more} {last = last} x y) =
      let rest = elses_stored y in
      let arms = joined (within_arm (arm_of one)) (flat_map within_arm more) (by (inside_arm one) (guarded_stored x)) rest.0 in
      ((refl, refl), by (inside_if (arm_of one ∷ more) last) (joined (flat_map within_arm (arm_of one ∷ more)) (statements (listed last)) arms rest.1))
  statement_stored (while {one = one} x) = ((refl, refl), by (inside_while one.0 one.1) (guarded_stored x))
  statement_stored (for end end' closing {initial = initial} {step = third} {cond = cond} {body = body} x y z w) =
      let heads = joined (statements (listed initial)) (statements (listed third)) (first_stored x) (third_stored z) in
      ((refl, refl), by (inside_for initial cond third body) (joined (statements (listed initial) ++ statements (listed third)) (statements (body ∷ [])) heads (one_stored body (body_stored w))))
  statement_stored (cobegin closing {first = first} {second = second} {more = more} x y z) =
      ((refl, two_blocks first second more), by (inside_cobegin (first ∷ second ∷ more)) (more_stored first (second ∷ more) (branch_stored x) (more_stored second more (branch_stored y) (branches_stored z))))
  statement_stored (foreach comma' closing {text = text} {low = low} {high = high} {step = stride} {body = body} x y z w) =
      ((refl, refl), by (inside_foreach text low high stride body) (one_stored body (branch_stored w)))

  branch_stored : {ls : List Lexeme} {s : Stmt} → IsBranch ls s → IsStored s.kind
  branch_stored (branch {statements = body} x) = ((refl, refl), by (inside_block body) (block_stored x))

  branches_stored : {ls : List Lexeme} {blocks : List Stmt} → AreBranches ls blocks → AreStored (statements blocks)
  branches_stored no_branch = tt
  branches_stored (branches {one = one} {more = more} x y) = more_stored one more (branch_stored x) (branches_stored y)

func_stored : {ls : List Lexeme} {f : Func} → IsFunc ls f → AreStored (statements f.body)
func_stored (func at opening closing x y z) = block_stored z

-- what each statement of a program, at any depth, passes
pub funcs_pass : {ls : List Lexeme} {p : Program} → IsProgram ls p → AllByRecursion (λ (f : Func). AllByRecursion (λ (s : Stmt). Passes s.kind) (statements f.body)) p.funcs
funcs_pass nothing = tt
funcs_pass (with_struct x y) = funcs_pass y
funcs_pass (with_func x y) = (func_stored x, funcs_pass y)

stored_alone : (ss : List Stmt) → AreStored ss → AllByRecursion (λ (s : Stmt). IsTrue (stores_to_place s.kind)) ss
stored_alone [] h = tt
stored_alone (s ∷ ss) h = ((h.0).0, stored_alone ss h.1)

all_stored : (funcs : List Func) → AllByRecursion (λ (f : Func). AreStored (statements f.body)) funcs → AllByRecursion (λ (f : Func). All (λ (s : Stmt). IsTrue (stores_to_place s.kind)) (statements f.body)) funcs
all_stored [] h = tt
all_stored (f ∷ funcs) h = (All-from_recursion (λ (s : Stmt). IsTrue (stores_to_place s.kind)) (statements f.body) (stored_alone (statements f.body) h.0), all_stored funcs h.1)

pub stores_to_places : {ls : List Lexeme} {p : Program} → IsProgram ls p → StoresToPlaces p
stores_to_places {p = p} x = All-from_recursion (λ (f : Func). All (λ (s : Stmt). IsTrue (stores_to_place s.kind)) (statements f.body)) p.funcs (all_stored p.funcs (funcs_pass x))

-- ---- structs with a field

fields_some : {ls : List Lexeme} {d : StructDef} → IsStruct ls d → 1 ≤ length d.fields
fields_some (struct closing end x) = omega arith

pub structs_some : {ls : List Lexeme} {p : Program} → IsProgram ls p → AllByRecursion (λ (d : StructDef). 1 ≤ length d.fields) p.structs
structs_some nothing = tt
structs_some (with_struct x y) = (fields_some x, structs_some y)
structs_some (with_func x y) = structs_some y
