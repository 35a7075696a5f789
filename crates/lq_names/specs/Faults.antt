-- What a statement breaks, and the least of several faults (docs/LANGUAGE.md, "Name rules").
use Rattle.std.specs.Prelude.{ℕ, ◌==◌, nat_lt, Bool, false, ◌&&◌, ◌||◌, not, if◌then◌else◌, List, [], ◌∷◌, ◌++◌, length, drop, map, fold, Option, None, Some}
use Rattle.std.specs.Option.{is_some}
use Rattle.std.specs.List.{list_any, flat_map}
use Rattle.lq_tree.specs.declared.place.Place.{Place}
use Rattle.lq_tree.specs.declared.expr.Expr.{Expr, out-Expr}
use Rattle.lq_tree.specs.declared.stmt.Arm.{Arm}
use Rattle.lq_tree.specs.Step.{is_step}
use Rattle.lq_tree.specs.declared.stmt.StmtKind.{out-StmtKind}
use Rattle.lq_tree.specs.declared.stmt.StmtKind.TheOpen.{Local, Set, Store, Call, If, While, For, Return, Print, Foreach}
use Rattle.lq_names.specs.declared.fault.Fault.{Fault}
use Rattle.lq_names.specs.Scopes.{Site, declared, type_in, is_in_scope, function_of, in_parallel}
use Rattle.lq_names.specs.Types.{type_of, is_pointer, is_known, result_of}
use Rattle.lq_names.specs.Rules.{Node, is_main, misfits, arguments_misfit, miscounts, gives_nothing, gives_struct, is_whole, n1, n3, n5, n6, n7, n8, n9}
use Rattle.lq_names.specs.Sites.{Placed}
pub use Rattle.lq_tree.specs.Walk.{nodes, Form, condition, values, some_value}

-- a pointer stands where an int is wanted
abbrev pub is_no_number : Site → Expr → Bool
is_no_number s e = is_pointer (type_of s e)

-- ---- the rules at a statement

-- `main` is called
abbrev pub s1 : Form → Bool
s1 (Call f args) = is_main f
s1 _ = false

-- a variable, a function or a struct is unknown
abbrev pub s3 : Site → Form → Bool
s3 s (Local type name initial) = not (is_known s.program type.base)
s3 s (Set name e) = not (is_in_scope s.scope name)
s3 s (Call f args) = not (is_some (function_of s.program.funcs f))
s3 s _ = false

-- a local or an index is declared where one of its name is in scope
abbrev pub s4 : Site → Form → Bool
s4 s (Local type name initial) = is_in_scope s.scope name
s4 s (Foreach index low high step body) = is_in_scope s.scope index
s4 s _ = false

-- what is given can't be what is wanted; conditions, what is printed and the ends of a `foreach` are ints
abbrev pub s5 : Site → Form → Bool
s5 s (Local type name (Some e)) = misfits s (declared type) e
s5 s (Set name e) = misfits s (type_in s.scope name) e
s5 s (Store target e) = misfits s (type_of s target) e
s5 s (Call f args) = arguments_misfit s (function_of s.program.funcs f) args
s5 s (If arms other) = list_any (λ (arm : Arm). is_no_number s (condition arm)) arms
s5 s (While e body) = is_no_number s e
s5 s (For first (Some e) third body) = is_no_number s e
s5 s (Return (Some e)) = misfits s (result_of s.returns) e
s5 s (Print e) = is_no_number s e
s5 s (Foreach index low high step body) = is_no_number s low || is_no_number s high
s5 s _ = false

-- a wrong number of arguments, or a void call as a value
abbrev pub miscalls : Site → Form → Bool
miscalls s (Call f args) = miscounts (function_of s.program.funcs f) (length args)
miscalls s _ = false

-- the same, or a void call among its expressions
abbrev pub s6 : Site → Form → Bool
s6 s form = miscalls s form || some_value (gives_nothing s) form

-- a struct is declared without a star, assigned, or used as a value
abbrev pub names_struct : Site → Form → Bool
names_struct s (Local type name initial) = is_whole (declared type)
names_struct s (Set name e) = is_whole (type_in s.scope name)
names_struct s _ = false

-- the same, or a struct among its expressions
abbrev pub s7 : Site → Form → Bool
s7 s form = names_struct s form || some_value (gives_struct s) form

-- `print` in a parallel statement, or there a call of a function that may print
abbrev pub s8 : Site → Form → Bool
s8 s (Print e) = s.parallel
s8 s (Call f args) = s.parallel && s.prints f
s8 s _ = false

-- there a call of a function that may allocate
abbrev pub s9 : Site → Form → Bool
s9 s (Call f args) = s.parallel && s.allocates f
s9 s _ = false

-- `return` in a parallel statement
abbrev pub s10 : Site → Form → Bool
s10 s (Return e) = s.parallel
s10 s _ = false

-- in a parallel statement, assignment to a variable that is declared outside it
abbrev pub s11 : Site → Form → Bool
s11 s (Set name e) = is_in_scope s.scope name && not (is_in_scope (drop s.outside s.scope) name)
s11 s _ = false

-- a void function returns a value, or another function returns none
abbrev pub s12 : Site → Form → Bool
s12 s (Return (Some e)) = not (is_some s.returns)
s12 s (Return None) = is_some s.returns
s12 s _ = false

-- the step of a `foreach` is none
abbrev pub s13 : Form → Bool
s13 (Foreach index low high step body) = not (is_step step)
s13 _ = false

-- ---- all that is broken

-- the numbers of the rules that are broken
unfoldable pub broken : List (Bool × ℕ) → List ℕ
broken [] = []
broken (rule ∷ rules) = if rule.0 then rule.1 ∷ broken rules else broken rules

-- at a node
abbrev pub node_rules : Site → Node → List ℕ
node_rules s n = broken ((n1 n, 1) ∷ (n3 s n, 3) ∷ (n5 s n, 5) ∷ (n6 s n, 6) ∷ (n7 s n, 7) ∷ (n8 s n, 8) ∷ (n9 s n, 9) ∷ [])

-- in an expression
unfoldable pub expression_rules : Site → Expr → List ℕ
expression_rules s e = flat_map (λ (n : Expr). node_rules s (out-Expr n)) (nodes e)

-- the head of a `foreach` is part of the parallel statement
abbrev pub head_site : Site → Form → Site
head_site s (Foreach index low high step body) = in_parallel s
head_site s _ = s

-- at a statement itself
abbrev pub own_rules : Site → Form → List ℕ
own_rules s form = broken ((s1 form, 1) ∷ (s3 s form, 3) ∷ (s4 s form, 4) ∷ (s5 s form, 5) ∷ (s6 s form, 6) ∷ (s7 s form, 7)
    ∷ (s8 s form, 8) ∷ (s9 s form, 9) ∷ (s10 s form, 10) ∷ (s11 s form, 11) ∷ (s12 s form, 12)
    ∷ (s13 form, 13) ∷ [])

-- at a statement, with the expressions that stand in it; all have its place
abbrev pub statement_rules : Site → Form → List ℕ
statement_rules s form = own_rules s form ++ flat_map (expression_rules (head_site s form)) (values form)

-- a rule that is broken at a place
abbrev pub fault_at : Place → ℕ → Fault
fault_at at rule = record { rule = rule; at = at }

-- the faults at a statement, at its place
unfoldable pub placed_faults : Placed → List Fault
placed_faults p = map (fault_at p.at) (statement_rules p.site (out-StmtKind p.kind))

-- ---- the least fault

-- the place comes first
abbrev pub is_before : Place → Place → Bool
is_before a b = nat_lt a.line b.line || (a.line == b.line && nat_lt a.col b.col)

-- the place comes first, or at one place the rule has the less number
abbrev pub precedes : Fault → Fault → Bool
precedes f g = is_before f.at g.at || (not (is_before g.at f.at) && nat_lt f.rule g.rule)

-- the lesser of the least so far and one more
abbrev pub lesser : Option Fault → Fault → Option Fault
lesser None f = Some f
lesser (Some least) f = if precedes f least then Some f else Some least

-- the least so far, with one more where a rule is broken
unfoldable pub noted_if : Place → Option Fault → (is_broken : Bool) → (rule : ℕ) → Option Fault
noted_if at found is_broken rule = if is_broken then lesser found (fault_at at rule) else found

-- the least of the least so far and these
unfoldable pub least : Option Fault → List Fault → Option Fault
least found faults = fold lesser found faults

-- the same, with rules that are all broken at one place
unfoldable pub noted : Place → Option Fault → (rules : List ℕ) → Option Fault
noted at found rules = least found (map (fault_at at) rules)

-- the same, with all that is broken at these statements
unfoldable pub gathered : Option Fault → List Placed → Option Fault
gathered found placed = least found (flat_map placed_faults placed)
