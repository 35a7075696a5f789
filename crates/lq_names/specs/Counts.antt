-- What is counted in a program (docs/COMMANDS.md, "Limits").
use Rattle.std.specs.Prelude.{ℕ, ◌+◌, nat_lt, if◌then◌else◌, max, min, List, [], ◌∷◌, length, map, fold, Option, None, Some, Result, Ok, Err}
use Rattle.lq_tree.specs.declared.limit.Limit.{Limit}
use Rattle.lq_tree.specs.declared.limit.Quantity.{Quantity}
use Rattle.lq_tree.specs.declared.limit.Quantity.TheVariants.{Functions, Structs, Fields, Locals, Branches, Arms}
use Rattle.lq_tree.specs.Limit.{row_of}
use Rattle.lq_tree.specs.declared.stmt.Stmt.{Stmt}
use Rattle.lq_tree.specs.declared.stmt.StmtKind.{StmtKind}
use Rattle.lq_tree.specs.declared.stmt.StmtKind.TheOpen.{StmtKind-F, Block, Local, If, While, For, Cobegin, Foreach}
use Rattle.lq_tree.specs.declared.stmt.StmtKind.TheFolds.{fold-StmtKind}
use Rattle.lq_tree.specs.declared.program.Program.{Program}
use Rattle.lq_tree.specs.declared.program.StructDef.{StructDef}
use Rattle.lq_tree.specs.declared.program.Func.{Func}
use Rattle.lq_names.specs.declared.counts.Sizes.{Sizes}

-- a sum, as far as a u64 counts
abbrev pub plus : ℕ → ℕ → ℕ
plus a b = min (a + b) 18446744073709551615

-- nothing is counted
abbrev pub no_sizes : Sizes
no_sizes = record { declared = 0; locals = 0; branches = 0; arms = 0 }

-- the sizes of one part, and of the next in the scope of the first
abbrev pub behind : Sizes → Sizes → Sizes
behind a b = record {
  declared = plus a.declared b.declared;
  locals = max a.locals (plus a.declared b.locals);
  branches = max a.branches b.branches;
  arms = max a.arms b.arms;
}

-- a part whose locals are in scope in it alone
abbrev pub closed : Sizes → Sizes
closed a = record { declared = 0; locals = a.locals; branches = a.branches; arms = a.arms }

-- one local
abbrev pub one_local : Sizes
one_local = record { declared = 1; locals = 1; branches = 0; arms = 0 }

-- parts one after another, and bodies beside each other
abbrev pub in_row : List Sizes → Sizes
in_row parts = fold behind no_sizes parts

-- parts of which the second ends with its locals
abbrev pub apart : Sizes → Sizes → Sizes
apart a b = behind a (closed b)

-- bodies beside each other
abbrev pub beside : List Sizes → Sizes
beside parts = fold apart no_sizes parts

-- of a part that may be missing
abbrev pub or_nothing : Option Sizes → Sizes
or_nothing None = no_sizes
or_nothing (Some a) = a

-- so many branches, and so many conditions of one `if`
abbrev pub branches_of : ℕ → Sizes
branches_of n = record { declared = 0; locals = 0; branches = n; arms = 0 }

-- so many conditions
abbrev pub arms_of : ℕ → Sizes
arms_of n = record { declared = 0; locals = 0; branches = 0; arms = n }

-- the sizes of a statement, from those of the statements inside it
abbrev pub sizes_step : StmtKind-F Sizes Sizes Sizes → Sizes
sizes_step (Block body) = closed (in_row body)
sizes_step (Local type name initial) = one_local
sizes_step (If arms other) = behind (arms_of (length arms)) (behind (beside arms) (closed (or_nothing other)))
sizes_step (While e body) = closed body
sizes_step (For first e third body) = closed (behind (or_nothing first) (behind (closed (or_nothing third)) (closed body)))
sizes_step (Cobegin blocks) = behind (branches_of (length blocks)) (beside blocks)
sizes_step (Foreach index low high step body) = closed (behind one_local body)
sizes_step _ = no_sizes

-- the sizes of what a statement is
abbrev pub sizes_of : StmtKind → Sizes
sizes_of = fold-StmtKind Sizes Sizes Sizes sizes_step (λ arm. arm.body) (λ stmt. stmt.kind)

-- the sizes of a statement
abbrev pub sizes_of_stmt : Stmt → Sizes
sizes_of_stmt stmt = sizes_of stmt.kind

-- the sizes of a function, whose parameters are in scope in its body
abbrev pub parameters_of : ℕ → Sizes
parameters_of n = record { declared = n; locals = n; branches = 0; arms = 0 }

-- a function: its parameters, and its body behind them
abbrev pub function_sizes : Func → Sizes
function_sizes f = behind (parameters_of (length f.params)) (in_row (map sizes_of_stmt f.body))

-- the largest of several sizes
abbrev pub largest : List Sizes → Sizes
largest parts = beside parts

-- the sizes of a whole program
abbrev pub program_sizes : Program → Sizes
program_sizes p = largest (map function_sizes p.funcs)

-- the most fields of one struct
abbrev pub most_fields : List StructDef → ℕ
most_fields structs = fold (λ (most : ℕ) (d : StructDef). max most (length d.fields)) 0 structs

-- a quantity by its place in the table, its largest count and the limit
pub record Count : Type 0 where
  pub which : ℕ
  pub found : ℕ
  pub allowed : ℕ

-- so much of a quantity, by the table of limits
abbrev pub count : Quantity → (found : ℕ) → Count
count quantity found = record { which = (row_of quantity).number; found = found; allowed = (row_of quantity).allowed }

-- all that is counted, in the order of the tests
abbrev pub counts : Program → List Count
counts p =
    let sizes = program_sizes p in
    count Functions (length p.funcs) ∷ count Structs (length p.structs) ∷ count Fields (most_fields p.structs)
    ∷ count Locals sizes.locals ∷ count Branches sizes.branches ∷ count Arms sizes.arms ∷ []

-- the first that passes its limit
abbrev pub first_passed : List Count → Option Limit
first_passed [] = None
first_passed (c ∷ rest) = if nat_lt c.allowed c.found then Some (record { which = c.which; found = c.found; allowed = c.allowed }) else first_passed rest

-- what the test of the counts answers
abbrev pub answer : Option Limit → Result (Unit {0}) Limit
answer None = Ok tt
answer (Some limit) = Err limit
