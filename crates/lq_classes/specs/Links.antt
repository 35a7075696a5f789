-- What the statements of a program say of its variables, as a list in the order of the text.
use Rattle.std.specs.Prelude.{ℕ, zero, suc, List, [], ◌∷◌, ◌++◌, slice_get, Option, None, Some}
use Rattle.std.specs.List.{flat_map}
use Rattle.lq_tree.specs.declared.plain.PExpr.{PExpr}
use Rattle.lq_tree.specs.declared.plain.PKind.{PKind, Set, Load, Store, Call, Return}
use Rattle.lq_tree.specs.declared.plain.PStmt.{PStmt}
use Rattle.lq_tree.specs.declared.plain.PFunc.{PFunc}
use Rattle.lq_tree.specs.declared.plain.PProgram.{PProgram}
use Rattle.lq_tree.specs.PlainWalk.{statements, inside}
use Rattle.lq_classes.specs.declared.var.Var.{Var}
use Rattle.lq_classes.specs.declared.links.Link.{Link}
use Rattle.lq_classes.specs.declared.links.Link.TheVariants.{Flow, Access}
use Rattle.lq_classes.specs.Classes.{var, root, result_in, param_count}

-- the slot of a pointer expression goes to this variable
abbrev pub flow_from : (func : ℕ) → Option ℕ → Var → List Link
flow_from func None to = []
flow_from func (Some n) to = Flow (var func n) to ∷ []

-- or is stored to this field
abbrev pub stored_from : (func base field : ℕ) → Option ℕ → List Link
stored_from func base field None = []
stored_from func base field (Some n) = Access (var func base) field (var func n) ∷ []

-- an argument that may be missing goes to this parameter
abbrev pub passed_from : (func callee i : ℕ) → Option PExpr → List Link
passed_from func callee i None = []
passed_from func callee i (Some e) = flow_from func (root e) (var callee i)

-- the arguments of a call go to the first so many parameters
abbrev pub passed_to : (func callee count : ℕ) → List PExpr → List Link
passed_to func callee zero args = []
passed_to func callee (suc i) args = passed_to func callee i args ++ passed_from func callee i (slice_get args i)

-- the result of a call goes to a slot that may be missing
abbrev pub given_to : PProgram → (func callee : ℕ) → Option ℕ → List Link
given_to p func callee None = []
given_to p func callee (Some to) = Flow (result_in p callee) (var func to) ∷ []

-- what a statement itself says
abbrev pub own_links : PProgram → (func : ℕ) → PKind → List Link
own_links p func (Set to e) = flow_from func (root e) (var func to)
own_links p func (Load to base index field) = Access (var func base) field (var func to) ∷ []
own_links p func (Store base index field e) = stored_from func base field (root e)
own_links p func (Call to callee args) = passed_to func callee (param_count (slice_get p.funcs callee)) args ++ given_to p func callee to
own_links p func (Return (Some e)) = flow_from func (root e) (result_in p func)
own_links p func _ = []

-- what each of these statements itself says
abbrev pub each_links : PProgram → (func : ℕ) → List PStmt → List Link
each_links p func list = flat_map (λ (s : PStmt). own_links p func s.kind) list

-- what a statement and those inside it say
abbrev pub kind_links : PProgram → (func : ℕ) → PKind → List Link
kind_links p func kind = own_links p func kind ++ each_links p func (inside kind)

-- what the statements of a body say
abbrev pub body_links : PProgram → (func : ℕ) → List PStmt → List Link
body_links p func body = each_links p func (statements body)

-- what the functions from this number on say
abbrev pub links_from : PProgram → (func : ℕ) → List PFunc → List Link
links_from p func [] = []
links_from p func (f ∷ funcs) = body_links p func f.body ++ links_from p (suc func) funcs
