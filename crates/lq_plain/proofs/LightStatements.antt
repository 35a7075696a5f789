-- What each form of statement comes to, by its parts: at most 30 for each of so many tokens.
use Rattle.std.proofs.Common.{◌≡◌, ℕ, ℤ, pos, ◌+◌, ◌*◌, ◌≤◌, List, [], ◌∷◌, ◌++◌, length, Option, None, Some, refl, ap, ap₂, sym, ◌∙◌, subst, arith, rules}
use Rattle.std.specs.List.{flat_map}
use Rattle.std.proofs.lemmas.Bool.{cond_both}
use Rattle.lq_tree.specs.declared.expr.CType.{CType}
use Rattle.lq_tree.specs.declared.expr.Expr.{Expr}
use Rattle.lq_tree.specs.declared.place.Place.{Place}
use Rattle.lq_tree.specs.declared.plain.PExpr.{Num, Null}
use Rattle.lq_tree.specs.declared.plain.PKind.{Set as SetP, Store as StoreP, Call as CallP, If as IfP, While as WhileP, Cobegin as CobeginP, Foreach as ForeachP, Print as PrintP, Return as ReturnP}
use Rattle.lq_tree.specs.declared.plain.Slot.{Slot}
use Rattle.lq_tree.specs.declared.stmt.Arm.{Arm, out-Arm, roll-Arm, the_lemmas as arm_lemmas}
use Rattle.lq_tree.specs.declared.stmt.Stmt.{Stmt}
use Rattle.lq_tree.specs.declared.stmt.StmtKind.{StmtKind, Empty, Block, Local as Declare, Set, Store, Call, If, While, For, Print, Return, Cobegin, Foreach}
use Rattle.lq_tree.specs.Lookup.{function_of, number_of}
use Rattle.lq_tree.specs.Locals.{type_of_local}
use Rattle.lq_tree.specs.PlainShape.{depth}
use Rattle.lq_tree.specs.PlainWalk.{within_branch, statements}
use Rattle.lq_tree.specs.Types.{Ty, Number, declared, is_pointer}
use Rattle.lq_plain.specs.Flat.{Env, slot_of, type_of, Made, then_stands, with_slot, int_type, Valued, Flat, is_pure, wanted, params_of, flatten}
use Rattle.lq_plain.specs.Lists.{one, maybe, guarded, an_arm, all_arms, all_branches, low_end}
use Rattle.lq_plain.specs.Plain.{Behind, fresh, flat_of, flat_as, assigned, empty_of, stored, arguments, condition, looped, Branches, branch, knows, plain, plain_all}
use Rattle.lq_plain.proofs.LightNodes.{size, heft, AreShallow, heft-append, shallow-append}
use Rattle.lq_plain.proofs.PlainLists.{inside-if, inside-while, within_branch-list, inside-cobegin}
use Rattle.lq_plain.proofs.LightFlat.{made_heft, MadeFits, ValuedFits, FlatFits, is_value, is_element, is_word, made_self, fresh_fits, made_more, valued_more, stood, slot_more, atom_fits, flat_fits, operand_fits, put_fits, wanted_fits, SideFits}
use Rattle.lq_plain.proofs.LightExpressions.{IsLight, AreLight}
use Rattle.lq_plain.proofs.StatementForms.{plain_block, plain_while, plain_if, plain_for, plain_cobegin, plain_foreach}

-- a part of this cost adds no more to what has been made
abbrev pub PartFits : (cost : ℕ) → (Made → Made) → Type 0
PartFits cost part = (n : ℕ) (m : Made) → MadeFits n m → MadeFits (n + cost) (part m)

-- A statement of this many tokens adds at most 30 for each: `x++` has two, and stands for an operator over a local and a number.
abbrev pub LightStatement : ℕ → StmtKind → Type 0
LightStatement k kind = (env : Env) (at : Place) → PartFits (30 * k) (λ m. (plain env at kind m).made)

-- and so does a list of statements
abbrev pub LightStatements : ℕ → List Stmt → Type 0
LightStatements k body = (env : Env) → PartFits (30 * k) (λ m. plain_all env body m)

-- ---- expressions in statements

pub flat_of_fits : (env : Env) (at : Place) (k : ℕ) (e : Expr) → k ≤ 520 → IsLight k e → SideFits (16 * k + 3) k (flat_of env at e)
flat_of_fits env at k e le h n m made = valued_more (omega arith) (omega arith) (flat_fits at (type_of env e) h.some (omega (arith, le)) (h.fits le env at n m made))

found_fits : (env : Env) (at : Place) (type : Ty) (k : ℕ) (e : Expr) (n : ℕ) (m : Made) → k ≤ 520 → IsLight k e → MadeFits n m → FlatFits (n + 16 * k) k (wanted type e (flatten env at e m) m)
found_fits env at type k e n m le h made = let some = h.some in wanted_fits type e some (omega (arith, some)) made (h.fits le env at n m made)

flat_as_fits : (env : Env) (at : Place) (type : Ty) (k : ℕ) (e : Expr) → k ≤ 520 → IsLight k e → SideFits (16 * k + 3) k (flat_as env at type e)
flat_as_fits env at type k e le h n m made = valued_more (omega arith) (omega arith) (flat_fits at (type_of env e) h.some (omega (arith, le)) (found_fits env at type k e n m le h made))

assigned_fits : (env : Env) (at : Place) (to : ℕ) (type : Ty) (k : ℕ) (e : Expr) → k ≤ 520 → IsLight k e → PartFits (16 * k + 1) (assigned env at to type e)
assigned_fits env at to type k e le h n m made = made_more (omega arith) (put_fits at to h.some (omega (arith, le)) (found_fits env at type k e n m le h made))

-- ---- statements without lists

pub light_empty : (k : ℕ) → LightStatement k Empty
light_empty k env at n m made = made_more (omega arith) made

pub light_set : (j k : ℕ) (name : List ℕ) (e : Expr) → 16 * j + 1 ≤ 30 * k → j ≤ 520 → IsLight j e → LightStatement k (Set name e)
light_set j k name e enough le h env at n m made = made_more (omega (arith, enough)) (assigned_fits env at (slot_of env name) (type_of_local env.scope name) j e le h n m made)

empty_one : (type : Ty) → (size (empty_of type) ≡ 1) × (depth (empty_of type) ≡ 1)
empty_one type = cond_both (is_pointer type) Null (Num (pos 0)) (λ e. (size e ≡ 1) × (depth e ≡ 1)) (λ is. (refl, refl)) (λ is. (refl, refl))

pub light_declared : (k : ℕ) (type : CType) (name : List ℕ) → 1 ≤ k → LightStatement k (Declare type name None)
light_declared k type name some env at n m made =
    let slot = slot_more (Some name) type m n made in
    let light = slot.light in
    let value = empty_of (declared type) in
    let is = empty_one (declared type) in
    let few = is.0 in
    let low = is.1 in
    stood at (SetP (length m.slots) value) (with_slot (Some name) type m) (n + 30 * k) [] refl (omega (arith, some, light, few)) slot.shallow (omega (arith, low), tt) tt

pub light_initial : (j k : ℕ) (type : CType) (name : List ℕ) (e : Expr) → 16 * j + 2 ≤ 30 * k → j ≤ 520 → IsLight j e → LightStatement k (Declare type name (Some e))
light_initial j k type name e enough le h env at n m made =
    made_more (omega (arith, enough)) (assigned_fits env at (length m.slots) (declared type) j e le h (n + 1) (with_slot (Some name) type m) (slot_more (Some name) type m n made))

-- the word of a store stands behind the index
behind_index : (env : Env) (at : Place) (type : Ty) (base field j : ℕ) (e : Expr) {n d : ℕ} {i : Valued} → j ≤ 520 → IsLight j e → d ≤ 600 → ValuedFits n d i
    → MadeFits (n + 16 * j + 4) (then_stands at (StoreP base i.value field (flat_as env at type e i.made).value) (flat_as env at type e i.made).made)
behind_index env at type base field j e {n} {d} {i} le h low x =
    let y = flat_as_fits env at type j e le h (made_heft i.made) i.made (made_self i.made x.shallow) in
    let v = flat_as env at type e i.made in
    let first = x.light in
    let second = y.light in
    let deep = x.deep in
    let deeper = y.deep in
    stood at (StoreP base i.value field v.value) v.made (n + 16 * j + 4) [] refl (omega (arith, first, second)) y.shallow (omega (arith, deep, low), (omega (arith, deeper, le), tt)) tt

-- what has no place is stored to as the first element of slot 0
behind_none : (env : Env) (at : Place) (type : Ty) (j : ℕ) (e : Expr) {n d : ℕ} {a : Valued} → j ≤ 520 → IsLight j e → ValuedFits n d a
    → MadeFits (n + 16 * j + 5) (then_stands at (StoreP 0 (Num (pos 0)) 0 (flat_as env at type e a.made).value) (flat_as env at type e a.made).made)
behind_none env at type j e {n} {d} {a} le h x =
    let y = flat_as_fits env at type j e le h (made_heft a.made) a.made (made_self a.made x.shallow) in
    let v = flat_as env at type e a.made in
    let first = x.light in
    let second = y.light in
    let deeper = y.deep in
    stood at (StoreP 0 (Num (pos 0)) 0 v.value) v.made (n + 16 * j + 5) [] refl (omega (arith, first, second)) y.shallow (omega arith, (omega (arith, deeper, le), tt)) tt

stored_fits : (env : Env) (at : Place) (type : Ty) (j : ℕ) (e : Expr) {n d : ℕ} {f : Flat} → 1 ≤ d → d ≤ 600 → FlatFits n d f → j ≤ 520 → IsLight j e → MadeFits (n + 16 * j + 8) (stored env at type e f)
stored_fits env at type j e some low (is_value x) le h = made_more (omega arith) (behind_none env at type j e le h (atom_fits at type some low (is_value x)))
stored_fits env at type j e some low (is_element {base = base} {field = field} fits x) le h = made_more (omega (arith, fits)) (behind_index env at type base field j e le h low (operand_fits (is_pure e) at Number some low x))
stored_fits env at type j e some low (is_word x) le h = made_more (omega arith) (behind_none env at type j e le h (atom_fits at type some low (is_word x)))

pub light_store : (i j k : ℕ) (into e : Expr) → i + j ≤ k → i ≤ 520 → j ≤ 520 → IsLight i into → IsLight j e → LightStatement k (Store into e)
light_store i j k into e more low le x h env at n m made =
    let some = x.some in
    let other = h.some in
    made_more (omega (arith, more, some, other)) (stored_fits env at (type_of env into) j e some (omega (arith, low)) (x.fits low env at n m made) le h)

pub light_called : (j k c : ℕ) (name : List ℕ) (args : List Expr) → c + 1 ≤ 30 * k → j ≤ 520 → AreLight j c args → LightStatement k (Call name args)
light_called j k c name args enough le h env at n m made =
    let given = arguments env at (params_of (function_of env.program.funcs name)) args m in
    let vs = h.fit le env at (params_of (function_of env.program.funcs name)) n m made in
    let light = vs.light in
    stood at (CallP None (number_of env.program.funcs name) given.values) given.made (n + 30 * k) [] refl (omega (arith, light, enough)) vs.shallow vs.deep tt

pub light_print : (j k : ℕ) (e : Expr) → j + 1 ≤ k → j ≤ 520 → IsLight j e → LightStatement k (Print e)
light_print j k e more le h env at n m made =
    let v = flat_of env at e m in
    let x = flat_of_fits env at j e le h n m made in
    let light = x.light in
    let deep = x.deep in
    stood at (PrintP v.value) v.made (n + 30 * k) [] refl (omega (arith, light, more)) x.shallow (omega (arith, deep, le), tt) tt

pub light_end : (k : ℕ) → 1 ≤ k → LightStatement k (Return None)
light_end k some env at n m made = let light = made.light in stood at (ReturnP None) m (n + 30 * k) [] refl (omega (arith, light, some)) made.shallow tt tt

pub light_return : (j k : ℕ) (e : Expr) → j + 1 ≤ k → j ≤ 520 → IsLight j e → LightStatement k (Return (Some e))
light_return j k e more le h env at n m made =
    let v = flat_as env at env.result e m in
    let x = flat_as_fits env at env.result j e le h n m made in
    let light = x.light in
    let deep = x.deep in
    stood at (ReturnP (Some v.value)) v.made (n + 30 * k) [] refl (omega (arith, light, more)) x.shallow (omega (arith, deep, le), tt) tt

-- ---- lists

pub light_nothing : (k : ℕ) → LightStatements k []
light_nothing k env n m made = made_more (omega arith) made

pub light_statement : (i j k : ℕ) (s : Stmt) (rest : List Stmt) → i + j ≤ k → LightStatement i s.kind → LightStatements j rest → LightStatements k (s ∷ rest)
light_statement i j k s rest more x y env n m made =
    let first = plain env s.at s.kind m in
    made_more (omega (arith, more)) (y (record env { scope = first.scope }) (n + 30 * i) first.made (x env s.at n m made))

pub light_block : (k : ℕ) (body : List Stmt) → LightStatements k body → LightStatement k (Block body)
light_block k body h env at n m made = subst (λ (b : Behind). MadeFits (n + 30 * k) b.made) (sym (plain_block env at body m)) (h env n m made)

-- ---- `if`

-- an If whose lists go on with the slots
guarded_fits : (at : Place) (c : Valued) (held : Made) (otherwise : Made → Made) (n d b r : ℕ) → d ≤ 600 → ValuedFits n d c → MadeFits (length c.made.slots + b) held → PartFits r otherwise → MadeFits (n + b + r + 1) (guarded at c held otherwise)
guarded_fits at c held otherwise n d b r low x y go =
    let other = otherwise (fresh held.slots) in
    let z = go (length held.slots) (fresh held.slots) (fresh_fits held.slots) in
    let first = x.light in
    let second = y.light in
    let third = z.light in
    let deep = x.deep in
    let total = heft-append (statements held.front) (statements other.front) in
    stood at (IfP c.value held.front other.front) (record { slots = other.slots; front = c.made.front }) (n + b + r + 1) (statements held.front ++ statements other.front) (inside-if c.value held.front other.front)
    (omega (arith, first, second, third, total)) x.shallow (omega (arith, deep, low), tt) (shallow-append (statements held.front) (statements other.front) y.shallow z.shallow)

-- arms and what stands behind them
abbrev pub LightArms : ℕ → List Arm → Option Stmt → Type 0
LightArms k arms last = (env : Env) (at : Place) → PartFits (30 * k) (λ m. all_arms env at arms (λ (m : Made). (maybe env last m).made) m)

-- an arm of a condition and a body
abbrev arm : Expr → Stmt → Arm
arm e body = roll-Arm (record { cond = e; body = body })

arm_cond : (e : Expr) (body : Stmt) → (out-Arm (arm e body)).cond ≡ e
arm_cond e body = search (rules, arm_lemmas)

arm_body : (e : Expr) (body : Stmt) → (out-Arm (arm e body)).body ≡ body
arm_body e body = search (rules, arm_lemmas)

pub light_no_arm : (k : ℕ) → LightArms k [] None
light_no_arm k env at n m made = made_more (omega arith) made

pub light_else : (k j : ℕ) (body : Stmt) → j ≤ k → LightStatement j body.kind → LightArms k [] (Some body)
light_else k j body more h env at n m made = made_more (omega (arith, more)) (h env body.at n m made)

pub light_arm : (i j r k : ℕ) (e : Expr) (body : Stmt) (arms : List Arm) (last : Option Stmt) → i + j + r + 1 ≤ k → i ≤ 520 → IsLight i e → LightStatement j body.kind → LightArms r arms last → LightArms k (arm e body ∷ arms) last
light_arm i j r k e body arms last more le h x y env at n m made =
    let go : Made → Made = all_arms env at arms (λ (m : Made). (maybe env last m).made) in
    let c = flat_of_fits env at i e le h n m made in
    let fits = guarded_fits at (flat_of env at e m) (one env body (fresh (flat_of env at e m).made.slots)).made go (n + (16 * i + 3)) i (30 * j) (30 * r) (omega (arith, le)) c
    (x env body.at (length (flat_of env at e m).made.slots) (fresh (flat_of env at e m).made.slots) (fresh_fits (flat_of env at e m).made.slots)) (λ n m made. y env at n m made) in
    let same : an_arm env at (out-Arm (arm e body)).cond (out-Arm (arm e body)).body go m ≡ an_arm env at e body go m = ap₂ (λ (c : Expr) (b : Stmt). an_arm env at c b go m) (arm_cond e body) (arm_body e body) in
    subst (MadeFits (n + 30 * k)) (sym same) (made_more (omega (arith, more)) fits)

pub light_if : (k : ℕ) (arms : List Arm) (last : Option Stmt) → LightArms k arms last → LightStatement k (If arms last)
light_if k arms last h env at n m made = subst (λ (b : Behind). MadeFits (n + 30 * k) b.made) (sym (plain_if env at arms last m)) (h env at n m made)

-- ---- loops

-- a condition that may be missing adds so much
abbrev pub ConditionFits : (cost : ℕ) → Option Expr → Type 0
ConditionFits cost e = (env : Env) (at : Place) (slots : List Slot) → ValuedFits (length slots + cost) 600 (condition env at e slots)

pub no_condition : ConditionFits 1 None
no_condition env at slots = record { light = omega arith; shallow = tt; deep = omega arith }

pub some_condition : (k : ℕ) (e : Expr) → k ≤ 520 → IsLight k e → ConditionFits (16 * k + 3) (Some e)
some_condition k e le h env at slots = valued_more (omega arith) (omega (arith, le)) (flat_of_fits env at k e le h (length slots) (fresh slots) (fresh_fits slots))

looped_fits : (at : Place) (c : Valued) (body m : Made) (n s b : ℕ) → MadeFits n m → ValuedFits (length m.slots + s) 600 c → MadeFits (length c.made.slots + b) body → MadeFits (n + s + b + 1) (looped at c body m)
looped_fits at c body m n s b made x y =
    let light = made.light in
    let first = x.light in
    let second = y.light in
    let total = heft-append (statements c.made.front) (statements body.front) in
    stood at (WhileP c.made.front c.value body.front) (record { slots = body.slots; front = m.front }) (n + s + b + 1) (statements c.made.front ++ statements body.front) (inside-while c.made.front c.value body.front)
    (omega (arith, light, first, second, total)) made.shallow (x.deep, tt) (shallow-append (statements c.made.front) (statements body.front) x.shallow y.shallow)

pub light_while : (i j k : ℕ) (e : Expr) (body : Stmt) → i + j + 1 ≤ k → i ≤ 520 → IsLight i e → LightStatement j body.kind → LightStatement k (While e body)
light_while i j k e body more le h x env at n m made =
    let c = condition env at (Some e) m.slots in
    let fits = looped_fits at c (one env body (fresh c.made.slots)).made m n (16 * i + 3) (30 * j) made (some_condition i e le h env at m.slots) (x env body.at (length c.made.slots) (fresh c.made.slots) (fresh_fits c.made.slots)) in
    subst (λ (b : Behind). MadeFits (n + 30 * k) b.made) (sym (plain_while env at e body m)) (made_more (omega (arith, more)) fits)

-- a statement that may be missing
abbrev pub LightPart : ℕ → Option Stmt → Type 0
LightPart k s = (env : Env) → PartFits (30 * k) (λ m. (maybe env s m).made)

pub light_missing : (k : ℕ) → LightPart k None
light_missing k env n m made = made_more (omega arith) made

pub light_part : (k : ℕ) (s : Stmt) → LightStatement k s.kind → LightPart k (Some s)
light_part k s h env n m made = h env s.at n m made

pub light_for : (a s c b k : ℕ) (first : Option Stmt) (e : Option Expr) (third : Option Stmt) (body : Stmt) → 30 * a + s + 30 * c + 30 * b + 1 ≤ 30 * k → LightPart a first → ConditionFits s e → LightPart c third → LightStatement b body.kind
    → LightStatement k (For first e third body)
light_for a s c b k first e third body more x y z w env at n m made =
    let opened = maybe env first m in
    let inner = record env { scope = opened.scope } in
    let v = condition inner at e opened.made.slots in
    let done = (one inner body (fresh v.made.slots)).made in
    let turn = z inner (length v.made.slots + 30 * b) done (w inner body.at (length v.made.slots) (fresh v.made.slots) (fresh_fits v.made.slots)) in
    let fits = looped_fits at v (maybe inner third done).made opened.made (n + 30 * a) s (30 * b + 30 * c) (x env n m made) (y inner at opened.made.slots) (made_more (omega arith) turn) in
    subst (λ (b : Behind). MadeFits (n + 30 * k) b.made) (sym (plain_for env at first e third body m)) (made_more (omega (arith, more)) fits)

-- ---- parallel statements

-- branches come to no more than this
pub record BranchesFit (n : ℕ) (all : Branches) : Type 0 where
  pub light : length all.slots + heft (flat_map within_branch all.list) ≤ n
  pub shallow : AreShallow (flat_map within_branch all.list)

-- the blocks of a `cobegin`
pub record LightBlocks (k : ℕ) (blocks : List Stmt) : Type 0 where
  pub fit : (env : Env) (slots : List Slot) → BranchesFit (length slots + 30 * k) (all_branches env blocks slots)

pub light_no_block : (k : ℕ) → LightBlocks k []
light_no_block k = record { fit = λ env slots. record { light = omega arith; shallow = tt } }

pub light_blocks : (i j k : ℕ) (s : Stmt) (blocks : List Stmt) → i + j ≤ k → LightStatement i s.kind → LightBlocks j blocks → LightBlocks k (s ∷ blocks)
light_blocks i j k s blocks more x y = record {
  fit = λ env slots.
      let first = (one env s (fresh slots)).made in
      let a = x env s.at (length slots) (fresh slots) (fresh_fits slots) in
      let b = y.fit env first.slots in
      let others = flat_map within_branch (all_branches env blocks first.slots).list in
      let is : within_branch (branch s.at first) ≡ statements first.front = within_branch-list s.at first.front in
      let total : heft (within_branch (branch s.at first) ++ others) ≡ heft (statements first.front) + heft others = ap (λ ss. heft (ss ++ others)) is ∙ heft-append (statements first.front) others in
      let a_light = a.light in
      let b_light = b.light in
      record { light = omega (arith, more, total, a_light, b_light); shallow = shallow-append (within_branch (branch s.at first)) others (subst AreShallow (sym is) a.shallow) b.shallow };
}

pub light_cobegin : (k : ℕ) (blocks : List Stmt) (j : ℕ) → j + 1 ≤ k → LightBlocks j blocks → LightStatement k (Cobegin blocks)
light_cobegin k blocks j more h env at n m made =
    let all = all_branches env blocks m.slots in
    let x = h.fit env m.slots in
    let light = x.light in
    let before = made.light in
    let fits = stood at (CobeginP all.list) (record { slots = all.slots; front = m.front }) (n + 30 * k) (flat_map within_branch all.list) (inside-cobegin all.list) (omega (arith, light, before, more)) made.shallow tt x.shallow in
    subst (λ (b : Behind). MadeFits (n + 30 * k) b.made) (sym (plain_cobegin env at blocks m)) fits

pub light_foreach : (i j b k : ℕ) (index : List ℕ) (low high : Expr) (step : ℤ) (body : Stmt) → i + j + b + 1 ≤ k → i ≤ 520 → j ≤ 520 → IsLight i low → IsLight j high → LightStatement b body.kind → LightStatement k (Foreach index low high step body)
light_foreach i j b k index low high step body more le less x y z env at n m made =
    let slot = slot_more (Some index) int_type m n made in
    let from = low_end env at index low high m in
    let first = operand_fits (is_pure high) at Number x.some (omega (arith, le)) (x.fits le env at (n + 1) (with_slot (Some index) int_type m) slot) in
    let to = flat_of env at high from.made in
    let second = flat_of_fits env at j high less y (made_heft from.made) from.made (made_self from.made first.shallow) in
    let done = (one (knows env index (length m.slots) Number) body (fresh to.made.slots)).made in
    let third = z (knows env index (length m.slots) Number) body.at (length to.made.slots) (fresh to.made.slots) (fresh_fits to.made.slots) in
    let a = first.light in
    let c = second.light in
    let d = third.light in
    let deep = first.deep in
    let deeper = second.deep in
    let fits = stood at (ForeachP (length m.slots) from.value to.value step (branch body.at done)) (record { slots = done.slots; front = to.made.front }) (n + 30 * k) (statements done.front) (within_branch-list body.at done.front)
    (omega (arith, a, c, d, more)) second.shallow (omega (arith, deep, le), (omega (arith, deeper, less), tt)) third.shallow in
    subst (λ (b : Behind). MadeFits (n + 30 * k) b.made) (sym (plain_foreach env at index low high step body m)) fits
