-- How much a made form comes to, and how deep its expressions are, behind each step that makes it.
use Rattle.std.proofs.Common.{◌≡◌, ℕ, suc, ◌+◌, ◌≤◌, max, Bool, true, false, ◌&&◌, cond, List, [], ◌∷◌, ◌++◌, length, Option, None, pos, refl, ap, sym, ◌∙◌, subst, arith}
use Rattle.std.specs.List.{AllByRecursion}
use Rattle.std.proofs.lemmas.List.{length-append, append-nil}
use Rattle.std.proofs.lemmas.Bool.{cond_both}
use Rattle.lq_tree.specs.declared.expr.BinOp.{BinOp}
use Rattle.lq_tree.specs.declared.expr.BinOp.TheVariants.{Add, Sub, Eq, Ne, Or}
use Rattle.lq_tree.specs.declared.expr.CType.{CType}
use Rattle.lq_tree.specs.declared.expr.Expr.{Expr}
use Rattle.lq_tree.specs.declared.place.Place.{Place}
use Rattle.lq_tree.specs.declared.plain.PExpr.{PExpr, Num, Null, Neg, Not, Bin, Shift, IsNull}
use Rattle.lq_tree.specs.declared.plain.PKind.{PKind, Set, If}
use Rattle.lq_tree.specs.declared.plain.PStmt.{PStmt}
use Rattle.lq_tree.specs.declared.plain.Slot.{Slot}
use Rattle.lq_tree.specs.Types.{Ty, Number, is_pointer}
use Rattle.lq_tree.specs.PlainShape.{depth}
use Rattle.lq_tree.specs.PlainWalk.{inside, statements, values, statement}
use Rattle.lq_plain.specs.Flat.{Made, then_stands, with_slot, int_type, slot_type, Valued, valued, Flat, Is, Names, Gets, is_atom, in_new_slot, load, atom, flat, operand, operator, is_true, if_needed, at_first, stopping, dotted, is_zero, wanted}
use Rattle.lq_plain.specs.Plain.{fresh, put}
use Rattle.lq_plain.proofs.LightNodes.{size, sizes, heft, AreShallow, size_neg, size_not, size_null, size_bin, size_shift, depth_neg, depth_not, depth_null, depth_bin, depth_shift, heft-append, shallow-append}
use Rattle.lq_plain.proofs.PlainLists.{inside-if, statements-append}

-- no expression of these is deeper than is allowed
abbrev pub AllShallow : List PExpr → Type 0
AllShallow es = AllByRecursion (λ e. depth e ≤ 600) es

-- the slots, statements and nodes made so far
abbrev pub made_heft : Made → ℕ
made_heft m = length m.slots + heft (statements m.front)

-- what has been made comes to this at most
pub record MadeFits (n : ℕ) (m : Made) : Type 0 where
  pub light : made_heft m ≤ n
  pub shallow : AreShallow (statements m.front)

-- with the nodes of a value, which is no deeper than this
pub record ValuedFits (n d : ℕ) (v : Valued) : Type 0 where
  pub light : made_heft v.made + size v.value ≤ n
  pub shallow : AreShallow (statements v.made.front)
  pub deep : depth v.value ≤ d

-- what an expression comes to; an element needs a load, and a slot for its index
pub data FlatFits : ℕ → ℕ → Flat → Type 0 where
  is_value : {n d : ℕ} {v : Valued} → ValuedFits n d v → FlatFits n d (Is v)
  is_element : {n k d base field : ℕ} {index : Flat} → n + 3 ≤ k → FlatFits n d index → FlatFits k d (Names base index field)
  is_word : {n d : ℕ} {kind : ℕ → PKind} {m : Made} → ((at : Place) (to : ℕ) → MadeFits n (then_stands at (kind to) m)) → FlatFits n d (Gets kind m)

pub made_self : (m : Made) → AreShallow (statements m.front) → MadeFits (made_heft m) m
made_self m shallow = record { light = omega arith; shallow = shallow }

pub fresh_fits : (slots : List Slot) → MadeFits (length slots) (fresh slots)
fresh_fits slots = record { light = omega arith; shallow = tt }

pub made_more : {n k : ℕ} {m : Made} → n ≤ k → MadeFits n m → MadeFits k m
made_more le h = let light = h.light in record { light = omega (arith, light); shallow = h.shallow }

pub valued_more : {n k c d : ℕ} {v : Valued} → n ≤ k → c ≤ d → ValuedFits n c v → ValuedFits k d v
valued_more le less h = let light = h.light in let deep = h.deep in record { light = omega (arith, light); shallow = h.shallow; deep = omega (arith, deep) }

pub flat_more : {n k c d : ℕ} {f : Flat} → n ≤ k → c ≤ d → FlatFits n c f → FlatFits k d f
flat_more le less (is_value h) = is_value (valued_more le less h)
flat_more le less (is_element {n = i} fits h) = is_element {n = i} (omega (arith, le, fits)) (flat_more (omega arith) less h)
flat_more le less (is_word h) = is_word (λ at to. made_more le (h at to))

-- ---- a statement more

-- the statement and those inside it stand behind what has been made
pub stood : (at : Place) (kind : PKind) (m : Made) (n : ℕ) (held : List PStmt) → inside kind ≡ held → made_heft m + suc (sizes (values kind) + heft held) ≤ n → AreShallow (statements m.front)
    → AllShallow (values kind) → AreShallow held → MadeFits n (then_stands at kind m)
stood at kind m n held is fits shallow own inner =
    let one = statement at kind ∷ [] in
    let listed : statements one ≡ statement at kind ∷ held = ap (λ ss. statement at kind ∷ ss) (append-nil (inside kind) ∙ is) in
    let all : statements (m.front ++ one) ≡ statements m.front ++ (statement at kind ∷ held) = statements-append m.front one ∙ ap (λ ss. statements m.front ++ ss) listed in
    let total : heft (statements (m.front ++ one)) ≡ heft (statements m.front) + suc (sizes (values kind) + heft held) = ap heft all ∙ heft-append (statements m.front) (statement at kind ∷ held) in
    record {
      light = omega (arith, fits, total);
      shallow = subst AreShallow (sym all) (shallow-append (statements m.front) (statement at kind ∷ held) shallow (own, inner));
    }

pub slot_more : (name : Option (List ℕ)) (type : CType) (m : Made) (n : ℕ) → MadeFits n m → MadeFits (n + 1) (with_slot name type m)
slot_more name type m n h =
    let grows = length-append m.slots (record { name = name; ctype = type } ∷ []) in
    let light = h.light in
    record { light = omega (arith, light, grows); shallow = h.shallow }

-- a word in a new slot
new_slot : (at : Place) (type : Ty) (kind : ℕ → PKind) (m : Made) (n : ℕ) → ((to : ℕ) → MadeFits n (then_stands at (kind to) m)) → ValuedFits (n + 2) 1 (in_new_slot at type kind m)
new_slot at type kind m n h =
    let stands = h (length m.slots) in
    let light = stands.light in
    let grows = length-append m.slots (record { name = None; ctype = slot_type type } ∷ []) in
    record { light = omega (arith, light, grows); shallow = stands.shallow; deep = omega arith }

set_fits : (at : Place) (to n d : ℕ) (v : Valued) → d ≤ 600 → ValuedFits n d v → MadeFits (n + 1) (then_stands at (Set to v.value) v.made)
set_fits at to n d v low h =
    let light = h.light in
    let deep = h.deep in
    stood at (Set to v.value) v.made (n + 1) [] refl (omega (arith, light)) h.shallow (omega (arith, deep), tt) tt

load_fits : (at : Place) (base field to n d : ℕ) (v : Valued) → d ≤ 600 → ValuedFits n d v → MadeFits (n + 1) (then_stands at (load base v field to) v.made)
load_fits at base field to n d v low h =
    let light = h.light in
    let deep = h.deep in
    stood at (load base v field to) v.made (n + 1) [] refl (omega (arith, light)) h.shallow (omega (arith, deep), tt) tt

pub atom_fits : (at : Place) (type : Ty) {n d : ℕ} {f : Flat} → 1 ≤ d → d ≤ 600 → FlatFits n d f → ValuedFits (n + 3) d (atom at type f)
atom_fits at type {n} {d} some low (is_value {v = v} h) =
    cond_both (is_atom v.value) v (in_new_slot at type (λ to. Set to v.value) v.made) (ValuedFits (n + 3) d) (λ e. valued_more (omega arith) (omega arith) h)
    (λ e. valued_more (omega arith) some (new_slot at type (λ to. Set to v.value) v.made (n + 1) (λ to. set_fits at to n d v low h)))
atom_fits at type {n} {d} some low (is_element {n = k} {base = base} {field = field} {index = index} fits h) =
    let i = atom at Number index in
    let inner = atom_fits at Number some low h in
    valued_more (omega (arith, fits)) some (new_slot at type (load base i field) i.made (k + 3 + 1) (λ to. load_fits at base field to (k + 3) d i low inner))
atom_fits at type {n} some low (is_word {kind = kind} {m = m} h) = valued_more (omega arith) some (new_slot at type kind m n (λ to. h at to))

pub flat_fits : (at : Place) (type : Ty) {n d : ℕ} {f : Flat} → 1 ≤ d → d ≤ 600 → FlatFits n d f → ValuedFits (n + 3) d (flat at type f)
flat_fits at type some low (is_value h) = valued_more (omega arith) (omega arith) h
flat_fits at type some low (is_element fits h) = atom_fits at type some low (is_element fits h)
flat_fits at type some low (is_word h) = atom_fits at type some low (is_word h)

pub operand_fits : (pure : Bool) (at : Place) (type : Ty) {n d : ℕ} {f : Flat} → 1 ≤ d → d ≤ 600 → FlatFits n d f → ValuedFits (n + 3) d (operand pure at type f)
operand_fits true at type some low h = flat_fits at type some low h
operand_fits false at type some low h = atom_fits at type some low h

pub put_fits : (at : Place) (to : ℕ) {n d : ℕ} {f : Flat} → 1 ≤ d → d ≤ 600 → FlatFits n d f → MadeFits (n + 1) (put at to f)
put_fits at to {n} {d} some low (is_value {v = v} h) = set_fits at to n d v low h
put_fits at to {n} {d} some low (is_element {n = k} {base = base} {field = field} {index = index} fits h) =
    made_more (omega (arith, fits)) (load_fits at base field to (k + 3) d (atom at Number index) low (atom_fits at Number some low h))
put_fits at to some low (is_word h) = made_more (omega arith) (h at to)

pub dotted_fits : (field : ℕ) {n d : ℕ} {f : Flat} → FlatFits n d f → FlatFits n d (dotted field f)
dotted_fits field (is_value h) = is_value h
dotted_fits field (is_element fits h) = is_element fits h
dotted_fits field (is_word h) = is_word h

-- a value that nothing stands in front of
pub plain_value : (e : PExpr) (m : Made) (n d : ℕ) → MadeFits n m → size e ≡ 1 → depth e ≡ 1 → 1 ≤ d → FlatFits (n + 1) d (Is (valued e m))
plain_value e m n d h one shallow some = let light = h.light in is_value (record { light = omega (arith, light, one); shallow = h.shallow; deep = omega (arith, shallow) })

pub wanted_fits : (type : Ty) (e : Expr) {n k d : ℕ} {f : Flat} {m : Made} → 1 ≤ d → n + 1 ≤ k → MadeFits n m → FlatFits k d f → FlatFits k d (wanted type e f m)
wanted_fits type e {n} {k} {d} {f} {m} some fits made h =
    cond_both (is_pointer type && is_zero e) (Is (valued Null m)) f (FlatFits k d) (λ is. flat_more fits (omega arith) (plain_value Null m n d made refl refl some)) (λ is. h)

-- ---- operators

-- an operator's value has two nodes more than its operands at most, and is two deeper
OperatorFits : (a b e : PExpr) → Type 0
OperatorFits a b e = (size e ≤ size a + size b + 2) × (depth e ≤ max (depth a) (depth b) + 2)

bin_fits : (op : BinOp) (a b : PExpr) → OperatorFits a b (Bin op a b)
unfolding OperatorFits
bin_fits op a b = let many = size_bin op a b in let deep = depth_bin op a b in (omega (arith, many), omega (arith, deep))

shift_fits : (a b : PExpr) → OperatorFits a b (Shift a b)
unfolding OperatorFits
shift_fits a b = let many = size_shift a b in let deep = depth_shift a b in (omega (arith, many), omega (arith, deep))

shift_back_fits : (a b : PExpr) → OperatorFits a b (Shift a (Neg b))
unfolding OperatorFits
shift_back_fits a b =
    let many = size_shift a (Neg b) in
    let more = size_neg b in
    let deep = depth_shift a (Neg b) in
    let deeper = depth_neg b in
    (omega (arith, many, more), omega (arith, deep, deeper))

left_null_fits : (a b : PExpr) → OperatorFits a b (IsNull a)
unfolding OperatorFits
left_null_fits a b = let many = size_null a in let deep = depth_null a in (omega (arith, many), omega (arith, deep))

right_null_fits : (a b : PExpr) → OperatorFits a b (IsNull b)
unfolding OperatorFits
right_null_fits a b = let many = size_null b in let deep = depth_null b in (omega (arith, many), omega (arith, deep))

left_some_fits : (a b : PExpr) → OperatorFits a b (Not (IsNull a))
unfolding OperatorFits
left_some_fits a b =
    let many = size_not (IsNull a) in
    let more = size_null a in
    let deep = depth_not (IsNull a) in
    let deeper = depth_null a in
    (omega (arith, many, more), omega (arith, deep, deeper))

right_some_fits : (a b : PExpr) → OperatorFits a b (Not (IsNull b))
unfolding OperatorFits
right_some_fits a b =
    let many = size_not (IsNull b) in
    let more = size_null b in
    let deep = depth_not (IsNull b) in
    let deeper = depth_null b in
    (omega (arith, many, more), omega (arith, deep, deeper))

operator_fits : (left right : Ty) (op : BinOp) (a b : PExpr) → OperatorFits a b (operator left right op a b)
operator_fits left right Add a b = cond_both (is_pointer left) (Shift a b) (Bin Add a b) (OperatorFits a b) (λ e. shift_fits a b) (λ e. bin_fits Add a b)
operator_fits left right Sub a b = cond_both (is_pointer left) (Shift a (Neg b)) (Bin Sub a b) (OperatorFits a b) (λ e. shift_back_fits a b) (λ e. bin_fits Sub a b)
operator_fits left right Eq a b =
    cond_both (is_pointer left) (IsNull a) (cond (is_pointer right) (IsNull b) (Bin Eq a b)) (OperatorFits a b) (λ e. left_null_fits a b)
    (λ e. cond_both (is_pointer right) (IsNull b) (Bin Eq a b) (OperatorFits a b) (λ e. right_null_fits a b) (λ e. bin_fits Eq a b))
operator_fits left right Ne a b =
    cond_both (is_pointer left) (Not (IsNull a)) (cond (is_pointer right) (Not (IsNull b)) (Bin Ne a b)) (OperatorFits a b) (λ e. left_some_fits a b)
    (λ e. cond_both (is_pointer right) (Not (IsNull b)) (Bin Ne a b) (OperatorFits a b) (λ e. right_some_fits a b) (λ e. bin_fits Ne a b))
operator_fits left right _ a b = bin_fits _ a b

-- the second operand stands behind the first
pub over_fits : (left right : Ty) (op : BinOp) (n c d : ℕ) {i j : ℕ} {a b : Valued} → ValuedFits n i a → ValuedFits (made_heft a.made + c) j b → n + c + 2 ≤ d → FlatFits d (max i j + 2) (Is (valued (operator left right op a.value b.value) b.made))
unfolding OperatorFits
over_fits left right op n c d {a = a} {b = b} x y fits =
    let it = operator_fits left right op a.value b.value in
    let many = it.0 in
    let deep = it.1 in
    let first = x.light in
    let second = y.light in
    let low = x.deep in
    let lower = y.deep in
    is_value (record { light = omega (arith, many, first, second, fits); shallow = y.shallow; deep = omega (arith, deep, low, lower) })

pub neg_fits : {n d : ℕ} {v : Valued} → ValuedFits n d v → FlatFits (n + 1) (d + 1) (Is (valued (Neg v.value) v.made))
neg_fits {v = v} h =
    let many = size_neg v.value in
    let deeper = depth_neg v.value in
    let light = h.light in
    let deep = h.deep in
    is_value (record { light = omega (arith, many, light); shallow = h.shallow; deep = omega (arith, deeper, deep) })

pub not_fits : {n d : ℕ} {v : Valued} → ValuedFits n d v → FlatFits (n + 1) (d + 1) (Is (valued (Not v.value) v.made))
not_fits {v = v} h =
    let many = size_not v.value in
    let deeper = depth_not v.value in
    let light = h.light in
    let deep = h.deep in
    is_value (record { light = omega (arith, many, light); shallow = h.shallow; deep = omega (arith, deeper, deep) })

-- ---- what stops early

if_fits : (at : Place) (op : BinOp) (e : PExpr) (asked : List PStmt) (m : Made) (n : ℕ) → made_heft m + suc (size e + heft (statements asked)) ≤ n → AreShallow (statements m.front) → depth e ≤ 600
    → AreShallow (statements asked) → MadeFits n (then_stands at (if_needed op e asked) m)
if_fits at Or e asked m n fits shallow deep inner = stood at (If e [] asked) m n (statements asked) (inside-if e [] asked) (omega (arith, fits)) shallow (deep, tt) inner
if_fits at _ e asked m n fits shallow deep inner =
    stood at (If e asked []) m n (statements asked) (inside-if e asked [] ∙ append-nil (statements asked)) (omega (arith, fits)) shallow (deep, tt) inner

-- a side of it, behind what has been made
abbrev pub SideFits : (cost d : ℕ) → (Made → Valued) → Type 0
SideFits cost d side = (n : ℕ) (m : Made) → MadeFits n m → ValuedFits (n + cost) d (side m)

pub stopping_fits : (at : Place) (op : BinOp) (left right : Made → Valued) (m : Made) (n a b i j : ℕ) → SideFits a i left → SideFits b j right → i ≤ 599 → j ≤ 599 → MadeFits n m → FlatFits (n + a + b + 8) 1 (stopping at op left right m)
stopping_fits at op left right m n a b i j l r low lower h =
    let to = length m.slots in
    let number : PExpr = Num (at_first op) in
    let slot = slot_more None int_type m n h in
    let slot_light = slot.light in
    let start = stood at (Set to number) (with_slot None int_type m) (n + 3) [] refl (omega (arith, slot_light)) slot.shallow (omega arith, tt) tt in
    let first = left (then_stands at (Set to number) (with_slot None int_type m)) in
    let x = l (n + 3) (then_stands at (Set to number) (with_slot None int_type m)) start in
    let second = right (record { slots = first.made.slots; front = [] }) in
    let y = r (length first.made.slots) (record { slots = first.made.slots; front = [] }) (fresh_fits first.made.slots) in
    let x_light = x.light in
    let y_light = y.light in
    let x_deep = x.deep in
    let y_deep = y.deep in
    let truth = is_true second.value in
    let many = size_bin Ne second.value (Num (pos 0)) in
    let deep = depth_bin Ne second.value (Num (pos 0)) in
    let last = stood at (Set to truth) second.made (made_heft second.made + suc (size truth)) [] refl (omega arith) y.shallow (omega (arith, deep, y_deep), tt) tt in
    let asked = (then_stands at (Set to truth) second.made).front in
    let last_light = last.light in
    let whole = if_fits at op first.value asked (record { slots = second.made.slots; front = first.made.front }) (n + a + b + 7) (omega (arith, x_light, y_light, last_light, many)) x.shallow (omega (arith, x_deep)) last.shallow in
    let whole_light = whole.light in
    is_value (record { light = omega (arith, whole_light); shallow = whole.shallow; deep = omega arith })
