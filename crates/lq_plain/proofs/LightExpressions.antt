-- An expression that so many tokens spell comes to little, and is shallow.
use Rattle.std.proofs.Common.{ℕ, ℤ, pos, ◌+◌, ◌*◌, ◌≤◌, Bool, true, false, not, ◌&&◌, List, [], ◌∷◌, Some, refl, sym, subst, arith}
use Rattle.std.proofs.lemmas.Bool.{cond_both}
use Rattle.lq_tree.specs.declared.expr.BinOp.{BinOp}
use Rattle.lq_tree.specs.declared.expr.CType.{CType}
use Rattle.lq_tree.specs.declared.expr.Expr.{Expr, Num, Var, Neg, Not, Bin, Index, Deref, Arrow, Dot, Call, Calloc}
use Rattle.lq_tree.specs.declared.place.Place.{Place}
use Rattle.lq_tree.specs.declared.plain.PExpr.{Num as NumP, Slot as InSlot}
use Rattle.lq_tree.specs.declared.plain.PKind.{Call as CallP, Calloc as CallocP}
use Rattle.lq_tree.specs.declared.program.Param.{Param}
use Rattle.lq_tree.specs.Layout.{field_number}
use Rattle.lq_tree.specs.Lookup.{function_of, number_of}
use Rattle.lq_tree.specs.Types.{Ty, element_of}
use Rattle.lq_tree.specs.PlainWalk.{statements}
use Rattle.lq_plain.specs.Flat.{Env, slot_of, type_of, Made, Valued, atom, is_pure, stopping, stops_early, Values, wanted, params_of, first_type, other_params, flatten}
use Rattle.lq_plain.specs.Plain.{arguments}
use Rattle.lq_plain.specs.SeenFlat.{operand_of}
use Rattle.lq_plain.proofs.Forms.{over, combined, first, flat_neg, flat_not, flat_bin, flat_index, flat_deref, flat_arrow, flat_dot, flat_call, flat_calloc}
use Rattle.lq_plain.proofs.LightNodes.{sizes, AreShallow}
use Rattle.lq_plain.proofs.LightFlat.{AllShallow, made_heft, MadeFits, ValuedFits, FlatFits, is_element, is_word, made_self, valued_more, flat_more, stood, atom_fits, operand_fits, dotted_fits, plain_value, wanted_fits, over_fits, neg_fits, not_fits, SideFits, stopping_fits}

-- An expression of this many tokens adds at most 16 for each, and its value is no deeper than they are many. Up to 520 tokens, a few more than a stretch may
-- have (an update adds its name and its sign), no expression that is made on the way is too deep.
pub record IsLight (k : ℕ) (e : Expr) : Type 0 where
  pub some : 1 ≤ k
  pub fits : k ≤ 520 → (env : Env) (at : Place) (n : ℕ) (m : Made) → MadeFits n m → FlatFits (n + 16 * k) k (flatten env at e m)

pub light_operand : (pure : Bool) (env : Env) (at : Place) (k : ℕ) (e : Expr) → k ≤ 520 → IsLight k e → SideFits (16 * k + 3) k (operand_of pure env at e)
light_operand pure env at k e le h n m made = valued_more (omega arith) (omega arith) (operand_fits pure at (type_of env e) h.some (omega (arith, le)) (h.fits le env at n m made))

pub light_num : (n : ℤ) → IsLight 1 (Num n)
light_num n = record { some = omega arith; fits = λ le env at k m made. flat_more (omega arith) (omega arith) (plain_value (NumP n) m k 1 made refl refl (omega arith)) }

pub light_var : (name : List ℕ) → IsLight 1 (Var name)
light_var name = record { some = omega arith; fits = λ le env at k m made. flat_more (omega arith) (omega arith) (plain_value (InSlot (slot_of env name)) m k 1 made refl refl (omega arith)) }

pub light_more : (j k : ℕ) (e : Expr) → j ≤ k → IsLight j e → IsLight k e
light_more j k e more h = let some = h.some in record { some = omega (arith, more, some); fits = λ le env at n m made. flat_more (omega (arith, more)) more (h.fits (omega (arith, le, more)) env at n m made) }

pub light_neg : (j k : ℕ) (a : Expr) → j + 1 ≤ k → IsLight j a → IsLight k (Neg a)
light_neg j k a more h = record {
  some = omega (arith, more);
  fits = λ le env at n m made.
      let v = light_operand (is_pure a) env at j a (omega (arith, le, more)) h n m made in
      subst (FlatFits (n + 16 * k) k) (sym (flat_neg env at a m)) (flat_more (omega (arith, more)) more (neg_fits v));
}

pub light_not : (j k : ℕ) (a : Expr) → j + 1 ≤ k → IsLight j a → IsLight k (Not a)
light_not j k a more h = record {
  some = omega (arith, more);
  fits = λ le env at n m made.
      let v = light_operand (is_pure a) env at j a (omega (arith, le, more)) h n m made in
      subst (FlatFits (n + 16 * k) k) (sym (flat_not env at a m)) (flat_more (omega (arith, more)) more (not_fits v));
}

combined_fits : (at : Place) (op : BinOp) (pa pb : Bool) (left right : Ty) (a b : Bool → Made → Valued) (m : Made) (n i j k : ℕ) → ((pure : Bool) → SideFits (16 * i + 3) i (a pure)) → ((pure : Bool) → SideFits (16 * j + 3) j (b pure))
    → 1 ≤ i → 1 ≤ j → i + j + 1 ≤ k → k ≤ 520 → MadeFits n m → FlatFits (n + 16 * k) k (combined at op pa pb left right a b m)
combined_fits at op pa pb left right a b m n i j k x y some other more le made =
    let pure = pa && pb in
    let first = x pure n m made in
    let second = y pure (made_heft (a pure m).made) (a pure m).made (made_self (a pure m).made first.shallow) in
    cond_both (not pure && stops_early op) (stopping at op (a true) (b true) m) (over left right op (a pure m) (b pure (a pure m).made)) (FlatFits (n + 16 * k) k)
    (λ e. flat_more (omega (arith, more)) (omega (arith, more)) (stopping_fits at op (a true) (b true) m n (16 * i + 3) (16 * j + 3) i j (x true) (y true) (omega (arith, more, le)) (omega (arith, more, le)) made))
    (λ e. flat_more (omega arith) (omega (arith, some, other, more)) (over_fits left right op (n + (16 * i + 3)) (16 * j + 3) (n + 16 * k) first second (omega (arith, more))))

pub light_bin : (op : BinOp) (i j k : ℕ) (a b : Expr) → i + j + 1 ≤ k → IsLight i a → IsLight j b → IsLight k (Bin op a b)
light_bin op i j k a b more x y = record {
  some = omega (arith, more);
  fits = λ le env at n m made.
      subst (FlatFits (n + 16 * k) k) (sym (flat_bin env at op a b m))
      (combined_fits at op (is_pure a) (is_pure b) (type_of env a) (type_of env b) (λ pure. operand_of pure env at a) (λ pure. operand_of pure env at b) m n i j k
      (λ pure. light_operand pure env at i a (omega (arith, le, more)) x) (λ pure. light_operand pure env at j b (omega (arith, le, more)) y) x.some y.some more le made);
}

pub light_index : (i j k : ℕ) (a b : Expr) → i + j + 1 ≤ k → IsLight i a → IsLight j b → IsLight k (Index a b)
light_index i j k a b more x y = record {
  some = omega (arith, more);
  fits = λ le env at n m made.
      let to = operand_of false env at a m in
      let v = light_operand false env at i a (omega (arith, le, more)) x n m made in
      let light = v.light in
      let before : MadeFits (n + 16 * i + 3) to.made = record { light = omega (arith, light); shallow = v.shallow } in
      subst (FlatFits (n + 16 * k) k) (sym (flat_index env at a b m)) (is_element {n = n + 16 * i + 16 * j + 3} (omega (arith, more)) (flat_more (omega arith) (omega (arith, more)) (y.fits (omega (arith, le, more)) env at (n + 16 * i + 3) to.made before)));
}

-- a field of the first element
first_fits : (field : ℕ) {n j k : ℕ} {to : Valued} → n + 4 ≤ k → 1 ≤ j → ValuedFits n j to → FlatFits k j (first field to)
first_fits field {n} {j} {k} {to} fits some h =
    let light = h.light in
    let before : MadeFits n to.made = record { light = omega (arith, light); shallow = h.shallow } in
    is_element {n = n + 1} (omega (arith, fits)) (flat_more (omega arith) (omega arith) (plain_value (NumP (pos 0)) to.made n j before refl refl some))

pub light_deref : (j k : ℕ) (a : Expr) → j + 1 ≤ k → IsLight j a → IsLight k (Deref a)
light_deref j k a more h = record {
  some = omega (arith, more);
  fits = λ le env at n m made.
      let v = light_operand false env at j a (omega (arith, le, more)) h n m made in
      subst (FlatFits (n + 16 * k) k) (sym (flat_deref env at a m)) (flat_more {n = n + 16 * k} (omega arith) (omega (arith, more)) (first_fits 0 (omega (arith, more)) h.some v));
}

pub light_arrow : (j k : ℕ) (a : Expr) (field : List ℕ) → j + 1 ≤ k → IsLight j a → IsLight k (Arrow a field)
light_arrow j k a field more h = record {
  some = omega (arith, more);
  fits = λ le env at n m made.
      let v = light_operand false env at j a (omega (arith, le, more)) h n m made in
      let place = field_number env.program.structs (element_of (type_of env a)) field in
      subst (FlatFits (n + 16 * k) k) (sym (flat_arrow env at a field m)) (flat_more {n = n + 16 * k} (omega arith) (omega (arith, more)) (first_fits place (omega (arith, more)) h.some v));
}

pub light_dot : (j k : ℕ) (a : Expr) (field : List ℕ) → j ≤ k → IsLight j a → IsLight k (Dot a field)
light_dot j k a field more h = record {
  some = let some = h.some in omega (arith, more, some);
  fits = λ le env at n m made.
      let place = field_number env.program.structs (type_of env a) field in
      subst (FlatFits (n + 16 * k) k) (sym (flat_dot env at a field m)) (dotted_fits place (flat_more (omega (arith, more)) more (h.fits (omega (arith, le, more)) env at n m made)));
}

-- ---- arguments

-- several values behind what stands in front of them
pub record ValuesFit (n : ℕ) (vs : Values) : Type 0 where
  pub light : made_heft vs.made + sizes vs.values ≤ n
  pub shallow : AreShallow (statements vs.made.front)
  pub deep : AllShallow vs.values

-- arguments of this many tokens add so much
pub record AreLight (k cost : ℕ) (args : List Expr) : Type 0 where
  pub fit : k ≤ 520 → (env : Env) (at : Place) (params : List Param) (n : ℕ) (m : Made) → MadeFits n m → ValuesFit (n + cost) (arguments env at params args m)

pub light_nothing : (cost : ℕ) → AreLight 0 cost []
light_nothing cost = record { fit = λ le env at params n m made. let light = made.light in record { light = omega (arith, light); shallow = made.shallow; deep = tt } }

pub light_others : (i j c k cost : ℕ) (e : Expr) (rest : List Expr) → i + j ≤ k → 16 * i + 3 + c ≤ cost → IsLight i e → AreLight j c rest → AreLight k cost (e ∷ rest)
light_others i j c k cost e rest more enough x y = record {
  fit = λ le env at params n m made.
      let low : i ≤ 520 = omega (arith, le, more) in
      let some = x.some in
      let given = atom at (type_of env e) (wanted (first_type params) e (flatten env at e m) m) in
      let v : ValuedFits (n + 16 * i + 3) i given = atom_fits at (type_of env e) some (omega (arith, low)) (wanted_fits (first_type params) e some (omega (arith, some)) made (x.fits low env at n m made)) in
      let others = y.fit (omega (arith, le, more)) env at (other_params params) (made_heft given.made) given.made (made_self given.made v.shallow) in
      let v_light = v.light in
      let v_deep = v.deep in
      let others_light = others.light in
      record { light = omega (arith, enough, v_light, others_light); shallow = others.shallow; deep = (omega (arith, v_deep, low), others.deep) };
}

pub light_call : (j k c : ℕ) (name : List ℕ) (args : List Expr) → j + 1 ≤ k → c + 1 ≤ 16 * k → AreLight j c args → IsLight k (Call name args)
light_call j k c name args more enough h = record {
  some = omega (arith, more);
  fits = λ le env at n m made.
      let given = arguments env at (params_of (function_of env.program.funcs name)) args m in
      let vs = h.fit (omega (arith, le, more)) env at (params_of (function_of env.program.funcs name)) n m made in
      let light = vs.light in
      subst (FlatFits (n + 16 * k) k) (sym (flat_call env at name args m))
      (is_word (λ (at : Place) (to : ℕ). stood at (CallP (Some to) (number_of env.program.funcs name) given.values) given.made (n + 16 * k) [] refl (omega (arith, light, enough)) vs.shallow vs.deep tt));
}

pub light_calloc : (j k : ℕ) (a : Expr) (type : CType) → j + 1 ≤ k → IsLight j a → IsLight k (Calloc a type)
light_calloc j k a type more h = record {
  some = omega (arith, more);
  fits = λ le env at n m made.
      let v = light_operand false env at j a (omega (arith, le, more)) h n m made in
      let count = operand_of false env at a m in
      let light = v.light in
      let deep = v.deep in
      subst (FlatFits (n + 16 * k) k) (sym (flat_calloc env at a type m))
      (is_word (λ (at : Place) (to : ℕ). stood at (CallocP to count.value type) count.made (n + 16 * k) [] refl (omega (arith, light, more)) v.shallow (omega (arith, deep, le, more), tt) tt));
}
