-- The numbers that are made are those of the classes.
use Rattle.std.proofs.Common.{◌≡◌, ◌≢◌, ℕ, ◌+◌, ◌*◌, ◌^◌, ◌<◌, ◌≤◌, Bool, true, false, List, get_or, refl, sym, subst, ◌∙◌, arith}
use Rattle.std.specs.Prelude.{Contains, IsTrue}
use Rattle.std.specs.List.{flat_map}
use Rattle.std.proofs.lemmas.Bool.{true≢false}
use Rattle.std.proofs.Math.Nat.{mul-le-mul_right}
use Rattle.lq_tree.specs.declared.plain.PProgram.{PProgram}
use Rattle.lq_classes.specs.declared.var.Var.{Var}
use Rattle.lq_classes.specs.declared.links.Link.TheVariants.{Access as Accesses}
use Rattle.lq_classes.specs.Classes.{is_variable, class_at, are_in_order, AreClasses}
use Rattle.lq_classes.specs.Links.{links_from}
use Rattle.lq_classes.specs.Layout.{total, IsSmall, number, pointers, parts_of}
use Rattle.lq_classes.specs.Joins.{pairs_of, AreLabelsOf}
use Rattle.lq_classes.specs.Numbers.{AreNumbers}
use Rattle.lq_classes.proofs.LayoutLemmas.{within, outside, lies, concat-parts_of, length-pointers}
use Rattle.lq_classes.proofs.PairLemmas.{same_from, label_from}

-- there is room for all places
pub small_places : (p : PProgram) (count fields : ℕ) → IsSmall p → count ≡ total p.funcs → fields ≤ 2 ^ 32 → count * (fields + 1) < 2 ^ 64
small_places p count fields low all few =
    let product = mul-le-mul_right {m = count} {n = 2 ^ 31} (fields + 1) (omega (arith, low, all)) in omega (arith, product, few)

module _ (p : PProgram) (fields : ℕ) (labels numbers : List ℕ) (h : AreLabelsOf (flat_map (pairs_of p (total p.funcs)) (links_from p 0 p.funcs)) (total p.funcs) fields labels)
    (enough : (base : Var) (field : ℕ) (value : Var) → Contains (links_from p 0 p.funcs) (Accesses base field value) → field < fields) (n : AreNumbers (pointers p.funcs) labels numbers) where
  -- a variable's class has the number that was made for it
  class_number : (v : Var) → IsTrue (is_variable p v) → (class_at (parts_of p.funcs numbers) v ≡ get_or numbers (number p v) 0) × (get_or (pointers p.funcs) (number p v) false ≡ true)
  class_number v is = elim (lies p.funcs numbers v.func v.slot) [
    | within low value pointer there ↦ (value, pointer ∙ is)
    | outside value pointer ↦ absurd (true≢false (sym is ∙ pointer))
  ]

  has_number : (v : Var) → IsTrue (is_variable p v) → class_at (parts_of p.funcs numbers) v ≢ 0
  has_number v is none = let one = class_number v is in n.some (number p v) one.1 (sym one.0 ∙ none)

  has_none : (v : Var) → is_variable p v ≡ false → class_at (parts_of p.funcs numbers) v ≡ 0
  has_none v is = elim (lies p.funcs numbers v.func v.slot) [
    | within low value pointer there ↦ value ∙ n.none (number p v) (pointer ∙ is)
    | outside value pointer ↦ value
  ]

  is_one : (v : Var) (b : Bool) → is_variable p v ≡ b → class_at (parts_of p.funcs numbers) v ≢ 0 → IsTrue (is_variable p v)
  is_one v true is some = is
  is_one v false is some = absurd (some (has_none v is))

  pub classes_are : AreClasses p (parts_of p.funcs numbers)
  classes_are = record {
    variables = λ v. (is_one v (is_variable p v) refl, has_number v);
    exact = λ a b first second.
        let one = class_number a first in
        let two = class_number b second in
        let e = n.exact (number p a) (number p b) one.1 two.1 in
        (λ same. same_from p fields labels h enough a b first second (e.0 (sym one.0 ∙ same ∙ two.0)), λ same. one.0 ∙ e.1 (label_from p fields labels h enough a b same) ∙ sym two.0);
    in_order = subst (λ (xs : List ℕ). IsTrue (are_in_order 0 xs)) (sym (concat-parts_of p.funcs numbers (n.count ∙ length-pointers p.funcs))) n.in_order;
  }
