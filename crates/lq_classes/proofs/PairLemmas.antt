-- What links ask to be joined, and what follows for classes.
use Rattle.std.proofs.Common.{◌≡◌, inl, inr, ℕ, ◌+◌, ◌*◌, ◌/◌, ◌<◌, ◌≤◌, Bool, true, false, List, [], ◌∷◌, length, get_or, refl, sym, ap, subst, ◌∙◌, arith}
use Rattle.std.specs.Prelude.{Contains, IsTrue, if◌then◌else◌, ◌&&◌}
use Rattle.std.specs.List.{flat_map}
use Rattle.std.proofs.lemmas.Bool.{cases_lt}
use Rattle.std.proofs.lemmas.List.{get_or_past}
use Rattle.std.proofs.lemmas.Nat.{div-mul-add}
use Rattle.lq_tree.specs.declared.plain.PProgram.{PProgram}
use Rattle.lq_classes.specs.declared.var.Var.{Var}
use Rattle.lq_classes.specs.declared.links.Link.{Link}
use Rattle.lq_classes.specs.declared.links.Link.TheVariants.{Flow as Flows, Access as Accesses}
use Rattle.lq_classes.specs.declared.joins.Pair.{Pair}
use Rattle.lq_classes.specs.Classes.{is_variable, Access, Same, itself, turned, chained, flows, shared}
use Rattle.lq_classes.specs.Links.{links_from}
use Rattle.lq_classes.specs.Layout.{total, number}
use Rattle.lq_classes.specs.Joins.{place, pair, pairs_of, Joined, itself as alone, turned as back, chained as onward, asked, behind, AreSets, AreLabelsOf}
use Rattle.lq_classes.proofs.JoinLemmas.{place_within}
use Rattle.lq_classes.proofs.LinkLemmas.{contains-one, contains-none, contains-from, contains-into, here, Says, link_says, flow_listed, access_listed}
use Rattle.lq_classes.proofs.LayoutLemmas.{number-same, number-low}

-- ---- pairs

both_if : (u v : Bool) (q r : Pair) → Contains (if u && v then q ∷ [] else []) r → (u ≡ true) × (v ≡ true) × (q ≡ r)
both_if true true q r c = (refl, refl, contains-one q r c)
both_if true false q r c = contains-none r c
both_if false v q r c = contains-none r c

if_both : (u v : Bool) (q : Pair) → u ≡ true → v ≡ true → Contains (if u && v then q ∷ [] else []) q
if_both u v q first second = subst (λ a. Contains (if a && v then q ∷ [] else []) q) (sym first) (subst (λ b. Contains (if b then q ∷ [] else []) q) (sym second) (here q))

-- what a pair says of the variables that a link names
abbrev pub Asked : PProgram → (count : ℕ) → Link → (a b : ℕ) → Type 0
Asked p count (Flows x y) a b = IsTrue (is_variable p x) × IsTrue (is_variable p y) × (number p x ≡ a) × (number p y ≡ b)
Asked p count (Accesses x field y) a b = IsTrue (is_variable p x) × IsTrue (is_variable p y) × (place count (number p x) field ≡ a) × (number p y ≡ b)

pub asked_by : (p : PProgram) (count : ℕ) (l : Link) (a b : ℕ) → Contains (pairs_of p count l) (pair a b) → Asked p count l a b
asked_by p count (Flows x y) a b c =
    let parts = both_if (is_variable p x) (is_variable p y) (pair (number p x) (number p y)) (pair a b) c in (parts.0, parts.1, ap (λ (q : Pair). q.a) parts.2, ap (λ (q : Pair). q.b) parts.2)
asked_by p count (Accesses x field y) a b c =
    let parts = both_if (is_variable p x) (is_variable p y) (pair (place count (number p x) field) (number p y)) (pair a b) c in (parts.0, parts.1, ap (λ (q : Pair). q.a) parts.2, ap (λ (q : Pair). q.b) parts.2)

-- ---- places

place_parts : (count i j field other : ℕ) → i < count → j < count → place count i field ≡ place count j other → (field ≡ other) × (i ≡ j)
place_parts count i j field other first second e =
    let a = div-mul-add (field + 1) count i first in
    let b = div-mul-add (other + 1) count j second in
    let c : field + 1 ≡ other + 1 = sym a ∙ ap (λ n. n / count) e ∙ b in
    let d : field ≡ other = omega (arith, c) in
    let f : (field + 1) * count ≡ (other + 1) * count = ap (λ n. n * count) c in
    (d, omega (arith, e, f))

place_high : (count i field : ℕ) → count ≤ place count i field
place_high count i field = omega arith

-- ---- what a number stands for

-- a variable's number for those of its class, and a place for the classes of what is in the field
pub data Means (p : PProgram) (i : ℕ) (x : Var) : Type 0 where
  own : {v : Var} → i ≡ number p v → IsTrue (is_variable p v) → Same p v x → Means p i x
  held : {a b v : Var} {field : ℕ} → i ≡ place (total p.funcs) (number p a) field → IsTrue (is_variable p a) → Same p a b → IsTrue (is_variable p b) → IsTrue (is_variable p v) → Access p b field v → Same p v x → Means p i x

means_number : (p : PProgram) (x z : Var) → IsTrue (is_variable p x) → Means p (number p x) z → Same p x z
means_number p x z is (own {v = v} e var same) = subst (λ w. Same p w z) (sym (number-same p x v is var e)) same
means_number p x z is (held {a = a} {field = field} e first ab b v access same) =
    let low = number-low p x is in let high = place_high (total p.funcs) (number p a) field in absurd (omega (arith, e, low, high))

-- what a place stands for, by its field
pub record Holds (p : PProgram) (i field : ℕ) (x : Var) : Type 0 where
  pub a : Var
  pub b : Var
  pub v : Var
  pub at : i ≡ number p a
  pub first : IsTrue (is_variable p a)
  pub same : Same p a b
  pub second : IsTrue (is_variable p b)
  pub third : IsTrue (is_variable p v)
  pub access : Access p b field v
  pub last : Same p v x

means_place : (p : PProgram) (i field : ℕ) (z : Var) → i < total p.funcs → Means p (place (total p.funcs) i field) z → Holds p i field z
means_place p i field z low (own {v = v} e var same) = let below = number-low p v var in let high = place_high (total p.funcs) i field in absurd (omega (arith, e, below, high))
means_place p i field z low (held {a = a} {b = b} {v = v} {field = other} e first ab second third access last) =
    let parts = place_parts (total p.funcs) i (number p a) field other low (number-low p a first) e in
    record { a = a; b = b; v = v; at = parts.1; first = first; same = ab; second = second; third = third; access = subst (λ f. Access p b f v) (sym parts.0) access; last = last }

-- two numbers stand for the same
pub record Alike (p : PProgram) (i j : ℕ) : Type 0 where
  pub to : (x : Var) → Means p i x → Means p j x
  pub fro : (x : Var) → Means p j x → Means p i x

behind_to : (p : PProgram) (i j field : ℕ) → i < total p.funcs → j < total p.funcs → ((x : Var) → Means p i x → Means p j x) → (x : Var) → Means p (place (total p.funcs) i field) x → Means p (place (total p.funcs) j field) x
behind_to p i j field low other all x m =
    let h = means_place p i field x low m in
    go h (all h.a (own h.at h.first itself))
  where
    go : (h : Holds p i field x) → Means p j h.a → Means p (place (total p.funcs) j field) x
    go h (own {v = v} e var same) = held (ap (λ k. place (total p.funcs) k field) e) var (chained same h.same) h.second h.third h.access h.last
    go h (held {a = a} {field = f} e first ab b v access same) = let high = place_high (total p.funcs) (number p a) f in absurd (omega (arith, e, other, high))

flow_alike : (p : PProgram) (x y : Var) → IsTrue (is_variable p x) → IsTrue (is_variable p y) → Same p x y → Alike p (number p x) (number p y)
flow_alike p x y first second same = record {
  to = λ z m. own refl second (chained (turned same) (means_number p x z first m));
  fro = λ z m. own refl first (chained same (means_number p y z second m));
}

access_alike : (p : PProgram) (x y : Var) (field : ℕ) → IsTrue (is_variable p x) → IsTrue (is_variable p y) → Access p x field y → Alike p (place (total p.funcs) (number p x) field) (number p y)
access_alike p x y field first second access = record {
  to = λ z m.
      let h = means_place p (number p x) field z (number-low p x first) m in
      let is : x ≡ h.a = number-same p x h.a first h.first h.at in
      own refl second (chained (shared first h.second second h.third access h.access (subst (λ w. Same p w h.b) (sym is) h.same)) h.last);
  fro = λ z m. held refl first itself first second access (means_number p y z second m);
}

link_alike : (p : PProgram) (l : Link) (a b : ℕ) → Says p l → Asked p (total p.funcs) l a b → Alike p a b
link_alike p (Flows x y) a b says q = subst (λ n. Alike p n b) q.2 (subst (λ n. Alike p (number p x) n) q.3 (flow_alike p x y q.0 q.1 (flows q.0 q.1 says)))
link_alike p (Accesses x field y) a b says q =
    subst (λ n. Alike p n b) q.2 (subst (λ n. Alike p (place (total p.funcs) (number p x) field) n) q.3 (access_alike p x y field q.0 q.1 says))

-- what is joined stands for the same
joined_alike : (p : PProgram) (fields i j : ℕ) → Joined (flat_map (pairs_of p (total p.funcs)) (links_from p 0 p.funcs)) (total p.funcs) fields i j → Alike p i j
joined_alike p fields i _ alone = record { to = λ x m. m; fro = λ x m. m }
joined_alike p fields i j (back h) = let a = joined_alike p fields j i h in record { to = a.fro; fro = a.to }
joined_alike p fields i j (onward {b = k} h g) =
    let a = joined_alike p fields i k h in let b = joined_alike p fields k j g in record { to = λ x m. b.to x (a.to x m); fro = λ x m. a.fro x (b.fro x m) }
joined_alike p fields i j (asked c) =
    let from = contains-from (pairs_of p (total p.funcs)) (links_from p 0 p.funcs) (pair i j) c in
    link_alike p from.0 i j (link_says p from.0 from.1) (asked_by p (total p.funcs) from.0 i j from.2)
joined_alike p fields _ _ (behind {a = i} {b = j} {field = field} low other few h) =
    let a = joined_alike p fields i j h in record { to = behind_to p i j field low other a.to; fro = behind_to p j i field other low a.fro }

-- ---- both ways

module _ (p : PProgram) (fields : ℕ) (labels : List ℕ) (h : AreLabelsOf (flat_map (pairs_of p (total p.funcs)) (links_from p 0 p.funcs)) (total p.funcs) fields labels)
    (enough : (base : Var) (field : ℕ) (value : Var) → Contains (links_from p 0 p.funcs) (Accesses base field value) → field < fields) where
  -- variables with one label are of one class
  pub same_from : (a b : Var) → IsTrue (is_variable p a) → IsTrue (is_variable p b) → get_or labels (number p a) 0 ≡ get_or labels (number p b) 0 → Same p a b
  same_from a b first second e =
      let one = joined_alike p fields (number p a) (get_or labels (number p a) 0) (h.right (number p a) (number-low p a first)) in
      let two = joined_alike p fields (number p b) (get_or labels (number p b) 0) (h.right (number p b) (number-low p b second)) in
      turned (means_number p b a second (two.fro a (subst (λ n. Means p n a) e (one.to a (own refl first itself)))))

  access_label : (a x : Var) (field : ℕ) → IsTrue (is_variable p a) → IsTrue (is_variable p x) → Access p a field x → get_or labels (place (total p.funcs) (number p a) field) 0 ≡ get_or labels (number p x) 0
  access_label a x field first second access =
      h.kept _ _ (contains-into (pairs_of p (total p.funcs)) (links_from p 0 p.funcs) (Accesses a field x) (pair (place (total p.funcs) (number p a) field) (number p x)) (access_listed p a x field access)
      (if_both (is_variable p a) (is_variable p x) _ first second))

  -- and variables of one class have one label
  pub label_from : (a b : Var) → Same p a b → get_or labels (number p a) 0 ≡ get_or labels (number p b) 0
  label_from a _ itself = refl
  label_from a b (turned s) = sym (label_from b a s)
  label_from a b (chained {b = c} s t) = label_from a c s ∙ label_from c b t
  label_from a b (flows first second flow) =
      h.kept _ _ (contains-into (pairs_of p (total p.funcs)) (links_from p 0 p.funcs) (Flows a b) (pair (number p a) (number p b)) (flow_listed p a b flow) (if_both (is_variable p a) (is_variable p b) _ first second))
  label_from x y (shared {a = a} {b = b} {field = field} va vb vx vy ax by same) =
      sym (access_label a x field va vx ax)
      ∙ h.behind (number p a) (number p b) field (number-low p a va) (number-low p b vb) (enough a field x (access_listed p a x field ax)) (label_from a b same)
      ∙ access_label b y field vb vy by

-- ---- the start

pub start_sets : (p : PProgram) (count fields : ℕ) (links : List Link) (parents : List ℕ) (waiting : List Pair) → count ≡ total p.funcs → length parents ≡ (fields + 1) * count
    → ((i : ℕ) → i < (fields + 1) * count → get_or parents i 0 ≡ i) → waiting ≡ flat_map (pairs_of p count) links
    → ((base : Var) (field : ℕ) (value : Var) → Contains links (Accesses base field value) → field < fields) → AreSets count fields parents waiting
start_sets p count fields links parents waiting all size apart is enough = record {
  forest = λ i. elim (cases_lt i (length parents)) [
    | inl low ↦ (let e = apart i (omega (arith, low, size)) in omega (arith, e))
    | inr high ↦ (let e = get_or_past parents i 0 high in omega (arith, e))
  ];
  size = omega (arith, size);
  inside = λ a b c. let from = contains-from (pairs_of p count) links (pair a b) (subst (λ (ws : List Pair). Contains ws (pair a b)) is c) in
      bounds from.0 a b from.1 (asked_by p count from.0 a b from.2);
}
  where
    bounds : (l : Link) (a b : ℕ) → Contains links l → Asked p count l a b → (a < count * (fields + 1)) × (b < count * (fields + 1))
    bounds (Flows x y) a b c q =
        let one = number-low p x q.0 in let two = number-low p y q.1 in let e = q.2 in let f = q.3 in (omega (arith, one, all, e), omega (arith, two, all, f))
    bounds (Accesses x field y) a b c q =
        let one = place_within count fields (number p x) field (let low = number-low p x q.0 in omega (arith, low, all)) (enough x field y c) in
        let two = number-low p y q.1 in let e = q.2 in let f = q.3 in (subst (λ n. n < count * (fields + 1)) e one, omega (arith, two, all, f))
