-- The list of what statements say has each flow and each access, and nothing else.
use Rattle.std.proofs.Common.{◌≡◌, inl, inr, ℕ, zero, suc, ◌+◌, ◌<◌, List, [], ◌∷◌, Option, None, Some, refl, sym, ap, subst, ◌∙◌, arith, slice_get}
use Rattle.std.specs.Prelude.{Contains}
use Rattle.std.specs.List.{flat_map}
use Rattle.std.proofs.lemmas.Bool.{cases_eq}
use Rattle.std.proofs.lemmas.List.Elements.{Contains-append_left, Contains-append_right, Contains-append_cases}
use Rattle.lq_tree.specs.declared.plain.PExpr.{PExpr}
use Rattle.lq_tree.specs.declared.plain.PKind.{PKind, Set, Load, Store, Calloc, Call, If', While', Cobegin', Foreach, Print, Return}
use Rattle.lq_tree.specs.declared.plain.PStmt.{PStmt}
use Rattle.lq_tree.specs.declared.plain.PFunc.{PFunc}
use Rattle.lq_tree.specs.declared.plain.PProgram.{PProgram}
use Rattle.lq_tree.specs.PlainWalk.{statement, statements}
use Rattle.lq_classes.specs.declared.var.Var.{Var}
use Rattle.lq_classes.specs.declared.links.Link.{Link}
use Rattle.lq_classes.specs.declared.links.Link.TheVariants.{Flow as Flows, Access as Accesses}
use Rattle.lq_classes.specs.Classes.{var, root, result_in, param_count, Stands, Flow, assigned, passed, returned, given, Access, loaded, stored}
use Rattle.lq_classes.specs.Links.{flow_from, stored_from, passed_from, passed_to, given_to, own_links, body_links, links_from}

-- ---- lists

pub contains-one : {A : Type 0} (x y : A) → Contains (x ∷ []) y → x ≡ y
contains-one x y (zero, low, is) = is
contains-one x y (suc k, low, is) = absurd (omega (arith, low))

pub contains-none : {A P : Type 0} (y : A) → Contains [] y → P
contains-none y (k, low, is) = absurd (omega (arith, low))

pub here : {A : Type 0} (x : A) → Contains (x ∷ []) x
here x = (0, omega arith, refl)

pub contains-from : {A B : Type 0} (f : A → List B) (xs : List A) (y : B) → Contains (flat_map f xs) y → (x : A) × Contains xs x × Contains (f x) y
contains-from f [] y c = contains-none y c
contains-from f (x ∷ xs) y c = elim (Contains-append_cases (f x) (flat_map f xs) y c) [
  | inl first ↦ (x, (0, omega arith, refl), first)
  | inr rest ↦ let more = contains-from f xs y rest in (more.0, Contains-append_right (x ∷ []) xs more.0 more.1, more.2)
]

pub contains-into : {A B : Type 0} (f : A → List B) (xs : List A) (x : A) (y : B) → Contains xs x → Contains (f x) y → Contains (flat_map f xs) y
contains-into f [] x y c d = contains-none x c
contains-into f (z ∷ xs) x y (zero, low, is) d = Contains-append_left (f z) (flat_map f xs) y (subst (λ w. Contains (f w) y) (sym is) d)
contains-into f (z ∷ xs) x y (suc k, low, is) d = Contains-append_right (f z) (flat_map f xs) y (contains-into f xs x y (k, omega (arith, low), is) d)

-- ---- from the list to the rules

-- what a link says
abbrev pub Says : PProgram → Link → Type 0
Says p (Flows a b) = Flow p a b
Says p (Accesses a field b) = Access p a field b

flow_says : (p : PProgram) (func : ℕ) (o : Option ℕ) (to : Var) (l : Link) → ((n : ℕ) → o ≡ Some n → Flow p (var func n) to) → Contains (flow_from func o to) l → Says p l
flow_says p func None to l rule c = contains-none l c
flow_says p func (Some n) to l rule c = subst (Says p) (contains-one (Flows (var func n) to) l c) (rule n refl)

stored_says : (p : PProgram) (func base field : ℕ) (o : Option ℕ) (l : Link) → ((n : ℕ) → o ≡ Some n → Access p (var func base) field (var func n)) → Contains (stored_from func base field o) l → Says p l
stored_says p func base field None l rule c = contains-none l c
stored_says p func base field (Some n) l rule c = subst (Says p) (contains-one (Accesses (var func base) field (var func n)) l c) (rule n refl)

passed_one : (p : PProgram) (func callee i : ℕ) (o : Option PExpr) (l : Link) → ((e : PExpr) (n : ℕ) → o ≡ Some e → root e ≡ Some n → Flow p (var func n) (var callee i)) → Contains (passed_from func callee i o) l → Says p l
passed_one p func callee i None l rule c = contains-none l c
passed_one p func callee i (Some e) l rule c = flow_says p func (root e) (var callee i) l (λ n is. rule e n refl is) c

passed_says : (p : PProgram) (func callee count : ℕ) (args : List PExpr) (l : Link)
    → ((i : ℕ) (e : PExpr) (n : ℕ) → i < count → slice_get args i ≡ Some e → root e ≡ Some n → Flow p (var func n) (var callee i)) → Contains (passed_to func callee count args) l → Says p l
passed_says p func callee zero args l rule c = contains-none l c
passed_says p func callee (suc i) args l rule c = elim (Contains-append_cases (passed_to func callee i args) (passed_from func callee i (slice_get args i)) l c) [
  | inl old ↦ passed_says p func callee i args l (λ j e n low. rule j e n (omega (arith, low))) old
  | inr one ↦ passed_one p func callee i (slice_get args i) l (λ e n. rule i e n (omega arith)) one
]

given_says : (p : PProgram) (func callee : ℕ) (to : Option ℕ) (l : Link) → ((n : ℕ) → to ≡ Some n → Flow p (result_in p callee) (var func n)) → Contains (given_to p func callee to) l → Says p l
given_says p func callee None l rule c = contains-none l c
given_says p func callee (Some n) l rule c = subst (Says p) (contains-one (Flows (result_in p callee) (var func n)) l c) (rule n refl)

own_says : (p : PProgram) (func : ℕ) (kind : PKind) (l : Link) → Stands p func kind → Contains (own_links p func kind) l → Says p l
own_says p func (Set to e) l s c = flow_says p func (root e) (var func to) l (λ n is. assigned s is) c
own_says p func (Load to base index field) l s c = subst (Says p) (contains-one (Accesses (var func base) field (var func to)) l c) (loaded s)
own_says p func (Store base index field e) l s c = stored_says p func base field (root e) l (λ n is. stored s is) c
own_says p func (Calloc to count type) l s c = contains-none l c
own_says p func (Call to callee args) l s c =
    elim (Contains-append_cases (passed_to func callee (param_count (slice_get p.funcs callee)) args) (given_to p func callee to) l c) [
      | inl first ↦ passed_says p func callee (param_count (slice_get p.funcs callee)) args l (λ i e n low at is. passed s low at is) first
      | inr second ↦ given_says p func callee to l (λ n is. given (subst (λ (o : Option ℕ). Stands p func (Call o callee args)) is s)) second
    ]
own_says p func (If' e n body m other) l s c = contains-none l c
own_says p func (While' n head e m body) l s c = contains-none l c
own_says p func (Cobegin' n blocks) l s c = contains-none l c
own_says p func (Foreach index low high step branch) l s c = contains-none l c
own_says p func (Print e) l s c = contains-none l c
own_says p func (Return None) l s c = contains-none l c
own_says p func (Return (Some e)) l s c = flow_says p func (root e) (result_in p func) l (λ n is. returned s is) c

-- each link says what a rule says
list_says : (p : PProgram) (func : ℕ) (funcs : List PFunc) (l : Link) → ((n : ℕ) (f : PFunc) → slice_get funcs n ≡ Some f → slice_get p.funcs (func + n) ≡ Some f) → Contains (links_from p func funcs) l → Says p l
list_says p func [] l there c = contains-none l c
list_says p func (f ∷ funcs) l there c = elim (Contains-append_cases (body_links p func f.body) (links_from p (suc func) funcs) l c) [
  | inl own ↦
      let from = contains-from (λ (s : PStmt). own_links p func s.kind) (statements f.body) l own in
      own_says p func from.0.kind l (record { f = f; there = ap (slice_get p.funcs) (omega arith) ∙ there 0 f refl; at = from.0.at; stands = from.1 }) from.2
  | inr rest ↦ list_says p (suc func) funcs l (λ n g is. ap (slice_get p.funcs) (omega arith) ∙ there (suc n) g is) rest
]

pub link_says : (p : PProgram) (l : Link) → Contains (links_from p 0 p.funcs) l → Says p l
link_says p l c = list_says p 0 p.funcs l (λ n f is. ap (slice_get p.funcs) (omega arith) ∙ is) c

-- ---- from the rules to the list

list_has : (p : PProgram) (func n : ℕ) (funcs : List PFunc) (f : PFunc) (l : Link) → slice_get funcs n ≡ Some f → Contains (body_links p (func + n) f.body) l → Contains (links_from p func funcs) l
list_has p func n [] f l there c = absurd (none_some there)
  where
    none_some : {A : Type 0} {x : A} → None ≡ Some x → ⊥
    none_some e = cc
list_has p func zero (g ∷ funcs) f l there c =
    let same : g ≡ f = cc in
    Contains-append_left (body_links p func g.body) (links_from p (suc func) funcs) l (subst (λ (h : PFunc). Contains (body_links p func h.body) l) (sym same) (subst (λ k. Contains (body_links p k f.body) l) (omega arith) c))
list_has p func (suc n) (g ∷ funcs) f l there c =
    Contains-append_right (body_links p func g.body) (links_from p (suc func) funcs) l (list_has p (suc func) n funcs f l there (subst (λ k. Contains (body_links p k f.body) l) (omega arith) c))

stands_has : (p : PProgram) (func : ℕ) (kind : PKind) (l : Link) → Stands p func kind → Contains (own_links p func kind) l → Contains (links_from p 0 p.funcs) l
stands_has p func kind l s c =
    list_has p 0 func p.funcs s.f l s.there (subst (λ k. Contains (body_links p k s.f.body) l) (omega arith)
    (contains-into (λ (t : PStmt). own_links p func t.kind) (statements s.f.body) (statement s.at kind) l s.stands c))

flow_has : (func n : ℕ) (o : Option ℕ) (to : Var) → o ≡ Some n → Contains (flow_from func o to) (Flows (var func n) to)
flow_has func n o to is = subst (λ (q : Option ℕ). Contains (flow_from func q to) (Flows (var func n) to)) (sym is) (here (Flows (var func n) to))

stored_has : (func base field n : ℕ) (o : Option ℕ) → o ≡ Some n → Contains (stored_from func base field o) (Accesses (var func base) field (var func n))
stored_has func base field n o is = subst (λ (q : Option ℕ). Contains (stored_from func base field q) (Accesses (var func base) field (var func n))) (sym is) (here (Accesses (var func base) field (var func n)))

passed_has : (func callee count i n : ℕ) (args : List PExpr) (e : PExpr) → i < count → slice_get args i ≡ Some e → root e ≡ Some n → Contains (passed_to func callee count args) (Flows (var func n) (var callee i))
passed_has func callee zero i n args e low at is = absurd (omega (arith, low))
passed_has func callee (suc j) i n args e low at is = elim (cases_eq i j) [
  | inl same ↦
      Contains-append_right (passed_to func callee j args) (passed_from func callee j (slice_get args j)) (Flows (var func n) (var callee i))
      (subst (λ k. Contains (passed_from func callee k (slice_get args k)) (Flows (var func n) (var callee i))) same
      (subst (λ (o : Option PExpr). Contains (passed_from func callee i o) (Flows (var func n) (var callee i))) (sym at) (flow_has func n (root e) (var callee i) is)))
  | inr other ↦
      Contains-append_left (passed_to func callee j args) (passed_from func callee j (slice_get args j)) (Flows (var func n) (var callee i)) (passed_has func callee j i n args e (omega (arith, low, other)) at is)
]

pub flow_listed : (p : PProgram) (a b : Var) → Flow p a b → Contains (links_from p 0 p.funcs) (Flows a b)
flow_listed p _ _ (assigned {func = func} {to = to} {n = n} {e = e} s is) = stands_has p func (Set to e) _ s (flow_has func n (root e) (var func to) is)
flow_listed p _ _ (passed {func = func} {callee = callee} {i = i} {n = n} {to = to} {args = args} {e = e} s low at is) =
    stands_has p func (Call to callee args) _ s (Contains-append_left (passed_to func callee (param_count (slice_get p.funcs callee)) args) (given_to p func callee to) _ (passed_has func callee _ i n args e low at is))
flow_listed p _ _ (returned {func = func} {n = n} {e = e} s is) = stands_has p func (Return (Some e)) _ s (flow_has func n (root e) (result_in p func) is)
flow_listed p _ _ (given {func = func} {callee = callee} {to = to} {args = args} s) =
    stands_has p func (Call (Some to) callee args) _ s (Contains-append_right (passed_to func callee (param_count (slice_get p.funcs callee)) args) (given_to p func callee (Some to)) _ (here _))

pub access_listed : (p : PProgram) (a b : Var) (field : ℕ) → Access p a field b → Contains (links_from p 0 p.funcs) (Accesses a field b)
access_listed p _ _ _ (loaded {func = func} {to = to} {base = base} {field = field} {index = index} s) = stands_has p func (Load to base index field) _ s (here _)
access_listed p _ _ _ (stored {func = func} {base = base} {field = field} {n = n} {index = index} {e = e} s is) = stands_has p func (Store base index field e) _ s (stored_has func base field n (root e) is)
