-- A set of names that grows until it is closed.
use Rattle.std.proofs.Common.{◌≡◌, ℕ, ◌+◌, ◌<◌, ◌≤◌, Bool, true, false, not, ◌&&◌, ◌||◌, cond, List, [], ◌∷◌, ◌++◌, Option, None, Some, IsTrue, find, ◌⊎◌, refl, ap, sym, ◌∙◌, arith, inl, inr}
use Rattle.std.specs.List.{list_any}
use Rattle.std.proofs.lemmas.Bool.{cases_Bool, and_parts}
use Rattle.lq_names.proofs.AnyLaws.{or_false}
use Rattle.std.proofs.lemmas.List.Folds.{list_any-append}
use Rattle.std.proofs.lemmas.Cmp.{nat_list_eq_equiv}
use Rattle.std.specs.Cmp.Lexicographic.{same_text}
use Rattle.lq_tree.specs.declared.expr.Expr.{Expr, out-Expr}
use Rattle.lq_tree.specs.declared.expr.Expr.TheOpen as node
use Rattle.lq_tree.specs.declared.stmt.Arm.{Arm}
use Rattle.lq_tree.specs.declared.stmt.Stmt.{Stmt}
use Rattle.lq_tree.specs.declared.stmt.StmtKind.{StmtKind, out-StmtKind}
use Rattle.lq_tree.specs.declared.stmt.StmtKind.TheOpen as form
use Rattle.lq_names.specs.Rules.{Node}
use Rattle.lq_names.specs.Faults.{Form, condition, some_value}
use Rattle.lq_tree.specs.Walk.{nodes, statements}
use Rattle.lq_tree.specs.declared.program.Func.{Func}
use Rattle.lq_tree.specs.declared.program.Program.{Program}
use Rattle.lq_names.specs.declared.effects.Effect.{Effect}
use Rattle.lq_names.specs.Scopes.{same, function_of}
use Rattle.lq_names.specs.Seen.{is_among}
use Rattle.lq_names.specs.Calls.{IsClosed, IsLeast, is_missing, function_does, kind_does, expression_does, node_does, form_does}

-- how many functions are outside a set
abbrev pub outside : (List ℕ → Bool) → List Func → ℕ
outside set [] = 0
outside set (f ∷ fs) = cond (set f.name) (outside set fs) (outside set fs + 1)

or_more : (a b c d : Bool) → (a ≡ true → c ≡ true) → (b ≡ true → d ≡ true) → (a || b) ≡ true → (c || d) ≡ true
or_more true b c d f g h = ap (λ x. x || d) (f refl)
or_more false b true d f g h = refl
or_more false b false d f g h = g h

any_more : {A : Type 0} (p q : A → Bool) (xs : List A) → ((x : A) → p x ≡ true → q x ≡ true) → list_any p xs ≡ true → list_any q xs ≡ true
any_more p q [] f h = h
any_more p q (x ∷ xs) f h = or_more (p x) (list_any p xs) (q x) (list_any q xs) (f x) (any_more p q xs f) h

module _ (effect : Effect) (set other : List ℕ → Bool) (within : (name : List ℕ) → set name ≡ true → other name ≡ true) where
  node_more : (n : Node) → node_does effect set n ≡ true → node_does effect other n ≡ true
  node_more (node.Num n) h = h
  node_more (node.Var x) h = h
  node_more (node.Neg a) h = h
  node_more (node.Not a) h = h
  node_more (node.Bin o a b) h = h
  node_more (node.Index a b) h = h
  node_more (node.Deref a) h = h
  node_more (node.Arrow a x) h = h
  node_more (node.Dot a x) h = h
  node_more (node.Call f args) h = within f h
  node_more (node.Calloc a t) h = h

  expression_more : (e : Expr) → expression_does effect set e ≡ true → expression_does effect other e ≡ true
  expression_more e h = any_more (λ (n : Expr). node_does effect set (out-Expr n)) (λ (n : Expr). node_does effect other (out-Expr n)) (nodes e) (λ n. node_more (out-Expr n)) h

  form_more : (f : Form) → form_does effect set f ≡ true → form_does effect other f ≡ true
  form_more form.Empty h = h
  form_more (form.Block b) h = h
  form_more (form.Local t x e) h = h
  form_more (form.Set x e) h = h
  form_more (form.Store t e) h = h
  form_more (form.Call f args) h = within f h
  form_more (form.If a o) h = h
  form_more (form.While e b) h = h
  form_more (form.For a e t b) h = h
  form_more (form.Return e) h = h
  form_more (form.Print e) h = h
  form_more (form.Cobegin b) h = h
  form_more (form.Foreach i l u n b) h = h

  value_more : (f : Form) → some_value (expression_does effect set) f ≡ true → some_value (expression_does effect other) f ≡ true
  value_more form.Empty h = h
  value_more (form.Block b) h = h
  value_more (form.Local t x None) h = h
  value_more (form.Local t x (Some e)) h = expression_more e h
  value_more (form.Set x e) h = expression_more e h
  value_more (form.Store t e) h = or_more (expression_does effect set t) (expression_does effect set e) (expression_does effect other t) (expression_does effect other e) (expression_more t) (expression_more e) h
  value_more (form.Call f args) h = any_more (expression_does effect set) (expression_does effect other) args expression_more h
  value_more (form.If a o) h = any_more (λ (arm : Arm). expression_does effect set (condition arm)) (λ (arm : Arm). expression_does effect other (condition arm)) a (λ arm. expression_more (condition arm)) h
  value_more (form.While e b) h = expression_more e h
  value_more (form.For a None t b) h = h
  value_more (form.For a (Some e) t b) h = expression_more e h
  value_more (form.Return None) h = h
  value_more (form.Return (Some e)) h = expression_more e h
  value_more (form.Print e) h = expression_more e h
  value_more (form.Cobegin b) h = h
  value_more (form.Foreach i l u n b) h = or_more (expression_does effect set l) (expression_does effect set u) (expression_does effect other l) (expression_does effect other u) (expression_more l) (expression_more u) h

  kind_more : (kind : StmtKind) → kind_does effect set kind ≡ true → kind_does effect other kind ≡ true
  kind_more kind h =
      let f = out-StmtKind kind in
      or_more (form_does effect set f) (some_value (expression_does effect set) f) (form_does effect other f) (some_value (expression_does effect other) f) (form_more f) (value_more f) h

  function_more : (f : Option Func) → function_does effect set f ≡ true → function_does effect other f ≡ true
  function_more None h = h
  function_more (Some f) h = any_more (λ (s : Stmt). kind_does effect set s.kind) (λ (s : Stmt). kind_does effect other s.kind) (statements f.body) (λ s. kind_more s.kind) h

same_refl : (a : List ℕ) → same a a ≡ true
same_refl a = nat_list_eq_equiv.refl a

same_is : (a b : List ℕ) → same a b ≡ true → a ≡ b
same_is a b h = same_text a b (sym h)

find_yes : {A : Type 0} (q : A → Bool) (y : A) (ys : List A) → q y ≡ true → find q (y ∷ ys) ≡ Some y
find_yes q y ys h = ap (λ b. cond b (Some y) (find q ys)) h

find_no : {A : Type 0} (q : A → Bool) (y : A) (ys : List A) → q y ≡ false → find q (y ∷ ys) ≡ find q ys
find_no q y ys h = ap (λ b. cond b (Some y) (find q ys)) h

found_holds : {A : Type 0} (q : A → Bool) (xs : List A) (x : A) → find q xs ≡ Some x → q x ≡ true
found_holds q [] x h = cc
found_holds q (y ∷ ys) x h = elim (cases_Bool (q y)) [
  | inl is ↦ let e : y ≡ x = cc (find_yes q y ys is) in ap q (sym e) ∙ is
  | inr isnt ↦ found_holds q ys x (sym (find_no q y ys isnt) ∙ h)
]

none_holds : {A : Type 0} (p q : A → Bool) (xs : List A) (x : A) → find p xs ≡ None → find q xs ≡ Some x → p x ≡ false
none_holds p q [] x none h = cc
none_holds p q (y ∷ ys) x none h = elim (cases_Bool (p y)) [
  | inl is ↦ let e = find_yes p y ys is in cc
  | inr isnt ↦ elim (cases_Bool (q y)) [
    | inl hit ↦ let e : y ≡ x = cc (find_yes q y ys hit) in ap p (sym e) ∙ isnt
    | inr miss ↦ none_holds p q ys x (sym (find_no p y ys isnt) ∙ none) (sym (find_no q y ys miss) ∙ h)
  ]
]

-- a set with one name more
module _ (names : List (List ℕ)) (n : List ℕ) (next : List (List ℕ)) (added : next ≡ cond (is_among names n) names (names ++ (n ∷ []))) where
  was_there : is_among names n ≡ true → next ≡ names
  was_there h = added ∙ ap (λ b. cond b names (names ++ (n ∷ []))) h

  was_new : is_among names n ≡ false → next ≡ names ++ (n ∷ [])
  was_new h = added ∙ ap (λ b. cond b names (names ++ (n ∷ []))) h

  one_more_name : (m : List ℕ) → is_among (names ++ (n ∷ [])) m ≡ (is_among names m || (same m n || false))
  one_more_name m = list_any-append (λ other. same m other) names (n ∷ [])

  grown : (m : List ℕ) → is_among next m ≡ true → (is_among names m ≡ true) ⊎ (m ≡ n)
  grown m h = elim (cases_Bool (is_among names m)) [
    | inl old ↦ inl old
    | inr new ↦ elim (cases_Bool (is_among names n)) [
      | inl there ↦ inl (sym (ap (λ x. is_among x m) (was_there there)) ∙ h)
      | inr isnt ↦
          let e : (is_among names m || (same m n || false)) ≡ true = sym (one_more_name m) ∙ sym (ap (λ x. is_among x m) (was_new isnt)) ∙ h in
          let f : (same m n || false) ≡ true = sym (ap (λ b. b || (same m n || false)) new) ∙ e in
          inr (same_is m n (sym (or_false (same m n)) ∙ f))
    ]
  ]

  keeps : (m : List ℕ) → is_among names m ≡ true → is_among next m ≡ true
  keeps m h = elim (cases_Bool (is_among names n)) [
    | inl there ↦ ap (λ x. is_among x m) (was_there there) ∙ h
    | inr isnt ↦ ap (λ x. is_among x m) (was_new isnt) ∙ one_more_name m ∙ ap (λ b. b || (same m n || false)) h
  ]

  has : is_among next n ≡ true
  has = elim (cases_Bool (is_among names n)) [
    | inl there ↦ keeps n there
    | inr isnt ↦ ap (λ x. is_among x n) (was_new isnt) ∙ one_more_name n ∙ ap (λ b. b || (same n n || false)) isnt ∙ ap (λ b. b || false) (same_refl n)
  ]

outside_le : (set next : List ℕ → Bool) (fs : List Func) → ((m : List ℕ) → set m ≡ true → next m ≡ true) → outside next fs ≤ outside set fs
outside_le set next [] keep = omega arith
outside_le set next (f ∷ fs) keep = elim (cases_Bool (set f.name)) [
  | inl in_set ↦
      let a : outside set (f ∷ fs) ≡ outside set fs = ap (λ b. cond b (outside set fs) (outside set fs + 1)) in_set in
      let b : outside next (f ∷ fs) ≡ outside next fs = ap (λ b. cond b (outside next fs) (outside next fs + 1)) (keep f.name in_set) in
      omega (arith, outside_le set next fs keep, a, b)
  | inr out ↦
      let a : outside set (f ∷ fs) ≡ outside set fs + 1 = ap (λ b. cond b (outside set fs) (outside set fs + 1)) out in
      elim (cases_Bool (next f.name)) [
        | inl now ↦ let b : outside next (f ∷ fs) ≡ outside next fs = ap (λ b. cond b (outside next fs) (outside next fs + 1)) now in omega (arith, outside_le set next fs keep, a, b)
        | inr still ↦ let b : outside next (f ∷ fs) ≡ outside next fs + 1 = ap (λ b. cond b (outside next fs) (outside next fs + 1)) still in omega (arith, outside_le set next fs keep, a, b)
      ]
]

outside_less : (set next : List ℕ → Bool) (p : Func → Bool) (fs : List Func) (g : Func) → ((m : List ℕ) → set m ≡ true → next m ≡ true) → find p fs ≡ Some g → set g.name ≡ false → next g.name ≡ true
    → outside next fs < outside set fs
outside_less set next p [] g keep at out now = cc
outside_less set next p (f ∷ fs) g keep at out now = elim (cases_Bool (p f)) [
  | inl is ↦
      let e : f ≡ g = cc (find_yes p f fs is) in
      let a : outside set (f ∷ fs) ≡ outside set fs + 1 = ap (λ b. cond b (outside set fs) (outside set fs + 1)) (ap (λ (x : Func). set x.name) e ∙ out) in
      let b : outside next (f ∷ fs) ≡ outside next fs = ap (λ b. cond b (outside next fs) (outside next fs + 1)) (ap (λ (x : Func). next x.name) e ∙ now) in
      omega (arith, outside_le set next fs keep, a, b)
  | inr isnt ↦
      let inner = outside_less set next p fs g keep (sym (find_no p f fs isnt) ∙ at) out now in
      elim (cases_Bool (set f.name)) [
        | inl in_set ↦
            let a : outside set (f ∷ fs) ≡ outside set fs = ap (λ b. cond b (outside set fs) (outside set fs + 1)) in_set in
            let b : outside next (f ∷ fs) ≡ outside next fs = ap (λ b. cond b (outside next fs) (outside next fs + 1)) (keep f.name in_set) in
            omega (arith, inner, a, b)
        | inr off ↦
            let a : outside set (f ∷ fs) ≡ outside set fs + 1 = ap (λ b. cond b (outside set fs) (outside set fs + 1)) off in
            elim (cases_Bool (next f.name)) [
              | inl on ↦ let b : outside next (f ∷ fs) ≡ outside next fs = ap (λ b. cond b (outside next fs) (outside next fs + 1)) on in omega (arith, inner, a, b)
              | inr still ↦ let b : outside next (f ∷ fs) ≡ outside next fs + 1 = ap (λ b. cond b (outside next fs) (outside next fs + 1)) still in omega (arith, inner, a, b)
            ]
      ]
]

not_true : (b : Bool) → not b ≡ true → b ≡ false
not_true true h = cc
not_true false h = refl

module _ (p : Program) (effect : Effect) (names : List (List ℕ)) where
  missing : (f : Func) → find (is_missing p effect (is_among names)) p.funcs ≡ Some f → (is_among names f.name ≡ false) × (function_does effect (is_among names) (function_of p.funcs f.name) ≡ true)
  missing f at =
      let both = and_parts (not (is_among names f.name)) (function_does effect (is_among names) (function_of p.funcs f.name)) (found_holds (is_missing p effect (is_among names)) p.funcs f at) in
      (not_true (is_among names f.name) both.0, both.1)

  pub falls : (f : Func) (next : List (List ℕ)) → find (is_missing p effect (is_among names)) p.funcs ≡ Some f → next ≡ cond (is_among names f.name) names (names ++ (f.name ∷ [])) → outside (is_among next) p.funcs < outside (is_among names) p.funcs
  falls f next at added = outside_less (is_among names) (is_among next) (is_missing p effect (is_among names)) p.funcs f (keeps names f.name next added) at (missing f at).0 (has names f.name next added)

  pub stays_sound : (f : Func) (next : List (List ℕ)) → find (is_missing p effect (is_among names)) p.funcs ≡ Some f → next ≡ cond (is_among names f.name) names (names ++ (f.name ∷ []))
      → ((other : List ℕ → Bool) → IsClosed p effect other → (name : List ℕ) → IsTrue (is_among names name) → IsTrue (other name))
      → (other : List ℕ → Bool) → IsClosed p effect other → (name : List ℕ) → IsTrue (is_among next name) → IsTrue (other name)
  stays_sound f next at added sound other closed name h = elim (grown names f.name next added name h) [
    | inl old ↦ sound other closed name old
    | inr is ↦
        let here : other f.name ≡ true = closed f.name (function_more effect (is_among names) other (sound other closed) (function_of p.funcs f.name) (missing f at).1) in
        ap other is ∙ here
  ]

  closed_at : (name : List ℕ) (o : Option Func) → function_of p.funcs name ≡ o → find (is_missing p effect (is_among names)) p.funcs ≡ None → function_does effect (is_among names) (function_of p.funcs name) ≡ true → is_among names name ≡ true
  closed_at name None at none h = let e : function_does effect (is_among names) (function_of p.funcs name) ≡ false = ap (function_does effect (is_among names)) at in cc
  closed_at name (Some f) at none h =
      let named : f.name ≡ name = same_is f.name name (found_holds (λ (g : Func). same g.name name) p.funcs f at) in
      let absent : is_missing p effect (is_among names) f ≡ false = none_holds (is_missing p effect (is_among names)) (λ (g : Func). same g.name name) p.funcs f none at in
      let does : function_does effect (is_among names) (function_of p.funcs f.name) ≡ true = ap (λ (n : List ℕ). function_does effect (is_among names) (function_of p.funcs n)) named ∙ h in
      elim (cases_Bool (is_among names name)) [
        | inl there ↦ there
        | inr isnt ↦
            let a : is_among names f.name ≡ false = ap (is_among names) named ∙ isnt in
            let b : is_missing p effect (is_among names) f ≡ true = ap (λ x. not x && function_does effect (is_among names) (function_of p.funcs f.name)) a ∙ does in
            cc
      ]

  pub is_least : find (is_missing p effect (is_among names)) p.funcs ≡ None
      → ((other : List ℕ → Bool) → IsClosed p effect other → (name : List ℕ) → IsTrue (is_among names name) → IsTrue (other name)) → IsLeast p effect (is_among names)
  is_least none sound = record { closed = λ name h. closed_at name (function_of p.funcs name) refl none h; least = sound }
