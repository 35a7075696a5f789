-- What statements do, list by list; and that it says which slots they assign and which accesses they make.
use Rattle.std.proofs.Common.{◌≡◌, ℕ, Bool, true, false, ◌||◌, List, [], ◌∷◌, ◌++◌, None, Some, refl, ap, ap₂, sym, ◌∙◌, append_assoc}
use Rattle.std.specs.List.{flat_map, list_any}
use Rattle.std.proofs.lemmas.List.Concat.{flat_map-append}
use Rattle.lq_tree.specs.declared.plain.PKind.{PKind, Set, Load, Store, Calloc, Call, If', While', Cobegin', Foreach, Print, Return}
use Rattle.lq_tree.specs.declared.plain.PStmt.{PStmt}
use Rattle.lq_tree.specs.declared.plain.Branch.{Branch, out-Branch}
use Rattle.lq_tree.specs.PlainWalk.{inside, within_branch, statements, targets}
use Rattle.lq_templates.specs.declared.touches.Touch.{Touch}
use Rattle.lq_templates.specs.Accesses.{Access, makes, make}
use Rattle.lq_templates.specs.Touches.{own_touches, each_touches, body_touches, assigned, touch_makes, touches_make}
use Rattle.lq_templates.proofs.Inside.{within_branch-out}

pub each-append : (class_at : ℕ → ℕ) (xs ys : List PStmt) → each_touches class_at (xs ++ ys) ≡ each_touches class_at xs ++ each_touches class_at ys
each-append class_at xs ys = flat_map-append (λ (s : PStmt). own_touches class_at s.kind) xs ys

pub body-append : (class_at : ℕ → ℕ) (xs ys : List PStmt) → body_touches class_at (xs ++ ys) ≡ body_touches class_at xs ++ body_touches class_at ys
body-append class_at xs ys = ap (each_touches class_at) (flat_map-append (λ (s : PStmt). s ∷ inside s.kind) xs ys) ∙ each-append class_at (statements xs) (statements ys)

-- of a branch, whose body the code has as a slice
pub branch_does : (class_at : ℕ → ℕ) (b : Branch) (x : List PStmt) → x ≡ (out-Branch b).body → body_touches class_at x ≡ each_touches class_at (within_branch b)
branch_does class_at b x is = ap (body_touches class_at) is ∙ ap (each_touches class_at) (sym (within_branch-out b))

-- of branches
pub branches_do : (class_at : ℕ → ℕ) (blocks : List Branch) → each_touches class_at (flat_map within_branch blocks) ≡ flat_map (λ (b : Branch). each_touches class_at (within_branch b)) blocks
branches_do class_at [] = refl
branches_do class_at (b ∷ blocks) =
    each-append class_at (within_branch b) (flat_map within_branch blocks) ∙ ap (λ (xs : List Touch). each_touches class_at (within_branch b) ++ xs) (branches_do class_at blocks)

-- of a statement with one list inside
pub one_list : (class_at : ℕ → ℕ) (kind : PKind) (list : List PStmt) (old whole more : List Touch) → inside kind ≡ list
    → more ≡ each_touches class_at list → whole ≡ old ++ more → whole ≡ old ++ each_touches class_at (inside kind)
one_list class_at kind list old whole more is second all = all ∙ ap (λ (xs : List Touch). old ++ xs) (second ∙ ap (each_touches class_at) (sym is))

-- and with two
pub two_lists : (class_at : ℕ → ℕ) (kind : PKind) (body other x y : List PStmt) (old half whole : List Touch) → inside kind ≡ statements body ++ statements other → x ≡ body → y ≡ other
    → half ≡ old ++ body_touches class_at x → whole ≡ half ++ body_touches class_at y → whole ≡ old ++ each_touches class_at (inside kind)
two_lists class_at kind body other x y old half whole is left right second all =
    one_list class_at kind (statements body ++ statements other) old whole (body_touches class_at x ++ body_touches class_at y) is
    (ap₂ (λ (s t : List PStmt). body_touches class_at s ++ body_touches class_at t) left right ∙ sym (each-append class_at (statements body) (statements other)))
    (all ∙ ap (λ (zs : List Touch). zs ++ body_touches class_at y) second ∙ append_assoc old (body_touches class_at x) (body_touches class_at y))

-- ---- what they assign

own_assigns : (class_at : ℕ → ℕ) (kind : PKind) → flat_map assigned (own_touches class_at kind) ≡ targets kind
own_assigns class_at (Set to e) = refl
own_assigns class_at (Load to base index field) = refl
own_assigns class_at (Store base index field e) = refl
own_assigns class_at (Calloc to size type) = refl
own_assigns class_at (Call None function args) = refl
own_assigns class_at (Call (Some to) function args) = refl
own_assigns class_at (If' e n body m other) = refl
own_assigns class_at (While' n head e m body) = refl
own_assigns class_at (Cobegin' n blocks) = refl
own_assigns class_at (Foreach index low high step branch) = refl
own_assigns class_at (Print e) = refl
own_assigns class_at (Return e) = refl

pub each_assigns : (class_at : ℕ → ℕ) (list : List PStmt) → flat_map assigned (each_touches class_at list) ≡ flat_map (λ (s : PStmt). targets s.kind) list
each_assigns class_at [] = refl
each_assigns class_at (s ∷ list) =
    flat_map-append assigned (own_touches class_at s.kind) (each_touches class_at list) ∙ ap₂ (λ (xs ys : List ℕ). xs ++ ys) (own_assigns class_at s.kind) (each_assigns class_at list)

-- ---- which accesses they make

or-false : (b : Bool) → (b || false) ≡ b
or-false true = refl
or-false false = refl

or_assoc : (a b c : Bool) → ((a || b) || c) ≡ (a || (b || c))
or_assoc true b c = refl
or_assoc false b c = refl

any-append : {A : Type 0} (p : A → Bool) (xs ys : List A) → list_any p (xs ++ ys) ≡ (list_any p xs || list_any p ys)
any-append p [] ys = refl
any-append p (x ∷ xs) ys = ap (λ b. p x || b) (any-append p xs ys) ∙ sym (or_assoc (p x) (list_any p xs) (list_any p ys))

own_makes : (class_at : ℕ → ℕ) (by : ℕ → Access → Bool) (a : Access) (kind : PKind) → touches_make (λ n. by n a) a (own_touches class_at kind) ≡ makes class_at by a kind
own_makes class_at by a (Set to e) = refl
own_makes class_at by a (Load to base index field) = or-false (makes class_at by a (Load to base index field))
own_makes class_at by a (Store base index field e) = or-false (makes class_at by a (Store base index field e))
own_makes class_at by a (Calloc to size type) = refl
own_makes class_at by a (Call None function args) = or-false (by function a)
own_makes class_at by a (Call (Some to) function args) = or-false (by function a)
own_makes class_at by a (If' e n body m other) = refl
own_makes class_at by a (While' n head e m body) = refl
own_makes class_at by a (Cobegin' n blocks) = refl
own_makes class_at by a (Foreach index low high step branch) = refl
own_makes class_at by a (Print e) = refl
own_makes class_at by a (Return e) = refl

pub each_makes : (class_at : ℕ → ℕ) (by : ℕ → Access → Bool) (a : Access) (list : List PStmt) → touches_make (λ n. by n a) a (each_touches class_at list) ≡ make class_at by a list
each_makes class_at by a [] = refl
each_makes class_at by a (s ∷ list) =
    any-append (touch_makes (λ n. by n a) a) (own_touches class_at s.kind) (each_touches class_at list) ∙ ap₂ (λ x y. x || y) (own_makes class_at by a s.kind) (each_makes class_at by a list)
