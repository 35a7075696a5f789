-- The walk over a function's text, as the code keeps where it stands.
use Rattle.std.proofs.Common.{◌≡◌, ℕ, suc, ◌+◌, ◌-◌, ◌==◌, Bool, true, false, cond, not, ◌&&◌, ◌||◌, List, [], ◌∷◌, ◌++◌, length, take, filter, refl, ap, ap₂, sym, subst, ◌∙◌, arith, append-nil, append_assoc}
use Rattle.std.specs.List.{list_any}
use Rattle.std.proofs.Math.ListN.{length-append}
use Rattle.std.proofs.lemmas.Bool.{ne_eqb}
use Rattle.lq_tree.specs.declared.plain.PKind.{PKind, Set, Load, Store, Calloc, Call, If', While', Cobegin', Foreach, Print, Return, Row_of-Branch, end_of-Branch, more_of-Branch}
use Rattle.lq_tree.specs.declared.plain.PStmt.{PStmt}
use Rattle.lq_tree.specs.declared.plain.Branch.{Branch, Branch'}
use Rattle.lq_tree.specs.PlainScopes.{is_among}
use Rattle.lq_tree.specs.PlainWalk.{targets}
use Rattle.lq_templates.specs.Lives.{list_lives}
use Rattle.lq_templates.specs.Names.{marked}
use Rattle.lq_templates.specs.Spots.{Spot, join, loop, Walk, spot_at, where_changed, changed, assign, closed, with_index, walked, walked_branch, walked_branches, walked_all}
use Rattle.lq_templates.specs.Templates.{Env, spot_templates, count_scopes}
use Rattle.lq_ground.specs.declared.position.Position.{Position}
use Rattle.lq_ground.specs.Ground.{Ground, in_first, in_branch}
use Rattle.lq_ground.specs.Spots.{has_spot}
use Rattle.lq_ground.specs.Standing.{StandsAt, IsGround, Follows}
use Rattle.lq_ground.specs.Numbers.{count_effects}
use Rattle.lq_ground.proofs.EffectCounts.{spots-append, enters}
use Rattle.lq_ground.proofs.ScopeLemmas.{count-append, count-spot}

any-append : {A : Type 0} (p : A → Bool) (xs ys : List A) → list_any p (xs ++ ys) ≡ (list_any p xs || list_any p ys)
any-append p [] ys = refl
any-append p (x ∷ xs) ys = elim (p x) as (λ b. (b || list_any p (xs ++ ys)) ≡ ((b || list_any p xs) || list_any p ys)) [ true ↦ refl | false ↦ any-append p xs ys ]

among-push : (slots : List ℕ) (slot n : ℕ) → is_among (slots ++ slot ∷ []) n ≡ (is_among slots n || slot == n)
among-push slots slot n =
    any-append (λ m. m == n) slots (slot ∷ []) ∙ ap (λ b. is_among slots n || b) (elim (slot == n) as (λ b. (b || false) ≡ b) [ true ↦ refl | false ↦ refl ])

-- ---- a slot is assigned

walk_same : {a b s t : List ℕ} {ps qs : List Spot} → a ≡ b → s ≡ t → ps ≡ qs
    → (let r : Walk = record { assigned = a; scope = s; spots = ps } in let q : Walk = record { assigned = b; scope = t; spots = qs } in r ≡ q)
walk_same x y z = λ i. record { assigned = x i; scope = y i; spots = z i }

assign-nil : (w : Walk) (slots : List ℕ) → filter (λ n. not (is_among w.assigned n)) slots ≡ [] → assign slots w ≡ w
assign-nil w slots none =
    walk_same (ap (λ (new : List ℕ). w.assigned ++ new) none ∙ append-nil w.assigned) (ap (λ (new : List ℕ). w.scope ++ new) none ∙ append-nil w.scope) refl

-- no slot
pub assigns_none : (g : Ground) (at : Position) (w : Walk) (slots : List ℕ) → slots ≡ [] → StandsAt g at w → StandsAt g at (assign slots w)
assigns_none g at w slots none stands = subst (StandsAt g at) (sym (assign-nil w slots (ap (filter (λ n. not (is_among w.assigned n))) none))) stands

-- one that has been assigned
pub assigns_again : (g : Ground) (at : Position) (w : Walk) (slots : List ℕ) (slot : ℕ) → slots ≡ slot ∷ [] → marked at.assigned slot ≡ true → StandsAt g at w → StandsAt g at (assign slots w)
assigns_again g at w slots slot one known stands =
    subst (StandsAt g at) (sym (assign-nil w slots (ap (filter (λ n. not (is_among w.assigned n))) one
    ∙ ap (λ b. cond (not b) (slot ∷ []) []) (sym (stands.assigned slot) ∙ known)))) stands

-- a new one
pub assigns_new : (g : Ground) (old new : Position) (w : Walk) (slots : List ℕ) (slot : ℕ) → slots ≡ slot ∷ [] → marked old.assigned slot ≡ false
    → ((n : ℕ) → marked new.assigned n ≡ (marked old.assigned n || slot == n)) → new.scope ≡ old.scope ++ slot ∷ [] → new.scopes ≡ old.scopes → new.templates ≡ old.templates
    → StandsAt g old w → StandsAt g new (assign slots w)
assigns_new g old new w slots slot one unknown marks scope scopes templates stands =
    let fresh : filter (λ n. not (is_among w.assigned n)) slots ≡ slot ∷ [] =
    ap (filter (λ n. not (is_among w.assigned n))) one ∙ ap (λ b. cond (not b) (slot ∷ []) []) (sym (stands.assigned slot) ∙ unknown) in
    record {
      assigned = λ n. marks n ∙ ap (λ b. b || slot == n) (stands.assigned n) ∙ sym (among-push w.assigned slot n) ∙ ap (λ (more : List ℕ). is_among (w.assigned ++ more) n) (sym fresh);
      scope = scope ∙ ap₂ (λ (xs ys : List ℕ). xs ++ ys) stands.scope (sym fresh);
      scopes = scopes ∙ stands.scopes;
      templates = templates ∙ stands.templates;
    }

-- ---- spots

length-joins : (env : Env) (s : ℕ) (scope changed : List ℕ) → length (spot_templates env s (where_changed (λ c. join c scope) changed)) ≡ length (where_changed (λ c. join c scope) changed)
length-joins env s scope [] = refl
length-joins env s scope (n ∷ changed) = refl

length-loops : (env : Env) (s : ℕ) (scope changed : List ℕ) → length (spot_templates env s (where_changed (λ c. loop c scope) changed)) ≡ length (where_changed (λ c. loop c scope) changed)
length-loops env s scope [] = refl
length-loops env s scope (n ∷ changed) = refl

-- the spot of a statement has one template
length-spot : (env : Env) (s : ℕ) (scope : List ℕ) (kind : PKind) → length (spot_templates env s (spot_at scope kind)) ≡ length (spot_at scope kind)
length-spot env s scope (If' e n body m other) =
    let there = where_changed (λ c. join c scope) (changed scope (If' e n body m other)) in
    elim (list_lives body && list_lives other) as (λ b. length (spot_templates env s (cond b there [])) ≡ length (cond b there [])) [
      | true ↦ length-joins env s scope (changed scope (If' e n body m other))
      | false ↦ refl
    ]
length-spot env s scope (While' n head e m body) = length-loops env s scope (changed scope (While' n head e m body))
length-spot env s scope (Set to e) = refl
length-spot env s scope (Load to base index field) = refl
length-spot env s scope (Store base index field e) = refl
length-spot env s scope (Calloc to size type) = refl
length-spot env s scope (Call to function args) = refl
length-spot env s scope (Cobegin' n blocks) = refl
length-spot env s scope (Foreach index low high step branch) = refl
length-spot env s scope (Print e) = refl
length-spot env s scope (Return e) = refl

pub enters_first : (g : Ground) (old new : Position) (w : Walk) (kind : PKind) (spots : ℕ) → new.assigned ≡ old.assigned → new.scope ≡ old.scope → new.scopes ≡ old.scopes
    → new.templates ≡ old.templates + spots → spots ≡ length (spot_at w.scope kind) → StandsAt g old w → StandsAt g new (in_first kind w)
enters_first g old new w kind spots assigned scope scopes templates count stands =
    let none = count-spot w.scope kind in
    let both = count-append w.spots (spot_at w.scope kind) in
    let before = stands.scopes in
    let listed = ap length (spots-append g.env (suc g.scope) w.spots (spot_at w.scope kind)) in
    let parts = length-append (spot_templates g.env (suc g.scope) w.spots) (spot_templates g.env (suc g.scope + count_scopes w.spots) (spot_at w.scope kind)) in
    let one = length-spot g.env (suc g.scope + count_scopes w.spots) w.scope kind in
    let past = stands.templates in
    record {
      assigned = λ n. ap (λ (bs : List Bool). marked bs n) assigned ∙ stands.assigned n;
      scope = scope ∙ stands.scope;
      scopes = omega (arith, scopes, before, none, both);
      templates = omega (arith, templates, count, past, listed, parts, one);
    }

-- how many spots a statement is
length-where : (spot : List ℕ → Spot) (slots : List ℕ) → cond (not (length slots == 0)) 1 0 ≡ length (where_changed spot slots)
length-where spot [] = refl
length-where spot (n ∷ slots) = let some : (suc (length slots) == 0) ≡ false = ne_eqb (suc (length slots)) 0 (omega arith) in ap (λ (b : Bool). cond (not b) 1 0) some

pub length-spot_at : (scope : List ℕ) (kind : PKind) → cond (has_spot kind && not (length (changed scope kind) == 0)) 1 0 ≡ length (spot_at scope kind)
length-spot_at scope (If' e n body m other) =
    let slots = changed scope (If' e n body m other) in
    elim (list_lives body && list_lives other) as (λ lives. cond (lives && not (length slots == 0)) 1 0 ≡ length (cond lives (where_changed (λ c. join c scope) slots) [])) [
      | true ↦ length-where (λ c. join c scope) slots
      | false ↦ refl
    ]
length-spot_at scope (While' n head e m body) = length-where (λ c. loop c scope) (changed scope (While' n head e m body))
length-spot_at scope (Set to e) = refl
length-spot_at scope (Load to base index field) = refl
length-spot_at scope (Store base index field e) = refl
length-spot_at scope (Calloc to size type) = refl
length-spot_at scope (Call to function args) = refl
length-spot_at scope (Cobegin' n blocks) = refl
length-spot_at scope (Foreach index low high step branch) = refl
length-spot_at scope (Print e) = refl
length-spot_at scope (Return e) = refl

pub counts_spots : (scope slots : List ℕ) (kind : PKind) (spot empty : Bool) (count : ℕ) → spot ≡ has_spot kind → empty ≡ (length slots == 0) → slots ≡ changed scope kind → count ≡ cond (spot && not empty) 1 0 → count ≡ length (spot_at scope kind)
counts_spots scope slots kind spot empty count is_spot is_empty are counted =
    counted ∙ ap₂ (λ a b. cond (a && not b) 1 0) is_spot (is_empty ∙ ap (λ (xs : List ℕ). length xs == 0) are) ∙ length-spot_at scope kind

-- ---- behind a list

-- the slots in scope stay, and others may follow
record Extends (scope longer : List ℕ) : Type 0 where
  more : List ℕ
  whole : longer ≡ scope ++ more

extends_same : (scope : List ℕ) → Extends scope scope
extends_same scope = record { more = []; whole = sym (append-nil scope) }

extends_again : (a b c : List ℕ) → Extends a b → Extends b c → Extends a c
extends_again a b c first second = record { more = first.more ++ second.more; whole = second.whole ∙ ap (λ (xs : List ℕ). xs ++ second.more) first.whole ∙ append_assoc a first.more second.more }

branch_scope : (b : Branch) (w : Walk) → (walked_branch b w).scope ≡ w.scope
branch_scope (Branch' at n body) w = refl

branches_scope : {n : _} (blocks : Row_of-Branch n) (w : Walk) → (walked_branches blocks w).scope ≡ w.scope
branches_scope end_of-Branch w = refl
branches_scope (more_of-Branch b rest) w = branches_scope rest (walked_branch b w) ∙ branch_scope b w

assigned_scope : (slots : List ℕ) (w : Walk) → Extends w.scope (assign slots w).scope
assigned_scope slots w = record { more = filter (λ n. not (is_among w.assigned n)) slots; whole = refl }

walked_scope : (kind : PKind) (w : Walk) → Extends w.scope (walked kind w).scope
walked_scope (If' e n body m other) w = extends_same w.scope
walked_scope (While' n head e m body) w = extends_same w.scope
walked_scope (Cobegin' n blocks) w = subst (Extends w.scope) (sym (branches_scope blocks w)) (extends_same w.scope)
walked_scope (Foreach index low high step branch) w = extends_same w.scope
walked_scope (Set to e) w = assigned_scope (targets (Set to e)) w
walked_scope (Load to base index field) w = assigned_scope (targets (Load to base index field)) w
walked_scope (Store base index field e) w = assigned_scope (targets (Store base index field e)) w
walked_scope (Calloc to size type) w = assigned_scope (targets (Calloc to size type)) w
walked_scope (Call to function args) w = assigned_scope (targets (Call to function args)) w
walked_scope (Print e) w = assigned_scope (targets (Print e)) w
walked_scope (Return e) w = assigned_scope (targets (Return e)) w

all_scope : (list : List PStmt) (w : Walk) → Extends w.scope (walked_all list w).scope
all_scope [] w = extends_same w.scope
all_scope (s ∷ list) w = extends_again w.scope (walked s.kind w).scope (walked_all list (walked s.kind w)).scope (walked_scope s.kind w) (all_scope list (walked s.kind w))

take-front : (xs ys : List ℕ) → take (length xs) (xs ++ ys) ≡ xs
take-front [] ys = refl
take-front (x ∷ xs) ys = ap (λ zs. x ∷ zs) (take-front xs ys)

pub leaves : (g : Ground) (old new : Position) (w : Walk) (list : List PStmt) (width : ℕ) → new.assigned ≡ old.assigned → new.scopes ≡ old.scopes → new.templates ≡ old.templates
    → new.scope ≡ take width old.scope → width ≡ length w.scope → StandsAt g old (walked_all list w) → StandsAt g new (closed w (walked_all list w))
leaves g old new w list width assigned scopes templates scope count stands =
    let further = all_scope list w in
    record {
      assigned = λ n. ap (λ (bs : List Bool). marked bs n) assigned ∙ stands.assigned n;
      scope = scope ∙ ap₂ (λ n (xs : List ℕ). take n xs) count (stands.scope ∙ further.whole) ∙ take-front w.scope further.more;
      scopes = scopes ∙ stands.scopes;
      templates = templates ∙ stands.templates;
    }

-- behind the branch of a Foreach
pub leaves_index : (g : Ground) (old new : Position) (w : Walk) (b : Branch) (index : ℕ) → new.assigned ≡ old.assigned → new.scopes ≡ old.scopes → new.templates ≡ old.templates
    → new.scope ≡ take (length old.scope - 1) old.scope → StandsAt g old (walked_branch b (with_index index w)) → StandsAt g new (closed w (walked_branch b (with_index index w)))
leaves_index g old new w b index assigned scopes templates scope stands =
    let there : old.scope ≡ w.scope ++ index ∷ [] = stands.scope ∙ branch_scope b (with_index index w) in
    let whole = ap length there in
    let parts = length-append w.scope (index ∷ []) in
    let count : length old.scope - 1 ≡ length w.scope = omega (arith, whole, parts) in
    record {
      assigned = λ n. ap (λ (bs : List Bool). marked bs n) assigned ∙ stands.assigned n;
      scope = scope ∙ ap₂ (λ n (xs : List ℕ). take n xs) count there ∙ take-front w.scope (index ∷ []);
      scopes = scopes ∙ stands.scopes;
      templates = templates ∙ stands.templates;
    }

-- ---- a branch

pub enters_branch : (g : Ground) (old new : Position) (w : Walk) (b : Branch) (effects : ℕ) → IsGround g → Follows g (in_branch b w) → new.assigned ≡ old.assigned → new.scope ≡ old.scope
    → new.scopes ≡ old.scopes + 1 → new.templates ≡ old.templates + effects → effects ≡ count_effects (suc (g.scope + old.scopes)) g.templates
    → StandsAt g old w → StandsAt g new (in_branch b w)
enters_branch g old new w b effects is follows assigned scope scopes templates count stands =
    let entered = enters g b w is follows in
    let past = stands.templates in
    let here : effects ≡ count_effects (suc (g.scope + count_scopes w.spots)) g.templates = count ∙ ap (λ n. count_effects (suc (g.scope + n)) g.templates) stands.scopes in
    let more = entered.templates in
    record {
      assigned = λ n. ap (λ (bs : List Bool). marked bs n) assigned ∙ stands.assigned n ∙ ap (λ (slots : List ℕ). is_among slots n) (sym entered.assigned);
      scope = scope ∙ stands.scope ∙ sym entered.scope;
      scopes = scopes ∙ ap (λ n. n + 1) stands.scopes ∙ sym entered.scopes;
      templates = omega (arith, templates, past, here, more);
    }
