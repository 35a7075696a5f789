-- The least fault over statements, from that of their parts.
use Rattle.std.proofs.Common.{◌≡◌, ℕ, ℤ, ◌+◌, ◌<◌, ◌≤◌, List, [], ◌∷◌, ◌++◌, length, get_or, drop, Option, ap, sym, ◌∙◌}
use Rattle.std.specs.List.{flat_map}
use Rattle.std.proofs.lemmas.List.{drop_more, drop_all}
use Rattle.lq_tree.specs.declared.place.Place.{Place}
use Rattle.lq_tree.specs.declared.expr.Expr.{Expr}
use Rattle.lq_tree.specs.declared.stmt.Stmt.{Stmt}
use Rattle.lq_tree.specs.declared.stmt.Arm.{Arm}
use Rattle.lq_tree.specs.declared.stmt.StmtKind.{StmtKind, If, While, For, Foreach, out-StmtKind}
use Rattle.lq_names.specs.declared.fault.Fault.{Fault}
use Rattle.lq_names.specs.Scopes.{Site}
use Rattle.lq_names.specs.Sites.{Placed, sites, sites_list, sites_of, sites_of_bodies, sites_of_other, after, after_other, iteration}
use Rattle.lq_names.specs.Faults.{gathered, noted, statement_rules}
use Rattle.lq_names.proofs.LeastLaws.{gathered_append, gathered_more, gathered_none}
use Rattle.lq_names.proofs.SiteLaws.{placed, sites_if, sites_while, sites_for, sites_foreach}

-- a walk over parts beside each other, one more on; `last` is what all give
pub part_more : {A : Type 0} (f : A → List Placed) (found last next : Option Fault) (xs : List A) (i : ℕ) (x : A) → i < length xs → x ≡ get_or xs i x
    → gathered found (flat_map f (drop i xs)) ≡ last → next ≡ gathered found (f x) → gathered next (flat_map f (drop (i + 1) xs)) ≡ last
part_more f found last next xs i x lt is so_far at_next =
    ap (λ (o : Option Fault). gathered o (flat_map f (drop (i + 1) xs))) at_next
    ∙ sym (gathered_append found (f x) (flat_map f (drop (i + 1) xs)))
    ∙ ap (λ y. gathered found (flat_map f (y ∷ drop (i + 1) xs))) is
    ∙ ap (λ ys. gathered found (flat_map f ys)) (sym (drop_more xs i x lt))
    ∙ so_far

pub parts_end : {A : Type 0} (f : A → List Placed) (found last : Option Fault) (xs : List A) (i : ℕ) → length xs ≤ i → gathered found (flat_map f (drop i xs)) ≡ last → found ≡ last
parts_end f found last xs i ge so_far = sym (gathered_none found) ∙ ap (λ ys. gathered found (flat_map f ys)) (sym (drop_all i xs ge)) ∙ so_far

-- a walk over statements one after another, one more on
pub stmt_more : (s : Site) (found last next : Option Fault) (body : List Stmt) (i : ℕ) (x : Stmt) → i < length body → x ≡ get_or body i x
    → gathered found (sites_list s (drop i body)) ≡ last → next ≡ gathered found (sites_of s x) → gathered next (sites_list (after s x.kind) (drop (i + 1) body)) ≡ last
stmt_more s found last next body i x lt is so_far at_next =
    ap (λ (o : Option Fault). gathered o (sites_list (after s x.kind) (drop (i + 1) body))) at_next
    ∙ sym (gathered_append found (sites_of s x) (sites_list (after s x.kind) (drop (i + 1) body)))
    ∙ ap (λ (y : Stmt). gathered found (sites_list s (y ∷ drop (i + 1) body))) is
    ∙ ap (λ (ys : List Stmt). gathered found (sites_list s ys)) (sym (drop_more body i x lt))
    ∙ so_far

pub stmts_end : (s : Site) (found last : Option Fault) (body : List Stmt) (i : ℕ) → length body ≤ i → gathered found (sites_list s (drop i body)) ≡ last → found ≡ last
stmts_end s found last body i ge so_far = sym (gathered_none found) ∙ ap (λ (ys : List Stmt). gathered found (sites_list s ys)) (sym (drop_all i body ge)) ∙ so_far

module _ (s : Site) (at : Place) (found : Option Fault) (kind : StmtKind) where
  own : (first : Option Fault) (rest : List Placed) → first ≡ noted at found (statement_rules s (out-StmtKind kind)) → gathered found (placed s at kind ∷ rest) ≡ gathered first rest
  own first rest is = gathered_more found (placed s at kind) rest ∙ ap (λ (o : Option Fault). gathered o rest) (sym is)

  pub alone : (first : Option Fault) → sites s at kind ≡ placed s at kind ∷ [] → first ≡ noted at found (statement_rules s (out-StmtKind kind)) → first ≡ gathered found (sites s at kind)
  alone first is at_first = sym (ap (gathered found) is ∙ own first [] at_first ∙ gathered_none first)

  pub in_while : (e : Expr) (body : Stmt) (first last : Option Fault) → kind ≡ While e body → first ≡ noted at found (statement_rules s (out-StmtKind kind))
      → last ≡ gathered first (sites_of s body) → last ≡ gathered found (sites s at kind)
  in_while e body first last is at_first at_last =
      at_last ∙ sym (ap (λ (k : StmtKind). gathered found (sites s at k)) is ∙ ap (gathered found) (sites_while s at e body)
      ∙ ap (λ (k : StmtKind). gathered found (placed s at k ∷ sites_of s body)) (sym is) ∙ own first (sites_of s body) at_first)

  pub in_foreach : (index : List ℕ) (low high : Expr) (step : ℤ) (body : Stmt) (first last : Option Fault) → kind ≡ Foreach index low high step body → first ≡ noted at found (statement_rules s (out-StmtKind kind))
      → last ≡ gathered first (sites_of (iteration s index) body) → last ≡ gathered found (sites s at kind)
  in_foreach index low high step body first last is at_first at_last =
      at_last ∙ sym (ap (λ (k : StmtKind). gathered found (sites s at k)) is ∙ ap (gathered found) (sites_foreach s at index low high step body)
      ∙ ap (λ (k : StmtKind). gathered found (placed s at k ∷ sites_of (iteration s index) body)) (sym is) ∙ own first (sites_of (iteration s index) body) at_first)

  pub in_if : (arms : List Arm) (other : Option Stmt) (first next last : Option Fault) → kind ≡ If arms other → first ≡ noted at found (statement_rules s (out-StmtKind kind))
      → next ≡ gathered first (sites_of_bodies s arms) → last ≡ gathered next (sites_of_other s other) → last ≡ gathered found (sites s at kind)
  in_if arms other first next last is at_first at_next at_last =
      let rest = sites_of_bodies s arms ++ sites_of_other s other in
      at_last ∙ ap (λ (o : Option Fault). gathered o (sites_of_other s other)) at_next
      ∙ sym (ap (λ (k : StmtKind). gathered found (sites s at k)) is ∙ ap (gathered found) (sites_if s at arms other)
      ∙ ap (λ (k : StmtKind). gathered found (placed s at k ∷ rest)) (sym is) ∙ own first rest at_first ∙ gathered_append first (sites_of_bodies s arms) (sites_of_other s other))

-- a `for`: its first part, itself with that in scope, and then the others
pub in_for : (s : Site) (at : Place) (found : Option Fault) (kind : StmtKind) (start : Option Stmt) (e : Option Expr) (third : Option Stmt) (body : Stmt) (first second next last : Option Fault) → kind ≡ For start e third body
    → first ≡ gathered found (sites_of_other s start) → second ≡ noted at first (statement_rules (after_other s start) (out-StmtKind kind))
    → next ≡ gathered second (sites_of_other (after_other s start) third) → last ≡ gathered next (sites_of (after_other s start) body) → last ≡ gathered found (sites s at kind)
in_for s at found kind start e third body first second next last is at_first at_second at_next at_last =
    let inner = after_other s start in
    let rest = sites_of_other inner third ++ sites_of inner body in
    at_last ∙ ap (λ (o : Option Fault). gathered o (sites_of inner body)) at_next
    ∙ sym (gathered_append second (sites_of_other inner third) (sites_of inner body))
    ∙ sym (own inner at first kind second rest at_second)
    ∙ ap (λ (o : Option Fault). gathered o (placed inner at kind ∷ rest)) at_first
    ∙ sym (gathered_append found (sites_of_other s start) (placed inner at kind ∷ rest))
    ∙ ap (λ (k : StmtKind). gathered found (sites_of_other s start ++ (placed inner at k ∷ rest))) is
    ∙ ap (gathered found) (sym (sites_for s at start e third body))
    ∙ ap (λ (k : StmtKind). gathered found (sites s at k)) (sym is)
