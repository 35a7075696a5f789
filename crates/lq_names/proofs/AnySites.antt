-- A test of the statements of a function, over its sites.
use Rattle.std.proofs.Common.{◌≡◌, ℕ, ℤ, ◌+◌, ◌<◌, Bool, ◌||◌, List, [], ◌∷◌, ◌++◌, length, get_or, take, Option, ap, sym, ◌∙◌}
use Rattle.std.specs.List.{list_any, flat_map}
use Rattle.std.proofs.lemmas.List.{append-nil, take_more}
use Rattle.std.proofs.lemmas.List.Folds.{list_any-append}
use Rattle.lq_tree.specs.declared.place.Place.{Place}
use Rattle.lq_tree.specs.declared.expr.Expr.{Expr}
use Rattle.lq_tree.specs.declared.stmt.Stmt.{Stmt}
use Rattle.lq_tree.specs.declared.stmt.Arm.{Arm}
use Rattle.lq_tree.specs.declared.stmt.StmtKind.{StmtKind, Block, If, While, For, Cobegin, Foreach}
use Rattle.lq_names.specs.Scopes.{Site, in_parallel}
use Rattle.lq_names.specs.Sites.{Placed, sites, sites_list, sites_of, sites_beside, sites_of_bodies, sites_of_other, after, after_other, iteration}
use Rattle.lq_names.proofs.SiteLaws.{placed, sites_block, sites_cobegin, sites_if, sites_while, sites_for, sites_foreach}
use Rattle.lq_names.proofs.AnyLaws.{or_assoc, or_false}

module _ (test : StmtKind → Bool) where
  at_kind : Placed → Bool
  at_kind p = test p.kind

  abbrev pub some : List Placed → Bool
  some ps = list_any (λ (p : Placed). test p.kind) ps

  both : (a b : List Placed) → some (a ++ b) ≡ (some a || some b)
  both a b = list_any-append (λ (p : Placed). test p.kind) a b

  pub some_alone : (s : Site) (at : Place) (kind : StmtKind) (own : Bool) → sites s at kind ≡ placed s at kind ∷ [] → own ≡ test kind → own ≡ some (sites s at kind)
  some_alone s at kind own is at_own = at_own ∙ sym (or_false (test kind)) ∙ ap some (sym is)

  pub some_block : (s : Site) (at : Place) (kind : StmtKind) (body : List Stmt) (last : Bool) → kind ≡ Block body → last ≡ some (sites_list s body) → last ≡ some (sites s at kind)
  some_block s at kind body last is at_last = at_last ∙ ap some (sym (ap (λ (k : StmtKind). sites s at k) is ∙ sites_block s at body))

  pub some_cobegin : (s : Site) (at : Place) (kind : StmtKind) (body : List Stmt) (last : Bool) → kind ≡ Cobegin body → last ≡ some (sites_beside (in_parallel s) body) → last ≡ some (sites s at kind)
  some_cobegin s at kind body last is at_last = at_last ∙ ap some (sym (ap (λ (k : StmtKind). sites s at k) is ∙ sites_cobegin s at body))

  pub some_while : (s : Site) (at : Place) (kind : StmtKind) (e : Expr) (body : Stmt) (own r : Bool) → kind ≡ While e body → own ≡ test kind → r ≡ some (sites_of s body) → (own || r) ≡ some (sites s at kind)
  some_while s at kind e body own r is at_own at_r =
      ap (λ b. b || r) (at_own ∙ ap test is) ∙ ap (λ b. test (While e body) || b) at_r ∙ ap some (sym (ap (λ (k : StmtKind). sites s at k) is ∙ sites_while s at e body))

  pub some_foreach : (s : Site) (at : Place) (kind : StmtKind) (index : List ℕ) (low high : Expr) (step : ℤ) (body : Stmt) (own r : Bool) → kind ≡ Foreach index low high step body → own ≡ test kind → r ≡ some (sites_of (iteration s index) body)
      → (own || r) ≡ some (sites s at kind)
  some_foreach s at kind index low high step body own r is at_own at_r =
      ap (λ b. b || r) (at_own ∙ ap test is) ∙ ap (λ b. test (Foreach index low high step body) || b) at_r ∙ ap some (sym (ap (λ (k : StmtKind). sites s at k) is ∙ sites_foreach s at index low high step body))

  pub some_if : (s : Site) (at : Place) (kind : StmtKind) (arms : List Arm) (other : Option Stmt) (own r q : Bool) → kind ≡ If arms other → own ≡ test kind → r ≡ some (sites_of_bodies s arms) → q ≡ some (sites_of_other s other)
      → ((own || r) || q) ≡ some (sites s at kind)
  some_if s at kind arms other own r q is at_own at_r at_q =
      or_assoc own r q ∙ ap (λ b. b || (r || q)) (at_own ∙ ap test is) ∙ ap (λ b. test (If arms other) || (b || q)) at_r ∙ ap (λ b. test (If arms other) || (some (sites_of_bodies s arms) || b)) at_q
      ∙ ap (λ b. test (If arms other) || b) (sym (both (sites_of_bodies s arms) (sites_of_other s other)))
      ∙ ap some (sym (ap (λ (k : StmtKind). sites s at k) is ∙ sites_if s at arms other))

  pub some_for : (s : Site) (at : Place) (kind : StmtKind) (start : Option Stmt) (e : Option Expr) (third : Option Stmt) (body : Stmt) (a own t b : Bool) → kind ≡ For start e third body → own ≡ test kind
      → a ≡ some (sites_of_other s start) → t ≡ some (sites_of_other (after_other s start) third) → b ≡ some (sites_of (after_other s start) body) → (((a || own) || t) || b) ≡ some (sites s at kind)
  some_for s at kind start e third body a own t b is at_own at_a at_t at_b =
      let inner = after_other s start in
      or_assoc (a || own) t b ∙ or_assoc a own (t || b)
      ∙ ap (λ x. a || (own || (t || x))) at_b ∙ ap (λ x. a || (own || (x || some (sites_of inner body)))) at_t
      ∙ ap (λ x. a || (own || x)) (sym (both (sites_of_other inner third) (sites_of inner body)))
      ∙ ap (λ x. a || (x || some (sites_of_other inner third ++ sites_of inner body))) (at_own ∙ ap test is)
      ∙ ap (λ x. x || some (placed inner at (For start e third body) ∷ (sites_of_other inner third ++ sites_of inner body))) at_a
      ∙ sym (both (sites_of_other s start) (placed inner at (For start e third body) ∷ (sites_of_other inner third ++ sites_of inner body)))
      ∙ ap some (sym (ap (λ (k : StmtKind). sites s at k) is ∙ sites_for s at start e third body))

  after_all : Site → List Stmt → Site
  after_all s [] = s
  after_all s (x ∷ xs) = after_all (after s x.kind) xs

  list_split : (s : Site) (xs : List Stmt) (x : Stmt) → (t : Site) × (some (sites_list s (xs ++ (x ∷ []))) ≡ (some (sites_list s xs) || some (sites_of t x)))
  list_split s [] x = (s, ap some (append-nil (sites_of s x)))
  list_split s (y ∷ ys) x =
      let more = list_split (after s y.kind) ys x in (
        more.0,
        both (sites_of s y) (sites_list (after s y.kind) (ys ++ (x ∷ []))) ∙ ap (λ b. some (sites_of s y) || b) more.1
            ∙ sym (or_assoc (some (sites_of s y)) (some (sites_list (after s y.kind) ys)) (some (sites_of more.0 x)))
            ∙ ap (λ b. b || some (sites_of more.0 x)) (sym (both (sites_of s y) (sites_list (after s y.kind) ys))),
      )

  pub list_more : (xs : List Stmt) (i : ℕ) (x : Stmt) (found r : Bool) → i < length xs → x ≡ get_or xs i x → ((s : Site) → found ≡ some (sites_list s (take i xs))) → ((s : Site) → r ≡ some (sites_of s x))
      → (s : Site) → (found || r) ≡ some (sites_list s (take (i + 1) xs))
  list_more xs i x found r lt is so_far at_r s =
      let split = list_split s (take i xs) x in
      ap (λ b. b || r) (so_far s) ∙ ap (λ b. some (sites_list s (take i xs)) || b) (at_r split.0) ∙ sym split.1
      ∙ ap (λ (y : Stmt). some (sites_list s (take i xs ++ (y ∷ [])))) is ∙ ap (λ (ys : List Stmt). some (sites_list s ys)) (sym (take_more xs i x lt))

  mapped_split : {A : Type 0} (f : A → List Placed) (xs : List A) (x : A) → some (flat_map f (xs ++ (x ∷ []))) ≡ (some (flat_map f xs) || some (f x))
  mapped_split f [] x = ap some (append-nil (f x))
  mapped_split f (y ∷ ys) x =
      both (f y) (flat_map f (ys ++ (x ∷ []))) ∙ ap (λ b. some (f y) || b) (mapped_split f ys x) ∙ sym (or_assoc (some (f y)) (some (flat_map f ys)) (some (f x)))
      ∙ ap (λ b. b || some (f x)) (sym (both (f y) (flat_map f ys)))

  pub mapped_more : {A : Type 0} (f : A → List Placed) (xs : List A) (i : ℕ) (x : A) (found r : Bool) → i < length xs → x ≡ get_or xs i x → found ≡ some (flat_map f (take i xs)) → r ≡ some (f x)
      → (found || r) ≡ some (flat_map f (take (i + 1) xs))
  mapped_more f xs i x found r lt is so_far at_r =
      ap (λ b. b || r) so_far ∙ ap (λ b. some (flat_map f (take i xs)) || b) at_r ∙ sym (mapped_split f (take i xs) x)
      ∙ ap (λ y. some (flat_map f (take i xs ++ (y ∷ [])))) is ∙ ap (λ ys. some (flat_map f ys)) (sym (take_more xs i x lt))
