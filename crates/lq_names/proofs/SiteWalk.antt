-- The walk with sites goes over the statements of the walk alone: a test that no block and no `cobegin` passes is passed by
-- some statement of the one where it is by some statement of the other.
use Rattle.std.proofs.Common.{◌≡◌, ℕ, Bool, true, false, ◌||◌, List, [], ◌∷◌, ◌++◌, Some, refl, ap, sym, ◌∙◌}
use denote.Hole.Carrier
use Rattle.std.specs.List.{list_any}
use Rattle.std.proofs.lemmas.List.Folds.{list_any-append}
use Rattle.lq_tree.specs.declared.place.Place.{Place}
use Rattle.lq_tree.specs.declared.stmt.Stmt.{Stmt}
use Rattle.lq_tree.specs.declared.stmt.Arm.{Arm, Arm'}
use Rattle.lq_tree.specs.declared.stmt.StmtKind.{StmtKind, out-StmtKind, Empty, Local, Set, Store, Call, Return, Print, Block', If', While', For', Cobegin', Foreach', Held-StmtKind-If-1, None', Some', Row_of-Stmt, end_of-Stmt, more_of-Stmt, Row_of-Arm, end_of-Arm, more_of-Arm}
use Rattle.lq_tree.specs.Walk.{inside, within_row, within_arms, within_arm, within_held, statements}
use Rattle.lq_tree.specs.declared.program.Program.{Program}
use Rattle.lq_tree.specs.declared.program.Func.{Func}
use Rattle.lq_names.specs.declared.effects.Effect.{Effect}
use Rattle.lq_names.specs.Calls.{placed_does, kind_does, function_does}
use Rattle.lq_names.specs.Headers.{body_site}
use Rattle.lq_names.specs.Scopes.{Site, in_parallel}
use Rattle.lq_names.specs.Sites.{Placed, sites, sites_row, sites_each, sites_arms, sites_arm, sites_held, sites_list, after, after_first, iteration}
use Rattle.lq_names.proofs.AnyLaws.{or_assoc}

-- what stands before a statement may as well stand behind it
or_swap : (a b c : Bool) → (a || (b || c)) ≡ (b || (a || c))
or_swap true true c = refl
or_swap true false c = refl
or_swap false b c = refl

-- a block or a `cobegin`
abbrev encloses : StmtKind → Bool
encloses (Block' n body) = true
encloses (Cobegin' n blocks) = true
encloses _ = false

module _ (test : StmtKind → Bool) (spares : (kind : StmtKind) → encloses kind ≡ true → test kind ≡ false) where
  abbrev placed_some : List Placed → Bool
  placed_some ps = list_any (λ (p : Placed). test p.kind) ps

  abbrev some : List Stmt → Bool
  some ss = list_any (λ (s : Stmt). test s.kind) ss

  placed_both : (a b : List Placed) → placed_some (a ++ b) ≡ (placed_some a || placed_some b)
  placed_both a b = list_any-append (λ (p : Placed). test p.kind) a b

  both : (a b : List Stmt) → some (a ++ b) ≡ (some a || some b)
  both a b = list_any-append (λ (s : Stmt). test s.kind) a b

  three : (a b c : List Stmt) → some (a ++ b ++ c) ≡ (some a || some (b ++ c))
  three a b c = both (a ++ b) c ∙ ap (λ x. x || some c) (both a b) ∙ or_assoc (some a) (some b) (some c) ∙ ap (λ x. some a || x) (sym (both b c))

  -- two parts, each walked
  two : (a b : List Placed) (c d : List Stmt) → placed_some a ≡ some c → placed_some b ≡ some d → placed_some (a ++ b) ≡ some (c ++ d)
  two a b c d e f = placed_both a b ∙ ap (λ x. x || placed_some b) e ∙ ap (λ x. some c || x) f ∙ sym (both c d)

  -- a statement with those inside it, and what comes behind
  part : (kind : StmtKind) (s : Site) (at : Place) (rest : List Placed) (more : List Stmt) → placed_some (sites s at kind) ≡ (test kind || some (inside kind))
      → placed_some rest ≡ some more → placed_some (sites s at kind ++ rest) ≡ (test kind || some (inside kind ++ more))
  part kind s at rest more e f =
      placed_both (sites s at kind) rest ∙ ap (λ b. b || placed_some rest) e ∙ ap (λ b. (test kind || some (inside kind)) || b) f
      ∙ or_assoc (test kind) (some (inside kind)) (some more) ∙ ap (λ b. test kind || b) (sym (both (inside kind) more))

  mutual
    unfolding sites sites_row sites_each sites_arms sites_arm sites_held inside within_row within_arms within_arm within_held

    walked : (kind : StmtKind) (s : Site) (at : Place) → placed_some (sites s at kind) ≡ (test kind || some (inside kind))
    walked Empty s at = refl
    walked (Local type name e) s at = refl
    walked (Set name e) s at = refl
    walked (Store target e) s at = refl
    walked (Call f args) s at = refl
    walked (Return e) s at = refl
    walked (Print e) s at = refl
    walked (Block' n body) s at = walked_row body s ∙ ap (λ b. b || some (within_row body)) (sym (spares (Block' n body) refl))
    walked (Cobegin' n blocks) s at = walked_each blocks (in_parallel s) ∙ ap (λ b. b || some (within_row blocks)) (sym (spares (Cobegin' n blocks) refl))
    walked (If' n arms other) s at = ap (λ b. test (If' n arms other) || b) (two _ _ _ _ (walked_arms arms s) (walked_held other s))
    walked (While' e p body) s at = ap (λ b. test (While' e p body) || b) (walked_row body s)
    walked (For' first e third p body) s at =
        let inner = after_first s first in
        placed_both _ _ ∙ ap (λ b. b || (test (For' first e third p body) || placed_some (sites_held inner third ++ sites_row inner body))) (walked_held first s)
        ∙ ap (λ b. some (within_held first) || (test (For' first e third p body) || b)) (two _ _ _ _ (walked_held third inner) (walked_row body inner))
        ∙ or_swap (some (within_held first)) (test (For' first e third p body)) (some (within_held third ++ within_row body))
        ∙ ap (λ b. test (For' first e third p body) || b) (sym (three (within_held first) (within_held third) (within_row body)))
    walked (Foreach' index low high step p body) s at = ap (λ b. test (Foreach' index low high step p body) || b) (walked_row body (iteration s index))

    walked_row : {n : _} (row : Row_of-Stmt n) (s : Site) → placed_some (sites_row s row) ≡ some (within_row row)
    walked_row end_of-Stmt s = refl
    walked_row (more_of-Stmt at kind rest) s = part kind s at (sites_row (after s kind) rest) (within_row rest) (walked kind s at) (walked_row rest (after s kind))

    walked_each : {n : _} (row : Row_of-Stmt n) (s : Site) → placed_some (sites_each s row) ≡ some (within_row row)
    walked_each end_of-Stmt s = refl
    walked_each (more_of-Stmt at kind rest) s = part kind s at (sites_each s rest) (within_row rest) (walked kind s at) (walked_each rest s)

    walked_arms : {n : _} (row : Row_of-Arm n) (s : Site) → placed_some (sites_arms s row) ≡ some (within_arms row)
    walked_arms end_of-Arm s = refl
    walked_arms (more_of-Arm arm rest) s = two _ _ _ _ (walked_arm arm s) (walked_arms rest s)

    walked_arm : (arm : Arm) (s : Site) → placed_some (sites_arm s arm) ≡ some (within_arm arm)
    walked_arm (Arm' e p body) s = walked_row body s

    walked_held : (held : Held-StmtKind-If-1) (s : Site) → placed_some (sites_held s held) ≡ some (within_held held)
    walked_held None' s = refl
    walked_held (Some' p other) s = walked_row other s

  pub walked_list : (body : List Stmt) (s : Site) → placed_some (sites_list s body) ≡ some (statements body)
  walked_list [] s = refl
  walked_list (stmt ∷ rest) s = part stmt.kind s stmt.at (sites_list (after s stmt.kind) rest) (statements rest) (walked stmt.kind s stmt.at) (walked_list rest (after s stmt.kind))

-- what a function does
abbrev no_effects : List ℕ → Bool
no_effects name = false

does_none : (effect : Effect) (set : List ℕ → Bool) (kind : StmtKind) → encloses kind ≡ true → kind_does effect set kind ≡ false
unfolding out-StmtKind denote.Hole.Carrier.out
does_none effect set (Block' n body) e = refl
does_none effect set (Cobegin' n blocks) e = refl
does_none effect set _ e = absurd (cc)

-- a function does what its statements do at whatever site
pub body_does : (p : Program) (effect : Effect) (set : List ℕ → Bool) (f : Func) (does : Bool)
    → ((s : Site) → does ≡ list_any (placed_does effect set) (sites_list s f.body)) → does ≡ function_does effect set (Some f)
body_does p effect set f does at =
    let s = body_site p no_effects no_effects f in
    at s ∙ walked_list (kind_does effect set) (does_none effect set) f.body s
