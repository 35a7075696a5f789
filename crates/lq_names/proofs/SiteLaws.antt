-- The sites of each form of statement.
use Rattle.std.proofs.Common.{◌≡◌, ℕ, ℤ, List, [], ◌∷◌, ◌++◌, Option, None, Some, ◌≤◌, length, take, true, arith, refl, ap, sym, ◌∙◌, subst, rules}
use Rattle.std.proofs.lemmas.List.{append-nil, take_all, take-append-le, length-append}
use denote.Hole.Carrier
use Rattle.lq_tree.specs.declared.place.Place.{Place}
use Rattle.lq_tree.specs.declared.expr.Expr.{Expr}
use Rattle.lq_tree.specs.declared.expr.CType.{CType}
use Rattle.lq_tree.specs.declared.stmt.Stmt.{Stmt}
use Rattle.lq_tree.specs.declared.stmt.Arm.{Arm, Arm', out-Arm, roll-Arm, the_lemmas as arm_lemmas}
use Rattle.lq_tree.specs.declared.stmt.StmtKind.{StmtKind, Empty, Block, Local, Set, Store, Call, If, While, For, Return, Print, Cobegin, Foreach, Block', If', While', For', Cobegin', Foreach', Held-StmtKind-If-1, None', Some', Row_of-Stmt, end_of-Stmt, more_of-Stmt, Row_of-Arm, end_of-Arm, more_of-Arm, items-the_row-Stmt, items-the_row-Arm, items_hidden-the_row-Stmt-0, items_hidden-the_row-Arm-1, items_hidden-the_row-Stmt-2, out-StmtKind, roll-StmtKind, the_lemmas as kind_lemmas}
use Rattle.lq_tree.specs.declared.stmt.StmtKind.TheOpen as layer
use Rattle.lq_tree.specs.declared.stmt.StmtKind.TheVariants.{rolls-Empty, rolls-Block, rolls-Local, rolls-Set, rolls-Store, rolls-Call, rolls-If, rolls-While, rolls-For, rolls-Return, rolls-Print, rolls-Cobegin, rolls-Foreach}
use Rattle.lq_names.specs.declared.site.Frame.{Frame}
use Rattle.lq_names.specs.Seen.{frame_site}
use Rattle.lq_names.specs.Scopes.{Site, Variable, Number, in_parallel}
use Rattle.lq_names.specs.Sites.{Placed, sites, sites_row, sites_each, sites_arms, sites_arm, sites_held, sites_list, sites_of, sites_beside, sites_of_bodies, sites_of_other, after, after_row, after_first, after_other, iteration}

abbrev pub placed : Site → Place → StmtKind → Placed
placed s at kind = record { site = s; at = at; kind = kind }

rows : (n : _) (row : Row_of-Stmt n) (s : Site) → sites_row s row ≡ sites_list s (items-the_row-Stmt n row)
unfolding sites sites_row
rows _ end_of-Stmt s = refl
rows _ (more_of-Stmt at kind rest) s = ap (λ ps. sites s at kind ++ ps) (rows _ rest (after s kind))

each : (n : _) (row : Row_of-Stmt n) (s : Site) → sites_each s row ≡ sites_beside s (items-the_row-Stmt n row)
unfolding sites sites_each
each _ end_of-Stmt s = refl
each _ (more_of-Stmt at kind rest) s = ap (λ ps. sites s at kind ++ ps) (each _ rest s)

-- the sites of an arm, of what may be missing and of a statement, over lists
abbrev arm_sites : Site → Arm → List Placed
arm_sites s (Arm' e p body) = sites_list s (items-the_row-Stmt _ body)

by_arm : (s : Site) (arm : Arm) → sites_arm s arm ≡ arm_sites s arm
unfolding sites_arm
by_arm s (Arm' e p body) = rows _ body s

rolled_arm : (s : Site) (e : Expr) (b : Stmt) → arm_sites s (roll-Arm (record { cond = e; body = b })) ≡ sites_of s b
unfolding roll-Arm denote.Hole.Carrier.roll sites
rolled_arm s e b = ap (sites_list s) (items_hidden-the_row-Stmt-2 b) ∙ append-nil (sites_of s b)

roll_out : (arm : Arm) → roll-Arm (out-Arm arm) ≡ arm
roll_out arm = search (rules, arm_lemmas)

an_arm : (s : Site) (arm : Arm) → sites_arm s arm ≡ sites_of s (out-Arm arm).body
an_arm s arm = by_arm s arm ∙ ap (arm_sites s) (sym (roll_out arm)) ∙ rolled_arm s (out-Arm arm).cond (out-Arm arm).body

arms : (n : _) (row : Row_of-Arm n) (s : Site) → sites_arms s row ≡ sites_of_bodies s (items-the_row-Arm n row)
unfolding sites_arms
arms _ end_of-Arm s = refl
arms _ (more_of-Arm arm rest) s = ap (λ ps. sites_arm s arm ++ ps) (arms _ rest s) ∙ ap (λ ps. ps ++ sites_of_bodies s (items-the_row-Arm _ rest)) (an_arm s arm)

abbrev held_sites : Site → Held-StmtKind-If-1 → List Placed
held_sites s None' = []
held_sites s (Some' p other) = sites_list s (items-the_row-Stmt _ other)

by_held : (s : Site) (held : Held-StmtKind-If-1) → sites_held s held ≡ held_sites s held
unfolding sites_held
by_held s None' = refl
by_held s (Some' p other) = rows _ other s

abbrev after_list : Site → List Stmt → Site
after_list s [] = s
after_list s (b ∷ rest) = after s b.kind

after_rows : (n : _) (row : Row_of-Stmt n) (s : Site) → after_row s row ≡ after_list s (items-the_row-Stmt n row)
after_rows _ end_of-Stmt s = refl
after_rows _ (more_of-Stmt at kind rest) s = refl

abbrev after_held : Site → Held-StmtKind-If-1 → Site
after_held s None' = s
after_held s (Some' p first) = after_list s (items-the_row-Stmt _ first)

by_first : (s : Site) (held : Held-StmtKind-If-1) → after_first s held ≡ after_held s held
by_first s None' = refl
by_first s (Some' p first) = after_rows _ first s

abbrev unrolled : Site → Place → StmtKind → List Placed
unrolled s at (Block' n body) = sites_list s (items-the_row-Stmt _ body)
unrolled s at (If' n all other) = placed s at (If' n all other) ∷ (sites_of_bodies s (items-the_row-Arm _ all) ++ held_sites s other)
unrolled s at (While' e p body) = placed s at (While' e p body) ∷ sites_list s (items-the_row-Stmt _ body)
unrolled s at (For' first e third p body) =
    held_sites s first ++ (placed (after_held s first) at (For' first e third p body) ∷ (held_sites (after_held s first) third ++ sites_list (after_held s first) (items-the_row-Stmt _ body)))
unrolled s at (Cobegin' n blocks) = sites_beside (in_parallel s) (items-the_row-Stmt _ blocks)
unrolled s at (Foreach' index low high step p body) = placed s at (Foreach' index low high step p body) ∷ sites_list (iteration s index) (items-the_row-Stmt _ body)
unrolled s at kind = placed s at kind ∷ []

unroll : (s : Site) (at : Place) (kind : StmtKind) → sites s at kind ≡ unrolled s at kind
unfolding sites
unroll s at Empty = refl
unroll s at (Local t x e) = refl
unroll s at (Set x e) = refl
unroll s at (Store t e) = refl
unroll s at (Call g es) = refl
unroll s at (Return e) = refl
unroll s at (Print e) = refl
unroll s at (Block' n body) = rows _ body s
unroll s at (If' n all other) =
    ap (λ ps. placed s at (If' n all other) ∷ (ps ++ sites_held s other)) (arms _ all s)
    ∙ ap (λ ps. placed s at (If' n all other) ∷ (sites_of_bodies s (items-the_row-Arm _ all) ++ ps)) (by_held s other)
unroll s at (While' e p body) = ap (λ ps. placed s at (While' e p body) ∷ ps) (rows _ body s)
unroll s at (For' first e third p body) =
    ap (λ inner. sites_held s first ++ (placed inner at (For' first e third p body) ∷ (sites_held inner third ++ sites_row inner body))) (by_first s first)
    ∙ ap (λ ps. ps ++ (placed (after_held s first) at (For' first e third p body) ∷ (sites_held (after_held s first) third ++ sites_row (after_held s first) body))) (by_held s first)
    ∙ ap (λ ps. held_sites s first ++ (placed (after_held s first) at (For' first e third p body) ∷ (ps ++ sites_row (after_held s first) body))) (by_held (after_held s first) third)
    ∙ ap (λ ps. held_sites s first ++ (placed (after_held s first) at (For' first e third p body) ∷ (held_sites (after_held s first) third ++ ps))) (rows _ body (after_held s first))
unroll s at (Cobegin' n blocks) = each _ blocks (in_parallel s)
unroll s at (Foreach' index low high step p body) = ap (λ ps. placed s at (Foreach' index low high step p body) ∷ ps) (rows _ body (iteration s index))

one_body : (s : Site) (b : Stmt) → sites_list s (b ∷ []) ≡ sites_of s b
one_body s b = append-nil (sites_of s b)

pub sites_block : (s : Site) (at : Place) (body : List Stmt) → sites s at (Block body) ≡ sites_list s body
sites_block s at body = unroll s at (Block body) ∙ ap (sites_list s) (items_hidden-the_row-Stmt-0 body)

pub sites_cobegin : (s : Site) (at : Place) (blocks : List Stmt) → sites s at (Cobegin blocks) ≡ sites_beside (in_parallel s) blocks
sites_cobegin s at blocks = unroll s at (Cobegin blocks) ∙ ap (sites_beside (in_parallel s)) (items_hidden-the_row-Stmt-0 blocks)

pub sites_while : (s : Site) (at : Place) (e : Expr) (body : Stmt) → sites s at (While e body) ≡ placed s at (While e body) ∷ sites_of s body
sites_while s at e body = unroll s at (While e body) ∙ ap (λ (bs : List Stmt). placed s at (While e body) ∷ sites_list s bs) (items_hidden-the_row-Stmt-2 body) ∙ ap (λ ps. placed s at (While e body) ∷ ps) (one_body s body)

pub sites_foreach : (s : Site) (at : Place) (index : List ℕ) (low high : Expr) (step : ℤ) (body : Stmt) → sites s at (Foreach index low high step body) ≡ placed s at (Foreach index low high step body) ∷ sites_of (iteration s index) body
sites_foreach s at index low high step body =
    unroll s at (Foreach index low high step body) ∙ ap (λ (bs : List Stmt). placed s at (Foreach index low high step body) ∷ sites_list (iteration s index) bs) (items_hidden-the_row-Stmt-2 body)
    ∙ ap (λ ps. placed s at (Foreach index low high step body) ∷ ps) (one_body (iteration s index) body)

-- what may be missing, in the layer of a statement
some_held : (s : Site) (b : Stmt) (bs : List Stmt) → bs ≡ b ∷ [] → sites_list s bs ≡ sites_of s b
some_held s b bs is = ap (sites_list s) is ∙ one_body s b

if_body : (s : Site) (p : Placed) (given all : List Arm) (bs : List Stmt) (b : Stmt) → given ≡ all → bs ≡ b ∷ [] → p ∷ (sites_of_bodies s given ++ sites_list s bs) ≡ p ∷ (sites_of_bodies s all ++ sites_of s b)
if_body s p given all bs b same is =
    ap (λ (a : List Arm). p ∷ (sites_of_bodies s a ++ sites_list s bs)) same ∙ ap (λ ps. p ∷ (sites_of_bodies s all ++ ps)) (some_held s b bs is)

pub sites_if : (s : Site) (at : Place) (all : List Arm) (other : Option Stmt) → sites s at (If all other) ≡ placed s at (If all other) ∷ (sites_of_bodies s all ++ sites_of_other s other)
sites_if s at all None = unroll s at (If all None) ∙ ap (λ (bs : List Arm). placed s at (If all None) ∷ (sites_of_bodies s bs ++ [])) (items_hidden-the_row-Arm-1 all)
sites_if s at all (Some b) = unroll s at (If all (Some b)) ∙ if_body s (placed s at (If all (Some b))) _ all _ b (items_hidden-the_row-Arm-1 all) (items_hidden-the_row-Stmt-2 b)

abbrev listed : Option Stmt → List Stmt
listed None = []
listed (Some b) = b ∷ []

listed_sites : (s : Site) (other : Option Stmt) → sites_list s (listed other) ≡ sites_of_other s other
listed_sites s None = refl
listed_sites s (Some b) = one_body s b

listed_after : (s : Site) (other : Option Stmt) → after_list s (listed other) ≡ after_other s other
listed_after s None = refl
listed_after s (Some b) = refl

for_parts : (s : Site) (at : Place) (kind : StmtKind) (ss ts bs : List Stmt) (start third : Option Stmt) (body : Stmt) → ss ≡ listed start → ts ≡ listed third → bs ≡ body ∷ []
    → sites_list s ss ++ (placed (after_list s ss) at kind ∷ (sites_list (after_list s ss) ts ++ sites_list (after_list s ss) bs))
    ≡ sites_of_other s start ++ (placed (after_other s start) at kind ∷ (sites_of_other (after_other s start) third ++ sites_of (after_other s start) body))
for_parts s at kind ss ts bs start third body starts thirds is =
    let inner = after_other s start in
    ap (λ (x : List Stmt). sites_list s x ++ (placed (after_list s x) at kind ∷ (sites_list (after_list s x) ts ++ sites_list (after_list s x) bs))) starts
    ∙ ap (λ (x : Site). sites_list s (listed start) ++ (placed x at kind ∷ (sites_list x ts ++ sites_list x bs))) (listed_after s start)
    ∙ ap (λ ps. ps ++ (placed inner at kind ∷ (sites_list inner ts ++ sites_list inner bs))) (listed_sites s start)
    ∙ ap (λ (x : List Stmt). sites_of_other s start ++ (placed inner at kind ∷ (sites_list inner x ++ sites_list inner bs))) thirds
    ∙ ap (λ ps. sites_of_other s start ++ (placed inner at kind ∷ (ps ++ sites_list inner bs))) (listed_sites inner third)
    ∙ ap (λ ps. sites_of_other s start ++ (placed inner at kind ∷ (sites_of_other inner third ++ ps))) (some_held inner body bs is)

pub sites_for : (s : Site) (at : Place) (start : Option Stmt) (e : Option Expr) (third : Option Stmt) (body : Stmt) → sites s at (For start e third body)
    ≡ sites_of_other s start ++ (placed (after_other s start) at (For start e third body) ∷ (sites_of_other (after_other s start) third ++ sites_of (after_other s start) body))
sites_for s at None e None body = unroll s at (For None e None body) ∙ for_parts s at (For None e None body) [] [] _ None None body refl refl (items_hidden-the_row-Stmt-2 body)
sites_for s at None e (Some c) body = unroll s at (For None e (Some c) body) ∙ for_parts s at (For None e (Some c) body) [] _ _ None (Some c) body refl (items_hidden-the_row-Stmt-2 c) (items_hidden-the_row-Stmt-2 body)
sites_for s at (Some a) e None body = unroll s at (For (Some a) e None body) ∙ for_parts s at (For (Some a) e None body) _ [] _ (Some a) None body (items_hidden-the_row-Stmt-2 a) refl (items_hidden-the_row-Stmt-2 body)
sites_for s at (Some a) e (Some c) body =
    unroll s at (For (Some a) e (Some c) body) ∙ for_parts s at (For (Some a) e (Some c) body) _ _ _ (Some a) (Some c) body (items_hidden-the_row-Stmt-2 a) (items_hidden-the_row-Stmt-2 c) (items_hidden-the_row-Stmt-2 body)

-- a statement with no statement inside it
by_layer : (s : Site) (at : Place) (form : layer.StmtKind-F StmtKind Arm Stmt)
    → ((b : List Stmt) → roll-StmtKind form ≡ Block b → ⊥) → ((a : List Arm) (o : Option Stmt) → roll-StmtKind form ≡ If a o → ⊥) → ((e : Expr) (b : Stmt) → roll-StmtKind form ≡ While e b → ⊥)
    → ((a : Option Stmt) (e : Option Expr) (t : Option Stmt) (b : Stmt) → roll-StmtKind form ≡ For a e t b → ⊥) → ((b : List Stmt) → roll-StmtKind form ≡ Cobegin b → ⊥)
    → ((i : List ℕ) (l h : Expr) (n : ℤ) (b : Stmt) → roll-StmtKind form ≡ Foreach i l h n b → ⊥)
    → sites s at (roll-StmtKind form) ≡ placed s at (roll-StmtKind form) ∷ []
unfolding sites
by_layer s at layer.Empty nb ni nw nf nc ne = subst (λ (k : StmtKind). sites s at k ≡ placed s at k ∷ []) (sym rolls-Empty) refl
by_layer s at (layer.Block b) nb ni nw nf nc ne = absurd (nb b (rolls-Block b))
by_layer s at (layer.Local t x e) nb ni nw nf nc ne = subst (λ (k : StmtKind). sites s at k ≡ placed s at k ∷ []) (sym (rolls-Local t x e)) refl
by_layer s at (layer.Set x e) nb ni nw nf nc ne = subst (λ (k : StmtKind). sites s at k ≡ placed s at k ∷ []) (sym (rolls-Set x e)) refl
by_layer s at (layer.Store t e) nb ni nw nf nc ne = subst (λ (k : StmtKind). sites s at k ≡ placed s at k ∷ []) (sym (rolls-Store t e)) refl
by_layer s at (layer.Call f es) nb ni nw nf nc ne = subst (λ (k : StmtKind). sites s at k ≡ placed s at k ∷ []) (sym (rolls-Call f es)) refl
by_layer s at (layer.If a o) nb ni nw nf nc ne = absurd (ni a o (rolls-If a o))
by_layer s at (layer.While e b) nb ni nw nf nc ne = absurd (nw e b (rolls-While e b))
by_layer s at (layer.For a e t b) nb ni nw nf nc ne = absurd (nf a e t b (rolls-For a e t b))
by_layer s at (layer.Return e) nb ni nw nf nc ne = subst (λ (k : StmtKind). sites s at k ≡ placed s at k ∷ []) (sym (rolls-Return e)) refl
by_layer s at (layer.Print e) nb ni nw nf nc ne = subst (λ (k : StmtKind). sites s at k ≡ placed s at k ∷ []) (sym (rolls-Print e)) refl
by_layer s at (layer.Cobegin b) nb ni nw nf nc ne = absurd (nc b (rolls-Cobegin b))
by_layer s at (layer.Foreach i l h n b) nb ni nw nf nc ne = absurd (ne i l h n b (rolls-Foreach i l h n b))

roll_out_kind : (kind : StmtKind) → roll-StmtKind (out-StmtKind kind) ≡ kind
roll_out_kind kind = search (rules, kind_lemmas)

pub sites_alone : (s : Site) (at : Place) (kind : StmtKind)
    → ((b : List Stmt) → kind ≡ Block b → ⊥) → ((a : List Arm) (o : Option Stmt) → kind ≡ If a o → ⊥) → ((e : Expr) (b : Stmt) → kind ≡ While e b → ⊥)
    → ((a : Option Stmt) (e : Option Expr) (t : Option Stmt) (b : Stmt) → kind ≡ For a e t b → ⊥) → ((b : List Stmt) → kind ≡ Cobegin b → ⊥)
    → ((i : List ℕ) (l h : Expr) (n : ℤ) (b : Stmt) → kind ≡ Foreach i l h n b → ⊥)
    → sites s at kind ≡ placed s at kind ∷ []
sites_alone s at kind nb ni nw nf nc ne =
    let is = roll_out_kind kind in
    subst (λ (k : StmtKind). sites s at k ≡ placed s at k ∷ []) is
    (by_layer s at (out-StmtKind kind) (λ b e. nb b (sym is ∙ e)) (λ a o e. ni a o (sym is ∙ e)) (λ x b e. nw x b (sym is ∙ e)) (λ a x t b e. nf a x t b (sym is ∙ e)) (λ b e. nc b (sym is ∙ e)) (λ i l h n b e. ne i l h n b (sym is ∙ e)))

pub sites_local : (s : Site) (at : Place) (t : CType) (x : List ℕ) (e : Option Expr) → sites s at (Local t x e) ≡ placed s at (Local t x e) ∷ []
unfolding sites
sites_local s at t x e = refl

-- the site behind a statement is that of the same frame
pub site_after : (f : Frame) (scope : List Variable) (kind : StmtKind) → frame_site f (after (frame_site f scope) kind).scope ≡ after (frame_site f scope) kind
site_after f scope Empty = refl
site_after f scope (Local t x e) = refl
site_after f scope (Set x e) = refl
site_after f scope (Store t e) = refl
site_after f scope (Call g es) = refl
site_after f scope (Return e) = refl
site_after f scope (Print e) = refl
site_after f scope (Block' n b) = refl
site_after f scope (If' n a o) = refl
site_after f scope (While' e p b) = refl
site_after f scope (For' a e t p b) = refl
site_after f scope (Cobegin' n b) = refl
site_after f scope (Foreach' i l h n p b) = refl

-- what was in scope before a statement is there behind it
pub kept_after : (s : Site) (kind : StmtKind) (n : ℕ) → n ≤ length s.scope → take n (after s kind).scope ≡ take n s.scope
kept_after s Empty n le = refl
kept_after s (Local t x e) n le = take-append-le n s.scope _ le
kept_after s (Set x e) n le = refl
kept_after s (Store t e) n le = refl
kept_after s (Call g es) n le = refl
kept_after s (Return e) n le = refl
kept_after s (Print e) n le = refl
kept_after s (Block' m b) n le = refl
kept_after s (If' m a o) n le = refl
kept_after s (While' e p b) n le = refl
kept_after s (For' a e t p b) n le = refl
kept_after s (Cobegin' m b) n le = refl
kept_after s (Foreach' i l h step p b) n le = refl

pub grows_after : (s : Site) (kind : StmtKind) → length s.scope ≤ length (after s kind).scope
grows_after s Empty = omega arith
grows_after s (Local t x e) = simp length-append (omega arith)
grows_after s (Set x e) = omega arith
grows_after s (Store t e) = omega arith
grows_after s (Call g es) = omega arith
grows_after s (Return e) = omega arith
grows_after s (Print e) = omega arith
grows_after s (Block' m b) = omega arith
grows_after s (If' m a o) = omega arith
grows_after s (While' e p b) = omega arith
grows_after s (For' a e t p b) = omega arith
grows_after s (Cobegin' m b) = omega arith
grows_after s (Foreach' i l h n p b) = omega arith

-- the frame of a parallel statement
pub parallel_site : (frame inner : Frame) (scope : List Variable) (n : ℕ) → ((all : List Variable) → frame_site inner all ≡ record (frame_site frame all) { outside = n; parallel = true })
    → n ≡ length scope → frame_site inner scope ≡ in_parallel (frame_site frame scope)
parallel_site frame inner scope n is count = is scope ∙ ap (λ m. record (frame_site frame scope) { outside = m; parallel = true }) count

pub iteration_site : (frame inner : Frame) (scope next : List Variable) (v : Variable) (index : List ℕ) (n : ℕ) → ((all : List Variable) → frame_site inner all ≡ record (frame_site frame all) { outside = n; parallel = true })
    → n ≡ length next → next ≡ scope ++ (v ∷ []) → v ≡ record { name = index; type = Number } → frame_site inner next ≡ iteration (frame_site frame scope) index
iteration_site frame inner scope next v index n is count more named =
    parallel_site frame inner next n is count
    ∙ ap (λ all. in_parallel (frame_site frame all)) (more ∙ ap (λ w. scope ++ (w ∷ [])) named)

pub site_after_other : (f : Frame) (scope : List Variable) (other : Option Stmt) → frame_site f (after_other (frame_site f scope) other).scope ≡ after_other (frame_site f scope) other
site_after_other f scope None = refl
site_after_other f scope (Some b) = site_after f scope b.kind

pub kept_after_other : (s : Site) (other : Option Stmt) → take (length s.scope) (after_other s other).scope ≡ s.scope
kept_after_other s None = take_all (length s.scope) s.scope (omega arith)
kept_after_other s (Some b) = kept_after s b.kind (length s.scope) (omega arith) ∙ take_all (length s.scope) s.scope (omega arith)
