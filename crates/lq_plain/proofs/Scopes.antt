-- The locals of the code, as the definitions see them.
use Rattle.std.proofs.Common.{◌≡◌, ℕ, ◌+◌, ◌-◌, ◌<◌, ◌≤◌, List, [], ◌∷◌, ◌++◌, length, map, take, drop, get_or, fold, if◌then◌else◌, refl, ap, sym, ◌∙◌, append_assoc, arith, take-append-drop, length-take, length-append}
use Rattle.std.proofs.Math.Seq.{drop-append_seam}
use Rattle.std.proofs.lemmas.Grind.{reverse_onto}
use Rattle.std.proofs.lemmas.List.{take_more, append-nil}
use Rattle.lq_tree.specs.Lookup.{same}
use Rattle.lq_tree.specs.Types.{Unknown, Variable, or_later}
use Rattle.lq_tree.specs.Locals.{Local, what_of, type_of_local, variables_of}
use Rattle.lq_plain.specs.Seen.{local, inside, locals_of}

-- one variable more
inside-push : (scope : List (Local ℕ)) (vs : List Variable) (ns : List ℕ) (v : Variable) (n : ℕ) → length vs ≡ length ns → inside scope (vs ++ v ∷ []) (ns ++ n ∷ []) ≡ local v n ∷ inside scope vs ns
inside-push scope [] [] v n e = refl
inside-push scope [] (m ∷ ns) v n e = absurd (omega (arith, e))
inside-push scope (w ∷ vs) [] v n e = absurd (omega (arith, e))
inside-push scope (w ∷ vs) (m ∷ ns) v n e = inside-push (local w m ∷ scope) vs ns v n (omega (arith, e))

pub pushed : (vs : List Variable) (ns : List ℕ) (v : Variable) (n : ℕ) → length vs ≡ length ns → locals_of (vs ++ v ∷ []) (ns ++ n ∷ []) ≡ local v n ∷ locals_of vs ns
pushed = inside-push []

-- what is inside stands in front
inside-outer : (xs scope : List (Local ℕ)) (vs : List Variable) (ns : List ℕ) → inside (xs ++ scope) vs ns ≡ inside xs vs ns ++ scope
inside-outer xs scope [] ns = refl
inside-outer xs scope (v ∷ vs) [] = refl
inside-outer xs scope (v ∷ vs) (n ∷ ns) = inside-outer (local v n ∷ xs) scope vs ns

inside-append : (scope : List (Local ℕ)) (vs ws : List Variable) (ns ms : List ℕ) → length vs ≡ length ns → inside scope (vs ++ ws) (ns ++ ms) ≡ inside (inside scope vs ns) ws ms
inside-append scope [] ws [] ms e = refl
inside-append scope [] ws (n ∷ ns) ms e = absurd (omega (arith, e))
inside-append scope (v ∷ vs) ws [] ms e = absurd (omega (arith, e))
inside-append scope (v ∷ vs) ws (n ∷ ns) ms e = inside-append (local v n ∷ scope) vs ws ns ms (omega (arith, e))

inside-length : (scope : List (Local ℕ)) (vs : List Variable) (ns : List ℕ) → length vs ≡ length ns → length (inside scope vs ns) ≡ length scope + length ns
inside-length scope [] [] e = omega arith
inside-length scope [] (n ∷ ns) e = absurd (omega (arith, e))
inside-length scope (v ∷ vs) [] e = absurd (omega (arith, e))
inside-length scope (v ∷ vs) (n ∷ ns) e = omega (arith, inside-length (local v n ∷ scope) vs ns (omega (arith, e)))

pub as_many : (vs : List Variable) (ns : List ℕ) → length vs ≡ length ns → length (locals_of vs ns) ≡ length ns
as_many vs ns e = omega (arith, inside-length [] vs ns e)

-- only the first so many
pub cut : (vs : List Variable) (ns : List ℕ) (height : ℕ) → length vs ≡ length ns → height ≤ length ns → locals_of (take height vs) (take height ns) ≡ drop (length (locals_of vs ns) - height) (locals_of vs ns)
cut vs ns height e lt =
    let vs' = take height vs in
    let ns' = take height ns in
    let even : length vs' ≡ length ns' = omega (arith, length-take height vs, length-take height ns, e) in
    let inner = inside [] (drop height vs) (drop height ns) in
    let whole : locals_of vs ns ≡ inner ++ locals_of vs' ns' =
    ap (λ (ws : List Variable). locals_of ws ns) (sym (take-append-drop height vs))
    ∙ ap (locals_of (vs' ++ drop height vs)) (sym (take-append-drop height ns))
    ∙ inside-append [] vs' (drop height vs) ns' (drop height ns) even
    ∙ inside-outer [] (locals_of vs' ns') (drop height vs) (drop height ns) in
    let count : length inner ≡ length (locals_of vs ns) - height = omega (arith, ap length whole, length-append inner (locals_of vs' ns'), as_many vs' ns' even, length-take height ns, lt) in
    sym (drop-append_seam inner (locals_of vs' ns')) ∙ ap (drop (length inner)) (sym whole) ∙ ap (λ k. drop k (locals_of vs ns)) count

-- the names and types
inside-variables : (scope : List (Local ℕ)) (vs : List Variable) (ns : List ℕ) → length vs ≡ length ns → variables_of (inside scope vs ns) ≡ variables_of scope ++ vs
inside-variables scope [] [] e = sym (append-nil (variables_of scope))
inside-variables scope [] (n ∷ ns) e = absurd (omega (arith, e))
inside-variables scope (v ∷ vs) [] e = absurd (omega (arith, e))
inside-variables scope (v ∷ vs) (n ∷ ns) e =
    inside-variables (local v n ∷ scope) vs ns (omega (arith, e))
    ∙ ap (λ (ws : List Variable). ws ++ vs) (reverse_onto (map (λ (l : Local ℕ). record { name = l.name; type = l.type }) scope) v [])
    ∙ append_assoc (variables_of scope) (v ∷ []) vs

pub variables : (vs : List Variable) (ns : List ℕ) → length vs ≡ length ns → variables_of (locals_of vs ns) ≡ vs
variables = inside-variables []

inside-type : (name : List ℕ) (scope : List (Local ℕ)) (vs : List Variable) (ns : List ℕ) → length vs ≡ length ns → type_of_local (inside scope vs ns) name ≡ fold (or_later name) (type_of_local scope name) vs
inside-type name scope [] [] e = refl
inside-type name scope [] (n ∷ ns) e = absurd (omega (arith, e))
inside-type name scope (v ∷ vs) [] e = absurd (omega (arith, e))
inside-type name scope (v ∷ vs) (n ∷ ns) e = inside-type name (local v n ∷ scope) vs ns (omega (arith, e))

pub type_by_name : (vs : List Variable) (ns : List ℕ) (name : List ℕ) → length vs ≡ length ns → type_of_local (locals_of vs ns) name ≡ fold (or_later name) Unknown vs
type_by_name vs ns name e = inside-type name [] vs ns e

-- the slot of a name, one variable further on
pub slot_further : (vs : List Variable) (ns : List ℕ) (name : List ℕ) (i : ℕ) (v : Variable) → length vs ≡ length ns → i < length ns → v ≡ get_or vs i v
    → what_of 0 (locals_of (take (i + 1) vs) (take (i + 1) ns)) name ≡ (if same v.name name then get_or ns i 0 else what_of 0 (locals_of (take i vs) (take i ns)) name)
slot_further vs ns name i v e lt is =
    let even : length (take i vs) ≡ length (take i ns) = omega (arith, length-take i vs, length-take i ns, e) in
    ap (λ (ws : List Variable). what_of 0 (locals_of ws (take (i + 1) ns)) name) (take_more vs i v (omega (arith, e)) ∙ ap (λ (w : Variable). take i vs ++ w ∷ []) (sym is))
    ∙ ap (λ (ms : List ℕ). what_of 0 (locals_of (take i vs ++ v ∷ []) ms) name) (take_more ns i 0 lt)
    ∙ ap (λ (ls : List (Local ℕ)). what_of 0 ls name) (pushed (take i vs) (take i ns) v (get_or ns i 0) even)
