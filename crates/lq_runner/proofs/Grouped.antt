-- Groups of branches that follow each other are apart.
use Rattle.std.proofs.Common.{◌≡◌, ℕ, zero, suc, ◌+◌, List, [], ◌∷◌, ◌++◌, length, map, sym, ap, subst, ◌∙◌, take, drop, arith}
use Rattle.std.specs.List.{flat_map}
use Rattle.std.proofs.lemmas.List.{drop_all}
use Rattle.lq_alone.specs.Alone.{Access, Alone, all_accesses}
use Rattle.lq_runner.specs.declared.chunks.Chunk.{Chunk}
use Rattle.lq_runner.specs.Chunks.{Follow}
use Rattle.lq_runner.specs.Share.{Group, group_of, groups_of}
use Rattle.lq_runner.proofs.Apart.{Apart, Chain, accesses_parts, chain_parts}

-- the accesses of all groups
abbrev pub group_accesses : List Group → List Access
group_accesses groups = flat_map (λ (g : Group). g.accesses) groups

-- each group is apart from those behind it
abbrev pub GroupsApart : List Group → Type 0
GroupsApart [] = Unit {0}
GroupsApart (g ∷ groups) = Apart g.accesses (group_accesses groups) × GroupsApart groups

drop_drop : {X : Type 0} (m n : ℕ) (xs : List X) → drop n (drop m xs) ≡ drop (m + n) xs
drop_drop zero n xs = ap (λ k. drop k xs) (omega arith)
drop_drop (suc m) n [] = drop_all n [] (omega arith) ∙ sym (drop_all (suc m + n) [] (omega arith))
drop_drop (suc m) n (x ∷ xs) = drop_drop m n xs ∙ ap (λ k. drop k (x ∷ xs)) (let same : suc (m + n) ≡ suc m + n = omega arith in same)

abbrev pub chunks_of : List (Chunk × ℕ) → List Chunk
chunks_of dealt = map (λ (d : Chunk × ℕ). d.0) dealt

-- what the groups access is what the branches from the first one on do
group_accesses_are : (branches : List Alone) (dealt : List (Chunk × ℕ)) (from : ℕ) → Follow from (chunks_of dealt) (length branches)
    → group_accesses (groups_of branches dealt) ≡ all_accesses (drop from branches)
group_accesses_are branches [] from follow = ap all_accesses (sym (drop_all from branches (omega arith)))
group_accesses_are branches (d ∷ dealt) from follow =
    let rest = group_accesses_are branches dealt (from + d.0.length) follow.1 in
    let first : (group_of branches d).accesses ≡ all_accesses (take d.0.length (drop from branches)) = ap (λ k. all_accesses (take d.0.length (drop k branches))) follow.0 in
    let parts = accesses_parts d.0.length (drop from branches) in
    let behind = drop_drop from d.0.length branches in
    ap (λ xs. xs ++ group_accesses (groups_of branches dealt)) first
    ∙ ap (λ xs. all_accesses (take d.0.length (drop from branches)) ++ xs) (rest ∙ ap all_accesses (sym behind))
    ∙ sym parts

pub groups_apart : (branches : List Alone) (dealt : List (Chunk × ℕ)) (from : ℕ) → Follow from (chunks_of dealt) (length branches) → Chain (drop from branches)
    → GroupsApart (groups_of branches dealt)
groups_apart branches [] from follow chain = tt
groups_apart branches (d ∷ dealt) from follow chain =
    let n = d.0.length in
    let parts = chain_parts n (drop from branches) chain in
    let behind = drop_drop from n branches in
    let rest = groups_apart branches dealt (from + n) follow.1 (subst Chain behind parts.1) in
    let accessed = group_accesses_are branches dealt (from + n) follow.1 in
    let first : all_accesses (take n (drop from branches)) ≡ (group_of branches d).accesses = ap (λ k. all_accesses (take n (drop k branches))) (sym follow.0) in
    let others : all_accesses (drop n (drop from branches)) ≡ group_accesses (groups_of branches dealt) = ap all_accesses behind ∙ sym accessed in
    (subst (λ xs. Apart xs (group_accesses (groups_of branches dealt))) first (subst (Apart (all_accesses (take n (drop from branches)))) others parts.0), rest)
