-- The keys of a set of names, read as names.
use Rattle.std.proofs.Common.{◌≡◌, ℕ, Bool, ◌||◌, List, [], ◌∷◌, ◌++◌, map, Bor, refl, ap, cond, true, false}
use Rattle.std.specs.List.{list_any}
use Rattle.lq_tree.specs.Lookup.{same}
use Rattle.lq_ground.specs.Locals.{has}

abbrev pub read : Bor (List ℕ) → List ℕ
read k = k.now

pub has_keys : (ks : List (Bor (List ℕ))) (name : List ℕ) → has (map read ks) name ≡ list_any (λ (k : Bor (List ℕ)). same name k.now) ks
has_keys [] name = refl
has_keys (k ∷ ks) name = ap (λ b. same name k.now || b) (has_keys ks name)

read_append : (ks : List (Bor (List ℕ))) (k : Bor (List ℕ)) → map read (ks ++ (k ∷ [])) ≡ map read ks ++ (k.now ∷ [])
read_append [] k = refl
read_append (x ∷ ks) k = ap (λ ns. x.now ∷ ns) (read_append ks k)

inserted : (b : Bool) (ks : List (Bor (List ℕ))) (k : Bor (List ℕ)) → map read (cond b ks (ks ++ (k ∷ []))) ≡ cond b (map read ks) (map read ks ++ (k.now ∷ []))
inserted true ks k = refl
inserted false ks k = read_append ks k

pub added_keys : (ks : List (Bor (List ℕ))) (k : Bor (List ℕ)) → map read (cond (list_any (λ (j : Bor (List ℕ)). same k.now j.now) ks) ks (ks ++ (k ∷ []))) ≡ cond (has (map read ks) k.now) (map read ks) (map read ks ++ (k.now ∷ []))
added_keys ks k = rw (has_keys ks k.now) (inserted (list_any (λ (j : Bor (List ℕ)). same k.now j.now) ks) ks k)
