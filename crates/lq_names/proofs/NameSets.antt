-- The keys of a set of names, read as names.
use Rattle.std.proofs.Common.{◌≡◌, ℕ, Bool, ◌||◌, List, [], ◌∷◌, ◌++◌, map, Bor, refl, ap, cond, true, false}
use Rattle.std.specs.List.{list_any}
use Rattle.lq_names.specs.Scopes.{same}
use Rattle.lq_names.specs.Seen.{is_among}

abbrev pub read : Bor (List ℕ) → List ℕ
read k = k.now

pub among_keys : (ks : List (Bor (List ℕ))) (name : List ℕ) → is_among (map read ks) name ≡ list_any (λ (k : Bor (List ℕ)). same name k.now) ks
among_keys [] name = refl
among_keys (k ∷ ks) name = ap (λ b. same name k.now || b) (among_keys ks name)

read_append : (ks : List (Bor (List ℕ))) (k : Bor (List ℕ)) → map read (ks ++ (k ∷ [])) ≡ map read ks ++ (k.now ∷ [])
read_append [] k = refl
read_append (x ∷ ks) k = ap (λ ns. x.now ∷ ns) (read_append ks k)

inserted : (b : Bool) (ks : List (Bor (List ℕ))) (k : Bor (List ℕ)) → map read (cond b ks (ks ++ (k ∷ []))) ≡ cond b (map read ks) (map read ks ++ (k.now ∷ []))
inserted true ks k = refl
inserted false ks k = read_append ks k

pub added_keys : (ks : List (Bor (List ℕ))) (k : Bor (List ℕ)) → map read (cond (list_any (λ (j : Bor (List ℕ)). same k.now j.now) ks) ks (ks ++ (k ∷ []))) ≡ cond (is_among (map read ks) k.now) (map read ks) (map read ks ++ (k.now ∷ []))
added_keys ks k = rw (among_keys ks k.now) (inserted (list_any (λ (j : Bor (List ℕ)). same k.now j.now) ks) ks k)
