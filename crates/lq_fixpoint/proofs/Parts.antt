-- Parts of lists, and assignments within one another.
use Rattle.std.proofs.Common.{◌≡◌, ℕ, zero, suc, ◌≤◌, List, [], ◌∷◌, ◌++◌, map, reverse, length, Option, None, Some, refl, sym, ap, ◌∙◌, arith, subst}
use Rattle.std.specs.Prelude.{slice_index_or}
use Rattle.std.specs.List.{AllZip, cons_option, filter_map}
use Rattle.std.proofs.lemmas.Grind.{reverse_onto}
use Rattle.lq_linear.specs.Row.{Inequality}
use Rattle.lq_templates.specs.declared.condition.Assign.{Assign}
use Rattle.lq_templates.specs.Conditions.{IsPart, none, kept, left, IsWithin}

-- ---- what keeps parts

pub part_itself : {X : Type 0} (xs : List X) → IsPart xs xs
part_itself [] = none
part_itself (x ∷ xs) = kept (part_itself xs)

pub part_append : {X : Type 0} {a b c d : List X} → IsPart a b → IsPart c d → IsPart (a ++ c) (b ++ d)
part_append none q = q
part_append (kept p) q = kept (part_append p q)
part_append (left p) q = left (part_append p q)

pub part_map : {X Y : Type 0} (f : X → Y) {a b : List X} → IsPart a b → IsPart (map f a) (map f b)
part_map f none = none
part_map f (kept p) = kept (part_map f p)
part_map f (left p) = left (part_map f p)

part_beside : {Y : Type 0} (first : Option Y) {a b : List Y} → IsPart a b → IsPart a (cons_option first b)
part_beside None p = p
part_beside (Some y) p = left p

part_both : {Y : Type 0} (first : Option Y) {a b : List Y} → IsPart a b → IsPart (cons_option first a) (cons_option first b)
part_both None p = p
part_both (Some y) p = kept p

pub part_filter_map : {X Y : Type 0} (f : X → Option Y) {a b : List X} → IsPart a b → IsPart (filter_map f a) (filter_map f b)
part_filter_map f none = none
part_filter_map f (kept {x = x} p) = part_both (f x) (part_filter_map f p)
part_filter_map f (left {x = x} p) = part_beside (f x) (part_filter_map f p)

at_end : {X : Type 0} (x : X) {a b : List X} → IsPart a b → IsPart a (b ++ x ∷ [])
at_end x none = left none
at_end x (kept p) = kept (at_end x p)
at_end x (left p) = left (at_end x p)

pub part_reverse : {X : Type 0} {a b : List X} → IsPart a b → IsPart (reverse a) (reverse b)
part_reverse none = none
part_reverse (kept {x = x} {part = part} {whole = whole} p) =
    subst (λ l. IsPart l (reverse (x ∷ whole))) (sym (reverse_onto part x []))
    (subst (λ l. IsPart (reverse part ++ x ∷ []) l) (sym (reverse_onto whole x [])) (part_append (part_reverse p) (part_itself (x ∷ []))))
part_reverse (left {x = x} {part = part} {whole = whole} p) =
    subst (λ l. IsPart (reverse part) l) (sym (reverse_onto whole x [])) (at_end x (part_reverse p))

pub part_at : {X : Type 0} (a b : List (List X)) → AllZip IsPart a b → (n : ℕ) → IsPart (slice_index_or a n []) (slice_index_or b n [])
part_at [] [] p n = none
part_at [] (y ∷ b) p n = absurd p
part_at (x ∷ a) [] p n = absurd p
part_at (x ∷ a) (y ∷ b) p zero = p.0
part_at (x ∷ a) (y ∷ b) p (suc n) = part_at a b p.1 n

pub part_trans : {X : Type 0} {a b c : List X} → IsPart a b → IsPart b c → IsPart a c
part_trans none none = none
part_trans p (left q) = left (part_trans p q)
part_trans (kept p) (kept q) = kept (part_trans p q)
part_trans (left p) (kept q) = left (part_trans p q)

-- ---- parts of one another

-- a part is at most as long
pub part_short : {X : Type 0} {part whole : List X} → IsPart part whole → length part ≤ length whole
part_short none = omega arith
part_short (kept p) = omega (arith, part_short p)
part_short (left p) = omega (arith, part_short p)

-- a part that is at least as long is the whole
pub part_long : {X : Type 0} {part whole : List X} → IsPart part whole → length whole ≤ length part → part ≡ whole
part_long none long = refl
part_long (kept {x = x} p) long = ap (λ rest. x ∷ rest) (part_long p (omega (arith, long)))
part_long (left p) long = absurd (omega (arith, long, part_short p))

-- two lists that are parts of each other
parts_same : {X : Type 0} {a b : List X} → IsPart a b → IsPart b a → a ≡ b
parts_same p q = part_long p (part_short q)

-- lists of such lists
all_parts_same : {X : Type 0} (a b : List (List X)) → AllZip IsPart a b → AllZip IsPart b a → a ≡ b
all_parts_same [] [] p q = refl
all_parts_same [] (y ∷ b) p q = absurd p
all_parts_same (x ∷ a) [] p q = absurd p
all_parts_same (x ∷ a) (y ∷ b) p q =
    ap (λ rest. x ∷ rest) (all_parts_same a b p.1 q.1) ∙ ap (λ first. first ∷ b) (parts_same p.0 q.0)

-- assignments that are within each other
pub within_same : (a b : Assign) → IsWithin a b → IsWithin b a → a ≡ b
within_same a b p q = ap (λ (rows : List (List Inequality)). record { rows = rows }) (all_parts_same a.rows b.rows p q)

-- ---- lists of lists

pub all_itself : {X : Type 0} (a : List (List X)) → AllZip IsPart a a
all_itself [] = tt
all_itself (x ∷ a) = (part_itself x, all_itself a)

pub all_trans : {X : Type 0} (a b c : List (List X)) → AllZip IsPart a b → AllZip IsPart b c → AllZip IsPart a c
all_trans [] [] [] p q = tt
all_trans [] [] (z ∷ c) p q = absurd q
all_trans [] (y ∷ b) c p q = absurd p
all_trans (x ∷ a) [] c p q = absurd p
all_trans (x ∷ a) (y ∷ b) [] p q = absurd q
all_trans (x ∷ a) (y ∷ b) (z ∷ c) p q = (part_trans p.0 q.0, all_trans a b c p.1 q.1)
