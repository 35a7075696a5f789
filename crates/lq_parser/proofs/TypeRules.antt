-- The rules of types as sequences.
use Rattle.std.proofs.Common.{sym, ap, ◌∙◌, subst, refl, arith}
use Rattle.std.specs.Prelude.{◌≡◌, ℕ, suc, ◌+◌, ◌≤◌, Some, List, [], ◌∷◌, ◌++◌}
use Rattle.lq_tree.specs.declared.place.Place.{Place}
use Rattle.lq_tree.specs.declared.expr.Base.{Base}
use Rattle.lq_tree.specs.declared.expr.Base.TheVariants.{Int, Struct}
use Rattle.lq_tree.specs.declared.expr.CType.{CType}
use Rattle.lq_parser.specs.declared.lexeme.Lexeme.{Lexeme}
use Rattle.lq_parser.specs.declared.lexeme.Sign.TheVariants.{Star}
use Rattle.lq_parser.specs.declared.lexeme.Keyword.TheVariants.{Int as IntWord, Struct as StructWord}
use Rattle.lq_parser.specs.Lexemes.{first, sign_at, word_at}
use Rattle.lq_parser.specs.Types.{IsBase, int, struct, AreStars, none, star, IsType, type}
use Rattle.lq_parser.specs.Sequence.{Then, then, Makes, makes, Nothing, nothing, one, IsWord, IsSign, IsName, held}
use Rattle.lq_parser.specs.Outcome.{Done, Fails, Begins, Lacks, Anything, NoStar}
use Rattle.lq_parser.proofs.Apart.{keywords}
use Rattle.lq_parser.proofs.Leads.{Leads, leads_choose, leads_then, leads_one, leads_on, fails_then, done_nothing}

abbrev pub IntBase : List Lexeme → Base → Type 0
IntBase = Makes (IsWord IntWord) (λ _. Int)

abbrev pub StructBase : List Lexeme → Base → Type 0
StructBase = Then (IsWord StructWord) (λ _. Makes IsName Struct)

int_into : (u : List Lexeme) (v : Base) → IntBase u v → IsBase u v
int_into u v (makes one) = int

int_from : (u r : List Lexeme) (v : Base) (at : Place) → first (u ++ r) ≡ Some (word_at IntWord at) → IsBase u v → IntBase u v
int_from u r v at h int = makes one
int_from u r v at h struct = absurd (cc (keywords h))

struct_into : (u : List Lexeme) (v : Base) → StructBase u v → IsBase u v
struct_into u v (then one (makes held)) = struct

struct_from : (u r : List Lexeme) (v : Base) (ls : List Lexeme) → Lacks (word_at IntWord) ls → first (u ++ r) ≡ first ls → IsBase u v → StructBase u v
struct_from u r v ls lacks h (int {at = at}) = absurd (lacks at (sym h))
struct_from u r v ls lacks h struct = then one (makes held)

pub leads_int : {ls rest : List Lexeme} → Begins (word_at IntWord) ls rest → Leads IsBase Anything ls IntBase ls
leads_int b = leads_choose int_into (λ u r v h x s. int_from u r v b.0 (h ∙ ap first b.1) x)

pub leads_struct : {ls : List Lexeme} → Lacks (word_at IntWord) ls → Leads IsBase Anything ls StructBase ls
leads_struct {ls = ls} lacks = leads_choose struct_into (λ u r v h x s. struct_from u r v ls lacks h x)

-- a type whose base and so many `*` were read
pub data StarsFrom (base : Base) : ℕ → List Lexeme → CType → Type 0 where
  stars_end : {n : ℕ} → n ≤ 3 → StarsFrom base n [] (record { base = base; stars = n })
  stars_more : {at : Place} {n : ℕ} {ls : List Lexeme} {t : CType} → StarsFrom base (n + 1) ls t → StarsFrom base n (sign_at Star at ∷ ls) t

stars_low : {base : Base} {n : ℕ} {ls : List Lexeme} {t : CType} → StarsFrom base n ls t → n ≤ 3
stars_low (stars_end h) = h
stars_low (stars_more {n = n} s) = let h = stars_low s in omega arith

stars_of : {base : Base} {n : ℕ} {ls : List Lexeme} {t : CType} → StarsFrom base n ls t
    → (m : ℕ) × AreStars ls m × (n + m ≡ t.stars) × (t.stars ≤ 3) × (base ≡ t.base)
stars_of (stars_end {n = n} h) = (0, none, omega arith, h, refl)
stars_of (stars_more {n = n} s) = let m = stars_of s in (suc m.0, star m.1, omega (arith, m.2), m.3, m.4)

stars_from : {base : Base} {ls : List Lexeme} {m : ℕ} (n k : ℕ) → AreStars ls m → n + m ≡ k → k ≤ 3 → StarsFrom base n ls (record { base = base; stars = k })
stars_from {base = base} n k none e h = subst (λ k. StarsFrom base n [] (record { base = base; stars = k })) (omega arith) (stars_end (omega arith))
stars_from n k (star s) e h = stars_more (stars_from (n + 1) k s (omega arith) h)

abbrev pub BaseAndStars : List Lexeme → CType → Type 0
BaseAndStars = Then IsBase (λ base. StarsFrom base 0)

type_into : (u : List Lexeme) (v : CType) → BaseAndStars u v → IsType u v
type_into u v (then {front = f} {back = g} {a = a} {b = t} b s) = let m = stars_of s in
    subst (λ base. IsType (f ++ g) (record { base = base; stars = t.stars })) m.4 (type b (subst (λ k. AreStars g k) (omega (arith, m.2)) m.1) m.3)

type_from : (u : List Lexeme) (v : CType) → IsType u v → BaseAndStars u v
type_from u v (type {n = n} b s h) = then b (stars_from 0 n s (omega arith) h)

pub leads_base : {ls rest : List Lexeme} {base : Base} → Done IsBase Anything ls base rest → Leads IsType NoStar ls (StarsFrom base 0) rest
leads_base d = leads_on (leads_choose type_into (λ u r v h x s. type_from u v x)) (leads_then (λ a b g r x s. tt) d)

pub fails_base : {ls end : List Lexeme} → Fails IsBase Anything ls end → Fails IsType NoStar ls end
fails_base e = (leads_choose type_into (λ u r v h x s. type_from u v x)).fails _ (fails_then (λ a b g r x s. tt) (λ a. ([], record { base = a; stars = 0 }, stars_end (omega arith))) e)

-- what ends a type is no `*`
abbrev pub StarFirst : Base → ℕ → List Lexeme → CType → Type 0
StarFirst base n = Then (IsSign Star) (λ _. StarsFrom base (n + 1))

star_into : {base : Base} {n : ℕ} (u : List Lexeme) (v : CType) → StarFirst base n u v → StarsFrom base n u v
star_into u v (then one s) = stars_more s

star_from : {base : Base} {n : ℕ} (u r : List Lexeme) (v : CType) (at : Place) → first (u ++ r) ≡ Some (sign_at Star at) → NoStar (first r) → StarsFrom base n u v → StarFirst base n u v
star_from u r v at h ends (stars_end low) = absurd (ends at h)
star_from u r v at h ends (stars_more s) = then one s

pub leads_star : {base : Base} {n : ℕ} {ls rest : List Lexeme} → Begins (sign_at Star) ls rest → Leads (StarsFrom base n) NoStar ls (StarsFrom base (n + 1)) rest
leads_star b = leads_on (leads_choose star_into (λ u r v h x s. star_from u r v b.0 (h ∙ ap first b.1) s x)) (leads_one b)

end_from : {base : Base} {n : ℕ} (u r : List Lexeme) (v : CType) (ls : List Lexeme) → Lacks (sign_at Star) ls → first (u ++ r) ≡ first ls → StarsFrom base n u v → Nothing (record { base = base; stars = n }) u v
end_from u r v ls lacks h (stars_end low) = nothing
end_from u r v ls lacks h (stars_more {at = at} s) = absurd (lacks at (sym h))

end_into : {base : Base} {n : ℕ} → n ≤ 3 → (u : List Lexeme) (v : CType) → Nothing (record { base = base; stars = n }) u v → StarsFrom base n u v
end_into low u v nothing = stars_end low

pub ends_stars : {base : Base} {n : ℕ} {ls : List Lexeme} → n ≤ 3 → Lacks (sign_at Star) ls → Done (StarsFrom base n) NoStar ls (record { base = base; stars = n }) ls
ends_stars {ls = ls} low lacks = (leads_choose (end_into low) (λ u r v h x s. end_from u r v ls lacks h x)).done _ _ done_nothing

-- there are no more than three
pub too_many : {base : Base} {n : ℕ} {ls rest : List Lexeme} → n ≡ 3 → Begins (sign_at Star) ls rest → Fails (StarsFrom base n) NoStar ls ls
too_many {base = base} {n = n} {ls = ls} three b = record {
  front = [];
  split = refl;
  more = [];
  value = record { base = base; stars = n };
  viable = stars_end (omega arith);
  dead = λ other f r v h eq x s. dead f r v (sym (ap first eq) ∙ h ∙ ap first b.1) x s;
}
  where
    dead : (f r : List Lexeme) (v : CType) → first (f ++ r) ≡ Some (sign_at Star b.0) → StarsFrom base n f v → NoStar (first r) → ⊥
    dead f r v h (stars_end low) ends = ends b.0 h
    dead f r v h (stars_more s) ends = let low = stars_low s in omega arith
