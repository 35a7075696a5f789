-- The numbers of slots and results.
use Rattle.std.proofs.Common.{◌≡◌, ◌≢◌, inl, inr, ℕ, zero, suc, ◌+◌, ◌^◌, ◌<◌, ◌≤◌, Bool, true, false, List, [], ◌∷◌, ◌++◌, None, Some, length, get_or, take, drop, map, below_more, refl, sym, ap, ap₂, subst, ◌∙◌, arith, slice_get}
use Rattle.std.specs.Prelude.{◌==◌, if◌then◌else◌, unwrap_or, IsTrue}
use Rattle.std.specs.List.{concat}
use Rattle.std.proofs.lemmas.Bool.{cases_eq, cases_lt, eq-eqb, ne_eqb, true≢false}
use Rattle.std.proofs.lemmas.List.{get_or_append_left, get_or-append-add, get_or_push, get_or_past, get_or-take, get_or-drop, length_push, length-map, length-take, length-drop, take-append-drop}
use Rattle.std.proofs.Math.ListN.{length-append}
use Rattle.lq_tree.specs.declared.plain.Slot.{Slot}
use Rattle.lq_tree.specs.Types.{Ty, is_pointer, declared, result_of}
use Rattle.lq_tree.specs.PlainTypes.{slot_type}
use Rattle.lq_classes.specs.Classes.{type_in, number_in, is_variable}
use Rattle.lq_classes.specs.declared.var.Var.{Var}
use Rattle.lq_tree.specs.declared.plain.PFunc.{PFunc}
use Rattle.lq_tree.specs.declared.plain.PProgram.{PProgram}
use Rattle.lq_classes.specs.Layout.{total, IsSmall, start, pointers_in, pointers, parts_of, number, number_if}

-- one function more
pub start_more : (funcs : List PFunc) (n : ℕ) (f : PFunc) → n < length funcs → f ≡ get_or funcs n f → start funcs (suc n) ≡ start funcs n + suc (length f.slots)
start_more [] n f low is = absurd (omega (arith, low))
start_more (g ∷ []) zero f low is = let e = ap (λ (h : PFunc). length h.slots) is in omega (arith, e)
start_more (g ∷ (h ∷ funcs)) zero f low is = let e = ap (λ (h : PFunc). length h.slots) is in omega (arith, e)
start_more (g ∷ funcs) (suc n) f low is = let more = start_more funcs n f (omega (arith, low)) is in omega (arith, more)

pub start_le : (funcs : List PFunc) (n : ℕ) → start funcs n ≤ total funcs
start_le [] n = omega arith
start_le (f ∷ funcs) zero = omega arith
start_le (f ∷ funcs) (suc n) = let more = start_le funcs n in omega (arith, more)

pub start_small : (p : PProgram) (n : ℕ) → IsSmall p → start p.funcs n ≤ 2 ^ 31
start_small p n small = let low = start_le p.funcs n in omega (arith, low, small)

-- a function has no more slots than all have numbers
pub slots_le : (funcs : List PFunc) (n : ℕ) (f : PFunc) → slice_get funcs n ≡ Some f → suc (length f.slots) ≤ total funcs
slots_le [] n f there = absurd cc
slots_le (g ∷ funcs) zero f there = let same : g ≡ f = cc in let size = ap (λ (h : PFunc). length h.slots) same in omega (arith, size)
slots_le (g ∷ funcs) (suc n) f there = let more = slots_le funcs n f there in omega (arith, more)

-- and no more functions
pub funcs_le : (funcs : List PFunc) → length funcs ≤ total funcs
funcs_le [] = omega arith
funcs_le (f ∷ funcs) = let more = funcs_le funcs in omega (arith, more)

pub start_zero : (funcs : List PFunc) → 0 ≡ start funcs 0
start_zero [] = refl
start_zero (f ∷ funcs) = refl

-- ---- what was read

pub slice_get-read : {A : Type 0} (xs : List A) (i : ℕ) (x : A) → i < length xs → x ≡ get_or xs i x → slice_get xs i ≡ Some x
slice_get-read [] i x low is = absurd (omega (arith, low))
slice_get-read (y ∷ xs) zero x low is = ap Some (sym is)
slice_get-read (y ∷ xs) (suc i) x low is = slice_get-read xs i x (omega (arith, low)) is

pub get_or-unwrap : (xs : List ℕ) (i : ℕ) → unwrap_or (slice_get xs i) 0 ≡ get_or xs i 0
get_or-unwrap [] i = refl
get_or-unwrap (x ∷ xs) zero = refl
get_or-unwrap (x ∷ xs) (suc i) = get_or-unwrap xs i

-- ---- where a slot or a result lies

-- a number is inside its function, or there is none
pub data Lies (funcs : List PFunc) (numbers : List ℕ) (n s : ℕ) : Type 0 where
  within : start funcs n + s < total funcs → number_in (slice_get (parts_of funcs numbers) n) s ≡ get_or numbers (start funcs n + s) 0
      → get_or (pointers funcs) (start funcs n + s) false ≡ is_pointer (type_in (slice_get funcs n) s)
      → n < length funcs → Lies funcs numbers n s
  outside : number_in (slice_get (parts_of funcs numbers) n) s ≡ 0 → is_pointer (type_in (slice_get funcs n) s) ≡ false → Lies funcs numbers n s

pub length-pointers_in : (f : PFunc) → length (pointers_in f) ≡ suc (length f.slots)
length-pointers_in f =
    let one = length_push (map (λ (s : Slot). is_pointer (declared s.ctype)) f.slots) (is_pointer (result_of f.result)) in
    let two = length-map f.slots (λ (s : Slot). is_pointer (declared s.ctype)) in omega (arith, one, two)

pub length-pointers : (funcs : List PFunc) → length (pointers funcs) ≡ total funcs
length-pointers [] = refl
length-pointers (f ∷ funcs) =
    let one = length-append (pointers_in f) (pointers funcs) in let two = length-pointers_in f in let three = length-pointers funcs in omega (arith, one, two, three)

-- the slots of one function, and its result
slot_pointer : (slots : List Slot) (s : ℕ) (last : Bool) → s < length slots → get_or (map (λ (slot : Slot). is_pointer (declared slot.ctype)) slots ++ last ∷ []) s false ≡ is_pointer (slot_type slots s)
slot_pointer [] s last low = absurd (omega (arith, low))
slot_pointer (x ∷ slots) zero last low = refl
slot_pointer (x ∷ slots) (suc s) last low = slot_pointer slots s last (omega (arith, low))

slot_past : (slots : List Slot) (s : ℕ) → length slots ≤ s → is_pointer (slot_type slots s) ≡ false
slot_past [] s high = refl
slot_past (x ∷ slots) zero high = absurd (omega (arith, high))
slot_past (x ∷ slots) (suc s) high = slot_past slots s (omega (arith, high))

if-other : (x y : ℕ) (a b : Ty) → x ≢ y → (if x == y then a else b) ≡ b
if-other x y a b other = ap (λ t. if t then a else b) (ne_eqb x y other)

if-same : (x y : ℕ) (a b : Ty) → x ≡ y → (if x == y then a else b) ≡ a
if-same x y a b same = ap (λ t. if t then a else b) (eq-eqb x y same)

own_pointer : (f : PFunc) (s : ℕ) → s ≤ length f.slots → get_or (pointers_in f) s false ≡ is_pointer (type_in (Some f) s)
own_pointer f s low =
    let held = map (λ (slot : Slot). is_pointer (declared slot.ctype)) f.slots in
    let size = length-map f.slots (λ (slot : Slot). is_pointer (declared slot.ctype)) in
    elim (cases_eq s (length f.slots)) [
      | inl e ↦ get_or_push held (is_pointer (result_of f.result)) false s (omega (arith, size, e)) ∙ ap is_pointer (sym (if-same s (length f.slots) (result_of f.result) (slot_type f.slots s) e))
      | inr other ↦ slot_pointer f.slots s (is_pointer (result_of f.result)) (omega (arith, low, other)) ∙ ap is_pointer (sym (if-other s (length f.slots) (result_of f.result) (slot_type f.slots s) other))
    ]

own_past : (f : PFunc) (s : ℕ) → length f.slots < s → is_pointer (type_in (Some f) s) ≡ false
own_past f s high = ap is_pointer (if-other s (length f.slots) (result_of f.result) (slot_type f.slots s) (omega (arith, high))) ∙ slot_past f.slots s (omega (arith, high))

lies_later : (f : PFunc) (funcs : List PFunc) (numbers : List ℕ) (n s : ℕ) → Lies funcs (drop (suc (length f.slots)) numbers) n s → Lies (f ∷ funcs) numbers (suc n) s
lies_later f funcs numbers n s (within low value pointer there) =
    let m = suc (length f.slots) in
    within (omega (arith, low)) (value ∙ get_or-drop m numbers (start funcs n + s) 0 ∙ ap (λ i. get_or numbers i 0) (omega arith))
    (ap (λ i. get_or (pointers (f ∷ funcs)) i false) (let size = length-pointers_in f in omega (arith, size)) ∙ get_or-append-add (pointers_in f) (pointers funcs) (start funcs n + s) false ∙ pointer)
    (omega (arith, there))
lies_later f funcs numbers n s (outside value pointer) = outside value pointer

pub lies : (funcs : List PFunc) (numbers : List ℕ) (n s : ℕ) → Lies funcs numbers n s
lies [] numbers n s = outside refl refl
lies (f ∷ funcs) numbers zero s =
    elim (cases_lt (length f.slots) s) [
      | inl high ↦ outside (get_or_past (take (suc (length f.slots)) numbers) s 0 (let size = length-take (suc (length f.slots)) numbers in omega (arith, size, high))) (own_past f s high)
      | inr low ↦ within (omega (arith, low)) (get_or-take (suc (length f.slots)) numbers s 0 (omega (arith, low)) ∙ ap (λ i. get_or numbers i 0) (omega arith))
          (ap (λ i. get_or (pointers (f ∷ funcs)) i false) (omega arith) ∙ (let size = length-pointers_in f in get_or_append_left (pointers_in f) (pointers funcs) false s (omega (arith, size, low))) ∙ own_pointer f s low) (omega arith)
    ]
lies (f ∷ funcs) numbers (suc n) s = lies_later f funcs numbers n s (lies funcs (drop (suc (length f.slots)) numbers) n s)

-- ---- the starts

pub start_step : (p : PProgram) (xs : List PFunc) (n : ℕ) (f : PFunc) → IsSmall p → xs ≡ p.funcs → n < length xs → f ≡ get_or xs n f
    → (start p.funcs (suc n) ≡ start p.funcs n + suc (length f.slots)) × (start p.funcs (suc n) ≤ 2 ^ 31)
start_step p xs n f small same low is =
    (start_more p.funcs n f (subst (λ (ys : List PFunc). n < length ys) same low) (is ∙ ap (λ (ys : List PFunc). get_or ys n f) same), start_small p (suc n) small)

pub starts_more : (funcs : List PFunc) (starts new : List ℕ) (n next count : ℕ) → length starts ≡ n → ((k : ℕ) → k < n → get_or starts k 0 ≡ start funcs k) → next ≡ start funcs n
    → new ≡ starts ++ next ∷ [] → start funcs (n + 1) ≡ start funcs n + suc count
    → record { size : length new ≡ n + 1; each : (k : ℕ) → k < n + 1 → get_or new k 0 ≡ start funcs k; next : next + (count + 1) ≡ start funcs (n + 1) }
starts_more funcs starts new n next count all each here is step =
    record {
      size = ap length is ∙ length_push starts next ∙ ap (λ k. k + 1) all;
      each = λ k low. ap (λ (xs : List ℕ). get_or xs k 0) is ∙ below_more (λ k. get_or (starts ++ next ∷ []) k 0 ≡ start funcs k) n
          (λ k low. get_or_append_left starts (next ∷ []) 0 k (omega (arith, low, all)) ∙ each k low)
          (get_or_push starts next 0 n all ∙ here) k low;
      next = omega (arith, here, step);
    }

-- ---- the number of a variable

pub within_total : (funcs : List PFunc) (n s : ℕ) → is_pointer (type_in (slice_get funcs n) s) ≡ true → start funcs n + s < total funcs
within_total funcs n s is = elim (lies funcs [] n s) [ within low value pointer there ↦ low | outside value pointer ↦ absurd (true≢false (sym is ∙ pointer)) ]

pub number_within : (p : PProgram) (v : Var) (n : ℕ) → Some n ≡ number_if p v → (IsTrue (is_variable p v)) × (n ≡ number p v) × (n < total p.funcs)
number_within p v n is = go (is_variable p v) refl is
  where
    go : (b : Bool) → is_variable p v ≡ b → Some n ≡ (if b then Some (number p v) else None) → (IsTrue (is_variable p v)) × (n ≡ number p v) × (n < total p.funcs)
    go true is_true e = let same : n ≡ number p v = cc in let low = within_total p.funcs v.func v.slot is_true in (is_true, same, omega (arith, same, low))
    go false is_false e = absurd cc

-- two variables with one number are the same
same_place : (funcs : List PFunc) (n s m t : ℕ) → is_pointer (type_in (slice_get funcs n) s) ≡ true → is_pointer (type_in (slice_get funcs m) t) ≡ true → start funcs n + s ≡ start funcs m + t → (n ≡ m) × (s ≡ t)
same_place [] n s m t first second e = absurd (true≢false (sym first))
same_place (f ∷ funcs) zero s zero t first second e = (refl, omega (arith, e))
same_place (f ∷ funcs) zero s (suc m) t first second e =
    elim (cases_lt (length f.slots) s) [ inl high ↦ absurd (true≢false (sym first ∙ own_past f s high)) | inr low ↦ absurd (omega (arith, e, low)) ]
same_place (f ∷ funcs) (suc n) s zero t first second e =
    elim (cases_lt (length f.slots) t) [ inl high ↦ absurd (true≢false (sym second ∙ own_past f t high)) | inr low ↦ absurd (omega (arith, e, low)) ]
same_place (f ∷ funcs) (suc n) s (suc m) t first second e = let more = same_place funcs n s m t first second (omega (arith, e)) in (ap suc more.0, more.1)

pub number-same : (p : PProgram) (v w : Var) → IsTrue (is_variable p v) → IsTrue (is_variable p w) → number p v ≡ number p w → v ≡ w
number-same p v w first second e =
    let same = same_place p.funcs v.func v.slot w.func w.slot first second e in ap₂ (λ n s. record { func = n; slot = s }) same.0 same.1

pub number-low : (p : PProgram) (v : Var) → IsTrue (is_variable p v) → number p v < total p.funcs
number-low p v is = within_total p.funcs v.func v.slot is

-- the parts, put together
pub concat-parts_of : (funcs : List PFunc) (numbers : List ℕ) → length numbers ≡ total funcs → concat (parts_of funcs numbers) ≡ numbers
concat-parts_of [] [] size = refl
concat-parts_of [] (n ∷ numbers) size = absurd (omega (arith, size))
concat-parts_of (f ∷ funcs) numbers size =
    ap (λ (xs : List ℕ). take (suc (length f.slots)) numbers ++ xs)
    (concat-parts_of funcs (drop (suc (length f.slots)) numbers) (let all = length-drop (suc (length f.slots)) numbers in omega (arith, all, size)))
    ∙ take-append-drop (suc (length f.slots)) numbers
