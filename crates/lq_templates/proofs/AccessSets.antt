-- The functions that make an access are a set that grows, call by call, until it is closed; so there is one such set for each
-- access, and only one.
use Rattle.std.proofs.Common.{◌≡◌, ℕ, zero, suc, ◌<◌, ◌≤◌, Bool, true, false, cond, ◌||◌, List, [], ◌∷◌, length, Option, None, Some, ◌⊎◌, inl, inr, refl, ap, sym, ◌∙◌, arith}
use Rattle.std.specs.List.{list_any}
use Rattle.std.specs.Prelude.{slice_get}
use Rattle.std.proofs.lemmas.Bool.{cases_Bool, cases_lt}
use Rattle.std.proofs.lemmas.Option.{slice_get_past}
use Rattle.lq_tree.specs.declared.plain.PKind.{PKind, Set, Load, Store, Calloc, Call, If', While', Cobegin', Foreach, Print, Return}
use Rattle.lq_tree.specs.declared.plain.PStmt.{PStmt}
use Rattle.lq_tree.specs.declared.plain.PFunc.{PFunc}
use Rattle.lq_tree.specs.declared.plain.PProgram.{PProgram}
use Rattle.lq_tree.specs.PlainWalk.{statements}
use Rattle.lq_templates.specs.declared.template.Template.{Template}
use Rattle.lq_templates.specs.Classes.{ClassOf}
use Rattle.lq_templates.specs.Accesses.{Access, makes, function_makes, IsClosed, AreAccesses}
use Rattle.lq_templates.specs.Templates.{all_templates, AreTemplates}

-- ---- sets of numbers below a bound

-- how many of the numbers below a bound are in a set
abbrev count : (ℕ → Bool) → ℕ → ℕ
count set zero = 0
count set (suc k) = cond (set k) (suc (count set k)) (count set k)

count_in : (set : ℕ → Bool) (k : ℕ) → set k ≡ true → count set (suc k) ≡ suc (count set k)
count_in set k is = ap (λ b. cond b (suc (count set k)) (count set k)) is

count_out : (set : ℕ → Bool) (k : ℕ) → set k ≡ false → count set (suc k) ≡ count set k
count_out set k isnt = ap (λ b. cond b (suc (count set k)) (count set k)) isnt

count_most : (set : ℕ → Bool) (k : ℕ) → count set k ≤ k
count_most set zero = omega arith
count_most set (suc k) = elim (cases_Bool (set k)) [
  | inl is ↦ omega (arith, count_in set k is, count_most set k)
  | inr isnt ↦ omega (arith, count_out set k isnt, count_most set k)
]

-- a full set has all
full : (set : ℕ → Bool) (k : ℕ) → k ≤ count set k → (i : ℕ) → i < k → set i ≡ true
full set zero all i below = absurd (omega (arith, below))
full set (suc k) all i below = elim (cases_Bool (set k)) [
  | inl is ↦ let rest : k ≤ count set k = omega (arith, all, count_in set k is) in elim (cases_lt i k) [
    | inl less ↦ full set k rest i less
    | inr more ↦ let same : i ≡ k = omega (arith, more, below) in ap set same ∙ is
  ]
  | inr isnt ↦ absurd (omega (arith, all, count_out set k isnt, count_most set k))
]

-- each number below k that is in the first set is in the second
abbrev Within : (first second : ℕ → Bool) → ℕ → Type 0
Within first second k = (i : ℕ) → i < k → first i ≡ true → second i ≡ true

module _ (first second : ℕ → Bool) (grows : (i : ℕ) → first i ≡ true → second i ≡ true) where
  count_grows : (k : ℕ) → count first k ≤ count second k
  count_grows zero = omega arith
  count_grows (suc k) = elim (cases_Bool (first k)) [
    | inl is ↦ omega (arith, count_in first k is, count_in second k (grows k is), count_grows k)
    | inr isnt ↦ elim (cases_Bool (second k)) [
      | inl new ↦ omega (arith, count_out first k isnt, count_in second k new, count_grows k)
      | inr old ↦ omega (arith, count_out first k isnt, count_out second k old, count_grows k)
    ]
  ]

  -- nothing is gained below k, or there are more
  gained : (k : ℕ) → (count first k < count second k) ⊎ Within second first k
  gained zero = inr (λ i below is. absurd (omega (arith, below)))
  gained (suc k) = elim (gained k) [
    | inl more ↦ inl (more_still more)
    | inr within ↦ elim (cases_Bool (first k)) [
      | inl is ↦ inr (one_more within (λ _. is))
      | inr isnt ↦ elim (cases_Bool (second k)) [
        | inl new ↦ inl (omega (arith, count_out first k isnt, count_in second k new, count_grows k))
        | inr old ↦ inr (one_more within (λ new. cc))
      ]
    ]
  ] where
    more_still : count first k < count second k → count first (suc k) < count second (suc k)
    more_still more = elim (cases_Bool (first k)) [
      | inl is ↦ omega (arith, count_in first k is, count_in second k (grows k is), more)
      | inr isnt ↦ elim (cases_Bool (second k)) [
        | inl new ↦ omega (arith, count_out first k isnt, count_in second k new, more)
        | inr old ↦ omega (arith, count_out first k isnt, count_out second k old, more)
      ]
    ]

    one_more : Within second first k → (second k ≡ true → first k ≡ true) → Within second first (suc k)
    one_more within last i below is = elim (cases_lt i k) [
      | inl less ↦ within i less is
      | inr more ↦ let same : i ≡ k = omega (arith, more, below) in ap first same ∙ last (ap second (sym same) ∙ is)
    ]

not_both : {b : Bool} → b ≡ false → b ≡ true → ⊥
not_both isnt is = cc

-- ---- the rounds: the accesses with so many calls below one another

abbrev pub rounds : PProgram → ClassOf → ℕ → ℕ → Access → Bool
rounds p class_of zero number a = false
rounds p class_of (suc n) number a = function_makes class_of (rounds p class_of n) a number (slice_get p.funcs number)

-- a greater set makes more
makes_more : (class_at : ℕ → ℕ) (first second : ℕ → Access → Bool) (a : Access) → ((i : ℕ) → first i a ≡ true → second i a ≡ true) → (kind : PKind) → makes class_at first a kind ≡ true → makes class_at second a kind ≡ true
makes_more class_at first second a more (Set to e) h = h
makes_more class_at first second a more (Load to base index field) h = h
makes_more class_at first second a more (Store base index field e) h = h
makes_more class_at first second a more (Calloc to size type) h = h
makes_more class_at first second a more (Call to function args) h = more function h
makes_more class_at first second a more (If' e n body m other) h = h
makes_more class_at first second a more (While' n head e m body) h = h
makes_more class_at first second a more (Cobegin' n blocks) h = h
makes_more class_at first second a more (Foreach index low high step branch) h = h
makes_more class_at first second a more (Print e) h = h
makes_more class_at first second a more (Return e) h = h

or_more : (a b c d : Bool) → (a ≡ true → c ≡ true) → (b ≡ true → d ≡ true) → (a || b) ≡ true → (c || d) ≡ true
or_more true b c d f g h = ap (λ x. x || d) (f refl)
or_more false b true d f g h = refl
or_more false b false d f g h = g h

any_more : {A : Type 0} (p q : A → Bool) (xs : List A) → ((x : A) → p x ≡ true → q x ≡ true) → list_any p xs ≡ true → list_any q xs ≡ true
any_more p q [] f h = h
any_more p q (x ∷ xs) f h = or_more (p x) (list_any p xs) (q x) (list_any q xs) (f x) (any_more p q xs f) h

function_more : (class_of : ClassOf) (first second : ℕ → Access → Bool) (a : Access) → ((i : ℕ) → first i a ≡ true → second i a ≡ true)
    → (number : ℕ) (f : Option PFunc) → function_makes class_of first a number f ≡ true → function_makes class_of second a number f ≡ true
function_more class_of first second a more number None h = h
function_more class_of first second a more number (Some f) h =
    any_more (λ (s : PStmt). makes (class_of number) first a s.kind) (λ (s : PStmt). makes (class_of number) second a s.kind) (statements f.body) (λ s. makes_more (class_of number) first second a more s.kind) h

-- ---- they are closed in the end

module _ (p : PProgram) (class_of : ClassOf) where
  rounds_within : (other : ℕ → Access → Bool) → IsClosed p class_of other → (n number : ℕ) (a : Access) → rounds p class_of n number a ≡ true → other number a ≡ true
  rounds_within other closed zero number a is = absurd cc
  rounds_within other closed (suc n) number a is =
      closed number a (function_more class_of (rounds p class_of n) other a (λ i. rounds_within other closed n i a) number (slice_get p.funcs number) is)

  module _ (a : Access) where
    abbrev round : ℕ → ℕ → Bool
    round n number = rounds p class_of n number a

    rounds_grow : (n number : ℕ) → round n number ≡ true → round (suc n) number ≡ true
    rounds_grow zero number is = absurd cc
    rounds_grow (suc n) number is = function_more class_of (rounds p class_of n) (rounds p class_of (suc n)) a (rounds_grow n) number (slice_get p.funcs number) is

    -- where there is no function nothing is made
    beyond : (n number : ℕ) → length p.funcs ≤ number → round n number ≡ false
    beyond zero number far = refl
    beyond (suc n) number far = ap (λ f. function_makes class_of (rounds p class_of n) a number f) (slice_get_past p.funcs number far)

    -- so many rounds have so many functions, or nothing is gained any more
    settles : (n : ℕ) → (n ≤ count (round n) (length p.funcs)) ⊎ ((number : ℕ) → round (suc n) number ≡ true → round n number ≡ true)
    settles zero = inl (omega arith)
    settles (suc n) = elim (settles n) [
      | inr still ↦ inr (λ number is. stays still number is)
      | inl many ↦ elim (gained (round n) (round (suc n)) (rounds_grow n) (length p.funcs)) [
        | inl more ↦ inl (omega (arith, many, more))
        | inr within ↦ inr (λ number is. stays (everywhere within) number is)
      ]
    ] where
      stays : ((number : ℕ) → round (suc n) number ≡ true → round n number ≡ true) → (number : ℕ) → round (suc (suc n)) number ≡ true → round (suc n) number ≡ true
      stays still number is = function_more class_of (rounds p class_of (suc n)) (rounds p class_of n) a still number (slice_get p.funcs number) is

      everywhere : Within (round (suc n)) (round n) (length p.funcs) → (number : ℕ) → round (suc n) number ≡ true → round n number ≡ true
      everywhere within number is = elim (cases_lt number (length p.funcs)) [
        | inl inside ↦ within number inside is
        | inr far ↦ absurd (not_both (beyond (suc n) number far) is)
      ]

    settled : (number : ℕ) → round (suc (length p.funcs)) number ≡ true → round (length p.funcs) number ≡ true
    settled number is = elim (settles (length p.funcs)) [
      | inr still ↦ still number is
      | inl all ↦ elim (cases_lt number (length p.funcs)) [
        | inl inside ↦ full (round (length p.funcs)) (length p.funcs) all number inside
        | inr far ↦ absurd (not_both (beyond (suc (length p.funcs)) number far) is)
      ]
    ]

  -- what functions access: that with as many calls below one another as there are functions
  pub are_accesses : AreAccesses p class_of (rounds p class_of (length p.funcs))
  are_accesses = record {
    closed = λ number a is. settled a number is;
    least = λ other closed number a is. rounds_within other closed (length p.funcs) number a is;
  }

  -- and there is no other such set
  pub one_set : (by other : ℕ → Access → Bool) → AreAccesses p class_of by → AreAccesses p class_of other → (number : ℕ) (a : Access) → by number a ≡ other number a
  one_set by other first second number a = same (by number a) (other number a) (first.least other second.closed number a) (second.least by first.closed number a) where
    same : (x y : Bool) → (x ≡ true → y ≡ true) → (y ≡ true → x ≡ true) → x ≡ y
    same true y there back = sym (there refl)
    same false true there back = back refl
    same false false there back = refl

-- ---- so a program has one list of templates

pub templates_by : (p : PProgram) (class_of : ClassOf) (templates : List Template) → all_templates p class_of (rounds p class_of (length p.funcs)) ≡ templates → AreTemplates p class_of templates
templates_by p class_of templates is = record { by = rounds p class_of (length p.funcs); are_accesses = are_accesses p class_of; listed = sym is }

pub are_templates : (p : PProgram) (class_of : ClassOf) → (templates : List Template) × AreTemplates p class_of templates
are_templates p class_of =
    let listed = all_templates p class_of (rounds p class_of (length p.funcs)) in
    (listed, templates_by p class_of listed refl)

pub one_list : (p : PProgram) (class_of : ClassOf) (templates others : List Template) → AreTemplates p class_of templates → AreTemplates p class_of others → templates ≡ others
one_list p class_of templates others first second =
    let sets : first.by ≡ second.by = λ i number a. one_set p class_of first.by second.by first.are_accesses second.are_accesses number a i in
    first.listed ∙ (ap (all_templates p class_of) sets ∙ sym second.listed)
