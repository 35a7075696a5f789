-- Conditions that are asked one after the other, and conditions that are counted.
use Rattle.std.proofs.Common.{◌≡◌, ℕ, zero, suc, ◌+◌, ◌<◌, ◌≤◌, ◌==◌, Bool, true, false, cond, ◌&&◌, List, [], ◌∷◌, ◌++◌, length, take, map, filter, get_or, refl, sym, ap, ◌∙◌, append-nil, length-append, add_assoc, inl, inr, arith}
use Rattle.std.specs.List.{flat_map}
use Rattle.std.proofs.lemmas.Bool.{cases_Bool, false≢true}
use Rattle.std.proofs.lemmas.Grind.{flat_map-append}
use Rattle.std.proofs.lemmas.List.{take_all, take_more, map-append, length-map}
use Rattle.std.proofs.lemmas.List.Elements.{filter_more}
use Rattle.lq_templates.specs.declared.condition.Condition.{Condition}
use Rattle.lq_templates.specs.declared.condition.Given.{Given}
use Rattle.lq_templates.specs.declared.condition.Site.{Site}
use Rattle.lq_templates.specs.declared.template.Template.{Template}
use Rattle.lq_templates.specs.Accesses.{Access, same_access}
use Rattle.lq_linear.specs.Form.{Linear}
use Rattle.lq_linear.specs.Collect.{symbol}
use Rattle.lq_tally.specs.declared.tally.Tally.{Tally}
use Rattle.lq_tally.specs.Tally.{tallied}
use Rattle.lq_tally.proofs.Tallies.{tallied_again, tallied_full}
use Rattle.lq_symbolic.specs.declared.state.Start.{Start}
use Rattle.lq_symbolic.specs.declared.state.SymState.{SymState as State}
use Rattle.lq_effects.specs.declared.effect.Effect.{Effect}
use Rattle.lq_effects.specs.Effects.{effects_of, effect_rows, asked_of, asked_access, asked_call}
use Rattle.lq_effects.specs.Table.{is_on, effects_on}
use Rattle.lq_effects.specs.Counted.{counted, effects_for, all_effects_for}

-- ---- one more element of a list

-- what a list gives with one more element
flat_map_next : {X Y : Type 0} (f : X → List Y) (xs : List X) (i : ℕ) (x : X) → i < length xs → x ≡ get_or xs i x →
    flat_map f (take (i + 1) xs) ≡ flat_map f (take i xs) ++ f x
flat_map_next f xs i x below is =
    ap (flat_map f) (take_more xs i x below) ∙ flat_map-append f (take i xs) (get_or xs i x ∷ [])
    ∙ ap (λ own. flat_map f (take i xs) ++ own) (append-nil (f (get_or xs i x)) ∙ ap f (sym is))

-- its conditions are asked
pub tallied_next : {X : Type 0} (f : X → List Condition) (xs : List X) (i : ℕ) (x : X) (start now later : Tally) → i < length xs → x ≡ get_or xs i x →
    now ≡ tallied (flat_map f (take i xs)) start → later ≡ tallied (f x) now → later ≡ tallied (flat_map f (take (i + 1) xs)) start
tallied_next f xs i x start now later below is before own =
    own ∙ ap (tallied (f x)) before ∙ tallied_again (flat_map f (take i xs)) (f x) start
    ∙ ap (λ conditions. tallied conditions start) (sym (flat_map_next f xs i x below is))

-- the element there, whichever stands for one past the end
pub item_is : {X : Type 0} (xs : List X) (i : ℕ) (d : X) → i < length xs → get_or xs i d ≡ get_or xs i (get_or xs i d)
item_is [] i d below = absurd (omega arith)
item_is (x ∷ xs) zero d below = refl
item_is (x ∷ xs) (suc i) d below = item_is xs i d (omega arith)

-- its condition is asked where it passes a test
pub tallied_next_yes : {X : Type 0} (h : X → Condition) (p : X → Bool) (xs : List X) (i : ℕ) (d : X) (start now later : Tally) → i < length xs →
    now ≡ tallied (map h (filter p (take i xs))) start → p (get_or xs i d) ≡ true → later ≡ tallied (h (get_or xs i d) ∷ []) now →
    later ≡ tallied (map h (filter p (take (i + 1) xs))) start
tallied_next_yes h p xs i d start now later below before passes own =
    let x = get_or xs i d in
    let front = filter p (take i xs) in
    let more : filter p (take (i + 1) xs) ≡ filter p (take i xs) ++ get_or xs i d ∷ [] =
    filter_more p xs i d below ∙ ap (λ b. filter p (take i xs) ++ cond b (get_or xs i d ∷ []) []) passes in
    own ∙ ap (tallied (h x ∷ [])) before ∙ tallied_again (map h front) (h x ∷ []) start
    ∙ ap (λ conditions. tallied conditions start) (sym (ap (map h) more ∙ map-append h front (x ∷ [])))

-- and not where it doesn't
pub tallied_next_no : {X : Type 0} (h : X → Condition) (p : X → Bool) (xs : List X) (i : ℕ) (d : X) (start now later : Tally) → i < length xs →
    now ≡ tallied (map h (filter p (take i xs))) start → p (get_or xs i d) ≡ false → later ≡ now →
    later ≡ tallied (map h (filter p (take (i + 1) xs))) start
tallied_next_no h p xs i d start now later below before fails same =
    let more : filter p (take (i + 1) xs) ≡ filter p (take i xs) =
    filter_more p xs i d below ∙ ap (λ b. filter p (take i xs) ++ cond b (get_or xs i d ∷ []) []) fails ∙ append-nil (filter p (take i xs)) in
    same ∙ before ∙ ap (λ passing. tallied (map h passing) start) (sym more)

-- all that pass have been asked
pub tallied_all : {X : Type 0} (h : X → Condition) (p : X → Bool) (xs passing : List X) (i : ℕ) (start now : Tally) → length xs ≤ i →
    now ≡ tallied (map h (filter p (take i xs))) start → filter p xs ≡ passing → now ≡ tallied (map h passing) start
tallied_all h p xs passing i start now past before are =
    before ∙ ap (λ conditions. tallied conditions start) (ap (map h) (ap (filter p) (take_all i xs past) ∙ are))

-- ---- counted

-- what one more element gives is counted
pub counted_next : {X Y : Type 0} (f : X → List Y) (xs : List X) (i : ℕ) (x : X) (start now later : Tally) → i < length xs → x ≡ get_or xs i x →
    now ≡ counted (length (flat_map f (take i xs))) start → later ≡ counted (length (f x)) now → later ≡ counted (length (flat_map f (take (i + 1) xs))) start
counted_next f xs i x start now later below is before own =
    let sum : length (flat_map f (take i xs)) + length (f x) ≡ length (flat_map f (take (i + 1) xs)) =
    sym (ap length (flat_map_next f xs i x below is) ∙ length-append (flat_map f (take i xs)) (f x)) in
    own ∙ ap (counted (length (f x))) before
    ∙ ap (λ n. record start { count = n }) (add_assoc start.count (length (flat_map f (take i xs))) (length (f x)))
    ∙ ap (λ n. counted n start) sum

-- lists that are as long give lists that are as long
pub length-flat_map_same : {X Y Z : Type 0} (f : X → List Y) (g : X → List Z) → ((x : X) → length (f x) ≡ length (g x)) → (xs : List X) → length (flat_map f xs) ≡ length (flat_map g xs)
length-flat_map_same f g same [] = refl
length-flat_map_same f g same (x ∷ xs) =
    omega (arith, length-append (f x) (flat_map f xs), length-append (g x) (flat_map g xs), same x, length-flat_map_same f g same xs)

-- ---- effects among those on a class

-- what passes both of two tests, where the first implies the second
pub filter_within : {X : Type 0} (p q : X → Bool) → ((x : X) → p x ≡ true → q x ≡ true) → (xs : List X) → filter p (filter q xs) ≡ filter p xs
filter_within p q within [] = refl
filter_within p q within (x ∷ xs) =
    let rest = filter_within p q within xs in
    let first = λ (b : Bool). filter p (cond b (x ∷ filter q xs) (filter q xs)) in
    elim (cases_Bool (q x)) [
      | inl passes ↦ ap first passes ∙ ap (λ l. cond (p x) (x ∷ l) l) rest
      | inr fails ↦
          let neither : p x ≡ false = elim (cases_Bool (p x)) [ inl is ↦ absurd (false≢true (sym fails ∙ within x is)) | inr isnt ↦ isnt ] in
          ap first fails ∙ rest ∙ ap (λ b. cond b (x ∷ filter p xs) (filter p xs)) (sym neither)
    ]

-- the first of two tests that both pass
pub first_passes : (a b : Bool) → (a && b) ≡ true → a ≡ true
first_passes true b both = refl
first_passes false b both = both

-- the effects for an access are among those on its class
pub effects_for-on : (templates : List Template) (access : Access) (scope : ℕ) →
    filter (λ (e : Effect). same_access e.access access) (effects_on templates scope access.class) ≡ effects_for templates access scope
effects_for-on templates access scope =
    filter_within (λ (e : Effect). same_access e.access access) (is_on access.class) (λ e same. first_passes (e.access.class == access.class) _ same) (effects_of templates scope)

-- as many conditions are asked of an access as there are effects for it
pub length-asked_access : (templates : List Template) (site : Site) (facts : List Given) (access : Access) (element : Linear) (s : State) →
    length (asked_access templates site facts access element s) ≡ length (all_effects_for templates access s.scopes)
length-asked_access templates site facts access element s =
    length-flat_map_same (asked_of templates site facts access element) (λ (start : Start). effects_for templates access start.scope)
    (λ start. length-map (effects_for templates access start.scope) _) s.scopes

-- where no more are kept, what is asked about a call is counted
pub call_full : (templates : List Template) (site : Site) (values : List Linear) (s : State) (e : Effect) (scopes : List Start) (now later : Tally) → scopes ≡ s.scopes →
    4096 ≤ length now.kept → later ≡ counted (length (all_effects_for templates e.access scopes)) now → later ≡ tallied (asked_call templates site values s e) now
call_full templates site values s e scopes now later same full is =
    let as_many : length (all_effects_for templates e.access scopes) ≡ length (asked_call templates site values s e) =
    ap (λ starts. length (all_effects_for templates e.access starts)) same
    ∙ sym (length-asked_access templates site (s.items ++ effect_rows e (symbol s.next) values ∷ []) e.access (symbol s.next) s) in
    is ∙ ap (λ n. counted n now) as_many ∙ tallied_full (asked_call templates site values s e) now full
