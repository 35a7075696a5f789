-- What is read so far leads to what is left: how outcomes of the parts of a rule make the outcome of the rule.
use Rattle.std.proofs.Common.{sym, ap, ◌∙◌, subst, refl}
use Rattle.std.specs.Prelude.{◌≡◌, ℕ, ℤ, pos, Option, None, Some, List, [], ◌∷◌, ◌++◌}
use Rattle.std.proofs.lemmas.List.{append_assoc}
use Rattle.lq_tree.specs.declared.place.Place.{Place}
use Rattle.lq_parser.specs.declared.lexeme.Lexeme.{Lexeme}
use Rattle.lq_parser.specs.Lexemes.{first, name_at, number_at}
use Rattle.lq_parser.specs.Sequence.{Then, then, Makes, makes, Nothing, nothing, IsOne, one, Holds, held, IsName, IsNumber}
use Rattle.lq_parser.specs.Outcome.{Done, Fails, Begins, Lacks, BeginsName, LacksName, Anything}
use Rattle.lq_parser.proofs.Apart.{heads, tails, some_same, names, numbers}

abbrev pub Rule : Type 0 → Type 1
Rule A = List Lexeme → A → Type 0

abbrev pub Follow : Type 1
Follow = Option Lexeme → Type 0

-- what K makes of the rest is what X makes of the whole
pub record Leads {A : Type 0} (X : List Lexeme → A → Type 0) (F : Option Lexeme → Type 0) (ls : List Lexeme) (K : List Lexeme → A → Type 0) (rest : List Lexeme) : Type 0 where
  pub done : (v : A) (end : List Lexeme) → Done K F rest v end → Done X F ls v end
  pub fails : (end : List Lexeme) → Fails K F rest end → Fails X F ls end

-- what stands first does not depend on what comes later
first_agrees : (x other rest : List Lexeme) → first other ≡ first rest → first (x ++ other) ≡ first (x ++ rest)
first_agrees [] other rest h = h
first_agrees (l ∷ x) other rest h = refl

-- the parts of a sequence
pub parts : {A B : Type 0} {X : List Lexeme → A → Type 0} {K : A → List Lexeme → B → Type 0} {ls : List Lexeme} {b : B}
    → Then X K ls b → (a : A) × (f g : List Lexeme) × (ls ≡ f ++ g) × X f a × K a g b
parts (then {front = f} {back = g} {a = a} x k) = (a, f, g, refl, x, k)

-- a part that is read leads to what goes on with its value
pub leads_then : {A B : Type 0} {Y : List Lexeme → A → Type 0} {K : A → List Lexeme → B → Type 0} {G F : Option Lexeme → Type 0} {ls rest : List Lexeme} {a : A}
    → ((a : A) (b : B) (g r : List Lexeme) → K a g b → F (first r) → G (first (g ++ r)))
    → Done Y G ls a rest → Leads (Then Y K) F ls (K a) rest
leads_then {B = B} {Y = Y} {K = K} {F = F} {ls = ls} {rest = rest} {a = a} follow d = record { done = done; fails = fails }
  where
    same : (e f r : List Lexeme) (w : B) (other : List Lexeme) → first (e ++ other) ≡ first rest → (d.front ++ e) ++ other ≡ f ++ r → Then Y K f w → F (first r)
        → (g : List Lexeme) × K a g w × (e ++ other ≡ g ++ r)
    same e f r w other h eq x s =
        let p = parts x in
        let found = d.only (e ++ other) p.1 (p.2 ++ r) p.0 h (sym (append_assoc d.front e other) ∙ eq ∙ ap (λ u. u ++ r) p.3 ∙ append_assoc p.1 p.2 r) p.4 (follow p.0 w p.2 r p.5 s) in
        (p.2, subst (λ b. K b p.2 w) found.0 p.5, sym found.1)

    done : (v : B) (end : List Lexeme) → Done (K a) F rest v end → Done (Then Y K) F ls v end
    done v end e = record {
      front = d.front ++ e.front;
      split = d.split ∙ ap (λ u. d.front ++ u) e.split ∙ sym (append_assoc d.front e.front end);
      spelled = then d.spelled e.spelled;
      only = λ other f r w h eq x s.
          let m = same e.front f r w other (first_agrees e.front other end h ∙ ap first (sym e.split)) eq x s in
          e.only other m.0 r w h m.2 m.1 s;
    }

    fails : (end : List Lexeme) → Fails (K a) F rest end → Fails (Then Y K) F ls end
    fails end e = record {
      front = d.front ++ e.front;
      split = d.split ∙ ap (λ u. d.front ++ u) e.split ∙ sym (append_assoc d.front e.front end);
      more = e.more;
      value = e.value;
      viable = rw (append_assoc d.front e.front e.more) (then d.spelled e.viable);
      dead = λ other f r w h eq x s.
          let m = same e.front f r w other (first_agrees e.front other end h ∙ ap first (sym e.split)) eq x s in
          e.dead other m.0 r w h m.2 m.1 s;
    }

-- a rule that some lexemes spell
abbrev pub Completes : {B : Type 0} → (List Lexeme → B → Type 0) → Type 0
Completes {B} X = (more : List Lexeme) × (value : B) × X more value

-- a place for lexemes that complete a rule
abbrev pub anywhere : Place
anywhere = record { line = 1; col = 1 }

pub complete_one : {make : Place → Lexeme} → Completes (IsOne make)
complete_one {make = make} = (make anywhere ∷ [], tt, one)

pub complete_name : Completes IsName
complete_name = (name_at [] anywhere ∷ [], [], held)

pub complete_then : {A B : Type 0} {X : List Lexeme → A → Type 0} {K : A → List Lexeme → B → Type 0} → Completes X → ((a : A) → Completes (K a)) → Completes (Then X K)
complete_then x k = (x.0 ++ (k x.1).0, (k x.1).1, then x.2 (k x.1).2)

pub complete_makes : {A B : Type 0} {X : List Lexeme → A → Type 0} {f : A → B} → Completes X → Completes (Makes X f)
complete_makes {f = f} x = (x.0, f x.1, makes x.2)

-- a part that can't be read ends the rule
pub fails_then : {A B : Type 0} {Y : List Lexeme → A → Type 0} {K : A → List Lexeme → B → Type 0} {G F : Option Lexeme → Type 0} {ls end : List Lexeme}
    → ((a : A) (b : B) (g r : List Lexeme) → K a g b → F (first r) → G (first (g ++ r)))
    → ((a : A) → Completes (K a))
    → Fails Y G ls end → Fails (Then Y K) F ls end
fails_then follow complete e = record {
  front = e.front;
  split = e.split;
  more = e.more ++ (complete e.value).0;
  value = (complete e.value).1;
  viable = rw⁻¹ (append_assoc e.front e.more (complete e.value).0) (then e.viable (complete e.value).2);
  dead = λ other f r w h eq x s.
      let p = parts x in
      e.dead other p.1 (p.2 ++ r) p.0 h (eq ∙ ap (λ u. u ++ r) p.3 ∙ append_assoc p.1 p.2 r) p.4 (follow p.0 w p.2 r p.5 s);
}

-- a rule that is another one where the lexemes begin so
pub leads_choose : {A : Type 0} {X R : List Lexeme → A → Type 0} {F : Option Lexeme → Type 0} {ls : List Lexeme}
    → ((u : List Lexeme) (v : A) → R u v → X u v)
    → ((u r : List Lexeme) (v : A) → first (u ++ r) ≡ first ls → X u v → F (first r) → R u v)
    → Leads X F ls R ls
leads_choose {X = X} {R = R} {F = F} {ls = ls} into from = record {
  done = λ v end e. record {
    front = e.front;
    split = e.split;
    spelled = into _ _ e.spelled;
    only = λ other f r w h eq x s. e.only other f r w h eq (from f r w (sym (ap first eq) ∙ first_agrees e.front other end h ∙ ap first (sym e.split)) x s) s;
  };
  fails = λ end e. record {
    front = e.front;
    split = e.split;
    more = e.more;
    value = e.value;
    viable = into _ _ e.viable;
    dead = λ other f r w h eq x s. e.dead other f r w h eq (from f r w (sym (ap first eq) ∙ first_agrees e.front other end h ∙ ap first (sym e.split)) x s) s;
  };
}

pub leads_same : {A : Type 0} {X : List Lexeme → A → Type 0} {F : Option Lexeme → Type 0} {ls : List Lexeme} → Leads X F ls X ls
leads_same = record { done = λ v end e. e; fails = λ end e. e }

pub leads_on : {A : Type 0} {X K M : List Lexeme → A → Type 0} {F : Option Lexeme → Type 0} {ls mid rest : List Lexeme}
    → Leads X F ls K mid → Leads K F mid M rest → Leads X F ls M rest
leads_on a b = record { done = λ v end e. a.done v end (b.done v end e); fails = λ end e. a.fails end (b.fails end e) }

-- one lexeme that is there
pub done_one : {make : Place → Lexeme} {ls rest : List Lexeme} → Begins make ls rest → Done (IsOne make) Anything ls tt rest
done_one {make = make} {ls = ls} {rest = rest} b = record {
  front = make b.0 ∷ [];
  split = b.1;
  spelled = one;
  only = λ other f r v h eq x s. only f r v other eq x;
}
  where
    only : (f r : List Lexeme) (v : Unit {0}) (other : List Lexeme) → make b.0 ∷ other ≡ f ++ r → IsOne make f v → (v ≡ tt) × (r ≡ other)
    only f r v other eq one = (refl, sym (tails eq))

pub leads_one : {B : Type 0} {make : Place → Lexeme} {K : Unit {0} → List Lexeme → B → Type 0} {F : Option Lexeme → Type 0} {ls rest : List Lexeme}
    → Begins make ls rest → Leads (Then (IsOne make) K) F ls (K tt) rest
leads_one b = leads_then (λ a v g r x s. tt) (done_one b)

-- one lexeme that is not there
pub fails_one : {make : Place → Lexeme} {ls : List Lexeme} → Lacks make ls → Fails (IsOne make) Anything ls ls
fails_one {make = make} {ls = ls} lacks = record {
  front = [];
  split = refl;
  more = make anywhere ∷ [];
  value = tt;
  viable = one;
  dead = λ other f r v h eq x s. dead f r v other h eq x;
}
  where
    dead : (f r : List Lexeme) (v : Unit {0}) (other : List Lexeme) → first other ≡ first ls → other ≡ f ++ r → IsOne make f v → ⊥
    dead f r v other h eq (one {at = at}) = lacks at (sym h ∙ ap first eq)

pub stuck_one : {B : Type 0} {make : Place → Lexeme} {K : Unit {0} → List Lexeme → B → Type 0} {F : Option Lexeme → Type 0} {ls : List Lexeme}
    → Completes (K tt) → Lacks make ls → Fails (Then (IsOne make) K) F ls ls
stuck_one complete lacks = fails_then (λ a v g r x s. tt) (λ a. complete) (fails_one lacks)

-- one lexeme that holds a value and is there
done_held : {A : Type 0} {make : A → Place → Lexeme} {ls rest : List Lexeme} {value : A}
    → ((v w : A) (at at' : Place) → make v at ≡ make w at' → v ≡ w) → Begins (make value) ls rest → Done (Holds make) Anything ls value rest
done_held {A = A} {make = make} {ls = ls} {rest = rest} {value = value} same b = record {
  front = make value b.0 ∷ [];
  split = b.1;
  spelled = held;
  only = λ other f r v h eq x s. only f r v other eq x;
}
  where
    only : (f r : List Lexeme) (v : A) (other : List Lexeme) → make value b.0 ∷ other ≡ f ++ r → Holds make f v → (v ≡ value) × (r ≡ other)
    only f r v other eq (held {at = at} {value = w}) = (same w value at b.0 (heads (sym eq)), tails (sym eq))

-- one lexeme that holds a value and is not there
fails_held : {A : Type 0} {make : A → Place → Lexeme} {ls : List Lexeme} (value : A) → ((v : A) → Lacks (make v) ls) → Fails (Holds make) Anything ls ls
fails_held {A = A} {make = make} {ls = ls} value lacks = record {
  front = [];
  split = refl;
  more = make value anywhere ∷ [];
  value = value;
  viable = held;
  dead = λ other f r v h eq x s. dead f r v other h eq x;
}
  where
    dead : (f r : List Lexeme) (v : A) (other : List Lexeme) → first other ≡ first ls → other ≡ f ++ r → Holds make f v → ⊥
    dead f r v other h eq (held {at = at} {value = w}) = lacks w at (sym h ∙ ap first eq)

-- a name that is there, or not
pub done_name : {ls rest : List Lexeme} {text : List ℕ} → BeginsName ls text rest → Done IsName Anything ls text rest
done_name b = done_held (λ v w at at' e. some_same (names (ap Some e))) b

pub leads_name : {B : Type 0} {K : List ℕ → List Lexeme → B → Type 0} {F : Option Lexeme → Type 0} {ls rest : List Lexeme} {text : List ℕ}
    → BeginsName ls text rest → Leads (Then IsName K) F ls (K text) rest
leads_name b = leads_then (λ a v g r x s. tt) (done_name b)

pub fails_name : {ls : List Lexeme} → LacksName ls → Fails IsName Anything ls ls
fails_name lacks = fails_held [] lacks

pub stuck_name : {B : Type 0} {K : List ℕ → List Lexeme → B → Type 0} {F : Option Lexeme → Type 0} {ls : List Lexeme}
    → ((text : List ℕ) → Completes (K text)) → LacksName ls → Fails (Then IsName K) F ls ls
stuck_name complete lacks = fails_then (λ a v g r x s. tt) complete (fails_name lacks)

-- a number that is there, or not
pub done_number : {ls rest : List Lexeme} {value : ℤ} → Begins (number_at value) ls rest → Done IsNumber Anything ls value rest
done_number b = done_held (λ v w at at' e. some_same (numbers (ap Some e))) b

pub fails_number : {ls : List Lexeme} → ((value : ℤ) → Lacks (number_at value) ls) → Fails IsNumber Anything ls ls
fails_number lacks = fails_held (pos 0) lacks

-- the last part of a rule
pub leads_makes : {A B : Type 0} {X : List Lexeme → A → Type 0} {f : A → B} {F : Option Lexeme → Type 0} {ls rest : List Lexeme} {a : A}
    → Done X F ls a rest → Done (Makes X f) F ls (f a) rest
leads_makes {X = X} {f = made} {F = F} {ls = ls} {rest = rest} {a = a} d = record {
  front = d.front;
  split = d.split;
  spelled = makes d.spelled;
  only = λ other f r v h eq x s. only f r v other h eq x s;
}
  where
    only : (f r : List Lexeme) (v : _) (other : List Lexeme) → first other ≡ first rest → d.front ++ other ≡ f ++ r → Makes X made f v → F (first r) → (v ≡ made a) × (r ≡ other)
    only f r v other h eq (makes {a = b} x) s = let o = d.only other f r b h eq x s in (ap made o.0, o.1)

pub fails_makes : {A B : Type 0} {X : List Lexeme → A → Type 0} {f : A → B} {F : Option Lexeme → Type 0} {ls end : List Lexeme}
    → Fails X F ls end → Fails (Makes X f) F ls end
fails_makes {X = X} {f = made} {F = F} {ls = ls} {end = end} e = record {
  front = e.front;
  split = e.split;
  more = e.more;
  value = made e.value;
  viable = makes e.viable;
  dead = λ other f r v h eq x s. dead f r v other h eq x s;
}
  where
    dead : (f r : List Lexeme) (v : _) (other : List Lexeme) → first other ≡ first end → e.front ++ other ≡ f ++ r → Makes X made f v → F (first r) → ⊥
    dead f r v other h eq (makes {a = b} x) s = e.dead other f r b h eq x s

-- nothing more to read
pub done_nothing : {A : Type 0} {value : A} {F : Option Lexeme → Type 0} {ls : List Lexeme} → Done (Nothing value) F ls value ls
done_nothing {value = value} {ls = ls} = record { front = []; split = refl; spelled = nothing; only = λ other f r v h eq x s. only f r v other eq x }
  where
    only : (f r : List Lexeme) (v : _) (other : List Lexeme) → other ≡ f ++ r → Nothing value f v → (v ≡ value) × (r ≡ other)
    only f r v other eq nothing = (refl, sym eq)
