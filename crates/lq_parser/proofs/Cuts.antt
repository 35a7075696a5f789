-- More on what leads to what: a lexeme that was read before, operators, and a part that is read but refused.
use Rattle.std.proofs.Common.{sym, ap, ◌∙◌, subst, refl}
use Rattle.std.specs.Prelude.{◌≡◌, Option, None, Some, List, [], ◌∷◌, ◌++◌}
use Rattle.std.proofs.lemmas.List.{append_assoc}
use Rattle.lq_tree.specs.declared.place.Place.{Place}
use Rattle.lq_tree.specs.declared.expr.BinOp.{BinOp}
use Rattle.lq_parser.specs.declared.lexeme.Lexeme.{Lexeme}
use Rattle.lq_parser.specs.declared.lexeme.Sign.{Sign}
use Rattle.lq_parser.specs.Lexemes.{first, sign_at}
use Rattle.lq_parser.specs.Sequence.{Then, then, Makes, makes, IsOne, one}
use Rattle.lq_parser.specs.Outcome.{Done, Fails, BeginsAs, Anything}
use Rattle.lq_parser.proofs.Apart.{signs, heads, tails, some_same}
use Rattle.lq_parser.proofs.Leads.{Leads, Completes, leads_then, fails_then, parts}

-- a lexeme that is read leads to what may stand behind it, where nothing that is spelled ends before it
pub leads_past : {A : Type 0} {X : List Lexeme → A → Type 0} {F : Option Lexeme → Type 0} {t : Lexeme} {ls rest : List Lexeme}
    → ((v : A) → X [] v → F (Some t) → ⊥) → ls ≡ t ∷ rest → Leads X F ls (λ u v. X (t ∷ u) v) rest
leads_past {A = A} {X = X} {F = F} {t = t} {ls = ls} {rest = rest} never begins = record { done = done; fails = fails }
  where
    done : (v : A) (end : List Lexeme) → Done (λ u w. X (t ∷ u) w) F rest v end → Done X F ls v end
    done v end e = record {
      front = t ∷ e.front;
      split = begins ∙ ap (λ u. t ∷ u) e.split;
      spelled = e.spelled;
      only = λ other f r w h eq x s. only f other r w h eq x s;
    }
      where
        only : (f other r : List Lexeme) (w : A) → first other ≡ first end → (t ∷ e.front) ++ other ≡ f ++ r → X f w → F (first r) → (w ≡ v) × (r ≡ other)
        only [] other r w h eq x s = absurd (never w x (subst F (sym (ap first eq)) s))
        only (l ∷ f) other r w h eq x s = e.only other f r w h (tails eq) (subst (λ z. X (z ∷ f) w) (sym (heads eq)) x) s

    fails : (end : List Lexeme) → Fails (λ u w. X (t ∷ u) w) F rest end → Fails X F ls end
    fails end e = record {
      front = t ∷ e.front;
      split = begins ∙ ap (λ u. t ∷ u) e.split;
      more = e.more;
      value = e.value;
      viable = e.viable;
      dead = λ other f r w h eq x s. dead f other r w h eq x s;
    }
      where
        dead : (f other r : List Lexeme) (w : A) → first other ≡ first end → (t ∷ e.front) ++ other ≡ f ++ r → X f w → F (first r) → ⊥
        dead [] other r w h eq x s = never w x (subst F (sym (ap first eq)) s)
        dead (l ∷ f) other r w h eq x s = e.dead other f r w h (tails eq) (subst (λ z. X (z ∷ f) w) (sym (heads eq)) x) s

-- the same for a rule that always takes a lexeme
pub leads_cut : {A : Type 0} {X : List Lexeme → A → Type 0} {F : Option Lexeme → Type 0} {t : Lexeme} {ls rest : List Lexeme}
    → ((v : A) → X [] v → ⊥) → ls ≡ t ∷ rest → Leads X F ls (λ u v. X (t ∷ u) v) rest
leads_cut never begins = leads_past (λ v x s. never v x) begins

-- one sign that stands for an operator in this way
pub data IsAs (meaning : Sign → Option BinOp) : List Lexeme → BinOp → Type 0 where
  as_sign : {s : Sign} {at : Place} {op : BinOp} → meaning s ≡ Some op → IsAs meaning (sign_at s at ∷ []) op

abbrev pub meant : (Sign → Option BinOp) → Option Sign → Option BinOp
meant meaning None = None
meant meaning (Some s) = meaning s

pub done_as : {meaning : Sign → Option BinOp} {ls rest : List Lexeme} {op : BinOp} → BeginsAs meaning ls op rest → Done (IsAs meaning) Anything ls op rest
done_as {meaning = meaning} {ls = ls} {rest = rest} {op = op} b = record {
  front = sign_at b.0 b.1 ∷ [];
  split = b.2;
  spelled = as_sign b.3;
  only = λ other f r v h eq x s. only f r v other eq x;
}
  where
    only : (f r : List Lexeme) (v : BinOp) (other : List Lexeme) → sign_at b.0 b.1 ∷ other ≡ f ++ r → IsAs meaning f v → (v ≡ op) × (r ≡ other)
    only f r v other eq (as_sign {s = s} {at = at} means) =
        (some_same (sym means ∙ sym (ap (meant meaning) (signs (ap first eq))) ∙ b.3), sym (tails eq))

pub leads_as : {B : Type 0} {meaning : Sign → Option BinOp} {K : BinOp → List Lexeme → B → Type 0} {F : Option Lexeme → Type 0} {ls rest : List Lexeme} {op : BinOp}
    → BeginsAs meaning ls op rest → Leads (Then (IsAs meaning) K) F ls (K op) rest
leads_as b = leads_then (λ a v g r x s. tt) (done_as b)

-- a part that is read, and that nothing goes on with, while something longer would do
pub fails_refused : {A B : Type 0} {Y : List Lexeme → A → Type 0} {K : A → List Lexeme → B → Type 0} {G F : Option Lexeme → Type 0} {ls rest : List Lexeme} {a : A}
    → ((a : A) (b : B) (g r : List Lexeme) → K a g b → F (first r) → G (first (g ++ r)))
    → ((b : B) (g r : List Lexeme) → K a g b → F (first r) → ⊥)
    → ((front : List Lexeme) → Y front a → (more : List Lexeme) × (b : B) × Then Y K (front ++ more) b)
    → Done Y G ls a rest → Fails (Then Y K) F ls rest
fails_refused {A = A} {B = B} {Y = Y} {K = K} {F = F} {ls = ls} {rest = rest} {a = a} follow refused longer d =
    let m = longer d.front d.spelled in
    record {
      front = d.front;
      split = d.split;
      more = m.0;
      value = m.1;
      viable = m.2;
      dead = λ other f r w h eq x s. dead other f r w h eq x s;
    }
  where
    dead : (other f r : List Lexeme) (w : B) → first other ≡ first rest → d.front ++ other ≡ f ++ r → Then Y K f w → F (first r) → ⊥
    dead other f r w h eq x s =
        let p = parts x in
        let found = d.only other p.1 (p.2 ++ r) p.0 h (eq ∙ ap (λ u. u ++ r) p.3 ∙ append_assoc p.1 p.2 r) p.4 (follow p.0 w p.2 r p.5 s) in
        refused w p.2 r (subst (λ b. K b p.2 w) found.0 p.5) s

-- what stands first in what one lexeme begins
pub first_one : {make : Place → Lexeme} {g : List Lexeme} {u : Unit {0}} → IsOne make g u → (r : List Lexeme) → (at : Place) × (first (g ++ r) ≡ Some (make at))
first_one (one {at = at}) r = (at, refl)

pub first_makes : {A : Type 0} {make : Place → Lexeme} {f : Unit {0} → A} {g : List Lexeme} {v : A}
    → Makes (IsOne make) f g v → (r : List Lexeme) → (at : Place) × (first (g ++ r) ≡ Some (make at))
first_makes (makes x) r = first_one x r

pub first_then : {A : Type 0} {make : Place → Lexeme} {K : Unit {0} → List Lexeme → A → Type 0} {g : List Lexeme} {v : A}
    → Then (IsOne make) K g v → (r : List Lexeme) → (at : Place) × (first (g ++ r) ≡ Some (make at))
first_then (then one k) r = (_, refl)

-- what may follow the whole may follow its last part
pub done_under : {A : Type 0} {X : List Lexeme → A → Type 0} {G F : Option Lexeme → Type 0} {ls rest : List Lexeme} {a : A}
    → ((next : Option Lexeme) → F next → G next) → Done X G ls a rest → Done X F ls a rest
done_under follow d = record {
  front = d.front;
  split = d.split;
  spelled = d.spelled;
  only = λ other f r v h eq x s. d.only other f r v h eq x (follow _ s);
}

pub fails_under : {A : Type 0} {X : List Lexeme → A → Type 0} {G F : Option Lexeme → Type 0} {ls end : List Lexeme}
    → ((next : Option Lexeme) → F next → G next) → Fails X G ls end → Fails X F ls end
fails_under follow e = record {
  front = e.front;
  split = e.split;
  more = e.more;
  value = e.value;
  viable = e.viable;
  dead = λ other f r v h eq x s. e.dead other f r v h eq x (follow _ s);
}

-- a part that something always follows
pub leads_before : {A B : Type 0} {Y : List Lexeme → A → Type 0} {K : A → List Lexeme → B → Type 0} {G F : Option Lexeme → Type 0} {ls rest : List Lexeme} {a : A}
    → ((a : A) (b : B) (g r : List Lexeme) → K a g b → G (first (g ++ r))) → Done Y G ls a rest → Leads (Then Y K) F ls (K a) rest
leads_before follow d = leads_then (λ a b g r x s. follow a b g r x) d

pub fails_before : {A B : Type 0} {Y : List Lexeme → A → Type 0} {K : A → List Lexeme → B → Type 0} {G F : Option Lexeme → Type 0} {ls end : List Lexeme}
    → ((a : A) (b : B) (g r : List Lexeme) → K a g b → G (first (g ++ r))) → ((a : A) → Completes (K a)) → Fails Y G ls end → Fails (Then Y K) F ls end
fails_before follow complete e = fails_then (λ a b g r x s. follow a b g r x) complete e
