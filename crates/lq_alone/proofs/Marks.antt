-- Marks: the accesses of a run with the leaves that made them; which are apart, and what they leave of a memory.
use Rattle.std.proofs.Common.{◌≡◌, ◌≢◌, ℕ, ◌==◌, ℤ, Bool, true, false, ◌&&◌, ◌||◌, List, [], ◌∷◌, ◌++◌, map, Option, None, Some, is_some, refl, sym, ap, ◌∙◌, subst, inl, inr, ◌⊎◌, ⊎_elim, arith}
use Rattle.std.specs.Prelude.{Contains}
use Rattle.std.proofs.lemmas.Bool.{and_from, or_left, eq-eqb, ne_eqb, cases_eq}
use Rattle.std.proofs.lemmas.List.Elements.{Contains-append_left, Contains-append_right, Contains-append_cases}
use Rattle.lq_meaning.specs.declared.memory.Address.{Address}
use Rattle.lq_meaning.specs.Memory.{Blocks, word_at, with_word, reach}
use Rattle.lq_meaning.specs.declared.action.Action.{Action}
use Rattle.lq_meaning.specs.World.{World}
use Rattle.lq_meaning.specs.Task.{Spot}
use Rattle.lq_meaning.proofs.Writes.{Lies, SameShape-with_word, reach-with_word, word_at-with_word_other, with_word_comm}
use Rattle.lq_log.specs.declared.entry.Entry.{Entry}
use Rattle.lq_alone.specs.Alone.{Access, same_address, clash, accesses_of, write, after}

-- an access, and the leaf that made it
pub record Mark : Type 0 where
  pub spot : Spot
  pub access : Access

abbrev pub accesses : List Mark → List Access
accesses marks = map (λ (m : Mark). m.access) marks

-- the marks of an action
abbrev pub marks_at : Spot → List Access → List Mark
marks_at at found = map (λ (a : Access). record { spot = at; access = a }) found

abbrev pub marks_of : Spot → Action → World → List Mark
marks_of at action w = marks_at at (accesses_of action w)

-- what a mark adds to the log
abbrev pub entry_of : Mark → Entry
entry_of m =
    record {
      path = m.spot.path;
      write = is_some m.access.written;
      block = m.access.address.block;
      element = m.access.address.element;
      field = m.access.address.field;
      at = m.spot.place;
    }

-- the memory that marks leave
abbrev pub past : Blocks → List Mark → Blocks
past memory marks = after memory (accesses marks)

-- the first marks are among the others
abbrev pub Within : List Mark → List Mark → Type 0
Within marks others = (m : Mark) → Contains marks m → Contains others m

-- no mark of the one clashes with one of the other
abbrev pub Apart : List Mark → List Mark → Type 0
Apart marks others = (m n : Mark) → Contains marks m → Contains others n → clash m.access n.access ≡ false

-- each mark's address lies in the memory
abbrev pub AllLie : Blocks → List Mark → Type 0
AllLie memory marks = (m : Mark) → Contains marks m → Lies memory m.access.address

-- ---- lists of marks

pub Contains-first : {X : Type 0} (x : X) (xs : List X) → Contains (x ∷ xs) x
Contains-first x xs = Contains-append_left (x ∷ []) xs x (0, omega arith, refl)

pub Contains-others : {X : Type 0} (x y : X) (xs : List X) → Contains xs y → Contains (x ∷ xs) y
Contains-others x y xs c = Contains-append_right (x ∷ []) xs y c

-- no list without elements has one
pub Contains-none : {X : Type 0} (x : X) → Contains [] x → ⊥
Contains-none x c = omega (arith, c.1)

-- an element of a list is its first, or one of the others
pub Contains-cases : {X : Type 0} (x y : X) (xs : List X) → Contains (x ∷ xs) y → (y ≡ x) ⊎ Contains xs y
Contains-cases x y xs c = ⊎_elim (λ here. inl (only x y here)) inr (Contains-append_cases (x ∷ []) xs y c) where
  only : {X : Type 0} (x y : X) → Contains (x ∷ []) y → y ≡ x
  only x y c = let first : 0 ≡ c.0 = omega (arith, c.1) in sym (rw (← first) at c.2)

pub accesses-append : (marks others : List Mark) → accesses (marks ++ others) ≡ accesses marks ++ accesses others
accesses-append [] others = refl
accesses-append (m ∷ marks) others = ap (λ (all : List Access). m.access ∷ all) (accesses-append marks others)

pub accesses-marks_at : (at : Spot) (found : List Access) → accesses (marks_at at found) ≡ found
accesses-marks_at at [] = refl
accesses-marks_at at (a ∷ found) = ap (λ (all : List Access). a ∷ all) (accesses-marks_at at found)

pub after-append : (memory : Blocks) (found others : List Access) → after memory (found ++ others) ≡ after (after memory found) others
after-append memory [] others = refl
after-append memory (a ∷ found) others = after-append (write memory a.address a.written) found others

-- marks behind others
pub past-append : (memory : Blocks) (marks others : List Mark) → past memory (marks ++ others) ≡ past (past memory marks) others
past-append memory marks others = ap (after memory) (accesses-append marks others) ∙ after-append memory (accesses marks) (accesses others)

pub Within-append : (marks others all : List Mark) → Within marks all → Within others all → Within (marks ++ others) all
Within-append marks others all first second m c = ⊎_elim (first m) (second m) (Contains-append_cases marks others m c)

pub Within-both : (marks others all more : List Mark) → Within marks all → Within others more → Within (marks ++ others) (all ++ more)
Within-both marks others all more first second =
    Within-append marks others (all ++ more) (λ m c. Contains-append_left all more m (first m c)) (λ m c. Contains-append_right all more m (second m c))

-- ---- apart marks

-- an address is the same as one of equal parts
same_address-refl : (a : Address) → same_address a a ≡ true
same_address-refl a = and_from _ _ (and_from _ _ (eq-eqb a.block a.block refl) (eq-eqb a.element a.element refl)) (eq-eqb a.field a.field refl)

-- two accesses that don't clash, of which one writes, are of two addresses
differ : (a b : Access) → clash a b ≡ false → (is_some a.written || is_some b.written) ≡ true → a.address ≢ b.address
differ a b apart writes e =
    let same : same_address a.address b.address ≡ true = subst (λ x. same_address a.address x ≡ true) e (same_address-refl a.address) in
    let both : clash a b ≡ true = and_from _ _ same writes in
    absurd cc

-- numbers are compared the same way round either way
pub eqb-sym : (a b : ℕ) → (a == b) ≡ (b == a)
eqb-sym a b = ⊎_elim (λ e. eq-eqb a b e ∙ sym (eq-eqb b a (sym e))) (λ e. ne_eqb a b e ∙ sym (ne_eqb b a (λ f. e (sym f)))) (cases_eq a b)

pub clash-sym : (a b : Access) → clash a b ≡ clash b a
clash-sym a b =
    λ i.
    (eqb-sym a.address.block b.address.block i && eqb-sym a.address.element b.address.element i && eqb-sym a.address.field b.address.field i)
    && either (is_some a.written) (is_some b.written) i where
      either : (x y : Bool) → (x || y) ≡ (y || x)
      either true true = refl
      either true false = refl
      either false true = refl
      either false false = refl

pub Apart-sym : (marks others : List Mark) → Apart marks others → Apart others marks
Apart-sym marks others apart m n c d = clash-sym m.access n.access ∙ apart n m d c

-- ---- what one access leaves

-- every address lies where it did
Lies-with_word : (memory : Blocks) (a : Address) (word : ℤ) (b : Address) → Lies memory a → Lies memory b → Lies (with_word memory a word) b
Lies-with_word memory a word b la lb =
    let shape = SameShape-with_word memory a word b.block la in
    record { element = rw (shape.fields, shape.words) lb.element; field = rw shape.fields lb.field }

Lies-write : (memory : Blocks) (a : Address) (written : Option ℤ) (b : Address) → Lies memory a → Lies memory b → Lies (write memory a written) b
Lies-write memory a None b la lb = lb
Lies-write memory a (Some word) b la lb = Lies-with_word memory a word b la lb

-- and lay where it does
Lies-unwrite : (memory : Blocks) (a : Address) (written : Option ℤ) (b : Address) → Lies memory a → Lies (write memory a written) b → Lies memory b
Lies-unwrite memory a None b la lb = lb
Lies-unwrite memory a (Some word) b la lb =
    let shape = SameShape-with_word memory a word b.block la in
    record { element = rw (← shape.fields, ← shape.words) lb.element; field = rw (← shape.fields) lb.field }

reach-write : (memory : Blocks) (a : Address) (written : Option ℤ) (p i : ℤ) (field : ℕ) → Lies memory a → reach (write memory a written) p i field ≡ reach memory p i field
reach-write memory a None p i field la = refl
reach-write memory a (Some word) p i field la = reach-with_word memory a word p i field la

-- a word that is read at an address that is apart
word_at-write : (memory : Blocks) (a : Access) (b : Address) → Lies memory a.address → Lies memory b →
    clash a (record { address = b; written = None }) ≡ false → word_at (write memory a.address a.written) b ≡ word_at memory b
word_at-write memory a b la lb apart = by_written a.written refl where
  by_written : (written : Option ℤ) → a.written ≡ written → word_at (write memory a.address written) b ≡ word_at memory b
  by_written None e = refl
  by_written (Some word) e =
      word_at-with_word_other memory a.address b word la lb (differ a (record { address = b; written = None }) apart (or_left _ _ (ap is_some e)))

-- two accesses that are apart leave the same in either order
write-write : (memory : Blocks) (a b : Access) → Lies memory a.address → Lies memory b.address → clash a b ≡ false →
    write (write memory a.address a.written) b.address b.written ≡ write (write memory b.address b.written) a.address a.written
write-write memory a b la lb apart = by_written a.written b.written refl refl where
  by_written : (first second : Option ℤ) → a.written ≡ first → b.written ≡ second →
      write (write memory a.address first) b.address second ≡ write (write memory b.address second) a.address first
  by_written None second e f = refl
  by_written (Some word) None e f = refl
  by_written (Some word) (Some other) e f = with_word_comm memory a.address b.address word other la lb (differ a b apart (or_left _ _ (ap is_some e)))

-- ---- what marks leave

-- the first of some marks, and the others behind it
pub AllLie-others : (memory : Blocks) (m : Mark) (marks : List Mark) → AllLie memory (m ∷ marks) → AllLie (write memory m.access.address m.access.written) marks
AllLie-others memory m marks lie n c =
    Lies-write memory m.access.address m.access.written n.access.address (lie m (Contains-first m marks)) (lie n (Contains-others m n marks c))

pub Lies-past : (memory : Blocks) (marks : List Mark) (b : Address) → AllLie memory marks → Lies memory b → Lies (past memory marks) b
Lies-past memory [] b lie lb = lb
Lies-past memory (m ∷ marks) b lie lb =
    Lies-past (write memory m.access.address m.access.written) marks b (AllLie-others memory m marks lie)
    (Lies-write memory m.access.address m.access.written b (lie m (Contains-first m marks)) lb)

pub Lies-unpast : (memory : Blocks) (marks : List Mark) (b : Address) → AllLie memory marks → Lies (past memory marks) b → Lies memory b
Lies-unpast memory [] b lie lb = lb
Lies-unpast memory (m ∷ marks) b lie lb =
    Lies-unwrite memory m.access.address m.access.written b (lie m (Contains-first m marks))
    (Lies-unpast (write memory m.access.address m.access.written) marks b (AllLie-others memory m marks lie) lb)

pub reach-past : (memory : Blocks) (marks : List Mark) (p i : ℤ) (field : ℕ) → AllLie memory marks → reach (past memory marks) p i field ≡ reach memory p i field
reach-past memory [] p i field lie = refl
reach-past memory (m ∷ marks) p i field lie =
    reach-past (write memory m.access.address m.access.written) marks p i field (AllLie-others memory m marks lie)
    ∙ reach-write memory m.access.address m.access.written p i field (lie m (Contains-first m marks))

pub word_at-past : (memory : Blocks) (marks : List Mark) (b : Address) → AllLie memory marks → Lies memory b →
    ((m : Mark) → Contains marks m → clash m.access (record { address = b; written = None }) ≡ false) → word_at (past memory marks) b ≡ word_at memory b
word_at-past memory [] b lie lb apart = refl
word_at-past memory (m ∷ marks) b lie lb apart =
    let la = lie m (Contains-first m marks) in
    word_at-past (write memory m.access.address m.access.written) marks b (AllLie-others memory m marks lie)
    (Lies-write memory m.access.address m.access.written b la lb) (λ n c. apart n (Contains-others m n marks c))
    ∙ word_at-write memory m.access b la lb (apart m (Contains-first m marks))

-- one access that is apart from marks may come before or behind them
pub past-write : (memory : Blocks) (marks : List Mark) (a : Access) → AllLie memory marks → Lies memory a.address →
    ((m : Mark) → Contains marks m → clash m.access a ≡ false) →
    past (write memory a.address a.written) marks ≡ write (past memory marks) a.address a.written
past-write memory [] a lie la apart = refl
past-write memory (m ∷ marks) a lie la apart =
    let lm = lie m (Contains-first m marks) in
    ap (λ b. past b marks) (sym (write-write memory m.access a lm la (apart m (Contains-first m marks))))
    ∙ past-write (write memory m.access.address m.access.written) marks a (AllLie-others memory m marks lie)
    (Lies-write memory m.access.address m.access.written a.address lm la) (λ n c. apart n (Contains-others m n marks c))

pub AllLie-past : (memory : Blocks) (marks others : List Mark) → AllLie memory marks → AllLie memory others → AllLie (past memory marks) others
AllLie-past memory marks others lie there n c = Lies-past memory marks n.access.address lie (there n c)

-- marks that are apart leave the same in either order
pub past-past : (memory : Blocks) (marks others : List Mark) → AllLie memory marks → AllLie memory others → Apart marks others →
    past (past memory marks) others ≡ past (past memory others) marks
past-past memory marks [] lie there apart = refl
past-past memory marks (n ∷ others) lie there apart =
    let ln = there n (Contains-first n others) in
    let next = write memory n.access.address n.access.written in
    ap (λ b. past b others) (sym (past-write memory marks n.access lie ln (λ m c. apart m n c (Contains-first n others))))
    ∙ past-past next marks others (λ m c. Lies-write memory n.access.address n.access.written m.access.address ln (lie m c)) (AllLie-others memory n others there)
    (λ m k c d. apart m k c (Contains-others n k others d))
