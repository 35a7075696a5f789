-- Plain statements that a formed function may have, and lists of them.
use Rattle.std.proofs.Common.{◌≡◌, ℕ, suc, ℤ, Bool, true, false, ◌||◌, List, [], ◌∷◌, ◌++◌, length, Option, refl, ap, sym, ◌∙◌, subst}
use Rattle.std.specs.List.{AllByRecursion, list_any, list_all, flat_map}
use Rattle.std.proofs.lemmas.Bool.{and_from, or_from, not_from_false}
use Rattle.std.proofs.lemmas.List.Folds.{list_all-append}
use Rattle.lq_tree.specs.declared.place.Place.{Place}
use Rattle.lq_tree.specs.declared.expr.CType.{CType}
use Rattle.lq_tree.specs.declared.plain.PExpr.{PExpr}
use Rattle.lq_tree.specs.declared.plain.PKind.{PKind, If, While, Cobegin, Foreach, Row_of-Branch, end_of-Branch, more_of-Branch, items-the_row-Branch, items_hidden-the_row-Branch-1}
use Rattle.lq_tree.specs.declared.plain.PKind.TheBlock.{hidden-the_row-Branch-1}
use Rattle.lq_tree.specs.declared.plain.PStmt.{PStmt}
use Rattle.lq_tree.specs.declared.plain.Branch.{Branch}
use Rattle.lq_tree.specs.declared.plain.PFunc.{PFunc}
use Rattle.lq_tree.specs.declared.plain.PProgram.{PProgram}
use Rattle.lq_tree.specs.declared.plain.Slot.{Slot}
use Rattle.lq_tree.specs.PlainShape.{is_return, is_shaped, is_loud, keeps_quiet, count_branches, few_branches}
use Rattle.lq_tree.specs.PlainTypes.{is_slot_type, is_typed}
use Rattle.lq_tree.specs.Step.{is_step}
use Rattle.lq_tree.specs.PlainWalk.{inside, statements, within_branch}
use Rattle.lq_plain.proofs.PlainLists.{within_row-list, inside-if, inside-while, inside-cobegin, statements-append}
use Rattle.lq_plain.specs.Flat.{Made, statement, then_stands, with_slot}

-- ---- how many branches there are

count_items : {n : _} (row : Row_of-Branch n) → count_branches row ≡ length (items-the_row-Branch n row)
count_items end_of-Branch = refl
count_items (more_of-Branch b rest) = ap suc (count_items rest)

count_list : (blocks : List Branch) → count_branches (hidden-the_row-Branch-1 blocks) ≡ length blocks
count_list blocks = count_items (hidden-the_row-Branch-1 blocks) ∙ ap length (items_hidden-the_row-Branch-1 blocks)

module _ (p : PProgram) (f : PFunc) (quiet : ℕ → Bool) where
  -- a statement itself: where `hush` it is silent, and where `parallel` it is no return
  pub record Good (hush parallel : Bool) (kind : PKind) : Type 0 where
    pub typed : is_typed p f kind ≡ true
    pub shaped : is_shaped kind ≡ true
    pub keeps : keeps_quiet quiet kind ≡ true
    pub silent : hush ≡ true → is_loud quiet kind ≡ false
    pub aside : parallel ≡ true → is_return kind ≡ false

  -- statements, without those inside them
  abbrev pub AllGood : (hush parallel : Bool) → List PStmt → Type 0
  AllGood hush parallel ss = AllByRecursion (λ (s : PStmt). Good hush parallel s.kind) ss

  -- a statement, with those inside it
  pub record Whole (hush parallel : Bool) (kind : PKind) : Type 0 where
    pub here : Good hush parallel kind
    pub within : AllGood hush parallel (inside kind)

  -- what has been made: good statements, and slots of ints and pointers
  pub record Fine (hush parallel : Bool) (m : Made) : Type 0 where
    pub front : AllGood hush parallel (statements m.front)
    pub slots : list_all (λ (s : Slot). is_slot_type p.structs s.ctype) m.slots ≡ true

  -- what is silent and no return is good anywhere
  pub all_weaker : (hush parallel : Bool) (ss : List PStmt) → AllGood true true ss → AllGood hush parallel ss
  all_weaker hush parallel [] good = tt
  all_weaker hush parallel (s ∷ ss) good =
      (record { typed = (good.0).typed; shaped = (good.0).shaped; keeps = (good.0).keeps; silent = λ _. (good.0).silent refl; aside = λ _. (good.0).aside refl }, all_weaker hush parallel ss good.1)

  -- what is no return is good where a return may stand
  pub all_aside : (hush parallel : Bool) (ss : List PStmt) → AllGood hush true ss → AllGood hush parallel ss
  all_aside hush parallel [] good = tt
  all_aside hush parallel (s ∷ ss) good =
      (record { typed = (good.0).typed; shaped = (good.0).shaped; keeps = (good.0).keeps; silent = (good.0).silent; aside = λ _. (good.0).aside refl }, all_aside hush parallel ss good.1)

  none_returns : (hush : Bool) (ss : List PStmt) → AllGood hush true ss → list_any (λ (s : PStmt). is_return s.kind) ss ≡ false
  none_returns hush [] good = refl
  none_returns hush (s ∷ ss) good = or_from _ _ ((good.0).aside refl) (none_returns hush ss good.1)

  none_loud : (ss : List PStmt) → AllGood true true ss → list_any (λ (s : PStmt). is_loud quiet s.kind || is_return s.kind) ss ≡ false
  none_loud [] good = refl
  none_loud (s ∷ ss) good = or_from _ _ (or_from _ _ ((good.0).silent refl) ((good.0).aside refl)) (none_loud ss good.1)

  module _ (hush parallel : Bool) where
    pub good_both : (xs ys : List PStmt) → AllGood hush parallel xs → AllGood hush parallel ys → AllGood hush parallel (xs ++ ys)
    good_both [] ys a b = b
    good_both (x ∷ xs) ys a b = (a.0, good_both xs ys a.1 b)

    pub good_by : {xs ys : List PStmt} → xs ≡ ys → AllGood hush parallel ys → AllGood hush parallel xs
    good_by is good = subst (AllGood hush parallel) (sym is) good

    pub then_fine : (at : Place) (kind : PKind) (m : Made) → Fine hush parallel m → Whole hush parallel kind → Fine hush parallel (then_stands at kind m)
    then_fine at kind m fine whole = record {
      front = good_by (statements-append m.front (statement at kind ∷ []))
          (good_both (statements m.front) (statement at kind ∷ (inside kind ++ [])) fine.front (whole.here, good_both (inside kind) [] whole.within tt));
      slots = fine.slots;
    }

    pub slot_fine : (name : Option (List ℕ)) (type : CType) (m : Made) → Fine hush parallel m → is_slot_type p.structs type ≡ true → Fine hush parallel (with_slot name type m)
    slot_fine name type m fine is = record {
      front = fine.front;
      slots = list_all-append (λ (s : Slot). is_slot_type p.structs s.ctype) m.slots (record { name = name; ctype = type } ∷ []) ∙ and_from _ _ fine.slots (and_from _ _ is refl);
    }

    pub if_whole : (e : PExpr) (body other : List PStmt) → is_typed p f (If e body other) ≡ true → AllGood hush parallel (statements body) → AllGood hush parallel (statements other) → Whole hush parallel (If e body other)
    if_whole e body other typed a b = record {
      here = record { typed = typed; shaped = refl; keeps = refl; silent = λ _. refl; aside = λ _. refl };
      within = good_by (inside-if e body other) (good_both (statements body) (statements other) a b);
    }

    pub while_whole : (head : List PStmt) (e : PExpr) (body : List PStmt) → is_typed p f (While head e body) ≡ true → AllGood hush true (statements head) → AllGood hush parallel (statements body) → Whole hush parallel (While head e body)
    while_whole head e body typed a b = record {
      here = record {
        typed = typed;
        shaped = not_from_false _ (ap (list_any (λ (s : PStmt). is_return s.kind)) (within_row-list head) ∙ none_returns hush (statements head) a);
        keeps = refl;
        silent = λ _. refl;
        aside = λ _. refl;
      };
      within = good_by (inside-while head e body) (good_both (statements head) (statements body) (all_aside hush parallel (statements head) a) b);
    }

    pub cobegin_whole : (blocks : List Branch) → few_branches (length blocks) ≡ true → AllGood true true (flat_map within_branch blocks) → Whole hush parallel (Cobegin blocks)
    cobegin_whole blocks few good = record {
      here = record {
        typed = refl;
        shaped = ap few_branches (count_list blocks) ∙ few;
        keeps = not_from_false _ (ap (list_any (λ (s : PStmt). is_loud quiet s.kind || is_return s.kind)) (inside-cobegin blocks) ∙ none_loud (flat_map within_branch blocks) good);
        silent = λ _. refl;
        aside = λ _. refl;
      };
      within = good_by (inside-cobegin blocks) (all_weaker hush parallel (flat_map within_branch blocks) good);
    }

    pub foreach_whole : (index : ℕ) (low high : PExpr) (step : ℤ) (b : Branch) → is_typed p f (Foreach index low high step b) ≡ true → is_step step ≡ true → AllGood true true (within_branch b)
        → Whole hush parallel (Foreach index low high step b)
    foreach_whole index low high step b typed is good = record {
      here = record {
        typed = typed;
        shaped = is;
        keeps = not_from_false _ (none_loud (within_branch b) good);
        silent = λ _. refl;
        aside = λ _. refl;
      };
      within = all_weaker hush parallel (within_branch b) good;
    }
