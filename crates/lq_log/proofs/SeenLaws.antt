-- What is seen at one fork with one more access, and which accesses meet there.
use Rattle.std.proofs.Common.{◌≡◌, ◌≢◌, ℕ, ◌+◌, ◌<◌, inl, inr, Bool, true, false, ◌||◌, IsTrue, List, [], ◌∷◌, ◌++◌, None, Some, Option, refl, sym, ap, ◌∙◌, subst, arith}
use Rattle.std.proofs.lemmas.Bool.{cases_eq, cases_order, both_ways, or_cases}
use Rattle.std.proofs.lemmas.Option.{same_Some}
use Rattle.lq_log.specs.declared.entry.Entry.{Entry}
use Rattle.lq_log.specs.declared.forks.Seen.{Seen}
use Rattle.lq_log.specs.declared.forks.Seen.TheVariants.{InOneBranch, LoadsInSeveral}
use Rattle.lq_log.specs.Seen.{numbers_of, Takes, Tells, Meets, AreInOne, AreInSeveral}

-- the number behind a front
number_behind : (front : List ℕ) (a b : ℕ) (r s : List ℕ) → front ++ a ∷ r ≡ front ++ b ∷ s → a ≡ b
number_behind [] a b r s e = cc
number_behind (x ∷ front) a b r s e =
    let rest : front ++ a ∷ r ≡ front ++ b ∷ s = cc in
    number_behind front a b r s rest

module _ (log : List Entry) (front : List ℕ) where
  -- an entry takes one branch, and is a store or a load
  pub takes_one : (i a b : ℕ) (w v : Bool) → Takes log front i a w → Takes log front i b v → (a ≡ b) × (w ≡ v)
  takes_one i a b w v s t =
      let same : s.entry ≡ t.entry = same_Some s.entry t.entry (sym s.at_i ∙ t.at_i) in (
        number_behind front a b s.rest t.rest (sym s.numbers_are ∙ ap numbers_of same ∙ t.numbers_are),
        sym s.write_is ∙ ap (λ e. e.write) same ∙ t.write_is,
      )

  -- what holds before j, and at j, holds before j + 1
  one_more : (j : ℕ) (P : ℕ → Type 0) → ((i : ℕ) → i < j → P i) → P j → (i : ℕ) → i < j + 1 → P i
  one_more j P before here i within = elim (cases_order i j) [
    | inl same ↦ subst P (sym same) here
    | inr (inl less) ↦ before i less
    | inr (inr more) ↦ absurd (omega arith)
  ]

  module _ (j branch : ℕ) where
    -- the first access
    pub first_seen : (write : Bool) → Takes log front j branch write → ((i taken : ℕ) (stores : Bool) → i < j → Takes log front i taken stores → ⊥) → AreInOne log front (j + 1) branch write
    first_seen write takes none = record {
      same = λ i taken stores within t. one_more j (λ k. Takes log front k taken stores → taken ≡ branch) (λ k before s. absurd (none k taken stores before s)) (λ s. (takes_one j taken branch stores write s takes).0) i within t;
      stores = λ i taken within t. one_more j (λ k. Takes log front k taken true → write ≡ true) (λ k before s. absurd (none k taken true before s)) (λ s. (takes_one j branch taken write true takes s).1) i within t;
      one = j;
      before = omega arith;
      takes = takes;
    }

    same_more : (write stored : Bool) → Takes log front j branch write → AreInOne log front j branch stored → (i taken : ℕ) (stores : Bool) → i < j + 1 → Takes log front i taken stores → taken ≡ branch
    same_more write stored takes seen i taken stores within t =
        one_more j (λ k. Takes log front k taken stores → taken ≡ branch) (λ k before s. seen.same k taken stores before s) (λ s. (takes_one j taken branch stores write s takes).0) i within t

    -- one more access in the branch of the others, of which some store
    pub seen_again_stored : (write : Bool) → Takes log front j branch write → AreInOne log front j branch true → AreInOne log front (j + 1) branch true
    seen_again_stored write takes seen = record {
      same = same_more write true takes seen;
      stores = λ i taken within t. refl;
      one = seen.one;
      before = let before : seen.one < j = seen.before in omega arith;
      takes = seen.takes;
    }

    -- one more access in the branch of the others, which are loads
    pub seen_again : (write : Bool) → Takes log front j branch write → AreInOne log front j branch false → AreInOne log front (j + 1) branch write
    seen_again write takes seen = record {
      same = same_more write false takes seen;
      stores = λ i taken within t. one_more j (λ k. Takes log front k taken true → write ≡ true) (λ k before s. absurd (both_ways false refl (seen.stores k taken before s))) (λ s. (takes_one j branch taken write true takes s).1) i within t;
      one = j;
      before = omega arith;
      takes = takes;
    }

    -- a load in another branch than the others, which are loads
    pub seen_apart : (only : ℕ) → Takes log front j branch false → AreInOne log front j only false → only ≢ branch → AreInSeveral log front (j + 1)
    seen_apart only takes seen differ = record {
      loads = λ i taken within t. one_more j (λ k. Takes log front k taken true → ⊥) (λ k before s. both_ways false refl (seen.stores k taken before s)) (λ s. both_ways false refl (takes_one j branch taken false true takes s).1) i within t;
      other = λ named. elim (cases_eq only named) [
        | inl same ↦ (j, branch, omega arith, takes, λ e. differ (same ∙ sym e))
        | inr apart ↦ (seen.one, only, (let before : seen.one < j = seen.before in omega arith), seen.takes, apart)
      ];
    }

    -- one more load, where there are several branches
    pub seen_several : Takes log front j branch false → AreInSeveral log front j → AreInSeveral log front (j + 1)
    seen_several takes seen = record {
      loads = λ i taken within t. one_more j (λ k. Takes log front k taken true → ⊥) (λ k before s. seen.loads k taken before s) (λ s. both_ways false refl (takes_one j branch taken false true takes s).1) i within t;
      other = λ named. let o : (i taken : ℕ) × (i < j) × Takes log front i taken false × (taken ≢ named) = seen.other named in (o.0, o.1, (let before : o.0 < j = o.2 in omega arith), o.3, o.4);
    }

    -- a store, where there are several branches
    pub met_several : Takes log front j branch true → AreInSeveral log front j → Meets log front j branch true
    met_several takes seen =
        let o : (i taken : ℕ) × (i < j) × Takes log front i taken false × (taken ≢ branch) = seen.other branch in
        record { i = o.0; before = o.2; taken = o.1; stores = false; takes = o.3; other = o.4; one_stores = refl }

  -- an entry that takes no branch here changes nothing
  pub not_here : (j : ℕ) (seen : Option Seen) → ((branch : ℕ) (write : Bool) → Takes log front j branch write → ⊥) → Tells log front j seen → Tells log front (j + 1) seen
  not_here j None away tells = λ i taken write within t. one_more j (λ k. Takes log front k taken write → ⊥) (λ k before s. tells k taken write before s) (λ s. away taken write s) i within t
  not_here j (Some (InOneBranch branch stored)) away tells = record {
    same = λ i taken write within t. one_more j (λ k. Takes log front k taken write → taken ≡ branch) (λ k before s. tells.same k taken write before s) (λ s. absurd (away taken write s)) i within t;
    stores = λ i taken within t. one_more j (λ k. Takes log front k taken true → stored ≡ true) (λ k before s. tells.stores k taken before s) (λ s. absurd (away taken true s)) i within t;
    one = tells.one;
    before = let before : tells.one < j = tells.before in omega arith;
    takes = tells.takes;
  }
  not_here j (Some LoadsInSeveral) away tells = record {
    loads = λ i taken within t. one_more j (λ k. Takes log front k taken true → ⊥) (λ k before s. tells.loads k taken before s) (λ s. away taken true s) i within t;
    other = λ named. let o : (i taken : ℕ) × (i < j) × Takes log front i taken false × (taken ≢ named) = tells.other named in (o.0, o.1, (let before : o.0 < j = o.2 in omega arith), o.3, o.4);
  }

  -- no two entries of which is told meet
  pub none_meet : (n : ℕ) (seen : Option Seen) → Tells log front n seen → (i j a b : ℕ) (w v : Bool) → i < n → j < n → Takes log front i a w → Takes log front j b v → a ≢ b → IsTrue (w || v) → ⊥
  none_meet n None tells i j a b w v i_in j_in s t differ one = tells i a w i_in s
  none_meet n (Some (InOneBranch branch stored)) tells i j a b w v i_in j_in s t differ one = differ (tells.same i a w i_in s ∙ sym (tells.same j b v j_in t))
  none_meet n (Some LoadsInSeveral) tells i j a b w v i_in j_in s t differ one = elim (or_cases w v one) [
    | inl first ↦ tells.loads i a i_in (subst (Takes log front i a) first s)
    | inr second ↦ tells.loads j b j_in (subst (Takes log front j b) second t)
  ]

  -- what is known in an arm of a match on what was seen
  pub in_one : (j only branch : ℕ) (stored known : Bool) (seen : Option Seen) → seen ≡ Some (InOneBranch only stored) → only ≡ branch → stored ≡ known → Tells log front j seen → AreInOne log front j branch known
  in_one j only branch stored known seen is same e tells =
      subst (AreInOne log front j branch) e (subst (λ b. AreInOne log front j b stored) same (subst (Tells log front j) is tells))
