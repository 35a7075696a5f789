-- Groups that are apart: a cell that one writes no other accesses, and the units that are dealt out suffice.
use Rattle.std.proofs.Common.{◌≡◌, ℕ, zero, suc, ◌-◌, ◌<◌, ◌≤◌, List, [], ◌∷◌, length, map, sym, ap, refl, subst, ◌∙◌, Bool, true, false, true≢false, arith, None, Some, sum_by}
use Rattle.std.specs.Prelude.{pos, nat_abs, not, ◌&&◌, ◌||◌, Option, if◌then◌else◌, replicate, sum, slice_index, slice_index_or}
use Rattle.std.specs.List.{list_any, AllByRecursion}
use Rattle.std.specs.Option.{is_some}
use Rattle.std.proofs.lemmas.Bool.{or_parts, eq-eqb, eqb-true}
use Rattle.std.proofs.lemmas.List.Folds.{list_any-append, sum_by-replicate}
use Rattle.std.proofs.lemmas.List.Sums.{sum_by-cons, sum-map}
use Rattle.std.proofs.lemmas.List.{get_or-map}
use Rattle.lq_meaning.specs.declared.blocks.Span.{Span}
use Rattle.lq_meaning.specs.Blocks.{cell_of, OneAddress}
use Rattle.lq_alone.specs.Alone.{Access, same_address, clash}
use Rattle.lq_runner.specs.Share.{Group, needs, is_cell, is_at, writes, reads, by_need, to_first, share, units_for, IsEnough, Suffices}
use Rattle.lq_runner.proofs.Apart.{both_true, false_where, one_passes, Apart}
use Rattle.lq_runner.proofs.Grouped.{group_accesses, GroupsApart}

-- a cell that is the one
is_the_cell : (found : Option ℕ) (cell : ℕ) → is_cell found cell ≡ true → found ≡ Some cell
is_the_cell None cell e = absurd (true≢false (sym e))
is_the_cell (Some n) cell e = ap Some (eqb-true n cell e)

pos_same : (m n : ℕ) → pos m ≡ pos n → m ≡ n
pos_same m n e = ap nat_abs e

module _ (spans : List Span) (one : OneAddress spans) (cell : ℕ) where
  -- two accesses of one cell are of one address
  same_place : (a b : Access) → is_at spans cell a ≡ true → is_at spans cell b ≡ true → same_address a.address b.address ≡ true
  same_place a b here there =
      let x = a.address in
      let y = b.address in
      let same = one x.block y.block (pos x.element) (pos y.element) x.field y.field cell
      (is_the_cell (cell_of spans x.block (pos x.element) x.field) cell here)
      (is_the_cell (cell_of spans y.block (pos y.element) y.field) cell there) in
      rw (eq-eqb x.block y.block same.0, eq-eqb x.element y.element (pos_same x.element y.element same.1), eq-eqb x.field y.field same.2) refl

  -- where they don't clash neither is a store
  no_store : (a b : Access) → is_at spans cell a ≡ true → is_at spans cell b ≡ true → clash a b ≡ false → (is_some a.written ≡ false) × (is_some b.written ≡ false)
  no_store a b here there apart =
      let place = same_place a b here there in
      or_parts (is_some a.written) (is_some b.written) (subst (λ (t : Bool). (t && (is_some a.written || is_some b.written)) ≡ false) place apart)

  abbrev pub is_store : Access → Bool
  is_store a = is_at spans cell a && is_some a.written

  abbrev pub is_load : Access → Bool
  is_load a = is_at spans cell a && not (is_some a.written)

  at_store : (a : Access) → is_store a ≡ true → (is_at spans cell a ≡ true) × (is_some a.written ≡ true)
  at_store a e = both_true (is_at spans cell a) (is_some a.written) e

  at_load : (a : Access) → is_load a ≡ true → is_at spans cell a ≡ true
  at_load a e = (both_true (is_at spans cell a) (not (is_some a.written)) e).0

  -- where one list has a store at the cell, the other has no access there
  none_behind : (p : Access → Bool) → ((a : Access) → p a ≡ true → is_at spans cell a ≡ true) → (accesses others : List Access) → Apart accesses others
      → list_any is_store accesses ≡ true → list_any p others ≡ false
  none_behind p there accesses others apart any =
      let a = one_passes is_store (λ (x : Access). AllByRecursion (λ b. clash x b ≡ false) others) accesses any apart in
      let store = at_store a.0 a.1 in
      false_where (list_any p others) (λ found.
      let b = one_passes p (λ (y : Access). clash a.0 y ≡ false) others found a.2 in
      true≢false (sym store.1 ∙ (no_store a.0 b.0 store.0 (there b.0 b.1) b.2).0))

  none_before : (p : Access → Bool) → ((a : Access) → p a ≡ true → is_at spans cell a ≡ true) → (accesses others : List Access) → Apart accesses others
      → list_any is_store others ≡ true → list_any p accesses ≡ false
  none_before p there accesses others apart any =
      false_where (list_any p accesses) (λ found.
      let a = one_passes p (λ (x : Access). AllByRecursion (λ b. clash x b ≡ false) others) accesses found apart in
      let b = one_passes is_store (λ (y : Access). clash a.0 y ≡ false) others any a.2 in
      let store = at_store b.0 b.1 in
      true≢false (sym store.1 ∙ (no_store a.0 b.0 (there a.0 a.1) store.0 b.2).1))

-- an access of some group is one of all
any_of_all : (p : Access → Bool) (groups : List Group) → list_any (λ (g : Group). list_any p g.accesses) groups ≡ list_any p (group_accesses groups)
any_of_all p [] = refl
any_of_all p (g ∷ groups) = ap (λ b. list_any p g.accesses || b) (any_of_all p groups) ∙ sym (list_any-append p g.accesses (group_accesses groups))

-- an element that passes, by its place
any_at : {X : Type 0} (p : X → Bool) (xs : List X) (k : ℕ) (d : X) → k < length xs → p (slice_index_or xs k d) ≡ true → list_any p xs ≡ true
any_at p [] k d inside e = absurd (omega arith)
any_at p (x ∷ xs) zero d inside e = ap (λ b. b || list_any p xs) e
any_at p (x ∷ xs) (suc k) d inside e = or_second (p x) (list_any p xs) (any_at p xs k d (omega arith) e)
  where
    or_second : (a b : Bool) → b ≡ true → (a || b) ≡ true
    or_second true b e = refl
    or_second false b e = e

module _ (spans : List Span) (one : OneAddress spans) (cell : ℕ) where
  abbrev writer : Group → Bool
  writer g = writes spans cell g

  abbrev reader : Group → Bool
  reader g = reads spans cell g

  -- no group behind one that writes the cell accesses it
  none_writes : (g : Group) (groups : List Group) → Apart g.accesses (group_accesses groups) → writer g ≡ true → list_any writer groups ≡ false
  none_writes g groups apart e =
      any_of_all (is_store spans one cell) groups
      ∙ none_behind spans one cell (is_store spans one cell) (λ a p. (at_store spans one cell a p).0) g.accesses (group_accesses groups) apart e

  none_reads : (g : Group) (groups : List Group) → Apart g.accesses (group_accesses groups) → writer g ≡ true → list_any reader groups ≡ false
  none_reads g groups apart e =
      any_of_all (is_load spans one cell) groups
      ∙ none_behind spans one cell (is_load spans one cell) (at_load spans one cell) g.accesses (group_accesses groups) apart e

  -- nor does one in front of it
  reads_none : (g : Group) (groups : List Group) → Apart g.accesses (group_accesses groups) → list_any writer groups ≡ true → reader g ≡ false
  reads_none g groups apart e =
      none_before spans one cell (is_load spans one cell) (at_load spans one cell) g.accesses (group_accesses groups) apart (sym (any_of_all (is_store spans one cell) groups) ∙ e)

  -- so a group that reads a cell which one writes is that one
  reader_writes : (groups : List Group) → GroupsApart groups → list_any writer groups ≡ true → (number : ℕ) (d : Group) → number < length groups
      → reader (slice_index_or groups number d) ≡ true → writer (slice_index_or groups number d) ≡ true
  reader_writes [] apart any number d inside read = absurd (omega arith)
  reader_writes (g ∷ groups) apart any number d inside read = by (writer g) refl number inside read (reader_writes groups apart.1)
    where
      by : (b : Bool) → writer g ≡ b → (k : ℕ) → k < length (g ∷ groups) → reader (slice_index_or (g ∷ groups) k d) ≡ true
          → (list_any writer groups ≡ true → (j : ℕ) (e : Group) → j < length groups → reader (slice_index_or groups j e) ≡ true → writer (slice_index_or groups j e) ≡ true)
          → writer (slice_index_or (g ∷ groups) k d) ≡ true
      by true e zero low r rest = e
      by true e (suc k) low r rest = absurd (true≢false (sym (any_at reader groups k d (omega arith) r) ∙ none_reads g groups apart.0 e))
      by false e zero low r rest = absurd (true≢false (sym r ∙ reads_none g groups apart.0 (subst (λ b. (b || list_any writer groups) ≡ true) e any)))
      by false e (suc k) low r rest = rest (subst (λ b. (b || list_any writer groups) ≡ true) e any) k d (omega arith) r

  module _ (whole : ℕ) where
    -- what a group gets of a cell that is written
    abbrev gets : Group → ℕ
    gets g = if writer g then whole else 0

    nothing_there : (groups : List Group) → list_any writer groups ≡ false → sum_by gets groups ≡ 0
    nothing_there [] none_there = refl
    nothing_there (g ∷ groups) none_there =
        let parts = or_parts (writer g) (list_any writer groups) none_there in
        let rest = nothing_there groups parts.1 in
        let first : gets g ≡ 0 = ap (λ (b : Bool). if b then whole else 0) parts.0 in
        let all = sum_by-cons gets g groups in
        omega arith

    one_gets : (groups : List Group) → GroupsApart groups → list_any writer groups ≡ true → sum_by gets groups ≡ whole
    one_gets [] apart any = absurd (true≢false (sym any))
    one_gets (g ∷ groups) apart any = by (writer g) refl (one_gets groups apart.1)
      where
        by : (b : Bool) → writer g ≡ b → (list_any writer groups ≡ true → sum_by gets groups ≡ whole) → sum_by gets (g ∷ groups) ≡ whole
        by true e rest =
            let none_else = nothing_there groups (none_writes g groups apart.0 e) in
            let first : gets g ≡ whole = ap (λ (b : Bool). if b then whole else 0) e in
            let all = sum_by-cons gets g groups in
            omega arith
        by false e rest =
            let others = rest (subst (λ b. (b || list_any writer groups) ≡ true) e any) in
            let first : gets g ≡ 0 = ap (λ (b : Bool). if b then whole else 0) e in
            let all = sum_by-cons gets g groups in
            omega arith

    -- what is needed of a cell that is only read
    needed_sum : (groups : List Group) → 0 < length groups → needs groups ≤ whole → sum (by_need whole groups) ≡ whole
    needed_sum [] some enough = absurd (omega arith)
    needed_sum (g ∷ groups) some enough =
        let first = sum_by-cons (λ (k : ℕ). k) (whole - needs groups) (map (λ (h : Group). h.need) groups) in
        let rest = sum-map (λ (h : Group). h.need) groups in
        let all = sum_by-cons (λ (h : Group). h.need) g groups in
        omega arith

    needed_at : (groups : List Group) (number : ℕ) (d : Group) → number < length groups → needs groups ≤ whole
        → (slice_index_or groups number d).need ≤ slice_index (by_need whole groups) number
    needed_at [] number d inside enough = absurd (omega arith)
    needed_at (g ∷ groups) zero d inside enough = let all = sum_by-cons (λ (h : Group). h.need) g groups in omega arith
    needed_at (g ∷ groups) (suc k) d inside enough = let same = get_or-map (λ (h : Group). h.need) groups k d 0 (omega arith) in omega arith

    first_sum : (groups : List Group) → 0 < length groups → sum (to_first whole groups) ≡ whole
    first_sum [] some = absurd (omega arith)
    first_sum (g ∷ groups) some =
        let first = sum_by-cons (λ (k : ℕ). k) whole (replicate (length groups) 0) in
        let rest = sum_by-replicate (λ (k : ℕ). k) (length groups) 0 in
        omega arith

  -- a group needs no more than all do together
  need_within : (groups : List Group) (number : ℕ) (d : Group) → number < length groups → (slice_index_or groups number d).need ≤ needs groups
  need_within [] number d inside = absurd (omega arith)
  need_within (g ∷ groups) zero d inside = let all = sum_by-cons (λ (h : Group). h.need) g groups in omega arith
  need_within (g ∷ groups) (suc k) d inside = let rest = need_within groups k d (omega arith) in let all = sum_by-cons (λ (h : Group). h.need) g groups in omega arith

module _ (spans : List Span) (one : OneAddress spans) (all : ℕ) (whole : ℕ → ℕ) (groups : List Group) (apart : GroupsApart groups) (some : 0 < length groups) (enough : IsEnough spans all whole groups) where
  abbrev written : (cell : ℕ) → Bool
  written cell = list_any (writes spans cell) groups

  abbrev read : (cell : ℕ) → Bool
  read cell = list_any (reads spans cell) groups

  together : (cell : ℕ) → sum (share spans cell (whole cell) groups) ≡ whole cell
  together cell = by (written cell) refl (read cell) refl
    where
      by : (b : Bool) → written cell ≡ b → (c : Bool) → read cell ≡ c → sum (share spans cell (whole cell) groups) ≡ whole cell
      by true w c r = rw w (sum-map (gets spans one cell (whole cell)) groups ∙ one_gets spans one cell (whole cell) groups apart w)
      by false w true r = rw (w, r) (needed_sum spans one cell (whole cell) groups some (enough.to_read cell r))
      by false w false r = rw (w, r) (first_sum spans one cell (whole cell) groups some)

  -- a group that writes a cell has all its units
  writer_has : (cell number : ℕ) (d : Group) → number < length groups → writes spans cell (slice_index_or groups number d) ≡ true → units_for spans whole groups number cell ≡ whole cell
  writer_has cell number d inside w =
      let any = any_at (writes spans cell) groups number d inside w in
      let at = get_or-map (gets spans one cell (whole cell)) groups number d 0 inside in
      rw any (at ∙ ap (λ (b : Bool). if b then whole cell else 0) w)

  reader_has : (cell number : ℕ) (d : Group) → number < length groups → reads spans cell (slice_index_or groups number d) ≡ true
      → (slice_index_or groups number d).need ≤ units_for spans whole groups number cell
  reader_has cell number d inside r = by (written cell) refl
    where
      any : read cell ≡ true
      any = any_at (reads spans cell) groups number d inside r

      by : (b : Bool) → written cell ≡ b → (slice_index_or groups number d).need ≤ units_for spans whole groups number cell
      by true w =
          let has = writer_has cell number d inside (reader_writes spans one cell groups apart w number d inside r) in
          let within = need_within spans one cell groups number d inside in
          let most = enough.to_read cell any in
          omega arith
      by false w = rw (w, any) (needed_at spans one cell (whole cell) groups number d inside (enough.to_read cell any))

  pub suffices : Suffices spans all whole groups
  suffices = record {
    together = together;
    to_read = reader_has;
    to_write = λ cell number d inside w. writer_has cell number d inside w ∙ enough.to_write cell (any_at (writes spans cell) groups number d inside w);
  }
