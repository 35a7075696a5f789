-- The conditions of statements name templates that are there.
use Rattle.std.proofs.Common.{◌≡◌, ℕ, ◌+◌, Bool, true, false, ◌&&◌, List, [], ◌∷◌, ◌++◌, length, Option, None, Some, refl}
use Rattle.std.specs.Prelude.{filter, ℤ, slice_get}
use Rattle.std.specs.List.{AllByRecursion, flat_map}
use Rattle.lq_tree.specs.declared.place.Place.{Place}
use Rattle.lq_tree.specs.declared.plain.PExpr.{PExpr}
use Rattle.lq_tree.specs.declared.plain.PKind.{PKind, Set, Load, Store, Calloc, Call, If', While', Cobegin', Foreach, Print, Return, Row_of-PStmt, end_of-PStmt, more_of-PStmt, Row_of-Branch, end_of-Branch, more_of-Branch}
use Rattle.lq_tree.specs.declared.plain.PFunc.{PFunc}
use Rattle.lq_tree.specs.declared.plain.Branch.{Branch, Branch'}
use Rattle.lq_tree.specs.PlainWalk.{inside, within_row, within_branch, within_branches}
use Rattle.lq_text.proofs.Lists.{all_left, all_right, all_joined}
use Rattle.lq_linear.specs.Form.{Linear}
use Rattle.lq_linear.specs.Row.{Inequality}
use Rattle.lq_linear.specs.Collect.{as_row, symbol}
use Rattle.lq_linear.specs.Sides.{at_most, below}
use Rattle.lq_templates.specs.declared.condition.Given.{Given}
use Rattle.lq_templates.specs.declared.condition.Given.TheVariants.{Of}
use Rattle.lq_templates.specs.declared.condition.Rule.{Rule}
use Rattle.lq_templates.specs.declared.condition.Rule.TheVariants.{BoundsLow, BoundsHigh, Fold, Join, LoopEntry, LoopAgain, Pre, Post, Effect, Pair}
use Rattle.lq_templates.specs.declared.condition.Condition.{Condition}
use Rattle.lq_templates.specs.declared.condition.Site.{Site}
use Rattle.lq_templates.specs.Accesses.{Access, same_access}
use Rattle.lq_templates.specs.Lives.{lives, list_lives}
use Rattle.lq_templates.specs.Spots.{Walk, with_index, walked, walked_row, walked_branch, walked_branches}
use Rattle.lq_templates.specs.Conditions.{asks, site, absurdity}
use Rattle.lq_symbolic.specs.declared.value.SymValue.{SymValue}
use Rattle.lq_symbolic.specs.declared.value.SymValue.TheVariants.{Int as OfInt}
use Rattle.lq_symbolic.specs.declared.state.Start.{Start}
use Rattle.lq_symbolic.specs.declared.state.SymState.{SymState as State}
use Rattle.lq_symbolic.specs.State.{length_of, Valued, with_rows, taken, not_below_zero}
use Rattle.lq_symbolic.specs.Value.{value, all_values}
use Rattle.lq_symbolic.specs.Assume.{assumed}
use Rattle.lq_heap.specs.Records.{Reached, fold_all, folded, zero_parts, asked_opening}
use Rattle.lq_effects.specs.declared.effect.Effect.{Effect as EffectOf}
use Rattle.lq_effects.specs.Effects.{effects_of, effect_rows, asked_of, asked_access, asked_call, asked_calls}
use Rattle.lq_disjoint.specs.declared.beside.Beside.{Beside}
use Rattle.lq_disjoint.specs.Pairs.{clash, asked_pair, asked_pairs, asked_cobegin, apart}
use Rattle.lq_conditions.specs.There.{IsNumber, IsThere, AreThere}
use Rattle.lq_ground.specs.Ground.{Ground, class_of_slot, fields_of, in_first, in_second, in_branch, spot_rows, at_spot, start_of, in_scope, function_scope, at_entry, argument_values, pre_rows, post_rows, is_pre, is_post}
use Rattle.lq_conditions.specs.After.{opened_at, loads_from, stores_to, Ends, ends, after, after_row}
use Rattle.lq_conditions.specs.Asked.{fixed_goal, ask, asked_bounds, accessed, asked_callee, asked_spot, if_lives, result_parts, result_state, asked_result, asked_return, with_index_value, iteration, iteration_beside, asked_foreach, blocks_beside, asked, asked_row, asked_branch, asked_branches}
use Rattle.lq_conditions.proofs.Numbers.{all_mapped, all_flat, all_any, all_filtered, effects_there, rows_there}
use Rattle.lq_conditions.proofs.FineStates.{taken_fine, put_fine, folded_fine, rows_fine, value_fine, all_values_fine, assumed_fine, asks_there, fold_all_there, asked_opening_there}
use Rattle.lq_conditions.proofs.WalksOn.{walked_row_on, walked_branches_on}
use Rattle.lq_conditions.proofs.FineStatements.{IsSorted, Own, Fine, All, Fits, fits_front, loop_rows_there, join_rows_there, at_spot_fine, in_scope_fine, loads_fine, stores_fine, opened_at_fine, ends_fine, if_fits, while_fits, after_fine, after_row_fine}

module _ (g : Ground) where
  abbrev count : ℕ
  count = length g.templates

  abbrev Facts : List Given → Type 0
  Facts facts = AllByRecursion (IsThere count) facts

  -- a condition for each of some goals
  pub ask_there : (rule : Rule) (at : Place) (s : State) (goals : List Given) → Fine g s → Facts goals → All g (ask rule at s goals)
  ask_there rule at s [] h k = tt
  ask_there rule at s (goal ∷ goals) h k = (asks_there count rule (site at) s.items goal h.items k.0, ask_there rule at s goals h k.1)

  -- ---- accesses

  fixed_there : (row : Option Inequality) → IsThere count (fixed_goal row)
  fixed_there None = tt
  fixed_there (Some row) = tt

  bounds_there : (at : Place) (r : Reached) → Fine g r.state → All g (asked_bounds at r)
  bounds_there at r h = (
    asks_there count BoundsLow (site at) r.state.items _ h.items (fixed_there (as_row (not_below_zero r.at.offset))),
    (asks_there count BoundsHigh (site at) r.state.items _ h.items (fixed_there (as_row (below r.at.offset (length_of r.at)))), tt),
  )

  of_there : (at : Site) (facts : List Given) (access : Access) (element : Linear) (start : Start) → Facts facts → All g (asked_of g.templates at facts access element start)
  of_there at facts access element start h =
      all_mapped (AreThere count) (λ (e : EffectOf). IsNumber count e.number) (λ e. asks Effect at facts (effect_rows e element start.values))
      (λ e k. asks_there count Effect at facts (effect_rows e element start.values) h k)
      (filter (λ (e : EffectOf). same_access e.access access) (effects_of g.templates start.scope))
      (all_filtered (λ (e : EffectOf). IsNumber count e.number) (λ (e : EffectOf). same_access e.access access) (effects_of g.templates start.scope) (effects_there g.templates start.scope))

  access_there : (at : Site) (facts : List Given) (access : Access) (element : Linear) (s : State) → Facts facts → All g (asked_access g.templates at facts access element s)
  access_there at facts access element s h =
      all_flat (AreThere count) (λ start. Unit {0}) (asked_of g.templates at facts access element) (λ start _. of_there at facts access element start h) s.scopes (all_any s.scopes)

  accessed_there : (at : Place) (base field : ℕ) (write : Bool) (r : Reached) → IsNumber count (class_of_slot g base) → Fine g r.state → All g (accessed g at base field write r)
  accessed_there at base field write r k h =
      let at_work = opened_at g base r in
      let access : Access = record { class = class_of_slot g base; field = field; write = write } in
      all_joined (AreThere count) (asked_bounds at r ++ asked_opening (site at) (class_of_slot g base) r.at r.state) _
      (all_joined (AreThere count) (asked_bounds at r) _ (bounds_there at r h) (asked_opening_there count (site at) (class_of_slot g base) r.at r.state h))
      (access_there (site at) at_work.items access r.at.offset at_work (opened_at_fine g base r k h).items)

  -- ---- calls

  call_there : (at : Site) (values : List Linear) (s : State) (e : EffectOf) → IsNumber count e.number → Fine g s → All g (asked_call g.templates at values s e)
  call_there at values s e k h =
      let element = symbol s.next in
      access_there at (s.items ++ effect_rows e element values ∷ []) e.access element s (all_joined (IsThere count) s.items (effect_rows e element values ∷ []) h.items (k, tt))

  calls_there : (at : Site) (scope : ℕ) (values : List Linear) (s : State) → Fine g s → All g (asked_calls g.templates at scope values s)
  calls_there at scope values s h =
      all_flat (AreThere count) (λ (e : EffectOf). IsNumber count e.number) (asked_call g.templates at values s) (λ e k. call_there at values s e k h)
      (effects_of g.templates scope) (effects_there g.templates scope)

  callee_there : (at : Place) (func : ℕ) (callee : Option PFunc) (arguments : List SymValue) (s : State) → Fine g s → All g (asked_callee g at func callee arguments s)
  callee_there at func None arguments s h = tt
  callee_there at func (Some callee) arguments s h =
      let values = argument_values callee arguments in
      all_joined (AreThere count) (fold_all (site at) s ++ ask Pre at s (pre_rows g func values)) _
      (all_joined (AreThere count) (fold_all (site at) s) _ (fold_all_there count (site at) s h) (ask_there Pre at s (pre_rows g func values) h (rows_there (is_pre func) g.templates values)))
      (calls_there (site at) (function_scope g.env.program.funcs func) values s h)

  -- ---- ends of lists

  spot_there : (rule : Rule) (at : Place) (kind : PKind) (w : Walk) (s : State) → Facts (spot_rows g kind w s) → Fine g s → All g (asked_spot g rule at kind w s)
  spot_there rule at kind w s k h = all_joined (AreThere count) (fold_all (site at) s) _ (fold_all_there count (site at) s h) (ask_there rule at s (spot_rows g kind w s) h k)

  pub lives_there : (test : Bool) (conditions : List Condition) → (test ≡ true → All g conditions) → All g (if_lives test conditions)
  lives_there true conditions h = h refl
  lives_there false conditions h = tt

  result_state_fine : (s : State) (result : Option Valued) → Fine g s → ((v : Valued) → result ≡ Some v → Fine g v.state) → Fine g (result_state s result)
  result_state_fine s None h k = h
  result_state_fine s (Some v) h k = k v refl

  pub result_there : (at : Place) (before : State) (result : Option Valued) → Fine g (result_state before result) → All g (asked_result g at before result)
  result_there at before result h =
      let s = result_state before result in
      let values = at_entry s.scopes ++ result_parts result in
      all_joined (AreThere count) (fold_all (site at) s) _ (fold_all_there count (site at) s h) (ask_there Post at s (post_rows g g.env.number values) h (rows_there (is_post g.env.number) g.templates values))

  return_there : (at : Place) (e : Option PExpr) (s : State) → Fine g s → All g (asked_return g at e s)
  return_there at None s h = result_there at s None h
  return_there at (Some e) s h = result_there at s (Some (value e s)) (value_fine count e s h)

  -- ---- parallel statements

  pair_there : (at : Place) (facts : List Given) (element : Linear) (first second : Beside) (a b : EffectOf) → Facts facts → IsNumber count a.number → IsNumber count b.number → AreThere count (asked_pair at facts element first second a b)
  pair_there at facts element first second a b h j k =
      let rows = effect_rows a element first.start.values ∷ effect_rows b element second.start.values ∷ [] in
      asks_there count Pair _ (facts ++ rows) absurdity (all_joined (IsThere count) facts rows h (j, (k, tt))) tt

  pairs_there : (at : Place) (facts : List Given) (element : Linear) (first second : Beside) → Facts facts → All g (asked_pairs g.templates at facts element first second)
  pairs_there at facts element first second h =
      all_flat (AreThere count) (λ (a : EffectOf). IsNumber count a.number) _
      (λ (a : EffectOf) j. all_mapped (AreThere count) (λ (b : EffectOf). IsNumber count b.number) (asked_pair at facts element first second a)
      (λ b k. pair_there at facts element first second a b h j k)
      (filter (λ (b : EffectOf). clash a.access b.access) (effects_of g.templates second.start.scope))
      (all_filtered (λ (b : EffectOf). IsNumber count b.number) (λ (b : EffectOf). clash a.access b.access) (effects_of g.templates second.start.scope) (effects_there g.templates second.start.scope)))
      (effects_of g.templates first.start.scope) (effects_there g.templates first.start.scope)

  cobegin_there : (at : Place) (facts : List Given) (element : Linear) (blocks : List Beside) → Facts facts → All g (asked_cobegin g.templates at facts element blocks)
  cobegin_there at facts element [] h = tt
  cobegin_there at facts element (first ∷ later) h =
      all_joined (AreThere count) (flat_map (asked_pairs g.templates at facts element first) later) _
      (all_flat (AreThere count) (λ (b : Beside). Unit {0}) (asked_pairs g.templates at facts element first) (λ b _. pairs_there at facts element first b h) later (all_any later))
      (cobegin_there at facts element later h)

  foreach_there : (at : Place) (index : ℕ) (e : Ends) (step : ℤ) (branch : Branch) (w : Walk) (s : State) → Fine g s → All g (asked_foreach g at index e step branch w s)
  foreach_there at index e step branch w s h =
      let rows = apart e.low e.high step (symbol s.next) (symbol (s.next + 1)) in
      pairs_there at (with_rows rows s).items (symbol (s.next + 2)) (iteration_beside g index w s branch s.next) (iteration_beside g index w s branch (s.next + 1)) (rows_fine count rows s h).items

  iteration_fine : (index : ℕ) (e : Ends) (w : Walk) (s : State) → Fine g s → Fine g (iteration g index e w s)
  iteration_fine index e w s h =
      let i = symbol s.next in
      let begun = with_index_value g index s.next (taken 1 s) in
      rows_fine count (at_most e.low i ∷ below i e.high ∷ []) (in_scope (start_of g w begun) begun)
      (in_scope_fine g (start_of g w begun) begun (put_fine count (class_of_slot g index) index (OfInt i) (taken 1 s) (taken_fine count 1 s h)))

  -- ---- statements

  mutual
    pub asked_there : (at : Place) (kind : PKind) (w : Walk) (s : State) → IsSorted count (class_of_slot g) kind → AllByRecursion (Own g) (inside kind) → Fits g (walked kind w).spots → Fine g s → All g (asked g at kind w s)
    asked_there at (Set to e) w s own all fits h = tt
    asked_there at (Load to base index field) w s own all fits h = accessed_there at base field false (loads_from base index s) own (loads_fine g base index s h)
    asked_there at (Store base index field e) w s own all fits h = accessed_there at base field true (stores_to base index e s).to own (stores_fine g base index e s h)
    asked_there at (Calloc to n type) w s own all fits h =
        ask_there Fold at (value n s).state (Of (class_of_slot g to) (flat_map zero_parts (fields_of g to)) ∷ []) (value_fine count n s h) (own, tt)
    asked_there at (Call to function args) w s own all fits h =
        callee_there at function (slice_get g.env.program.funcs function) (all_values args s).values (all_values args s).state (all_values_fine count args s h)
    asked_there at (If' e n body m other) w s own all fits h =
        let kind = If' e n body m other in
        let k = if_fits g e n body m other w fits in
        let both = list_lives body && list_lives other in
        let first_all = all_left (Own g) (within_row body) (within_row other) all in
        let second_all = all_right (Own g) (within_row body) (within_row other) all in
        let yes = assumed true e s in
        let no = assumed false e s in
        let yes_fine = assumed_fine count true e s h in
        let no_fine = assumed_fine count false e s h in
        let first = asked_row g body (in_first kind w) yes in
        let second = asked_row g other (in_second kind body w) no in
        let behind_first = after_row g body (in_first kind w) yes in
        let behind_second = after_row g other (in_second kind body w) no in
        let join_first = if_lives both (asked_spot g Join at kind w behind_first) in
        let join_second = if_lives both (asked_spot g Join at kind w behind_second) in
        all_joined (AreThere count) (first ++ join_first ++ second) join_second
        (all_joined (AreThere count) (first ++ join_first) second
        (all_joined (AreThere count) first join_first
        (asked_row_there body (in_first kind w) yes first_all k.1 yes_fine)
        (lives_there both (asked_spot g Join at kind w behind_first) (λ live. spot_there Join at kind w behind_first
        (join_rows_there g e n body m other w behind_first live k.0) (after_row_fine g body (in_first kind w) yes first_all k.1 yes_fine))))
        (asked_row_there other (in_second kind body w) no second_all fits no_fine))
        (lives_there both (asked_spot g Join at kind w behind_second) (λ live. spot_there Join at kind w behind_second
        (join_rows_there g e n body m other w behind_second live k.0) (after_row_fine g other (in_second kind body w) no second_all fits no_fine)))
    asked_there at (While' n head e m body) w s own all fits h =
        let kind = While' n head e m body in
        let k = while_fits g n head e m body w fits in
        let head_all = all_left (Own g) (within_row head) (within_row body) all in
        let body_all = all_right (Own g) (within_row head) (within_row body) all in
        let first = at_spot g kind w (folded s) in
        let first_fine = at_spot_fine g kind w (folded s) (λ s. loop_rows_there g n head e m body w s k.0) (folded_fine count s h) in
        let behind_head = after_row g head (in_first kind w) first in
        let head_fine = after_row_fine g head (in_first kind w) first head_all k.1 first_fine in
        let tested = assumed true e behind_head in
        let tested_fine = assumed_fine count true e behind_head head_fine in
        let behind_body = after_row g body (in_second kind head w) tested in
        let entry = asked_spot g LoopEntry at kind w s in
        let in_head = asked_row g head (in_first kind w) first in
        let in_body = asked_row g body (in_second kind head w) tested in
        let again = if_lives (list_lives body) (asked_spot g LoopAgain at kind w behind_body) in
        all_joined (AreThere count) (entry ++ in_head ++ in_body) again
        (all_joined (AreThere count) (entry ++ in_head) in_body
        (all_joined (AreThere count) entry in_head
        (spot_there LoopEntry at kind w s (loop_rows_there g n head e m body w s k.0) h)
        (asked_row_there head (in_first kind w) first head_all k.1 first_fine))
        (asked_row_there body (in_second kind head w) tested body_all fits tested_fine))
        (lives_there (list_lives body) (asked_spot g LoopAgain at kind w behind_body) (λ live. spot_there LoopAgain at kind w behind_body
        (loop_rows_there g n head e m body w behind_body k.0) (after_row_fine g body (in_second kind head w) tested body_all fits tested_fine)))
    asked_there at (Cobegin' n blocks) w s own all fits h =
        let fork = folded s in
        let fork_fine = folded_fine count s h in
        all_joined (AreThere count) (fold_all (site at) s ++ asked_branches g blocks w fork) _
        (all_joined (AreThere count) (fold_all (site at) s) _ (fold_all_there count (site at) s h) (branches_there blocks w fork all fits fork_fine))
        (cobegin_there at fork.items (symbol fork.next) (blocks_beside g blocks w fork) fork_fine.items)
    asked_there at (Foreach index low high step branch) w s own all fits h =
        let e = ends low high s in
        let fork = folded e.state in
        let inner = with_index index w in
        let ends_are = ends_fine g low high s h in
        let fork_fine = folded_fine count e.state ends_are in
        all_joined (AreThere count) (fold_all (site at) e.state ++ asked_branch g branch inner (iteration g index e inner fork)) _
        (all_joined (AreThere count) (fold_all (site at) e.state) _ (fold_all_there count (site at) e.state ends_are)
        (branch_there branch inner (iteration g index e inner fork) all fits (iteration_fine index e inner fork fork_fine)))
        (foreach_there at index e step branch inner fork fork_fine)
    asked_there at (Print e) w s own all fits h = tt
    asked_there at (Return e) w s own all fits h = return_there at e s h

    pub asked_row_there : {n : _} (row : Row_of-PStmt n) (w : Walk) (s : State) → AllByRecursion (Own g) (within_row row) → Fits g (walked_row row w).spots → Fine g s → All g (asked_row g row w s)
    asked_row_there end_of-PStmt w s all fits h = tt
    asked_row_there (more_of-PStmt at kind rest) w s all fits h =
        let inner = all_left (Own g) (inside kind) (within_row rest) all.1 in
        let here = fits_front g (walked kind w).spots (walked_row rest (walked kind w)).spots (walked_row_on rest (walked kind w)) fits in
        all_joined (AreThere count) (asked g at kind w s) _ (asked_there at kind w s all.0 inner here h)
        (lives_there (lives kind) (asked_row g rest (walked kind w) (after g kind w s))
        (λ live. asked_row_there rest (walked kind w) (after g kind w s) (all_right (Own g) (inside kind) (within_row rest) all.1) fits (after_fine g kind w s all.0 inner here h)))

    branch_there : (branch : Branch) (w : Walk) (s : State) → AllByRecursion (Own g) (within_branch branch) → Fits g (walked_branch branch w).spots → Fine g s → All g (asked_branch g branch w s)
    branch_there (Branch' at n body) w s all fits h =
        let inner = in_branch (Branch' at n body) w in
        all_joined (AreThere count) (asked_row g body inner s) _ (asked_row_there body inner s all fits h)
        (fold_all_there count (site at) (after_row g body inner s) (after_row_fine g body inner s all fits h))

    branches_there : {n : _} (row : Row_of-Branch n) (w : Walk) (s : State) → AllByRecursion (Own g) (within_branches row) → Fits g (walked_branches row w).spots → Fine g s → All g (asked_branches g row w s)
    branches_there end_of-Branch w s all fits h = tt
    branches_there (more_of-Branch branch rest) w s all fits h =
        let here = fits_front g (walked_branch branch w).spots (walked_branches rest (walked_branch branch w)).spots (walked_branches_on rest (walked_branch branch w)) fits in
        all_joined (AreThere count) (asked_branch g branch w (in_scope (start_of g w s) s)) _
        (branch_there branch w (in_scope (start_of g w s) s) (all_left (Own g) (within_branch branch) (within_branches rest) all) here (in_scope_fine g (start_of g w s) s h))
        (branches_there rest (walked_branch branch w) s (all_right (Own g) (within_branch branch) (within_branches rest) all) fits h)
