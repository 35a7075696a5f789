-- What the functions of a regular source come to, those of its plain form come to, and so does the whole program.
use Rattle.std.proofs.Common.{◌≡◌, ℕ, zero, suc, ◌+◌, ◌-◌, ◌≤◌, ℤ, pos, Bool, true, false, cond, nat_lt, List, [], ◌∷◌, ◌++◌, length, map, replicate, get_or, slice_get, Option, None, Some, option_map, codes, refl, sym, ap, ◌∙◌, subst, arith, length-append, append_assoc, append-nil}
use Rattle.std.proofs.lemmas.List.{length-replicate, length-map}
use Rattle.std.specs.List.{AllByRecursion}
use Rattle.lq_tree.specs.declared.place.Place.{Place}
use Rattle.lq_tree.specs.declared.trap.TrapKind.TheVariants.{Words}
use Rattle.lq_tree.specs.declared.stmt.Stmt.{Stmt}
use Rattle.lq_tree.specs.declared.plain.PStmt.{PStmt}
use Rattle.lq_tree.specs.declared.program.Func.{Func}
use Rattle.lq_tree.specs.declared.program.Param.{Param}
use Rattle.lq_tree.specs.declared.program.Program.{Program}
use Rattle.lq_tree.specs.Lookup.{same, function_of, number_of}
use Rattle.lq_tree.specs.Types.{Ty, declared, result_of}
use Rattle.lq_tree.specs.Locals.{Local, variables_of}
use Rattle.lq_meaning.specs.declared.action.Action.TheVariants.{Enter}
use Rattle.lq_meaning.specs.World.{World}
use Rattle.lq_meaning.specs.Ending.{Outcome}
use Rattle.lq_meaning.specs.Control.{trapped, Came, Gives, Stops, Run, go_on, ◌⨾◌, due, Flow, GoesOn, Returns, Statement, ◌then_do◌, returned, ended}
use Rattle.lq_meaning.specs.Entry.{start, start_on, arguments, enter}
use Rattle.lq_meaning.specs.Meaning.{Context as Source, Locals, local, exec, exec_all, bound, in_function, called, context, enter_main, sequential}
use Rattle.lq_meaning.specs.PlainMeaning.{Slots, word_of, bound as plain_bound, exec_all as plain_exec_all, in_function as plain_in_function, called as plain_called, context as plain_context, enter_main as plain_enter_main, sequential as plain_sequential}
use Rattle.lq_plain.specs.Flat.{Env, Made}
use Rattle.lq_plain.specs.Plain.{fresh, param_slot, scope_from, plain, plain_all, plain_body, plain_func, plain_program}
use Rattle.lq_plain.proofs.Regular.{Takes, IsRegularBody, parameter, IsRegularFunction, TakesInput, IsRegularEntry, IsRegularProgram}
use Rattle.lq_plain.proofs.Related.{Related, related_above, Bounded, bounded_above, one_more}
use Rattle.lq_plain.proofs.Runs.{exec_all-joined}
use Rattle.lq_plain.proofs.Taken.{IsAfter, after_none, after_on, beside}
use Rattle.lq_plain.proofs.KeptExpressions.{CallsAgree}
use Rattle.lq_plain.proofs.Alike.{Alike, FlowAlike, Fits, alike_then}
use Rattle.lq_plain.proofs.KeptStatements.{done, scope_behind}

-- ---- bodies

-- any locals and any slots
abbrev Any : Locals → Slots → Type 0
Any l s = Unit {0}

returned_alike : (a : Came (Flow Locals)) (b : Came (Flow Slots)) → Alike (FlowAlike Any) a b → go_on a returned ≡ go_on b returned
returned_alike (Gives (GoesOn l) v) (Gives (GoesOn s) w) alike = λ i. Gives (pos 0) (alike.1 i)
returned_alike (Gives (GoesOn l) v) (Gives (Returns word) w) alike = absurd alike.0
returned_alike (Gives (Returns word) v) (Gives (GoesOn s) w) alike = absurd alike.0
returned_alike (Gives (Returns word) v) (Gives (Returns word') w) alike = λ i. Gives (alike.0 i) (alike.1 i)
returned_alike (Gives flow v) (Stops ending w) alike = absurd alike
returned_alike (Stops ending v) (Gives flow w) alike = absurd alike
returned_alike (Stops ending v) (Stops other w) alike = λ i. Stops (alike.0 i) (alike.1 i)

module _ (c : Source) (call : Place → ℕ → List ℤ → Run ℤ) (result : Ty) (calls : CallsAgree c call) where
  abbrev env : List (Local ℕ) → Env
  env scope = record { program = c.program; result = result; scope = scope }

  -- a body comes to what its plain form comes to
  record BodyAlike (scope : List (Local ℕ)) (m : Made) (run : Statement Locals) (last : Made) : Type 0 where
    pub new : List PStmt
    pub after : IsAfter m last new
    pub alike : (l : Locals) (s : Slots) → Related scope l (length m.slots) s → length last.slots ≤ length s → (w : World) → Alike (FlowAlike Any) (run l w) (plain_exec_all (beside c call) new s w)

  body_alike : (scope : List (Local ℕ)) (body : List Stmt) (m : Made) → Bounded scope (length m.slots) → IsRegularBody c.program (variables_of scope) body → BodyAlike scope m (exec_all c body) (plain_all (env scope) body m)
  body_alike scope [] m bounded regular = record { new = []; after = after_none m; alike = λ l s related long w. (tt, refl) }
  body_alike scope (st ∷ body) m bounded regular =
      let d = beside c call in
      let first = done c call result calls st.at scope st.kind m bounded regular.0 in
      let b = plain (env scope) st.at st.kind m in
      let rest = body_alike b.scope body b.made first.bounded (subst (λ list. IsRegularBody c.program list body) (sym (scope_behind c call result calls st.at scope st.kind m)) regular.1) in
      record {
        new = first.new ++ rest.new;
        after = after_on first.after rest.after;
        alike = λ l s related long w.
            subst (λ (run : Run (Flow Slots)). Alike (FlowAlike Any) ((exec c st.at st.kind l then_do exec_all c body) w) (run w)) (sym (exec_all-joined d first.new rest.new s))
            (alike_then (Fits b.scope (length b.made.slots) (length s)) Any (exec c st.at st.kind l w) (plain_exec_all d first.new s w) (exec_all c body) (plain_exec_all d rest.new)
            (first.matches.matches l s related (omega (arith, rest.after.grows)) w)
            (λ inner after v fits. rest.alike inner after fits.0 (omega (arith, fits.1)) v));
      }

-- ---- parameters

pub params_bounded : (n : ℕ) (params : List Param) (scope : List (Local ℕ)) → Bounded scope n → Bounded (scope_from n params scope) (n + length params)
params_bounded n [] scope bounded = bounded_above scope n (n + 0) (omega arith) bounded
params_bounded n (p ∷ params) scope bounded =
    bounded_above (scope_from (suc n) params (record { name = p.name; type = declared p.ctype; what = n } ∷ scope)) (suc n + length params) (n + suc (length params)) (omega arith)
    (params_bounded (suc n) params (record { name = p.name; type = declared p.ctype; what = n } ∷ scope) (omega arith, bounded))

pub params_variables : (n : ℕ) (params : List Param) (scope : List (Local ℕ)) → variables_of (scope_from n params scope) ≡ variables_of scope ++ map parameter params
params_variables n [] scope = sym (append-nil (variables_of scope))
params_variables n (p ∷ params) scope =
    params_variables (suc n) params (record { name = p.name; type = declared p.ctype; what = n } ∷ scope)
    ∙ ap (λ list. list ++ map parameter params) (one_more (record { name = p.name; type = declared p.ctype; what = n }) scope)
    ∙ append_assoc (variables_of scope) (parameter p ∷ []) (map parameter params)

-- the words stand in the slots from this one on
abbrev StandAt : ℕ → List ℤ → Slots → Type 0
StandAt n [] slots = Unit {0}
StandAt n (word ∷ words) slots = (word_of slots n ≡ word) × StandAt (suc n) words slots

params_related : (n : ℕ) (params : List Param) (words : List ℤ) (scope : List (Local ℕ)) (locals : Locals) (slots : Slots) → length params ≡ length words → StandAt n words slots → Related scope locals n slots
    → Related (scope_from n params scope) (bound params words locals) (n + length params) slots
params_related n [] words scope locals slots many stand related = related_above scope locals n (n + 0) slots (omega arith) related
params_related n (p ∷ params) [] scope locals slots many stand related = absurd (omega arith)
params_related n (p ∷ params) (word ∷ words) scope locals slots many stand related =
    related_above (scope_from (suc n) params (record { name = p.name; type = declared p.ctype; what = n } ∷ scope)) (bound params words (local p.name (declared p.ctype) word ∷ locals)) (suc n + length params) (n + suc (length params)) slots (omega arith)
    (params_related (suc n) params words (record { name = p.name; type = declared p.ctype; what = n } ∷ scope) (local p.name (declared p.ctype) word ∷ locals) slots (omega arith) stand.1
    (record { name = refl; type = refl; word = sym stand.0; made = omega arith }, related))

-- words behind others, and in front of others
stand_between : (n : ℕ) (front words rest : List ℤ) → length front ≡ n → StandAt n words (front ++ (words ++ rest))
stand_between n front [] rest many = tt
stand_between n front (word ∷ words) rest many = (
  subst (λ k. get_or (front ++ (word ∷ (words ++ rest))) k (pos 0) ≡ word) many (here front),
  subst (λ slots. StandAt (suc n) words slots) (append_assoc front (word ∷ []) (words ++ rest)) (stand_between (suc n) (front ++ word ∷ []) words rest (length-append front (word ∷ []) ∙ omega arith)),
) where
  here : (xs : List ℤ) → get_or (xs ++ (word ∷ (words ++ rest))) (length xs) (pos 0) ≡ word
  here [] = refl
  here (x ∷ xs) = here xs

-- ---- functions

module _ (c : Source) (call : Place → ℕ → List ℤ → Run ℤ) (calls : CallsAgree c call) where
  function_alike : (f : Func) (words : List ℤ) → length f.params ≡ length words → IsRegularFunction c.program f → in_function c (Some f) words ≡ plain_in_function (beside c call) (Some (plain_func c.program f)) words
  function_alike f words many regular =
      let d = beside c call in
      let scope = scope_from 0 f.params [] in
      let m = fresh (map param_slot f.params) in
      let made = plain_body c.program f in
      let slots = plain_bound (plain_func c.program f) words in
      let size : length m.slots ≡ length f.params = length-map f.params param_slot in
      let body = body_alike c call (result_of f.result) calls scope f.body m (bounded_above scope (0 + length f.params) (length m.slots) (omega (arith, size)) (params_bounded 0 f.params [] tt))
      (subst (λ list. IsRegularBody c.program list f.body) (sym (params_variables 0 f.params [])) regular) in
      let related : Related scope (bound f.params words []) (length m.slots) slots =
      related_above scope (bound f.params words []) (0 + length f.params) (length m.slots) slots (omega (arith, size)) (params_related 0 f.params words [] [] slots many (stand_between 0 [] words _ refl) tt) in
      let long : length made.slots ≤ length slots = omega (arith, length-append words (replicate (length made.slots - length words) (pos 0)), length-replicate (length made.slots - length words) (pos 0)) in
      λ i w. (returned_alike (exec_all c f.body (bound f.params words []) w) (plain_exec_all d body.new slots w) (body.alike (bound f.params words []) slots related long w)
      ∙ (λ j. go_on (plain_exec_all d (sym body.after.stands j) slots w) returned)) i

  in_function_alike : (f : Option Func) (words : List ℤ) → Takes f (length words) → ((g : Func) → f ≡ Some g → IsRegularFunction c.program g) → in_function c f words ≡ plain_in_function (beside c call) (option_map (plain_func c.program) f) words
  in_function_alike None words takes regular = absurd takes
  in_function_alike (Some f) words takes regular = function_alike f words takes (regular f refl)

-- ---- calls

module _ (p : Program) (regular : IsRegularProgram p) (fuel : ℕ) where
  numbered : (funcs : List Func) (name : List ℕ) → slice_get (map (plain_func p) funcs) (number_of funcs name) ≡ option_map (plain_func p) (function_of funcs name)
  numbered [] name = refl
  numbered (f ∷ funcs) name = at (same f.name name) (numbered funcs name) where
    at : (b : Bool) → slice_get (map (plain_func p) funcs) (number_of funcs name) ≡ option_map (plain_func p) (function_of funcs name)
        → slice_get (plain_func p f ∷ map (plain_func p) funcs) (cond b 0 (suc (number_of funcs name))) ≡ option_map (plain_func p) (cond b (Some f) (function_of funcs name))
    at true later = refl
    at false later = later

  found_regular : (funcs : List Func) (name : List ℕ) → AllByRecursion (IsRegularFunction p) funcs → (g : Func) → function_of funcs name ≡ Some g → IsRegularFunction p g
  found_regular [] name all g found = absurd (some_none g found) where
    some_none : (g : Func) → None ≡ Some g → ⊥
    some_none g e = cc
  found_regular (f ∷ funcs) name all g found = at (same f.name name) (found_regular funcs name all.1 g) found where
    at : (b : Bool) → (function_of funcs name ≡ Some g → IsRegularFunction p g) → cond b (Some f) (function_of funcs name) ≡ Some g → IsRegularFunction p g
    at true later found = subst (IsRegularFunction p) (one found) all.0 where
      one : Some f ≡ Some g → f ≡ g
      one e = cc
    at false later found = later found

  calls_alike : (more : ℕ) (at : Place) (name : List ℕ) (words : List ℤ) → Takes (function_of p.funcs name) (length words) → called p fuel more at name words ≡ plain_called (plain_program p) fuel more at (number_of p.funcs name) words
  unfolding called plain_called
  calls_alike zero at name words takes = refl
  calls_alike (suc more) at name words takes =
      ap (λ (run : Run ℤ). due fuel at (Enter (suc more)) ⨾ λ _. run)
      (in_function_alike (record { program = p; fuel = fuel; call = called p fuel more }) (plain_called (plain_program p) fuel more) (calls_alike more) (function_of p.funcs name) words takes (found_regular p.funcs name regular.0)
      ∙ ap (λ f. plain_in_function (record { program = plain_program p; fuel = fuel; call = plain_called (plain_program p) fuel more }) f words) (sym (numbered p.funcs name)))

  -- ---- the whole program

  enter_alike : {R : Type 0} (refused : World → R) (entered entered' : List ℤ → World → R) (params : List Param) (words : ℕ) (input : List ℤ) → TakesInput params
      → ((given : List ℤ) → length params ≡ length given → entered given ≡ entered' given) → enter refused entered (length params) words input ≡ enter refused entered' (length params) words input
  enter_alike refused entered entered' [] words input takes same = ap (λ run. run (start words)) (same [] refl)
  enter_alike refused entered entered' (a ∷ []) words input takes same = absurd takes
  enter_alike refused entered entered' (a ∷ b ∷ []) words input takes same =
      ap (λ run. cond (nat_lt words (length input)) (refused (start words)) (run (start_on words input))) (same (arguments input) refl)
  enter_alike refused entered entered' (a ∷ b ∷ q ∷ params) words input takes same = absurd takes

  main_alike : (f : Option Func) (words : ℕ) (input : List ℤ) → IsRegularEntry f → ((g : Func) → f ≡ Some g → IsRegularFunction p g)
      → enter_main (context p fuel) f words input ≡ plain_enter_main (plain_context (plain_program p) fuel) (option_map (plain_func p) f) words input
  main_alike None words input entry regular = refl
  main_alike (Some f) words input entry regular =
      enter_alike (λ w. record { ending = trapped Words f.at; world = w }) _ _ f.params words input entry
      (λ given many. ap {B = World → Outcome} (λ (run : Run ℤ) (w : World). ended (run w)) (function_alike (context p fuel) (plain_called (plain_program p) fuel 1023) (calls_alike 1023) f given many (regular f refl)))

  -- the plain form of a regular source runs as the source does
  pub keeps : (words : ℕ) (input : List ℤ) → plain_sequential fuel words (plain_program p) input ≡ sequential fuel words p input
  keeps words input =
      sym (main_alike (function_of p.funcs (codes "main")) words input regular.1 (found_regular p.funcs (codes "main") regular.0)
      ∙ ap (λ f. plain_enter_main (plain_context (plain_program p) fuel) f words input) (sym (numbered p.funcs (codes "main"))))
