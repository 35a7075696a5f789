-- The plain form of a slice.
use Rattle.std.proofs.Common.{◌≡◌, ℕ, ◌+◌, pos, nat_eq, true, List, [], ◌∷◌, ◌++◌, map, length, Some, None, refl, sym, ap, ap₂, ◌∙◌, append-nil, append_assoc, length-append}
use Rattle.std.specs.Cmp.Lexicographic.{pointwise, bytes_decides}
use Rattle.lq_tree.specs.declared.place.Place.{Place}
use Rattle.lq_tree.specs.declared.expr.Base.TheVariants.{Int}
use Rattle.lq_tree.specs.declared.expr.Expr.{Num, Var}
use Rattle.lq_tree.specs.declared.stmt.StmtKind.{Print}
use Rattle.lq_tree.specs.declared.stmt.Stmt.{Stmt}
use Rattle.lq_tree.specs.declared.plain.PExpr.{Num as NumP, Slot as InSlot}
use Rattle.lq_tree.specs.declared.plain.PKind.{Store as StoreP, Load as LoadP, Print as PrintP, Calloc as CallocP, Return as ReturnP, Cobegin as CobeginP}
use Rattle.lq_tree.specs.declared.plain.PStmt.{PStmt}
use Rattle.lq_tree.specs.declared.plain.Slot.{Slot}
use Rattle.lq_tree.specs.declared.program.Program.{Program}
use Rattle.lq_tree.specs.Types.{Ty, Number, Pointer, element_of, expression_type}
use Rattle.lq_tree.specs.Locals.{Local, variables_of}
use Rattle.lq_tree.proofs.TypeLaws.{type_of_index}
use Rattle.lq_plain.specs.Flat.{Env, slot_of, type_of, Made, statement, valued, Flat, Is, Names, flat, flatten, then_stands, with_slot, int_type}
use Rattle.lq_plain.specs.Plain.{Behind, behind, fresh, plain, plain_all, stored, put, then_holds, branch}
use Rattle.lq_plain.specs.Lists.{one, all_branches}
use Rattle.lq_plain.proofs.Forms.{flat_index, flat_calloc}
use Rattle.lq_plain.proofs.StatementForms.{plain_block, plain_cobegin}
use Rattle.lq_alone.specs.declared.slice.Store.{Store}
use Rattle.lq_alone.specs.declared.slice.Step.{Step}
use Rattle.lq_alone.specs.declared.slice.Step.TheVariants.{Store as StoreStep, Print as PrintStep}
use Rattle.lq_alone.specs.declared.slice.Block.{Block as Branch}
use Rattle.lq_alone.specs.declared.slice.Slice.{Slice}
use Rattle.lq_alone.specs.Slice.{int, pointer_to_int, element, store_statement, step_statement, block_statement, declaration, fork, last, body}

-- ---- the plain statements

-- the array is in the first slot
abbrev pub plain_store : Store → PStmt
plain_store s = statement s.at (StoreP 0 (NumP (pos s.index)) 0 (NumP s.value))

-- a print loads into a slot of its own, and prints that
abbrev pub plain_load : Place → (index slot : ℕ) → PStmt
plain_load at index slot = statement at (LoadP slot 0 (NumP (pos index)) 0)

abbrev pub plain_print : Place → (slot : ℕ) → PStmt
plain_print at slot = statement at (PrintP (InSlot slot))

-- stores and prints, with the slots from this number on
abbrev pub plain_steps : ℕ → List Step → List PStmt
plain_steps n [] = []
plain_steps n (StoreStep s ∷ steps) = plain_store s ∷ plain_steps n steps
plain_steps n (PrintStep at index ∷ steps) = plain_load at index n ∷ plain_print at n ∷ plain_steps (n + 1) steps

-- a slot without a name
abbrev unnamed : Slot
unnamed = record { name = None; ctype = int_type }

abbrev pub step_slots : List Step → List Slot
step_slots [] = []
step_slots (StoreStep s ∷ steps) = step_slots steps
step_slots (PrintStep at index ∷ steps) = unnamed ∷ step_slots steps

abbrev pub stores_made : List Slot → List Store → Made
stores_made slots stores = record { slots = slots; front = map plain_store stores }

abbrev pub plain_fork : List Slot → Slice → PStmt
plain_fork slots s =
    statement s.fork (CobeginP (branch s.left.at (stores_made slots s.left.stores) ∷ branch s.right.at (stores_made slots s.right.stores) ∷ []))

-- the last statement
abbrev pub plain_return : Slice → PStmt
plain_return s = statement s.end (ReturnP (Some (NumP (pos 0))))

-- the statements behind the fork
abbrev pub plain_end : List Slot → Slice → List PStmt
plain_end slots s = plain_steps (length slots) s.after ++ plain_return s ∷ []

-- the slots of `main`, and its statements
abbrev pub array_slot : (name : List ℕ) → Slot
array_slot name = record { name = Some name; ctype = pointer_to_int }

abbrev pub body_slots : (name : List ℕ) → Slice → List Slot
body_slots name s = array_slot name ∷ step_slots s.after

abbrev pub plain_statements : (name : List ℕ) → Slice → List PStmt
plain_statements name s =
    statement s.declaration (CallocP 0 (NumP (pos s.count)) int)
    ∷ (map plain_store s.before ++ (plain_fork (array_slot name ∷ []) s ∷ plain_end (array_slot name ∷ []) s))

-- more statements behind what has been made
abbrev more : Made → List PStmt → Made
more m front = record { slots = m.slots; front = m.front ++ front }

module _ (p : Program) (name : List ℕ) where
  -- the array is in scope alone
  abbrev scope : List (Local ℕ)
  scope = record { name = name; type = Pointer Int 0; what = 0 } ∷ []

  abbrev env : Env
  env = record { program = p; result = Number; scope = scope }

  same_name : pointwise nat_eq name name ≡ true
  same_name = (bytes_decides name name).1 refl

  slot_is : slot_of env name ≡ 0
  slot_is = rw same_name refl

  type_is : (index : ℕ) → type_of env (element name index) ≡ Number
  type_is index =
      type_of_index p (variables_of scope) (element name index) (Var name) (Num (pos index)) refl
      ∙ ap element_of (let is : expression_type p (variables_of scope) (Var name) ≡ Pointer Int 0 = rw same_name refl in is)

  -- what an element is named by
  abbrev named : (index slot : ℕ) → Made → Flat
  named index slot m = Names slot (Is (valued (NumP (pos index)) m)) 0

  flat_element : (at : Place) (index : ℕ) (m : Made) → flatten env at (element name index) m ≡ named index 0 m
  flat_element at index m = flat_index env at (Var name) (Num (pos index)) m ∙ ap (λ slot. named index slot m) slot_is

  -- a store
  store_plain : (s : Store) (m : Made) → one env (store_statement name s) m ≡ behind env (more m (plain_store s ∷ []))
  store_plain s m = ap₂ (λ t f. behind env (stored env s.at t (Num s.value) f)) (type_is s.index) (flat_element s.at s.index m)

  -- a print
  abbrev printed : Place → Ty → Flat → Behind
  printed at t f = let v = flat at t f in behind env (then_stands at (PrintP v.value) v.made)

  print_plain : (at : Place) (index : ℕ) (m : Made) →
      plain env at (Print (element name index)) m
      ≡ behind env (then_stands at (PrintP (InSlot (length m.slots))) (then_stands at (LoadP (length m.slots) 0 (NumP (pos index)) 0) (with_slot None int_type m)))
  print_plain at index m = ap₂ (printed at) (type_is index) (flat_element at index m)

  -- what is behind a statement goes on in the scope behind it
  abbrev goes_on : List Stmt → Behind → Made
  goes_on rest b = plain_all (record env { scope = b.scope }) rest b.made

  -- stores, and then the rest
  stores_plain : (stores : List Store) (rest : List Stmt) (m : Made) →
      plain_all env (map (store_statement name) stores ++ rest) m ≡ plain_all env rest (more m (map plain_store stores))
  stores_plain [] rest m = ap (λ (front : List PStmt). plain_all env rest (record { slots = m.slots; front = front })) (sym (append-nil m.front))
  stores_plain (s ∷ stores) rest m =
      ap (goes_on (map (store_statement name) stores ++ rest)) (store_plain s m)
      ∙ stores_plain stores rest (more m (plain_store s ∷ []))
      ∙ ap (λ (front : List PStmt). plain_all env rest (record { slots = m.slots; front = front })) (append_assoc m.front (plain_store s ∷ []) (map plain_store stores))

  -- the same of stores and prints
  abbrev steps_made : List Step → Made → Made
  steps_made steps m = record { slots = m.slots ++ step_slots steps; front = m.front ++ plain_steps (length m.slots) steps }

  steps_plain : (steps : List Step) (rest : List Stmt) (m : Made) →
      plain_all env (map (step_statement name) steps ++ rest) m ≡ plain_all env rest (steps_made steps m)
  steps_plain [] rest m =
      ap₂ (λ (slots : List Slot) (front : List PStmt). plain_all env rest (record { slots = slots; front = front })) (sym (append-nil m.slots)) (sym (append-nil m.front))
  steps_plain (StoreStep s ∷ steps) rest m =
      ap (goes_on (map (step_statement name) steps ++ rest)) (store_plain s m)
      ∙ steps_plain steps rest (more m (plain_store s ∷ []))
      ∙ ap (λ (front : List PStmt). plain_all env rest (record { slots = m.slots ++ step_slots steps; front = front }))
      (append_assoc m.front (plain_store s ∷ []) (plain_steps (length m.slots) steps))
  steps_plain (PrintStep at index ∷ steps) rest m =
      let n = length m.slots in
      let load = plain_load at index n in
      let print = plain_print at n in
      let made : Made = record { slots = m.slots ++ unnamed ∷ []; front = (m.front ++ load ∷ []) ++ print ∷ [] } in
      ap (goes_on (map (step_statement name) steps ++ rest)) (print_plain at index m)
      ∙ steps_plain steps rest made
      ∙ ap₂ (λ (slots : List Slot) (front : List PStmt). plain_all env rest (record { slots = slots; front = front }))
      (append_assoc m.slots (unnamed ∷ []) (step_slots steps))
      (append_assoc (m.front ++ load ∷ []) (print ∷ []) (plain_steps (length made.slots) steps)
      ∙ append_assoc m.front (load ∷ []) (print ∷ plain_steps (length made.slots) steps)
      ∙ ap (λ k. m.front ++ (load ∷ print ∷ plain_steps k steps)) (length-append m.slots (unnamed ∷ [])))

  -- a block
  block_plain : (b : Branch) (slots : List Slot) → one env (block_statement name b) (fresh slots) ≡ behind env (stores_made slots b.stores)
  block_plain b slots =
      plain_block env b.at (map (store_statement name) b.stores) (fresh slots)
      ∙ ap (λ (ss : List Stmt). behind env (plain_all env ss (fresh slots))) (sym (append-nil (map (store_statement name) b.stores)))
      ∙ ap (behind env) (stores_plain b.stores [] (fresh slots))

  -- the fork
  fork_plain : (s : Slice) (m : Made) → one env (fork name s) m ≡ behind env (more m (plain_fork m.slots s ∷ []))
  fork_plain s m =
      plain_cobegin env s.fork (block_statement name s.left ∷ block_statement name s.right ∷ []) m
      ∙ ap (λ (first : Behind).
      behind env (then_holds s.fork (CobeginP (branch s.left.at first.made ∷ (all_branches env (block_statement name s.right ∷ []) first.made.slots).list)) m (all_branches env (block_statement name s.right ∷ []) first.made.slots).slots))
      (block_plain s.left m.slots)
      ∙ ap (λ (second : Behind).
      behind env (then_holds s.fork (CobeginP (branch s.left.at (stores_made m.slots s.left.stores) ∷ branch s.right.at second.made ∷ [])) m second.made.slots))
      (block_plain s.right m.slots)

  -- in front of the declaration
  abbrev outside : Env
  outside = record { program = p; result = Number; scope = [] }

  abbrev declared_made : Slice → Made
  declared_made s = record { slots = array_slot name ∷ []; front = statement s.declaration (CallocP 0 (NumP (pos s.count)) int) ∷ [] }

  declaration_plain : (s : Slice) → one outside (declaration name s) (fresh []) ≡ record { scope = scope; made = declared_made s }
  declaration_plain s =
      ap (λ (f : Flat). record { scope = scope; made = put s.declaration 0 f }) (flat_calloc outside s.declaration (Num (pos s.count)) int (record { slots = array_slot name ∷ []; front = [] }))

  pub body_plain : (s : Slice) → plain_all outside (body name s) (fresh []) ≡ record { slots = body_slots name s; front = plain_statements name s }
  body_plain s =
      let first = array_slot name ∷ [] in
      let calloc = statement s.declaration (CallocP 0 (NumP (pos s.count)) int) in
      let stores = map plain_store s.before in
      let end = map (step_statement name) s.after ++ last name s ∷ [] in
      ap (goes_on (map (store_statement name) s.before ++ (fork name s ∷ end))) (declaration_plain s)
      ∙ stores_plain s.before (fork name s ∷ end) (declared_made s)
      ∙ ap (goes_on end) (fork_plain s (more (declared_made s) stores))
      ∙ steps_plain s.after (last name s ∷ []) (record { slots = first; front = (calloc ∷ stores) ++ plain_fork first s ∷ [] })
      ∙ ap (λ (front : List PStmt). record { slots = body_slots name s; front = calloc ∷ front })
      (append_assoc (stores ++ plain_fork first s ∷ []) (plain_steps 1 s.after) (plain_return s ∷ [])
      ∙ append_assoc stores (plain_fork first s ∷ []) (plain_end first s))
