-- Functions that reach themselves.
use Rattle.std.proofs.Common.{◌≡◌, refl}
use Rattle.std.specs.Prelude.{[], ◌∷◌, map, true, false}
use Rattle.lq_tree.specs.declared.program.Program.{Program}
use Rattle.lq_meaning.proofs.worked.SourceWords.{program}
use Rattle.lq_copies.specs.Recursive.{is_recursive}
use Rattle.lq_copies.proofs.worked.Digits.{one}
use Rattle.lq_copies.specs.Copied.{copied}
use Rattle.lq_copies.proofs.worked.Words.{calling, void, main}

-- void f(void) { f(); }
-- int main(void) { f(); f(); }
abbrev direct : Program
direct = program [] (void 1 "f" (calling 1 16 "f" ∷ []) ∷ main 2 (calling 2 18 "f" ∷ calling 2 23 "f" ∷ []) ∷ [])

direct-recursive : map (is_recursive direct) direct.funcs ≡ true ∷ false ∷ []
direct-recursive = refl

-- nothing is copied
direct-copied : copied direct ≡ direct
direct-copied = refl

-- void even(void) { odd(); }
-- void odd(void) { last(); even(); }
-- void last(void) { }
-- int main(void) { even(); odd(); even(); last(); }
abbrev in_turn : Program
in_turn =
    program []
    (void 1 "even" (calling 1 19 "odd" ∷ [])
    ∷ void 2 "odd" (calling 2 18 "last" ∷ calling 2 26 "even" ∷ [])
    ∷ void 3 "last" []
    ∷ main 4 (calling 4 18 "even" ∷ calling 4 26 "odd" ∷ calling 4 33 "even" ∷ calling 4 41 "last" ∷ [])
    ∷ [])

in_turn-recursive : map (is_recursive in_turn) in_turn.funcs ≡ true ∷ true ∷ false ∷ false ∷ []
in_turn-recursive = refl

-- of these only `last` is copied
abbrev in_turn_copy : Program
in_turn_copy =
    program []
    (void 1 "even" (calling 1 19 "odd" ∷ [])
    ∷ void 2 "odd" (calling 2 18 "last" ∷ calling 2 26 "even" ∷ [])
    ∷ void 3 "last" []
    ∷ main 4 (calling 4 18 "even" ∷ calling 4 26 "odd" ∷ calling 4 33 "even" ∷ calling 4 41 "last@1" ∷ [])
    ∷ void 3 "last@1" []
    ∷ [])

in_turn-copied : copied in_turn ≡ in_turn_copy
in_turn-copied = rw one
