-- The rule of a whole program: structs and functions, one by one.
use Rattle.std.proofs.Common.{sym, ap, ◌∙◌, subst, refl, arith}
use Rattle.std.specs.Prelude.{◌≡◌, ◌≢◌, ◌==◌, true, false, length, ℕ, Option, None, Some, List, [], ◌∷◌, ◌++◌}
use Rattle.std.proofs.lemmas.List.{append_assoc, append-nil}
use Rattle.std.proofs.lemmas.Bool.Decides.{Decides-eqb}
use Rattle.lq_tree.specs.declared.place.Place.{Place}
use Rattle.lq_tree.specs.declared.expr.CType.{CType}
use Rattle.lq_tree.specs.declared.program.Param.{Param}
use Rattle.lq_tree.specs.declared.program.StructDef.{StructDef}
use Rattle.lq_tree.specs.declared.program.Func.{Func}
use Rattle.lq_tree.specs.declared.program.Program.{Program}
use Rattle.lq_parser.specs.declared.lexeme.Lexeme.{Lexeme}
use Rattle.lq_parser.specs.declared.lexeme.Sign.TheVariants.{LeftParen, RightParen, LeftBrace, RightBrace, Semicolon}
use Rattle.lq_parser.specs.declared.lexeme.Keyword.TheVariants.{Struct}
use Rattle.lq_parser.specs.Lexemes.{first, sign_at, word_at, name_at}
use Rattle.lq_parser.specs.Types.{int, struct, none, star, IsType, type}
use Rattle.lq_parser.specs.Statements.{braces, no_statement}
use Rattle.lq_parser.specs.Programs.{no_params, IsResult, void_result, type_result, IsFunc, func, fields, IsStruct, struct as struct_def, IsProgram, nothing, with_struct, with_func}
use Rattle.lq_parser.specs.Sequence.{Then, then, Makes, makes, one, AreClosedFields}
use Rattle.lq_parser.specs.Outcome.{Done, Fails, Anything, AtEnd, BeginsStruct, LacksStruct, place_of_first}
use Rattle.lq_parser.proofs.Cuts.{leads_past}
use Rattle.lq_parser.proofs.Apart.{keywords, signs, names, heads, tails, some_same}
use Rattle.lq_parser.proofs.Leads.{Leads, leads_choose, leads_on, leads_then, Completes, anywhere}
use Rattle.lq_parser.proofs.ProgramRules.{field_groups}
use Rattle.lq_parser.proofs.Choices.{begins_with, empty_front, is_empty}

-- these structs and functions were read, and more may come
abbrev pub added : List StructDef → List Func → Program → Program
added structs funcs more = record { structs = structs ++ more.structs; funcs = funcs ++ more.funcs }

abbrev pub Adding : List StructDef → List Func → List Lexeme → Program → Type 0
Adding structs funcs = Makes IsProgram (added structs funcs)

adding : (structs : List StructDef) (funcs : List Func) {u : List Lexeme} {more : Program} → IsProgram u more → Adding structs funcs u (added structs funcs more)
adding structs funcs x = makes x

adding_into : (u : List Lexeme) (v : Program) → Adding [] [] u v → IsProgram u v
adding_into u v (makes x) = x

adding_from : (u : List Lexeme) (v : Program) → IsProgram u v → Adding [] [] u v
adding_from u v x = adding [] [] x

pub leads_adding : {ls : List Lexeme} → Leads IsProgram AtEnd ls (Adding [] []) ls
leads_adding = leads_choose adding_into (λ u r v h x s. adding_from u v x)

-- ---- what begins as a struct is no function

type_no_struct : {f : List Lexeme} {t : CType} (at : Place) (text : List ℕ) (w : List Lexeme) (at' name opening : Place) (text' : List ℕ) (u : List Lexeme)
    → IsType f t → f ++ (name_at text at ∷ w) ≡ word_at Struct at' ∷ name_at text' name ∷ sign_at LeftBrace opening ∷ u → ⊥
type_no_struct at text w at' name opening text' u (type int s h) e = cc (keywords (ap first e))
type_no_struct at text w at' name opening text' u (type struct none h) e = cc (signs (ap first (tails (tails e))))
type_no_struct at text w at' name opening text' u (type struct (star s) h) e = cc (signs (ap first (tails (tails e))))

result_no_struct : {f : List Lexeme} {t : Option CType} (at : Place) (text : List ℕ) (w : List Lexeme) (at' name opening : Place) (text' : List ℕ) (u : List Lexeme)
    → IsResult f t → f ++ (name_at text at ∷ w) ≡ word_at Struct at' ∷ name_at text' name ∷ sign_at LeftBrace opening ∷ u → ⊥
result_no_struct at text w at' name opening text' u void_result e = cc (keywords (ap first e))
result_no_struct at text w at' name opening text' u (type_result x) e = type_no_struct at text w at' name opening text' u x e

pub func_no_struct : {f : List Lexeme} {v : Func} (w : List Lexeme) (at' name opening : Place) (text' : List ℕ) (u : List Lexeme)
    → IsFunc f v → f ++ w ≡ word_at Struct at' ∷ name_at text' name ∷ sign_at LeftBrace opening ∷ u → ⊥
func_no_struct w at' name opening text' u (func at left closing {l = l} {r = r} {p = p} {b = b} {text = text} result ps body) e =
    result_no_struct at text ((sign_at LeftParen left ∷ (p ++ (sign_at RightParen closing ∷ b))) ++ w) at' name opening text' u result
    (sym (append_assoc (l ∷ r) (name_at text at ∷ sign_at LeftParen left ∷ (p ++ (sign_at RightParen closing ∷ b))) w) ∙ e)

func_nonempty : {f : List Lexeme} {v : Func} → IsFunc f v → f ≡ [] → ⊥
func_nonempty (func at left closing result ps body) e = cc

-- ---- a struct

-- the parts of a struct
record StructParts (s : List Lexeme) (v : StructDef) : Type 0 where
  at : Place
  name_place : Place
  opening : Place
  text : List ℕ
  behind : List Lexeme
  members : List Param
  split : s ≡ word_at Struct at ∷ name_at text name_place ∷ sign_at LeftBrace opening ∷ behind
  closed : AreClosedFields behind members
  value : v ≡ record { at = at; name = text; fields = members }

struct_parts : {s : List Lexeme} {v : StructDef} → IsStruct s v → StructParts s v
struct_parts (struct_def {at = at} {at' = name} {opening = opening} closing last {text = text} (fields end {f = f} {m = m} {one = a} {rest = b} x y)) = record {
  at = at;
  name_place = name;
  opening = opening;
  text = text;
  behind = (f ++ (sign_at Semicolon end ∷ m)) ++ (sign_at RightBrace closing ∷ sign_at Semicolon last ∷ []);
  members = a ∷ b;
  split = refl;
  closed = rw (← field_groups f m (sign_at RightBrace closing ∷ sign_at Semicolon last ∷ []) end) (then (then x (makes one)) (then y (then one (makes one))));
  value = refl;
}

struct_made : {g : List Lexeme} {members : List Param} (at name opening : Place) (text : List ℕ) → AreClosedFields g members
    → IsStruct (word_at Struct at ∷ name_at text name ∷ sign_at LeftBrace opening ∷ g) (record { at = at; name = text; fields = members })
struct_made at name opening text (then {a = a} (then {front = f} x (makes (one {at = end}))) (then {front = m} {a = b} y (then (one {at = closing}) (makes (one {at = last}))))) =
    rw (field_groups f m (sign_at RightBrace closing ∷ sign_at Semicolon last ∷ []) end) (struct_def closing last (fields end x y))

-- the fields of a struct of this name and place, and the program behind it
abbrev pub StructRest : List StructDef → List Func → Place → List ℕ → List Lexeme → Program → Type 0
StructRest structs funcs at text = Then AreClosedFields (λ members. Adding (structs ++ (record { at = at; name = text; fields = members } ∷ [])) funcs)

struct_into : (structs : List StructDef) (funcs : List Func) (at name opening : Place) (text : List ℕ) (u : List Lexeme) (v : Program)
    → StructRest structs funcs at text u v → Adding structs funcs (word_at Struct at ∷ name_at text name ∷ sign_at LeftBrace opening ∷ u) v
struct_into structs funcs at name opening text u v (then {front = g} {a = members} x (makes {a = more} p)) =
    subst (λ s. Adding structs funcs (word_at Struct at ∷ name_at text name ∷ sign_at LeftBrace opening ∷ u) (record { structs = s; funcs = funcs ++ more.funcs }))
    (sym (append_assoc structs (record { at = at; name = text; fields = members } ∷ []) more.structs))
    (adding structs funcs (with_struct (struct_made at name opening text x) p))

struct_from : (structs : List StructDef) (funcs : List Func) (at name opening : Place) (text : List ℕ) (u t : List Lexeme) (v : Program)
    → t ≡ word_at Struct at ∷ name_at text name ∷ sign_at LeftBrace opening ∷ u → Adding structs funcs t v → StructRest structs funcs at text u v
struct_from structs funcs at name opening text u t v e (makes nothing) = absurd cc
struct_from structs funcs at name opening text u t v e (makes (with_func {m = m} x p)) = absurd (func_no_struct m at name opening text u x e)
struct_from structs funcs at name opening text u t v e (makes (with_struct {s = s} {m = m} {one = single} {more = more} x p)) =
    let q = struct_parts x in
    let split = ap (λ w. w ++ m) (sym q.split) ∙ e in
    let here : q.at ≡ at = ap (λ (l : Lexeme). l.at) (heads split) in
    let called : q.text ≡ text = some_same (names (ap first (tails split))) in
    let value : single ≡ record { at = at; name = text; fields = q.members } = q.value ∙ ap (λ (w : Place). record { at = w; name = q.text; fields = q.members }) here ∙ ap (λ (w : List ℕ). record { at = at; name = w; fields = q.members }) called in
    let behind : q.behind ++ m ≡ u = tails (tails (tails split)) in
    finish q.behind m q.members more q.closed p behind value
  where
    finish : (g m : List Lexeme) (members : List Param) (more : Program) → AreClosedFields g members → IsProgram m more → g ++ m ≡ u → single ≡ record { at = at; name = text; fields = members }
        → StructRest structs funcs at text u (record { structs = structs ++ (single ∷ more.structs); funcs = funcs ++ more.funcs })
    finish g m members more c p behind value =
        rw (value, ← behind)
        (subst (λ s. StructRest structs funcs at text (g ++ m) (record { structs = s; funcs = funcs ++ more.funcs }))
        (append_assoc structs (record { at = at; name = text; fields = members } ∷ []) more.structs)
        (then c (adding (structs ++ (record { at = at; name = text; fields = members } ∷ [])) funcs p)))

-- a program goes on behind a lexeme
not_end : (t : Lexeme) → AtEnd (Some t) → ⊥
not_end t h = cc

pub leads_struct_rest : (structs : List StructDef) (funcs : List Func) {ls rest : List Lexeme} {text : List ℕ} → (b : BeginsStruct ls text rest)
    → Leads (Adding structs funcs) AtEnd ls (StructRest structs funcs b.0 text) rest
leads_struct_rest structs funcs {rest = rest} {text = text} b =
    leads_on (leads_past {t = word_at Struct b.0} (λ v x s. not_end _ s) b.3)
    (leads_on (leads_past {t = name_at text b.1} (λ v x s. not_end _ s) refl)
    (leads_on (leads_past {t = sign_at LeftBrace b.2} (λ v x s. not_end _ s) refl)
    (leads_choose (struct_into structs funcs b.0 b.1 b.2 text) (λ u r v h x s. struct_from structs funcs b.0 b.1 b.2 text u _ v refl x))))

pub complete_program : (structs : List StructDef) (funcs : List Func) → Completes (Adding structs funcs)
complete_program structs funcs = ([], added structs funcs (record { structs = []; funcs = [] }), makes nothing)

-- one struct more
pub leads_struct : (structs : List StructDef) (funcs : List Func) {ls rest after : List Lexeme} {text : List ℕ} (all : List StructDef) (at : Place) (name : List ℕ) (members : List Param) → BeginsStruct ls text rest
    → at ≡ place_of_first ls → name ≡ text → all ≡ structs ++ (record { at = at; name = name; fields = members } ∷ []) → Done AreClosedFields Anything rest members after
    → Leads (Adding structs funcs) AtEnd ls (Adding all funcs) after
leads_struct structs funcs all at name members b here called more d =
    rw (more, here ∙ ap place_of_first b.3, called) (leads_on (leads_struct_rest structs funcs b) (leads_then (λ a b g r x s. tt) d))

-- ---- a function

abbrev pub FuncFirst : List StructDef → List Func → List Lexeme → Program → Type 0
FuncFirst structs funcs = Then IsFunc (λ single. Adding structs (funcs ++ (single ∷ [])))

func_into : (structs : List StructDef) (funcs : List Func) (u : List Lexeme) (v : Program) → FuncFirst structs funcs u v → Adding structs funcs u v
func_into structs funcs u v (then {a = single} x (makes {a = more} p)) =
    subst (λ f. Adding structs funcs u (record { structs = structs ++ more.structs; funcs = f }))
    (sym (append_assoc funcs (single ∷ []) more.funcs)) (adding structs funcs (with_func x p))

-- what a program begins with
data Kind (structs : List StructDef) (funcs : List Func) (u : List Lexeme) (v : Program) : Type 0 where
  no_item : u ≡ [] → Kind structs funcs u v
  func_item : FuncFirst structs funcs u v → Kind structs funcs u v
  struct_item : (text : List ℕ) (rest : List Lexeme) → BeginsStruct u text rest → Kind structs funcs u v

kind_of : (structs : List StructDef) (funcs : List Func) (u : List Lexeme) (v : Program) → Adding structs funcs u v → Kind structs funcs u v
kind_of structs funcs u v (makes nothing) = no_item refl
kind_of structs funcs u v (makes (with_func {one = single} {more = more} x p)) =
    func_item (subst (λ f. FuncFirst structs funcs u (record { structs = structs ++ more.structs; funcs = f }))
    (append_assoc funcs (single ∷ []) more.funcs) (then x (adding structs (funcs ++ (single ∷ [])) p)))
kind_of structs funcs u v (makes (with_struct {m = m} x p)) = let q = struct_parts x in struct_item q.text (q.behind ++ m) (q.at, q.name_place, q.opening, ap (λ w. w ++ m) q.split)

first_func : (structs : List StructDef) (funcs : List Func) (u : List Lexeme) (v : Program) → FuncFirst structs funcs u v → (f m : List Lexeme) × (single : Func) × (u ≡ f ++ m) × IsFunc f single
first_func structs funcs u v (then {front = f} {back = m} {a = single} x k) = (f, m, single, refl, x)

-- a function whose result is a struct that a pointer could lead to
abbrev short_rest : List Lexeme
short_rest = name_at [] anywhere ∷ sign_at LeftParen anywhere ∷ sign_at RightParen anywhere ∷ sign_at LeftBrace anywhere ∷ sign_at RightBrace anywhere ∷ []

func_then : (structs : List StructDef) (funcs : List Func) {u : List Lexeme} {single : Func} → IsFunc u single → (v : Program) × FuncFirst structs funcs (u ++ []) v
func_then structs funcs {single = single} x = (added structs (funcs ++ (single ∷ [])) (record { structs = []; funcs = [] }), then x (adding structs (funcs ++ (single ∷ [])) nothing))

short_func : (structs : List StructDef) (funcs : List Func) (at name : Place) (text : List ℕ)
    → (v : Program) × FuncFirst structs funcs (word_at Struct at ∷ name_at text name ∷ short_rest) v
short_func structs funcs at name text =
    let f = func anywhere anywhere anywhere (type_result (type (struct {at = at} {at' = name} {text = text}) none (omega arith))) no_params (braces {opening = anywhere} anywhere no_statement) in
    func_then structs funcs f

-- where no struct begins, a dead front of a function is a dead front of a program
no_struct_dead : (structs : List StructDef) (funcs : List Func) (front other end : List Lexeme) (text : List ℕ) (rest : List Lexeme)
    → LacksStruct (front ++ end) → first other ≡ first end → BeginsStruct (front ++ other) text rest
    → ((other f r : List Lexeme) (v : Program) → first other ≡ first end → front ++ other ≡ f ++ r → FuncFirst structs funcs f v → ¬ AtEnd (first r)) → ⊥
no_struct_dead structs funcs [] other end text rest lacks h (at, name, opening, e) dead =
    let s = short_func structs funcs at name text in
    dead (word_at Struct at ∷ name_at text name ∷ short_rest) (word_at Struct at ∷ name_at text name ∷ short_rest) [] s.0 (sym (ap first e) ∙ h) (sym (append-nil _)) s.1 refl
no_struct_dead structs funcs (a ∷ []) other end text rest lacks h (at, name, opening, e) dead =
    let s = short_func structs funcs at name text in
    dead (name_at text name ∷ short_rest) (word_at Struct at ∷ name_at text name ∷ short_rest) [] s.0 (sym (ap first (tails e)) ∙ h) (ap (λ l. l ∷ (name_at text name ∷ short_rest)) (heads e) ∙ sym (append-nil _)) s.1 refl
no_struct_dead structs funcs (a ∷ b ∷ []) other end text rest lacks h (at, name, opening, e) dead =
    let w = begins_with end (sign_at LeftBrace opening) (sym h ∙ ap first (tails (tails e))) in
    lacks text w.0 (at, name, opening, cc (heads e, heads (tails e), w.1))
no_struct_dead structs funcs (a ∷ b ∷ d ∷ front) other end text rest lacks h (at, name, opening, e) dead =
    lacks text (front ++ end) (at, name, opening, cc (heads e, heads (tails e), heads (tails (tails e))))

pub leads_function : (structs : List StructDef) (funcs : List Func) {ls : List Lexeme} → first ls ≢ None → LacksStruct ls → Leads (Adding structs funcs) AtEnd ls (FuncFirst structs funcs) ls
leads_function structs funcs {ls = ls} some lacks = record {
  done = λ v end e. record {
    front = e.front;
    split = e.split;
    spelled = func_into structs funcs e.front v e.spelled;
    only = λ other f r w h eq x s. only v end e other f r w h eq (kind_of structs funcs f w x) s;
  };
  fails = λ end e. record {
    front = e.front;
    split = e.split;
    more = e.more;
    value = e.value;
    viable = func_into structs funcs (e.front ++ e.more) e.value e.viable;
    dead = λ other f r w h eq x s. dead end e other f r w h eq (kind_of structs funcs f w x) s;
  };
}
  where
    only : (v : Program) (end : List Lexeme) (e : Done (FuncFirst structs funcs) AtEnd ls v end) (other f r : List Lexeme) (w : Program)
        → first other ≡ first end → e.front ++ other ≡ f ++ r → Kind structs funcs f w → AtEnd (first r) → (w ≡ v) × (r ≡ other)
    only v end e other f r w h eq (no_item n) s =
        let q = first_func structs funcs e.front v e.spelled in
        let gone : e.front ≡ [] = empty_front e.front other (eq ∙ ap (λ u. u ++ r) n ∙ is_empty r s) in
        absurd (func_nonempty q.4 (empty_front q.0 q.1 (sym q.3 ∙ gone)))
    only v end e other f r w h eq (func_item x) s = e.only other f r w h eq x s
    only v end e other f r w h eq (struct_item text rest (at, name, opening, b)) s =
        let q = first_func structs funcs e.front v e.spelled in
        absurd (func_no_struct (q.1 ++ other) at name opening text (rest ++ r) q.4 (sym (append_assoc q.0 q.1 other) ∙ ap (λ u. u ++ other) (sym q.3) ∙ eq ∙ ap (λ u. u ++ r) b))

    dead : (end : List Lexeme) (e : Fails (FuncFirst structs funcs) AtEnd ls end) (other f r : List Lexeme) (w : Program)
        → first other ≡ first end → e.front ++ other ≡ f ++ r → Kind structs funcs f w → AtEnd (first r) → ⊥
    dead end e other f r w h eq (no_item n) s =
        let all : e.front ++ other ≡ [] = eq ∙ ap (λ u. u ++ r) n ∙ is_empty r s in
        some (ap first e.split ∙ nothing_left e.front other end all h)
      where
        nothing_left : (front other end : List Lexeme) → front ++ other ≡ [] → first other ≡ first end → first (front ++ end) ≡ None
        nothing_left [] other end all h = sym h ∙ ap first all
        nothing_left (l ∷ front) other end all h = absurd cc
    dead end e other f r w h eq (func_item x) s = e.dead other f r w h eq x s
    dead end e other f r w h eq (struct_item text rest (at, name, opening, b)) s =
        no_struct_dead structs funcs e.front other end text (rest ++ r) (λ t u begins. lacks t u (rw (← e.split) at begins)) h (at, name, opening, eq ∙ ap (λ u. u ++ r) b) e.dead

-- the end of a program
pub ends_program : (structs : List StructDef) (funcs : List Func) → Done (Adding structs funcs) AtEnd [] (record { structs = structs; funcs = funcs }) []
ends_program structs funcs = record {
  front = [];
  split = refl;
  spelled = nothing_more;
  only = λ other f r w h eq x s. only other f r w h eq (kind_of structs funcs f w x) x;
}
  where
    nothing_more : Adding structs funcs [] (record { structs = structs; funcs = funcs })
    nothing_more = subst (λ v. Adding structs funcs [] v) (cc (append-nil structs, append-nil funcs)) (adding structs funcs nothing)

    only : (other f r : List Lexeme) (w : Program) → first other ≡ None → other ≡ f ++ r → Kind structs funcs f w → Adding structs funcs f w → (w ≡ record { structs = structs; funcs = funcs }) × (r ≡ other)
    only other f r w h eq k x =
        let gone : f ++ r ≡ [] = sym eq ∙ is_empty other h in
        let f_gone : f ≡ [] = empty_front f r gone in
        (value f w x f_gone, sym (eq ∙ ap (λ u. u ++ r) f_gone))
      where
        value : (f : List Lexeme) (w : Program) → Adding structs funcs f w → f ≡ [] → w ≡ record { structs = structs; funcs = funcs }
        value f w (makes nothing) e = cc (append-nil structs, append-nil funcs)
        value f w (makes (with_func {f = g} {m = m} y p)) e = absurd (func_nonempty y (empty_front g m e))
        value f w (makes (with_struct {s = g} {m = m} y p)) e = let q = struct_parts y in absurd (cc (empty_front g m e, q.split))

pub ends_here : {structs : List StructDef} {funcs : List Func} {all ls : List Lexeme} → ls ≡ [] → Leads IsProgram AtEnd all (Adding structs funcs) ls
    → Done IsProgram AtEnd all (record { structs = structs; funcs = funcs }) []
ends_here {structs = structs} {funcs = funcs} {all = all} e whole = (subst (λ u. Leads IsProgram AtEnd all (Adding structs funcs) u) e whole).done _ _ (ends_program structs funcs)

-- the test of whether lexemes are left
pub some_left : (ls : List Lexeme) → false ≡ (length ls == 0) → first ls ≢ None
some_left [] e h = cc
some_left (l ∷ ls) e h = cc

pub none_left : (ls : List Lexeme) → true ≡ (length ls == 0) → ls ≡ []
none_left [] e = refl
none_left (l ∷ ls) e = let h : length (l ∷ ls) ≡ 0 = (Decides-eqb (length (l ∷ ls)) 0).0 (sym e) in absurd (omega arith)
