-- The rules of parameters, results and functions as sequences.
use Rattle.std.proofs.Common.{sym, ap, ◌∙◌, subst, refl}
use Rattle.std.specs.Prelude.{◌≡◌, ℕ, Option, None, Some, List, [], ◌∷◌, ◌++◌}
use Rattle.std.proofs.lemmas.List.{append_assoc, append-nil}
use Rattle.lq_tree.specs.declared.place.Place.{Place}
use Rattle.lq_tree.specs.declared.expr.CType.{CType}
use Rattle.lq_tree.specs.declared.program.Param.{Param}
use Rattle.lq_tree.specs.declared.program.Func.{Func}
use Rattle.lq_parser.specs.declared.lexeme.Lexeme.{Lexeme}
use Rattle.lq_parser.specs.declared.lexeme.Sign.{Sign}
use Rattle.lq_parser.specs.declared.lexeme.Sign.TheVariants.{LeftParen, RightParen, LeftBrace, RightBrace, Comma, Semicolon}
use Rattle.lq_parser.specs.declared.lexeme.Keyword.TheVariants.{Struct, Void}
use Rattle.lq_parser.specs.Lexemes.{first, sign_at, word_at, name_at}
use Rattle.lq_parser.specs.Types.{IsType}
use Rattle.lq_parser.specs.Statements.{IsBlock, braces, no_statement}
use Rattle.lq_parser.specs.Programs.{IsParam, param, AreMoreParams, no_more, more, no_params, void_params, params, IsResult, void_result, type_result, IsFunc, func, AreFields, no_field, fields}
use Rattle.lq_parser.specs.Sequence.{Then, then, Makes, makes, one, IsSign, IsWord, IsName, held, AreClosedParams, IsField}
use Rattle.lq_parser.specs.Outcome.{Begins, Lacks, BeginsName, LacksName, Anything, NoStar, place_of_first, LacksStruct}
use Rattle.lq_parser.proofs.Leads.{Leads, leads_choose, leads_on, leads_one, Completes, complete_one, complete_name, complete_then, complete_makes, anywhere}
use Rattle.lq_parser.proofs.Firsts.{CanBeginType, by_int, by_struct, type_begins_on, type_begins, type_some, complete_type}
use Rattle.lq_parser.proofs.Choices.{leads_placed}
use Rattle.lq_parser.proofs.Apart.{keywords, signs, tails}

-- a type begins with neither a sign nor `void`
pub type_no_sign : {s : Sign} {at : Place} {next : Option Lexeme} → CanBeginType next → next ≡ Some (sign_at s at) → ⊥
type_no_sign (by_int at e) h = cc (signs (sym e ∙ h))
type_no_sign (by_struct at e) h = cc (signs (sym e ∙ h))

pub type_no_void : {at : Place} {next : Option Lexeme} → CanBeginType next → next ≡ Some (word_at Void at) → ⊥
type_no_void (by_int at e) h = cc (keywords (sym e ∙ h))
type_no_void (by_struct at e) h = cc (keywords (sym e ∙ h))

-- ---- a parameter

abbrev pub ParamRule : List Lexeme → Param → Type 0
ParamRule = Then IsType (λ type. Makes IsName (λ text. record { ctype = type; name = text }))

param_into : (u : List Lexeme) (v : Param) → ParamRule u v → IsParam u v
param_into u v (then x (makes (held {at = at}))) = param at x

param_from : (u : List Lexeme) (v : Param) → IsParam u v → ParamRule u v
param_from u v (param at x) = then x (makes held)

pub leads_param : {ls : List Lexeme} → Leads IsParam Anything ls ParamRule ls
leads_param = leads_choose param_into (λ u r v h x s. param_from u v x)

-- a name is no `*`
pub name_follows : {A : Type 0} {f : List ℕ → A} {b : A} (g r : List Lexeme) → Makes IsName f g b → NoStar (first (g ++ r))
name_follows g r (makes held) = λ at e. cc (signs e)

pub name_follows_then : {A : Type 0} {K : List ℕ → List Lexeme → A → Type 0} {b : A} (g r : List Lexeme) → Then IsName K g b → NoStar (first (g ++ r))
name_follows_then g r (then held k) = λ at e. cc (signs e)

pub complete_param : Completes IsParam
complete_param = (complete_type.0 ++ (name_at [] anywhere ∷ []), record { ctype = complete_type.1; name = [] }, param anywhere complete_type.2)

pub param_begins : {ls : List Lexeme} {p : Param} → IsParam ls p → CanBeginType (first ls)
param_begins (param at {t = t} {text = text} x) = type_begins_on t (name_at text at ∷ []) (type_begins x)

-- ---- parameters and the `)` behind them

abbrev pub ClosedNone : List Lexeme → List Param → Type 0
ClosedNone = Makes (IsSign RightParen) (λ _. [])

none_into : (u : List Lexeme) (v : List Param) → ClosedNone u v → AreClosedParams u v
none_into u v (makes one) = then no_params (makes one)

none_from : (u r : List Lexeme) (v : List Param) (at : Place) → first (u ++ r) ≡ Some (sign_at RightParen at) → AreClosedParams u v → ClosedNone u v
none_from u r v at h (then no_params k) = k
none_from u r v at h (then void_params k) = absurd (cc (signs h))
none_from u r v at h (then {back = b} (params {p = p} {m = m} x y) k) =
    absurd (type_no_sign (type_begins_on ((p ++ m) ++ b) r (type_begins_on (p ++ m) b (type_begins_on p m (param_begins x)))) h)

pub leads_no_params : {ls rest : List Lexeme} → Begins (sign_at RightParen) ls rest → Leads AreClosedParams Anything ls ClosedNone ls
leads_no_params b = leads_choose none_into (λ u r v h x s. none_from u r v b.0 (h ∙ ap first b.1) x)

abbrev pub ClosedVoid : List Lexeme → List Param → Type 0
ClosedVoid = Then (IsWord Void) (λ _. ClosedNone)

void_into : (u : List Lexeme) (v : List Param) → ClosedVoid u v → AreClosedParams u v
void_into u v (then one (makes one)) = then void_params (makes one)

void_from : (u r : List Lexeme) (v : List Param) (at : Place) → first (u ++ r) ≡ Some (word_at Void at) → AreClosedParams u v → ClosedVoid u v
void_from u r v at h (then no_params (makes one)) = absurd (cc (signs h))
void_from u r v at h (then void_params k) = then one k
void_from u r v at h (then {back = b} (params {p = p} {m = m} x y) k) =
    absurd (type_no_void (type_begins_on ((p ++ m) ++ b) r (type_begins_on (p ++ m) b (type_begins_on p m (param_begins x)))) h)

pub leads_void_params : {ls rest : List Lexeme} → Begins (word_at Void) ls rest → Leads AreClosedParams Anything ls ClosedNone rest
leads_void_params b = leads_on (leads_choose void_into (λ u r v h x s. void_from u r v b.0 (h ∙ ap first b.1) x)) (leads_one b)

-- these parameters were read, and more may come
abbrev pub ClosedMore : List Param → List Lexeme → List Param → Type 0
ClosedMore before = Then AreMoreParams (λ more. Makes (IsSign RightParen) (λ _. before ++ more))

abbrev pub ClosedSome : List Lexeme → List Param → Type 0
ClosedSome = Then IsParam (λ param. ClosedMore (param ∷ []))

some_into : (u : List Lexeme) (v : List Param) → ClosedSome u v → AreClosedParams u v
some_into u v (then {front = p} x (then {front = m} y (makes {ls = c} one))) = rw (← append_assoc p m c) (then (params x y) (makes one))

some_from : (u r : List Lexeme) (v : List Param) (ls : List Lexeme) → Lacks (sign_at RightParen) ls → Lacks (word_at Void) ls → first (u ++ r) ≡ first ls → AreClosedParams u v → ClosedSome u v
some_from u r v ls no_paren no_void h (then no_params (makes (one {at = at}))) = absurd (no_paren at (sym h))
some_from u r v ls no_paren no_void h (then (void_params {at = at}) k) = absurd (no_void at (sym h))
some_from u r v ls no_paren no_void h (then (params {p = p} {m = m} x y) (makes {ls = c} one)) = rw (append_assoc p m c) (then x (then y (makes one)))

pub leads_some_params : {ls : List Lexeme} → Lacks (sign_at RightParen) ls → Lacks (word_at Void) ls → Leads AreClosedParams Anything ls ClosedSome ls
leads_some_params {ls = ls} no_paren no_void = leads_choose some_into (λ u r v h x s. some_from u r v ls no_paren no_void h x)

pub complete_more : (before : List Param) → Completes (ClosedMore before)
complete_more before = (sign_at RightParen anywhere ∷ [], before ++ [], then no_more (makes one))

pub complete_next : (before : List Param) (next : Param) → Completes (ClosedMore (before ++ (next ∷ [])))
complete_next before next = complete_more (before ++ (next ∷ []))

abbrev pub NextParam : List Param → List Lexeme → List Param → Type 0
NextParam before = Then (IsSign Comma) (λ _. Then IsParam (λ next. ClosedMore (before ++ (next ∷ []))))

next_into : (before : List Param) (u : List Lexeme) (v : List Param) → NextParam before u v → ClosedMore before u v
next_into before u v (then one (then {front = p} {a = a} x (then {front = m} {a = b} y (makes {ls = c} one)))) =
    rw (← append_assoc p m c, append_assoc before (a ∷ []) b) (then (more x y) (makes one))

next_from : (before : List Param) (u r : List Lexeme) (v : List Param) (at : Place) → first (u ++ r) ≡ Some (sign_at Comma at) → ClosedMore before u v → NextParam before u v
next_from before u r v at h (then no_more (makes one)) = absurd (cc (signs h))
next_from before u r v at h (then (more {p = p} {m = m} {one = a} {rest = b} x y) (makes {ls = c} one)) =
    rw (append_assoc p m c, ← append_assoc before (a ∷ []) b) (then one (then x (then y (makes one))))

pub leads_next : (before : List Param) {ls rest : List Lexeme} → Begins (sign_at Comma) ls rest → Leads (ClosedMore before) Anything ls (Then IsParam (λ next. ClosedMore (before ++ (next ∷ [])))) rest
leads_next before b = leads_on (leads_choose (next_into before) (λ u r v h x s. next_from before u r v b.0 (h ∙ ap first b.1) x)) (leads_one b)

abbrev pub ClosedEnd : List Param → List Lexeme → List Param → Type 0
ClosedEnd before = Makes (IsSign RightParen) (λ _. before)

end_into : (before : List Param) (u : List Lexeme) (v : List Param) → ClosedEnd before u v → ClosedMore before u v
end_into before u v (makes (one {at = at})) = subst (ClosedMore before (sign_at RightParen at ∷ [])) (append-nil before) (then no_more (makes one))

end_from : (before : List Param) (u r : List Lexeme) (v : List Param) (ls : List Lexeme) → Lacks (sign_at Comma) ls → first (u ++ r) ≡ first ls → ClosedMore before u v → ClosedEnd before u v
end_from before u r v ls lacks h (then no_more (makes (one {at = at}))) = subst (ClosedEnd before (sign_at RightParen at ∷ [])) (sym (append-nil before)) (makes one)
end_from before u r v ls lacks h (then (more {comma = comma} x y) k) = absurd (lacks comma (sym h))

pub leads_end : (before : List Param) {ls : List Lexeme} → Lacks (sign_at Comma) ls → Leads (ClosedMore before) Anything ls (ClosedEnd before) ls
leads_end before {ls = ls} lacks = leads_choose (end_into before) (λ u r v h x s. end_from before u r v ls lacks h x)

pub complete_closed_params : Completes AreClosedParams
complete_closed_params = (sign_at RightParen anywhere ∷ [], [], then no_params (makes one))

-- ---- a result

abbrev pub VoidResult : List Lexeme → Option CType → Type 0
VoidResult = Makes (IsWord Void) (λ _. None)

abbrev pub TypeResult : List Lexeme → Option CType → Type 0
TypeResult = Makes IsType Some

void_result_into : (u : List Lexeme) (v : Option CType) → VoidResult u v → IsResult u v
void_result_into u v (makes one) = void_result

void_result_from : (u r : List Lexeme) (v : Option CType) (at : Place) → first (u ++ r) ≡ Some (word_at Void at) → IsResult u v → VoidResult u v
void_result_from u r v at h void_result = makes one
void_result_from u r v at h (type_result {t = t} x) = absurd (type_no_void (type_begins_on t r (type_begins x)) h)

pub leads_void_result : {ls rest : List Lexeme} → Begins (word_at Void) ls rest → Leads IsResult NoStar ls VoidResult ls
leads_void_result b = leads_choose void_result_into (λ u r v h x s. void_result_from u r v b.0 (h ∙ ap first b.1) x)

type_result_into : (u : List Lexeme) (v : Option CType) → TypeResult u v → IsResult u v
type_result_into u v (makes x) = type_result x

type_result_from : (u r : List Lexeme) (v : Option CType) (ls : List Lexeme) → Lacks (word_at Void) ls → first (u ++ r) ≡ first ls → IsResult u v → TypeResult u v
type_result_from u r v ls lacks h (void_result {at = at}) = absurd (lacks at (sym h))
type_result_from u r v ls lacks h (type_result x) = makes x

pub leads_type_result : {ls : List Lexeme} → Lacks (word_at Void) ls → Leads IsResult NoStar ls TypeResult ls
leads_type_result {ls = ls} lacks = leads_choose type_result_into (λ u r v h x s. type_result_from u r v ls lacks h x)

result_some : {ls : List Lexeme} {v : Option CType} → IsResult ls v → ls ≡ [] → ⊥
result_some void_result h = cc
result_some (type_result x) h = type_some x (ap first h)

complete_result : Completes IsResult
complete_result = (word_at Void anywhere ∷ [], None, void_result)

-- ---- a function

-- what comes behind the name of a function at this place
abbrev pub FuncRest : Place → Option CType → List ℕ → List Lexeme → Func → Type 0
FuncRest at result text = Then (IsSign LeftParen) (λ _. Then AreClosedParams (λ params. Makes IsBlock (λ body. record { at = at; result = result; name = text; params = params; body = body })))

abbrev pub FuncRule : Place → List Lexeme → Func → Type 0
FuncRule at = Then IsResult (λ result. Then IsName (FuncRest at result))

func_into : (at : Place) (u : List Lexeme) (v : Func) → FuncRule at u v → at ≡ place_of_first u → IsFunc u v
func_into at u v (then {front = []} r k) e = absurd (result_some r refl)
func_into at u v (then {front = l ∷ f} {a = result} r (then (held {at = name} {value = text}) (then (one {at = opening}) (then (then {front = p} {a = ps} q (makes (one {at = closing}))) (makes {ls = b} {a = body} y))))) e =
    rw (e, append_assoc p (sign_at RightParen closing ∷ []) b) (func name opening closing r q y)

func_from : (u : List Lexeme) (v : Func) → IsFunc u v → FuncRule (place_of_first u) u v
func_from u v (func name opening closing {l = l} {r = f} {p = p} {b = b} {result = result} {text = text} {params = ps} {body = body} r q y) =
    rw (← append_assoc p (sign_at RightParen closing ∷ []) b) (then r (then held (then one (then (then q (makes one)) (makes y)))))

func_some : (at : Place) (u : List Lexeme) (v : Func) → FuncRule at u v → u ≡ [] → ⊥
func_some at u v (then {front = []} r k) e = result_some r refl
func_some at u v (then {front = l ∷ f} r k) e = cc

func_moved : (at to : Place) (u : List Lexeme) (v : Func) → FuncRule at u v → (w : Func) × FuncRule to u w
func_moved at to u v (then r (then n (then o (then q (makes y))))) = (_, then r (then n (then o (then q (makes y)))))

pub leads_func : {ls : List Lexeme} → Leads IsFunc Anything ls (FuncRule (place_of_first ls)) ls
leads_func = leads_placed func_into func_from func_some func_moved

complete_block : Completes IsBlock
complete_block = (sign_at LeftBrace anywhere ∷ sign_at RightBrace anywhere ∷ [], [], braces anywhere no_statement)

pub complete_func_body : {at : Place} {result : Option CType} {text : List ℕ} (ps : List Param) → Completes (Makes {B = Func} IsBlock (λ body. record { at = at; result = result; name = text; params = ps; body = body }))
complete_func_body ps = complete_makes complete_block

pub complete_func_params : {at : Place} {result : Option CType} {text : List ℕ} → Completes (Then {B = Func} AreClosedParams (λ params. Makes IsBlock (λ body. record { at = at; result = result; name = text; params = params; body = body })))
complete_func_params = complete_then complete_closed_params complete_func_body

pub complete_func_rest : {at : Place} {result : Option CType} (text : List ℕ) → Completes (FuncRest at result text)
complete_func_rest text = complete_then complete_one (λ _. complete_func_params)

pub complete_func_name : {at : Place} (result : Option CType) → Completes (Then IsName (FuncRest at result))
complete_func_name result = complete_then complete_name complete_func_rest

-- ---- fields

-- a field and the `;` behind it begin as a type
pub field_begins : {ls : List Lexeme} {p : Param} → IsField ls p → CanBeginType (first ls)
field_begins (then {front = f} {back = g} x k) = type_begins_on f g (param_begins x)

-- these fields were read, and more may come
abbrev pub FieldsMore : List Param → List Lexeme → List Param → Type 0
FieldsMore before = Then AreFields (λ more. Then (IsSign RightBrace) (λ _. Makes (IsSign Semicolon) (λ _. before ++ more)))

pub complete_fields : (before : List Param) → Completes (FieldsMore before)
complete_fields before = (sign_at RightBrace anywhere ∷ sign_at Semicolon anywhere ∷ [], before ++ [], then no_field (then one (makes one)))

abbrev pub FieldsEnd : List Param → List Lexeme → List Param → Type 0
FieldsEnd before = Then (IsSign RightBrace) (λ _. Makes (IsSign Semicolon) (λ _. before))

fields_end_into : (before : List Param) (u : List Lexeme) (v : List Param) → FieldsEnd before u v → FieldsMore before u v
fields_end_into before u v (then (one {at = at}) (makes (one {at = end}))) = subst (FieldsMore before (sign_at RightBrace at ∷ sign_at Semicolon end ∷ [])) (append-nil before) (then no_field (then one (makes one)))

fields_end_from : (before : List Param) (u r : List Lexeme) (v : List Param) (at : Place) → first (u ++ r) ≡ Some (sign_at RightBrace at) → FieldsMore before u v → FieldsEnd before u v
fields_end_from before u r v at h (then no_field (then (one {at = closing}) (makes (one {at = end})))) = subst (FieldsEnd before (sign_at RightBrace closing ∷ sign_at Semicolon end ∷ [])) (sym (append-nil before)) (then one (makes one))
fields_end_from before u r v at h (then {back = b} (fields end {f = f} {m = m} x y) k) =
    absurd (type_no_sign (type_begins_on ((f ++ (sign_at Semicolon end ∷ m)) ++ b) r (type_begins_on (f ++ (sign_at Semicolon end ∷ m)) b (type_begins_on f (sign_at Semicolon end ∷ m) (param_begins x)))) h)

pub leads_fields_end : (before : List Param) {ls rest : List Lexeme} → Begins (sign_at RightBrace) ls rest → Leads (FieldsMore before) Anything ls (Makes (IsSign Semicolon) (λ _. before)) rest
leads_fields_end before b = leads_on (leads_choose (fields_end_into before) (λ u r v h x s. fields_end_from before u r v b.0 (h ∙ ap first b.1) x)) (leads_one b)

abbrev pub NextField : List Param → List Lexeme → List Param → Type 0
NextField before = Then IsField (λ next. FieldsMore (before ++ (next ∷ [])))

-- a field, its `;` and more of them, in either grouping
pub field_groups : (f m c : List Lexeme) (end : Place) → (f ++ (sign_at Semicolon end ∷ [])) ++ (m ++ c) ≡ (f ++ (sign_at Semicolon end ∷ m)) ++ c
field_groups f m c end = append_assoc f (sign_at Semicolon end ∷ []) (m ++ c) ∙ sym (append_assoc f (sign_at Semicolon end ∷ m) c)

next_field_into : (before : List Param) (u : List Lexeme) (v : List Param) → NextField before u v → FieldsMore before u v
next_field_into before u v (then {a = a} (then {front = f} x (makes (one {at = end}))) (then {front = m} {a = b} y (then (one {at = closing}) (makes (one {at = last}))))) =
    rw (field_groups f m (sign_at RightBrace closing ∷ sign_at Semicolon last ∷ []) end, append_assoc before (a ∷ []) b) (then (fields end x y) (then one (makes one)))

next_field_from : (before : List Param) (u r : List Lexeme) (v : List Param) (ls : List Lexeme) → Lacks (sign_at RightBrace) ls → first (u ++ r) ≡ first ls → FieldsMore before u v → NextField before u v
next_field_from before u r v ls lacks h (then no_field (then (one {at = at}) k)) = absurd (lacks at (sym h))
next_field_from before u r v ls lacks h (then (fields end {f = f} {m = m} {one = a} {rest = b} x y) (then (one {at = closing}) (makes (one {at = last})))) =
    rw (← field_groups f m (sign_at RightBrace closing ∷ sign_at Semicolon last ∷ []) end, ← append_assoc before (a ∷ []) b) (then (then x (makes one)) (then y (then one (makes one))))

pub leads_next_field : (before : List Param) {ls : List Lexeme} → Lacks (sign_at RightBrace) ls → Leads (FieldsMore before) Anything ls (NextField before) ls
leads_next_field before {ls = ls} lacks = leads_choose (next_field_into before) (λ u r v h x s. next_field_from before u r v ls lacks h x)

-- ---- the front of a struct

pub no_struct_word : {ls : List Lexeme} → Lacks (word_at Struct) ls → LacksStruct ls
no_struct_word lacks text rest (at, at', opening, e) = lacks at (ap first e)

pub no_struct_name : {ls rest : List Lexeme} → Begins (word_at Struct) ls rest → LacksName rest → LacksStruct ls
no_struct_name b lacks text after (at, at', opening, e) = lacks text at' (ap first (tails (sym b.1 ∙ e)))

pub no_struct_brace : {ls rest after : List Lexeme} {text : List ℕ} → Begins (word_at Struct) ls rest → BeginsName rest text after → Lacks (sign_at LeftBrace) after → LacksStruct ls
no_struct_brace b n lacks text' behind (at, at', opening, e) = lacks opening (ap first (tails (sym n.1 ∙ tails (sym b.1 ∙ e))))
