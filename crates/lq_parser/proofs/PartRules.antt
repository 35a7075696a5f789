-- The rules of statements without a body as sequences.
use Rattle.std.proofs.Common.{sym, ap, ◌∙◌, subst, refl}
use Rattle.std.specs.Prelude.{◌≡◌, ℕ, pos, true, false, Option, None, Some, List, [], ◌∷◌, ◌++◌}
use Rattle.std.proofs.lemmas.List.{append_assoc, append-nil}
use Rattle.lq_tree.specs.declared.place.Place.{Place}
use Rattle.lq_tree.specs.declared.expr.BinOp.{BinOp}
use Rattle.lq_tree.specs.declared.expr.Expr.{Expr, Num, Var, Bin, Index, Deref, Call, Call', items-the_row-Expr, items_hidden-the_row-Expr-1}
use Rattle.lq_tree.specs.declared.stmt.StmtKind.{StmtKind, Set, Store, Call as CallKind}
use Rattle.lq_parser.specs.declared.lexeme.Lexeme.{Lexeme}
use Rattle.lq_parser.specs.declared.lexeme.Sign.{Sign}
use Rattle.lq_parser.specs.declared.lexeme.Sign.TheVariants.{LeftParen, RightParen, LeftBracket, RightBracket, Equal, Star, PlusPlus, MinusMinus, PlusEqual, MinusEqual, StarEqual}
use Rattle.lq_parser.specs.Lexemes.{first, sign_at, name_at, updating, stepping}
use Rattle.lq_parser.specs.Expressions.{IsPrimary, number, variable, call, calloc, parens, AreArguments, IsTail, no_tail, index, arrow, dot, IsPostfix, primary, IsUnary, IsExpression, IsPlace, postfix_place, deref_place, is_place}
use Rattle.lq_parser.specs.Statements.{IsSimple, set, update, step, store, call as called}
use Rattle.lq_parser.specs.Sequence.{Then, then, Makes, makes, one, IsSign, IsStored}
use Rattle.lq_parser.specs.Outcome.{Done, Fails, Begins, Lacks, LacksName, BeginsAs, LacksAs, Ends, EndsPart, IsEqual, NoParen, binds, binds_sign}
use Rattle.lq_parser.proofs.Apart.{signs, names, numbers, keywords, heads, tails, some_same, same_text}
use Rattle.lq_parser.proofs.Leads.{Leads, Completes, anywhere, leads_choose, leads_then, complete_one, complete_then, complete_makes, parts}
use Rattle.lq_parser.proofs.Firsts.{CanBegin, by_name, by_star, primary_begins, postfix_begins, begins_on, none_begins, complete_expression}
use Rattle.lq_parser.proofs.Cuts.{IsAs, as_sign, first_then, fails_refused, meant}
use Rattle.lq_parser.proofs.Followers.{part_ends, equal_ends, ends_tighter, part_not}

-- what a store is completed by
pub complete_stored : {place : Expr} → Completes (IsStored place)
complete_stored = complete_then complete_one (λ u. complete_makes complete_expression)

-- places

-- a `*` and its operand
abbrev pub DerefPlace : List Lexeme → Expr → Type 0
DerefPlace = Then (IsSign Star) (λ _. Makes IsUnary Deref)

-- a whole that may be stored to ends here
pub data EndsPlace (whole : Expr) : List Lexeme → Expr → Type 0 where
  ends_place : is_place whole ≡ true → EndsPlace whole [] whole

abbrev pub PostfixPlace : List Lexeme → Expr → Type 0
PostfixPlace = Then IsPostfix EndsPlace

deref_into : (u : List Lexeme) (v : Expr) → DerefPlace u v → IsPlace u v
deref_into u v (then one (makes x)) = deref_place x

-- no postfix expression begins with `*`
primary_no_star : {p : List Lexeme} {e : Expr} → IsPrimary p e → (r : List Lexeme) (at : Place) → first (p ++ r) ≡ Some (sign_at Star at) → ⊥
primary_no_star number r at h = cc (signs h)
primary_no_star variable r at h = cc (signs h)
primary_no_star (call closing a) r at h = cc (signs h)
primary_no_star (calloc comma size opening' closing' closing c t) r at h = cc (signs h)
primary_no_star (parens closing i) r at h = cc (signs h)

pub postfix_no_star : {p : List Lexeme} {e : Expr} → IsPostfix p e → (r : List Lexeme) (at : Place) → first (p ++ r) ≡ Some (sign_at Star at) → ⊥
postfix_no_star (primary {p = p} {t = t} x y) r at h = primary_no_star x (t ++ r) at (ap first (sym (append_assoc p t r)) ∙ h)

deref_from : (u r : List Lexeme) (v : Expr) (at : Place) → first (u ++ r) ≡ Some (sign_at Star at) → IsPlace u v → DerefPlace u v
deref_from u r v at h (postfix_place x ends) = absurd (postfix_no_star x r at h)
deref_from u r v at h (deref_place x) = then one (makes x)

pub leads_deref : {ls rest : List Lexeme} → Begins (sign_at Star) ls rest → Leads IsPlace IsEqual ls DerefPlace ls
leads_deref b = leads_choose deref_into (λ u r v h x s. deref_from u r v b.0 (h ∙ ap first b.1) x)

postfix_into : (u : List Lexeme) (v : Expr) → PostfixPlace u v → IsPlace u v
postfix_into u v (then {front = p} x (ends_place h)) = rw (append-nil p) (postfix_place x h)

postfix_from : (u r : List Lexeme) (v : Expr) (ls : List Lexeme) → Lacks (sign_at Star) ls → first (u ++ r) ≡ first ls → IsPlace u v → PostfixPlace u v
postfix_from u r v ls lacks h (postfix_place x ends) = subst (λ z. PostfixPlace z v) (append-nil u) (then x (ends_place ends))
postfix_from u r v ls lacks h (deref_place {at = at} x) = absurd (lacks at (sym h))

pub leads_postfix : {ls : List Lexeme} → Lacks (sign_at Star) ls → Leads IsPlace IsEqual ls PostfixPlace ls
leads_postfix {ls = ls} lacks = leads_choose postfix_into (λ u r v h x s. postfix_from u r v ls lacks h x)

-- `=` follows a place
pub place_ends : (a b : Expr) (g r : List Lexeme) → EndsPlace a g b → IsEqual (first r) → Ends 0 (first (g ++ r))
place_ends a b g r (ends_place h) s = equal_ends _ s

-- a tail goes on with an index
pub tail_longer : {before after at : Expr} {t i : List Lexeme} (opening closing : Place)
    → IsTail before t after → IsExpression i at → IsTail before (t ++ (sign_at LeftBracket opening ∷ (i ++ (sign_at RightBracket closing ∷ [])))) (Index after at)
tail_longer opening closing no_tail x = index closing x no_tail
tail_longer opening closing (index closing' {i = i'} {t = t} k y) x = rw (append_assoc i' (sign_at RightBracket closing' ∷ t) _) (index closing' k (tail_longer opening closing y x))
tail_longer opening closing (arrow y) x = arrow (tail_longer opening closing y x)
tail_longer opening closing (dot y) x = dot (tail_longer opening closing y x)

-- `[0]`, in a spelling
abbrev element : List Lexeme
element = sign_at LeftBracket anywhere ∷ (complete_expression.0 ++ (sign_at RightBracket anywhere ∷ []))

pub postfix_longer : {p : List Lexeme} {e : Expr} → IsPostfix p e → IsPostfix (p ++ element) (Index e complete_expression.1)
postfix_longer (primary {p = p} {t = t} x y) = rw (append_assoc p t element) (primary x (tail_longer anywhere anywhere y complete_expression.2))

pub refused_place : {ls rest : List Lexeme} {whole : Expr} → is_place whole ≡ false → Done IsPostfix (Ends 0) ls whole rest → Fails PostfixPlace IsEqual ls rest
refused_place {whole = whole} bad d = fails_refused place_ends refused longer d
  where
    refused : (b : Expr) (g r : List Lexeme) → EndsPlace whole g b → IsEqual (first r) → ⊥
    refused b g r (ends_place good) s = cc

    longer : (front : List Lexeme) → IsPostfix front whole → (more : List Lexeme) × (b : Expr) × Then IsPostfix EndsPlace (front ++ more) b
    longer front x = (element, Index whole complete_expression.1, subst (λ z. PostfixPlace z (Index whole complete_expression.1)) (append-nil (front ++ element)) (then (postfix_longer x) (ends_place refl)))

-- statements behind a name

abbrev pub NameSet : List ℕ → List Lexeme → StmtKind → Type 0
NameSet text = Then (IsSign Equal) (λ _. Makes IsExpression (Set text))

abbrev pub NameUpdate : List ℕ → List Lexeme → StmtKind → Type 0
NameUpdate text = Then (IsAs updating) (λ op. Makes IsExpression (λ value. Set text (Bin op (Var text) value)))

abbrev pub NameStep : List ℕ → List Lexeme → StmtKind → Type 0
NameStep text = Makes (IsAs stepping) (λ op. Set text (Bin op (Var text) (Num (pos 1))))

-- a whole that is a call ends here, and one that may be stored to is stored to
pub data EndsWhole (whole : Expr) : List Lexeme → StmtKind → Type 0 where
  ends_call : (function : List ℕ) (arguments : List Expr) → whole ≡ Call function arguments → EndsWhole whole [] (CallKind function arguments)
  ends_store : {ls : List Lexeme} {kind : StmtKind} → is_place whole ≡ true → IsStored whole ls kind → EndsWhole whole ls kind

-- a primary that begins with this name, its tail, and what is done with the whole
abbrev pub StoreOrCall : List ℕ → Place → List Lexeme → StmtKind → Type 0
StoreOrCall text at = Then (λ ls e. IsPrimary (name_at text at ∷ ls) e) (λ start. Then (IsTail start) EndsWhole)

-- a primary that begins with a name is a variable or a call
data NamedAs (text : List ℕ) (u : List Lexeme) (e : Expr) : Type 0 where
  as_variable : u ≡ [] → e ≡ Var text → NamedAs text u e
  as_call : (opening closing : Place) (a : List Lexeme) (arguments : List Expr)
      → u ≡ sign_at LeftParen opening ∷ (a ++ (sign_at RightParen closing ∷ [])) → AreArguments a arguments → e ≡ Call text arguments → NamedAs text u e

named_as : {w u : List Lexeme} {e : Expr} {text : List ℕ} {at : Place} → w ≡ name_at text at ∷ u → IsPrimary w e → NamedAs text u e
named_as eq number = absurd (cc (numbers (ap first eq)))
named_as eq variable = as_variable (sym (tails eq)) (ap Var (same_text eq))
named_as eq (call closing {arguments = arguments} a) = as_call _ closing _ arguments (sym (tails eq)) a (ap (λ t. Call t arguments) (same_text eq))
named_as eq (calloc comma size opening' closing' closing c t) = absurd (cc (keywords (ap first eq)))
named_as eq (parens closing i) = absurd (cc (signs (ap first eq)))

-- what a tail makes may be stored to, unless there is none
tail_place : {before after : Expr} {t : List Lexeme} → IsTail before t after → is_place after ≡ false → (t ≡ []) × (after ≡ before)
tail_place no_tail h = (refl, refl)
tail_place (index closing x y) h = absurd (cc (ap is_place (tail_place y h).1))
tail_place (arrow y) h = absurd (cc (ap is_place (tail_place y h).1))
tail_place (dot y) h = absurd (cc (ap is_place (tail_place y h).1))

-- a tail that makes a place of what is none begins with a sign that goes on
tail_begins : {before after : Expr} {t : List Lexeme} → IsTail before t after → is_place before ≡ false → is_place after ≡ true → (r : List Lexeme) → binds (first (t ++ r)) ≡ 0
tail_begins no_tail h k r = absurd (cc)
tail_begins (index closing x y) h k r = refl
tail_begins (arrow y) h k r = refl
tail_begins (dot y) h k r = refl

-- the statement that a call is
abbrev call_of : Expr → Option StmtKind
call_of (Call' function shape row) = Some (CallKind function (items-the_row-Expr _ row))
call_of _ = None

call_of-call : (f : List ℕ) (a : List Expr) → call_of (Call f a) ≡ Some (CallKind f a)
call_of-call f a = ap (λ l. Some (CallKind f l)) (items_hidden-the_row-Expr-1 a)

kinds_same : (f g : List ℕ) (a b : List Expr) → Call f a ≡ Call g b → CallKind f a ≡ CallKind g b
kinds_same f g a b e = some_same (sym (call_of-call f a) ∙ ap call_of e ∙ call_of-call g b)

no_variable : (text f : List ℕ) (a : List Expr) → Var text ≡ Call f a → ⊥
no_variable text f a e = cc

-- the four kinds of statements that begin with a name
data Behind (text : List ℕ) (at : Place) (u : List Lexeme) (v : StmtKind) : Type 0 where
  by_set : NameSet text u v → Behind text at u v
  by_update : NameUpdate text u v → Behind text at u v
  by_step : NameStep text u v → Behind text at u v
  by_rest : binds (first u) ≡ 0 → StoreOrCall text at u v → Behind text at u v

-- a place that begins with a name goes on with a sign that binds
place_binds : {text : List ℕ} {at : Place} {p t : List Lexeme} {before after : Expr} (z : List Lexeme)
    → IsPrimary (name_at text at ∷ p) before → IsTail before t after → is_place after ≡ true → binds (first ((p ++ t) ++ z)) ≡ 0
place_binds {text = text} {at = at} {p = p} {t = t} {before = before} {after = after} z x y h = go (named_as refl x)
  where
    go : NamedAs text p before → binds (first ((p ++ t) ++ z)) ≡ 0
    go (as_variable none e) = rw none (tail_begins y (ap is_place e) h z)
    go (as_call opening closing a arguments e args f) = rw e refl

store_behind : {text : List ℕ} {at : Place} {u p t e : List Lexeme} {before place value : Expr} (at' : Place)
    → (p ++ t) ++ (sign_at Equal at' ∷ e) ≡ name_at text at ∷ u → IsPrimary p before → IsTail before t place → is_place place ≡ true → IsExpression e value
    → Behind text at u (Store place value)
store_behind {text = text} {at = at} {u = u} {p = p} {t = t} {e = e} {before = before} {place = place} {value = value} at' eq x y h k = go p eq x
  where
    go : (p : List Lexeme) → (p ++ t) ++ (sign_at Equal at' ∷ e) ≡ name_at text at ∷ u → IsPrimary p before → Behind text at u (Store place value)
    go [] eq x = absurd (none_begins (primary_begins x))
    go (l ∷ p) eq x =
        let x' = subst (λ z. IsPrimary (z ∷ p) before) (heads eq) x in
        let b : binds (first u) ≡ 0 = subst (λ z. binds (first z) ≡ 0) (tails eq) (place_binds (sign_at Equal at' ∷ e) x' y h) in
        by_rest b (subst (λ z. StoreOrCall text at z (Store place value)) (sym (append_assoc p t (sign_at Equal at' ∷ e)) ∙ tails eq)
        (then x' (then y (ends_store h (then one (makes k))))))

behind : {w u : List Lexeme} {v : StmtKind} {text : List ℕ} {at : Place} → w ≡ name_at text at ∷ u → IsSimple w v → Behind text at u v
behind eq (set x) = by_set (rw (← tails eq, ← same_text eq) (then one (makes x)))
behind eq (update m x) = by_update (rw (← tails eq, ← same_text eq) (then (as_sign m) (makes x)))
behind eq (step m) = by_step (rw (← tails eq, ← same_text eq) (makes (as_sign m)))
behind eq (store at' (postfix_place (primary x y) h) k) = store_behind at' eq x y h k
behind eq (store at' (deref_place x) k) = absurd (cc (signs (ap first eq)))
behind {text = text} {at = at} eq (called {at = a} {opening = opening} closing {text = t} {a = al} {arguments = arguments} args) =
    by_rest (rw (← tails eq) refl)
    (rw (← tails eq, ← same_text eq) (subst (λ z. StoreOrCall t at z (CallKind t arguments)) (append-nil (sign_at LeftParen opening ∷ (al ++ (sign_at RightParen closing ∷ []))))
    (then (call closing args) (then no_tail (ends_call t arguments refl)))))

-- and back again
set_into : (text : List ℕ) (at : Place) (u : List Lexeme) (v : StmtKind) → NameSet text u v → IsSimple (name_at text at ∷ u) v
set_into text at u v (then one (makes x)) = set x

update_into : (text : List ℕ) (at : Place) (u : List Lexeme) (v : StmtKind) → NameUpdate text u v → IsSimple (name_at text at ∷ u) v
update_into text at u v (then (as_sign m) (makes x)) = update m x

step_into : (text : List ℕ) (at : Place) (u : List Lexeme) (v : StmtKind) → NameStep text u v → IsSimple (name_at text at ∷ u) v
step_into text at u v (makes (as_sign m)) = step m

call_back : {text f : List ℕ} {at : Place} {p : List Lexeme} {start : Expr} {arguments : List Expr}
    → NamedAs text p start → start ≡ Call f arguments → IsSimple (name_at text at ∷ p) (CallKind f arguments)
call_back {text = text} {f = f} {arguments = arguments} (as_variable none e) q = absurd (no_variable text f arguments (sym e ∙ q))
call_back {text = text} {f = f} {at = at} {arguments = arguments} (as_call opening closing a args e x k) q =
    rw e (subst (λ z. IsSimple (name_at text at ∷ sign_at LeftParen opening ∷ (a ++ (sign_at RightParen closing ∷ []))) z) (kinds_same text f args arguments (sym k ∙ q)) (called closing x))

rest_into : (text : List ℕ) (at : Place) (u : List Lexeme) (v : StmtKind) → StoreOrCall text at u v → IsSimple (name_at text at ∷ u) v
rest_into text at u v (then {front = p} x (then {front = t} {back = e} y (ends_store h (then one (makes k))))) =
    rw (← append_assoc p t e) (store _ (postfix_place (primary x y) h) k)
rest_into text at u v (then {front = p} x (then {front = t} y (ends_call f a e))) =
    let q = tail_place y (ap is_place e) in
    rw (q.0, append-nil p) (call_back (named_as refl x) (sym q.1 ∙ e))

-- which of the four it is

rest_not : (u r : List Lexeme) {s : Sign} {at : Place} → binds (first u) ≡ 0 → first (u ++ r) ≡ Some (sign_at s at) → binds_sign s ≡ 7 → ⊥
rest_not u r {s = s} b h seven = seven_not_zero (sym (binds_on u b) ∙ ap binds h ∙ seven)
  where
    binds_on : (u : List Lexeme) → binds (first u) ≡ 0 → binds (first (u ++ r)) ≡ 0
    binds_on [] b = absurd (cc)
    binds_on (l ∷ u) b = b

    seven_not_zero : ◌≡◌ {A = ℕ} 0 7 → ⊥
    seven_not_zero e = cc

updating_binds : (s : Sign) (op : BinOp) → updating s ≡ Some op → binds_sign s ≡ 7
updating_binds PlusEqual op m = refl
updating_binds MinusEqual op m = refl
updating_binds StarEqual op m = refl
updating_binds _ op m = absurd (cc m)

stepping_binds : (s : Sign) (op : BinOp) → stepping s ≡ Some op → binds_sign s ≡ 7
stepping_binds PlusPlus op m = refl
stepping_binds MinusMinus op m = refl
stepping_binds _ op m = absurd (cc m)

one_or_other : (s : Sign) (op op' : BinOp) → updating s ≡ Some op → stepping s ≡ Some op' → ⊥
one_or_other PlusEqual op op' m n = cc n
one_or_other MinusEqual op op' m n = cc n
one_or_other StarEqual op op' m n = cc n
one_or_other _ op op' m n = cc m

set_from : {text : List ℕ} {at : Place} (u r : List Lexeme) {v : StmtKind} {at' : Place} → first (u ++ r) ≡ Some (sign_at Equal at') → Behind text at u v → NameSet text u v
set_from u r h (by_set x) = x
set_from u r h (by_update (then (as_sign m) k)) = absurd (cc (sym m ∙ ap (meant updating) (signs h)))
set_from u r h (by_step (makes (as_sign m))) = absurd (cc (sym m ∙ ap (meant stepping) (signs h)))
set_from u r h (by_rest b x) = absurd (rest_not u r b h refl)

pub leads_set : {text : List ℕ} {at : Place} {ls rest : List Lexeme} → Begins (sign_at Equal) ls rest
    → Leads (λ u v. IsSimple (name_at text at ∷ u) v) EndsPart ls (NameSet text) ls
leads_set {text = text} {at = at} b = leads_choose (set_into text at) (λ u r v h x s. set_from u r (h ∙ ap first b.1) (behind refl x))

update_from : {text : List ℕ} {at : Place} (u r : List Lexeme) {v : StmtKind} (ls : List Lexeme) {s : Sign} {at' : Place} {op : BinOp}
    → Lacks (sign_at Equal) ls → first (u ++ r) ≡ first ls → first ls ≡ Some (sign_at s at') → updating s ≡ Some op → Behind text at u v → NameUpdate text u v
update_from u r ls lacks h e n (by_set (then (one {at = at'}) x)) = absurd (lacks at' (sym h))
update_from u r ls lacks h e n (by_update x) = x
update_from u r ls {s = s} {op = op} lacks h e n (by_step (makes (as_sign {op = op'} m))) = absurd (one_or_other s op op' n (sym (ap (meant stepping) (signs (h ∙ e))) ∙ m))
update_from u r ls {s = s} {op = op} lacks h e n (by_rest b x) = absurd (rest_not u r b (h ∙ e) (updating_binds s op n))

pub leads_update : {text : List ℕ} {at : Place} {ls rest : List Lexeme} {op : BinOp} → Lacks (sign_at Equal) ls → BeginsAs updating ls op rest
    → Leads (λ u v. IsSimple (name_at text at ∷ u) v) EndsPart ls (NameUpdate text) ls
leads_update {text = text} {at = at} {ls = ls} lacks b = leads_choose (update_into text at) (λ u r v h x s. update_from u r ls lacks h (ap first b.2) b.3 (behind refl x))

step_from : {text : List ℕ} {at : Place} (u r : List Lexeme) {v : StmtKind} (ls : List Lexeme) {s : Sign} {at' : Place} {op : BinOp}
    → Lacks (sign_at Equal) ls → first (u ++ r) ≡ first ls → first ls ≡ Some (sign_at s at') → stepping s ≡ Some op → Behind text at u v → NameStep text u v
step_from u r ls lacks h e n (by_set (then (one {at = at'}) x)) = absurd (lacks at' (sym h))
step_from u r ls {s = s} {op = op} lacks h e n (by_update (then (as_sign {op = op'} m) k)) = absurd (one_or_other s op' op (sym (ap (meant updating) (signs (h ∙ e))) ∙ m) n)
step_from u r ls lacks h e n (by_step x) = x
step_from u r ls {s = s} {op = op} lacks h e n (by_rest b x) = absurd (rest_not u r b (h ∙ e) (stepping_binds s op n))

pub leads_step : {text : List ℕ} {at : Place} {ls rest : List Lexeme} {op : BinOp} → Lacks (sign_at Equal) ls → BeginsAs stepping ls op rest
    → Leads (λ u v. IsSimple (name_at text at ∷ u) v) EndsPart ls (NameStep text) ls
leads_step {text = text} {at = at} {ls = ls} lacks b = leads_choose (step_into text at) (λ u r v h x s. step_from u r ls lacks h (ap first b.2) b.3 (behind refl x))

rest_from : {text : List ℕ} {at : Place} (u r : List Lexeme) {v : StmtKind} (ls : List Lexeme)
    → Lacks (sign_at Equal) ls → LacksAs updating ls → LacksAs stepping ls → first (u ++ r) ≡ first ls → Behind text at u v → StoreOrCall text at u v
rest_from u r ls no_set no_update no_step h (by_set (then (one {at = at'}) x)) = absurd (no_set at' (sym h))
rest_from u r ls no_set no_update no_step h (by_update (then (as_sign {op = op} m) k)) = absurd (no_update _ _ op (sym h) m)
rest_from u r ls no_set no_update no_step h (by_step (makes (as_sign {op = op} m))) = absurd (no_step _ _ op (sym h) m)
rest_from u r ls no_set no_update no_step h (by_rest b x) = x

pub leads_rest : {text : List ℕ} {at : Place} {ls : List Lexeme} → Lacks (sign_at Equal) ls → LacksAs updating ls → LacksAs stepping ls
    → Leads (λ u v. IsSimple (name_at text at ∷ u) v) EndsPart ls (StoreOrCall text at) ls
leads_rest {text = text} {at = at} {ls = ls} no_set no_update no_step = leads_choose (rest_into text at) (λ u r v h x s. rest_from u r ls no_set no_update no_step h (behind refl x))

-- what may follow a primary that begins with a name, and its tail

pub whole_follows : (whole : Expr) (b : StmtKind) (g r : List Lexeme) → EndsWhole whole g b → EndsPart (first r) → Ends 0 (first (g ++ r))
whole_follows whole b g r (ends_call f a e) s = ends_tighter _ (part_ends _ s)
whole_follows whole b g r (ends_store h k) s = equal_ends _ (first_then k r)

pub start_follows : (start : Expr) (b : StmtKind) (g r : List Lexeme) → Then (IsTail start) EndsWhole g b → EndsPart (first r) → NoParen (first (g ++ r))
start_follows start b g r (then no_tail (ends_call f a e)) s at h = part_not (first r) refl s h
start_follows start b g r (then no_tail (ends_store k (then one x))) s at h = absurd (cc (signs h))
start_follows start b g r (then (index closing x y) k) s at h = absurd (cc (signs h))
start_follows start b g r (then (arrow y) k) s at h = absurd (cc (signs h))
start_follows start b g r (then (dot y) k) s at h = absurd (cc (signs h))

pub leads_start : {text : List ℕ} {at : Place} {ls rest : List Lexeme} {start : Expr} → Done (λ u e. IsPrimary (name_at text at ∷ u) e) NoParen ls start rest
    → Leads (StoreOrCall text at) EndsPart ls (Then (IsTail start) EndsWhole) rest
leads_start d = leads_then start_follows d

pub leads_tail : {ls rest : List Lexeme} {start whole : Expr} → Done (IsTail start) (Ends 0) ls whole rest
    → Leads (Then (IsTail start) EndsWhole) EndsPart ls (EndsWhole whole) rest
leads_tail d = leads_then whole_follows d

-- a call is done
pub done_call : {ls : List Lexeme} (f : List ℕ) (a : List Expr) → Done (EndsWhole (Call f a)) EndsPart ls (CallKind f a) ls
done_call {ls = ls} f a = record { front = []; split = refl; spelled = ends_call f a refl; only = λ other p r v h eq x s. only p r v other eq x }
  where
    only : (p r : List Lexeme) (v : StmtKind) (other : List Lexeme) → other ≡ p ++ r → EndsWhole (Call f a) p v → (v ≡ CallKind f a) × (r ≡ other)
    only p r v other eq (ends_call g b e) = (kinds_same g f b a (sym e), sym eq)
    only p r v other eq (ends_store h k) = absurd (cc)

-- a place is stored to
store_here : (whole : Expr) (u : List Lexeme) (v : StmtKind) → is_place whole ≡ true → IsStored whole u v → EndsWhole whole u v
store_here whole u v h x = ends_store h x

store_there : (whole : Expr) (u : List Lexeme) (v : StmtKind) → is_place whole ≡ true → EndsWhole whole u v → IsStored whole u v
store_there whole u v h (ends_call f a e) = absurd (cc (ap is_place e))
store_there whole u v h (ends_store k x) = x

pub leads_stored : {ls : List Lexeme} {whole : Expr} → is_place whole ≡ true → Leads (EndsWhole whole) EndsPart ls (IsStored whole) ls
leads_stored {whole = whole} good = leads_choose (λ u v x. store_here whole u v good x) (λ u r v h x s. store_there whole u v good x)

-- what is neither is refused
pub refused_whole : {ls rest : List Lexeme} {start whole : Expr} → is_place whole ≡ false → ((f : List ℕ) (a : List Expr) → whole ≡ Call f a → ⊥)
    → Done (IsTail start) (Ends 0) ls whole rest → Fails (Then (IsTail start) EndsWhole) EndsPart ls rest
refused_whole {start = start} {whole = whole} bad no_call d = fails_refused whole_follows refused longer d
  where
    refused : (b : StmtKind) (g r : List Lexeme) → EndsWhole whole g b → EndsPart (first r) → ⊥
    refused b g r (ends_call f a e) s = no_call f a e
    refused b g r (ends_store h k) s = cc

    longer : (front : List Lexeme) → IsTail start front whole → (more : List Lexeme) × (b : StmtKind) × Then (IsTail start) EndsWhole (front ++ more) b
    longer front x =
        let rest = complete_stored {place = Index whole complete_expression.1} in (
          element ++ rest.0,
          rest.1,
          subst (λ z. Then (IsTail start) EndsWhole z rest.1) (append_assoc front element rest.0)
              (then (tail_longer anywhere anywhere x complete_expression.2) (ends_store refl rest.2)),
        )

-- the tail's stop, and its completions
pub complete_whole : (start : Expr) → Completes (Then (IsTail start) EndsWhole)
complete_whole start =
    let rest = complete_stored {place = Index start complete_expression.1} in
    (element ++ rest.0, rest.1, then (tail_longer anywhere anywhere no_tail complete_expression.2) (ends_store refl rest.2))

-- a place that is read
pub done_place : {ls : List Lexeme} {whole : Expr} → is_place whole ≡ true → Done (EndsPlace whole) IsEqual ls whole ls
done_place {ls = ls} {whole = whole} good = record { front = []; split = refl; spelled = ends_place good; only = λ other f r v h eq x s. only f r v other eq x }
  where
    only : (f r : List Lexeme) (v : Expr) (other : List Lexeme) → other ≡ f ++ r → EndsPlace whole f v → (v ≡ whole) × (r ≡ other)
    only f r v other eq (ends_place k) = (refl, sym eq)

pub leads_whole : {ls rest : List Lexeme} {whole : Expr} → Done IsPostfix (Ends 0) ls whole rest → Leads PostfixPlace IsEqual ls (EndsPlace whole) rest
leads_whole d = leads_then place_ends d

-- a postfix expression that stops stops the place
pub fails_postfix : {ls end : List Lexeme} → Fails IsPostfix (Ends 0) ls end → Fails PostfixPlace IsEqual ls end
fails_postfix {ls = ls} {end = end} e = record {
  front = e.front;
  split = e.split;
  more = e.more ++ element;
  value = Index e.value complete_expression.1;
  viable = subst (λ z. PostfixPlace z (Index e.value complete_expression.1)) (append-nil ((e.front ++ e.more) ++ element) ∙ append_assoc e.front e.more element)
      (then (postfix_longer e.viable) (ends_place refl));
  dead = λ other f r v h eq x s. dead f r v other h eq x s;
}
  where
    dead : (f r : List Lexeme) (v : Expr) (other : List Lexeme) → first other ≡ first end → e.front ++ other ≡ f ++ r → PostfixPlace f v → IsEqual (first r) → ⊥
    dead f r v other h eq (then {front = p} x (ends_place k)) s = e.dead other p r _ h (eq ∙ ap (λ u. u ++ r) (append-nil p)) x (equal_ends _ s)

pub done_called : {ls : List Lexeme} {whole : Expr} {kind : StmtKind} (f : List ℕ) (a : List Expr) → whole ≡ Call f a → kind ≡ CallKind f a
    → Done (EndsWhole whole) EndsPart ls kind ls
done_called f a e k = rw (e, k) (done_call f a)

-- a tail that stops stops the statement
pub fails_tail : {ls end : List Lexeme} {start : Expr} → Fails (IsTail start) (Ends 0) ls end → Fails (Then (IsTail start) EndsWhole) EndsPart ls end
fails_tail {ls = ls} {end = end} {start = start} e =
    let rest = complete_stored {place = Index e.value complete_expression.1} in
    record {
      front = e.front;
      split = e.split;
      more = e.more ++ (element ++ rest.0);
      value = rest.1;
      viable = subst (λ z. Then (IsTail start) EndsWhole z rest.1) (append_assoc (e.front ++ e.more) element rest.0 ∙ append_assoc e.front e.more (element ++ rest.0))
          (then (tail_longer anywhere anywhere e.viable complete_expression.2) (ends_store refl rest.2));
      dead = λ other f r v h eq x s. dead f r v other h eq x s;
    }
  where
    dead : (f r : List Lexeme) (v : StmtKind) (other : List Lexeme) → first other ≡ first end → e.front ++ other ≡ f ++ r → Then (IsTail start) EndsWhole f v → EndsPart (first r) → ⊥
    dead f r v other h eq x s =
        let p = parts x in
        e.dead other p.1 (p.2 ++ r) p.0 h (eq ∙ ap (λ u. u ++ r) p.3 ∙ append_assoc p.1 p.2 r) p.4 (whole_follows p.0 v p.2 r p.5 s)

-- simple statements as a whole

place_into : (u : List Lexeme) (v : StmtKind) → Then IsPlace IsStored u v → IsSimple u v
place_into u v (then x (then one (makes k))) = store _ x k

place_from : (u r : List Lexeme) {v : StmtKind} (ls : List Lexeme) → LacksName ls → first (u ++ r) ≡ first ls → IsSimple u v → Then IsPlace IsStored u v
place_from u r ls lacks h (set x) = absurd (lacks _ _ (sym h))
place_from u r ls lacks h (update m x) = absurd (lacks _ _ (sym h))
place_from u r ls lacks h (step m) = absurd (lacks _ _ (sym h))
place_from u r ls lacks h (store at x k) = then x (then one (makes k))
place_from u r ls lacks h (called closing a) = absurd (lacks _ _ (sym h))

place_begins : {u : List Lexeme} {e : Expr} → IsPlace u e → CanBegin (first u)
place_begins (postfix_place x h) = postfix_begins x
place_begins (deref_place x) = by_star _ refl

-- a simple statement begins as an expression does
pub simple_begins : {u : List Lexeme} {v : StmtKind} → IsSimple u v → CanBegin (first u)
simple_begins (set x) = by_name _ _ refl
simple_begins (update m x) = by_name _ _ refl
simple_begins (step m) = by_name _ _ refl
simple_begins (store at {p = p} {e = e} x k) = begins_on p (sign_at Equal at ∷ e) (place_begins x)
simple_begins (called closing a) = by_name _ _ refl

pub simple_some : (v : StmtKind) → IsSimple [] v → ⊥
simple_some v x = none_begins (simple_begins x)

pub leads_place : {ls : List Lexeme} → LacksName ls → Leads IsSimple EndsPart ls (Then IsPlace IsStored) ls
leads_place {ls = ls} lacks = leads_choose place_into (λ u r v h x s. place_from u r ls lacks h x)

pub stored_follows : (place : Expr) (b : StmtKind) (g r : List Lexeme) → IsStored place g b → EndsPart (first r) → IsEqual (first (g ++ r))
stored_follows place b g r x s = first_then x r
