-- What a call of another rule answers is what this rule answers.
use Rattle.std.proofs.Common.{Bor, Result, Ok, Err}
use Rattle.std.specs.Prelude.{◌≡◌, true, false, Option, None, Some, List, IfOk, IfErr, IfSome, IfNone}
use Rattle.std.specs.Option.{is_some}
use Rattle.lq_parser.specs.declared.lexeme.Lexeme.{Lexeme}
use Rattle.lq_parser.specs.declared.stop.Stop.{Stop}
use Rattle.lq_parser.specs.declared.stop.Stop.TheVariants.{Syntax, NoMemory}
use Rattle.lq_parser.specs.Outcome.{Done, Stops}
use Rattle.lq_parser.proofs.Leads.{Leads}
use Rattle.lq_parser.proofs.Cuts.{done_under, fails_under}

pub goes_on : {A : Type 0} {X K : List Lexeme → A → Type 0} {F : Option Lexeme → Type 0} {ls rest : List Lexeme}
    → Leads X F ls K rest → (r : Result (A × Bor (List Lexeme)) Stop) → IfOk r (λ p. Done K F rest p.0 p.1.now) → IfOk r (λ p. Done X F ls p.0 p.1.now)
goes_on l (Ok p) d = l.done _ _ d
goes_on l (Err s) d = tt

pub stops_on : {A : Type 0} {X K : List Lexeme → A → Type 0} {F : Option Lexeme → Type 0} {ls rest : List Lexeme}
    → Leads X F ls K rest → (r : Result (A × Bor (List Lexeme)) Stop) → IfErr r (λ stop. Stops K F rest stop) → IfErr r (λ stop. Stops X F ls stop)
stops_on l (Ok p) s = tt
stops_on l (Err (Syntax rest)) s = l.fails _ s
stops_on l (Err NoMemory) s = tt

-- where less may follow the whole
pub goes_under : {A : Type 0} {X K : List Lexeme → A → Type 0} {F G : Option Lexeme → Type 0} {ls rest : List Lexeme}
    → Leads X F ls K rest → ((next : Option Lexeme) → F next → G next) → (r : Result (A × Bor (List Lexeme)) Stop)
    → IfOk r (λ p. Done K G rest p.0 p.1.now) → IfOk r (λ p. Done X F ls p.0 p.1.now)
goes_under l follow (Ok p) d = l.done _ _ (done_under follow d)
goes_under l follow (Err s) d = tt

pub stops_under : {A : Type 0} {X K : List Lexeme → A → Type 0} {F G : Option Lexeme → Type 0} {ls rest : List Lexeme}
    → Leads X F ls K rest → ((next : Option Lexeme) → F next → G next) → (r : Result (A × Bor (List Lexeme)) Stop)
    → IfErr r (λ stop. Stops K G rest stop) → IfErr r (λ stop. Stops X F ls stop)
stops_under l follow (Ok p) s = tt
stops_under l follow (Err (Syntax rest)) s = l.fails _ (fails_under follow s)
stops_under l follow (Err NoMemory) s = tt

-- what is there, and what isn't
pub there : {A : Type 0} {P : A → Type 0} (o : Option A) → true ≡ is_some o → IfSome o P → (x : A) × P x
there None h p = absurd (cc h)
there (Some x) h p = (x, p)

pub not_there : {A P : Type 0} (o : Option A) → false ≡ is_some o → IfNone o P → P
not_there None h p = p
not_there (Some x) h p = absurd (cc h)

-- what holds of a result holds of the same result
pub ok_by : {T E : Type 0} {P Q : T → Type 0} → ((p : T) → P p → Q p) → (r : Result T E) → IfOk r P → IfOk r Q
ok_by f (Ok p) h = f p h
ok_by f (Err e) h = tt

pub err_by : {T E : Type 0} {P Q : E → Type 0} → ((p : E) → P p → Q p) → (r : Result T E) → IfErr r P → IfErr r Q
err_by f (Ok p) h = tt
err_by f (Err e) h = f e h
