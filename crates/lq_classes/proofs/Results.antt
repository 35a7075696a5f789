-- Several clauses on one result.
use Rattle.std.proofs.Common.{Result, Ok, Err}
use Rattle.std.specs.Prelude.{OnOk, IfOk}

pub on_ok_three : {T E P Q R S : Type 0} (r : Result T E) → (P → Q → R → S) → OnOk r P → OnOk r Q → OnOk r R → OnOk r S
on_ok_three (Ok x) f p q r = f p q r
on_ok_three (Err e) f p q r = tt

pub if_ok_weaker : {T E : Type 0} {P Q : T → Type 0} (r : Result T E) → ((x : T) → P x → Q x) → IfOk r P → IfOk r Q
if_ok_weaker (Ok x) f p = f x p
if_ok_weaker (Err e) f p = tt
