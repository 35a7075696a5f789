-- How pieces that are written one after the other add up.
use Rattle.std.proofs.Common.{◌≡◌, ℕ, ◌+◌, ◌≤◌, min, List, [], ◌++◌, length, take, Option, Some, None, refl, sym, ◌∙◌, ap, arith, append_assoc}
use Rattle.std.specs.Prelude.{option_map, Result, Ok, Err, OnOk, OnErr, IsErrOf}
use Rattle.std.proofs.Math.Seq.{take-append-add, take-length}
use Rattle.std.proofs.lemmas.List.{append-nil, take-append-le, take_min}
use Rattle.lq_shelf.specs.declared.sink.Put.{Put}
use Rattle.lq_shelf.specs.declared.sink.Put.TheVariants.{Failed, NoMemory}
use Rattle.lq_shelf.specs.Sink.{Appends, AppendsPrefix}
use Rattle.lq_shelf.specs.WriterSink.{AppendsPart}

-- writing nothing leaves what is written
pub Appends-nil : (w : Option (List ℕ)) → Appends w w []
Appends-nil None = refl
Appends-nil (Some w) = ap Some (sym (append-nil w))

-- two pieces one after the other are one
pub Appends-append : (old middle new : Option (List ℕ)) (xs ys : List ℕ) → Appends old middle xs → Appends middle new ys → Appends old new (xs ++ ys)
Appends-append None middle new xs ys first next = next ∙ ap (option_map (λ w. w ++ ys)) first
Appends-append (Some w) middle new xs ys first next =
    next ∙ ap (option_map (λ w. w ++ ys)) first ∙ ap Some (append_assoc w xs ys)

-- nothing is a front of any bytes
pub AppendsPrefix-none : (w : Option (List ℕ)) (bytes : List ℕ) → AppendsPrefix w w bytes
AppendsPrefix-none w bytes = (0, Appends-nil w)

-- all of the bytes are one
pub AppendsPrefix-all : (old new : Option (List ℕ)) (bytes : List ℕ) → Appends old new bytes → AppendsPrefix old new bytes
AppendsPrefix-all old new bytes all = (length bytes, rw take-length all)

-- a piece, and then a front of the next, are a front of both together
pub AppendsPrefix-append : (old middle new : Option (List ℕ)) (xs ys : List ℕ) → Appends old middle xs → AppendsPrefix middle new ys → AppendsPrefix old new (xs ++ ys)
AppendsPrefix-append old middle new xs ys first (count, next) =
    (length xs + count, rw (take-append-add xs ys count) (Appends-append old middle new xs (take count ys) first next))

-- a front of some bytes is one of those and more
pub AppendsPrefix-more : (old new : Option (List ℕ)) (xs ys : List ℕ) → AppendsPrefix old new xs → AppendsPrefix old new (xs ++ ys)
AppendsPrefix-more old new xs ys (count, front) =
    let within : min count (length xs) ≤ length xs = omega arith in
    (min count (length xs), rw (take-append-le (min count (length xs)) xs ys within) (rw (take_min count xs) front))

-- Whatever a put answers, it wrote a front of its bytes.
pub AppendsPrefix-put : (answer : Result (Unit {0}) Put) (old new : Option (List ℕ)) (bytes : List ℕ) → OnOk answer (Appends old new bytes)
    → (IsErrOf answer Failed → AppendsPrefix old new bytes) → (IsErrOf answer NoMemory → new ≡ old) → AppendsPrefix old new bytes
AppendsPrefix-put (Ok done) old new bytes ok failed no_memory = AppendsPrefix-all old new bytes ok
AppendsPrefix-put (Err Failed) old new bytes ok failed no_memory = failed refl
AppendsPrefix-put (Err NoMemory) old new bytes ok failed no_memory = (0, no_memory refl ∙ Appends-nil old)

-- Whatever is answered, a front of the bytes was written, where that is all of them at `Ok` and not all else.
pub AppendsPrefix-written : {E : Type 0} → (answer : Result (Unit {0}) E) (old new : Option (List ℕ)) (bytes : List ℕ) → OnOk answer (Appends old new bytes)
    → OnErr answer (AppendsPart old new bytes) → AppendsPrefix old new bytes
AppendsPrefix-written (Ok done) old new bytes all part = AppendsPrefix-all old new bytes all
AppendsPrefix-written (Err error) old new bytes all (count, less, front) = (count, front)
