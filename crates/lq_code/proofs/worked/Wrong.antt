-- Bytes that are no code, and where they go wrong.
use Rattle.std.proofs.Common.{◌≡◌, refl, ap, ◌<◌, ◌/◌, ◌%◌, arith, length-append}
use Rattle.std.specs.Prelude.{ℕ, List, [], ◌∷◌, ◌++◌, length, codes}
use Rattle.lq_code.specs.declared.code.CFunc.{CFunc}
use Rattle.lq_code.specs.declared.code.Code.{Code}
use Rattle.lq_code.specs.Spelled.{Field, number, fields, Spells}
use Rattle.lq_code.specs.Wrong.{GoesWrong}
use Rattle.lq_code.proofs.worked.CodeWords.{code}

-- a field doesn't stand in front of fewer bytes
too_short : (bytes next more : List ℕ) → length bytes < length next → bytes ≡ next ++ more → ⊥
too_short bytes next more less goes = omega (arith, ap length goes, length-append next more)

-- ---- `LQC`

magic : (code : Code) (next : Field) (others : List Field) → fields code ≡ next ∷ others → codes "LQC1" ≡ next
magic code next others is = cc

unmagic : (next more : List ℕ) → codes "LQC1" ≡ next → codes "LQC" ≡ next ++ more → ⊥
unmagic next more same goes = let size : 4 ≡ length next = ap length same in too_short (codes "LQC") next more (omega arith) goes

-- the first field is cut short
lqc-wrong : GoesWrong (codes "LQC") 0
lqc-wrong =
    record {
      front = [];
      rest = codes "LQC";
      parts = refl;
      place = refl;
      begins = record { code = code [] 0; others = fields (code [] 0); parts = refl };
      stuck = λ code next others more is goes. unmagic next more (magic code next others is) goes;
      unspelled = λ code spelled. unmagic (codes "LQC1") _ refl spelled;
    }

-- ---- `LQC1` and two bytes

second : (code : Code) (next : Field) (others : List Field) → fields code ≡ codes "LQC1" ∷ next ∷ others → number (length code.funcs) ≡ next
second code next others is = cc

-- the number of functions is cut short
count-wrong : GoesWrong (codes "LQC1" ++ 0 ∷ 0 ∷ []) 4
count-wrong =
    record {
      front = codes "LQC1" ∷ [];
      rest = 0 ∷ 0 ∷ [];
      parts = refl;
      place = refl;
      begins = record { code = code [] 0; others = number 0 ∷ number 0 ∷ []; parts = refl };
      stuck =
          λ code next others more is goes.
          let size : 4 ≡ length next = ap length (second code next others is) in too_short (0 ∷ 0 ∷ []) next more (omega arith) goes;
      unspelled = λ code spelled. too_short (codes "LQC1" ++ 0 ∷ 0 ∷ []) (codes "LQC1" ++ number (length code.funcs)) _ (omega arith) spelled;
    }

-- ---- code without functions, and a byte behind it

bytes_of_zero : (a b c d : ℕ) → a ∷ b ∷ c ∷ d ∷ [] ≡ number 0 → (a ≡ 0) × (b ≡ 0) × (c ≡ 0) × (d ≡ 0)
bytes_of_zero a b c d same = (cc, cc, cc, cc)

-- only 0 is written as four zeros
is_zero : (n : ℕ) → (n / 16777216 ≡ 0) × (n / 65536 % 256 ≡ 0) × (n / 256 % 256 ≡ 0) × (n % 256 ≡ 0) → n ≡ 0
is_zero n (a, b, c, d) = omega arith

-- code that begins with no functions has no further field
no_more :
    (funcs : List CFunc) (main : ℕ) (next : Field) (others : List Field)
    → fields (code funcs main) ≡ codes "LQC1" ∷ number 0 ∷ number 0 ∷ next ∷ others → ⊥
no_more [] main next others is = cc
no_more (f ∷ funcs) main next others is =
    let n : ℕ = length (f ∷ funcs) in
    let same : number n ≡ number 0 = second (code (f ∷ funcs) main) (number 0) (number 0 ∷ next ∷ others) is in
    let zero : n ≡ 0 = is_zero n (bytes_of_zero _ _ _ _ same) in
    omega arith

unspelled : (funcs : List CFunc) (main : ℕ) → Spells (codes "LQC1" ++ (number 0 ++ (number 0 ++ 7 ∷ []))) (code funcs main) → ⊥
unspelled [] main spelled = omega (arith, ap length spelled)
unspelled (f ∷ funcs) main spelled =
    let n : ℕ = length (f ∷ funcs) in
    let same : number n ≡ number 0 = cc in
    let zero : n ≡ 0 = is_zero n (bytes_of_zero _ _ _ _ same) in
    omega arith

-- it goes wrong where the code ends
more-wrong : GoesWrong (codes "LQC1" ++ (number 0 ++ (number 0 ++ 7 ∷ []))) 12
more-wrong =
    record {
      front = fields (code [] 0);
      rest = 7 ∷ [];
      parts = refl;
      place = refl;
      begins = record { code = code [] 0; others = []; parts = refl };
      stuck = λ code next others more is goes. no_more code.funcs code.main next others is;
      unspelled = λ code spelled. unspelled code.funcs code.main spelled;
    }
