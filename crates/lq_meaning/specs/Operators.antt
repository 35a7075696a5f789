-- What the operators make of words (docs/LANGUAGE.md, "Words", "Pointer words" and "Traps"; ISO/IEC 9899:2011, 6.5.5 for quotients).
use Rattle.std.specs.Prelude.{ℕ, ◌^◌, ℤ, pos, negsuc, neg_ℤ, ◌+ℤ◌, ◌-ℤ◌, ◌*ℤ◌, Bool, true, false, not, ◌&&◌, nat_lt, int_lt, int_le, int_div, int_rem, if◌then◌else◌}
use Rattle.std.specs.Ordering.{int_eq}
use Rattle.lq_tree.specs.declared.trap.TrapKind.{TrapKind}
use Rattle.lq_tree.specs.declared.trap.TrapKind.TheVariants.{Overflow, Zero, Offset}
use Rattle.lq_tree.specs.declared.expr.BinOp.{BinOp}
use Rattle.lq_tree.specs.declared.expr.BinOp.TheVariants.{Mul, Div, Rem, Add, Sub, Lt, Le, Gt, Ge, Eq, Ne, And, Or}
use Rattle.lq_meaning.specs.Word.{null, pointer, block_of, offset_of, is_word}

-- a word, or a trap that isn't counted
pub data Computed : Type 0 where
  Computes : ℤ → Computed
  Fails : TrapKind → Computed

-- goes on with the word
abbrev pub then_compute : Computed → (ℤ → Computed) → Computed
then_compute (Computes x) go = go x
then_compute (Fails kind) go = Fails kind

-- a whole number, where it is a word
abbrev pub fitting : ℤ → Computed
fitting z = if is_word z then Computes z else Fails Overflow

-- 1 for true, 0 for false
abbrev pub truth : Bool → ℤ
truth true = pos 1
truth false = pos 0

-- whether the word is 0, which is false, or null
abbrev pub is_zero : ℤ → Bool
is_zero x = int_eq x (pos 0)

-- whether the word is true, as a word
abbrev pub truth_of : ℤ → ℤ
truth_of x = truth (not (is_zero x))

-- the opposite number, where it is a word
abbrev pub negation : ℤ → Computed
negation x = fitting (neg_ℤ x)

-- what a division gives, where the divisor isn't 0 and the quotient is a word
abbrev pub divided : ℤ → ℤ → ℤ → Computed
divided x y result = if is_zero y then Fails Zero else if is_word (int_div x y) then Computes result else Fails Overflow

-- an operator of two ints; of `&&` and `||` here both sides are known
abbrev pub arithmetic : BinOp → ℤ → ℤ → Computed
arithmetic Mul x y = fitting (x *ℤ y)
arithmetic Div x y = divided x y (int_div x y)
arithmetic Rem x y = divided x y (int_rem x y)
arithmetic Add x y = fitting (x +ℤ y)
arithmetic Sub x y = fitting (x -ℤ y)
arithmetic Lt x y = Computes (truth (int_lt x y))
arithmetic Le x y = Computes (truth (int_le x y))
arithmetic Gt x y = Computes (truth (int_lt y x))
arithmetic Ge x y = Computes (truth (int_le y x))
arithmetic Eq x y = Computes (truth (int_eq x y))
arithmetic Ne x y = Computes (truth (not (int_eq x y)))
arithmetic And x y = Computes (truth (not (is_zero x) && not (is_zero y)))
arithmetic Or x y = Computes (truth (not (is_zero x && is_zero y)))

-- the pointer to an offset of a block, which is from 0 to 2^31 - 1
abbrev pub offset_in : (block : ℕ) → ℤ → Computed
offset_in block (pos offset) = if nat_lt offset (2 ^ 31) then Computes (pointer block offset) else Fails Offset
offset_in block (negsuc n) = Fails Offset

-- a pointer so many elements further on (6.5.6); null goes nowhere
abbrev pub shifted : ℤ → ℤ → Computed
shifted p n =
    if is_zero p then (if is_zero n then Computes null else Fails Offset)
    else offset_in (block_of p) (pos (offset_of p) +ℤ n)

-- an operator whose left side is a pointer; a difference looks at the opposite number first
abbrev pub on_pointer : BinOp → ℤ → ℤ → Computed
on_pointer Add p n = shifted p n
on_pointer Sub p n = then_compute (negation n) (shifted p)
on_pointer op p n = arithmetic op p n

-- an operator, by whether its left side is a pointer
abbrev pub binary : (pointer : Bool) → BinOp → ℤ → ℤ → Computed
binary true op x y = on_pointer op x y
binary false op x y = arithmetic op x y
