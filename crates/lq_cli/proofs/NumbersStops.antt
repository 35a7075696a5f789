-- Why a text is no file of numbers, as it is told, and numbers as picks.
use Rattle.std.proofs.Common.{◌≡◌, ℕ, ◌<◌, ◌≤◌, ℤ, pos, Bool, true, false, cond, List, length, map, unsigned_abs, nat_lt, Result, Ok, Err, w64, to_z, of_z, refl, sym, ap, ◌∙◌, subst, arith}
use Rattle.std.proofs.lemmas.List.{length-map}
use Rattle.std.proofs.lemmas.Bool.{ltb-true}
use Rattle.lq_shelf.specs.Shelf.{Holding}
use Rattle.lq_tree.specs.declared.limit.Limit.{Limit}
use Rattle.lq_tree.specs.declared.limit.Quantity.{Quantity}
use Rattle.lq_tree.specs.Limit.{row_of, passed, checked}
use Rattle.lq_text.specs.Numbers.{IsNumbersFile, IsFirstBadLine}
use Rattle.lq_cli.specs.declared.numbers.NumbersFile.{NumbersFile}
use Rattle.lq_cli.specs.declared.numbers.NumbersFile.TheVariants.{Input, Picks}
use Rattle.lq_cli.specs.declared.answer.Answer.TheVariants.{Limit as LimitAnswer, BadLine}
use Rattle.lq_cli.specs.Lines.{limit}
use Rattle.lq_cli.specs.Numbers.{least_of, count_of, AreNumbers, NumbersAnswers, bad_line, more}
use Rattle.lq_cli.specs.Readers.{TellsNumbers}
use Rattle.lq_cli.proofs.PickNumbers.{IsNumbersFile-picks}

-- the limit that is answered
abbrev err_of : Limit → Result (Unit {0}) Limit → Limit
err_of other (Ok done) = other
err_of other (Err l) = l

-- what a test with this outcome answers
abbrev tested : Quantity → ℕ → Bool → Result (Unit {0}) Limit
tested q found test = cond test (Err (passed q found)) (Ok tt)

-- a test of a quantity that answers a limit has found more, and tells that
passed_by : (q : Quantity) (found : ℕ) (l : Limit) → checked q found ≡ Err l → ((row_of q).allowed < found) × (passed q found ≡ l)
passed_by q found l = by_test (nat_lt (row_of q).allowed found) refl where
  by_test : (test : Bool) → nat_lt (row_of q).allowed found ≡ test → tested q found test ≡ Err l → ((row_of q).allowed < found) × (passed q found ≡ l)
  by_test true is e = (ltb-true _ _ is, ap (err_of l) e)
  by_test false is e = absurd cc

-- the least number as it is passed on
least_read : (kind : NumbersFile) (z : ℤ) → z ≡ least_of kind → to_z w64 (of_z w64 z) ≡ least_of kind
least_read Input z e = ap (λ (n : ℤ). to_z w64 (of_z w64 n)) e
least_read Picks z e = ap (λ (n : ℤ). to_z w64 (of_z w64 n)) e

-- a bad line
pub bad_line_told : (kind : NumbersFile) (text : List ℕ) (number : ℕ) (z : ℤ) → z ≡ least_of kind → IsFirstBadLine (to_z w64 (of_z w64 z)) text number → TellsNumbers kind text (BadLine kind number)
bad_line_told kind text number z e bad name s file = bad_line text number file (subst (λ (least : ℤ). IsFirstBadLine least text number) (least_read kind z e) bad)

-- too many numbers
pub too_many : (kind : NumbersFile) (text : List ℕ) (numbers : List ℤ) (l : Limit) → IsNumbersFile (least_of kind) text numbers → checked (count_of kind) (length numbers) ≡ Err l →
    TellsNumbers kind text (LimitAnswer l)
too_many kind text numbers l are e name s file =
    let found = passed_by (count_of kind) (length numbers) l e in
    subst (λ (l : Limit). NumbersAnswers kind name s 7 (limit l)) found.1 (more text numbers file are found.0)

-- a file of picks is one of the numbers
pub are_picks : (held : List ℕ → Holding) (name : List ℕ) (numbers : List ℤ) (picks : List ℕ) → picks ≡ map unsigned_abs numbers → AreNumbers held Picks name numbers → AreNumbers held Picks name (map pos picks)
are_picks held name numbers picks is are =
    record {
      text = are.text;
      file = are.file;
      said = IsNumbersFile-picks are.text numbers picks are.said is;
      within = subst (λ (n : ℕ). n ≤ 1048576) (sym (length-map picks pos ∙ ap length is ∙ length-map numbers unsigned_abs)) are.within;
    }
