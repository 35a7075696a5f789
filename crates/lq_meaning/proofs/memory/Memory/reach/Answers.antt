use Rattle.std.proofs.Common.{◌≡◌, ◌≢◌, ◌+ℤ◌, ℕ, ◌<◌, ◌^◌, pos, sym, ap, ◌∙◌, subst, arith, to_z, of_z, w64}
use Rattle.std.proofs.lemmas.Int.{ints}
use Rattle.lq_meaning.specs.Memory.{Addressable}
use Rattle.lq_meaning.specs.Word.{block_of, offset_of}
use Rattle.lq_meaning.proofs.Reached.{unreached}
use Rattle.lq_meaning.proofs.memory.Memory.reach.Goals as goal

pub returns-in_err-element : goal.returns-in_err-element
returns-in_err-element c =
    let all : Addressable c.args.self.now = subst Addressable c.self.view_is c.self.invariant in
    let index : to_z w64 (of_z w64 c.args.index) ≡ c.args.index = omega (arith, ints) in
    let pointer : to_z w64 (of_z w64 c.args.pointer) ≡ c.args.pointer = omega (arith, ints) in
    let offset : c.offset_of.result ≡ offset_of c.args.pointer = c.offset_of.ensures ∙ ap offset_of pointer in
    let sum : pos c.offset_of.result +ℤ to_z w64 (of_z w64 c.args.index) ≡ pos (offset_of c.args.pointer) +ℤ c.args.index = λ i. pos (offset i) +ℤ index i in
    let none : (n : ℕ) → n < 2 ^ 32 → pos (offset_of c.args.pointer) +ℤ c.args.index ≢ pos n = λ n small e. c.in_err-element.ensures.none n small (sum ∙ e) in
    c.from_residual.ensures ∙ sym (unreached c.args.self.now (block_of c.args.pointer) c.args.field (pos (offset_of c.args.pointer) +ℤ c.args.index) all none)
