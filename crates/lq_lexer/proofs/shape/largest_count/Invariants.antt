use Rattle.std.proofs.Common.{◌≡◌, ◌≤◌, take}
use Rattle.std.specs.Prelude.{fold}
use Rattle.lq_lexer.specs.Shape.{texts_of, largest}
use Rattle.lq_lexer.specs.Counts.{count_after}
use Rattle.lq_lexer.proofs.shape.largest_count.Given as goal

abbrev pub invariant-loop-token : goal.invariant-loop-token
invariant-loop-token l =
    let texts = texts_of l.text l.tokens in
    record {
      within : l.count ≤ l.token-index;
      counted : l.count ≡ fold (count_after l.what) 0 (take l.token-index texts);
      so_far : l.most ≡ largest (λ n. fold (count_after l.what) 0 (take n texts)) l.token-index;
    }
