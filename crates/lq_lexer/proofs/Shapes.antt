-- Counting over the tokens one by one gives the largest count.
use Rattle.std.proofs.Common.{◌≡◌, ℕ, suc, ◌+◌, ◌-◌, ◌<◌, ◌≤◌, max, cond, List, [], length, get_or, take, sym, ap, ◌∙◌, arith, add-one}
use Rattle.std.proofs.lemmas.List.{get_or-map, length-map}
use Rattle.std.specs.Prelude.{fold}
use Rattle.std.proofs.lemmas.Bool.{cond_both}
use Rattle.std.proofs.lemmas.List.Sums.{fold_more}
use Rattle.lq_lexer.specs.declared.token.Token.{Token}
use Rattle.lq_lexer.specs.Tokens.{Tokens, text_of}
use Rattle.lq_lexer.specs.Shape.{texts_of, open_after, stretch_after, is_in_stretch, largest, largest_count, openers, closers}
use Rattle.lq_lexer.specs.Counts.{count_after}
use Rattle.lq_lexer.specs.declared.shape.Count.{Count}
use Rattle.lq_lexer.specs.declared.shape.Count.TheVariants.{Brackets, Stretch}
use Rattle.lq_text.specs.Word.{is_among}
use Rattle.lq_lexer.proofs.Spans.{all_spans}

pub token_inside : (text : List ℕ) (tokens : List Token) (i : ℕ) (d : Token) → Tokens text tokens → i < length tokens → ((get_or tokens i d).start ≤ (get_or tokens i d).end) × ((get_or tokens i d).end ≤ length text)
token_inside text tokens i d h lt = let span = all_spans text tokens [] h.whole i d lt in (omega (arith, span.0), span.1)

-- a count that goes on from token to token
module _ (after : ℕ → List ℕ → ℕ) where
  pub count_more : (text : List ℕ) (tokens : List Token) (i count most next : ℕ) (d : Token) → i < length tokens
      → count ≡ fold after 0 (take i (texts_of text tokens)) → most ≡ largest (λ n. fold after 0 (take n (texts_of text tokens))) i → next ≡ after count (text_of text (get_or tokens i d))
      → (next ≡ fold after 0 (take (i + 1) (texts_of text tokens))) × (max most next ≡ largest (λ n. fold after 0 (take n (texts_of text tokens))) (i + 1))
  count_more text tokens i count most next d lt counted so_far stepped =
      let texts = texts_of text tokens in
      let here : fold after 0 (take (i + 1) texts) ≡ after (fold after 0 (take i texts)) (get_or texts i []) = fold_more after 0 texts i [] (omega (arith, length-map tokens (text_of text))) in
      let is : next ≡ fold after 0 (take (i + 1) texts) = stepped ∙ ap (λ (k : ℕ). after k (text_of text (get_or tokens i d))) counted ∙ ap (after (fold after 0 (take i texts))) (sym (get_or-map (text_of text) tokens i d [] lt)) ∙ sym here in
      let is' : next ≡ fold after 0 (take (suc i) texts) = rw add-one at is in
      (is, rw add-one (ap (λ (k : ℕ). max k next) so_far ∙ ap (λ (k : ℕ). max (largest (λ n. fold after 0 (take n texts)) i) k) is'))

  pub all_counted : (text : List ℕ) (tokens : List Token) (i most : ℕ) → i ≤ length tokens → length tokens ≤ i
      → most ≡ largest (λ n. fold after 0 (take n (texts_of text tokens))) i → most ≡ largest_count after (texts_of text tokens)
  all_counted text tokens i most low high so_far =
      so_far ∙ ap (largest (λ n. fold after 0 (take n (texts_of text tokens)))) (omega (arith, length-map tokens (text_of text)))

-- A token opens one bracket at most.
open_after_le : (count : ℕ) (token : List ℕ) → open_after count token ≤ count + 1
open_after_le count token =
    cond_both (is_among openers token) (count + 1) (cond (is_among closers token) (count - 1) count) (λ k. k ≤ count + 1)
    (λ h. omega arith)
    (λ h. cond_both (is_among closers token) (count - 1) count (λ k. k ≤ count + 1) (λ g. omega arith) (λ g. omega arith))

-- A stretch grows by one token at most.
stretch_after_le : (count : ℕ) (token : List ℕ) → stretch_after count token ≤ count + 1
stretch_after_le count token = cond_both (is_in_stretch token) (count + 1) 0 (λ k. k ≤ count + 1) (λ h. omega arith) (λ h. omega arith)

pub count_after_le : (what : Count) (count : ℕ) (token : List ℕ) → count_after what count token ≤ count + 1
count_after_le Brackets count token = open_after_le count token
count_after_le Stretch count token = stretch_after_le count token
