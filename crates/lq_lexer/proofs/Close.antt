-- Looking for the end of a comment.
use Rattle.std.proofs.Common.{◌≡◌, ℕ, ◌+◌, ◌-◌, ◌<◌, Bool, false, cond, nat_eq, List, ◌∷◌, codes, length, get_or, take, drop, Some, sym, ap, ◌∙◌}
use Rattle.std.specs.List.{starts_with}
use Rattle.std.proofs.lemmas.List.{at_drop_more, drop_more, take_rest}
use Rattle.lq_lexer.specs.Scan.{close_from}

pub close_from_more : (text : List ℕ) (at : ℕ) → at < length text → starts_with nat_eq (take (length text - at) (drop at text)) (codes "*/") ≡ false → close_from at (drop at text) ≡ close_from (at + 1) (drop (at + 1) text)
close_from_more text at lt other =
    let here : starts_with nat_eq (get_or text at 0 ∷ drop (at + 1) text) (codes "*/") ≡ false = ap (λ (t : List ℕ). starts_with nat_eq t (codes "*/")) (sym (drop_more text at 0 lt)) ∙ ap (λ (t : List ℕ). starts_with nat_eq t (codes "*/")) (sym (take_rest text at)) ∙ other in
    at_drop_more (close_from at) text at 0 lt ∙ ap (λ (b : Bool). cond b (Some (at + 2)) (close_from (at + 1) (drop (at + 1) text))) here
