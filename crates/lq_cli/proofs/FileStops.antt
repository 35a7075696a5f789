-- Why there is no file, as it is told.
use Rattle.std.proofs.Common.{◌≡◌, ℕ, ◌+◌, ◌<◌, ◌≤◌, List, length, sym, ap, ◌∙◌, subst}
use Rattle.lq_tree.specs.declared.limit.Limit.{Limit}
use Rattle.lq_tree.specs.declared.limit.Quantity.{Quantity}
use Rattle.lq_tree.specs.Limit.{passed}
use Rattle.lq_shelf.specs.Faults.{Rose}
use Rattle.lq_shelf.specs.Shelf.{AreFirstOf}
use Rattle.lq_cli.specs.declared.stop.Stop.{Stop}
use Rattle.lq_cli.specs.Lines.{most}
use Rattle.lq_cli.specs.Seen.{ShelfState}
use Rattle.lq_cli.specs.Files.{FileAnswers, larger}
use Rattle.lq_cli.specs.Stop.{stop_of_limit, Stopped}

-- a file that is larger
pub larger_stops : (size : Quantity) (name : List ℕ) (shelf left : ShelfState) (bytes : List ℕ) (allowed count : ℕ) (l : Limit) (stop : Stop) →
    stop ≡ stop_of_limit l → l ≡ passed size count → count ≡ length bytes → allowed ≡ most size →
    AreFirstOf (shelf.held name) (allowed + 1) bytes → length bytes ≤ most size + 1 → most size < length bytes →
    left.faults ≡ shelf.faults → ((other : List ℕ) → left.held other ≡ shelf.held other) → Stopped (FileAnswers size name) shelf left stop
larger_stops size name shelf left bytes allowed count l stop is is_limit is_count is_allowed first within past same held =
    subst (λ (stop : Stop). Stopped (FileAnswers size name) shelf left stop) (sym (is ∙ ap stop_of_limit (is_limit ∙ ap (passed size) is_count)))
    (record {
      told = larger bytes (record { first = subst (λ (n : ℕ). AreFirstOf (shelf.held name) (n + 1) bytes) is_allowed first; within = within }) past;
      count = same;
      held = held;
    })
