use Rattle.std.proofs.Common.{ℕ, List, filter, ap, ap₂, ◌∙◌}
use Rattle.std.specs.List.{range_with_len}
use Rattle.lq_tree.specs.PlainScopes.{is_among}
use Rattle.lq_templates.specs.Spots.{changed}
use Rattle.lq_ground.specs.Standing.{seen}
use Rattle.lq_ground.proofs.ground.Ground.changes.Goals as goal

pub returns : goal.returns
returns c = λ by w stands.
    let scope = c.scope.ensures (seen by c.args.self.now) w stands in
    let found = c.in_ok-changed.ensures ∙ ap (λ (ns : List ℕ). changed ns c.args.kind.now) scope in
    record {
      slots = c.in_ok-slots.ensures ∙ ap₂ (λ (ns : List ℕ) n. filter (is_among ns) (range_with_len 0 n)) (c.as_slice.ensures ∙ found) c.in_ok-count.ensures;
      spots = c.count_spots-spots.ensures w.scope (c.as_slice-2.ensures ∙ found);
    }
