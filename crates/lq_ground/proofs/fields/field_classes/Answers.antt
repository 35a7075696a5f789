use Rattle.std.proofs.Common.{ℕ, List, slice_get, ap, sym, ◌∙◌}
use Rattle.std.specs.List.{flat_map}
use Rattle.lq_classes.proofs.Results.{if_ok_weaker}
use Rattle.lq_templates.specs.Classes.{class_in}
use Rattle.lq_ground.specs.declared.moves.Move.{Move}
use Rattle.lq_ground.specs.Moves.{moved_at}
use Rattle.lq_ground.proofs.MoveLemmas.{all_moved}
use Rattle.lq_ground.proofs.fields.field_classes.Goals as goal

pub returns : goal.returns
returns c =
    if_ok_weaker c.note_moves.result (λ rows is class field. is class field
    ∙ ap (λ (ms : List Move). slice_get (flat_map (moved_at class field) ms) 0) (c.as_slice.ensures ∙ c.in_ok-moves.ensures)
    ∙ ap (λ (xs : List ℕ). slice_get xs 0) (sym (all_moved (class_in c.args.classes.now) class field 0 c.args.program.now.funcs))) c.note_moves.ensures
