-- Folds that are asked for one after the other.
use Rattle.std.proofs.Common.{◌≡◌, List, [], ◌∷◌, map, sym, ap, ◌∙◌}
use Rattle.lq_templates.specs.declared.condition.Given.{Given}
use Rattle.lq_templates.specs.declared.condition.Site.{Site}
use Rattle.lq_symbolic.specs.declared.state.Opened.{Opened}
use Rattle.lq_tally.specs.declared.tally.Tally.{Tally}
use Rattle.lq_tally.specs.Tally.{tallied}
use Rattle.lq_tally.proofs.Tallies.{tallied_again}
use Rattle.lq_heap.specs.Records.{fold_of}

-- one more
pub one_more : (site : Site) (facts : List Given) (whole out next : Tally) (rest later : List Opened) (o : Opened) → whole ≡ tallied (map (fold_of site facts) rest) out →
    rest ≡ o ∷ later → next ≡ tallied (fold_of site facts o ∷ []) out → whole ≡ tallied (map (fold_of site facts) later) next
one_more site facts whole out next rest later o so_far split asked =
    so_far ∙ ap (λ (l : List Opened). tallied (map (fold_of site facts) l) out) split ∙
    sym (tallied_again (fold_of site facts o ∷ []) (map (fold_of site facts) later) out) ∙ ap (tallied (map (fold_of site facts) later)) (sym asked)
