use Rattle.std.proofs.Common.{◌≡◌, ◌+◌, Some, true, false, refl, subst, sym, ap, ◌∙◌}
use Rattle.lq_log.specs.declared.forks.Seen.{Seen}
use Rattle.lq_log.specs.declared.forks.Seen.TheVariants.{InOneBranch, LoadsInSeveral}
use Rattle.lq_log.specs.Seen.{Takes, Tells, Meets, AreInOne}
use Rattle.lq_log.proofs.SeenLaws.{first_seen, seen_again, seen_again_stored, seen_apart, seen_several, met_several, in_one}
use Rattle.lq_log.proofs.forks.with_access.Goals as goal

pub returns-in_default : goal.returns-in_default
returns-in_default c = λ log front j takes tells. first_seen log front j c.args.branch c.args.write takes (subst (Tells log front j) c.in_default.is tells)

pub returns-then-stored : goal.returns-then-stored
returns-then-stored c = λ log front j takes tells.
    let a = c.in-InOneBranch in
    let is : c.args.seen ≡ Some (InOneBranch a.only a.stored) = c.in-Some.is ∙ ap (λ (s : Seen). Some s) a.is in
    subst (AreInOne log front (j + 1) c.args.branch) (sym c.if-stored.true)
    (seen_again_stored log front j c.args.branch c.args.write takes (in_one log front j a.only c.args.branch a.stored true c.args.seen is c.if-only-branch.true c.if-stored.true tells))

pub returns-else-stored : goal.returns-else-stored
returns-else-stored c = λ log front j takes tells.
    let a = c.in-InOneBranch in
    let is : c.args.seen ≡ Some (InOneBranch a.only a.stored) = c.in-Some.is ∙ ap (λ (s : Seen). Some s) a.is in
    seen_again log front j c.args.branch c.args.write takes (in_one log front j a.only c.args.branch a.stored false c.args.seen is c.if-only-branch.true c.if-stored.false tells)

pub returns-else-write : goal.returns-else-write
returns-else-write c = λ log front j takes tells.
    let a = c.in-InOneBranch in
    let is : c.args.seen ≡ Some (InOneBranch a.only a.stored) = c.in-Some.is ∙ ap (λ (s : Seen). Some s) a.is in
    let loads = c.if-write.false in
    seen_apart log front j c.args.branch a.only (subst (Takes log front j c.args.branch) loads.1 takes)
    (in_one log front j a.only a.only a.stored false c.args.seen is refl loads.0 tells) c.if-only-branch.false

pub returns-then-write-2 : goal.returns-then-write-2
returns-then-write-2 c = λ log front j takes tells.
    let is : c.args.seen ≡ Some LoadsInSeveral = c.in-Some.is ∙ ap (λ (s : Seen). Some s) c.in-LoadsInSeveral.is in
    subst (Meets log front j c.args.branch) (sym c.if-write-2.true)
    (met_several log front j c.args.branch (subst (Takes log front j c.args.branch) c.if-write-2.true takes) (subst (Tells log front j) is tells))

pub returns-else-write-2 : goal.returns-else-write-2
returns-else-write-2 c = λ log front j takes tells.
    let is : c.args.seen ≡ Some LoadsInSeveral = c.in-Some.is ∙ ap (λ (s : Seen). Some s) c.in-LoadsInSeveral.is in
    seen_several log front j c.args.branch (subst (Takes log front j c.args.branch) c.if-write-2.false takes) (subst (Tells log front j) is tells)
