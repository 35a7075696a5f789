use Rattle.std.proofs.Common.{◌≡◌, refl, ◌+◌, List, [], ◌∷◌, ◌++◌, true, drop, ap, sym, ◌∙◌, arith}
use Rattle.std.proofs.lemmas.Result.{IfOk-weaker}
use Rattle.lq_tree.specs.declared.expr.Expr.{Expr, Bin, Index, Arrow, Dot}
use Rattle.lq_tree.specs.declared.program.Param.{Param}
use Rattle.lq_tree.specs.Seen.{seen}
use Rattle.lq_plain.specs.Plain.{arguments}
use Rattle.lq_tree.specs.declared.plain.PExpr.{PExpr}
use Rattle.lq_plain.specs.Flat.{Valued, type_of, slot_in, flatten, operand}
use Rattle.lq_plain.specs.SeenFlat.{operand_of, settled}
use Rattle.lq_plain.specs.SeenMade.{made_of}
use Rattle.lq_plain.specs.Sites.{env_of}
use Rattle.lq_plain.proofs.Settled.{operand_settled}
use Rattle.lq_plain.proofs.FlatCases.{at_neg, at_not, at_index, at_deref, at_arrow, at_dot, at_call, at_calloc, at_stop, at_both, at_stopping, null_given, other_given, joined, argument_more, arguments_end}
use Rattle.lq_plain.proofs.flatten.+flattening.Goals as goal

pub flatten-returns-in_ok-new-in-Neg : goal.flatten-returns-in_ok-new-in-Neg
flatten-returns-in_ok-new-in-Neg t c =
    at_neg (env_of c.args.site) c.args.site.at (made_of c.args.made.now) c.args.expr.now c.in-Neg.part c.get-part.result.now _ _ c.in_ok-value-in-Neg.value c.is_pure.result
    c.in-Neg.is c.get-part.ensures c.is_pure.ensures c.in_ok-new-in-Neg.ensures c.in_ok-value-in-Neg.ensures

pub flatten-returns-in_ok-new-in-Not : goal.flatten-returns-in_ok-new-in-Not
flatten-returns-in_ok-new-in-Not t c =
    at_not (env_of c.args.site) c.args.site.at (made_of c.args.made.now) c.args.expr.now c.in-Not.part c.get-part-in-Not.result.now _ _ c.in_ok-value-in-Not.value c.is_pure-in-Not.result
    c.in-Not.is c.get-part-in-Not.ensures c.is_pure-in-Not.ensures c.in_ok-new-in-Not.ensures c.in_ok-value-in-Not.ensures

pub flatten-returns-in-Bin : goal.flatten-returns-in-Bin
flatten-returns-in-Bin t c =
    let env = env_of c.args.site in
    let m = made_of c.args.made.now in
    let same : Bin c.in-Bin.op c.get.result.now c.get-in-Bin.result.now ≡ c.args.expr.now =
    ap (λ (x : Expr). Bin c.in-Bin.op x c.get-in-Bin.result.now) c.get.ensures ∙ ap (λ (x : Expr). Bin c.in-Bin.op c.in-Bin.left x) c.get-in-Bin.ensures ∙ sym c.in-Bin.is in
    IfOk-weaker c.combined.result _ _ (λ f given. given ∙ ap (λ (x : Expr). settled c.args.site.at (flatten env c.args.site.at x m)) same) c.combined.ensures

pub flatten-returns-in-Index : goal.flatten-returns-in-Index
flatten-returns-in-Index t c =
    let env = env_of c.args.site in
    let m = made_of c.args.made.now in
    let same : Index c.get-in-Index.result.now c.get-in-Index-2.result.now ≡ c.args.expr.now =
    ap (λ (x : Expr). Index x c.get-in-Index-2.result.now) c.get-in-Index.ensures ∙ ap (λ (x : Expr). Index c.in-Index.base x) c.get-in-Index-2.ensures ∙ sym c.in-Index.is in
    IfOk-weaker c.indexed.result _ _ (λ f given. given ∙ ap (λ (x : Expr). settled c.args.site.at (flatten env c.args.site.at x m)) same) c.indexed.ensures

pub flatten-returns-in-Arrow : goal.flatten-returns-in-Arrow
flatten-returns-in-Arrow t c =
    let env = env_of c.args.site in
    let m = made_of c.args.made.now in
    let same : Arrow c.get-in-Arrow.result.now c.in-Arrow.field ≡ c.args.expr.now = ap (λ (x : Expr). Arrow x c.in-Arrow.field) c.get-in-Arrow.ensures ∙ sym c.in-Arrow.is in
    IfOk-weaker c.pointed.result _ _ (λ f given. given ∙ ap (λ (x : Expr). settled c.args.site.at (flatten env c.args.site.at x m)) same) c.pointed.ensures

pub flatten-returns-in-Dot : goal.flatten-returns-in-Dot
flatten-returns-in-Dot t c =
    let env = env_of c.args.site in
    let m = made_of c.args.made.now in
    let same : Dot c.get-in-Dot.result.now c.in-Dot.field ≡ c.args.expr.now = ap (λ (x : Expr). Dot x c.in-Dot.field) c.get-in-Dot.ensures ∙ sym c.in-Dot.is in
    IfOk-weaker c.field_of.result _ _ (λ f given. given ∙ ap (λ (x : Expr). settled c.args.site.at (flatten env c.args.site.at x m)) same) c.field_of.ensures

pub indexed-returns : goal.indexed-returns
indexed-returns t c =
    at_index (env_of c.args.site) c.args.site.at (made_of c.args.made.now) (Index c.args.base.now c.args.index.now) c.args.base.now c.args.base.now c.args.index.now c.args.index.now _ (made_of c.base_slot.new.made) _ _ _
    refl refl refl c.in_ok-to.ensures.base c.in_ok-to.ensures.made c.in_ok-found.ensures c.in_ok-index_value.ensures

pub pointed-returns : goal.pointed-returns
pointed-returns t c =
    at_arrow (env_of c.args.site) c.args.site.at (made_of c.args.made.now) (Arrow c.args.base.now c.args.field.now) c.args.base.now c.args.base.now c.args.base.now c.args.field.now (seen c.type_of.result) (seen c.element-element.result) _ _ _
    refl refl refl c.type_of.ensures c.element-element.ensures c.in_ok-number.ensures c.in_ok-to.ensures.base c.in_ok-to.ensures.made

pub field_of-returns : goal.field_of-returns
field_of-returns t c =
    at_dot (env_of c.args.site) c.args.site.at (made_of c.args.made.now) (Dot c.args.part.now c.args.field.now) c.args.part.now c.args.part.now c.args.part.now c.args.field.now (seen c.type_of.result) c.in_ok-number.number _ _
    refl refl refl c.type_of.ensures c.in_ok-number.ensures c.in_ok-found.ensures (c.dotted.ensures (made_of c.flatten.new.made))

pub flatten-returns-in_ok-to-in-Deref : goal.flatten-returns-in_ok-to-in-Deref
flatten-returns-in_ok-to-in-Deref t c =
    at_deref (env_of c.args.site) c.args.site.at (made_of c.args.made.now) c.args.expr.now c.in-Deref.base c.get-in-Deref.result.now _ _ c.in-Deref.is c.get-in-Deref.ensures c.in_ok-to-in-Deref.ensures.base c.in_ok-to-in-Deref.ensures.made

pub flatten-returns-in_ok-given-in-Call : goal.flatten-returns-in_ok-given-in-Call
flatten-returns-in_ok-given-in-Call t c =
    at_call (env_of c.args.site) c.args.site.at (made_of c.args.made.now) c.args.expr.now c.in-Call.name c.in-Call.args c.as_slice.result.now c.params_of-params.result.now c.in_ok-number-in-Call.number c.in_ok-given-in-Call.given _
    c.in-Call.is c.as_slice.ensures c.params_of-params.ensures c.in_ok-number-in-Call.ensures c.in_ok-given-in-Call.ensures

pub flatten-returns-in_ok-count-in-Calloc : goal.flatten-returns-in_ok-count-in-Calloc
flatten-returns-in_ok-count-in-Calloc t c =
    at_calloc (env_of c.args.site) c.args.site.at (made_of c.args.made.now) c.args.expr.now c.in-Calloc.count c.get-in-Calloc.result.now c.in-Calloc.ctype c.in_ok-element-in-Calloc.element c.in_ok-count-in-Calloc.count _
    c.in-Calloc.is c.get-in-Calloc.ensures c.in_ok-element-in-Calloc.ensures c.in_ok-count-in-Calloc.ensures

pub flat_operand-returns : goal.flat_operand-returns
flat_operand-returns t c =
    let env = env_of c.args.site in
    let type = type_of env c.args.expr.now in
    IfOk-weaker c.operand.result _ _
    (λ v given. given ∙ ap (operand c.args.pure c.args.site.at type) c.in_ok-found.ensures ∙ operand_settled c.args.pure c.args.site.at type (flatten env c.args.site.at c.args.expr.now (made_of c.args.made.now))) c.operand.ensures

pub argument-returns-then-is_null : goal.argument-returns-then-is_null
argument-returns-then-is_null t c = null_given (env_of c.args.site) c.args.site.at c.args.params.now c.args.arg.now (made_of c.args.made.now) _ _ c.first_type.ensures c.is_null.ensures c.if-is_null.true

pub argument-returns : goal.argument-returns
argument-returns t c =
    IfOk-weaker c.flat_operand.result _ _
    (λ v given. other_given (env_of c.args.site) c.args.site.at c.args.params.now c.args.arg.now (made_of c.args.made.now) (made_of c.flat_operand.new.made) v _ _ c.first_type.ensures c.is_null.ensures c.if-is_null.false given)
    c.flat_operand.ensures

pub arguments-loop-arg-init : goal.arguments-loop-arg-init
arguments-loop-arg-init t c =
    ap (λ (vs : List PExpr). joined vs (arguments (env_of c.args.site) c.args.site.at c.args.params.now c.args.args.now (made_of c.args.made.now))) c.new-given.ensures

pub arguments-loop-arg-preserved : goal.arguments-loop-arg-preserved
arguments-loop-arg-preserved t c =
    let env = env_of c.args.site in
    let at = c.args.site.at in
    let rest = drop (c.loop-arg.arg-index + 1) c.args.args.now in
    let m = made_of c.argument.new.made in
    ap (λ (vs : List PExpr). joined vs (arguments env at c.other_params-params.result.now rest m)) c.in_ok-push.ensures.ok
    ∙ ap (λ (ps : List Param). joined (c.loop-arg.given ++ c.in_ok-argument.field-0 ∷ []) (arguments env at ps rest m)) c.other_params-params.ensures
    ∙ argument_more env at c.loop-arg.given c.loop-arg.params.now c.args.args.now c.loop-arg.arg-index c.arg-item.result (made_of c.loop-arg.made) m c.in_ok-argument.field-0 _ (omega arith) c.arg-item.is c.loop-arg.invariant c.in_ok-argument.ensures

pub arguments-returns : goal.arguments-returns
arguments-returns t c = arguments_end (env_of c.args.site) c.args.site.at c.loop-arg.given c.loop-arg.params.now c.args.args.now c.loop-arg.arg-index (made_of c.loop-arg.made) _ (omega arith) c.loop-arg.invariant

pub combined-returns-then-stops : goal.combined-returns-then-stops
combined-returns-then-stops t c =
    IfOk-weaker c.stopping.result _ _
    (λ f given. at_stop (env_of c.args.site) c.args.site.at (made_of c.args.made.now) c.args.op c.args.left.now c.args.right.now c.are_pure-pure.result c.stops.result _ c.are_pure-pure.ensures c.stops.ensures c.if-stops.true given)
    c.stopping.ensures

pub combined-returns : goal.combined-returns
combined-returns t c =
    at_both (env_of c.args.site) c.args.site.at (made_of c.args.made.now) c.args.op c.args.left.now c.args.right.now c.are_pure-pure.result c.stops.result (made_of c.flat_operand.new.made) _ c.in_ok-first.first c.in_ok-second.second _
    c.are_pure-pure.ensures c.stops.ensures c.if-stops.false c.in_ok-first.ensures c.in_ok-second.ensures c.in_ok-value.ensures

pub base_slot-returns-clause-base : goal.base_slot-returns-clause-base
base_slot-returns-clause-base t c = c.slot_in.ensures ∙ ap (λ (v : Valued). slot_in v.value) c.in_ok-value.ensures

pub base_slot-returns-clause-made : goal.base_slot-returns-clause-made
base_slot-returns-clause-made t c = ap (λ (v : Valued). v.made) c.in_ok-value.ensures

pub stopping-returns : goal.stopping-returns
stopping-returns t c =
    let env = env_of c.args.site in
    at_stopping c.args.site.at c.args.op (operand_of true env c.args.site.at c.args.left.now) (operand_of true env c.args.site.at c.args.right.now) (made_of c.args.made.now)
    (made_of c.add_slot.new.self) (made_of c.stand.new.self) (made_of c.flat_operand.new.made) (made_of c.begin-outer.new.self) (made_of c.flat_operand-2.new.made) (made_of c.stand-2.new.self) (made_of c.end-inner.new.self) (made_of c.stand-3.new.self)
    c.in_ok-to.to c.int_type.result c.at_first.result c.in_ok-first.first c.in_ok-second.second c.in_ok-asked.asked c.begin-outer.result c.end-inner.result c.if_needed.result
    c.in_ok-to.ensures.number c.int_type.ensures c.in_ok-to.ensures.made c.at_first.ensures c.in_ok-stand.ensures c.in_ok-first.ensures c.begin-outer.ensures.outer c.begin-outer.ensures.made
    c.in_ok-second.ensures c.in_ok-asked.ensures c.in_ok-stand-2.ensures c.end-inner.ensures.inner c.end-inner.ensures.made c.if_needed.ensures c.in_ok-stand-3.ensures
