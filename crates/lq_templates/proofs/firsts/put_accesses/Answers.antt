use Rattle.std.proofs.Common.{List, length, arith, sym, ap, ◌∙◌}
use Rattle.std.specs.Option.{option_copied}
use Rattle.lq_tree.specs.declared.program.StructDef.{StructDef}
use Rattle.lq_tree.specs.Lookup.{struct_of}
use Rattle.lq_templates.proofs.FirstLemmas.{few_fields}
use Rattle.lq_templates.proofs.firsts.put_accesses.Goals as goal

pub put_fields-requires : goal.put_fields-requires
put_fields-requires c =
    let found = ap (λ (ss : List StructDef). struct_of ss c.in-Struct.name) (sym c.as_slice.ensures) ∙ sym c.struct_among.ensures ∙ ap option_copied c.in-Some.is in
    let few = few_fields c.args.program.now c.in-Struct.name c.in-Some.item.now c.requires found in
    let same = c.as_slice-in-Some.ensures in omega (arith, few, ap length same)
