-- The types of expressions at their sites (docs/LANGUAGE.md, "Types").
use Rattle.lq_tree.specs.declared.expr.Expr.{Expr}
use Rattle.lq_tree.specs.Types.{expression_type}
use Rattle.lq_names.specs.Scopes.{Site, Ty}
pub use Rattle.lq_tree.specs.Seen.{seen}
pub use Rattle.lq_tree.specs.Types.{is_number, is_pointer, value, behind, element_of, type_of_field, dotted, sum_of, combined, result_of, called, is_known, allocated}

-- the type of an expression at a site
abbrev pub type_of : Site → Expr → Ty
type_of s e = expression_type s.program s.scope e
