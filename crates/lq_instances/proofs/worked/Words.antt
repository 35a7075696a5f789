-- Short words for qualifiers and rows.
use Prim.Native.String.{String}
use Rattle.std.specs.Prelude.{List, ℤ, codes}
use Rattle.lq_text.specs.declared.atom.Subject.{Subject}
use Rattle.lq_text.specs.declared.atom.Subject.TheVariants.{Field, Local, Placeholder}
use Rattle.lq_text.specs.declared.atom.Atom.{Atom}
use Rattle.lq_linear.specs.Terms.{Term}
use Rattle.lq_linear.specs.Row.{Inequality}
use Rattle.lq_quals.specs.declared.qualifier.Qualifier.{Qualifier}
use Rattle.lq_quals.specs.declared.quals.Quals.{Quals}

-- what atoms speak of
abbrev pub local : String → Subject
local name = Local (codes name)

abbrev pub field : String → Subject
field name = Field (codes name)

abbrev pub any : String → Subject
any name = Placeholder (codes name)

-- rows and qualifiers
abbrev pub row : List Term → ℤ → Inequality
row terms most = record { terms = terms; most = most }

abbrev pub qualifiers : List Atom → List Qualifier → Quals
qualifiers atoms list = record { atoms = atoms; list = list }
