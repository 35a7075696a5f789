-- What the first variables of classes say: the record of each class, and the accesses that there may be to it.
use Rattle.std.specs.Prelude.{◌+◌, List, ◌++◌, length}
use Rattle.lq_tree.specs.declared.plain.PProgram.{PProgram}
use Rattle.lq_templates.specs.declared.firsts.Firsts.{Firsts}
use Rattle.lq_templates.specs.Accesses.{class_accesses}
use Rattle.lq_templates.specs.Classes.{ClassOf, Variable, first_variables}
use Rattle.lq_templates.specs.Templates.{record_templates}

-- these are the first variables of the next classes
abbrev pub with_firsts : PProgram → List Variable → Firsts → Firsts
with_firsts p firsts s =
    record { next = length firsts + s.next; records = s.records ++ record_templates p s.next firsts; accesses = s.accesses ++ class_accesses p s.next firsts }

-- among these are those of the next classes
abbrev pub gathered : PProgram → ClassOf → List Variable → Firsts → Firsts
gathered p class_of variables s = with_firsts p (first_variables class_of s.next variables) s
