use Rattle.std.proofs.Common.{◌≡◌, map, drop}
use Rattle.std.specs.Map.{lookup}
use Rattle.std.specs.Str.{bytes_eq}
use Rattle.lq_parser.proofs.source.entry_of.Given as goal

-- what is left of the table has for the text what the table has
abbrev pub invariant-loop-entry : goal.invariant-loop-entry
invariant-loop-entry g l = lookup (bytes_eq l.text) (map (λ entry. (entry.0.now, entry.1)) (drop l.entry-index l.table)) ≡ lookup (bytes_eq l.text) (map (λ entry. (entry.0.now, entry.1)) l.table)
