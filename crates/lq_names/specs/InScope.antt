-- How many variables are in scope at once in a program (docs/LANGUAGE.md, "Scope"; docs/COMMANDS.md, "Limits").
use Rattle.std.specs.Prelude.{ℕ, max, List, [], ◌∷◌, length, fold, Bool}
use Rattle.std.specs.List.{flat_map}
use Rattle.lq_tree.specs.declared.stmt.StmtKind.{StmtKind, Foreach'}
use Rattle.lq_tree.specs.declared.program.Program.{Program}
use Rattle.lq_tree.specs.declared.program.Func.{Func}
use Rattle.lq_names.specs.Scopes.{Site}
use Rattle.lq_names.specs.Sites.{Placed, after, iteration, sites_list}
use Rattle.lq_names.specs.Headers.{body_site}

-- the site in the block of a `foreach`, where its index is in scope; of any other statement where it stands
abbrev pub inside : Site → StmtKind → Site
inside s (Foreach' index low high step p body) = iteration s index
inside s _ = s

-- the sites of a statement: where it stands, behind it, and in its block
abbrev pub around : Placed → List Site
around p = p.site ∷ after p.site p.kind ∷ inside p.site p.kind ∷ []

-- the sites of a function: where its body begins, and those of its statements at any depth
abbrev pub function_sites : Program → (prints allocates : List ℕ → Bool) → Func → List Site
function_sites p prints allocates f =
    let start = body_site p prints allocates f in
    start ∷ flat_map around (sites_list start f.body)

-- the sites of all functions
abbrev pub program_sites : Program → (prints allocates : List ℕ → Bool) → List Site
program_sites p prints allocates = flat_map (function_sites p prints allocates) p.funcs

-- the most variables that are in scope at one of these sites, or 0 where there is none
abbrev pub most_in_scope : List Site → ℕ
most_in_scope sites = fold (λ (most : ℕ) (s : Site). max most (length s.scope)) 0 sites
