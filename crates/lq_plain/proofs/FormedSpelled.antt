-- The plain form of a source that lexemes spell is formed, where it keeps its counts and breaks no name rule.
use Rattle.std.proofs.Common.{◌≡◌, true, List, [], ◌∷◌, None}
use Rattle.std.specs.List.{AllByRecursion}
use Rattle.lq_tree.specs.declared.program.Func.{Func}
use Rattle.lq_tree.specs.declared.program.Program.{Program}
use Rattle.lq_tree.specs.declared.stmt.Stmt.{Stmt}
use Rattle.lq_tree.specs.Formed.{IsFormed}
use Rattle.lq_tree.specs.Walk.{statements}
use Rattle.lq_names.specs.declared.fault.Fault.{Fault}
use Rattle.lq_names.specs.Broken.{IsBroken}
use Rattle.lq_names.specs.Counts.{first_passed, counts}
use Rattle.lq_parser.specs.declared.lexeme.Lexeme.{Lexeme}
use Rattle.lq_parser.specs.Programs.{IsProgram}
use Rattle.lq_plain.specs.Plain.{plain_program}
use Rattle.lq_plain.proofs.SpelledStores.{is_pair, Passes, funcs_pass, stores_to_places, structs_some}
use Rattle.lq_plain.proofs.FormedPrograms.{BodyPairs, IsLight, KeepsScopes, EachFunction, formed_where}

pairs_alone : (ss : List Stmt) → AllByRecursion (λ (s : Stmt). Passes s.kind) ss → AllByRecursion (λ (s : Stmt). is_pair s.kind ≡ true) ss
pairs_alone [] pass = tt
pairs_alone (s ∷ ss) pass = ((pass.0).1, pairs_alone ss pass.1)

all_pairs : (funcs : List Func) → AllByRecursion (λ (f : Func). AllByRecursion (λ (s : Stmt). Passes s.kind) (statements f.body)) funcs → AllByRecursion BodyPairs funcs
all_pairs [] pass = tt
all_pairs (f ∷ funcs) pass = (pairs_alone (statements f.body) pass.0, all_pairs funcs pass.1)

-- but for the weight and the scopes of its functions
pub formed_where_spelled : {ls : List Lexeme} {p : Program} → IsProgram ls p → first_passed (counts p) ≡ None → ((fault : Fault) → IsBroken p fault → ⊥) → EachFunction p IsLight → EachFunction p KeepsScopes → IsFormed (plain_program p)
formed_where_spelled {p = p} spelled counted named light scopes = formed_where p counted named (stores_to_places spelled) (structs_some spelled) (all_pairs p.funcs (funcs_pass spelled)) light scopes
