-- What a rule answers where a part of it is not read.
use Rattle.std.specs.Prelude.{Option, List}
use Rattle.lq_tree.specs.declared.place.Place.{Place}
use Rattle.lq_parser.specs.declared.lexeme.Lexeme.{Lexeme}
use Rattle.lq_parser.specs.declared.stop.Stop.{Stop}
use Rattle.lq_parser.specs.declared.stop.Stop.TheVariants.{Syntax, NoMemory}
use Rattle.lq_parser.specs.Outcome.{Fails, Stops, StopsFor, StopsForName, Lacks, LacksName}

-- one lexeme that has to come
pub missing : {A : Type 0} {X : List Lexeme → A → Type 0} {F : Option Lexeme → Type 0} {make : Place → Lexeme} {all ls : List Lexeme}
    → (stop : Stop) → StopsFor make ls stop → (Lacks make ls → Fails X F all ls) → Stops X F all stop
missing {X = X} {F = F} {all = all} (Syntax rest) s fails = rw s.0 (fails s.1)
missing NoMemory s fails = absurd s

-- a name that has to come
pub missing_name : {A : Type 0} {X : List Lexeme → A → Type 0} {F : Option Lexeme → Type 0} {all ls : List Lexeme}
    → (stop : Stop) → StopsForName ls stop → (LacksName ls → Fails X F all ls) → Stops X F all stop
missing_name {X = X} {F = F} {all = all} (Syntax rest) s fails = rw s.0 (fails s.1)
missing_name NoMemory s fails = absurd s

-- a part that stops
pub passes : {A B : Type 0} {Y : List Lexeme → B → Type 0} {G : Option Lexeme → Type 0} {X : List Lexeme → A → Type 0} {F : Option Lexeme → Type 0} {all ls : List Lexeme}
    → (stop : Stop) → Stops Y G ls stop → ((end : List Lexeme) → Fails Y G ls end → Fails X F all end) → Stops X F all stop
passes (Syntax rest) s fails = fails _ s
passes NoMemory s fails = tt
