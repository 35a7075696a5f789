-- The source of a command: the tree that its text reads as, and the answers where there is none
-- (docs/COMMANDS.md, "The source").
use Rattle.std.specs.Prelude.{◌≡◌, ℕ, ◌<◌, ◌≤◌, None, Some, List, ◌++◌, codes, decimal}
use Rattle.lq_tree.specs.declared.program.Program.{Program}
use Rattle.lq_tree.specs.declared.limit.Limit.{Limit}
use Rattle.lq_tree.specs.declared.limit.Quantity.TheVariants.{SourceBytes, Brackets, Stretch}
use Rattle.lq_tree.specs.Limit.{passed}
use Rattle.lq_tree.specs.Place.{place_text}
use Rattle.lq_shelf.specs.Shelf.{Holding}
use Rattle.lq_lexer.specs.declared.token.Token.{Token}
use Rattle.lq_lexer.specs.Tokens.{Tokens}
use Rattle.lq_lexer.specs.Faults.{IsFirstFault}
use Rattle.lq_lexer.specs.Shape.{texts_of, most_open, longest_stretch, IsShapely}
use Rattle.lq_parser.specs.Source.{place_at}
use Rattle.lq_parser.specs.Spelling.{Spells, HasNoAnnotation, IsFirstAnnotation, IsFaultPlace}
use Rattle.lq_names.specs.declared.fault.Fault.{Fault}
use Rattle.lq_names.specs.Counts.{counts, first_passed}
use Rattle.lq_names.specs.Broken.{IsBroken, IsLeastBroken}
use Rattle.lq_cli.specs.Lines.{most, line, limit}
use Rattle.lq_cli.specs.Seen.{Seen}
use Rattle.lq_cli.specs.Files.{IsFile, FileAnswers}

-- the tokens of a text, which keep the limits of their shape
pub record Shaped (text : List ℕ) (tokens : List Token) : Type 0 where
  pub tokens_are : Tokens text tokens
  pub shape : IsShapely text tokens

-- the tree that a text spells
pub record HasTree (text : List ℕ) (tree : Program) : Type 0 where
  pub tokens : List Token
  pub shaped : Shaped text tokens
  pub spelled : Spells text tokens tree

-- a tree whose counts keep their limits
abbrev pub IsCounted : Program → Type 0
IsCounted tree = first_passed (counts tree) ≡ None

-- a tree that keeps all name rules
abbrev pub IsNamed : Program → Type 0
IsNamed tree = (fault : Fault) → IsBroken tree fault → ⊥

-- the tree that a text spells, where it keeps the limits of counts and the name rules
pub record Reads (text : List ℕ) (tree : Program) : Type 0 where
  pub has : HasTree text tree
  pub counted : IsCounted tree
  pub named : IsNamed tree

-- the source of this name reads as this tree
pub record IsSource (held : List ℕ → Holding) (name : List ℕ) (tree : Program) : Type 0 where
  pub text : List ℕ
  pub file : IsFile held SourceBytes name text
  pub reads : Reads text tree

-- the answers where there is no such source
pub data SourceAnswers (name : List ℕ) (s : Seen) : ℕ → List ℕ → Type 0 where
  -- there is no such file
  file : {status : ℕ} {bytes : List ℕ} → FileAnswers SourceBytes name s status bytes → SourceAnswers name s status bytes
  -- it has no tokens
  lexical : (text : List ℕ) (at : ℕ) → IsFile s.held SourceBytes name text → IsFirstFault text at →
      SourceAnswers name s 3 (line (codes "lexical fault at " ++ place_text (place_at text at)))
  -- more brackets are open at once
  brackets : (text : List ℕ) (tokens : List Token) → IsFile s.held SourceBytes name text → Tokens text tokens → most Brackets < most_open (texts_of text tokens) →
      SourceAnswers name s 7 (limit (passed Brackets (most_open (texts_of text tokens))))
  -- a stretch is longer
  stretch : (text : List ℕ) (tokens : List Token) → IsFile s.held SourceBytes name text → Tokens text tokens → most_open (texts_of text tokens) ≤ most Brackets →
      most Stretch < longest_stretch (texts_of text tokens) → SourceAnswers name s 7 (limit (passed Stretch (longest_stretch (texts_of text tokens))))
  -- a word of an annotation is a token
  annotation : (text : List ℕ) (tokens : List Token) (at : ℕ) → IsFile s.held SourceBytes name text → Shaped text tokens → IsFirstAnnotation tokens at →
      SourceAnswers name s 4 (line (codes "annotation at " ++ place_text (place_at text at)))
  -- the tokens spell no tree
  syntax : (text : List ℕ) (tokens : List Token) (at : ℕ) → IsFile s.held SourceBytes name text → Shaped text tokens → HasNoAnnotation tokens →
      IsFaultPlace text tokens at → SourceAnswers name s 3 (line (codes "syntax fault near " ++ place_text (place_at text at)))
  -- a count of the tree passes its limit
  count : (text : List ℕ) (tree : Program) (l : Limit) → IsFile s.held SourceBytes name text → HasTree text tree → first_passed (counts tree) ≡ Some l →
      SourceAnswers name s 7 (limit l)
  -- a name rule is broken
  names : (text : List ℕ) (tree : Program) (fault : Fault) → IsFile s.held SourceBytes name text → HasTree text tree → IsCounted tree → IsLeastBroken tree fault →
      SourceAnswers name s 4 (line (codes "names N" ++ decimal fault.rule ++ codes " at " ++ place_text fault.at))
