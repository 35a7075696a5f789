-- What the run of the plain form of a source tells.
use Rattle.std.proofs.Common.{◌≡◌, ◌≢◌, ℕ, ◌≤◌, ℤ, List, length, None, sym, subst}
use Rattle.lq_tree.specs.declared.limit.Quantity.TheVariants.{SourceBytes}
use Rattle.lq_tree.specs.declared.plain.PProgram.{PProgram}
use Rattle.lq_tree.specs.declared.program.Program.{Program}
use Rattle.lq_tree.specs.Formed.{IsFormed}
use Rattle.lq_tree.specs.Limit.{row_of}
use Rattle.lq_shelf.specs.Faults.{Rose}
use Rattle.lq_shelf.specs.Sink.{Appends, AppendsPrefix}
use Rattle.lq_shelf.specs.Shelf.{Holding}
use Rattle.lq_lexer.specs.declared.token.Token.{Token}
use Rattle.lq_lexer.specs.Tokens.{Tokens}
use Rattle.lq_lexer.specs.Shape.{IsShapely}
use Rattle.lq_parser.specs.Spelling.{Spells}
use Rattle.lq_names.specs.declared.fault.Fault.{Fault}
use Rattle.lq_names.specs.Broken.{IsBroken}
use Rattle.lq_names.specs.Counts.{counts, first_passed}
use Rattle.lq_plain.specs.Plain.{plain_program}
use Rattle.lq_plain.specs.Places.{StoresToPlaces}
use Rattle.lq_meaning.specs.declared.end.End.{End}
use Rattle.lq_meaning.specs.End.{Tells, IsOfRun, IsSinkFault}
use Rattle.lq_meaning.specs.Ending.{Unruled, Outcome}
use Rattle.lq_meaning.specs.Meaning.{sequential}
use Rattle.lq_meaning.specs.PlainMeaning.{sequential as plain_sequential}
use Rattle.lq_meaning.specs.Printed.{number_lines}
use Rattle.lq_cli.specs.declared.commands.seq.Files.{Files}
use Rattle.lq_cli.specs.declared.text.Source.{Source}
use Rattle.lq_cli.specs.Ends.{Ends, RunOf}
use Rattle.lq_cli.specs.Readers.{IsRead, IsTree, AreFiles}
use Rattle.lq_cli.specs.Seen.{SinkState, Seen}
use Rattle.lq_cli.specs.Text.{IsSource}
use Rattle.lq_cli.specs.commands.Seq.{Seq, SeqAnswers, ran}

-- what the laws of the plain form say
module _
    (formed : (text : List ℕ) (tokens : List Token) (p : Program) → Tokens text tokens → length text ≤ (row_of SourceBytes).allowed → IsShapely text tokens → Spells text tokens p
    → first_passed (counts p) ≡ None → ((fault : Fault) → IsBroken p fault → ⊥) → IsFormed (plain_program p))
    (tree : Program) (is : IsTree tree) (p : PProgram) (plain : p ≡ plain_program tree) where
  -- the plain form of the tree of a source is formed
  pub is_formed : IsFormed p
  is_formed =
      let has = is.reads.has in
      subst IsFormed (sym plain) (formed is.text has.tokens tree has.shaped.tokens_are is.within has.shaped.shape has.spelled is.reads.counted is.reads.named)

module _
    (places : (text : List ℕ) (tokens : List Token) (p : Program) → Spells text tokens p → StoresToPlaces p)
    (tree : Program) (is : IsTree tree) (fuel words : ℕ) (input : List ℤ) where
  -- it does what the source does
  pub same_run : ((p : Program) → ((fault : Fault) → IsBroken p fault → ⊥) → StoresToPlaces p → (fuel words : ℕ) (input : List ℤ)
      → plain_sequential fuel words (plain_program p) input ≡ sequential fuel words p input) →
      (p : PProgram) → p ≡ plain_program tree → plain_sequential fuel words p input ≡ sequential fuel words tree input
  same_run stays p plain =
      subst (λ (q : PProgram). plain_sequential fuel words q input ≡ sequential fuel words tree input) (sym plain)
      (stays tree is.reads.named (places is.text is.reads.has.tokens tree is.reads.has.spelled) fuel words input)

  -- and that has a rule
  pub is_ruled : ((p : Program) → ((fault : Fault) → IsBroken p fault → ⊥) → StoresToPlaces p → (fuel words : ℕ) (input : List ℤ)
      → (sequential fuel words p input).ending ≢ Unruled) → (sequential fuel words tree input).ending ≢ Unruled
  is_ruled rules = rules tree is.reads.named (places is.text is.reads.has.tokens tree is.reads.has.spelled) fuel words input

-- a run with an outcome is one with each that is equal
pub run_of : (end : End) (a o : Outcome) (old new : SinkState) → a ≡ o → o.ending ≢ Unruled → Tells end a →
    (IsOfRun end → Appends old.written new.written (number_lines a.world.printed)) → AppendsPrefix old.written new.written (number_lines a.world.printed) →
    (IsSinkFault end → Rose old.faults new.faults) → ((IsSinkFault end → ⊥) → new.faults ≡ old.faults) → RunOf end o old new
run_of end a o old new same ruled tells all prefix failed other =
    record {
      ruled = ruled;
      tells = subst (λ (o : Outcome). Tells end o) same tells;
      all = subst (λ (o : Outcome). IsOfRun end → Appends old.written new.written (number_lines o.world.printed)) same all;
      prefix = subst (λ (o : Outcome). AppendsPrefix old.written new.written (number_lines o.world.printed)) same prefix;
      sink_fault = failed;
      no_sink_fault = other;
    }

-- the tree that was read is that of a source
pub tree_of : (held : List ℕ → Holding) (name : List ℕ) (source : Source) → IsRead held name source → IsTree source.tree
tree_of held name source r = record { text = source.text.items; within = r.file.within; reads = r.reads }

-- and it is that of the source of this name
abbrev pub source_of : (held : List ℕ → Holding) (name : List ℕ) (source : Source) → IsRead held name source → IsSource held name source.tree
source_of held name source r = record { text = source.text.items; file = r.file; reads = r.reads }

-- the end of the run of the files is an answer
pub files_answer : (c : Seq) (s : Seen) (files : Files) → AreFiles s.held c files → (status : ℕ) (bytes : List ℕ) →
    Ends (sequential c.fuel c.words files.source.tree files.input.items) status bytes → SeqAnswers c s status bytes
files_answer c s files f status bytes ends =
    ran files.source.tree files.input.items (source_of s.held c.source files.source f.source) f.input ends
