-- The answers that a line tells (docs/COMMANDS.md, "Statuses").
use Rattle.std.specs.Prelude.{◌≡◌, ◌⊎◌, ℕ, List, ◌++◌, codes, decimal}
use Rattle.lq_tree.specs.Place.{place_text}
use Rattle.lq_shelf.specs.declared.sink.Put.{Put}
use Rattle.lq_shelf.specs.declared.sink.Put.TheVariants.{Failed, NoMemory}
use Rattle.lq_cli.specs.declared.answer.Answer.{Answer}
use Rattle.lq_cli.specs.declared.answer.Answer.TheVariants.{BadWords, ReadFault, Limit, Lexical, Annotation, Syntax, Names, BadLine, Trap, Stray, Race, Fuel}
use Rattle.lq_cli.specs.Lines.{line, trap, stray, race, read_fault, limit}
use Rattle.lq_cli.specs.Numbers.{bad_line_of}

-- the status of an answer
abbrev pub status_of : Answer → ℕ
status_of BadWords = 12
status_of (ReadFault name) = 9
status_of (Limit l) = 7
status_of (Lexical at) = 3
status_of (Annotation at) = 4
status_of (Syntax at) = 3
status_of (Names rule at) = 4
status_of (BadLine kind number) = 6
status_of (Trap kind at) = 1
status_of (Stray at) = 13
status_of (Race i j first second) = 14
status_of Fuel = 8

-- its line
abbrev pub line_of : Answer → List ℕ
line_of BadWords = line (codes "bad words")
line_of (ReadFault name) = read_fault name.now
line_of (Limit l) = limit l
line_of (Lexical at) = line (codes "lexical fault at " ++ place_text at)
line_of (Annotation at) = line (codes "annotation at " ++ place_text at)
line_of (Syntax at) = line (codes "syntax fault near " ++ place_text at)
line_of (Names rule at) = line (codes "names N" ++ decimal rule ++ codes " at " ++ place_text at)
line_of (BadLine kind number) = bad_line_of kind number
line_of (Trap kind at) = trap (record { kind = kind; at = at })
line_of (Stray at) = stray at
line_of (Race i j first second) = race i j first second
line_of Fuel = line (codes "out of fuel")

-- the status where a put gives up
abbrev pub lost_of : Put → ℕ
lost_of Failed = 10
lost_of NoMemory = 11

-- the sink failed, or memory ran out
abbrev pub IsLost : ℕ → Type 0
IsLost status = (status ≡ 10) ⊎ (status ≡ 11)

-- the one answer that tells this line
abbrev pub LineAnswers : Answer → ℕ → List ℕ → Type 0
LineAnswers answer status bytes = (status ≡ status_of answer) × (bytes ≡ line_of answer)
