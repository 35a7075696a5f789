-- Files that are no right proof of one-store.c, and their first bad entries.
use Rattle.std.proofs.Common.{[], ◌∷◌, ◌++◌, refl}
use Rattle.std.specs.Prelude.{pos, negsuc, codes, replicate}
use Rattle.lq_text.specs.declared.atom.Atom.TheVariants.{Element}
use Rattle.std.specs.Fmt.{digits}
use Rattle.lq_cert.specs.Numeral.{numeral}
use Rattle.lq_cert.specs.declared.line.Line.TheVariants.{End}
use Rattle.lq_verdict.specs.Audit.{IsFirstBadFor}
use Rattle.lq_verdict.proofs.worked.Files.{file, first, second, row, cond, exact, goal, void, field, local, wrong_line, past_end, no_line_feed, too_early, unread, no_keyword, no_version}
use Rattle.lq_verdict.proofs.worked.OneStoreProofs.{one_store_asked}

-- a fact that doesn't give the goal
wrong-fact : IsFirstBadFor one_store_asked (file ("proof 1" ∷ "cond 1" ∷ "cond 2" ∷ "goal 1 1" ∷ "cond 3" ∷ "goal 1 1 1:2" ∷ "cond 4" ∷ "cond 5" ∷ "end" ∷ [])) 6
unfolding numeral digits
wrong-fact = wrong_line _ _ (first ∷ cond 1 ∷ cond 2 ∷ goal 1 1 [] ∷ cond 3 ∷ []) (goal 1 1 ((1, 2) ∷ [])) refl refl refl

-- a goal is missing, so the next line is out of order
goal-missing : IsFirstBadFor one_store_asked (file ("proof 1" ∷ "cond 1" ∷ "cond 2" ∷ "cond 3" ∷ "goal 1 1 1:3" ∷ "cond 4" ∷ "cond 5" ∷ "end" ∷ [])) 4
unfolding numeral digits
goal-missing = wrong_line _ _ (first ∷ cond 1 ∷ cond 2 ∷ []) (cond 3) refl refl refl

-- the last line feed is missing
last-byte-missing : IsFirstBadFor one_store_asked (file ("proof 1" ∷ "cond 1" ∷ "cond 2" ∷ "goal 1 1" ∷ "cond 3" ∷ "goal 1 1 1:3" ∷ "cond 4" ∷ "cond 5" ∷ []) ++ codes "end") 9
unfolding numeral digits
last-byte-missing = no_line_feed _ _ (first ∷ cond 1 ∷ cond 2 ∷ goal 1 1 [] ∷ cond 3 ∷ goal 1 1 ((1, 3) ∷ []) ∷ cond 4 ∷ cond 5 ∷ []) refl refl refl

-- an empty file
empty : IsFirstBadFor one_store_asked (file []) 1
unfolding numeral digits
empty = too_early _ _ [] refl refl (λ ended. ended)

-- a row makes a goal that has to be shown
row-without-goal : IsFirstBadFor one_store_asked (file ("proof 1" ∷ "row 2 -1 @ <= -1" ∷ "cond 1" ∷ "cond 2" ∷ "goal 1 1" ∷ "cond 3" ∷ "goal 1 1 1:3" ∷ "cond 4" ∷ "cond 5" ∷ "end" ∷ [])) 9
unfolding numeral digits
row-without-goal = wrong_line _ _ (first ∷ row 2 ((negsuc 0, Element) ∷ []) (negsuc 0) ∷ cond 1 ∷ cond 2 ∷ goal 1 1 [] ∷ cond 3 ∷ goal 1 1 ((1, 3) ∷ []) ∷ cond 4 ∷ []) (cond 5) refl refl refl

-- a row that doesn't hold
row-too-strong : IsFirstBadFor one_store_asked (file ("proof 1" ∷ "row 2 -1 @ <= -2" ∷ "cond 1" ∷ "cond 2" ∷ "goal 1 1" ∷ "cond 3" ∷ "goal 1 1 1:3" ∷ "cond 4" ∷ "goal 1 1" ∷ "cond 5" ∷ "end" ∷ [])) 9
unfolding numeral digits
row-too-strong = wrong_line _ _ (first ∷ row 2 ((negsuc 0, Element) ∷ []) (negsuc 1) ∷ cond 1 ∷ cond 2 ∷ goal 1 1 [] ∷ cond 3 ∷ goal 1 1 ((1, 3) ∷ []) ∷ cond 4 ∷ []) (goal 1 1 []) refl refl refl

-- a line after the end
line-after-end : IsFirstBadFor one_store_asked (file ("proof 1" ∷ "cond 1" ∷ "cond 2" ∷ "goal 1 1" ∷ "cond 3" ∷ "goal 1 1 1:3" ∷ "cond 4" ∷ "cond 5" ∷ "end" ∷ "end" ∷ [])) 10
unfolding numeral digits
line-after-end = past_end _ _ (first ∷ cond 1 ∷ cond 2 ∷ goal 1 1 [] ∷ cond 3 ∷ goal 1 1 ((1, 3) ∷ []) ∷ cond 4 ∷ cond 5 ∷ End ∷ []) refl refl tt

-- a row on the records that a store breaks
row-on-record-too-strong : IsFirstBadFor one_store_asked (file ("proof 1" ∷ "row 1 1 .word <= 6" ∷ "cond 1" ∷ "goal 1 1" ∷ "cond 2" ∷ "goal 1 1" ∷ "cond 3" ∷ "goal 1 1 1:3" ∷ "cond 4" ∷ "cond 5" ∷ "goal 1 1" ∷ "end" ∷ [])) 11
unfolding numeral digits
row-on-record-too-strong = wrong_line _ _ (first ∷ row 1 ((pos 1, field "word") ∷ []) (pos 6) ∷ cond 1 ∷ goal 1 1 [] ∷ cond 2 ∷ goal 1 1 [] ∷ cond 3 ∷ goal 1 1 ((1, 3) ∷ []) ∷ cond 4 ∷ cond 5 ∷ []) (goal 1 1 []) refl refl refl

-- a row on the records that a fresh record breaks
row-on-record-not-zero : IsFirstBadFor one_store_asked (file ("proof 1" ∷ "row 1 -1 .word <= -7" ∷ "cond 1" ∷ "goal 1 1" ∷ "cond 2" ∷ "goal 1 1" ∷ "cond 3" ∷ "goal 1 1 1:3" ∷ "cond 4" ∷ "cond 5" ∷ "goal 1 1" ∷ "end" ∷ [])) 4
unfolding numeral digits
row-on-record-not-zero = wrong_line _ _ (first ∷ row 1 ((negsuc 0, field "word") ∷ []) (negsuc 6) ∷ cond 1 ∷ []) (goal 1 1 []) refl refl refl

-- a version that isn't there
version-zero : IsFirstBadFor one_store_asked (file ("proof 0" ∷ "cond 1" ∷ "cond 2" ∷ "goal 1 1" ∷ "cond 3" ∷ "goal 1 1 1:3" ∷ "cond 4" ∷ "cond 5" ∷ "end" ∷ [])) 1
unfolding numeral digits
version-zero = unread _ _ [] refl refl (no_version (codes "proof 0") (codes "0" ∷ []) refl refl)

-- a version that isn't there
version-three : IsFirstBadFor one_store_asked (file ("proof 3" ∷ "cond 1" ∷ "cond 2" ∷ "goal 1 1" ∷ "cond 3" ∷ "goal 1 1 1:3" ∷ "cond 4" ∷ "cond 5" ∷ "end" ∷ [])) 1
unfolding numeral digits
version-three = unread _ _ [] refl refl (no_version (codes "proof 3") (codes "3" ∷ []) refl refl)

-- no version
version-missing : IsFirstBadFor one_store_asked (file ("proof" ∷ "cond 1" ∷ "cond 2" ∷ "goal 1 1" ∷ "cond 3" ∷ "goal 1 1 1:3" ∷ "cond 4" ∷ "cond 5" ∷ "end" ∷ [])) 1
unfolding numeral digits
version-missing = unread _ _ [] refl refl (no_version (codes "proof") [] refl refl)

-- a needless zero
version-zeros : IsFirstBadFor one_store_asked (file ("proof 01" ∷ "cond 1" ∷ "cond 2" ∷ "goal 1 1" ∷ "cond 3" ∷ "goal 1 1 1:3" ∷ "cond 4" ∷ "cond 5" ∷ "end" ∷ [])) 1
unfolding numeral digits
version-zeros = unread _ _ [] refl refl (no_version (codes "proof 01") (codes "01" ∷ []) refl refl)

-- two spaces
two-spaces : IsFirstBadFor one_store_asked (file ("proof  1" ∷ "cond 1" ∷ "cond 2" ∷ "goal 1 1" ∷ "cond 3" ∷ "goal 1 1 1:3" ∷ "cond 4" ∷ "cond 5" ∷ "end" ∷ [])) 1
unfolding numeral digits
two-spaces = unread _ _ [] refl refl (no_version (codes "proof  1") (codes "" ∷ codes "1" ∷ []) refl refl)

-- a space at the end of a line
space-at-end : IsFirstBadFor one_store_asked (file ("proof 1 " ∷ "cond 1" ∷ "cond 2" ∷ "goal 1 1" ∷ "cond 3" ∷ "goal 1 1 1:3" ∷ "cond 4" ∷ "cond 5" ∷ "end" ∷ [])) 1
unfolding numeral digits
space-at-end = unread _ _ [] refl refl (no_version (codes "proof 1 ") (codes "1" ∷ codes "" ∷ []) refl refl)

-- a space at the start of a line
space-at-start : IsFirstBadFor one_store_asked (file (" proof 1" ∷ "cond 1" ∷ "cond 2" ∷ "goal 1 1" ∷ "cond 3" ∷ "goal 1 1 1:3" ∷ "cond 4" ∷ "cond 5" ∷ "end" ∷ [])) 1
unfolding numeral digits
space-at-start = unread _ _ [] refl refl (no_keyword (codes " proof 1") refl)

-- a capital letter
capital : IsFirstBadFor one_store_asked (file ("Proof 1" ∷ "cond 1" ∷ "cond 2" ∷ "goal 1 1" ∷ "cond 3" ∷ "goal 1 1 1:3" ∷ "cond 4" ∷ "cond 5" ∷ "end" ∷ [])) 1
unfolding numeral digits
capital = unread _ _ [] refl refl (no_keyword (codes "Proof 1") refl)

-- a blank line before the first
blank-first : IsFirstBadFor one_store_asked (file ("" ∷ "proof 1" ∷ "cond 1" ∷ "cond 2" ∷ "goal 1 1" ∷ "cond 3" ∷ "goal 1 1 1:3" ∷ "cond 4" ∷ "cond 5" ∷ "end" ∷ [])) 1
unfolding numeral digits
blank-first = unread _ _ [] refl refl (no_keyword (codes "") refl)

-- a comment
comment : IsFirstBadFor one_store_asked (file ("proof 1" ∷ "# cond 1" ∷ "cond 2" ∷ "goal 1 1" ∷ "cond 3" ∷ "goal 1 1 1:3" ∷ "cond 4" ∷ "cond 5" ∷ "end" ∷ [])) 2
unfolding numeral digits
comment = unread _ _ (first ∷ []) refl refl (no_keyword (codes "# cond 1") refl)

-- a blank line
blank-line : IsFirstBadFor one_store_asked (file ("proof 1" ∷ "cond 1" ∷ "cond 2" ∷ "" ∷ "goal 1 1" ∷ "cond 3" ∷ "goal 1 1 1:3" ∷ "cond 4" ∷ "cond 5" ∷ "end" ∷ [])) 4
unfolding numeral digits
blank-line = unread _ _ (first ∷ cond 1 ∷ cond 2 ∷ []) refl refl (no_keyword (codes "") refl)

-- a line of no form
unknown-line : IsFirstBadFor one_store_asked (file ("proof 1" ∷ "condition 1" ∷ "cond 2" ∷ "goal 1 1" ∷ "cond 3" ∷ "goal 1 1 1:3" ∷ "cond 4" ∷ "cond 5" ∷ "end" ∷ [])) 2
unfolding numeral digits
unknown-line = unread _ _ (first ∷ []) refl refl (no_keyword (codes "condition 1") refl)

-- the first line is missing
no-first-line : IsFirstBadFor one_store_asked (file ("cond 1" ∷ "cond 2" ∷ "goal 1 1" ∷ "cond 3" ∷ "goal 1 1 1:3" ∷ "cond 4" ∷ "cond 5" ∷ "end" ∷ [])) 1
unfolding numeral digits
no-first-line = wrong_line _ _ [] (cond 1) refl refl refl

-- a condition is missing
cond-missing : IsFirstBadFor one_store_asked (file ("proof 1" ∷ "cond 2" ∷ "goal 1 1" ∷ "cond 3" ∷ "goal 1 1 1:3" ∷ "cond 4" ∷ "cond 5" ∷ "end" ∷ [])) 2
unfolding numeral digits
cond-missing = wrong_line _ _ (first ∷ []) (cond 2) refl refl refl

-- a condition twice
cond-twice : IsFirstBadFor one_store_asked (file ("proof 1" ∷ "cond 1" ∷ "cond 1" ∷ "cond 2" ∷ "goal 1 1" ∷ "cond 3" ∷ "goal 1 1 1:3" ∷ "cond 4" ∷ "cond 5" ∷ "end" ∷ [])) 3
unfolding numeral digits
cond-twice = wrong_line _ _ (first ∷ cond 1 ∷ []) (cond 1) refl refl refl

-- a condition is skipped
cond-skipped : IsFirstBadFor one_store_asked (file ("proof 1" ∷ "cond 2" ∷ "cond 2" ∷ "goal 1 1" ∷ "cond 3" ∷ "goal 1 1 1:3" ∷ "cond 4" ∷ "cond 5" ∷ "end" ∷ [])) 2
unfolding numeral digits
cond-skipped = wrong_line _ _ (first ∷ []) (cond 2) refl refl refl

-- the last condition is missing
last-cond-missing : IsFirstBadFor one_store_asked (file ("proof 1" ∷ "cond 1" ∷ "cond 2" ∷ "goal 1 1" ∷ "cond 3" ∷ "goal 1 1 1:3" ∷ "cond 4" ∷ "end" ∷ [])) 8
unfolding numeral digits
last-cond-missing = wrong_line _ _ (first ∷ cond 1 ∷ cond 2 ∷ goal 1 1 [] ∷ cond 3 ∷ goal 1 1 ((1, 3) ∷ []) ∷ cond 4 ∷ []) End refl refl refl

-- a condition too much
cond-too-much : IsFirstBadFor one_store_asked (file ("proof 1" ∷ "cond 1" ∷ "cond 2" ∷ "goal 1 1" ∷ "cond 3" ∷ "goal 1 1 1:3" ∷ "cond 4" ∷ "cond 5" ∷ "cond 6" ∷ "end" ∷ [])) 9
unfolding numeral digits
cond-too-much = wrong_line _ _ (first ∷ cond 1 ∷ cond 2 ∷ goal 1 1 [] ∷ cond 3 ∷ goal 1 1 ((1, 3) ∷ []) ∷ cond 4 ∷ cond 5 ∷ []) (cond 6) refl refl refl

-- a goal too much
goal-too-much : IsFirstBadFor one_store_asked (file ("proof 1" ∷ "cond 1" ∷ "cond 2" ∷ "goal 1 1" ∷ "goal 2 1" ∷ "cond 3" ∷ "goal 1 1 1:3" ∷ "cond 4" ∷ "cond 5" ∷ "end" ∷ [])) 5
unfolding numeral digits
goal-too-much = wrong_line _ _ (first ∷ cond 1 ∷ cond 2 ∷ goal 1 1 [] ∷ []) (goal 2 1 []) refl refl refl

-- a goal in a condition without one
goal-in-empty-condition : IsFirstBadFor one_store_asked (file ("proof 1" ∷ "cond 1" ∷ "cond 2" ∷ "goal 1 1" ∷ "cond 3" ∷ "goal 1 1 1:3" ∷ "cond 4" ∷ "goal 1 1" ∷ "cond 5" ∷ "end" ∷ [])) 8
unfolding numeral digits
goal-in-empty-condition = wrong_line _ _ (first ∷ cond 1 ∷ cond 2 ∷ goal 1 1 [] ∷ cond 3 ∷ goal 1 1 ((1, 3) ∷ []) ∷ cond 4 ∷ []) (goal 1 1 []) refl refl refl

-- a goal twice
goal-twice : IsFirstBadFor one_store_asked (file ("proof 1" ∷ "cond 1" ∷ "cond 2" ∷ "goal 1 1" ∷ "goal 1 1" ∷ "cond 3" ∷ "goal 1 1 1:3" ∷ "cond 4" ∷ "cond 5" ∷ "end" ∷ [])) 5
unfolding numeral digits
goal-twice = wrong_line _ _ (first ∷ cond 1 ∷ cond 2 ∷ goal 1 1 [] ∷ []) (goal 1 1 []) refl refl refl

-- a wrong number of a goal
goal-number : IsFirstBadFor one_store_asked (file ("proof 1" ∷ "cond 1" ∷ "cond 2" ∷ "goal 2 1" ∷ "cond 3" ∷ "goal 1 1 1:3" ∷ "cond 4" ∷ "cond 5" ∷ "end" ∷ [])) 4
unfolding numeral digits
goal-number = wrong_line _ _ (first ∷ cond 1 ∷ cond 2 ∷ []) (goal 2 1 []) refl refl refl

-- a multiple that isn't the goal's
multiplier-wrong : IsFirstBadFor one_store_asked (file ("proof 1" ∷ "cond 1" ∷ "cond 2" ∷ "goal 1 1" ∷ "cond 3" ∷ "goal 1 1 2:3" ∷ "cond 4" ∷ "cond 5" ∷ "end" ∷ [])) 6
unfolding numeral digits
multiplier-wrong = wrong_line _ _ (first ∷ cond 1 ∷ cond 2 ∷ goal 1 1 [] ∷ cond 3 ∷ []) (goal 1 1 ((2, 3) ∷ [])) refl refl refl

-- a divisor that doesn't fit
divisor-wrong : IsFirstBadFor one_store_asked (file ("proof 1" ∷ "cond 1" ∷ "cond 2" ∷ "goal 1 1" ∷ "cond 3" ∷ "goal 1 2 1:3" ∷ "cond 4" ∷ "cond 5" ∷ "end" ∷ [])) 6
unfolding numeral digits
divisor-wrong = wrong_line _ _ (first ∷ cond 1 ∷ cond 2 ∷ goal 1 1 [] ∷ cond 3 ∷ []) (goal 1 2 ((1, 3) ∷ [])) refl refl refl

-- a fact behind the last
fact-past-last : IsFirstBadFor one_store_asked (file ("proof 1" ∷ "cond 1" ∷ "cond 2" ∷ "goal 1 1" ∷ "cond 3" ∷ "goal 1 1 1:4" ∷ "cond 4" ∷ "cond 5" ∷ "end" ∷ [])) 6
unfolding numeral digits
fact-past-last = wrong_line _ _ (first ∷ cond 1 ∷ cond 2 ∷ goal 1 1 [] ∷ cond 3 ∷ []) (goal 1 1 ((1, 4) ∷ [])) refl refl refl

-- a fact that is too weak
fact-too-weak : IsFirstBadFor one_store_asked (file ("proof 1" ∷ "cond 1" ∷ "cond 2" ∷ "goal 1 1" ∷ "cond 3" ∷ "goal 1 1 1:1" ∷ "cond 4" ∷ "cond 5" ∷ "end" ∷ [])) 6
unfolding numeral digits
fact-too-weak = wrong_line _ _ (first ∷ cond 1 ∷ cond 2 ∷ goal 1 1 [] ∷ cond 3 ∷ []) (goal 1 1 ((1, 1) ∷ [])) refl refl refl

-- facts out of order
facts-descending : IsFirstBadFor one_store_asked (file ("proof 1" ∷ "cond 1" ∷ "cond 2" ∷ "goal 1 1" ∷ "cond 3" ∷ "goal 1 2 1:3 1:1" ∷ "cond 4" ∷ "cond 5" ∷ "end" ∷ [])) 6
unfolding numeral digits
facts-descending = wrong_line _ _ (first ∷ cond 1 ∷ cond 2 ∷ goal 1 1 [] ∷ cond 3 ∷ []) (goal 1 2 ((1, 3) ∷ (1, 1) ∷ [])) refl refl refl

-- a fact twice
fact-twice : IsFirstBadFor one_store_asked (file ("proof 1" ∷ "cond 1" ∷ "cond 2" ∷ "goal 1 1" ∷ "cond 3" ∷ "goal 1 2 1:3 1:3" ∷ "cond 4" ∷ "cond 5" ∷ "end" ∷ [])) 6
unfolding numeral digits
fact-twice = wrong_line _ _ (first ∷ cond 1 ∷ cond 2 ∷ goal 1 1 [] ∷ cond 3 ∷ []) (goal 1 2 ((1, 3) ∷ (1, 3) ∷ [])) refl refl refl

-- facts too much
needless-facts : IsFirstBadFor one_store_asked (file ("proof 1" ∷ "cond 1" ∷ "cond 2" ∷ "goal 1 1" ∷ "cond 3" ∷ "goal 1 1 1:1 1:2 1:3" ∷ "cond 4" ∷ "cond 5" ∷ "end" ∷ [])) 6
unfolding numeral digits
needless-facts = wrong_line _ _ (first ∷ cond 1 ∷ cond 2 ∷ goal 1 1 [] ∷ cond 3 ∷ []) (goal 1 1 ((1, 1) ∷ (1, 2) ∷ (1, 3) ∷ [])) refl refl refl

-- a goal that isn't there for nothing
no-facts : IsFirstBadFor one_store_asked (file ("proof 1" ∷ "cond 1" ∷ "cond 2" ∷ "goal 1 1" ∷ "cond 3" ∷ "goal 1 1" ∷ "cond 4" ∷ "cond 5" ∷ "end" ∷ [])) 6
unfolding numeral digits
no-facts = wrong_line _ _ (first ∷ cond 1 ∷ cond 2 ∷ goal 1 1 [] ∷ cond 3 ∷ []) (goal 1 1 []) refl refl refl

-- no contradiction
void-without-contradiction : IsFirstBadFor one_store_asked (file ("proof 1" ∷ "cond 1" ∷ "cond 2" ∷ "goal 1 1" ∷ "cond 3" ∷ "void 1 1:2 1:3" ∷ "cond 4" ∷ "cond 5" ∷ "end" ∷ [])) 6
unfolding numeral digits
void-without-contradiction = wrong_line _ _ (first ∷ cond 1 ∷ cond 2 ∷ goal 1 1 [] ∷ cond 3 ∷ []) (void 1 ((1, 2) ∷ (1, 3) ∷ [])) refl refl refl

-- no contradiction of nothing
void-of-nothing : IsFirstBadFor one_store_asked (file ("proof 1" ∷ "cond 1" ∷ "cond 2" ∷ "goal 1 1" ∷ "cond 3" ∷ "void 1" ∷ "cond 4" ∷ "cond 5" ∷ "end" ∷ [])) 6
unfolding numeral digits
void-of-nothing = wrong_line _ _ (first ∷ cond 1 ∷ cond 2 ∷ goal 1 1 [] ∷ cond 3 ∷ []) (void 1 []) refl refl refl

-- no division or remainder is there
exact-without-item : IsFirstBadFor one_store_asked (file ("proof 1" ∷ "cond 1" ∷ "cond 2" ∷ "goal 1 1" ∷ "cond 3" ∷ "exact 1 1 1:1" ∷ "goal 1 1 1:3" ∷ "cond 4" ∷ "cond 5" ∷ "end" ∷ [])) 6
unfolding numeral digits
exact-without-item = wrong_line _ _ (first ∷ cond 1 ∷ cond 2 ∷ goal 1 1 [] ∷ cond 3 ∷ []) (exact 1 1 ((1, 1) ∷ [])) refl refl refl

-- no end
end-missing : IsFirstBadFor one_store_asked (file ("proof 1" ∷ "cond 1" ∷ "cond 2" ∷ "goal 1 1" ∷ "cond 3" ∷ "goal 1 1 1:3" ∷ "cond 4" ∷ "cond 5" ∷ [])) 9
unfolding numeral digits
end-missing = too_early _ _ (first ∷ cond 1 ∷ cond 2 ∷ goal 1 1 [] ∷ cond 3 ∷ goal 1 1 ((1, 3) ∷ []) ∷ cond 4 ∷ cond 5 ∷ []) refl refl (λ ended. ended)

-- a capital letter
end-capital : IsFirstBadFor one_store_asked (file ("proof 1" ∷ "cond 1" ∷ "cond 2" ∷ "goal 1 1" ∷ "cond 3" ∷ "goal 1 1 1:3" ∷ "cond 4" ∷ "cond 5" ∷ "END" ∷ [])) 9
unfolding numeral digits
end-capital = unread _ _ (first ∷ cond 1 ∷ cond 2 ∷ goal 1 1 [] ∷ cond 3 ∷ goal 1 1 ((1, 3) ∷ []) ∷ cond 4 ∷ cond 5 ∷ []) refl refl (no_keyword (codes "END") refl)

-- the end comes too early
end-early : IsFirstBadFor one_store_asked (file ("proof 1" ∷ "cond 1" ∷ "cond 2" ∷ "goal 1 1" ∷ "cond 3" ∷ "goal 1 1 1:3" ∷ "end" ∷ "cond 5" ∷ "end" ∷ [])) 7
unfolding numeral digits
end-early = wrong_line _ _ (first ∷ cond 1 ∷ cond 2 ∷ goal 1 1 [] ∷ cond 3 ∷ goal 1 1 ((1, 3) ∷ []) ∷ []) End refl refl refl

-- a blank line after the end
blank-after-end : IsFirstBadFor one_store_asked (file ("proof 1" ∷ "cond 1" ∷ "cond 2" ∷ "goal 1 1" ∷ "cond 3" ∷ "goal 1 1 1:3" ∷ "cond 4" ∷ "cond 5" ∷ "end" ∷ "" ∷ [])) 10
unfolding numeral digits
blank-after-end = past_end _ _ (first ∷ cond 1 ∷ cond 2 ∷ goal 1 1 [] ∷ cond 3 ∷ goal 1 1 ((1, 3) ∷ []) ∷ cond 4 ∷ cond 5 ∷ End ∷ []) refl refl tt

-- a line after the end
rest-after-end : IsFirstBadFor one_store_asked (file ("proof 1" ∷ "cond 1" ∷ "cond 2" ∷ "goal 1 1" ∷ "cond 3" ∷ "goal 1 1 1:3" ∷ "cond 4" ∷ "cond 5" ∷ "end" ∷ "x" ∷ [])) 10
unfolding numeral digits
rest-after-end = past_end _ _ (first ∷ cond 1 ∷ cond 2 ∷ goal 1 1 [] ∷ cond 3 ∷ goal 1 1 ((1, 3) ∷ []) ∷ cond 4 ∷ cond 5 ∷ End ∷ []) refl refl tt

-- a row behind a condition
row-behind-condition : IsFirstBadFor one_store_asked (file ("proof 1" ∷ "cond 1" ∷ "row 2 1 @ <= 1" ∷ "cond 2" ∷ "goal 1 1" ∷ "cond 3" ∷ "goal 1 1 1:3" ∷ "cond 4" ∷ "cond 5" ∷ "end" ∷ [])) 3
unfolding numeral digits
row-behind-condition = wrong_line _ _ (first ∷ cond 1 ∷ []) (row 2 ((pos 1, Element) ∷ []) (pos 1)) refl refl refl

-- a template that isn't there
row-template-missing : IsFirstBadFor one_store_asked (file ("proof 1" ∷ "row 3 1 @ <= 5" ∷ "cond 1" ∷ "cond 2" ∷ "goal 1 1" ∷ "cond 3" ∷ "goal 1 1 1:3" ∷ "cond 4" ∷ "goal 1 1" ∷ "cond 5" ∷ "end" ∷ [])) 2
unfolding numeral digits
row-template-missing = wrong_line _ _ (first ∷ []) (row 3 ((pos 1, Element) ∷ []) (pos 5)) refl refl refl

-- a name that the template hasn't
row-name-of-other-template : IsFirstBadFor one_store_asked (file ("proof 1" ∷ "row 1 1 @ <= 5" ∷ "cond 1" ∷ "cond 2" ∷ "goal 1 1" ∷ "cond 3" ∷ "goal 1 1 1:3" ∷ "cond 4" ∷ "goal 1 1" ∷ "cond 5" ∷ "end" ∷ [])) 2
unfolding numeral digits
row-name-of-other-template = wrong_line _ _ (first ∷ []) (row 1 ((pos 1, Element) ∷ []) (pos 5)) refl refl refl

-- a name that the template hasn't
row-local : IsFirstBadFor one_store_asked (file ("proof 1" ∷ "row 2 1 x <= 5" ∷ "cond 1" ∷ "cond 2" ∷ "goal 1 1" ∷ "cond 3" ∷ "goal 1 1 1:3" ∷ "cond 4" ∷ "goal 1 1" ∷ "cond 5" ∷ "end" ∷ [])) 2
unfolding numeral digits
row-local = wrong_line _ _ (first ∷ []) (row 2 ((pos 1, local "x") ∷ []) (pos 5)) refl refl refl

-- a name that the template hasn't
row-field-of-effect : IsFirstBadFor one_store_asked (file ("proof 1" ∷ "row 2 1 .word <= 5" ∷ "cond 1" ∷ "cond 2" ∷ "goal 1 1" ∷ "cond 3" ∷ "goal 1 1 1:3" ∷ "cond 4" ∷ "goal 1 1" ∷ "cond 5" ∷ "end" ∷ [])) 2
unfolding numeral digits
row-field-of-effect = wrong_line _ _ (first ∷ []) (row 2 ((pos 1, field "word") ∷ []) (pos 5)) refl refl refl

-- templates out of order
rows-descending : IsFirstBadFor one_store_asked (file ("proof 1" ∷ "row 2 -1 @ <= -1" ∷ "row 1 1 .word <= 7" ∷ "cond 1" ∷ "cond 2" ∷ "goal 1 1" ∷ "cond 3" ∷ "goal 1 1 1:3" ∷ "cond 4" ∷ "goal 1 1" ∷ "cond 5" ∷ "end" ∷ [])) 3
unfolding numeral digits
rows-descending = wrong_line _ _ (first ∷ row 2 ((negsuc 0, Element) ∷ []) (negsuc 0) ∷ []) (row 1 ((pos 1, field "word") ∷ []) (pos 7)) refl refl refl

-- an atom too much
row-with-atom-of-other-template : IsFirstBadFor one_store_asked (file ("proof 1" ∷ "row 2 1 @ 1 .word <= 5" ∷ "cond 1" ∷ "cond 2" ∷ "goal 1 1" ∷ "cond 3" ∷ "goal 1 1 1:3" ∷ "cond 4" ∷ "goal 1 1" ∷ "cond 5" ∷ "end" ∷ [])) 2
unfolding numeral digits
row-with-atom-of-other-template = wrong_line _ _ (first ∷ []) (row 2 ((pos 1, Element) ∷ (pos 1, field "word") ∷ []) (pos 5)) refl refl refl

-- a fact that doesn't give the goal
second-version-wrong-fact : IsFirstBadFor one_store_asked (file ("proof 2" ∷ "cond 2" ∷ "goal 1 1" ∷ "cond 3" ∷ "goal 1 1 1:2" ∷ "end" ∷ [])) 5
unfolding numeral digits
second-version-wrong-fact = wrong_line _ _ (second ∷ cond 2 ∷ goal 1 1 [] ∷ cond 3 ∷ []) (goal 1 1 ((1, 2) ∷ [])) refl refl refl

-- the second version has no condition without a goal
second-version-empty-condition : IsFirstBadFor one_store_asked (file ("proof 2" ∷ "cond 1" ∷ "cond 2" ∷ "goal 1 1" ∷ "cond 3" ∷ "goal 1 1 1:3" ∷ "end" ∷ [])) 2
unfolding numeral digits
second-version-empty-condition = wrong_line _ _ (second ∷ []) (cond 1) refl refl refl

-- a condition with a goal is missing
second-version-condition-missing : IsFirstBadFor one_store_asked (file ("proof 2" ∷ "cond 3" ∷ "goal 1 1 1:3" ∷ "end" ∷ [])) 2
unfolding numeral digits
second-version-condition-missing = wrong_line _ _ (second ∷ []) (cond 3) refl refl refl

-- the last condition with a goal is missing
second-version-last-condition-missing : IsFirstBadFor one_store_asked (file ("proof 2" ∷ "cond 2" ∷ "goal 1 1" ∷ "end" ∷ [])) 4
unfolding numeral digits
second-version-last-condition-missing = wrong_line _ _ (second ∷ cond 2 ∷ goal 1 1 [] ∷ []) End refl refl refl

-- the first version under the number of the second
second-version-all-conditions : IsFirstBadFor one_store_asked (file ("proof 2" ∷ "cond 1" ∷ "cond 2" ∷ "goal 1 1" ∷ "cond 3" ∷ "goal 1 1 1:3" ∷ "cond 4" ∷ "cond 5" ∷ "end" ∷ [])) 2
unfolding numeral digits
second-version-all-conditions = wrong_line _ _ (second ∷ []) (cond 1) refl refl refl

-- the second version under the number of the first
first-version-without-empty-conditions : IsFirstBadFor one_store_asked (file ("proof 1" ∷ "cond 2" ∷ "goal 1 1" ∷ "cond 3" ∷ "goal 1 1 1:3" ∷ "end" ∷ [])) 2
unfolding numeral digits
first-version-without-empty-conditions = wrong_line _ _ (first ∷ []) (cond 2) refl refl refl

-- a row makes a condition that has to be there
second-version-row-without-condition : IsFirstBadFor one_store_asked (file ("proof 2" ∷ "row 2 -1 @ <= -1" ∷ "cond 2" ∷ "goal 1 1" ∷ "cond 3" ∷ "goal 1 1 1:3" ∷ "end" ∷ [])) 7
unfolding numeral digits
second-version-row-without-condition = wrong_line _ _ (second ∷ row 2 ((negsuc 0, Element) ∷ []) (negsuc 0) ∷ cond 2 ∷ goal 1 1 [] ∷ cond 3 ∷ goal 1 1 ((1, 3) ∷ []) ∷ []) End refl refl refl

-- 65 facts in one line
sixty-five-facts : IsFirstBadFor one_store_asked (file ("proof 1" ∷ "cond 1" ∷ "cond 2" ∷ "goal 1 1" ∷ "cond 3" ∷ "goal 1 1 1:1 1:2 1:3 1:4 1:5 1:6 1:7 1:8 1:9 1:10 1:11 1:12 1:13 1:14 1:15 1:16 1:17 1:18 1:19 1:20 1:21 1:22 1:23 1:24 1:25 1:26 1:27 1:28 1:29 1:30 1:31 1:32 1:33 1:34 1:35 1:36 1:37 1:38 1:39 1:40 1:41 1:42 1:43 1:44 1:45 1:46 1:47 1:48 1:49 1:50 1:51 1:52 1:53 1:54 1:55 1:56 1:57 1:58 1:59 1:60 1:61 1:62 1:63 1:64 1:65" ∷ "cond 4" ∷ "cond 5" ∷ "end" ∷ [])) 6
unfolding numeral digits
sixty-five-facts = wrong_line _ _ (first ∷ cond 1 ∷ cond 2 ∷ goal 1 1 [] ∷ cond 3 ∷ []) (goal 1 1 ((1, 1) ∷ (1, 2) ∷ (1, 3) ∷ (1, 4) ∷ (1, 5) ∷ (1, 6) ∷ (1, 7) ∷ (1, 8) ∷ (1, 9) ∷ (1, 10) ∷ (1, 11) ∷ (1, 12) ∷ (1, 13) ∷ (1, 14) ∷ (1, 15) ∷ (1, 16) ∷ (1, 17) ∷ (1, 18) ∷ (1, 19) ∷ (1, 20) ∷ (1, 21) ∷ (1, 22) ∷ (1, 23) ∷ (1, 24) ∷ (1, 25) ∷ (1, 26) ∷ (1, 27) ∷ (1, 28) ∷ (1, 29) ∷ (1, 30) ∷ (1, 31) ∷ (1, 32) ∷ (1, 33) ∷ (1, 34) ∷ (1, 35) ∷ (1, 36) ∷ (1, 37) ∷ (1, 38) ∷ (1, 39) ∷ (1, 40) ∷ (1, 41) ∷ (1, 42) ∷ (1, 43) ∷ (1, 44) ∷ (1, 45) ∷ (1, 46) ∷ (1, 47) ∷ (1, 48) ∷ (1, 49) ∷ (1, 50) ∷ (1, 51) ∷ (1, 52) ∷ (1, 53) ∷ (1, 54) ∷ (1, 55) ∷ (1, 56) ∷ (1, 57) ∷ (1, 58) ∷ (1, 59) ∷ (1, 60) ∷ (1, 61) ∷ (1, 62) ∷ (1, 63) ∷ (1, 64) ∷ (1, 65) ∷ [])) refl refl refl

-- a second first line
version-twice : IsFirstBadFor one_store_asked (file ("proof 1" ∷ "proof 1" ∷ "cond 1" ∷ "cond 2" ∷ "goal 1 1" ∷ "cond 3" ∷ "goal 1 1 1:3" ∷ "cond 4" ∷ "cond 5" ∷ "end" ∷ [])) 2
unfolding numeral digits
version-twice = wrong_line _ _ (first ∷ []) first refl refl refl

-- the end where a goal is due
end-before-goal : IsFirstBadFor one_store_asked (file ("proof 2" ∷ "cond 2" ∷ "goal 1 1" ∷ "cond 3" ∷ "end" ∷ [])) 5
unfolding numeral digits
end-before-goal = wrong_line _ _ (second ∷ cond 2 ∷ goal 1 1 [] ∷ cond 3 ∷ []) End refl refl refl

-- 257 rows of one template
rows-past-256 : IsFirstBadFor one_store_asked (file ("proof 1" ∷ replicate 257 "row 2 1 @ <= 5" ++ ("end" ∷ []))) 258
unfolding numeral digits
rows-past-256 = wrong_line _ _ (first ∷ replicate 256 (row 2 ((pos 1, Element) ∷ []) (pos 5))) (row 2 ((pos 1, Element) ∷ []) (pos 5)) refl refl refl
