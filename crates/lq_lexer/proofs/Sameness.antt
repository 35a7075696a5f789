-- A text is read in one way, and has tokens or a first fault.
use Rattle.std.proofs.Common.{◌≡◌, ℕ, zero, suc, ◌+◌, ◌<◌, ◌≤◌, min, List, [], ◌∷◌, ◌++◌, length, drop, refl, sym, ap, ◌∙◌, subst, arith, ◌⊎◌, inl, inr}
use Rattle.std.specs.Prelude.{slice_index}
use Rattle.std.specs.List.{AllPass, prefix_len}
use Rattle.std.proofs.lemmas.Bool.{cases_lt, both_ways}
use Rattle.std.proofs.lemmas.List.{length-append, drop-drop, length-drop}
use Rattle.std.proofs.lemmas.List.Sums.{prefix_len_passes, prefix_len_stops}
use Rattle.lq_lexer.specs.declared.token.Token.{Token}
use Rattle.lq_lexer.specs.declared.token.TokenKind.{TokenKind}
use Rattle.lq_lexer.specs.declared.scan.Piece.{Piece}
use Rattle.lq_lexer.specs.declared.scan.Piece.TheVariants.{Blank, Spelled, Nothing}
use Rattle.lq_lexer.specs.Bytes.{is_source_byte, is_space}
use Rattle.lq_lexer.specs.Tokens.{Spells, IsBlank, BeginsWithBlank, BeginsWithToken, Reads, Tokens}
use Rattle.lq_lexer.specs.Tokens.IsBlank.{space, line_comment, block_comment}
use Rattle.lq_lexer.specs.Tokens.Reads.{stop, after_blank, after_token}
use Rattle.lq_lexer.specs.Faults.{IsStuck, IsStuckAt, IsForeignAt, IsFault, IsFirstFault}
use Rattle.lq_lexer.specs.Scan.{piece_of}
use Rattle.lq_lexer.proofs.Spelling.{one_kind, spelling_no_space}
use Rattle.lq_lexer.proofs.Pieces.{same_front, first_of_append, blank_is}
use Rattle.lq_lexer.proofs.Standing.{Stands, piece_stands}
use Rattle.lq_lexer.proofs.Reading.{begins_some, blank_some, blank_fits, token_fits, pass_blank, pass_token}

-- ---- one piece at a front

one_blank : (text a x b y : List ℕ) → BeginsWithBlank text a x → BeginsWithBlank text b y → (a ≡ b) × (x ≡ y)
one_blank text a x b y h k =
    let same : Blank (length a) ≡ Blank (length b) = sym (blank_is text a x h) ∙ blank_is text b y k in
    same_front a b x y (sym h.split ∙ k.split) (cc)

one_token : (text a x b y : List ℕ) (kind other : TokenKind) → BeginsWithToken text kind a x → BeginsWithToken text other b y → (a ≡ b) × (x ≡ y) × (kind ≡ other)
one_token text a x b y kind other h k =
    let there = h.longest other b y k.split k.is_token in
    let back = k.longest kind a x h.split h.is_token in
    let same = same_front a b x y (sym h.split ∙ k.split) (omega arith) in
    (same.0, same.1, one_kind kind other a h.is_token.spelled (subst (Spells other) (sym same.0) k.is_token.spelled))

no_token_at_blank : (text blank rest word more : List ℕ) (kind : TokenKind) → text ≡ blank ++ rest → IsBlank blank rest → BeginsWithToken text kind word more → ⊥
no_token_at_blank text blank rest word more kind split (space {b} h) k =
    let first : b ≡ slice_index word 0 = ap (λ (t : List ℕ). slice_index t 0) (sym split ∙ k.split) ∙ first_of_append word more (begins_some text kind word more k) in
    both_ways (is_space (slice_index word 0)) (spelling_no_space kind word k.is_token.spelled) (ap is_space (sym first) ∙ h)
no_token_at_blank text blank rest word more kind split (line_comment {line} all ends) k = k.no_comment (line ++ rest, inl split)
no_token_at_blank text blank rest word more kind split (block_comment {inside} h) k = k.no_comment (inside ++ rest, inr split)

no_blank_and_token : (text a x b y : List ℕ) (kind : TokenKind) → BeginsWithBlank text a x → BeginsWithToken text kind b y → ⊥
no_blank_and_token text a x b y kind h k = no_token_at_blank text a x b y kind h.split h.is_blank k

-- ---- one reading

-- the end of a text, or a place where nothing begins
abbrev pub IsEnd : List ℕ → Type 0
IsEnd rest = (rest ≡ []) ⊎ IsStuck rest

end_no_blank : (text blank more : List ℕ) → IsEnd text → BeginsWithBlank text blank more → ⊥
end_no_blank text blank more ends h =
    elim ends [
      | inl none ↦ omega (arith, blank_some blank more h.is_blank, ap length h.split, ap length none, length-append blank more)
      | inr stuck ↦ stuck.no_blank blank more h
    ]

end_no_token : (text word more : List ℕ) (kind : TokenKind) → IsEnd text → BeginsWithToken text kind word more → ⊥
end_no_token text word more kind ends h =
    elim ends [
      | inl none ↦ omega (arith, begins_some text kind word more h, ap length h.split, ap length none, length-append word more)
      | inr stuck ↦ stuck.no_token kind word more h
    ]

along_blank : (at : ℕ) (a b x y : List ℕ) (ts : List Token) (rest : List ℕ) → a ≡ b → x ≡ y → Reads (at + length a) x ts rest → Reads (at + length b) y ts rest
along_blank at a b x y ts rest e f r = subst (λ (t : List ℕ). Reads (at + length b) t ts rest) f (subst (λ (p : List ℕ). Reads (at + length p) x ts rest) e r)

three : {A B C : Type 0} {a b : A} {c d : B} {e f : C} → a ≡ b → c ≡ d → e ≡ f → ◌≡◌ {A = A × B × C} (a, c, e) (b, d, f)
three p q r = cc

pub one_reading : {at : ℕ} {text rest more : List ℕ} {ts us : List Token} → Reads at text ts rest → Reads at text us more → IsEnd rest → IsEnd more → (ts ≡ us) × (rest ≡ more)
one_reading stop stop a b = (refl, refl)
one_reading {text = text} stop (after_blank {blank} {more} h r) a b = absurd (end_no_blank text blank more a h)
one_reading {text = text} stop (after_token {word} {more} {kind} h r) a b = absurd (end_no_token text word more kind a h)
one_reading {text = text} (after_blank {blank} {more} h r) stop a b = absurd (end_no_blank text blank more b h)
one_reading {text = text} (after_token {word} {more} {kind} h r) stop a b = absurd (end_no_token text word more kind b h)
one_reading {at} {text} {rest} {more} {ts} {us} (after_blank {blank} {more = left} h r) (after_blank {blank = other} {more = after} k s) a b =
    let same = one_blank text blank left other after h k in
    one_reading r (along_blank at other blank after left us more (sym same.0) (sym same.1) s) a b
one_reading {text = text} (after_blank {blank} {more = left} h r) (after_token {word} {more = after} {kind} k s) a b = absurd (no_blank_and_token text blank left word after kind h k)
one_reading {text = text} (after_token {word} {more = left} {kind} h r) (after_blank {blank} {more = after} k s) a b = absurd (no_blank_and_token text blank after word left kind k h)
one_reading {at} {text} {rest} {more} (after_token {word} {more = left} {kind} {tokens} h r) (after_token {word = other} {more = after} {kind = sort} {tokens = others} k s) a b =
    let same = one_token text word left other after kind sort h k in
    let inner = one_reading r (along_blank at other word after left others more (sym same.0) (sym same.1) s) a b in
    (ap (λ (p : List ℕ × TokenKind × List Token). record { start = at; end = at + length p.0; kind = p.1 } ∷ p.2) (three same.0 same.2 inner.0), inner.1)

-- ---- tokens, or a first fault

pub one_token_list : (text : List ℕ) (tokens others : List Token) → Tokens text tokens → Tokens text others → tokens ≡ others
one_token_list text tokens others h k = (one_reading h.whole k.whole (inl refl) (inl refl)).0

stuck_inside : (text : List ℕ) (at : ℕ) → IsStuckAt text at → at < length text
stuck_inside text at h = omega (arith, h.0.goes_on, length-drop at text)

not_stuck : (text : List ℕ) (tokens : List Token) (at : ℕ) → Reads 0 text tokens [] → IsStuckAt text at → ⊥
not_stuck text tokens at whole h =
    let same = (one_reading whole h.1.1 (inl refl) (inr h.0)).1 in
    omega (arith, ap length same, h.0.goes_on)

one_stuck : (text : List ℕ) (at other : ℕ) → IsStuckAt text at → IsStuckAt text other → at ≡ other
one_stuck text at other h k =
    let same = (one_reading h.1.1 k.1.1 (inr h.0) (inr k.0)).1 in
    omega (arith, ap length same, length-drop at text, length-drop other text, stuck_inside text at h, stuck_inside text other k)

pub tokens_no_fault : (text : List ℕ) (tokens : List Token) (at : ℕ) → Tokens text tokens → IsFault text at → ⊥
tokens_no_fault text tokens at h fault =
    elim fault [
      | inl foreign ↦ both_ways (is_source_byte (slice_index text at)) foreign.1 (h.source at 0 foreign.0)
      | inr stuck ↦ not_stuck text tokens at h.whole stuck
    ]

-- the first byte that no source holds
foreign_first : (text : List ℕ) (at : ℕ) → IsForeignAt text at → prefix_len is_source_byte text ≤ at
foreign_first text at h =
    elim (cases_lt at (prefix_len is_source_byte text)) [
      | inl lt ↦ absurd (both_ways (is_source_byte (slice_index text at)) h.1 (prefix_len_passes is_source_byte text at 0 lt))
      | inr ge ↦ ge
    ]

foreign_there : (text : List ℕ) → prefix_len is_source_byte text < length text → IsForeignAt text (prefix_len is_source_byte text)
foreign_there text lt = (lt, prefix_len_stops is_source_byte text 0 lt)

pub all_source : (text : List ℕ) → length text ≤ prefix_len is_source_byte text → AllPass is_source_byte text
all_source text whole k d lt = prefix_len_passes is_source_byte text k d (omega arith)

pub foreign_fault : (text : List ℕ) (tokens : List Token) → Reads 0 text tokens [] → prefix_len is_source_byte text < length text → IsFirstFault text (prefix_len is_source_byte text)
foreign_fault text tokens whole lt = record {
  fault = inl (foreign_there text lt);
  least = λ other fault. elim fault [
    | inl foreign ↦ foreign_first text other foreign
    | inr stuck ↦ absurd (not_stuck text tokens other whole stuck)
  ];
}

pub stuck_fault : (text : List ℕ) (at : ℕ) → IsStuckAt text at → IsFirstFault text (min at (prefix_len is_source_byte text))
stuck_fault text at h =
    let source = prefix_len is_source_byte text in
    let least : (other : ℕ) → IsFault text other → min at source ≤ other = λ other fault. elim fault [
      | inl foreign ↦ omega (arith, foreign_first text other foreign)
      | inr stuck ↦ omega (arith, one_stuck text at other h stuck)
    ] in
    elim (cases_lt source at) [
      | inl lt ↦
          let is : min at source ≡ source = omega arith in
          record { fault = subst (IsFault text) (sym is) (inl (foreign_there text (omega (arith, stuck_inside text at h)))); least = least }
      | inr ge ↦
          let is : min at source ≡ at = omega arith in
          record { fault = subst (IsFault text) (sym is) (inr h); least = least }
    ]

pub tokens_no_first_fault : (text : List ℕ) (tokens : List Token) (at : ℕ) → Tokens text tokens → IsFirstFault text at → ⊥
tokens_no_first_fault text tokens at h fault = tokens_no_fault text tokens at h fault.fault

-- A text can be read up to its end or to where it is stuck.
abbrev Reached : List ℕ → ℕ → Type 0
Reached text at = (k : ℕ) × ((tokens : List Token) × Reads at text tokens (drop k text)) × IsEnd (drop k text)

reached_blank : (text : List ℕ) (at n : ℕ) → Stands text (Blank n) → Reached (drop n text) (at + n) → Reached text at
reached_blank text at n here (k, (tokens, r), ends) =
    (n + k, (tokens, subst (Reads at text tokens) (drop-drop k n text) (pass_blank text at n here tokens (drop k (drop n text)) r)), subst IsEnd (drop-drop k n text) ends)

reached_token : (text : List ℕ) (at n : ℕ) (kind : TokenKind) → Stands text (Spelled kind n) → Reached (drop n text) (at + n) → Reached text at
reached_token text at n kind here (k, (tokens, r), ends) =
    (n + k, (record { start = at; end = at + n; kind = kind } ∷ tokens, subst (Reads at text (record { start = at; end = at + n; kind = kind } ∷ tokens)) (drop-drop k n text) (pass_token text at n kind here tokens (drop k (drop n text)) r)), subst IsEnd (drop-drop k n text) ends)

reached_stuck : (text : List ℕ) (at : ℕ) → IsStuck text → Reached text at
reached_stuck text at stuck = (0, ([], stop), inr stuck)

reached_piece : (text : List ℕ) (at size : ℕ) (found : Piece) → Stands text found → length text ≤ suc size → ((rest : List ℕ) (from : ℕ) → length rest ≤ size → Reached rest from) → Reached text at
reached_piece text at size (Blank n) here fits reach = reached_blank text at n here (reach (drop n text) (at + n) (omega (arith, length-drop n text, (blank_fits text n here).0)))
reached_piece text at size (Spelled kind n) here fits reach = reached_token text at n kind here (reach (drop n text) (at + n) (omega (arith, length-drop n text, (token_fits text kind n here).0)))
reached_piece text at size Nothing here fits reach = reached_stuck text at here

reach : (size : ℕ) (text : List ℕ) (at : ℕ) → length text ≤ size → Reached text at
reach size [] at fits = (0, ([], stop), inl refl)
reach zero (b ∷ more) at fits = absurd (omega arith)
reach (suc size) (b ∷ more) at fits = reached_piece (b ∷ more) at size (piece_of (b ∷ more)) (piece_stands (b ∷ more) (omega arith)) fits (λ rest from smaller. reach size rest from smaller)

pub some_or_fault : (text : List ℕ) → ((tokens : List Token) × Tokens text tokens) ⊎ ((at : ℕ) × IsFirstFault text at)
some_or_fault text =
    let r = reach (length text) text 0 (omega arith) in
    let source = prefix_len is_source_byte text in
    elim r.2 [
      | inr stuck ↦ inr (min r.0 source, stuck_fault text r.0 (stuck, r.1))
      | inl none ↦
          let whole : Reads 0 text r.1.0 [] = subst (Reads 0 text r.1.0) none r.1.1 in
          elim (cases_lt source (length text)) [
            | inl lt ↦ inr (source, foreign_fault text r.1.0 whole lt)
            | inr ge ↦ inl (r.1.0, record { source = all_source text ge; whole = whole })
          ]
    ]

pub one_first_fault : (text : List ℕ) (at other : ℕ) → IsFirstFault text at → IsFirstFault text other → at ≡ other
one_first_fault text at other h k = omega (arith, h.least other k.fault, k.least at h.fault)

pub first_fault_inside : (text : List ℕ) (at : ℕ) → IsFirstFault text at → at < length text
first_fault_inside text at h =
    elim h.fault [
      | inl foreign ↦ foreign.0
      | inr stuck ↦ stuck_inside text at stuck
    ]
