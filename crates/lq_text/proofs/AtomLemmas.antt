-- Atoms and their spelling.
use Rattle.std.proofs.Common.{◌≡◌, ◌≢◌, ℕ, false, List, ◌∷◌, ◌++◌, get_or, Option, Some, None, Bor, refl, sym, ap, subst, ◌∙◌, arith}
use Rattle.std.specs.Prelude.{MatchOption, IsSomeAnd, codes}
use Rattle.std.proofs.lemmas.List.{append_cancel_left, append_cancel_right}
use Rattle.lq_text.specs.Byte.{is_name_byte}
use Rattle.lq_text.specs.declared.atom.Subject.{Subject}
use Rattle.lq_text.specs.declared.atom.Subject.TheVariants.{Field, Local, Placeholder, Returned}
use Rattle.lq_text.specs.declared.atom.Atom.{Atom}
use Rattle.lq_text.specs.declared.atom.Atom.TheVariants.{Element, Value, Offset, Length}
use Rattle.lq_text.specs.Name.{IsName}
use Rattle.lq_text.specs.Atom.{IsLocalName, IsSubject, subject_text, IsAtom, atom_text}
use Rattle.lq_text.specs.Reads.{Reads}
use Rattle.lq_text.proofs.NameLemmas.{name_avoids, name_first, word_avoids}
use Rattle.lq_text.proofs.Lists.{Avoids, meets}

-- ---- reading by way of another reader

-- what a reader of a part tells, made into what the reader of the whole tells
pub reads_mapped : {X Y S T : Type 0} (Is : X → Type 0) (spelling : X → S) (part : S) (Made : Y → Type 0) (made_spelling : Y → T) (whole : T) (make : X → Y)
    → ((x : X) → Is x → spelling x ≡ part → Made (make x) × (made_spelling (make x) ≡ whole))
    → ((y : Y) → Made y → made_spelling y ≡ whole → (x : X) × Is x × (spelling x ≡ part))
    → (o : Option X) (r : Option Y) → Reads Is spelling part o → MatchOption o (r ≡ None) (λ x. IsSomeAnd r (λ y. y ≡ make x)) → Reads Made made_spelling whole r
reads_mapped Is spelling part Made made_spelling whole make forth back None r reads e =
    rw e (λ y made same. let x = back y made same in reads x.0 x.1 x.2)
reads_mapped Is spelling part Made made_spelling whole make forth back (Some x) None reads e = absurd e
reads_mapped Is spelling part Made made_spelling whole make forth back (Some x) (Some y) reads e =
    rw e (forth x reads.0 reads.1)

-- ---- subjects

field_back : (field text : List ℕ) → text ≡ 46 ∷ field → (s : Subject) → IsSubject s → subject_text s ≡ text → (name : List ℕ) × IsName name × (name ≡ field)
field_back field text e (Field name) h same = (name, h, cc)
field_back field text e (Local name) h same = absurd (name_first 46 name refl h.0 (ap (λ t. get_or t 0 0) (same ∙ e)))
field_back field text e (Placeholder name) h same = absurd (omega (arith, ap (λ t. get_or t 0 0) (same ∙ e)))
field_back field text e Returned h same = absurd (omega (arith, ap (λ t. get_or t 0 0) (same ∙ e)))

pub field_read : (field text : List ℕ) (o : Option (List ℕ)) (r : Option Subject) → text ≡ 46 ∷ field → Reads IsName (λ name. name) field o → MatchOption o (r ≡ None) (λ name. IsSomeAnd r (λ s. s ≡ Field name)) → Reads IsSubject subject_text text r
field_read field text o r e reads made =
    reads_mapped IsName (λ name. name) field IsSubject subject_text text Field
    (λ name h same. (h, ap (λ t. 46 ∷ t) same ∙ sym e)) (field_back field text e) o r reads made

placeholder_back : (place text : List ℕ) → text ≡ 63 ∷ place → (s : Subject) → IsSubject s → subject_text s ≡ text → (name : List ℕ) × IsName name × (name ≡ place)
placeholder_back place text e (Field name) h same = absurd (omega (arith, ap (λ t. get_or t 0 0) (same ∙ e)))
placeholder_back place text e (Local name) h same = absurd (name_first 63 name refl h.0 (ap (λ t. get_or t 0 0) (same ∙ e)))
placeholder_back place text e (Placeholder name) h same = (name, h, cc)
placeholder_back place text e Returned h same = absurd (omega (arith, ap (λ t. get_or t 0 0) (same ∙ e)))

pub placeholder_read : (place text : List ℕ) (o : Option (List ℕ)) (r : Option Subject) → text ≡ 63 ∷ place → Reads IsName (λ name. name) place o → MatchOption o (r ≡ None) (λ name. IsSomeAnd r (λ s. s ≡ Placeholder name)) → Reads IsSubject subject_text text r
placeholder_read place text o r e reads made =
    reads_mapped IsName (λ name. name) place IsSubject subject_text text Placeholder
    (λ name h same. (h, ap (λ t. 63 ∷ t) same ∙ sym e)) (placeholder_back place text e) o r reads made

local_back : (text : List ℕ) → text ≢ codes "result" → ((name : List ℕ) → text ≢ 46 ∷ name) → ((name : List ℕ) → text ≢ 63 ∷ name) → (s : Subject) → IsSubject s → subject_text s ≡ text → (name : List ℕ) × IsLocalName name × (name ≡ text)
local_back text word dot mark (Field name) h same = absurd (dot name (sym same))
local_back text word dot mark (Local name) h same = (name, h, same)
local_back text word dot mark (Placeholder name) h same = absurd (mark name (sym same))
local_back text word dot mark Returned h same = absurd (word (sym same))

pub local_read : (text : List ℕ) (o : Option (List ℕ)) (r : Option Subject) → text ≢ codes "result" → ((name : List ℕ) → text ≢ 46 ∷ name) → ((name : List ℕ) → text ≢ 63 ∷ name) → Reads IsLocalName (λ name. name) text o → MatchOption o (r ≡ None) (λ name. IsSomeAnd r (λ s. s ≡ Local name)) → Reads IsSubject subject_text text r
local_read text o r word dot mark reads made =
    reads_mapped IsLocalName (λ name. name) text IsSubject subject_text text Local
    (λ name h same. (h, same)) (local_back text word dot mark) o r reads made

-- subjects hold no byte but those of names, `.` and `?`
pub subject_avoids : (byte : ℕ) (s : Subject) → is_name_byte byte ≡ false → byte ≢ 46 → byte ≢ 63 → IsSubject s → Avoids byte (subject_text s)
subject_avoids byte (Field name) lacks dot mark h = (λ same. dot (sym same), name_avoids byte name lacks h)
subject_avoids byte (Local name) lacks dot mark h = name_avoids byte name lacks h.0
subject_avoids byte (Placeholder name) lacks dot mark h = (λ same. mark (sym same), name_avoids byte name lacks h)
subject_avoids byte Returned lacks dot mark h = word_avoids byte (codes "result") lacks refl

-- ---- atoms

-- between this front and a bracket
abbrev pub Wraps : List ℕ → List ℕ → List ℕ → Type 0
Wraps front text inner = text ≡ front ++ (inner ++ codes ")")

pub unwrapped : (front a b : List ℕ) → front ++ (a ++ codes ")") ≡ front ++ (b ++ codes ")") → a ≡ b
unwrapped front a b e = append_cancel_right a b (codes ")") (append_cancel_left front (a ++ codes ")") (b ++ codes ")") e)

-- no subject holds a bracket
pub no_bracket : (s : Subject) (front inner : List ℕ) → IsSubject s → subject_text s ≡ front ++ 40 ∷ inner → ⊥
no_bracket s front inner h e = meets 40 front inner (subst (Avoids 40) e (subject_avoids 40 s refl (omega arith) (omega arith) h))

offset_back : (inner text : List ℕ) → Wraps (codes "off(") text inner → (a : Atom) → IsAtom a → atom_text a ≡ text → (s : Subject) × IsSubject s × (subject_text s ≡ inner)
offset_back inner text e Element h same = absurd (omega (arith, ap (λ t. get_or t 0 0) (same ∙ e)))
offset_back inner text e (Value s) h same = absurd (no_bracket s (codes "off") (inner ++ codes ")") h (same ∙ e))
offset_back inner text e (Offset s) h same = (s, h, unwrapped (codes "off(") (subject_text s) inner (same ∙ e))
offset_back inner text e (Length s) h same = absurd (omega (arith, ap (λ t. get_or t 0 0) (same ∙ e)))

pub offset_read : (inner text : List ℕ) (o : Option Subject) (r : Option Atom) → Wraps (codes "off(") text inner → Reads IsSubject subject_text inner o → MatchOption o (r ≡ None) (λ s. IsSomeAnd r (λ a. a ≡ Offset s)) → Reads IsAtom atom_text text r
offset_read inner text o r e reads made =
    reads_mapped IsSubject subject_text inner IsAtom atom_text text Offset
    (λ s h same. (h, ap (λ t. codes "off(" ++ (t ++ codes ")")) same ∙ sym e)) (offset_back inner text e) o r reads made

length_back : (inner text : List ℕ) → Wraps (codes "len(") text inner → (a : Atom) → IsAtom a → atom_text a ≡ text → (s : Subject) × IsSubject s × (subject_text s ≡ inner)
length_back inner text e Element h same = absurd (omega (arith, ap (λ t. get_or t 0 0) (same ∙ e)))
length_back inner text e (Value s) h same = absurd (no_bracket s (codes "len") (inner ++ codes ")") h (same ∙ e))
length_back inner text e (Offset s) h same = absurd (omega (arith, ap (λ t. get_or t 0 0) (same ∙ e)))
length_back inner text e (Length s) h same = (s, h, unwrapped (codes "len(") (subject_text s) inner (same ∙ e))

pub length_read : (inner text : List ℕ) (o : Option Subject) (r : Option Atom) → Wraps (codes "len(") text inner → Reads IsSubject subject_text inner o → MatchOption o (r ≡ None) (λ s. IsSomeAnd r (λ a. a ≡ Length s)) → Reads IsAtom atom_text text r
length_read inner text o r e reads made =
    reads_mapped IsSubject subject_text inner IsAtom atom_text text Length
    (λ s h same. (h, ap (λ t. codes "len(" ++ (t ++ codes ")")) same ∙ sym e)) (length_back inner text e) o r reads made

-- what is left behind the front, with the bracket taken off
pub inside_found : (text front rest : List ℕ) (r : Option (Bor (List ℕ))) → text ≡ front ++ rest → MatchOption r ((inner : List ℕ) → rest ≢ inner ++ codes ")") (λ inner. rest ≡ inner.now ++ codes ")") → MatchOption r ((inner : List ℕ) → ¬ Wraps front text inner) (λ inner. Wraps front text inner.now)
inside_found text front rest None e h = λ inner wraps. h inner (append_cancel_left front rest (inner ++ codes ")") (sym e ∙ wraps))
inside_found text front rest (Some inner) e h = e ∙ ap (λ t. front ++ t) h

-- ---- one atom for each text

subject_inject : (a b : Subject) → IsSubject a → IsSubject b → subject_text a ≡ subject_text b → a ≡ b
subject_inject (Field m) (Field n) h k e = let same : m ≡ n = cc in ap Field same
subject_inject (Field m) (Local n) h k e = absurd (name_first 46 n refl k.0 (ap (λ t. get_or t 0 0) (sym e)))
subject_inject (Field m) (Placeholder n) h k e = absurd (omega (arith, ap (λ t. get_or t 0 0) e))
subject_inject (Field m) Returned h k e = absurd (omega (arith, ap (λ t. get_or t 0 0) e))
subject_inject (Local m) (Field n) h k e = absurd (name_first 46 m refl h.0 (ap (λ t. get_or t 0 0) e))
subject_inject (Local m) (Local n) h k e = ap Local e
subject_inject (Local m) (Placeholder n) h k e = absurd (name_first 63 m refl h.0 (ap (λ t. get_or t 0 0) e))
subject_inject (Local m) Returned h k e = absurd (h.3 e)
subject_inject (Placeholder m) (Field n) h k e = absurd (omega (arith, ap (λ t. get_or t 0 0) e))
subject_inject (Placeholder m) (Local n) h k e = absurd (name_first 63 n refl k.0 (ap (λ t. get_or t 0 0) (sym e)))
subject_inject (Placeholder m) (Placeholder n) h k e = let same : m ≡ n = cc in ap Placeholder same
subject_inject (Placeholder m) Returned h k e = absurd (omega (arith, ap (λ t. get_or t 0 0) e))
subject_inject Returned (Field n) h k e = absurd (omega (arith, ap (λ t. get_or t 0 0) e))
subject_inject Returned (Local n) h k e = absurd (k.3 (sym e))
subject_inject Returned (Placeholder n) h k e = absurd (omega (arith, ap (λ t. get_or t 0 0) e))
subject_inject Returned Returned h k e = refl

-- `@` begins no subject
no_element : (s : Subject) → IsSubject s → codes "@" ≡ subject_text s → ⊥
no_element (Field name) h e = omega (arith, ap (λ t. get_or t 0 0) e)
no_element (Placeholder name) h e = omega (arith, ap (λ t. get_or t 0 0) e)
no_element (Local name) h e = name_first 64 name refl h.0 (ap (λ t. get_or t 0 0) (sym e))
no_element Returned h e = omega (arith, ap (λ t. get_or t 0 0) e)

pub atom_inject : (a b : Atom) → IsAtom a → IsAtom b → atom_text a ≡ atom_text b → a ≡ b
atom_inject Element Element h k e = refl
atom_inject Element (Value t) h k e = absurd (no_element t k e)
atom_inject Element (Offset t) h k e = absurd (omega (arith, ap (λ t. get_or t 0 0) e))
atom_inject Element (Length t) h k e = absurd (omega (arith, ap (λ t. get_or t 0 0) e))
atom_inject (Value s) Element h k e = absurd (no_element s h (sym e))
atom_inject (Value s) (Value t) h k e = ap Value (subject_inject s t h k e)
atom_inject (Value s) (Offset t) h k e = absurd (no_bracket s (codes "off") (subject_text t ++ codes ")") h e)
atom_inject (Value s) (Length t) h k e = absurd (no_bracket s (codes "len") (subject_text t ++ codes ")") h e)
atom_inject (Offset s) Element h k e = absurd (omega (arith, ap (λ t. get_or t 0 0) e))
atom_inject (Offset s) (Value t) h k e = absurd (no_bracket t (codes "off") (subject_text s ++ codes ")") k (sym e))
atom_inject (Offset s) (Offset t) h k e =
    ap Offset (subject_inject s t h k (unwrapped (codes "off(") (subject_text s) (subject_text t) e))
atom_inject (Offset s) (Length t) h k e = absurd (omega (arith, ap (λ t. get_or t 0 0) e))
atom_inject (Length s) Element h k e = absurd (omega (arith, ap (λ t. get_or t 0 0) e))
atom_inject (Length s) (Value t) h k e = absurd (no_bracket t (codes "len") (subject_text s ++ codes ")") k (sym e))
atom_inject (Length s) (Offset t) h k e = absurd (omega (arith, ap (λ t. get_or t 0 0) e))
atom_inject (Length s) (Length t) h k e =
    ap Length (subject_inject s t h k (unwrapped (codes "len(") (subject_text s) (subject_text t) e))
