-- What readers tell.
use Rattle.std.specs.Prelude.{◌≡◌, Option, Some, None}

-- of the values that `Is` allows this one is spelled by the text, or none is
abbrev pub Reads : {X T : Type 0} → (X → Type 0) → (X → T) → T → Option X → Type 0
Reads {X} Is spelling text None = (x : X) → Is x → spelling x ≡ text → ⊥
Reads Is spelling text (Some x) = Is x × (spelling x ≡ text)
