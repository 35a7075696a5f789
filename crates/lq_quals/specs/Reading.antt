-- What readers tell. Helpers of private functions.
use Rattle.std.specs.Prelude.{Option, Some, None}

-- this value is told, or there is none to tell
abbrev pub Tells : {X : Type 0} → (X → Type 0) → Option X → Type 0
Tells {X} Is None = (x : X) → ¬ Is x
Tells Is (Some x) = Is x
