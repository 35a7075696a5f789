-- What has been made so far, as the definitions see it.
use Rattle.lq_plain.specs.declared.made.Made.{Made as Known}
use Rattle.lq_plain.specs.Flat.{Made}

-- the slots, and the statements that stand in front
abbrev pub made_of : Known → Made
made_of m = record { slots = m.slots; front = m.front }
