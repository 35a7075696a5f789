-- What two runs agree on.
use Rattle.std.specs.Prelude.{◌≡◌, ◌≢◌}
use Rattle.lq_meaning.specs.Ending.{Spent, Outcome}

-- two runs end alike, print the same and cost the same; unless the fuel was spent they leave the same memory
pub record Agree (a b : Outcome) : Type 0 where
  pub ending : a.ending ≡ b.ending
  pub printed : a.world.printed ≡ b.world.printed
  pub cost : a.world.cost ≡ b.world.cost
  pub memory : a.ending ≢ Spent → a.world.memory ≡ b.world.memory
