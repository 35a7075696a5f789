-- The ground and the place of the walk as the code has them.
use Rattle.std.specs.Prelude.{◌≡◌, ℕ, suc, ◌++◌, Bool, List, length, Some, slice_get}
use Rattle.lq_tree.specs.declared.plain.PKind.{PKind}
use Rattle.lq_tree.specs.PlainScopes.{is_among}
use Rattle.lq_templates.specs.Accesses.{Access}
use Rattle.lq_templates.specs.Classes.{class_in}
use Rattle.lq_templates.specs.Names.{marked}
use Rattle.lq_templates.specs.Spots.{Spot, Walk, spot_at, spots}
use Rattle.lq_templates.specs.Templates.{spot_templates, count_scopes, all_templates}
use Rattle.lq_ground.specs.declared.ground.Ground.{Ground as Held}
use Rattle.lq_ground.specs.declared.position.Position.{Position}
use Rattle.lq_ground.specs.declared.spot.Change.{Change}
use Rattle.lq_ground.specs.Ground.{Ground, changes, function_scope}

-- the ground, where `by` has the accesses that functions make
abbrev pub seen : (by : ℕ → Access → Bool) → Held → Ground
seen by g = record {
  env = record {
    program = g.tables.now.program.now;
    class_of = class_in g.tables.now.classes.now;
    by = by;
    number = g.number;
    func = g.func.now;
  };
  templates = g.tables.now.templates.now;
  before = g.before;
  scope = g.scope;
}

-- it is that of a function of the program, whose templates are listed
pub record IsGround (g : Ground) : Type 0 where
  pub listed : g.templates ≡ all_templates g.env.program g.env.class_of g.env.by
  pub there : slice_get g.env.program.funcs g.env.number ≡ Some g.env.func
  pub scope : g.scope ≡ function_scope g.env.program.funcs g.env.number

-- the walk stands here: the slots that have been assigned, those in scope, and how many scopes and templates were passed
pub record StandsAt (g : Ground) (at : Position) (w : Walk) : Type 0 where
  pub assigned : (slot : ℕ) → marked at.assigned slot ≡ is_among w.assigned slot
  pub scope : at.scope ≡ w.scope
  pub scopes : at.scopes ≡ count_scopes w.spots
  pub templates : at.templates ≡ length (spot_templates g.env (suc g.scope) w.spots)

-- the walk follows the text of the function: what it has passed is the front of the function's spots
pub record Follows (g : Ground) (w : Walk) : Type 0 where
  pub later : List Spot
  pub whole : w.spots ++ later ≡ spots g.env.func

-- what a statement changes here, and whether it is a spot
pub record Changes (g : Ground) (kind : PKind) (w : Walk) (change : Change) : Type 0 where
  pub slots : change.slots ≡ changes g kind w
  pub spots : change.spots ≡ length (spot_at w.scope kind)
