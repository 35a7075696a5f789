-- The sites of the code, without their references.
use Rattle.std.specs.Prelude.{ℕ, Bool, List}
use Rattle.std.specs.Option.{option_copied}
use Rattle.std.specs.List.{list_any}
use Rattle.lq_names.specs.declared.site.Site.{Site as Known}
use Rattle.lq_names.specs.declared.site.Frame.{Frame}
use Rattle.lq_names.specs.Scopes.{Site, Variable, same}

-- the name is one of these
abbrev pub is_among : List (List ℕ) → List ℕ → Bool
is_among names name = list_any (λ other. same name other) names

-- a site of the code
abbrev pub at_site : Known → Site
at_site s = record {
  program = s.program.now;
  prints = is_among s.prints.now;
  allocates = is_among s.allocates.now;
  returns = option_copied s.returns;
  scope = s.scope.now;
  outside = s.outside;
  parallel = s.parallel;
}

-- the site of a frame, with the variables in scope
abbrev pub frame_site : Frame → List Variable → Site
frame_site f scope = record {
  program = f.program.now;
  prints = is_among f.prints.now;
  allocates = is_among f.allocates.now;
  returns = option_copied f.returns;
  scope = scope;
  outside = f.outside;
  parallel = f.parallel;
}
