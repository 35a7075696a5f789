use Rattle.std.proofs.Common.{sym, ◌∙◌, ap, not, ◌≡◌, map, cond, ◌++◌, ◌∷◌, []}
use Rattle.lq_ground.specs.Locals.{has}
use Rattle.lq_ground.proofs.NameSets.{has_keys, added_keys, read}
use Rattle.lq_ground.proofs.names.Names.add.Goals as goal

pub returns-clause-known : goal.returns-clause-known
returns-clause-known c =
    let e : c.in_ok-new.new ≡ not (has (map read c.self.inside.set.keys) c.as_bytes.result.now) = c.in_ok-new.ensures.added ∙ ap not (sym (has_keys c.self.inside.set.keys c.as_bytes.result.now)) in
    cc (c.self.view_is, c.as_bytes.ensures)

pub returns-clause-names : goal.returns-clause-names
returns-clause-names c =
    let old = c.self.inside.set.keys in
    let name = c.as_bytes.result in
    let e : map read c.insert.new.self.keys ≡ cond (has (map read old) name.now) (map read old) (map read old ++ (name.now ∷ [])) = ap (map read) c.in_ok-new.ensures.keys ∙ added_keys old name in
    cc (c.self.view_is, c.as_bytes.ensures)
