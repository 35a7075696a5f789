use Rattle.std.proofs.Common.{sym, ◌∙◌, ◌≡◌, map}
use Rattle.lq_names.specs.Seen.{is_among}
use Rattle.lq_names.proofs.NameSets.{among_keys, read}
use Rattle.lq_names.proofs.names.Names.has.Goals as goal

pub returns : goal.returns
returns c =
    let e : c.contains.result ≡ is_among (map read c.self.inside.set.keys) c.as_bytes.result.now = c.contains.ensures ∙ sym (among_keys c.self.inside.set.keys c.as_bytes.result.now) in
    cc (c.self.view_is, c.as_bytes.ensures)
