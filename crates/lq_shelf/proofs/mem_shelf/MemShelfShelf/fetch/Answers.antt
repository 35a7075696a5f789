-- What `bytes_of` finds is what is held under the name.
use Rattle.std.proofs.Common.{◌≡◌, Some, None, inr, rules}
use Rattle.lq_shelf.proofs.Files.{first_named, holding_of_found, holding_of_none}
use Rattle.lq_shelf.proofs.mem_shelf.MemShelfShelf.fetch.Goals as goal

pub returns-in_ok-first_bytes-in-Some-clause-first :
    goal.returns-in_ok-first_bytes-in-Some-clause-first
returns-in_ok-first_bytes-in-Some-clause-first c =
    let found : Some c.in-Some.bytes.now ≡ first_named c.self.inside.files.items c.args.name.now = search rules in
    rw (← c.self.view_is, holding_of_found c.self.inside.files.items c.args.name.now c.in-Some.bytes.now found) (c.in_ok-first_bytes-in-Some.ensures)

pub returns-in-None-clause-failing : goal.returns-in-None-clause-failing
returns-in-None-clause-failing c =
    let none : None ≡ first_named c.self.inside.files.items c.args.name.now = search rules in
    λ _. inr (rw (← c.self.view_is) (holding_of_none c.self.inside.files.items c.args.name.now none))
