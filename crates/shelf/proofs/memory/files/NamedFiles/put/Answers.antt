use Rattle.std.proofs.Common.{rules}
use Rattle.shelf.specs.Files.{IsPut}
use Rattle.shelf.proofs.Named.{changes}
use Rattle.shelf.proofs.memory.files.NamedFiles.put.Goals as goal

pub returns-clause-put : goal.returns-clause-put
returns-clause-put c =
    rw c.in_ok-name.ensures.ok at (changes (IsPut c.args.bytes.now)
    c.args.self.now.files c.insert.new.self _ c.in_ok-to_vec.field-0 c.in_ok-insert.ensures.updates (search rules))
