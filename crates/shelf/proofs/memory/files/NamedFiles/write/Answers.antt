use Rattle.std.proofs.Common.{rules, option_map}
use Rattle.shelf.specs.Files.{IsMade}
use Rattle.shelf.specs.History.{with_bytes}
use Rattle.shelf.proofs.Named.{changes, stays}
use Rattle.shelf.proofs.memory.files.NamedFiles.write.Goals as goal

pub returns-in-Ok : goal.returns-in-Ok
returns-in-Ok c = record {
  placed =
      let v = c.place_in.new.file in
      changes (IsMade (option_map (with_bytes c.args.kind c.args.at c.args.count c.args.bytes.now))) c.args.self.now.files
      (c.get_mut.follows.lender v) c.args.name.now v ((c.get_mut.follows.holds v).3 (search rules)) (search rules);
  unchanged = search rules;
}

pub returns-in-Err : goal.returns-in-Err
returns-in-Err c = record {
  placed = search rules;
  unchanged =
      let v = c.place_in.new.file in
      let all = stays c.args.self.now.files (c.get_mut.follows.lender v) c.args.name.now v
      ((c.get_mut.follows.holds v).3 (search rules)) (search rules) in search rules;
}
