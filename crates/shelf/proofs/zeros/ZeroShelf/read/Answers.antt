use Rattle.std.proofs.Common.{rules}
use Rattle.shelf.specs.Zeros.{padded}
use Rattle.shelf.proofs.zeros.ZeroShelf.read.Goals as goal

pub returns : goal.returns
returns c = record {
  file = padded c.args.self.now.head.items c.args.self.now.length;
  there = search rules;
  inside = search rules;
  same = let read = c.copy_padded.ensures c.args.self.now.length (search rules) in search rules;
}
