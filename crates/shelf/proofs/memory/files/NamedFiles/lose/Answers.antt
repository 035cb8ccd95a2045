use Rattle.std.proofs.Common.{ℕ, List, OnOk, string_bytes, subst, sym}
use Rattle.work_terms.specs.Disk.{Changes}
use Rattle.shelf.specs.declared.memory.call.Kind.{Kind}
use Rattle.shelf.specs.Files.{IsMade, files_of}
use Rattle.shelf.specs.History.{left_by, note_of, or_else}
use Rattle.shelf.proofs.memory.files.NamedFiles.lose.Goals as goal

pub returns-in-Sync : goal.returns-in-Sync
returns-in-Sync c = record {
  left =
      let name = string_bytes c.args.call.now.name in
      subst (λ (kind : Kind). OnOk c.put_again.result (Changes (IsMade (left_by kind c.args.kept c.args.fill
      (note_of c.args.call.now) (files_of c.args.read.now name))) name (files_of c.args.self.now)
      (files_of c.put_again.new.self))) (sym c.in-Sync.is)
      (subst (λ (n : List ℕ). OnOk c.put_again.result (Changes (IsMade (or_else (files_of c.args.read.now n))) n
      (files_of c.args.self.now) (files_of c.put_again.new.self))) c.as_str-name.ensures.value c.put_again.ensures.put);
}
