use Rattle.std.proofs.Common.{◌++◌, ◌∷◌, [], sym, take}
use Rattle.opening.specs.Further.{places_of, used_of}
use Rattle.opening.proofs.MoreTold.{named_further, used_further}
use Rattle.opening.proofs.further.files.note_files.Goals as goal

pub loop-source-preserved : goal.loop-source-preserved
loop-source-preserved c = λ named knows.
    let used = c.args.used.now in
    let sources = c.args.sources.now in
    let i = c.loop-source.source-index in
    let source = c.source-item.result in
    let before = used_of used (take i sources) in
    rw (
      used_further used sources i source c.loop-source-test.true (sym c.source-item.is),
      ← named_further named before (used_of used (source ∷ [])),
    )
    (c.in_ok-note_file.ensures (named ++ places_of before) (c.loop-source.invariant named knows))
