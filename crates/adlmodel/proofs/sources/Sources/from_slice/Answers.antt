use Rattle.std.proofs.Common.{◌≡◌, false, sym, take}
use Rattle.std.specs.Prelude.{◌==◌}
use Rattle.std.specs.List.{list_any}
use Rattle.adlmodel.proofs.Entries.{next_free}
use Rattle.adlmodel.proofs.sources.Sources.from_slice.Goals as goal

pub push-requires : goal.push-requires
push-requires c =
    let sources = c.args.sources.now in
    let i = c.loop-source.source-index in
    let source = c.source-item.result in
    let free : list_any (λ other. other.number == source.number) (take i sources) ≡ false =
    next_free sources i source c.requires c.loop-source-test.true (sym c.source-item.is) in
    let same : list_any (λ other. other.number == c.in_ok-copy.copy.number) c.loop-source.copies ≡ false =
    rw (c.in_ok-copy.ensures, c.loop-source.invariant) free in
    same
