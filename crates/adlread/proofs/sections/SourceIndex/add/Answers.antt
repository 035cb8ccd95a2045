use Rattle.std.proofs.Common.{◌≡◌, ◌∙◌, false, sym}
use Rattle.std.specs.Prelude.{◌==◌}
use Rattle.std.specs.List.{list_any}
use Rattle.adlread.proofs.Numbered.{AreSources-pushed}
use Rattle.adlread.proofs.sections.SourceIndex.add.Goals as goal

pub push-requires : goal.push-requires
push-requires c =
    let free : list_any (λ other. other.number == c.args.number) c.args.self.now.sources ≡ false =
    sym c.contains.ensures ∙ c.if-contains.false in
    let same : list_any (λ other. other.number == c.in_ok-source.source.number) c.args.self.now.sources ≡ false =
    rw c.in_ok-source.ensures.number free in
    same

pub invariant_of-self : goal.invariant_of-self
invariant_of-self c = record {
  whole = AreSources-pushed c.push.result _ _ _ c.args.number c.args.self.now.whole c.push.ensures.pushed
      c.push.ensures.unchanged (sym c.contains.ensures ∙ c.if-contains.false) c.in_ok-source.ensures.number
      (c.in_ok-source.ensures.whole c.requires);
}
