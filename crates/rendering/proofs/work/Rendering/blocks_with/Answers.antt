use Rattle.std.proofs.Common.{◌≡◌, ◌<◌, length, ap, arith}
use Rattle.std.proofs.lemmas.List.{get_or_read}
use Rattle.rendering.specs.declared.stretch.Stretch.{Stretch}
use Rattle.rendering.specs.Cut.{group_at, no_stretch}
use Rattle.rendering.proofs.Jobs.{few_with}
use Rattle.rendering.proofs.work.Rendering.blocks_with.Goals as goal

pub returns : goal.returns
returns c =
    let work = c.self.inside.stretches.items in
    let job = c.args.job in
    let below : job < length work = rw (← c.self.view_is) at c.requires in
    let with = rw c.as_slice.ensures.value at c.last_with-last.ensures in
    let one = get_or_read work job _ below c.index.ensures no_stretch in
    let group : c.index.result.now.group ≡ group_at work job = ap (λ (s : Stretch). s.group) one in
    let there : group_at work job < length work =
    omega (arith, (c.self.invariant.0.short.grouped job below).first.before, below) in
    let first = get_or_read work (group_at work job) _ there (rw group at c.index-2.ensures) no_stretch in
    let last = get_or_read work c.last_with-last.result _ with.there c.index-3.ensures no_stretch in
    rw (← c.self.view_is) (record {
      last = c.last_with-last.result;
      is_last = with;
      first = ap (λ (s : Stretch). s.first) first;
      end = ap (λ (s : Stretch). s.end) last;
      few = rw (first, last) (few_with _ c.self.invariant.0 job c.last_with-last.result below with);
    })
