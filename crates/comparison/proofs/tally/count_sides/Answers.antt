use Rattle.std.proofs.Common.{◌≡◌, ℕ, ◌+◌, ◌-◌, ◌<◌, ◌≤◌, rules, arith, subst, get_or}
use Rattle.sound_terms.specs.Blocks.{block_count, block_frames, block_start}
use Rattle.sound_terms.specs.Render.{Range}
use Rattle.comparison.specs.Counted.{AreCounts, HasCounted}
use Rattle.comparison.specs.Side.{SideWork, heard, reached}
use Rattle.comparison.proofs.Both.{of_both}
use Rattle.comparison.proofs.Counts.{counted_more}
use Rattle.comparison.proofs.tally.count_sides.Goals as goal

-- the time reached before and after a block
reached_start : (range : Range) (k : ℕ) → k < block_count range
    → block_start range k ≡ range.from + (reached range k - range.from)
reached_start range k below = omega (arith, below)

reached_more : (range : Range) (k : ℕ) → k < block_count range
    → (reached range k - range.from) + block_frames range k ≡ reached range (k + 1) - range.from
reached_more range k below = omega (arith, below)

reached_few : (range : Range) (k : ℕ) → range.to ≤ 4147200000 → reached range k - range.from ≤ 4147200000
reached_few range k in_day = omega (arith, in_day)

pub count_block-requires-clause-in_day : goal.count_block-requires-clause-in_day
count_block-requires-clause-in_day g c = λ j.
    let few = c.loop-k.invariant.few j in
    let most = reached_few c.args.sides.now.first.work.planned.range c.loop-k.k c.blocks-k-end.ensures.in_day in
    omega (arith, few, most)

pub loop-k-preserved : goal.loop-k-preserved
loop-k-preserved g c =
    let one = c.args.sides.now.first.work in
    let range = one.planned.range in
    let k = c.loop-k.k in
    let old = c.loop-k.counts in
    let new = c.count_block.new.counts in
    let quiet = c.loop-k.invariant.gone_over.first_quiet in
    let others_quiet = c.loop-k.invariant.gone_over.second_quiet in
    let below : k < block_count range = omega (arith, c.loop-k-test.true, c.blocks-k-end.ensures.count) in
    let more = reached_more range k below in
    let few : (j : ℕ) → get_or new j 0 ≤ get_or old j 0 + block_frames range k =
    subst (λ (w : SideWork). (j : ℕ) → get_or new j 0 ≤ get_or old j 0 + block_frames w.planned.range k)
    c.loop-k.invariant.gone_over.first_work c.in_ok-apart.ensures.few in
    record {
      gone_over = record {
        first_work = search rules;
        second_work = search rules;
        first_quiet = search rules;
        second_quiet = search rules;
        matched = c.in_ok-apart.ensures.kept.matched;
      };
      few = λ j. omega (arith, c.loop-k.invariant.few j, few j, more);
      counted = λ honest sure.
          let mix = heard one (g.S.Shelf.stored c.args.first_shelf.now) in
          let other = heard c.args.sides.now.second.work (g.T.Shelf.stored c.args.second_shelf.now) in
          let said = of_both g.S.Shelf g.T.Shelf c.args.first_shelf.now c.loop-k.first_shelf c.args.second_shelf.now
          c.loop-k.second_shelf c.args.sides.now c.loop-k.sides (λ mix other. HasCounted mix other
          (block_start c.loop-k.sides.first.work.planned.range k) (block_frames c.loop-k.sides.first.work.planned.range k)
          old new) c.loop-k.invariant.gone_over.first_work c.loop-k.invariant.gone_over.second_work quiet.same quiet.honest_same
          others_quiet.same others_quiet.honest_same c.in_ok-apart.ensures.counted honest sure in
          let had = subst (λ (w : SideWork). HasCounted mix other (block_start w.planned.range k)
          (block_frames w.planned.range k) old new) c.loop-k.invariant.gone_over.first_work said in
          subst (λ (n : ℕ). AreCounts mix other range.from n new) more
          (counted_more mix other range.from (reached range k - range.from) (block_start range k) (block_frames range k) old
          new (reached_start range k below) c.count_block.auto.counts (c.loop-k.invariant.counted honest sure) had);
    }
