use Rattle.std.proofs.Common.{◌≡◌, ℕ, ◌+◌, ◌*◌, ◌/◌, ◌≤◌, List, ◌++◌, IsTrue, arith, drop, length, rules, sym, take, ap, ◌∙◌, subst}
use Rattle.std.proofs.Math.Nat.{div-add-mod, mul-le-mul_right}
use Rattle.std.proofs.lemmas.List.{take_at}
use Rattle.std.proofs.lemmas.Grind.{common_steps}
use Rattle.std.proofs.lemmas.Option.{same_Some}
use Rattle.std.specs.Prelude.{ℤ}
use Rattle.sound_terms.specs.declared.block.Stretch.{Stretch}
use Rattle.sound_terms.specs.Mix.{Reading}
use Rattle.sound_terms.specs.Passes.{shape_behind}
use Rattle.sound_terms.specs.Blocks.{sums_with, IsFull}
use Rattle.sound_terms.specs.Sounds.{SoundFacts, reading_by}
use Rattle.work_terms.specs.Disk.{Files}
use Rattle.blockmachine.specs.Holding.{Holds}
use Rattle.blockmachine.specs.Sums.{AreSums}
use Rattle.blockmachine.proofs.Full.{full_more}
use Rattle.blockmachine.proofs.Held.{opened}
use Rattle.blockmachine.proofs.Played.{part_more}
use Rattle.blockmachine.proofs.stretches.add_stretch.Goals as goal

pub loop-done-preserved : goal.loop-done-preserved
loop-done-preserved g c =
    let stretch = c.args.stretch.now in
    let done = c.loop-done.done in
    let count = c.min-count.result in
    let within = c.loop-done.invariant.within in
    let quiet = c.loop-done.invariant.quiet in
    let part : Stretch = record stretch { at = stretch.at + done; length = count; frame = stretch.frame + done } in
    record {
      within = search rules;
      same_extent = search rules;
      held =
          let new = c.add_part.new.bytes in
          let items = c.loop-done.buffer.bytes.items in
          let whole : length new ≡ c.loop-done.buffer.bytes.len = search rules in
          let same : take c.loop-done.buffer.bytes.len (new ++ drop (length new) items) ≡ new =
          take_at new (drop (length new) items) c.loop-done.buffer.bytes.len whole in
          subst (λ (bytes : List ℕ). Holds (g.S.Shelf.honest c.add_part.new.shelf)
          (g.S.Shelf.stored c.add_part.new.shelf) c.args.sounds.now c.add_part.new.held bytes) (sym same)
          c.in_ok-add_part.ensures.held;
      quiet = search rules;
      added = λ honest before are.
          let files : Files = g.S.Shelf.stored c.args.shelf.now in
          let reading : Reading = reading_by files c.args.sounds.now in
          let front : ℕ → ℕ → ℤ = sums_with reading (record stretch { length = done }) c.args.shape before in
          let shape = shape_behind done c.args.shape in
          let sums = c.add_part.new.sums in
          let old = c.loop-done.invariant.added honest before are in
          let new = c.in_ok-add_part.ensures.added (subst IsTrue (sym quiet.honest_same) honest) front old in
          let same =
          subst (λ (stored : Files). AreSums sums (sums_with (reading_by stored c.args.sounds.now)
          part c.after-shape.result front)) quiet.same new in
          let shaped = rw c.after-shape.ensures at same in
          λ i channel room first there. shaped i channel room first there
          ∙ part_more reading stretch c.args.shape done count before i channel;
      full = λ honest.
          let old = c.loop-done.invariant.full honest in
          let new = c.in_ok-add_part.ensures.full (subst IsTrue (sym quiet.honest_same) honest) in
          full_more (reading_by (g.S.Shelf.stored c.args.shelf.now) c.args.sounds.now) stretch done count old
          (subst (λ (stored : Files). IsFull (reading_by stored c.args.sounds.now) part) quiet.same new);
    }

pub add_part-requires : goal.add_part-requires
add_part-requires g c =
    let sounds = c.args.sounds.now in
    let stretch = c.args.stretch.now in
    let sound = c.index-sounds-stretch.result in
    let n = c.channels.result in
    let count = c.min-count.result in
    let found = opened sounds stretch c.requires.plays.lies sound c.index-sounds-stretch.is in
    let few : count ≤ 16384 / n = omega (arith, c.min-count.ensures) in
    let row : count * n ≤ 16384 / n * n = mul-le-mul_right n few in
    let most = div-add-mod 16384 n in
    let room : length c.as_mut_slice-samples.result.now ≡ 16384 =
    ap (λ (l : List ℤ). length l) c.as_mut_slice-samples.ensures.value ∙ c.loop-done.buffer.samples_room in
    record {
      ready = record { plays = grind (arith, common_steps); held = search rules };
      few = λ facts there.
          let same : sound ≡ facts = same_Some sound facts (sym found ∙ there) in
          let wide : facts.channels ≡ n =
          ap (λ (f : SoundFacts). f.channels) (sym same) ∙ sym c.channels.ensures.channels in
          rw wide (omega (arith, row, most, room));
      room = search rules;
    }
