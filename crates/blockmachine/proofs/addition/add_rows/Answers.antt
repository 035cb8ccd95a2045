use Rattle.std.proofs.Common.{◌≡◌, ◌<◌, ◌≤◌, ℕ, ◌+◌, ◌-◌, ◌*◌, Bool, true, false, IsTrue, inl, inr, drop, length, take, arith, refl, sym, ap, ◌∙◌, subst, rules, length-take, length-drop}
use Rattle.std.specs.Prelude.{ℤ, pos, if◌then◌else◌}
use Rattle.sound_terms.specs.declared.piece.Shape.{Shape}
use Rattle.sound_terms.specs.declared.piece.Shape.TheVariants.{Flat}
use Rattle.sound_terms.specs.Depth.{bits_of}
use Rattle.sound_terms.specs.declared.Depth.{Depth}
use Rattle.sound_terms.specs.Groups.{fraction_of}
use Rattle.sound_terms.specs.Blocks.{sums_with}
use Rattle.soundlaw.specs.Sums.{IsWithin}
use Rattle.blockmachine.specs.Sums.{AreSums, HasAdded, block_of}
use Rattle.blockmachine.proofs.Added.{IsRun, no_sample, run_fits, run_more, ramp_shorter}
use Rattle.blockmachine.proofs.Slopes.{slope_fraction, slope_more, slope_next}
use Rattle.blockmachine.proofs.Places.{get_or-part, kept_elsewhere}
use Rattle.facts.specs.Parts.{length-put_mid}
use Rattle.blockmachine.proofs.addition.add_rows.Goals as goal

-- a flat shape adds samples unchanged
as_it_is : (is_flat : Bool) (shape : Shape) (i : ℕ) (gain : ℕ × ℕ) → (IsTrue is_flat → shape ≡ Flat)
    → fraction_of shape i ≡ gain → fraction_of shape i ≡ (if is_flat then (1, 1) else gain)
as_it_is true shape i gain flat is = ap (λ (s : Shape). fraction_of s i) (flat refl)
as_it_is false shape i gain flat is = is

pub loop-i-preserved : goal.loop-i-preserved
loop-i-preserved c =
    let played = c.args.played.now in
    let stretch = played.stretch in
    let source = played.frames.channels in
    let channels = c.args.lanes.channels in
    let inside = c.requires.takes.inside in
    let i = c.loop-i.i in
    let old = c.loop-i.sums in
    let new = c.add_row.new.sums in
    let a = (stretch.at + i) * channels + (stretch.dest - 1) in
    let k = a + c.args.width - a in
    let f = i * source + (stretch.first - 1) in
    let m = f + c.args.width - f in
    let samples = take m (drop f played.frames.samples.now) in
    let long : k ≡ stretch.width = omega (arith, c.requires.wide) in
    let wide : m ≡ k = omega arith in
    let same = c.loop-i.invariant.same_length in
    let room : length old ≡ c.args.lanes.frames * channels = same ∙ c.requires.takes.whole in
    let piece : IsRun 1 stretch.width source channels k = inl (refl, long) in
    let short : i + 1 ≤ stretch.length = omega arith in
    let fit : a + k ≤ length old =
    omega (arith, run_fits stretch source c.args.lanes.frames channels i 1 k inside piece short, room) in
    let whole : length new ≡ k = c.add_row.auto.sums ∙ omega (arith, length-take {A = ℤ}, length-drop {A = ℤ}, fit) in
    let slope = c.loop-i.slope in
    let rise = slope.rise in
    let next = c.step-gain.ensures in
    let gain = c.step-gain.result in
    let part : ℕ × ℕ = if c.args.is_flat then (1, 1) else (gain.fraction.num, gain.fraction.den) in
    let fraction : fraction_of played.shape i ≡ part =
    as_it_is c.args.is_flat played.shape i (gain.fraction.num, gain.fraction.den) c.requires.flat
    (sym (next.gain
    ∙ slope_fraction played.shape i slope.falls rise.fraction.num rise.fraction.den rise.by c.loop-i.invariant.slope)) in
    record {
      slope = slope_next played.shape i slope.falls _ rise.fraction.num rise.fraction.den rise.by _ _ _ c.loop-i.invariant.slope
          next.falls next.num next.den next.by;
      same_length = length-put_mid a k old new fit whole ∙ same;
      played = λ reading plays before are.
          run_more reading stretch played.shape before source c.args.lanes.frames channels (bits_of played.frames.depth)
          played.frames.samples.now inside played.source plays i 1 k part samples old new piece short
          room whole (λ n below. get_or-part f m n played.frames.samples.now (pos 0) (omega (arith, wide, below)))
          (λ j low high. let here : j ≡ i = omega arith in
          ap (λ n. fraction_of played.shape n) here ∙ fraction)
          (c.loop-i.invariant.played reading plays before are)
          (subst (λ (d : Depth). HasAdded part (bits_of d) samples (take k (drop a old)) new)
          c.of-scale.ensures c.add_row.ensures);
      behind = λ n d later.
          let row : (stretch.at + (i + 1)) * channels ≤ n = later in
          let next : (stretch.at + i + 1) * channels ≤ n = omega arith in
          kept_elsewhere a k old new d fit whole n
          (inr (omega (arith, next, long, inside.dest_inside, inside.dest_from_one)))
          ∙ c.loop-i.invariant.behind n d (omega (arith, next));
    }

pub loop-i-init : goal.loop-i-init
loop-i-init c = record {
  slope = c.of-slope.ensures;
  same_length = refl;
  played = λ reading plays before are i channel near low high.
      are i channel near low high
      ∙ sym (no_sample reading c.args.played.now.stretch c.args.played.now.shape before i channel);
  behind = λ n d later. refl;
}

pub of-slope-requires : goal.of-slope-requires
of-slope-requires c =
    let played = c.args.played.now in
    ramp_shorter played.shape played.stretch.length 1 c.requires.takes.inside.some played.ramp

pub step-gain-requires : goal.step-gain-requires
step-gain-requires c =
    let played = c.args.played.now in
    let i = c.loop-i.i in
    let rise = c.loop-i.slope.rise in
    slope_more played.shape i c.loop-i.slope.falls rise.fraction.num rise.fraction.den rise.by c.loop-i.invariant.slope
    (ramp_shorter played.shape played.stretch.length (i + 1) (omega arith) played.ramp)

pub add_row-requires : goal.add_row-requires
add_row-requires c =
    let stretch = c.args.played.now.stretch in
    let channels = c.args.lanes.channels in
    let inside = c.requires.takes.inside in
    let i = c.loop-i.i in
    let old = c.loop-i.sums in
    let a = (stretch.at + i) * channels + (stretch.dest - 1) in
    let k = a + c.args.width - a in
    let same = c.loop-i.invariant.same_length in
    let long : k ≡ stretch.width = omega (arith, c.requires.wide) in
    let piece : IsRun 1 stretch.width c.args.played.now.frames.channels channels k = inl (refl, long) in
    let fit : a + k ≤ length old =
    omega (
      arith,
      run_fits stretch c.args.played.now.frames.channels c.args.lanes.frames channels i 1 k inside piece (omega arith),
      same,
      c.requires.takes.whole,
    ) in
    record {
      each = search rules;
      small = λ yes j d below.
          let near : j < k = omega (arith, below, length-take k (drop a old)) in
          subst (IsWithin 32766) (sym (get_or-part a k j old d near ∙ c.loop-i.invariant.behind (a + j) d (omega arith)))
          (c.requires.takes.small yes (a + j) d (omega (arith, same, fit, near)));
    }

pub slice_bounds-add_row-end : goal.slice_bounds-add_row-end
slice_bounds-add_row-end c =
    let stretch = c.args.played.now.stretch in
    let channels = c.args.lanes.channels in
    let inside = c.requires.takes.inside in
    let a = (stretch.at + c.loop-i.i) * channels + (stretch.dest - 1) in
    let piece : IsRun 1 stretch.width c.args.played.now.frames.channels channels c.args.width =
    inl (refl, c.requires.wide) in
    let fits = run_fits stretch c.args.played.now.frames.channels c.args.lanes.frames channels c.loop-i.i 1 c.args.width inside piece
    (omega arith) in
    let fit : a + c.args.width ≤ length c.loop-i.sums =
    omega (arith, fits, c.loop-i.invariant.same_length, c.requires.takes.whole) in
    search (rules, fit)

pub returns : goal.returns
returns c = λ reading plays before are.
    let played = c.args.played.now in
    let end : c.loop-i.i ≡ played.stretch.length = omega arith in
    subst (λ (n : ℕ). AreSums (block_of c.args.lanes.frames c.args.lanes.channels c.loop-i.sums)
    (sums_with reading (record played.stretch { length = n }) played.shape before)) end
    (c.loop-i.invariant.played reading plays before are)
