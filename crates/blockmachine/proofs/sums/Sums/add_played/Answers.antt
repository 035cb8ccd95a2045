use Rattle.std.proofs.Common.{◌≡◌, ◌<◌, ◌*◌, ℕ, true, List, ◌++◌, length, take, drop, rules, sym, ap, ◌∙◌, subst}
use Rattle.std.specs.Prelude.{ℤ}
use Rattle.std.proofs.lemmas.List.{length-map}
use Rattle.sound_terms.specs.Depth.{bits_of}
use Rattle.sound_terms.specs.Mix.{full_scale}
use Rattle.sound_terms.specs.Blocks.{FitsBlock}
use Rattle.blockmachine.specs.Sums.{AreFew, BlockSums, block_of, kept_sums, widened}
use Rattle.blockmachine.proofs.Counted.{few_after, played_as, written}
use Rattle.blockmachine.proofs.sums.Sums.add_played.Goals as goal

pub invariant_of-self : goal.invariant_of-self
invariant_of-self c =
    let inside = c.self.inside in
    let played = c.args.played.now in
    let bits = bits_of inside.depth in
    let n = inside.layers.len in
    let old = c.as_mut_slice.result.now in
    let new = c.add_layer.new.sums in
    let rest = drop (length new) inside.layers.items in
    let long : length new ≡ n = search rules in
    let whole : n ≡ inside.lanes.frames * inside.lanes.channels = search rules in
    let deep : inside.at_depth ≡ true = search rules in
    let fits : FitsBlock inside.lanes.frames inside.lanes.channels played.stretch =
    subst (λ (s : BlockSums). FitsBlock s.extent.frames s.extent.channels played.stretch) (sym c.self.view_is) c.requires in
    let over = written n new rest long in
    let counted = c.with-self-inside.ensures in
    let from = inside.additions.fewer_from * inside.lanes.channels in
    let before : inside.additions.most < 32767 → AreFew inside.additions.most from (widened bits old) = λ few.
    subst (λ (l : List ℤ). AreFew inside.additions.most from (widened bits l)) (sym c.as_mut_slice.ensures.value)
    (subst (λ b. AreFew inside.additions.most from (kept_sums b bits inside.layers.items inside.values.items)) deep
    (c.self.invariant.2 few)) in (
      c.self.invariant.0,
      ap (λ (l : List ℤ). length l) over ∙ long ∙ whole,
      λ few.
          subst (λ b. AreFew c.with-self-inside.result.most (c.with-self-inside.result.fewer_from * inside.lanes.channels)
          (kept_sums b bits (take n (new ++ rest)) inside.values.items)) (sym deep)
          (subst (λ (l : List ℤ). AreFew c.with-self-inside.result.most
          (c.with-self-inside.result.fewer_from * inside.lanes.channels) (widened bits l)) (sym over)
          (subst (λ (m : ℕ). AreFew c.with-self-inside.result.most (m * inside.lanes.channels) (widened bits new))
          (sym counted.from)
          (few_after played.stretch played.shape played.frames.channels inside.lanes.frames inside.lanes.channels played.frames.depth
          played.frames.samples.now (widened bits old) (widened bits new) fits played.ramp played.frames.fit
          played.whole played.source (length-map new (full_scale bits) ∙ long ∙ whole)
          (length-map old (full_scale bits) ∙ search rules ∙ sym (length-map new (full_scale bits)))
          c.add_layer.ensures inside.additions.most inside.additions.fewer_from
          c.with-self-inside.result.most before few (counted.counted few)))),
    )

pub invariant_of-self-2 : goal.invariant_of-self-2
invariant_of-self-2 c =
    let inside = c.self.inside in
    let played = c.args.played.now in
    let n = inside.values.len in
    let wide = c.widen_layers.new.values in
    let old = c.as_mut_slice-3.result.now in
    let new = c.add_played.new.sums in
    let beyond = drop (length wide) inside.values.items in
    let rest = drop (length new) (take n (wide ++ beyond)) in
    let long_wide : length wide ≡ n = search rules in
    let long : length new ≡ n = search rules in
    let whole : n ≡ inside.lanes.frames * inside.lanes.channels = search rules in
    let kept : List ℤ → List ℤ → List ℤ = kept_sums inside.at_depth (bits_of inside.depth) in
    let is : old ≡ kept inside.layers.items inside.values.items =
    c.as_mut_slice-3.ensures.value ∙ written n wide beyond long_wide ∙ c.widen_layers.ensures
    ∙ ap (λ (l : List ℤ). kept l c.as_mut_slice-2.result.now) c.as_slice-layers.ensures.value
    ∙ ap (kept inside.layers.items) c.as_mut_slice-2.ensures.value in
    let fits : FitsBlock inside.lanes.frames inside.lanes.channels played.stretch =
    subst (λ (s : BlockSums). FitsBlock s.extent.frames s.extent.channels played.stretch) (sym c.self.view_is) c.requires in
    let over = written n new rest long in
    let counted = c.with-self-inside-2.ensures in
    let from = inside.additions.fewer_from * inside.lanes.channels in
    let before : inside.additions.most < 32767 → AreFew inside.additions.most from old = λ few.
    subst (AreFew inside.additions.most from) (sym is) (c.self.invariant.2 few) in (
      ap (λ (l : List ℤ). length l) over ∙ long ∙ whole,
      c.self.invariant.1,
      λ few.
          subst (AreFew c.with-self-inside-2.result.most (c.with-self-inside-2.result.fewer_from * inside.lanes.channels)) (sym over)
          (subst (λ (m : ℕ). AreFew c.with-self-inside-2.result.most (m * inside.lanes.channels) new) (sym counted.from)
          (few_after played.stretch played.shape played.frames.channels inside.lanes.frames inside.lanes.channels played.frames.depth
          played.frames.samples.now old new fits played.ramp played.frames.fit played.whole played.source
          (long ∙ whole) (search rules) c.add_played.ensures inside.additions.most inside.additions.fewer_from
          c.with-self-inside-2.result.most before few (counted.counted few))),
    )

pub returns-clause-played : goal.returns-clause-played
returns-clause-played c =
    let inside = c.self.inside in
    let played = c.args.played.now in
    let n = inside.values.len in
    let wide = c.widen_layers.new.values in
    let old = c.as_mut_slice-3.result.now in
    let new = c.add_played.new.sums in
    let beyond = drop (length wide) inside.values.items in
    let rest = drop (length new) (take n (wide ++ beyond)) in
    let long_wide : length wide ≡ n = search rules in
    let long : length new ≡ n = search rules in
    let kept : List ℤ → List ℤ → List ℤ = kept_sums inside.at_depth (bits_of inside.depth) in
    let is : old ≡ kept inside.layers.items inside.values.items =
    c.as_mut_slice-3.ensures.value ∙ written n wide beyond long_wide ∙ c.widen_layers.ensures
    ∙ ap (λ (l : List ℤ). kept l c.as_mut_slice-2.result.now) c.as_slice-layers.ensures.value
    ∙ ap (kept inside.layers.items) c.as_mut_slice-2.ensures.value in
    let sums : List ℤ → BlockSums = λ l. block_of inside.lanes.frames inside.lanes.channels l in
    played_as played.stretch played.shape played.frames.channels (bits_of played.frames.depth)
    played.frames.samples.now (sums old) c.args.self.now (sums new) (sums (take n (new ++ rest)))
    (ap sums is ∙ c.self.view_is) (ap sums (sym (written n new rest long))) c.add_played.ensures
