use Rattle.std.proofs.Common.{◌≡◌, ◌<◌, ◌*◌, ℕ, true, List, ◌++◌, length, take, drop, rules, sym, ap, ◌∙◌, subst}
use Rattle.std.specs.Prelude.{ℤ}
use Rattle.std.proofs.lemmas.List.{length-map}
use Rattle.sound_terms.specs.declared.Depth.{Depth}
use Rattle.sound_terms.specs.Depth.{bits_of}
use Rattle.sound_terms.specs.Mix.{full_scale}
use Rattle.sound_terms.specs.Blocks.{FitsBlock}
use Rattle.pcm.specs.Laws.{length-samples_in}
use Rattle.pcm.specs.Samples.{samples_in}
use Rattle.blockmachine.specs.Sums.{AreFew, BlockSums, HasPlayed, block_of, kept_sums, widened}
use Rattle.blockmachine.proofs.Counted.{few_after, played_as, written}
use Rattle.blockmachine.proofs.sums.Sums.add.Goals as goal

pub invariant_of-self : goal.invariant_of-self
invariant_of-self c =
    let inside = c.self.inside in
    let stored = c.args.stored.now in
    let bits = bits_of inside.depth in
    let n = inside.layers.len in
    let old = c.as_mut_slice.result.now in
    let new = c.add_stored_layer.new.sums in
    let rest = drop (length new) inside.layers.items in
    let long : length new ≡ n = search rules in
    let whole : n ≡ inside.lanes.frames * inside.lanes.channels = search rules in
    let deep : inside.at_depth ≡ true = search rules in
    let same : stored.depth ≡ inside.depth = (c.is_stored_layer.ensures.same_depth (search rules)) in
    let layer : HasPlayed stored.stretch stored.shape stored.channels (bits_of stored.depth)
    (samples_in (bits_of stored.depth) (stored.stretch.length * stored.channels) stored.bytes.now)
    (block_of inside.lanes.frames inside.lanes.channels (widened bits old))
    (block_of inside.lanes.frames inside.lanes.channels (widened bits new)) =
    subst (λ (d : Depth). HasPlayed stored.stretch stored.shape stored.channels (bits_of stored.depth)
    (samples_in (bits_of stored.depth) (stored.stretch.length * stored.channels) stored.bytes.now)
    (block_of inside.lanes.frames inside.lanes.channels (widened (bits_of d) old))
    (block_of inside.lanes.frames inside.lanes.channels (widened (bits_of d) new))) same c.add_stored_layer.ensures.played in
    let fits : FitsBlock inside.lanes.frames inside.lanes.channels stored.stretch =
    subst (λ (s : BlockSums). FitsBlock s.extent.frames s.extent.channels stored.stretch) (sym c.self.view_is) c.requires.inside in
    let over = written n new rest long in
    let counted = c.with-self-inside.ensures in
    let from = inside.additions.fewer_from * inside.lanes.channels in
    let before : inside.additions.most < 32767 → AreFew inside.additions.most from (widened bits old) = λ few.
    subst (λ (l : List ℤ). AreFew inside.additions.most from (widened bits l)) (sym c.as_mut_slice.ensures.value)
    (subst (λ b. AreFew inside.additions.most from (kept_sums b bits inside.layers.items inside.values.items)) deep
    (c.self.invariant.2 few)) in (
      c.self.invariant.0,
      ap (λ (l : List ℤ). length l) over ∙ long ∙ whole,
      λ few.
          subst (λ b. AreFew c.with-self-inside.result.most (c.with-self-inside.result.fewer_from * inside.lanes.channels)
          (kept_sums b bits (take n (new ++ rest)) inside.values.items)) (sym deep)
          (subst (λ (l : List ℤ). AreFew c.with-self-inside.result.most
          (c.with-self-inside.result.fewer_from * inside.lanes.channels) (widened bits l)) (sym over)
          (subst (λ (m : ℕ). AreFew c.with-self-inside.result.most (m * inside.lanes.channels) (widened bits new))
          (sym counted.from)
          (few_after stored.stretch stored.shape stored.channels inside.lanes.frames inside.lanes.channels stored.depth
          (samples_in (bits_of stored.depth) (stored.stretch.length * stored.channels) stored.bytes.now)
          (widened bits old) (widened bits new) fits stored.ramp
          c.add_stored_layer.ensures.fit
          (length-samples_in (bits_of stored.depth) (stored.stretch.length * stored.channels) stored.bytes.now)
          stored.source (length-map new (full_scale bits) ∙ long ∙ whole)
          (length-map old (full_scale bits) ∙ search rules ∙ sym (length-map new (full_scale bits)))
          layer inside.additions.most inside.additions.fewer_from
          c.with-self-inside.result.most before few (counted.counted few)))),
    )

pub returns-then-is_stored_layer-clause-played : goal.returns-then-is_stored_layer-clause-played
returns-then-is_stored_layer-clause-played c =
    let inside = c.self.inside in
    let stored = c.args.stored.now in
    let bits = bits_of inside.depth in
    let n = inside.layers.len in
    let old = c.as_mut_slice.result.now in
    let new = c.add_stored_layer.new.sums in
    let rest = drop (length new) inside.layers.items in
    let long : length new ≡ n = search rules in
    let deep : inside.at_depth ≡ true = search rules in
    let same : stored.depth ≡ inside.depth = c.is_stored_layer.ensures.same_depth (search rules) in
    let sums : List ℤ → BlockSums = λ l. block_of inside.lanes.frames inside.lanes.channels l in
    let kept : List ℤ → List ℤ = λ l. kept_sums inside.at_depth bits l inside.values.items in
    let is : (l : List ℤ) → widened (bits_of stored.depth) l ≡ kept l = λ l.
    ap (λ (d : Depth). widened (bits_of d) l) same ∙ sym (ap (λ b. kept_sums b bits l inside.values.items) deep) in
    played_as stored.stretch stored.shape stored.channels (bits_of stored.depth)
    (samples_in (bits_of stored.depth) (stored.stretch.length * stored.channels) stored.bytes.now)
    (sums (widened (bits_of stored.depth) old)) c.args.self.now (sums (widened (bits_of stored.depth) new))
    (sums (kept (take n (new ++ rest))))
    (ap sums (is old ∙ ap kept c.as_mut_slice.ensures.value) ∙ c.self.view_is)
    (ap sums (is new ∙ ap kept (sym (written n new rest long)))) c.add_stored_layer.ensures.played
