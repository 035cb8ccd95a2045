-- Laws of what is clipped.
use Rattle.std.proofs.Common.{◌≡◌, ◌∙◌, ℕ, ◌+◌, ◌-◌, ◌/◌, Bool, false, List, [], ap, subst, sym, arith}
use Rattle.std.proofs.lemmas.List.Elements.{All-from_get_or}
use Rattle.std.specs.Prelude.{ℤ, pos, slice_index_or, if◌then◌else◌}
use Rattle.std.specs.List.{All}
use Rattle.clipping.specs.declared.tally.Clips.{Clips}
use Rattle.clipping.specs.Clips.{block_sums}
use Rattle.clipping.specs.Laws.{block_sums-alike}
use Rattle.sound_terms.specs.Blocks.{block_length}
use Rattle.sound_terms.specs.Render.{Range}
use Rattle.rendering.specs.Clipping.{Clip, ClipsUnmarked, sums_from, unmarked}
use Rattle.rendering.specs.Cut.{IsUniform, no_stretch}
use Rattle.rendering.specs.Work.{RenderWork, done_before}

-- mixes that are the same have the same sums
pub sums_same : (range : Range) (mix other : ℕ → ℕ → ℤ) (time n : ℕ)
    → ((channel time : ℕ) → mix channel time ≡ other channel time)
    → sums_from range mix time n ≡ sums_from range other time n
sums_same range mix other time n same =
    let here : 0 + time ≡ time = omega arith in
    block_sums-alike (λ t c. mix c t) (λ t c. other c t) 0 range.channels time n
    (λ k c from to one few. same c k ∙ ap (λ (t : ℕ). other c t) (omega arith))
    ∙ ap (λ (t : ℕ). block_sums (λ t c. other c t) range.channels t n) here

-- and the same of them is clipped
pub clips_same : (marked : List Bool) (range : Range) (mix other : ℕ → ℕ → ℤ) (clips : Clips)
    → ((channel time : ℕ) → mix channel time ≡ other channel time)
    → ClipsUnmarked marked range mix clips → ClipsUnmarked marked range other clips
clips_same marked range mix other clips same = subst (λ (sums : List ℤ). Clip range sums clips)
    (sums_same range (unmarked marked range mix) (unmarked marked range other) range.from (range.to - range.from)
    (λ channel time. ap (λ (z : ℤ). if slice_index_or marked ((time - range.from) / block_length) false then pos 0 else z)
    (same channel time)))

-- where no block is done, none is marked
pub fresh_uniform : (work : RenderWork) → ((k : ℕ) → done_before work k ≡ false) → All (IsUniform []) work.stretches
fresh_uniform work fresh = All-from_get_or (IsUniform []) work.stretches no_stretch (λ i below b from to. sym (fresh i))
