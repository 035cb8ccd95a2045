-- Equal stored samples of two files play the same, and programs that add the same have equal sums.
use Rattle.std.proofs.Common.{◌≡◌, ℕ, zero, suc, ◌+◌, ◌-◌, ◌*◌, ◌/◌, ◌^◌, ◌<◌, ◌≤◌, true, List, [], ◌∷◌, Some, length, map, take, drop, get_or, refl, sym, ap, ◌∙◌, subst, arith}
use Rattle.std.specs.Prelude.{ℤ, pos, negsuc, neg_ℤ, ◌≤ℤ◌, nat_le, nat_lt, slice_get}
use Rattle.std.specs.List.{All}
use Rattle.std.proofs.lemmas.Bool.Decides.{nat_tests}
use Rattle.std.proofs.lemmas.Int.{ints}
use Rattle.std.proofs.Math.IntN.{negsuc-*ℤ-pos, pos-*ℤ-pos}
use Rattle.sound_terms.specs.declared.Depth.{Depth}
use Rattle.sound_terms.specs.declared.Depth.TheVariants.{Sixteen, TwentyFour, ThirtyTwo}
use Rattle.sound_terms.specs.declared.block.Instruction.{Instruction}
use Rattle.sound_terms.specs.declared.block.Instruction.TheVariants.{Start}
use Rattle.sound_terms.specs.Depth.{bits_of}
use Rattle.sound_terms.specs.Media.{frame_length}
use Rattle.sound_terms.specs.Mix.{Reading, full_scale}
use Rattle.sound_terms.specs.Blocks.{BlockState, PlaysFull, block_frames, block_start, executed, executed_all}
use Rattle.sound_terms.specs.Render.{Range}
use Rattle.sound_terms.specs.Sounds.{SoundFacts, reading_by}
use Rattle.sound_terms.specs.Waves.{sample_of}
use Rattle.work_terms.specs.Disk.{Files, IsRange}
use Rattle.devices.specs.declared.fault.ShelfFault.{ShelfFault}
use Rattle.devices.specs.declared.fault.ShelfFault.TheVariants as shelf
use Rattle.pcm.specs.Samples.{FitsDepth, samples_in}
use Rattle.pcm.specs.Laws.{AreBytes, all_fit, get_or-samples_in_file, length-samples_in}
use Rattle.comparison.specs.Alike.{AreAlike}
use Rattle.comparison.specs.declared.matches.Match.{Match}
use Rattle.comparison.specs.Matched.{AreSameFrames}
use Rattle.comparison.specs.Stored.{AddAlike, HoldFrames, SumAlike, full_samples}

pub device_of : (fault : ShelfFault) → (fault ≡ shelf.NotFound → ⊥) → fault ≡ shelf.Device
device_of shelf.NotFound other = absurd (other refl)
device_of shelf.Device other = refl

-- ---- samples read

abbrev Within : ℤ → Type 0
Within z = (neg_ℤ (pos (2 ^ 47)) ≤ℤ z) × (z ≤ℤ pos (2 ^ 47))

-- a sample of a depth at full scale
full16 : (z : ℤ) → FitsDepth 16 z → Within (full_scale 16 z)
full16 (pos n) fits =
    subst Within (sym (pos-*ℤ-pos n (2 ^ 32))) (omega (arith, ints, fits.0), omega (arith, ints, fits.1))
full16 (negsuc n) fits =
    subst Within (sym (negsuc-*ℤ-pos n (2 ^ 32))) (omega (arith, ints, fits.0), omega (arith, ints, fits.1))

full24 : (z : ℤ) → FitsDepth 24 z → Within (full_scale 24 z)
full24 (pos n) fits =
    subst Within (sym (pos-*ℤ-pos n (2 ^ 24))) (omega (arith, ints, fits.0), omega (arith, ints, fits.1))
full24 (negsuc n) fits =
    subst Within (sym (negsuc-*ℤ-pos n (2 ^ 24))) (omega (arith, ints, fits.0), omega (arith, ints, fits.1))

full32 : (z : ℤ) → FitsDepth 32 z → Within (full_scale 32 z)
full32 (pos n) fits =
    subst Within (sym (pos-*ℤ-pos n (2 ^ 16))) (omega (arith, ints, fits.0), omega (arith, ints, fits.1))
full32 (negsuc n) fits =
    subst Within (sym (negsuc-*ℤ-pos n (2 ^ 16))) (omega (arith, ints, fits.0), omega (arith, ints, fits.1))

full_sample : (depth : Depth) (z : ℤ) → FitsDepth (bits_of depth) z → Within (full_scale (bits_of depth) z)
full_sample Sixteen z fits = full16 z fits
full_sample TwentyFour z fits = full24 z fits
full_sample ThirtyTwo z fits = full32 z fits

-- a sample of an open file
heard_sample : (files : Files) (sounds : List SoundFacts) (facts : SoundFacts) (n channel frame : ℕ) (file : List ℕ)
    → slice_get sounds n ≡ Some facts → files facts.name ≡ Some file → frame < facts.frames → 1 ≤ channel
    → channel ≤ facts.channels
    → reading_by files sounds n channel frame
    ≡ full_scale (bits_of facts.depth) (sample_of (bits_of facts.depth)
    (drop (facts.offset + (frame * facts.channels + (channel - 1)) * (bits_of facts.depth / 8)) file))
heard_sample files sounds facts n channel frame file there stored inside first last =
    let frames : nat_lt frame facts.frames ≡ true = grind (arith, nat_tests) in
    let low : nat_le 1 channel ≡ true = grind (arith, nat_tests) in
    let high : nat_le channel facts.channels ≡ true = grind (arith, nat_tests) in
    rw (there, stored, frames, low, high) refl

-- the sample at an index, at full scale
full_at : (depth : ℕ) (samples : List ℤ) (k : ℕ) (d : ℤ)
    → get_or (map (full_scale depth) samples) k (full_scale depth d) ≡ full_scale depth (get_or samples k d)
full_at depth [] k d = refl
full_at depth (sample ∷ more) zero d = refl
full_at depth (sample ∷ more) (suc k) d = full_at depth more k d

zero_full : (depth : ℕ) → full_scale depth (pos 0) ≡ pos 0
zero_full depth =
    let none : 0 * 2 ^ (48 - depth) ≡ 0 = omega arith in pos-*ℤ-pos 0 (2 ^ (48 - depth)) ∙ ap pos none

-- the bytes read are these sample frames
pub read_held : (files : Files) (sounds : List SoundFacts) (facts : SoundFacts) (file from n : ℕ) (bytes : List ℕ)
    → slice_get sounds file ≡ Some facts
    → IsRange (files facts.name) (facts.offset + from * frame_length facts) bytes
    → length bytes ≡ n * facts.channels * (bits_of facts.depth / 8) → from + n ≤ facts.frames → AreBytes bytes
    → HoldFrames (reading_by files sounds) facts.channels (bits_of facts.depth) file from n bytes
read_held files sounds facts file from n bytes there range whole inside small channel i first last below =
    let bits = bits_of facts.depth in
    let total = n * facts.channels in
    let samples = samples_in bits total bytes in
    let start = facts.offset + from * frame_length facts in
    let k = i * facts.channels + (channel - 1) in
    let row : (i + 1) * facts.channels ≤ n * facts.channels = grind arith in
    let within : k < total = omega arith in
    let stored : bytes ≡ take (total * (bits / 8)) (drop start range.file) =
    range.same ∙ ap (λ m. take m (drop start range.file)) whole in
    let position : start + k * (bits / 8)
    ≡ facts.offset + ((from + i) * facts.channels + (channel - 1)) * (bits / 8) = omega arith in
    let heard : reading_by files sounds file channel (from + i) ≡ full_scale bits (get_or samples k (pos 0)) =
    heard_sample files sounds facts file channel (from + i) range.file there range.there (omega arith) first last
    ∙ sym (ap (full_scale bits) (get_or-samples_in_file bits total k start range.file bytes (pos 0) stored within
    ∙ ap (λ m. sample_of bits (drop m range.file)) position)) in
    let at : get_or (full_samples bits total bytes) k (pos 0) ≡ full_scale bits (get_or samples k (pos 0)) =
    ap (get_or (full_samples bits total bytes) k) (sym (zero_full bits)) ∙ full_at bits samples k (pos 0) in
    let full : Within (reading_by files sounds file channel (from + i)) =
    subst Within (sym heard)
    (full_sample facts.depth (get_or samples k (pos 0))
    (all_fit facts.depth total bytes small k (pos 0) (omega (arith, within, length-samples_in bits total bytes)))) in
    (heard ∙ sym at, full.0, full.1)

-- equal stored samples form a match
same_frames : (reading other : Reading) (found : Match) (depth other_depth : ℕ) (bytes others : List ℕ)
    → full_samples depth ((found.end - found.frame) * found.channels) bytes
    ≡ full_samples other_depth ((found.end - found.frame) * found.channels) others
    → HoldFrames reading found.channels depth found.file found.frame (found.end - found.frame) bytes
    → HoldFrames other found.channels other_depth found.other_file found.other_frame (found.end - found.frame) others
    → AreSameFrames reading other found
same_frames reading other found depth other_depth bytes others same mine theirs channel i first last below =
    let held = mine channel i first last below in (
      held.0 ∙ ap (λ (l : List ℤ). get_or l (i * found.channels + (channel - 1)) (pos 0)) same
          ∙ sym (theirs channel i first last below).0,
      held.1,
      held.2,
    )

-- equal bytes read from both files form a match
pub match_same : (reading other : Reading) (found : Match) (facts other_facts : SoundFacts) (channels : ℕ)
    (depth other_depth : Depth) (bytes others : List ℕ) → channels ≡ found.channels → facts.channels ≡ found.channels
    → other_facts.channels ≡ found.channels → depth ≡ facts.depth → other_depth ≡ other_facts.depth
    → length bytes ≡ (found.end - found.frame) * channels * (bits_of depth / 8)
    → length others ≡ (found.end - found.frame) * channels * (bits_of other_depth / 8)
    → full_samples (bits_of depth) ((found.end - found.frame) * channels) bytes
    ≡ full_samples (bits_of other_depth) ((found.end - found.frame) * channels) others
    → (length bytes ≡ (found.end - found.frame) * facts.channels * (bits_of facts.depth / 8)
    → HoldFrames reading facts.channels (bits_of facts.depth) found.file found.frame (found.end - found.frame) bytes)
    → (length others ≡ (found.end - found.frame) * other_facts.channels * (bits_of other_facts.depth / 8)
    → HoldFrames other other_facts.channels (bits_of other_facts.depth) found.other_file found.other_frame
    (found.end - found.frame) others) → AreSameFrames reading other found
match_same reading other found facts other_facts channels depth other_depth bytes others wide chan other_chan deep
    other_deep whole others_whole same held others_held =
    let n = found.end - found.frame in
    same_frames reading other found (bits_of facts.depth) (bits_of other_facts.depth) bytes others
    (rw (← wide, ← deep, ← other_deep) same)
    (subst (λ (m : ℕ). HoldFrames reading m (bits_of facts.depth) found.file found.frame n bytes) chan
    (held (rw (chan, ← wide, ← deep) whole)))
    (subst (λ (m : ℕ). HoldFrames other m (bits_of other_facts.depth) found.other_file found.other_frame n others)
    other_chan (others_held (rw (other_chan, ← wide, ← other_deep) others_whole)))

-- ---- programs

programs_alike : (reading other : Reading) (channels : ℕ) (lines counterparts : List Instruction)
    → SumAlike reading other lines counterparts → (before after : BlockState)
    → ((i channel : ℕ) → before.sums i channel ≡ after.sums i channel) → (i channel : ℕ)
    → (executed_all reading channels lines before).sums i channel
    ≡ (executed_all other channels counterparts after).sums i channel
programs_alike reading other channels [] [] alike before after same i channel = same i channel
programs_alike reading other channels [] (line ∷ lines) alike before after same i channel =
    absurd (omega (arith, alike.alike_many))
programs_alike reading other channels (line ∷ lines) [] alike before after same i channel =
    absurd (omega (arith, alike.alike_many))
programs_alike reading other channels (line ∷ lines) (counterpart ∷ counterparts) alike before after same i channel =
    let first : AddAlike reading other line counterpart = alike.each 0 (Start 0) (omega arith) in
    let rest : SumAlike reading other lines counterparts = record {
      alike_many = omega (arith, alike.alike_many);
      each = λ k d below. alike.each (suc k) d (omega (arith, below));
    } in
    programs_alike reading other channels lines counterparts rest (executed reading channels line before)
    (executed other channels counterpart after) (first.sums channels before after same) i channel

-- a block in which two programs have equal sums
module _ (range : Range) (k : ℕ) (reading other : Reading) (lines counterparts : List Instruction)
    (alike : SumAlike reading other lines counterparts) (mix mixed : ℕ → ℕ → ℤ)
    (sums : All (PlaysFull reading) lines → (start : BlockState) (i channel : ℕ) → i < block_frames range k
    → channel ≤ range.channels
    → (executed_all reading range.channels lines start).sums i channel ≡ mix channel (block_start range k + i))
    (others : All (PlaysFull other) counterparts → (start : BlockState) (i channel : ℕ) → i < block_frames range k
    → channel ≤ range.channels
    → (executed_all other range.channels counterparts start).sums i channel ≡ mixed channel (block_start range k + i))
  where
    pub block_alike :
        AreAlike (block_start range k) (block_start range k + block_frames range k) range.channels mix mixed
    block_alike channel time first last begun ends =
        let from = block_start range k in
        let i = time - from in
        let start : BlockState = record { frames = 0; sums = λ i channel. pos 0; out = [] } in
        let here : from + i ≡ time = omega (arith, begun) in
        let below : i < block_frames range k = omega (arith, begun, ends) in
        let full : All (PlaysFull reading) lines = λ n d inside. (alike.each n d inside).full in
        let other_full : All (PlaysFull other) counterparts =
        λ n d inside. (alike.each n d (omega (arith, inside, alike.alike_many))).other_full in
        subst (λ (t : ℕ). mix channel t ≡ mixed channel t) here
        (sym (sums full start i channel below last)
        ∙ programs_alike reading other range.channels lines counterparts alike start start (λ i channel. refl) i channel
        ∙ others other_full start i channel below last)
