-- Worked examples, computed from the definitions: a definition with another value does not check.
use Rattle.std.specs.Prelude.{◌≡◌, refl, ℕ, ◌-◌, ◌==◌, ℤ, pos, negsuc, ◌+ℤ◌, List, [], ◌∷◌, ◌++◌, take, drop, map, replicate, true, false, if◌then◌else◌, codes}
use Rattle.sound_terms.specs.declared.Depth.{Depth}
use Rattle.sound_terms.specs.declared.Depth.TheVariants.{Sixteen, TwentyFour}
use Rattle.sound_terms.specs.declared.Event.{Event}
use Rattle.sound_terms.specs.declared.BoundIndex.{BoundIndex}
use Rattle.sound_terms.specs.Mix.{Reading, share_of, full_scale, mix_at, quantized}
use Rattle.sound_terms.specs.Waves.{SoundInfo, file_length, data_place, bext_size, file_of, header_of, is_large, u16_bytes, u32_bytes, u64_bytes, zeros, chunk_head}
use Rattle.sound_terms.specs.Render.{rendering_of}

-- an event of four samples at time 100, over a file that begins at time 0, with the given fades
abbrev four_samples : ℕ → ℕ → Event
four_samples rise fall = record {
  number = 1;
  index = 1;
  source = record { first = 1; last = 1 };
  dest = record { first = 1; last = 1 };
  source_in = 0;
  dest_in = 100;
  dest_out = 104;
  rise = record { length = rise };
  fall = record { length = fall };
}

abbrev one_index : List BoundIndex
one_index = record { number = 1; file = 0; base = 0; addressable = 4 } ∷ []

-- a 16-bit mono file whose samples are all equal
abbrev constant : ℤ → Reading
constant sample file channel frame = full_scale 16 sample

abbrev heard : Reading → List Event → List ℤ
heard reading events =
    map (λ time. quantized 16 (mix_at reading one_index events 1 time)) (100 ∷ 101 ∷ 102 ∷ 103 ∷ [])

pub in_fade_of_four : heard (constant (pos 1000)) (four_samples 4 0 ∷ []) ≡ pos 0 ∷ pos 250 ∷ pos 500 ∷ pos 750 ∷ []
in_fade_of_four = refl

pub out_fade_of_four : heard (constant (pos 1000)) (four_samples 0 4 ∷ []) ≡ pos 1000 ∷ pos 750 ∷ pos 500 ∷ pos 250 ∷ []
out_fade_of_four = refl

-- negative shares are rounded down; rounded sums go to the nearest, halves up
pub shares_go_down : map (λ i. share_of (full_scale 16 (negsuc 0)) (i, 3)) (0 ∷ 1 ∷ 2 ∷ [])
    ≡ pos 0 ∷ negsuc 1431655765 ∷ negsuc 2863311530 ∷ []
shares_go_down = refl

pub fade_of_minus_one : map (quantized 16) (pos 0 ∷ negsuc 1431655765 ∷ negsuc 2863311530 ∷ [])
    ≡ pos 0 ∷ pos 0 ∷ negsuc 0 ∷ []
fade_of_minus_one = refl

pub halves_go_up : map (λ v. quantized 16 (share_of (full_scale 16 v) (1, 2))) (pos 1 ∷ negsuc 0 ∷ [])
    ≡ pos 1 ∷ pos 0 ∷ []
halves_go_up = refl

-- a crossfade of 3 samples of a constant sound; the second sum is 5 * 2 ^ 32 - 1
pub crossfade_is_exact : map (λ i. quantized 16 (share_of (full_scale 16 (pos 5)) (3 - i, 3)
    +ℤ share_of (full_scale 16 (pos 5)) (i, 3))) (0 ∷ 1 ∷ 2 ∷ []) ≡ pos 5 ∷ pos 5 ∷ pos 5 ∷ []
crossfade_is_exact = refl

pub crossfade_sum : share_of (full_scale 16 (pos 5)) (2, 3) +ℤ share_of (full_scale 16 (pos 5)) (1, 3) ≡ pos 21474836479
crossfade_sum = refl

-- 1000, -1000, 32767, -32768
abbrev pub four_values : Reading
four_values file channel frame = full_scale 16
    (if frame == 0 then pos 1000 else (if frame == 1 then negsuc 999
    else (if frame == 2 then pos 32767 else negsuc 32767)))

pub twice_is_clipped : heard four_values (four_samples 0 0 ∷ four_samples 0 0 ∷ [])
    ≡ pos 2000 ∷ negsuc 1999 ∷ pos 32767 ∷ negsuc 32767 ∷ []
twice_is_clipped = refl

-- 32767 + 32767 - 32768: partial sums are not clipped
pub sums_are_exact : quantized 16 (full_scale 16 (pos 32767)
    +ℤ (full_scale 16 (pos 32767) +ℤ full_scale 16 (negsuc 32767))) ≡ pos 32766
sums_are_exact = refl

-- an event is silent at `out` and at the sample before `in`
pub ends_are_silent : map (λ time. mix_at (constant (pos 1)) one_index (four_samples 0 0 ∷ []) 1 time) (99 ∷ 104 ∷ [])
    ≡ pos 0 ∷ pos 0 ∷ []
ends_are_silent = refl

pub wider_depth : quantized 24 (full_scale 16 (pos 1000)) ≡ pos 256000
wider_depth = refl

pub narrower_depth : map (λ v. quantized 16 (full_scale 24 v)) (pos 128 ∷ pos 127 ∷ negsuc 127 ∷ [])
    ≡ pos 1 ∷ pos 0 ∷ pos 0 ∷ []
narrower_depth = refl

-- sizes of written files
abbrev mono : Depth → ℕ → List ℕ → SoundInfo
mono depth frames history =
    record {
      channels = 1;
      depth = depth;
      frames = frames;
      text = replicate 338 0;
      time_reference = 0;
      history = history;
    }

pub one_frame_of_24_bits : file_length (mono TwentyFour 1 []) ≡ 694
one_frame_of_24_bits = refl

pub history_of_one_byte : bext_size (mono Sixteen 0 (65 ∷ [])) ∷ data_place (mono Sixteen 0 (65 ∷ [])) ∷ []
    ≡ 603 ∷ 692 ∷ []
history_of_one_byte = refl

pub longest_of_riff : map (λ frames. is_large (mono Sixteen frames [])) (2147483306 ∷ 2147483307 ∷ [])
    ≡ false ∷ true ∷ []
longest_of_riff = refl

-- the rendered file of 1000, -1000, 32767, -32768, starting at one hour: 698 bytes
abbrev pub rendered : List ℕ
rendered = rendering_of (record { from = 172800000; to = 172800004; channels = 1; depth = Sixteen })
    (λ channel time. four_values 0 channel (time - 172800000))

pub rendered_whole : rendered ≡
    codes "RIFF" ++ (178 ∷ 2 ∷ 0 ∷ 0 ∷ []) ++ codes "WAVEJUNK" ++ (28 ∷ 0 ∷ 0 ∷ 0 ∷ []) ++ replicate 28 0
    ++ codes "bext" ++ (90 ∷ 2 ∷ 0 ∷ 0 ∷ []) ++ replicate 338 0
    ++ (0 ∷ 184 ∷ 76 ∷ 10 ∷ 0 ∷ 0 ∷ 0 ∷ 0 ∷ 1 ∷ 0 ∷ []) ++ replicate 254 0
    ++ codes "fmt " ++ (16 ∷ 0 ∷ 0 ∷ 0 ∷ 1 ∷ 0 ∷ 1 ∷ 0 ∷ 128 ∷ 187 ∷ 0 ∷ 0 ∷ 0 ∷ 119 ∷ 1 ∷ 0 ∷ 2 ∷ 0 ∷ 16 ∷ 0 ∷ [])
    ++ codes "data" ++ (8 ∷ 0 ∷ 0 ∷ 0 ∷ []) ++ (232 ∷ 3 ∷ 24 ∷ 252 ∷ 255 ∷ 127 ∷ 0 ∷ 128 ∷ [])
unfolding rendering_of file_of header_of u16_bytes u32_bytes u64_bytes zeros chunk_head
rendered_whole = refl

-- one sample frame too many for RIFF: the first 80 and the last 8 bytes of the header
pub rf64_header : take 80 (header_of (mono Sixteen 2147483307 []))
    ++ drop 682 (header_of (mono Sixteen 2147483307 [])) ≡
    codes "RF64" ++ (255 ∷ 255 ∷ 255 ∷ 255 ∷ []) ++ codes "WAVEds64" ++ (28 ∷ 0 ∷ 0 ∷ 0 ∷ [])
    ++ (0 ∷ 0 ∷ 0 ∷ 0 ∷ 1 ∷ 0 ∷ 0 ∷ 0 ∷ []) ++ (86 ∷ 253 ∷ 255 ∷ 255 ∷ 0 ∷ 0 ∷ 0 ∷ 0 ∷ [])
    ++ (171 ∷ 254 ∷ 255 ∷ 127 ∷ 0 ∷ 0 ∷ 0 ∷ 0 ∷ []) ++ (0 ∷ 0 ∷ 0 ∷ 0 ∷ [])
    ++ codes "bext" ++ (90 ∷ 2 ∷ 0 ∷ 0 ∷ []) ++ replicate 24 0
    ++ codes "data" ++ (255 ∷ 255 ∷ 255 ∷ 255 ∷ [])
unfolding header_of u16_bytes u32_bytes u64_bytes zeros chunk_head
rf64_header = refl
