-- Samples read are the ones that a stretch plays, and the parts of a stretch make up the whole.
use Rattle.std.proofs.Common.{◌≡◌, ◌⊎◌, inl, inr, ℕ, ◌+◌, ◌-◌, ◌*◌, ◌/◌, ◌<◌, ◌≤◌, Bool, true, false, List, Some, length, drop, refl, sym, ap, ◌∙◌, arith}
use Rattle.std.specs.Prelude.{ℤ, ◌+ℤ◌, ◌&&◌, nat_le, nat_lt, if◌then◌else◌, slice_get}
use Rattle.std.proofs.lemmas.Bool.{cases_lt}
use Rattle.std.proofs.lemmas.Bool.Decides.{nat_tests}
use Rattle.sound_terms.specs.Depth.{bits_of}
use Rattle.sound_terms.specs.declared.block.Stretch.{Stretch}
use Rattle.sound_terms.specs.declared.piece.Shape.{Shape}
use Rattle.sound_terms.specs.Sounds.{SoundFacts, reading_by}
use Rattle.sound_terms.specs.Media.{frame_length}
use Rattle.sound_terms.specs.Waves.{sample_of}
use Rattle.sound_terms.specs.Mix.{Reading, full_scale}
use Rattle.sound_terms.specs.Passes.{shape_behind}
use Rattle.sound_terms.specs.GroupLaws.{fraction_behind}
use Rattle.sound_terms.specs.Blocks.{held, share_at, sums_with}
use Rattle.work_terms.specs.Disk.{Files}
use Rattle.devices.specs.declared.fault.ShelfFault.{ShelfFault}
use Rattle.devices.specs.declared.fault.ShelfFault.TheVariants as shelf
use Rattle.wavread.specs.Facts.{AreFrames}
use Rattle.blockmachine.specs.Playing.{Plays}

pub device_of : (fault : ShelfFault) → (fault ≡ shelf.NotFound → ⊥) → fault ≡ shelf.Device
device_of shelf.NotFound other = absurd (other refl)
device_of shelf.Device other = refl

-- a sample of an open file
heard_sample : (files : Files) (sounds : List SoundFacts) (facts : SoundFacts) (n channel frame : ℕ) (file : List ℕ)
    → slice_get sounds n ≡ Some facts → files facts.name ≡ Some file → frame < facts.frames → 1 ≤ channel
    → channel ≤ facts.channels
    → reading_by files sounds n channel frame
    ≡ full_scale (bits_of facts.depth) (sample_of (bits_of facts.depth)
    (drop (facts.offset + (frame * facts.channels + (channel - 1)) * ((bits_of facts.depth) / 8)) file))
heard_sample files sounds facts n channel frame file there stored inside first last =
    let frames : nat_lt frame facts.frames ≡ true = grind (arith, nat_tests) in
    let low : nat_le 1 channel ≡ true = grind (arith, nat_tests) in
    let high : nat_le channel facts.channels ≡ true = grind (arith, nat_tests) in
    rw (there, stored, frames, low, high) refl

pub plays_sound : (files : Files) (sounds : List SoundFacts) (facts : SoundFacts) (part : Stretch) (file : List ℕ)
    (frames : List ℤ)
    → slice_get sounds part.file ≡ Some facts → files facts.name ≡ Some file
    → AreFrames file (facts.offset + part.frame * frame_length facts) (bits_of facts.depth) frames
    → length frames ≡ part.length * facts.channels
    → 1 ≤ part.first → part.first + part.width ≤ facts.channels + 1 → part.frame + part.length ≤ facts.frames
    → Plays (reading_by files sounds) part facts.channels (bits_of facts.depth) frames
plays_sound files sounds facts part file frames there stored are whole first last inside = λ i j below on.
    let row : (i + 1) * facts.channels ≤ part.length * facts.channels = grind arith in
    let k = i * facts.channels + (part.first - 1 + j) in
    let within : k < length frames = omega arith in
    let place : facts.offset + part.frame * frame_length facts + k * ((bits_of facts.depth) / 8)
    ≡ facts.offset + ((part.frame + i) * facts.channels + (part.first + j - 1)) * ((bits_of facts.depth) / 8) =
    let channel : part.first - 1 + j ≡ part.first + j - 1 = omega arith in rw channel (omega arith) in
    ap (full_scale (bits_of facts.depth)) (are k within ∙ ap (λ m. sample_of (bits_of facts.depth) (drop m file)) place)
    ∙ sym (heard_sample files sounds facts part.file (part.first + j) (part.frame + i) file there stored (omega arith)
    (omega arith) (omega arith))

abbrev front_of : Stretch → ℕ → Stretch
front_of stretch done = record stretch { length = done }

abbrev pub part_behind : Stretch → (done count : ℕ) → Stretch
part_behind stretch done count = record stretch { at = stretch.at + done; length = count; frame = stretch.frame + done }

-- at any time one of two parts of a stretch is active, and it adds the samples of the whole
two_parts : (a b : Bool) (at done count i : ℕ) (x y old : ℤ) → (at + done ≤ i → y ≡ x)
    → (if a && (b && (nat_le (at + done) i && nat_lt i (at + done + count)))
    then held ((if a && (b && (nat_le at i && nat_lt i (at + done))) then held (old +ℤ x) else old) +ℤ y)
    else (if a && (b && (nat_le at i && nat_lt i (at + done))) then held (old +ℤ x) else old))
    ≡ (if a && (b && (nat_le at i && nat_lt i (at + (done + count)))) then held (old +ℤ x) else old)
two_parts false b at done count i x y old same = refl
two_parts true false at done count i x y old same = refl
two_parts true true at done count i x y old same = by_place (cases_lt i (at + done)) where
  by_place : (i < at + done) ⊎ (at + done ≤ i)
      → (if nat_le (at + done) i && nat_lt i (at + done + count)
      then held ((if nat_le at i && nat_lt i (at + done) then held (old +ℤ x) else old) +ℤ y)
      else (if nat_le at i && nat_lt i (at + done) then held (old +ℤ x) else old))
      ≡ (if nat_le at i && nat_lt i (at + (done + count)) then held (old +ℤ x) else old)
  by_place (inl before) =
      let later : nat_le (at + done) i ≡ false = grind (arith, nat_tests) in
      let here : nat_lt i (at + done) ≡ true = grind (arith, nat_tests) in
      let whole : nat_lt i (at + (done + count)) ≡ true = grind (arith, nat_tests) in
      rw (later, here, whole) refl
  by_place (inr behind) =
      let later : nat_le (at + done) i ≡ true = grind (arith, nat_tests) in
      let begun : nat_le at i ≡ true = grind (arith, nat_tests) in
      let here : nat_lt i (at + done) ≡ false = grind (arith, nat_tests) in
      let ends : at + done + count ≡ at + (done + count) = omega arith in
      rw (later, begun, here, ends, same behind) refl

-- one more part
pub part_more : (reading : Reading) (stretch : Stretch) (shape : Shape) (done count : ℕ) (before : ℕ → ℕ → ℤ) (i c : ℕ)
    → sums_with reading (part_behind stretch done count) (shape_behind done shape)
    (sums_with reading (front_of stretch done) shape before) i c
    ≡ sums_with reading (front_of stretch (done + count)) shape before i c
part_more reading stretch shape done count before i c =
    two_parts (nat_le stretch.dest c) (nat_lt c (stretch.dest + stretch.width)) stretch.at done count i _ _ (before i c)
    same where
      same : stretch.at + done ≤ i
          → share_at reading (part_behind stretch done count) (shape_behind done shape) i c
          ≡ share_at reading stretch shape i c
      same behind =
          let frames : stretch.frame + done + (i - (stretch.at + done)) ≡ stretch.frame + (i - stretch.at) =
          omega arith in
          let samples : done + (i - (stretch.at + done)) ≡ i - stretch.at = omega arith in
          rw (frames, fraction_behind shape done (i - (stretch.at + done)), samples) refl
