-- The format depends only on the first forty bytes of its chunk.
use Rattle.std.proofs.Common.{◌≡◌, ℕ, ◌+◌, ◌-◌, ◌≤◌, Bool, true, false, nat_le, min, List, Option, None, Some, Result, Ok, Err, length, take, drop, refl, sym, ap, ◌∙◌, arith, length-take, lit≤}
use Rattle.std.proofs.lemmas.Bool.Decides.{nat_tests}
use Rattle.std.proofs.lemmas.List.{drop-take, take-take, take_all}
use Rattle.facts.specs.Tests.{same_some}
use Rattle.byteorder.specs.Endian.{little_number}
use Rattle.byteorder.specs.Numbers.{little_from-take}
use Rattle.sound_terms.specs.declared.SoundFault.{SoundFault}
use Rattle.sound_terms.specs.declared.SoundFault.TheVariants as sound
use Rattle.sound_terms.specs.Chunks.{number_at}
use Rattle.sound_terms.specs.declared.Depth.{Depth}
use Rattle.sound_terms.specs.declared.Span.{Span}
use Rattle.sound_terms.specs.Sounds.{bytes_of_span}
use Rattle.sound_terms.specs.Formats.{depth_of, format_of}
use Rattle.work_terms.specs.Disk.{IsRange}
use Rattle.riff.specs.declared.fault.MediaFault.{MediaFault}
use Rattle.riff.specs.declared.fault.MediaFault.TheVariants.{Device}
use Rattle.riff.specs.Fault.{as_media, media_fault}

-- a number within the first forty bytes
front_number : (n place : ℕ) (bytes : List ℕ) → place + n ≤ 40
    → number_at n place (take 40 bytes) ≡ number_at n place bytes
front_number n place bytes inside =
    let split : 40 ≡ place + (40 - place) = omega arith in
    ap (little_number n) (ap (λ k. drop place (take k bytes)) split ∙ drop-take place (40 - place) bytes)
    ∙ little_from-take 0 n (40 - place) (drop place bytes) (omega arith)

pub format_of-take : (bytes : List ℕ) → format_of (take 40 bytes) ≡ format_of bytes
format_of-take bytes =
    let long = length-take 40 bytes in
    let sixteen : nat_le 16 (length (take 40 bytes)) ≡ nat_le 16 (length bytes) = grind (arith, nat_tests) in
    let forty : nat_le 40 (length (take 40 bytes)) ≡ nat_le 40 (length bytes) = grind (arith, nat_tests) in
    let tag = front_number 2 0 bytes (lit≤ tt) in
    let channels = front_number 2 2 bytes (lit≤ tt) in
    let rate = front_number 4 4 bytes (lit≤ tt) in
    let frame = front_number 2 12 bytes (lit≤ tt) in
    let bits = front_number 2 14 bytes (lit≤ tt) in
    let extension = front_number 2 16 bytes (lit≤ tt) in
    let sub : take 16 (drop 24 (take 40 bytes)) ≡ take 16 (drop 24 bytes) =
    ap (take 16) (drop-take 24 16 bytes) ∙ take-take 16 16 (drop 24 bytes) (lit≤ tt) in
    by_depth (depth_of (number_at 2 14 bytes)) refl bits sixteen tag forty extension sub channels frame rate where
      by_depth : (depth : Option Depth) → depth_of (number_at 2 14 bytes) ≡ depth
          → number_at 2 14 (take 40 bytes) ≡ number_at 2 14 bytes
          → nat_le 16 (length (take 40 bytes)) ≡ nat_le 16 (length bytes)
          → number_at 2 0 (take 40 bytes) ≡ number_at 2 0 bytes
          → nat_le 40 (length (take 40 bytes)) ≡ nat_le 40 (length bytes)
          → number_at 2 16 (take 40 bytes) ≡ number_at 2 16 bytes
          → take 16 (drop 24 (take 40 bytes)) ≡ take 16 (drop 24 bytes)
          → number_at 2 2 (take 40 bytes) ≡ number_at 2 2 bytes
          → number_at 2 12 (take 40 bytes) ≡ number_at 2 12 bytes
          → number_at 4 4 (take 40 bytes) ≡ number_at 4 4 bytes → format_of (take 40 bytes) ≡ format_of bytes
      by_depth None none bits sixteen tag forty extension sub channels frame rate = rw (bits, none) refl
      by_depth (Some depth) some bits sixteen tag forty extension sub channels frame rate =
          rw (bits, some, sixteen, tag, forty, extension, sub, channels, frame, rate) refl

-- the format is read from at most forty bytes of the chunk
pub format_read : (stored : Option (List ℕ)) (file : List ℕ) (span : Span) (buffer : List ℕ)
    → IsRange stored span.at buffer
    → stored ≡ Some file → length buffer ≡ min span.length 40 → format_of buffer ≡ format_of (bytes_of_span file span)
format_read stored file span buffer range there count =
    let rest : List ℕ = drop span.at file in
    let same : range.file ≡ file = same_some (sym range.there ∙ there) in
    let read : buffer ≡ take (min span.length 40) rest =
    range.same ∙ ap (λ (f : List ℕ). take (length buffer) (drop span.at f)) same ∙ ap (λ n. take n rest) count in
    ap format_of (read ∙ by_size (nat_le span.length 40) refl) ∙ format_of-take (take span.length rest) where
      by_size : (small : Bool) → nat_le span.length 40 ≡ small
          → take (min span.length 40) (drop span.at file) ≡ take 40 (take span.length (drop span.at file))
      by_size true small =
          let fits : span.length ≤ 40 = grind (arith, nat_tests) in
          let all : min span.length 40 ≡ span.length = omega arith in
          ap (λ n. take n (drop span.at file)) all
          ∙ sym (take_all 40 (take span.length (drop span.at file))
          (omega (arith, length-take span.length (drop span.at file))))
      by_size false large =
          let past : 40 ≤ span.length = grind (arith, nat_tests) in
          let most : min span.length 40 ≡ 40 = omega arith in
          ap (λ n. take n (drop span.at file)) most ∙ sym (take-take 40 span.length (drop span.at file) past)

-- no fault of the bytes is a device fault
never_device : (fault : SoundFault) → media_fault fault ≡ Device → ⊥
never_device sound.NotWave same = cc
never_device sound.NoFormat same = cc
never_device sound.NoData same = cc
never_device sound.Truncated same = cc
never_device sound.BadFormat same = cc
never_device sound.BadDs64 same = cc
never_device sound.WrongRate same = cc

pub told_never_device : {X : Type 0} (read : Result X SoundFault) (fault : MediaFault) → Err fault ≡ as_media read
    → fault ≡ Device → ⊥
told_never_device (Ok x) fault told same = cc
told_never_device (Err e) fault told same = never_device e (let inner : fault ≡ media_fault e = cc in sym inner ∙ same)
