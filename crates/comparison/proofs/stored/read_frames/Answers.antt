use Rattle.std.proofs.Common.{◌≡◌, ℕ, ◌+◌, ◌*◌, ◌/◌, ◌≤◌, Some, Err, length, rules, refl, sym, ap, ◌∙◌, subst, arith}
use Rattle.std.specs.Prelude.{slice_get}
use Rattle.std.proofs.lemmas.Option.{same_Some, slice_get_read, slice_get_within}
use Rattle.sound_terms.specs.Depth.{bits_of}
use Rattle.sound_terms.specs.Media.{frame_length}
use Rattle.sound_terms.specs.Sounds.{SoundFacts, reading_by}
use Rattle.comparison.specs.Stored.{HoldFrames}
use Rattle.comparison.proofs.StoredFrames.{device_of, read_held}
use Rattle.comparison.proofs.stored.read_frames.Goals as goal

pub read_bytes-requires : goal.read_bytes-requires
read_bytes-requires g c =
    let frames = c.requires in
    let sounds = c.args.sounds.now in
    let found = slice_get_read sounds (length sounds) c.args.file c.index-sounds-file.result refl
    (slice_get_within sounds c.args.file frames.facts frames.there) c.index-sounds-file.is in
    let same = same_Some frames.facts c.index-sounds-file.result (sym frames.there ∙ found) in
    record {
      whole = subst (λ (f : SoundFacts). (n : ℕ) × (length c.args.bytes.now ≡ n * frame_length f)
          × (c.args.from + n ≤ f.frames)) same (frames.n, frames.whole ∙ omega arith, frames.inside);
    }

pub returns-in-Ok-clause-held : goal.returns-in-Ok-clause-held
returns-in-Ok-clause-held g c = λ honest facts n there whole inside.
    let frames = c.requires in
    let sounds = c.args.sounds.now in
    let files = g.S.Shelf.stored c.args.shelf.now in
    let sound = c.index-sounds-file.result in
    let found = slice_get_read sounds (length sounds) c.args.file sound refl
    (slice_get_within sounds c.args.file frames.facts frames.there) c.index-sounds-file.is in
    let same : sound ≡ facts = same_Some sound facts (sym found ∙ there) in
    let bytes = c.read_bytes.new.bytes in
    subst (λ (f : SoundFacts). slice_get sounds c.args.file ≡ Some f
    → length bytes ≡ n * f.channels * (bits_of f.depth / 8) → c.args.from + n ≤ f.frames
    → HoldFrames (reading_by files sounds) f.channels (bits_of f.depth) c.args.file c.args.from n bytes) same
    (λ there whole inside. read_held files sounds sound c.args.file c.args.from n bytes there
    (c.in-Ok.ensures.bytes honest) whole inside (λ k. search rules)) there whole inside

pub returns-in-Err-clause-only_reads : goal.returns-in-Err-clause-only_reads
returns-in-Err-clause-only_reads g c =
    let frames = c.requires in
    let sounds = c.args.sounds.now in
    let found = slice_get_read sounds (length sounds) c.args.file c.index-sounds-file.result refl
    (slice_get_within sounds c.args.file frames.facts frames.there) c.index-sounds-file.is in
    let only = c.in-Err.ensures.only_reads in
    let is = device_of c.in-Err.field-0 (λ missing. c.in-Err.ensures.not_missing (ap Err missing)) in
    record {
      same = only.same;
      honest_same = only.honest_same;
      cause = record { later = only.cause.later; left = λ none. absurd (none tt); rose = λ device. only.cause.rose is };
      keeps = only.keeps;
      failed_there = λ device. (c.index-sounds-file.result, found, only.failed_there is);
    }
