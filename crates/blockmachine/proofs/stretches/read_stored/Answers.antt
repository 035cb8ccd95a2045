use Rattle.std.proofs.Common.{◌≡◌, ◌*◌, IsTrue, Err, length, rules, sym, ap, ◌∙◌, subst, arith}
use Rattle.std.proofs.lemmas.Option.{same_Some}
use Rattle.sound_terms.specs.Depth.{bits_of}
use Rattle.sound_terms.specs.Media.{frame_length}
use Rattle.sound_terms.specs.Sounds.{SoundFacts, reading_by}
use Rattle.pcm.specs.Samples.{samples_in}
use Rattle.blockmachine.specs.Playing.{Plays}
use Rattle.blockmachine.proofs.Held.{AreRead, held_full, held_plays, lies_in, opened}
use Rattle.blockmachine.proofs.Played.{device_of}
use Rattle.blockmachine.proofs.stretches.read_stored.Given.{Over}
use Rattle.blockmachine.proofs.stretches.read_stored.Goals as goal

pub read_bytes-requires : goal.read_bytes-requires
read_bytes-requires g c =
    let part = c.args.part.now in
    let sounds = c.args.sounds.now in
    let sound = c.index-sounds-part.result in
    let found = opened sounds part c.requires.lies sound c.index-sounds-part.is in
    let whole : length c.args.bytes.now ≡ part.length * frame_length sound = c.requires.whole sound found ∙ omega arith in
    record { whole = (part.length, whole, (lies_in sounds part c.requires.lies sound found).1) }

-- the bytes read are the stored samples of the stretch
read : (g : Over) (c : goal.In-Ok g) → IsTrue (g.S.Shelf.honest c.args.shelf.now)
    → AreRead (g.S.Shelf.stored c.args.shelf.now) c.args.sounds.now c.index-sounds-part.result c.args.part.now
    c.read_bytes.new.bytes
read g c honest =
    let sound = c.index-sounds-part.result in
    let found = opened c.args.sounds.now c.args.part.now c.requires.lies sound c.index-sounds-part.is in
    let inside = lies_in c.args.sounds.now c.args.part.now c.requires.lies sound found in
    record {
      there = found;
      range = c.in-Ok.ensures.bytes honest;
      whole = c.read_bytes.auto.bytes ∙ c.requires.whole sound found;
      first = c.requires.first;
      last = inside.0;
      inside = inside.1;
    }

pub returns-in-Ok-clause-plays : goal.returns-in-Ok-clause-plays
returns-in-Ok-clause-plays g c = λ honest facts there.
    let part = c.args.part.now in
    let sounds = c.args.sounds.now in
    let sound = c.index-sounds-part.result in
    let are = read g c honest in
    let same : sound ≡ facts = same_Some sound facts (sym are.there ∙ there) in
    let files = g.S.Shelf.stored c.args.shelf.now in
    let bytes = c.read_bytes.new.bytes in
    subst (λ (f : SoundFacts). Plays (reading_by files sounds) part f.channels (bits_of f.depth)
    (samples_in (bits_of f.depth) (part.length * f.channels) bytes))
    same (held_plays files sounds sound part bytes are)

pub returns-in-Ok-clause-full : goal.returns-in-Ok-clause-full
returns-in-Ok-clause-full g c = λ honest.
    held_full (g.S.Shelf.stored c.args.shelf.now) c.args.sounds.now c.index-sounds-part.result c.args.part.now
    c.read_bytes.new.bytes (read g c honest) (λ k. search rules)

pub returns-in-Err-clause-only_reads : goal.returns-in-Err-clause-only_reads
returns-in-Err-clause-only_reads g c =
    let found = opened c.args.sounds.now c.args.part.now c.requires.lies _ c.index-sounds-part.is in
    let only = c.in-Err.ensures.only_reads in
    let is = device_of c.in-Err.field-0 (λ missing. c.in-Err.ensures.not_missing (ap Err missing)) in
    record {
      same = only.same;
      honest_same = only.honest_same;
      cause = record { later = only.cause.later; left = λ none. absurd (none tt); rose = λ device. only.cause.rose is };
      keeps = only.keeps;
      failed_there = λ device. (c.index-sounds-part.result, found, only.failed_there is);
    }
