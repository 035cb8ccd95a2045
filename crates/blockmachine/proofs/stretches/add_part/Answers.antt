use Rattle.std.proofs.Common.{◌≡◌, ◌+◌, ◌*◌, ◌/◌, ◌≤◌, ℕ, Bool, IsTrue, List, Option, Some, length, take, arith, rules, sym, ap, ◌∙◌, subst}
use Rattle.std.proofs.lemmas.List.{length-take-le}
use Rattle.sound_terms.specs.declared.Depth.{Depth}
use Rattle.sound_terms.specs.Sounds.{reading_by}
use Rattle.sound_terms.specs.Depth.{bits_of}
use Rattle.sound_terms.specs.Media.{frame_length}
use Rattle.sound_terms.specs.Mix.{Reading}
use Rattle.work_terms.specs.Disk.{Files, IsRange}
use Rattle.pcm.specs.Samples.{samples_in}
use Rattle.blockmachine.specs.declared.buffer.Held.{Held}
use Rattle.blockmachine.specs.Holding.{Holds}
use Rattle.blockmachine.specs.Playing.{Plays}
use Rattle.blockmachine.proofs.Held.{AreRead, bytes_of, held_full, held_plays, lies_in, opened, room_for, small_front}
use Rattle.blockmachine.proofs.stretches.add_part.Given.{Over}
use Rattle.blockmachine.proofs.stretches.add_part.Goals as goal

pub hold-requires-clause-room : goal.hold-requires-clause-room
hold-requires-clause-room g c = record {
  lies = c.requires.ready.plays.lies;
  room = λ facts there. room_for facts c.args.part.now.length _ _ (c.requires.few facts there) c.requires.room;
}

pub returns-clause-held : goal.returns-clause-held
returns-clause-held g c =
    let only = c.in_ok-hold.ensures.only_reads in
    let sounds = c.args.sounds.now in
    let holds =
    subst (λ (sure : Bool). Holds sure (g.S.Shelf.stored c.args.shelf.now) sounds c.hold.new.held c.hold.new.bytes)
    (sym only.honest_same) c.in_ok-hold.ensures.held in
    subst (λ (files : Files). Holds (g.S.Shelf.honest c.hold.new.shelf) files sounds c.hold.new.held c.hold.new.bytes)
    (sym only.same) holds

-- the bytes added are the stored samples of the part
read : (g : Over) (c : goal.After-samples-1 g) → IsTrue (g.S.Shelf.honest c.args.shelf.now)
    → AreRead (g.S.Shelf.stored c.args.shelf.now) c.args.sounds.now c.index-sounds-part.result c.args.part.now
    (take (c.args.part.now.length * c.channels-channels.result * c.from.result) c.hold.new.bytes)
read g c honest =
    let sound = c.index-sounds-part.result in
    let part = c.args.part.now in
    let sounds = c.args.sounds.now in
    let lies = c.requires.ready.plays.lies in
    let found = opened sounds part lies sound c.index-sounds-part.is in
    let inside = lies_in sounds part lies sound found in
    let width : c.from.result ≡ bits_of sound.depth / 8 =
    c.from.ensures ∙ ap (λ b. b / 8) c.bits.ensures ∙ ap (λ depth. bits_of depth / 8) c.depth-depth.ensures in
    let count = bytes_of sound part.length _ _ c.channels-channels.ensures.channels width in
    let room = room_for sound part.length _ _ (c.requires.few sound found) c.requires.room in
    let files : Files = g.S.Shelf.stored c.args.shelf.now in
    let held : Held = record { file = part.file; frame = part.frame; length = part.length } in
    let all = c.hold.new.bytes in
    let holds : Holds (g.S.Shelf.honest c.args.shelf.now) files sounds (Some held) all =
    subst (λ (h : Option Held). Holds (g.S.Shelf.honest c.args.shelf.now) files sounds h all) c.in_ok-hold.ensures.this
    c.in_ok-hold.ensures.held in
    let long : length all ≡ length c.args.bytes.now = c.hold.auto.bytes in
    record {
      there = found;
      range = subst (λ (n : ℕ). IsRange (files sound.name) (sound.offset + part.frame * frame_length sound) (take n all))
          (sym count) (holds honest sound found);
      whole = length-take-le (part.length * c.channels-channels.result * c.from.result) all
          (omega (arith, count, room, long)) ∙ count ∙ omega arith;
      first = c.requires.ready.plays.inside.source_from_one;
      last = inside.0;
      inside = inside.1;
    }

pub returns-clause-added : goal.returns-clause-added
returns-clause-added g c = λ honest before are.
    let sound = c.index-sounds-part.result in
    let part = c.args.part.now in
    let sounds = c.args.sounds.now in
    let files : Files = g.S.Shelf.stored c.args.shelf.now in
    let reading : Reading = reading_by files sounds in
    let bytes : List ℕ = take (part.length * c.channels-channels.result * c.from.result) c.hold.new.bytes in
    let plays = held_plays files sounds sound part bytes (read g c honest) in
    let deep : Plays reading part sound.channels (bits_of c.depth-depth.result)
    (samples_in (bits_of c.depth-depth.result) (part.length * sound.channels) bytes) =
    subst (λ (depth : Depth). Plays reading part sound.channels (bits_of depth)
    (samples_in (bits_of depth) (part.length * sound.channels) bytes)) (sym c.depth-depth.ensures) plays in
    c.add.ensures.played reading
    (subst (λ (n : ℕ). Plays reading part n (bits_of c.depth-depth.result)
    (samples_in (bits_of c.depth-depth.result) (part.length * n) bytes)) (sym c.channels-channels.ensures.channels) deep)
    before are

pub returns-clause-full : goal.returns-clause-full
returns-clause-full g c = λ honest.
    let n = c.args.part.now.length * c.channels-channels.result * c.from.result in
    held_full (g.S.Shelf.stored c.args.shelf.now) c.args.sounds.now c.index-sounds-part.result c.args.part.now
    (take n c.hold.new.bytes) (read g c honest) (small_front n c.hold.new.bytes (λ k. search rules))

pub slice_bounds-stored-end : goal.slice_bounds-stored-end
slice_bounds-stored-end g c =
    let sound = c.index-sounds-part.result in
    let n = c.args.part.now.length in
    let found = opened c.args.sounds.now c.args.part.now c.requires.ready.plays.lies sound c.index-sounds-part.is in
    let count =
    bytes_of sound n _ _ c.channels-channels.ensures.channels
    (c.from.ensures ∙ ap (λ b. b / 8) c.bits.ensures ∙ ap (λ depth. bits_of depth / 8) c.depth-depth.ensures) in
    let room = room_for sound n _ _ (c.requires.few sound found) c.requires.room in
    let long : length c.hold.new.bytes ≡ length c.args.bytes.now = c.hold.auto.bytes in
    let fit : n * c.channels-channels.result * c.from.result ≤ length c.hold.new.bytes = omega (arith, count, room, long) in
    search (rules, fit)

pub invariant_of-stored-clause-small : goal.invariant_of-stored-clause-small
invariant_of-stored-clause-small g c =
    small_front (c.args.part.now.length * c.channels-channels.result * c.from.result) c.hold.new.bytes (λ k. search rules)

pub add-requires : goal.add-requires
add-requires g c =
    let part = c.args.part.now in
    let found = opened c.args.sounds.now part c.requires.ready.plays.lies _ c.index-sounds-part.is in
    record {
      inside = c.requires.ready.plays.inside;
      room = subst (λ (n : ℕ). part.length * n ≤ length c.args.samples.now) (sym c.channels-channels.ensures.channels)
          (c.requires.few _ found);
    }
