use Rattle.std.proofs.Common.{◌≡◌, ◌≤◌, ◌+◌, ◌*◌, ◌/◌, ℕ, length, arith, subst, sym, ap, ◌∙◌, length-take}
use Rattle.sound_terms.specs.Depth.{bits_of}
use Rattle.sound_terms.specs.Media.{frame_length}
use Rattle.wavread.specs.Facts.{AreFrames}
use Rattle.wavread.proofs.Frames.{frames_told}
use Rattle.wavread.proofs.sound.Sound.read_frames.Goals as goal

pub read_bytes-requires : goal.read_bytes-requires
read_bytes-requires g c =
    let frames = c.args.frames.now in
    let told : c.from.result ≡ bits_of c.args.self.now.depth / 8 =
    c.from.ensures ∙ ap (λ b. b / 8) c.bits.ensures ∙ ap (λ depth. bits_of depth / 8) c.depth-depth.ensures in
    let room : length frames * c.from.result ≤ length c.args.buffer.now =
    subst (λ (w : ℕ). length frames * w ≤ length c.args.buffer.now) (sym told) c.requires.room in
    let taken : length frames * c.from.result ≡ c.args.count * frame_length c.args.self.now =
    ap (λ n. n * c.from.result) c.requires.whole ∙ ap (λ w. c.args.count * c.args.self.now.channels * w) told
    ∙ omega arith in
    record {
      whole = (
        c.args.count,
        length-take (length frames * c.from.result) c.args.buffer.now
            ∙ omega (arith, room, taken),
        c.requires.inside,
      );
    }

pub returns-clause-frames : goal.returns-clause-frames
returns-clause-frames g c = λ honest file there.
    let range = c.in_ok-read_bytes.ensures.bytes honest in
    let samples = c.unpack.new.samples in
    let bits = bits_of c.depth-depth.result in
    let place = c.args.self.now.offset + c.args.from * frame_length c.args.self.now in
    let width : c.from.result ≡ bits / 8 = c.from.ensures ∙ ap (λ b. b / 8) c.bits.ensures in
    let told : c.from.result ≡ bits_of c.args.self.now.depth / 8 =
    width ∙ ap (λ depth. bits_of depth / 8) c.depth-depth.ensures in
    let room : length c.args.frames.now * c.from.result ≤ length c.args.buffer.now =
    subst (λ (w : ℕ). length c.args.frames.now * w ≤ length c.args.buffer.now) (sym told) c.requires.room in
    let read : length c.read_bytes.new.bytes ≡ length c.args.frames.now * c.from.result =
    c.read_bytes.auto.bytes ∙ length-take (length c.args.frames.now * c.from.result) c.args.buffer.now
    ∙ omega (arith, room) in
    let count : length c.read_bytes.new.bytes ≡ length c.args.frames.now * (bits / 8) =
    read ∙ ap (λ w. length c.args.frames.now * w) width in
    subst (λ depth. AreFrames file place (bits_of depth) samples) c.depth-depth.ensures
    (frames_told (g.S.Shelf.stored c.args.shelf.now c.args.self.now.name) file place bits (length c.args.frames.now)
    c.read_bytes.new.bytes samples range there count c.unpack.ensures.numbers)
