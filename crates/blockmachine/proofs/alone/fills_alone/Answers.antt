use Rattle.std.proofs.Common.{◌≡◌, ◌<◌, ℕ, List, [], ◌∷◌, length, get_or, refl, sym, ap, ◌∙◌, arith}
use Rattle.std.proofs.lemmas.Bool.Decides.{nat_tests}
use Rattle.std.proofs.lemmas.Option.{slice_get_read}
use Rattle.sound_terms.specs.declared.block.Stretch.{Stretch}
use Rattle.sound_terms.specs.declared.block.Instruction.{Instruction}
use Rattle.sound_terms.specs.declared.block.Instruction.TheVariants.{Start}
use Rattle.sound_terms.specs.Blocks.{adding}
use Rattle.blockmachine.specs.Alone.{filling}
use Rattle.blockmachine.proofs.OneStretch.{by_addition}
use Rattle.blockmachine.proofs.alone.fills_alone.Goals as goal

-- a list of one element
alone : (lines : List Instruction) (line : Instruction) → length lines ≡ 1 → get_or lines 0 (Start 0) ≡ line
    → lines ≡ line ∷ []
alone [] line one is = absurd (omega (arith, one))
alone (first ∷ []) line one is = ap (λ (l : Instruction). l ∷ []) is
alone (first ∷ (second ∷ lines)) line one is = absurd (omega (arith, one))

-- a stretch from its fields
by_parts : (s : Stretch) (at length first dest width : ℕ) → s.at ≡ at → s.length ≡ length → s.first ≡ first
    → s.dest ≡ dest → s.width ≡ width
    → s ≡ record s { at = at; length = length; first = first; dest = dest; width = width }
by_parts s at length first dest width a b c d e = rw (sym a, sym b, sym c, sym d, sym e) refl

pub returns : goal.returns
returns c =
    let stretch = c.in_ok-stretch.stretch in
    let same = c.if-ne.ensures in
    let at : stretch.at ≡ 0 = grind (arith, nat_tests) in
    let long : stretch.length ≡ c.args.frames = grind (arith, nat_tests) in
    let first : stretch.first ≡ 1 = grind (arith, nat_tests) in
    let dest : stretch.dest ≡ 1 = grind (arith, nat_tests) in
    let wide : stretch.width ≡ c.args.format.channels = grind (arith, nat_tests) in
    let shape = c.in_ok-stretch.shape in
    let lines : c.args.lines.now ≡ adding stretch shape ∷ [] =
    alone c.args.lines.now (adding stretch shape) (omega (arith, c.in-len1.len_at_least, c.in-len1.len_below))
    (by_addition (get_or c.args.lines.now 0 (Start 0)) stretch shape (sym c.in_ok-stretch.ensures)) in
    let found = c.in_ok-sound.ensures.lookup in
    let below : stretch.file < length c.args.sounds.now = grind (arith, nat_tests, found.0) in
    let parts : stretch ≡ filling stretch.file stretch.frame c.args.frames c.args.format.channels =
    by_parts stretch 0 c.args.frames 1 1 c.args.format.channels at long first dest wide in
    record {
      alone = lines ∙ ap (λ (s : Stretch). adding s shape ∷ []) parts;
      whole = refl;
      facts = c.in_ok-sound.sound.now;
      there = slice_get_read c.args.sounds.now (length c.args.sounds.now) stretch.file c.in_ok-sound.sound.now refl below found.1;
      channels_alike = sym c.channels.ensures.channels ∙ c.if-channels-format.false;
      depth_alike = grind arith;
    }
