use Rattle.std.proofs.Common.{◌≡◌, ◌+◌, ◌-◌, ◌*◌, ◌∙◌, ap, arith, drop, rules}
use Rattle.std.specs.Int.{w32}
use Rattle.std.proofs.lemmas.Int.{to_z-of_z}
use Rattle.std.proofs.lemmas.List.{drop-drop, take_rest}
use mir.Val.{SFits}
use Rattle.sound_terms.specs.Waves.{sample_of}
use Rattle.pcm.proofs.word.twenty_four_at.Goals as goal

pub returns-else-i-eq0 : goal.returns-else-i-eq0
returns-else-i-eq0 c =
    let bytes = c.args.bytes.now in
    let before = c.args.i * 3 - 1 in
    let fits : SFits w32 c.read_behind.result = search rules in
    let place : before + 1 ≡ c.args.i * 3 = omega arith in
    to_z-of_z w32 c.read_behind.result fits
    ∙ c.read_behind.ensures
    ∙ ap (λ l. sample_of 24 (drop 1 l)) (take_rest bytes before)
    ∙ ap (sample_of 24) (drop-drop 1 before bytes)
    ∙ ap (λ k. sample_of 24 (drop k bytes)) place
