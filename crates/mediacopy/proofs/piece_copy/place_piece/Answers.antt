use Rattle.std.proofs.Common.{◌≡◌, ◌∙◌, ◌+◌, ℕ, ap, arith, rules}
use Rattle.sound_terms.specs.Media.{frame_length}
use Rattle.list_terms.specs.Heard.{sounds_of}
use Rattle.list_terms.specs.Renewed.{media_name}
use Rattle.mediacopy.proofs.Located.{place_told}
use Rattle.mediacopy.proofs.piece_copy.place_piece.Goals as goal

pub overflow_mul-offset : goal.overflow_mul-offset
overflow_mul-offset g c =
    let told = place_told (sounds_of c.args.bound.now) c.args.runs.now c.args.job c.requires.piece in
    let width = c.frame_of.ensures.value ∙ ap frame_length c.source_of-sound.ensures in
    rw width (omega (arith, told))

pub overflow_add-offset : goal.overflow_add-offset
overflow_add-offset g c =
    let told = place_told (sounds_of c.args.bound.now) c.args.runs.now c.args.job c.requires.piece in
    rw (c.place_in_media.ensures.offset, c.frame_of.ensures.value, c.source_of-sound.ensures) (omega (arith, told))

pub returns-in-Ok-clause-placed : goal.returns-in-Ok-clause-placed
returns-in-Ok-clause-placed g c = λ honest.
    let run : c.from.result ≡ c.args.job.run = search rules in
    let named : c.as_str.result.now ≡ media_name (c.args.job.run + 1) =
    c.as_str.ensures.value ∙ c.medium_name-name.ensures ∙ ap (λ (n : ℕ). media_name (n + 1)) run in
    rw (c.place_in_media.ensures.offset, c.frame_of.ensures.value, c.source_of-sound.ensures, named) at
    (c.in-Ok.ensures.written honest)

pub returns-in-Err-clause-torn : goal.returns-in-Err-clause-torn
returns-in-Err-clause-torn g c = λ honest.
    let run : c.from.result ≡ c.args.job.run = search rules in
    let named : c.as_str.result.now ≡ media_name (c.args.job.run + 1) =
    c.as_str.ensures.value ∙ c.medium_name-name.ensures ∙ ap (λ (n : ℕ). media_name (n + 1)) run in
    rw (c.place_in_media.ensures.offset, c.frame_of.ensures.value, c.source_of-sound.ensures, named) at
    (c.in-Err.ensures.torn honest)
