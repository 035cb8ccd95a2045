use Rattle.std.proofs.Common.{◌≡◌, ◌-◌, ◌*◌, ◌/◌, length, rules, refl, sym, ap, ◌∙◌, arith}
use Rattle.std.proofs.lemmas.Option.{same_Some, slice_get_read, slice_get_within}
use Rattle.sound_terms.specs.Depth.{bits_of}
use Rattle.sound_terms.specs.Sounds.{SoundFacts, reading_by}
use Rattle.comparison.proofs.StoredFrames.{match_same}
use Rattle.comparison.proofs.stored.read_match.Goals as goal

pub returns-clause-same : goal.returns-clause-same
returns-clause-same g c = λ honest sure same.
    let lies = c.requires.lies in
    let wanted = c.args.wanted.now in
    let n = wanted.end - wanted.frame in
    let sounds = c.args.files.now.sounds.now in
    let others = c.args.files.now.others.now in
    let found = slice_get_read sounds (length sounds) wanted.file c.index-files-wanted.result refl
    (slice_get_within sounds wanted.file lies.facts lies.there) c.index-files-wanted.is in
    let other_found = slice_get_read others (length others) wanted.other_file c.index-files-wanted-2.result refl
    (slice_get_within others wanted.other_file lies.other_facts lies.other_there) c.index-files-wanted-2.is in
    let depth = ap (λ (f : SoundFacts). f.depth)
    (sym c.index-files-wanted.is ∙ same_Some c.index-files-wanted.result lies.facts (sym found ∙ lies.there)) in
    let other_depth = ap (λ (f : SoundFacts). f.depth)
    (sym c.index-files-wanted-2.is
    ∙ same_Some c.index-files-wanted-2.result lies.other_facts (sym other_found ∙ lies.other_there)) in
    let whole : length c.read_frames.new.bytes ≡ n * c.from.result * (bits_of c.depth-3.result / 8) = search rules in
    let others_whole : length c.read_frames-2.new.bytes ≡ n * c.from.result * (bits_of c.depth-4.result / 8) =
    search rules in
    match_same (reading_by (g.S.Shelf.stored c.args.first_shelf.now) sounds)
    (reading_by (g.T.Shelf.stored c.args.second_shelf.now) others) wanted lies.facts lies.other_facts c.from.result
    c.depth-3.result c.depth-4.result c.read_frames.new.bytes c.read_frames-2.new.bytes c.from.ensures lies.channels
    lies.other_channels (c.depth-3.ensures ∙ depth) (c.depth-4.ensures ∙ other_depth) whole others_whole
    (c.are_counterparts.ensures same)
    (λ long. c.in-Ok.ensures.held honest lies.facts n lies.there long (omega (arith, lies.begun, lies.inside)))
    (λ long. c.in-Ok-read_frames.ensures.held sure lies.other_facts n lies.other_there long lies.other_inside)
