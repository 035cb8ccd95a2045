use Rattle.std.proofs.Common.{◌≡◌, ◌∙◌, ◌≤◌, Some, arith, ap, option_map, subst, sym}
use Rattle.std.specs.List.{slice_get}
use Rattle.std.proofs.lemmas.Option.{slice_get-map}
use Rattle.sound_terms.specs.Mix.{contribution_at, index_of}
use Rattle.sound_terms.specs.Entries.{parts_by}
use Rattle.list_terms.specs.Binding.{OpenedFile}
use Rattle.list_terms.specs.BoundHomes.{homes_of}
use Rattle.list_terms.specs.Heard.{sounds_of}
use Rattle.interval.specs.EntrySound.{SoundsAs}
use Rattle.interval.proofs.Playable.{has_numbers, is_playable, plays, span_is}
use Rattle.interval.proofs.PartsLie.{parts_lie, parts_once}
use Rattle.interval.proofs.sound.push_entry.Goals as goal

pub push_group-requires : goal.push_group-requires
push_group-requires c =
    let binding = c.args.bound.now in
    let event = c.args.event.now in
    let index = c.in-Some.index in
    let is = c.in-Some.ensures.bound in
    let found = sym c.in-Some.ensures.index in
    let span = sym (span_is binding event index is.file found is.there) ∙ c.requires.faultless in
    is_playable index is.file.facts event (plays index is.file.facts event span) (has_numbers event c.requires.whole)
    is.addressable

pub returns-clause-sound : goal.returns-clause-sound
returns-clause-sound c =
    let binding = c.args.bound.now in
    let event = c.args.event.now in
    let index = c.in-Some.index in
    let is = c.in-Some.ensures.bound in
    let facts = is.file.facts in
    let found : index_of binding.indexes event.index ≡ Some index = sym c.in-Some.ensures.index in
    let span = sym (span_is binding event index is.file found is.there) ∙ c.requires.faultless in
    let played = plays index facts event span in
    let there : slice_get (sounds_of binding) index.file ≡ Some facts =
    slice_get-map (λ (f : OpenedFile). f.facts) binding.files index.file
    ∙ ap (option_map (λ (f : OpenedFile). f.facts)) is.there in
    let frames : index.addressable ≤ facts.frames = omega (arith, is.addressable) in
    subst (λ o. SoundsAs binding event (parts_by o event)) (sym found) (record {
      mix = λ reading channel time. c.push_group.ensures.mix reading channel time
          ∙ ap (λ o. contribution_at reading o event channel time) (sym found);
      whole = c.push_group.ensures.whole;
      lies = parts_lie (sounds_of binding) (homes_of binding) index facts event played
          (has_numbers event c.requires.whole) there frames c.in-Some.ensures.at_home;
      once = λ time. parts_once index event time played.fades;
    })
