use Rattle.std.proofs.Common.{◌≡◌, Err, Some, ap}
use Rattle.std.specs.Prelude.{slice_get}
use Rattle.sound_terms.specs.Sounds.{reading_by}
use Rattle.silence.specs.Holding.{IsSearched}
use Rattle.silence.proofs.Knowing.{told}
use Rattle.silence.proofs.Silent.{device_of, silent_by, silent_nowhere}
use Rattle.silence.proofs.search.Search.is_silent.Goals as goal

pub returns-in_default-clause-answer : goal.returns-in_default-clause-answer
returns-in_default-clause-answer g c = λ honest so.
    let sounds = c.args.sounds.now in
    let piece = c.args.piece.now in
    silent_nowhere (g.S.Shelf.stored c.args.shelf.now) sounds piece c.in_default.ensures

pub returns-in-Ok-clause-answer : goal.returns-in-Ok-clause-answer
returns-in-Ok-clause-answer g c = λ honest so.
    let files = g.S.Shelf.stored c.args.shelf.now in
    let sounds = c.args.sounds.now in
    let piece = c.args.piece.now in
    let sound = c.in-Some.sound.now in
    let reading = reading_by files sounds in
    let before : IsSearched reading (record { known = c.self.inside.known; held = c.self.inside.window }) =
    rw (← c.self.view_is) at so in
    let file = (c.up_to-known.ensures.reaches c.inside-part.ensures.lies.in_order).same_file in
    let there : slice_get sounds c.up_to-known.result.file ≡ Some c.in-Some.sound.now = rw file c.in-Some.ensures in
    let tells = c.in-Ok.ensures.tells honest sounds there before.held in
    silent_by files sounds piece sound c.inside-part.result _ c.in-Some.ensures (c.inside-part.ensures.rest files)
    (told reading c.in-Ok.known piece.file c.inside-part.result (rw file at tells.reaches)
    (c.in-Ok.ensures.so honest sounds there (c.up_to-known.ensures.so reading before.known) before.held)
    tells.decided)

pub returns-in-Ok-clause-searched : goal.returns-in-Ok-clause-searched
returns-in-Ok-clause-searched g c = λ honest so.
    let files = g.S.Shelf.stored c.args.shelf.now in
    let sounds = c.args.sounds.now in
    let reading = reading_by files sounds in
    let before : IsSearched reading (record { known = c.self.inside.known; held = c.self.inside.window }) =
    rw (← c.self.view_is) at so in
    let file = (c.up_to-known.ensures.reaches c.inside-part.ensures.lies.in_order).same_file in
    let there : slice_get sounds c.up_to-known.result.file ≡ Some c.in-Some.sound.now = rw file c.in-Some.ensures in
    record {
      known = c.in-Ok.ensures.so honest sounds there (c.up_to-known.ensures.so reading before.known) before.held;
      held = c.in-Ok.ensures.held honest sounds there before.held;
    }

pub returns-in-Err-clause-searched : goal.returns-in-Err-clause-searched
returns-in-Err-clause-searched g c = λ honest so.
    let files = g.S.Shelf.stored c.args.shelf.now in
    let sounds = c.args.sounds.now in
    let reading = reading_by files sounds in
    let before : IsSearched reading (record { known = c.self.inside.known; held = c.self.inside.window }) =
    rw (← c.self.view_is) at so in
    let file = (c.up_to-known.ensures.reaches c.inside-part.ensures.lies.in_order).same_file in
    let there : slice_get sounds c.up_to-known.result.file ≡ Some c.in-Some.sound.now = rw file c.in-Some.ensures in
    record { known = before.known; held = c.in-Err.ensures.held honest sounds there before.held }

pub returns-in-Err-clause-only_reads : goal.returns-in-Err-clause-only_reads
returns-in-Err-clause-only_reads g c =
    let sounds = c.args.sounds.now in
    let file = c.args.piece.now.file in
    let sound = c.in-Some.sound.now in
    let only = c.in-Err.ensures.only_reads in
    let is = device_of c.in-Err.field-0 (λ missing. c.in-Err.ensures.not_missing (ap Err missing)) in
    record {
      same = only.same;
      honest_same = only.honest_same;
      cause = record { later = only.cause.later; left = λ none. absurd (none tt); rose = λ device. only.cause.rose is };
      keeps = only.keeps;
      failed_there = λ device. (sound, c.in-Some.ensures, only.failed_there is);
    }
