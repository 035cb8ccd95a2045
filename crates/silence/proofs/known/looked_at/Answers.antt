use Rattle.std.proofs.Common.{arith}
use Rattle.sound_terms.specs.Sounds.{reading_by}
use Rattle.silence.specs.Zero.{IsZeroAt, sound_by}
use Rattle.silence.proofs.Knowing.{looked, tells_then}
use Rattle.silence.proofs.Silent.{heard_there, held_again, held_there}
use Rattle.silence.proofs.known.looked_at.Goals as goal

pub returns-clause-so : goal.returns-clause-so
returns-clause-so g c honest sounds there so held =
    let files = g.S.Shelf.stored c.args.shelf.now in
    let known = c.args.known in
    rw c.until.ensures
    (looked (reading_by files sounds) known known.file c.args.part.now c.requires.reaches so
    (sound_by files c.args.sound.now) (heard_there files sounds known.file c.args.sound.now there) (omega arith)
    c.in_ok-found.found (c.in_ok-found.ensures.found honest
    (held_there files sounds known.file c.args.sound.now there c.args.window.now held)))

pub returns-then-known-clause-so : goal.returns-then-known-clause-so
returns-then-known-clause-so g c honest sounds there so held = so

pub returns-clause-tells : goal.returns-clause-tells
returns-clause-tells g c honest sounds there held =
    let part = c.args.part.now in
    let files = g.S.Shelf.stored c.args.shelf.now in
    let sound = sound_by files c.args.sound.now in
    rw c.until.ensures
    (tells_then c.args.known c.args.known.file part c.requires.reaches
    (omega arith) (IsZeroAt sound part.first part.width) c.in_ok-found.found (c.in_ok-found.ensures.found honest
    (held_there files sounds c.args.known.file c.args.sound.now there c.args.window.now held)))

pub returns-clause-held : goal.returns-clause-held
returns-clause-held g c honest sounds there held =
    let files = g.S.Shelf.stored c.args.shelf.now in
    let known = c.args.known in
    held_again files sounds known.file c.args.sound.now there c.first_sounding.new.window
    (c.in_ok-found.ensures.held honest
    (held_there files sounds known.file c.args.sound.now there c.args.window.now held)) c.in_ok-found.ensures.same_file
