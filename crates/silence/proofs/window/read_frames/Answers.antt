use Rattle.std.proofs.Common.{◌≡◌, ◌*◌, length, ap, ◌∙◌, length-take, arith}
use Rattle.std.specs.Prelude.{ℤ}
use Rattle.facts.specs.Tests.{some_there}
use Rattle.silence.proofs.Frames.{read_are}
use Rattle.silence.proofs.window.read_frames.Goals as goal

pub returns-clause-so : goal.returns-clause-so
returns-clause-so g c = λ honest.
    let files = g.S.Shelf.stored c.args.shelf.now in
    let sound = c.args.sound.now in
    let file = some_there (files sound.name) (c.in_ok-read_frames.ensures.there honest) in
    let channels : c.from.result ≡ sound.channels = c.from.ensures ∙ c.channels.ensures.channels in
    let each = ap (λ n. c.args.count * n) channels in
    let whole : length c.read_frames.new.frames ≡ c.args.count * sound.channels =
    c.read_frames.auto.frames ∙ omega (arith, length-take {A = ℤ}, each, c.requires.few) ∙ each in
    read_are files sound c.args.from c.args.count file.0 c.read_frames.new.frames _ file.1
    (c.in_ok-read_frames.ensures.frames honest file.0 file.1) whole c.requires.inside
