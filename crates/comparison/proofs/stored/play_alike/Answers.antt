use Rattle.std.proofs.Common.{IsTrue, subst, sym}
use Rattle.sound_terms.specs.Mix.{Reading}
use Rattle.sound_terms.specs.Sounds.{reading_by}
use Rattle.work_terms.specs.Disk.{Files}
use Rattle.comparison.specs.Matched.{AreSameFrames}
use Rattle.comparison.proofs.Joined.{known_alike}
use Rattle.comparison.proofs.stored.play_alike.Goals as goal

pub returns-then-cover-clause-alike : goal.returns-then-cover-clause-alike
returns-then-cover-clause-alike g c = λ honest sure same.
    let sounds = c.args.files.now.sounds.now in
    let others = c.args.files.now.others.now in
    let reading : Reading = reading_by (g.S.Shelf.stored c.args.first_shelf.now) sounds in
    let other : Reading = reading_by (g.T.Shelf.stored c.args.second_shelf.now) others in
    known_alike reading other sounds others c.args.stretch.now c.args.part.now c.in-Some.wanted c.in-Some.ensures
    (c.cover.ensures c.if-cover.true reading other (c.requires.matched honest sure))

pub returns-clause-alike : goal.returns-clause-alike
returns-clause-alike g c = λ honest sure same.
    let sounds = c.args.files.now.sounds.now in
    let others = c.args.files.now.others.now in
    known_alike (reading_by (g.S.Shelf.stored c.args.first_shelf.now) sounds)
    (reading_by (g.T.Shelf.stored c.args.second_shelf.now) others) sounds others c.args.stretch.now c.args.part.now
    c.in-Some.wanted c.in-Some.ensures (c.in_ok-same.ensures.same honest sure c.if-not-same.false)

pub returns-clause-read : goal.returns-clause-read
returns-clause-read g c =
    let read = c.in_ok-same.ensures.read in
    let files = read.files in
    let sounds = c.args.files.now.sounds.now in
    let others = c.args.files.now.others.now in
    record {
      matched = λ honest sure.
          let reading = reading_by (g.S.Shelf.stored c.read_match.new.first_shelf) sounds in
          let other = reading_by (g.T.Shelf.stored c.read_match.new.second_shelf) others in
          let known = c.in_ok-same.ensures.same (subst IsTrue files.first_read.honest_same honest)
          (subst IsTrue files.second_read.honest_same sure) c.if-not-same.false in
          c.add.ensures reading other (read.matched honest sure)
          (subst (λ (stored : Files). AreSameFrames (reading_by stored sounds) other c.in-Some.wanted)
          (sym files.first_read.same)
          (subst (λ (stored : Files). AreSameFrames (reading_by (g.S.Shelf.stored c.args.first_shelf.now) sounds)
          (reading_by stored others) c.in-Some.wanted) (sym files.second_read.same) known));
      source = read.source;
      files = record { first_read = files.first_read; second_read = files.second_read };
    }
