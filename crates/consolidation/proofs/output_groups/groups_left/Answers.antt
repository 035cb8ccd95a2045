use Rattle.std.proofs.Common.{◌∙◌}
use Rattle.list_terms.specs.BoundHomes.{homes_of}
use Rattle.list_terms.specs.Heard.{reading_of, sounds_of}
use Rattle.consolidation.proofs.LeftAtHome.{still_at_home}
use Rattle.consolidation.proofs.output_groups.groups_left.Goals as goal

pub returns-clause-left : goal.returns-clause-left
returns-clause-left g c =
    let binding = c.args.checked.now.bound in record {
      formed = c.groups.ensures.sound;
      whole = c.in_ok-left.ensures.keeps_whole c.requires.whole;
      at_home = still_at_home (sounds_of binding) (homes_of binding) c.args.intervals c.in_ok-left.left
          c.groups.ensures.sound.pieces_ok c.in_ok-left.ensures.reads_no_more c.requires.at_home;
    }

pub returns-clause-given : goal.returns-clause-given
returns-clause-given g c = λ honest. record {
  gives = rw (c.sounds.ensures.sounds, c.bound.ensures, c.requires.parts) at
      (c.in_ok-left.ensures.given honest);
  same_mix = λ channel time.
      (rw (c.sounds.ensures.sounds, c.bound.ensures) at (c.in_ok-left.ensures.keeps_mix honest channel time))
      ∙ c.requires.same_mix (reading_of (g.S.Shelf.stored c.args.shelf.now) c.args.checked.now.bound)
      channel time;
}
