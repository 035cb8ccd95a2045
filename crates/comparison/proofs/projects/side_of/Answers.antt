use Rattle.std.proofs.Common.{List, ap, ◌∙◌}
use Rattle.list_terms.specs.Heard.{sounds_of}
use Rattle.sound_terms.specs.Groups.{sum_of}
use Rattle.sound_terms.specs.Sounds.{SoundFacts, reading_by}
use Rattle.comparison.specs.Side.{SideWork, heard}
use Rattle.comparison.proofs.projects.side_of.Goals as goal

pub returns-clause-side : goal.returns-clause-side
returns-clause-side c =
    let made = c.in_ok-side.ensures.made in
    let opened = c.sounds.ensures.sounds ∙ ap sounds_of c.bound.ensures in
    record {
      range = ap (λ (w : SideWork). w.planned.range) made ∙ c.in_ok-plan.ensures.same;
      sounds = ap (λ (w : SideWork). w.sounds) made ∙ opened;
      mixes = λ files channel time.
          ap (λ (w : SideWork). heard w files channel time) made
          ∙ ap (λ (sounds : List SoundFacts). sum_of (reading_by files sounds) c.in_ok-plan.plan.pieces channel time) opened
          ∙ c.in_ok-plan.ensures.mixes files channel time;
    }
