use Rattle.std.proofs.Common.{refl}
use Rattle.std.proofs.lemmas.List.Elements.{All-replicate}
use Rattle.comparison.specs.declared.matches.Match.{Match}
use Rattle.comparison.specs.Matched.{AreSameFrames}
use Rattle.comparison.proofs.Joined.{none_same}
use Rattle.comparison.proofs.matches.Matches.new.Goals as goal

pub returns : goal.returns
returns c = λ reading other.
    let none : Match = record { file = 0; frame = 0; end = 0; other_file = 0; other_frame = 0; channels = 0 } in
    All-replicate (AreSameFrames reading other) 32 none (none_same reading other none refl)
