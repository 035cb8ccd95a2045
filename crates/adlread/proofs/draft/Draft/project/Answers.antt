use Rattle.std.proofs.Common.{rules}
use Rattle.sampletime.specs.FrameRate.{frames_per_second}
use Rattle.adlread.proofs.Finished.{IsHeader-from_so_far, standard-from_entries}
use Rattle.adlread.specs.HeaderSoFar.{header_so_far}
use Rattle.adlread.proofs.draft.Draft.project.Goals as goal

pub new-project-requires-clause-header : goal.new-project-requires-clause-header
new-project-requires-clause-header c =
    IsHeader-from_so_far (frames_per_second c.args.rate) (header_so_far c.args.self.header) c.requires.whole.header c.requires.rates

pub new-project-requires-clause-sources : goal.new-project-requires-clause-sources
new-project-requires-clause-sources c = record { numbered = c.args.self.index.whole; texts = c.requires.whole.texts }

pub new-project-requires-clause-standard : goal.new-project-requires-clause-standard
new-project-requires-clause-standard c =
    standard-from_entries c.close.new.self.events.items c.args.self.events.entry c.close.new.self.separators
    c.args.self.events.events.items
    c.args.self.events.separators c.unwrap_or-separators.result (search rules) (search rules) (search rules)
    c.requires.whole.standard
