-- Range to render.
use Rattle.sound_terms.specs.Render.{Range}
use Rattle.markfile.specs.declared.run.RunRange.{RunRange}

-- the range as a value of contracts
abbrev pub range_of : RunRange → Range
range_of range = record {
  from = range.from;
  to = range.to;
  channels = range.channels;
  depth = range.depth;
}
