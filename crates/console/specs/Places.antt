-- Locations as callers see them.
use Rattle.list_terms.specs.Renewed.{media_name}
use Rattle.work_terms.specs.Refusals as refused
use Rattle.console.specs.declared.place.Place.{Place}
use Rattle.console.specs.declared.place.Place.TheVariants.{Nowhere, Line, LineEntry, LineIndex, IndexFile, Index, Entry, File, Medium, Job}

-- the location of a refusal
abbrev pub where_of : Place → refused.Where
where_of Nowhere = refused.Nowhere
where_of (Line line) = refused.Line line
where_of (LineEntry line entry) = refused.LineEntry line entry
where_of (LineIndex line index) = refused.LineIndex line index
where_of (IndexFile index name) = refused.IndexFile index name.now
where_of (Index index) = refused.Index index
where_of (Entry entry) = refused.Entry entry
where_of (File name) = refused.File name.now
where_of (Medium number) = refused.File (media_name number)
where_of (Job job) = refused.Job job
