-- Views of drafts.
use Rattle.list_terms.specs.Text.{Context}
use Rattle.adlread.specs.Entries.{entries_of}
use Rattle.adlread.specs.HeaderSoFar.{header_so_far}
use Rattle.adlread.specs.declared.draft.Draft.{Draft}

-- The state of reading that a draft represents.
abbrev pub context_of : Draft → Context
context_of draft = record {
  stage = draft.stage;
  name = draft.name.now;
  header = header_so_far draft.header;
  has_index = draft.has_index;
  sources = draft.index.sources;
  has_events = draft.has_events;
  entries = entries_of draft.events;
  notices = draft.notices.items;
}
