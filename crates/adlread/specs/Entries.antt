-- Views of event lists.
use Rattle.list_terms.specs.Text.{Entries}
use Rattle.adlread.specs.declared.sections.EventList.{EventList}

-- The entries that an event list represents.
abbrev pub entries_of : EventList → Entries
entries_of list = record { events = list.events.items; entry = list.entry; separators = list.separators }
