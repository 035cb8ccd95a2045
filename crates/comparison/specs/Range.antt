-- The compared range of two projects.
use Rattle.std.specs.Prelude.{ℕ, ◌≤◌, ◌<◌, ◌&&◌, ◌++◌, nat_le, nat_lt, max, Bool, List, IfSome}
use Rattle.sound_terms.specs.declared.Event.{Event}
use Rattle.list_terms.specs.Accepted.{chosen, greatest_of, least_of}
use Rattle.comparison.specs.declared.range.Selection.{Selection}

-- samples from `from` to `to` (exclusive), on channels 1 to `channels`
pub record Extent : Type 0 where
  pub from : ℕ
  pub to : ℕ
  pub channels : ℕ

-- the range that events cover
abbrev pub extent_of : List Event → Extent
extent_of events = record {
  from = least_of (λ event. event.dest_in) events;
  to = greatest_of (λ event. event.dest_out) events;
  channels = max 1 (greatest_of (λ event. event.dest.last) events);
}

-- the range compared: the range that would be rendered of one list with the events of both projects
abbrev pub compared_in : Selection → (events others : List Event) → Extent
compared_in selection events others = record {
  from = chosen selection.from (extent_of (events ++ others)).from;
  to = chosen selection.to (extent_of (events ++ others)).to;
  channels = chosen selection.channels (extent_of (events ++ others)).channels;
}

-- a selected number of channels is 1 to 64
abbrev pub HasChannels : Selection → Type 0
HasChannels selection = IfSome selection.channels (λ channels. (1 ≤ channels) × (channels ≤ 64))

-- the selection includes this time on this channel
pub record IsChosen (selection : Selection) (channel time : ℕ) : Type 0 where
  pub begun : IfSome selection.from (λ from. from ≤ time)
  pub before_end : IfSome selection.to (λ to. time < to)
  pub to_last : IfSome selection.channels (λ channels. channel ≤ channels)

-- this time on this channel is in the extent
abbrev pub is_inside : Extent → (channel time : ℕ) → Bool
is_inside e channel time =
    nat_le 1 channel && (nat_le channel e.channels && (nat_le e.from time && nat_lt time e.to))
