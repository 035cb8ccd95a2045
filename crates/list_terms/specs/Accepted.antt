-- The first faulty entry of a bound project, and the render options with their defaults.
use Rattle.std.specs.Prelude.{ℕ, ◌+◌, ◌-◌, ◌&&◌, ◌||◌, nat_lt, Bool, false, List, [], ◌∷◌, Option, None, Some, if◌then◌else◌, slice_get, option_map, min, max}
use Rattle.sound_terms.specs.declared.Depth.{Depth}
use Rattle.sound_terms.specs.declared.Event.{Event}
use Rattle.sound_terms.specs.declared.BoundIndex.{BoundIndex}
use Rattle.sound_terms.specs.Mix.{index_of}
use Rattle.sound_terms.specs.Sounds.{SoundFacts}
use Rattle.sound_terms.specs.Render.{Range}
use Rattle.work_terms.specs.Refusals.{Refusal, Entry}
use Rattle.list_terms.specs.Project.{ListProject}
use Rattle.list_terms.specs.Binding.{Binding, OpenedFile}

-- Whether an event plays a sample frame that its index can't address.
abbrev pub is_outside : BoundIndex → Event → Bool
is_outside index event =
    nat_lt event.dest_in event.dest_out && (nat_lt event.source_in index.base
    || nat_lt index.addressable ((event.source_in - index.base) + (event.dest_out - event.dest_in)))

-- The fault of an event's span: 42 ends before it starts, 43 fades too long, 44 no such source channel, 46 samples
-- out of reach.
abbrev pub span_fault : BoundIndex → SoundFacts → Event → Option ℕ
span_fault index facts event =
    if nat_lt event.dest_out event.dest_in then Some 42
    else if nat_lt (event.dest_out - event.dest_in) (event.rise.length + event.fall.length) then Some 43
    else if nat_lt facts.channels event.source.last then Some 44
    else if is_outside index event then Some 46
    else None

-- The fault of an event: 41 if no bound index has its number, or else the fault of its span.
abbrev pub entry_fault : Binding → Event → Option ℕ
entry_fault binding event = of_index (index_of binding.indexes event.index) where
  of_file : BoundIndex → Option OpenedFile → Option ℕ
  of_file index None = Some 41
  of_file index (Some file) = span_fault index file.facts event

  of_index : Option BoundIndex → Option ℕ
  of_index None = Some 41
  of_index (Some index) = of_file index (slice_get binding.files index.file)

-- The earlier of two faults.
abbrev pub first_fault : Option Refusal → Option Refusal → Option Refusal
first_fault None later = later
first_fault (Some refusal) later = Some refusal

-- The refusal of an entry with this fault number.
abbrev pub entry_refusal : Event → ℕ → Refusal
entry_refusal event number = record { number = number; location = Entry event.number; late = false }

-- The first fault of the events, in list order.
abbrev pub event_fault : Binding → List Event → Option Refusal
event_fault binding [] = None
event_fault binding (event ∷ events) =
    first_fault (option_map (entry_refusal event) (entry_fault binding event)) (event_fault binding events)

-- The options of a rendering; the default applies to those that aren't given.
pub record OptionValues : Type 0 where
  pub from : Option ℕ
  pub to : Option ℕ
  pub channels : Option ℕ
  pub depth : Depth

-- The minimum of `f` over the events, or 0 if there are none.
abbrev pub least_of : (Event → ℕ) → List Event → ℕ
least_of f [] = 0
least_of f (event ∷ []) = f event
least_of f (event ∷ other ∷ events) = min (f event) (least_of f (other ∷ events))

-- The maximum of `f` over the events, or 0 if there are none.
abbrev pub greatest_of : (Event → ℕ) → List Event → ℕ
greatest_of f [] = 0
greatest_of f (event ∷ events) = max (f event) (greatest_of f events)

-- The value of an option, or its default.
abbrev pub chosen : Option ℕ → ℕ → ℕ
chosen None default = default
chosen (Some value) default = value

-- The range rendered: by default from the earliest destination in to the latest destination out, on all channels,
-- at least one.
abbrev pub range_of : ListProject → OptionValues → Range
range_of project options = record {
  from = chosen options.from (least_of (λ event. event.dest_in) project.events);
  to = chosen options.to (greatest_of (λ event. event.dest_out) project.events);
  channels = chosen options.channels (max 1 (greatest_of (λ event. event.dest.last) project.events));
  depth = options.depth;
}
