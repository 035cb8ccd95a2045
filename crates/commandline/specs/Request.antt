-- Requests as callers see them.
use Rattle.std.specs.Prelude.{option_map}
use Rattle.commandline.specs.CommandLine as words
use Rattle.commandline.specs.declared.choice.Chosen.{Chosen}
use Rattle.commandline.specs.declared.choice.Drawn.{Drawn}
use Rattle.commandline.specs.declared.choice.Selected.{Selected}
use Rattle.commandline.specs.declared.request.Request.{Request}
use Rattle.commandline.specs.declared.request.Request.TheVariants.{Check, Report, Render, Resume, Consolidate, Compare, Show, Explain, ExplainNotice}

-- options of a rendering
abbrev pub chosen_of : Chosen → words.Chosen
chosen_of chosen = record {
  from = option_map (λ text. text.now) chosen.from;
  to = option_map (λ text. text.now) chosen.to;
  channels = chosen.channels;
  depth = chosen.depth;
  order = chosen.order;
  report = chosen.report;
}

-- options of a comparison
abbrev pub selected_of : Selected → words.Selected
selected_of selected = record {
  from = option_map (λ text. text.now) selected.from;
  to = option_map (λ text. text.now) selected.to;
  channels = selected.channels;
  report = selected.report;
}

-- options of a picture
abbrev pub drawn_of : Drawn → words.Drawn
drawn_of drawn = record {
  from = option_map (λ text. text.now) drawn.from;
  to = option_map (λ text. text.now) drawn.to;
}

-- the request
abbrev pub asked_of : Request → words.Asked
asked_of (Check list media) = words.Check list.now media.now
asked_of (Report list media) = words.Report list.now media.now
asked_of (Render places chosen) = words.Render places.list.now places.media.now places.out.now (chosen_of chosen)
asked_of (Resume places chosen) = words.Resume places.list.now places.media.now places.out.now (chosen_of chosen)
asked_of (Consolidate places handle report) =
    words.Consolidate places.list.now places.media.now places.out.now handle report
asked_of (Compare places selected) = words.Compare places.list.now places.media.now places.other_list.now
    places.other_media.now (selected_of selected)
asked_of (Show list media handle drawn) = words.Show list.now media.now handle (drawn_of drawn)
asked_of (Explain number) = words.Explain (option_map (λ text. text.now) number)
asked_of (ExplainNotice number) = words.ExplainNotice (option_map (λ text. text.now) number)
