use Rattle.std.proofs.Common.{◌≡◌, Ok}
use Rattle.devices.specs.Frame.{Appends}
use Rattle.renderreport.specs.Parts.{listed}
use Rattle.renderreport.specs.Report.{channels_to, report_name}
use Rattle.renderreport.proofs.Listed.{is_some_listed}
use Rattle.renderreport.proofs.channels.put_channels.Given as goal

-- the channels so far are appended, and the flag says whether there is one
abbrev pub invariant-loop-channel : goal.invariant-loop-channel
invariant-loop-channel g l =
    Appends g.B.Bench report_name (listed (channels_to l.mask l.channel)) l.initial.bench l.bench (Ok tt)
    × (l.is_later ≡ is_some_listed (channels_to l.mask l.channel))
