use Rattle.std.proofs.Common.{◌≡◌, ◌∙◌, [], append-nil, sym, true, false}
use Rattle.devices.specs.AppendLaws.{nothing, said, stopped}
use Rattle.renderreport.specs.Parts.{channel_text, item_text}
use Rattle.renderreport.specs.Report.{is_marked, report_name}
use Rattle.renderreport.proofs.channels.put_channel.Goals as goal

pub returns-in_err-put_item-clause-appends : goal.returns-in_err-put_item-clause-appends
unfolding channel_text
returns-in_err-put_item-clause-appends g c =
    let set : is_marked c.args.mask c.args.channel ≡ true = sym c.has_channel.ensures ∙ c.if-has_channel.true in
    rw set (said g.B.Bench report_name (append-nil (item_text c.args.is_later.now _))
    (stopped g.B.Bench report_name _ [] c.from_residual.result c.from_residual.ensures.1 c.in_err-put_item.ensures))

pub returns-in_ok-put_item-clause-appends : goal.returns-in_ok-put_item-clause-appends
unfolding channel_text
returns-in_ok-put_item-clause-appends g c =
    let set : is_marked c.args.mask c.args.channel ≡ true = sym c.has_channel.ensures ∙ c.if-has_channel.true in
    rw set c.in_ok-put_item.ensures

pub returns-else-has_channel-clause-appends : goal.returns-else-has_channel-clause-appends
unfolding channel_text
returns-else-has_channel-clause-appends g c =
    let unset : is_marked c.args.mask c.args.channel ≡ false = sym c.has_channel.ensures ∙ c.if-has_channel.false in
    rw unset (nothing g.B.Bench report_name c.args.bench.now tt (g.met.B.Bench.only_now c.args.bench.now))
