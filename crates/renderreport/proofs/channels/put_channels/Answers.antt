use Rattle.std.proofs.Common.{◌≡◌, ◌-◌, ◌∙◌, ℕ, ap, refl, arith}
use Rattle.devices.specs.AppendLaws.{and_then, nothing, said, stopped}
use Rattle.renderreport.specs.Parts.{listed}
use Rattle.renderreport.specs.Report.{channels_of, channels_to, report_name}
use Rattle.renderreport.proofs.Listed.{all_but, one_more_later, one_more_listed}
use Rattle.renderreport.proofs.channels.put_channels.Goals as goal

pub loop-channel-init : goal.loop-channel-init
loop-channel-init g c =
    (nothing g.B.Bench report_name c.args.bench.now tt (g.met.B.Bench.only_now c.args.bench.now), refl)

pub returns-in_err-put_channel : goal.returns-in_err-put_channel
unfolding channels_of
returns-in_err-put_channel g c =
    said g.B.Bench report_name (all_but c.args.mask c.loop-channel.channel (63 - c.loop-channel.channel) 64
    c.loop-channel.is_later c.loop-channel.invariant.1 (omega (arith, c.loop-channel-test.true)))
    (and_then g.B.Bench report_name c.loop-channel.invariant.0
    (stopped g.B.Bench report_name _ _ c.from_residual.result c.from_residual.ensures.1
    c.in_err-put_channel.ensures.appends))

pub loop-channel-preserved : goal.loop-channel-preserved
loop-channel-preserved g c = (
  said g.B.Bench report_name (one_more_listed c.args.mask c.loop-channel.channel c.loop-channel.is_later
      c.loop-channel.invariant.1)
      (and_then g.B.Bench report_name c.loop-channel.invariant.0 c.in_ok-put_channel.ensures.appends),
  c.in_ok-put_channel.ensures.later
      ∙ one_more_later c.args.mask c.loop-channel.channel c.loop-channel.is_later c.loop-channel.invariant.1,
)

pub returns : goal.returns
unfolding channels_of
returns g c =
    let whole : c.loop-channel.channel ≡ 64 = omega (arith, c.loop-channel-test.false, c.loop-channel.auto.channel-end) in
    said g.B.Bench report_name (ap (λ (n : ℕ). listed (channels_to c.args.mask n)) whole) c.loop-channel.invariant.0
