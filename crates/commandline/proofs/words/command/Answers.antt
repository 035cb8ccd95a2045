use Rattle.std.proofs.Common.{◌≡◌, ◌∙◌, ap, codes, refl}
use Rattle.std.proofs.lemmas.Result.{IfOk-weaker}
use Rattle.clap.specs.Words.{App, Shape, with_subcommand}
use Rattle.commandline.specs.CommandLine.{check_shape, compare_shape, consolidate_shape, explain_shape, rendering_shape, show_shape, top_app}
use Rattle.commandline.proofs.words.command.Goals as goal

added : (app other : App) (shape : Shape) → app ≡ other → with_subcommand app shape ≡ with_subcommand other shape
added app other shape same = ap (λ known. with_subcommand known shape) same

pub returns : goal.returns
returns c =
    let check = c.check_command.ensures in
    let consolidate = c.consolidate_command.ensures in
    let render = c.render_command.ensures in
    let resume = c.resume_command.ensures in
    let compare = c.compare_command.ensures in
    let show = c.show_command.ensures in
    let explain = c.explain_command.ensures in
    let one = c.in_ok-program-2.ensures check_shape check.shape check.local
    ∙ added _ top_app check_shape c.in_ok-program.ensures in
    let two = c.in_ok-program-3.ensures consolidate_shape consolidate.shape consolidate.local
    ∙ added _ _ consolidate_shape one in
    let three = c.in_ok-program-4.ensures (rendering_shape (codes "render")) render.shape render.local
    ∙ added _ _ (rendering_shape (codes "render")) two in
    let four = c.in_ok-program-5.ensures (rendering_shape (codes "resume")) resume.shape resume.local
    ∙ added _ _ (rendering_shape (codes "resume")) three in
    let five = c.in_ok-program-6.ensures compare_shape compare.shape compare.local ∙ added _ _ compare_shape four in
    let six = c.in_ok-program-7.ensures show_shape show.shape show.local ∙ added _ _ show_shape five in
    IfOk-weaker c.with_command-7.result _ _ (λ all is. is ∙ added _ _ explain_shape six)
    (c.with_command-7.ensures explain_shape explain.shape explain.local)
