use Rattle.std.proofs.Common.{◌≡◌, ◌<◌, length, refl, ap, sym, ◌∙◌, Ok, Err, Some, rules}
use Rattle.list_terms.specs.Fields.{end_line}
use Rattle.list_terms.specs.Forms.{any}
use Rattle.list_terms.specs.Tokens.{token_at}
use Rattle.adltoken.specs.Views.{token_view}
use Rattle.adlread.specs.FaultSpans.{line_length, next_span}
use Rattle.adlread.proofs.TokenRun.{IsLeft-fault, IsLeft-next, IsLeft-whole, on_err}
use Rattle.adlread.proofs.fields.end_line.Goals as goal

pub loop-init : goal.loop-init
loop-init c = record { left = IsLeft-whole any (line_length c.args.tokens.now) c.args.tokens.now.rest.now; long = refl }

pub loop-preserved : goal.loop-preserved
loop-preserved c =
    let at : token_at c.loop.tokens.rest.now ≡ Ok (Some (token_view c.in-Some.field-0, c.cut_next.new.tokens.rest.now))
    = search rules in
    let shorter : length c.cut_next.new.tokens.rest.now < length c.loop.tokens.rest.now = search rules in
    record {
      left = IsLeft-next any (line_length c.args.tokens.now) c.args.tokens.now.rest.now c.loop.tokens.rest.now
          c.cut_next.new.tokens.rest.now (token_view c.in-Some.field-0) c.loop.invariant.left at refl shorter;
      long = c.cut_next.ensures.steps.long ∙ c.loop.invariant.long;
    }

pub returns-in_err-cut_next : goal.returns-in_err-cut_next
unfolding end_line
returns-in_err-cut_next c =
    let at : token_at c.loop.tokens.rest.now ≡ Err c.in_err-cut_next.field-0.0 = search rules in
    let e = IsLeft-fault any (line_length c.args.tokens.now) c.args.tokens.now.rest.now c.loop.tokens.rest.now
    c.in_err-cut_next.field-0.0 c.loop.invariant.left at in
    record {
      exact = rw e.fault_is (search rules);
      span = on_err c.from_residual.result (c.cut_next.ensures.steps.span
          ∙ ap (λ n. next_span n c.loop.tokens.rest.now) c.loop.invariant.long ∙ sym e.span_is);
    }
