use Rattle.std.proofs.Common.{◌≡◌, ◌<◌, true, false, length, refl, ap, sym, ◌∙◌, Ok, Err, Some, rules}
use Rattle.list_terms.specs.Fields as spec
use Rattle.list_terms.specs.Tokens.{token_at}
use Rattle.adltoken.specs.Views.{token_view}
use Rattle.adlread.specs.FaultSpans.{line_length, next_span}
use Rattle.adlread.proofs.TokenRun.{IsLeft-fault, IsLeft-next, IsLeft-refused, IsLeft-whole, on_err}
use Rattle.adlread.proofs.fields.end_with_zeros.Goals as goal

pub loop-token-init : goal.loop-token-init
loop-token-init c = record {
  left = IsLeft-whole (λ t. spec.is_zero t.content) (line_length c.args.tokens.now) c.args.tokens.now.rest.now;
  long = refl;
}

pub loop-token-preserved : goal.loop-token-preserved
loop-token-preserved c =
    let at : token_at c.loop-token.tokens.rest.now
    ≡ Ok (Some (token_view c.in-Some.token, c.cut_next.new.tokens.rest.now)) = search rules in
    let zero : spec.is_zero c.in-Some.token.content.now ≡ true = cc in
    let shorter : length c.cut_next.new.tokens.rest.now < length c.loop-token.tokens.rest.now = search rules in
    record {
      left = IsLeft-next (λ t. spec.is_zero t.content) (line_length c.args.tokens.now) c.args.tokens.now.rest.now
          c.loop-token.tokens.rest.now c.cut_next.new.tokens.rest.now (token_view c.in-Some.token)
          c.loop-token.invariant.left at zero shorter;
      long = c.cut_next.ensures.steps.long ∙ c.loop-token.invariant.long;
    }

pub returns-in_err-token : goal.returns-in_err-token
returns-in_err-token c =
    let at : token_at c.loop-token.tokens.rest.now ≡ Err c.in_err-token.field-0.0 = search rules in
    let e = IsLeft-fault (λ t. spec.is_zero t.content) (line_length c.args.tokens.now) c.args.tokens.now.rest.now
    c.loop-token.tokens.rest.now c.in_err-token.field-0.0 c.loop-token.invariant.left at in
    record {
      exact = rw e.fault_is (search rules);
      span = on_err c.from_residual.result (c.cut_next.ensures.steps.span
          ∙ ap (λ n. next_span n c.loop-token.tokens.rest.now) c.loop-token.invariant.long ∙ sym e.span_is);
    }

pub returns-then-not-is_zero : goal.returns-then-not-is_zero
returns-then-not-is_zero c =
    let at : token_at c.loop-token.tokens.rest.now
    ≡ Ok (Some (token_view c.in-Some.token, c.cut_next.new.tokens.rest.now)) = search rules in
    let other : spec.is_zero c.in-Some.token.content.now ≡ false = cc in
    let shorter : length c.cut_next.new.tokens.rest.now < length c.loop-token.tokens.rest.now = search rules in
    let e = IsLeft-refused (λ t. spec.is_zero t.content) (line_length c.args.tokens.now) c.args.tokens.now.rest.now
    c.loop-token.tokens.rest.now c.cut_next.new.tokens.rest.now (token_view c.in-Some.token)
    c.loop-token.invariant.left at other shorter in
    record {
      exact = sym e.fault_is;
      span = c.cut_next.ensures.steps.span ∙ ap (λ n. next_span n c.loop-token.tokens.rest.now) c.loop-token.invariant.long
          ∙ sym e.span_is;
    }
