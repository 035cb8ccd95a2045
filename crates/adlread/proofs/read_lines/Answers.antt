use Rattle.std.proofs.Common.{◌≡◌, ◌+◌, false, [], ap, sym, ◌∙◌}
use Rattle.std.specs.List.{list_all}
use Rattle.sampletime.specs.FrameRate.{frames_per_second}
use Rattle.list_terms.specs.Lines.{LinesLeft}
use Rattle.list_terms.specs.Text.{Context, is_behind, nothing_read, read_from}
use Rattle.list_terms.specs.WholeProject.{is_line_byte}
use Rattle.adlread.specs.Context.{context_of}
use Rattle.adlread.specs.FaultSpans.{lines_span}
use Rattle.adlread.proofs.Finished.{first_of-lines, lines_of-lines, read_from-step, rest_of-lines}
use Rattle.adlread.proofs.SoFar.{IsSoFar-line, IsSoFar-nothing}
use Rattle.adlread.proofs.SpanLaws.{lines_span-step}
use Rattle.adlread.proofs.read_lines.Goals as goal

pub lines-init : goal.lines-init
lines-init c = record {
  same = ap (λ (d : Context). read_from (frames_per_second c.args.rate) d c.new-lines.result.number c.new-lines.result.lines) c.in_ok-draft.ensures
      ∙ ap (λ (left : LinesLeft). read_from (frames_per_second c.args.rate) nothing_read left.number left.lines) c.new-lines.ensures;
  span = ap (λ (d : Context). lines_span (frames_per_second c.args.rate) d c.new-lines.result.number [] c.new-lines.result.lines) c.in_ok-draft.ensures
      ∙ ap (λ (left : LinesLeft). lines_span (frames_per_second c.args.rate) nothing_read left.number [] left.lines) c.new-lines.ensures;
  so_far = rw c.in_ok-draft.ensures (IsSoFar-nothing (frames_per_second c.args.rate));
  whole = ap (λ (left : LinesLeft). list_all (list_all is_line_byte) left.lines) c.new-lines.ensures
      ∙ lines_of-lines c.args.text.now;
}

pub finish-requires : goal.finish-requires
finish-requires c =
    let whole =
    first_of-lines c.lines.lines.lines c.next_line.new.self.lines c.in-Some.line.now c.in-Some.ensures.line.0
    c.lines.invariant.whole in
    IsSoFar-line (frames_per_second c.args.rate) (context_of c.lines.draft) (context_of c.add.new.self)
    c.number.result c.in-Some.line.now c.lines.invariant.so_far whole
    c.in_ok-add.ensures.exact

pub lines-preserved : goal.lines-preserved
lines-preserved c =
    let first = c.in-Some.ensures.line.0 in
    let whole =
    first_of-lines c.lines.lines.lines c.next_line.new.self.lines c.in-Some.line.now first c.lines.invariant.whole
    in
    let before : false ≡ is_behind c.add.new.self.stage = sym c.if-is_behind.false ∙ c.is_behind.ensures in
    let number : c.number.result ≡ c.lines.lines.number + 1 = c.number.ensures ∙ c.in-Some.ensures.line.1 in
    record {
      same = ap (λ n. read_from (frames_per_second c.args.rate) (context_of c.add.new.self) n c.next_line.new.self.lines) (sym c.number.ensures)
          ∙ read_from-step (frames_per_second c.args.rate) (context_of c.lines.draft) (context_of c.add.new.self)
          c.lines.lines.number c.number.result c.in-Some.line.now
          c.lines.lines.lines c.next_line.new.self.lines first number c.in_ok-add.ensures.exact before
          ∙ c.lines.invariant.same;
      span = ap (λ n. lines_span (frames_per_second c.args.rate) (context_of c.add.new.self) n c.in-Some.line.now c.next_line.new.self.lines) (sym c.number.ensures)
          ∙ lines_span-step (frames_per_second c.args.rate) (context_of c.lines.draft) (context_of c.add.new.self)
          c.lines.lines.number c.number.result c.lines.last.now c.in-Some.line.now
          c.lines.lines.lines c.next_line.new.self.lines first number c.in_ok-add.ensures.exact before
          ∙ c.lines.invariant.span;
      so_far = IsSoFar-line (frames_per_second c.args.rate) (context_of c.lines.draft) (context_of c.add.new.self)
          c.number.result c.in-Some.line.now c.lines.invariant.so_far whole
          c.in_ok-add.ensures.exact;
      whole = rest_of-lines c.lines.lines.lines c.next_line.new.self.lines c.in-Some.line.now first
          c.lines.invariant.whole;
    }
