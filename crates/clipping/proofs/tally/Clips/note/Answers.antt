use Rattle.std.proofs.Common.{◌≡◌, true, false, sym, ap, ◌∙◌, arith}
use Rattle.std.specs.Prelude.{unsigned_abs}
use Rattle.std.specs.Int.{w64}
use Rattle.std.proofs.lemmas.Int.{to_z-of_z}
use Rattle.sound_terms.specs.Depth.{bits_of}
use Rattle.clipping.specs.Clips.{is_clipped}
use Rattle.clipping.proofs.Counted.{count-le, count_more, count_same, first_noted, first_same, loud_more, loud_same}
use Rattle.clipping.proofs.Marked.{clipped_left, marked, none_more}
use Rattle.clipping.proofs.tally.Clips.note.Goals as goal

pub returns-else-is_clipped : goal.returns-else-is_clipped
returns-else-is_clipped c = λ channels frame sums place near long small mine.
    let bits = bits_of c.args.depth in
    let sum = c.args.sum in
    let fails : is_clipped bits sum ≡ false =
    ap (is_clipped bits) (sym (to_z-of_z w64 sum c.ranges.sum)) ∙ sym c.is_clipped.ensures ∙ c.if-is_clipped.false in
    record {
      samples = mine.samples ∙ sym (count_same (is_clipped bits) sums sum fails);
      first = mine.first ∙ sym (first_same (is_clipped bits) sums sum fails);
      peak = mine.peak ∙ sym (loud_same bits sums sum fails);
      on_channels = λ other. (
        λ set. clipped_left bits channels sums _ other ((mine.on_channels other).0 set),
        λ is. (mine.on_channels other).1
            (none_more bits channels sums sum frame c.args.channel other (long ∙ place) near fails is),
      );
    }

pub returns-then-is_clipped : goal.returns-then-is_clipped
returns-then-is_clipped c = λ channels frame sums place near long small mine.
    let bits = bits_of c.args.depth in
    let sum = c.args.sum in
    let same = to_z-of_z w64 sum c.ranges.sum in
    let passes : is_clipped bits sum ≡ true =
    ap (is_clipped bits) (sym same) ∙ sym c.is_clipped.ensures ∙ c.if-is_clipped.true in
    let size : c.unsigned_abs.result ≡ unsigned_abs sum = c.unsigned_abs.ensures.value ∙ ap unsigned_abs same in
    record {
      samples =
          omega (
            arith,
            c.saturating_add-self.ensures,
            mine.samples,
            count_more (is_clipped bits) sums sum passes,
            count-le (is_clipped bits) sums,
            long,
            small,
          );
      first =
          c.or-self.ensures
          ∙ first_noted (is_clipped bits) sums sum c.args.index c.args.self.now.first long passes mine.first;
      peak = omega (arith, c.max-self.ensures, size, mine.peak, loud_more bits sums sum passes);
      on_channels = λ other.
          marked bits channels sums sum frame c.args.channel other c.args.self.now.channels (long ∙ place) near c.requires
          passes (mine.on_channels other);
    }
