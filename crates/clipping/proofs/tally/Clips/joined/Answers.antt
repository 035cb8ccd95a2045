use Rattle.std.proofs.Common.{◌⊎◌, inl, inr, ◌∙◌, arith}
use Rattle.std.specs.Prelude.{pos}
use Rattle.clipping.specs.Clips.{is_clipped}
use Rattle.clipping.proofs.Counted.{count-append, count-le, first_found, loudest-append}
use Rattle.clipping.proofs.Marked.{clipped_either, clipped_left, clipped_right, or_set, set_or_left, set_or_right}
use Rattle.clipping.proofs.tally.Clips.joined.Goals as goal

either : {A B P : Type 0} → A ⊎ B → (A → P) → (B → P) → P
either (inl a) f g = f a
either (inr b) f g = g b

pub returns : goal.returns
returns c = λ depth channels frames sums others whole long small mine theirs.
    let self = c.args.self in
    let next = c.args.next in
    record {
      samples =
          omega (
            arith,
            c.saturating_add.ensures,
            mine.samples,
            theirs.samples,
            small,
            count-append (is_clipped depth) sums others,
            count-le (is_clipped depth) sums,
            count-le (is_clipped depth) others,
          );
      first =
          first_found (is_clipped depth) sums others c.args.before self.first next.first c.first_joined.result (pos 0)
          c.first_joined.ensures.kept c.first_joined.ensures.shifted long small mine.first theirs.first;
      peak = omega (arith, c.max.ensures, mine.peak, theirs.peak, loudest-append depth sums others);
      on_channels = λ channel. (
        λ set. either (or_set self.channels next.channels channel set)
            (λ a. clipped_left depth channels sums others channel ((mine.on_channels channel).0 a))
            (λ b. clipped_right depth channels sums others frames channel (long ∙ whole) ((theirs.on_channels channel).0 b)),
        λ is. either (clipped_either depth channels sums others frames channel (long ∙ whole) is)
            (λ a. set_or_left self.channels next.channels channel ((mine.on_channels channel).1 a))
            (λ b. set_or_right self.channels next.channels channel ((theirs.on_channels channel).1 b)),
      );
    }
