use Rattle.std.proofs.Common.{◌∙◌, arith, get_or, rules}
use Rattle.std.specs.Prelude.{pos}
use Rattle.std.proofs.lemmas.Int.{to_z-of_z}
use mir.Syntax.{w32}
use Rattle.pcm.proofs.Adding.{four_summed, words_fit}
use Rattle.pcm.proofs.lanes.add_four.Goals as goal

pub overflow_add-sums-2 : goal.overflow_add-sums-2
overflow_add-sums-2 c = words_fit _ _ 1 c.requires.room (search rules) c.ranges.b (omega arith) (omega arith)

pub overflow_add-sums-3 : goal.overflow_add-sums-3
overflow_add-sums-3 c = words_fit _ _ 2 c.requires.room (search rules) c.ranges.c (omega arith) (omega arith)

pub overflow_add-sums-4 : goal.overflow_add-sums-4
overflow_add-sums-4 c = words_fit _ _ 3 c.requires.room (search rules) c.ranges.d (omega arith) (omega arith)

pub returns : goal.returns
returns c =
    let sums = c.args.sums.now in
    let room = c.requires.room in
    c.put_four.ensures
    ∙ rw (
      to_z-of_z w32 _ (words_fit sums _ 0 room (search rules) c.ranges.a (omega arith) (omega arith)),
      to_z-of_z w32 _ (words_fit sums _ 1 room (search rules) c.ranges.b (omega arith) (omega arith)),
      to_z-of_z w32 _ (words_fit sums _ 2 room (search rules) c.ranges.c (omega arith) (omega arith)),
      to_z-of_z w32 _ (words_fit sums _ 3 room (search rules) c.ranges.d (omega arith) (omega arith)),
      to_z-of_z w32 (get_or sums 0 (pos 0)) (search rules),
      to_z-of_z w32 (get_or sums 1 (pos 0)) (search rules),
      to_z-of_z w32 (get_or sums 2 (pos 0)) (search rules),
      to_z-of_z w32 (get_or sums 3 (pos 0)) (search rules),
      to_z-of_z w32 c.args.a c.ranges.a,
      to_z-of_z w32 c.args.b c.ranges.b,
      to_z-of_z w32 c.args.c c.ranges.c,
      to_z-of_z w32 c.args.d c.ranges.d,
    )
    (four_summed sums c.args.a c.args.b c.args.c c.args.d c.requires.four)
