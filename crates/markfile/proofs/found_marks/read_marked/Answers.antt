use Rattle.std.proofs.Common.{◌≡◌, ◌∙◌, ◌==◌, ℕ, map, take, drop, length, ap, arith}
use Rattle.std.proofs.lemmas.List.{length-drop, take_all, take_at}
use Rattle.markfile.specs.Format.{marks_name}
use Rattle.markfile.proofs.Ranges.{range_in}
use Rattle.markfile.proofs.found_marks.read_marked.Goals as goal

pub returns-in-Ok-marks_among-clause-marked : goal.returns-in-Ok-marks_among-clause-marked
returns-in-Ok-marks_among-clause-marked g c honest marks there size =
    let blocks = c.args.blocks in
    let buffer = c.read_at.new.buffer in
    let many : length buffer ≡ blocks = omega (arith, c.in-Ok.ensures.len) in
    let read : buffer ≡ take blocks (drop 44 marks) =
    range_in (g.B.Bench.stored c.args.bench.now marks_name) marks 44 buffer blocks there many
    (c.in-Ok-read_at.ensures.read honest) in
    let all : take blocks (drop 44 marks) ≡ drop 44 marks =
    take_all blocks (drop 44 marks) (omega (arith, length-drop 44 marks, size)) in
    let room : length buffer ≡ c.in-Ok.bytes.len = omega arith in
    let slice : c.as_slice.result.now ≡ buffer = c.as_slice.ensures.value ∙ take_at buffer _ c.in-Ok.bytes.len room in
    c.in-Ok-marks_among.ensures ∙ ap (map (λ (byte : ℕ). byte == 1)) (slice ∙ read ∙ all)
