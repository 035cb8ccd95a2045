use Rattle.std.proofs.Common.{◌≡◌, length, refl, rules, tests}
use Rattle.adltoken.proofs.FirstLine.{lines_in-empty}
use Rattle.adltoken.proofs.lines.Lines.next_line.Goals as goal

pub returns-then-is_empty : goal.returns-then-is_empty
returns-then-is_empty c =
    let none : length c.self.inside.rest.now ≡ 0 = search (rules, tests) in
    let e = lines_in-empty c.self.inside.rest.now none in
    record { line = (cc, refl) }
