use Rattle.std.proofs.Common.{length}
use Rattle.findings.proofs.passed_over.PassedLines.next_line.Given as goal

abbrev pub decreases-lines : goal.decreases-lines
decreases-lines l = length l.self.lines.lines
