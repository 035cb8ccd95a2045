-- Refusal numbers of the errors of a board.
use Rattle.std.specs.Prelude.{ℕ}
use Rattle.workboard.specs.declared.fault.BoardFault.{BoardFault}
use Rattle.workboard.specs.declared.fault.BoardFault.TheVariants.{Memory, NoOpenJob, Stale, GivenUp}

-- the refusal number of an error
abbrev pub number_of : BoardFault → ℕ
number_of Memory = 60
number_of NoOpenJob = 64
number_of Stale = 65
number_of (GivenUp job) = 66
