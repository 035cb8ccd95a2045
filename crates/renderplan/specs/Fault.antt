-- Refusal numbers of the errors of a plan.
use Rattle.std.specs.Prelude.{ℕ}
use Rattle.renderplan.specs.declared.fault.PlanFault.{PlanFault}
use Rattle.renderplan.specs.declared.fault.PlanFault.TheVariants.{Memory, EmptyRange}

-- the refusal number of an error
abbrev pub number_of : PlanFault → ℕ
number_of Memory = 57
number_of EmptyRange = 58
