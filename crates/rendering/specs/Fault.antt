-- The number of each fault of a rendering. None names a place, and each comes before anything is written.
use Rattle.std.specs.Prelude.{◌≡◌, ℕ, ◌<◌, ◌≤◌, ⊤, false}
use Rattle.sound_terms.specs.Render.{Range}
use Rattle.work_terms.specs.Refusals.{Refusal, Nowhere}
use Rattle.renderplan.specs.declared.fault.PlanFault as plan
use Rattle.renderplan.specs.declared.fault.PlanFault.TheVariants as of_plan
use Rattle.rendering.specs.declared.fault.RenderFault.{RenderFault}
use Rattle.rendering.specs.declared.fault.RenderFault.TheVariants.{Intervals, EmptyRange, Memory, MarksMemory}

abbrev pub number_of : RenderFault → ℕ
number_of Intervals = 47
number_of EmptyRange = 58
number_of Memory = 57
number_of MarksMemory = 69

abbrev pub refusal_of : RenderFault → Refusal
refusal_of fault = record { number = number_of fault; location = Nowhere; late = false }

-- no earlier fault is due for this range
abbrev pub ComesFirst : Range → RenderFault → Type 0
ComesFirst range Intervals = ⊤
ComesFirst range EmptyRange = range.to ≤ range.from
ComesFirst range Memory = range.from < range.to
ComesFirst range MarksMemory = range.from < range.to

-- why a rendering isn't planned
abbrev pub fault_of_plan : plan.PlanFault → RenderFault
fault_of_plan of_plan.Memory = Memory
fault_of_plan of_plan.EmptyRange = EmptyRange

-- 57: no memory was left
abbrev pub WantsMemory : RenderFault → Type 0
WantsMemory fault = fault ≡ Memory
