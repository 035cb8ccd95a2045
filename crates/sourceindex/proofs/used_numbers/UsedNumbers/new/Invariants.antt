use Rattle.std.proofs.Common.{◌≡◌, ℕ, ◌<◌, length, false, take}
use Rattle.std.specs.List.{slice_index_or}
use Rattle.list_terms.specs.Binding.{is_used}
use Rattle.sourceindex.proofs.used_numbers.UsedNumbers.new.Given as goal

-- The numbers that the entries so far name.
abbrev pub invariant-loop-event : goal.invariant-loop-event
invariant-loop-event l =
    (n : ℕ) → n < length l.flags.items → slice_index_or l.flags.items n false ≡ is_used (take l.event-index l.events) n
