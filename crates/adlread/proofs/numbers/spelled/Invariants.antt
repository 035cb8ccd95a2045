use Rattle.std.proofs.Common.{◌≡◌, ◌<◌, ◌^◌, take}
use Rattle.list_terms.specs.Fields.{spelled}
use Rattle.adlread.proofs.numbers.spelled.Given as goal

-- `number` is the value of the digits so far.
abbrev pub invariant-loop-digit : goal.invariant-loop-digit
invariant-loop-digit l =
    record { value : l.number ≡ spelled (take l.digit-index l.digits); small : l.number < 10 ^ l.digit-index }
