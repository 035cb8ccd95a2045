-- What a call that only reads leaves of a store composes, and stands for what another fault tells.
use Rattle.std.proofs.Common.{◌∙◌, ℕ, Bool, List}
use Rattle.std.specs.Prelude.{⊤}
use Rattle.work_terms.specs.Disk.{Files, HasRead}

module _ {D : Type 0} {stored : D → Files} {honest : D → Bool} {failures : D → ℕ} {failed_at : D → List ℕ → Type 0}
  where
    -- a reading behind one that didn't fail
    pub read_behind : {old mid new : D} {quiet device failed : Type 0}
        → HasRead stored honest failures failed_at old mid ⊤ ⊥ ⊤
        → HasRead stored honest failures failed_at mid new quiet device failed
        → HasRead stored honest failures failed_at old new quiet device failed
    read_behind opened read = record {
      same = read.same ∙ opened.same;
      honest_same = read.honest_same ∙ opened.honest_same;
      cause = rw (opened.cause.left tt) at read.cause;
      keeps = λ n was. read.keeps n (opened.keeps n was);
      failed_there = read.failed_there;
    }

    -- a reading, by another fault that stands for its own
    pub read_as : {old new : D} {quiet device failed quiet_so device_so failed_so : Type 0} → (quiet_so → quiet)
        → (device_so → device) → (failed → failed_so)
        → HasRead stored honest failures failed_at old new quiet device failed
        → HasRead stored honest failures failed_at old new quiet_so device_so failed_so
    read_as quiets devices fails read = record {
      same = read.same;
      honest_same = read.honest_same;
      cause = record {
        later = read.cause.later;
        left = λ quiet. read.cause.left (quiets quiet);
        rose = λ device. read.cause.rose (devices device);
      };
      keeps = read.keeps;
      failed_there = fails read.failed_there;
    }
