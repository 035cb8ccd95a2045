-- Frame rates of time code.
use Rattle.std.specs.Prelude.{ℕ, ◌==◌, ◌||◌, Bool}
use Rattle.sampletime.specs.declared.frame_rate.Rate.{Rate}
use Rattle.sampletime.specs.declared.frame_rate.Rate.TheVariants.{Frames24, Frames25, Frames30}

-- number of frames per second
abbrev pub frames_per_second : Rate → ℕ
frames_per_second Frames24 = 24
frames_per_second Frames25 = 25
frames_per_second Frames30 = 30

-- the number is one of the three frame rates
abbrev pub is_rate : ℕ → Bool
is_rate rate = rate == 24 || rate == 25 || rate == 30
