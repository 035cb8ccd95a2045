-- The mix that a listener hears: events with their fades, their exact sum, and the sum rounded to a depth.
use Rattle.std.specs.Prelude.{ℕ, ◌+◌, ◌-◌, ◌^◌, ◌==◌, ◌&&◌, nat_lt, nat_le, Bool, ℤ, pos, ◌+ℤ◌, ◌*ℤ◌, List, [], ◌∷◌, Option, None, Some, find, if◌then◌else◌}
use Rattle.std.specs.Int.{int_div_euclid, saturate_to_bits}
use Rattle.sound_terms.specs.declared.Event.{Event}
use Rattle.sound_terms.specs.declared.BoundIndex.{BoundIndex}

-- contents of the files as samples at full scale (48 bits), by file, channel (from 1) and sample frame; zero elsewhere
abbrev pub Reading : Type 0
Reading = ℕ → ℕ → ℕ → ℤ

-- a sample of this depth at full scale
abbrev pub full_scale : ℕ → ℤ → ℤ
full_scale depth sample = sample *ℤ pos (2 ^ (48 - depth))

-- gain at sample i of an event with the given fade-in, fade-out and length, as numerator and denominator
abbrev pub fade_fraction : ℕ → ℕ → ℕ → ℕ → ℕ × ℕ
fade_fraction rise fall length i =
    if nat_lt i rise then (i, rise) else (if nat_le (length - fall) i then (length - i, fall) else (1, 1))

-- the fraction of a sample, rounded down
abbrev pub share_of : ℤ → ℕ × ℕ → ℤ
share_of sample fraction = int_div_euclid (sample *ℤ pos fraction.0) (pos fraction.1)

-- the event plays on this channel at this time; its last channel is included, its `out` is not
abbrev pub is_heard : Event → ℕ → ℕ → Bool
is_heard event channel time =
    nat_le event.dest.first channel && (nat_le channel event.dest.last
    && (nat_le event.dest_in time && nat_lt time event.dest_out))

-- the bound index with this number
abbrev pub index_of : List BoundIndex → ℕ → Option BoundIndex
index_of indexes number = find (λ index. index.number == number) indexes

-- value that an event with this index adds to one channel at one time
abbrev pub contribution_at : Reading → Option BoundIndex → Event → ℕ → ℕ → ℤ
contribution_at reading None event channel time = pos 0
contribution_at reading (Some index) event channel time =
    if is_heard event channel time
    then share_of
    (reading index.file (event.source.first + (channel - event.dest.first))
    ((event.source_in - index.base) + (time - event.dest_in)))
    (fade_fraction event.rise.length event.fall.length (event.dest_out - event.dest_in) (time - event.dest_in))
    else pos 0

-- value that an event adds, with its index found by number
abbrev pub contribution_of : Reading → List BoundIndex → Event → ℕ → ℕ → ℤ
contribution_of reading indexes event channel time =
    contribution_at reading (index_of indexes event.index) event channel time

-- exact sum of all events on one channel at one time
abbrev pub mix_at : Reading → List BoundIndex → List Event → ℕ → ℕ → ℤ
mix_at reading indexes [] channel time = pos 0
mix_at reading indexes (event ∷ events) channel time =
    contribution_of reading indexes event channel time +ℤ mix_at reading indexes events channel time

-- a sum rounded to this depth, halves up, and clipped
abbrev pub quantized : ℕ → ℤ → ℤ
quantized depth sum =
    saturate_to_bits (depth - 1) (int_div_euclid (sum +ℤ pos (2 ^ (47 - depth))) (pos (2 ^ (48 - depth))))
