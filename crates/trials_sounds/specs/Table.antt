-- The samples of a stereo file as two rows.
use Rattle.std.specs.Prelude.{ℕ, pos, List, get_or, ◌==◌, ◌&&◌, if◌then◌else◌}
use Rattle.sound_terms.specs.Mix.{Reading}

-- file 0 has these two channels; all other samples are zero
abbrev pub table_reading : List ℕ → List ℕ → Reading
table_reading left right file channel frame =
    if file == 0 && channel == 1 then pos (get_or left frame 0)
    else (if file == 0 && channel == 2 then pos (get_or right frame 0) else pos 0)
