-- Worked examples of groups and passes: parts of entries, silent pieces, and results of the standard passes.
use Rattle.std.specs.Prelude.{◌≡◌, refl, ℕ, ◌==◌, ◌&&◌, ◌||◌, nat_lt, nat_le, true, false, pos, List, [], ◌∷◌, if◌then◌else◌}
use Rattle.sound_terms.specs.declared.Event.{Event}
use Rattle.sound_terms.specs.declared.BoundIndex.{BoundIndex}
use Rattle.sound_terms.specs.declared.piece.Piece.{Piece}
use Rattle.sound_terms.specs.declared.piece.Shape.{Shape}
use Rattle.sound_terms.specs.declared.piece.Shape.TheVariants.{Flat, Rise, Fall}
use Rattle.sound_terms.specs.Mix.{Reading}
use Rattle.sound_terms.specs.Passes.{cut_groups, silences, split_fades, standard_groups}
use Rattle.sound_terms.specs.Entries.{groups_of_entries}

abbrev midnight : BoundIndex
midnight = record { number = 1; file = 0; base = 0; addressable = 100 }

-- an entry of index 1 on the first `width` channels, with both fades of the given length
abbrev entry : (width source_in dest_in dest_out fade : ℕ) → Event
entry width source_in dest_in dest_out fade = record {
  number = 1;
  index = 1;
  source = record { first = 1; last = width };
  dest = record { first = 1; last = width };
  source_in = source_in;
  dest_in = dest_in;
  dest_out = dest_out;
  rise = record { length = fade };
  fall = record { length = fade };
}

abbrev piece : (start length frame width : ℕ) → Shape → Piece
piece start length frame width shape =
    record {
      start = start;
      length = length;
      frame = frame;
      file = 0;
      first = 1;
      dest = 1;
      width = width;
      shape = shape;
    }

-- 12 stereo sample frames: the left channel is silent, the right one sounds in the first four and in the last four
abbrev one_side : Reading
one_side file channel frame =
    if file == 0 && (channel == 2 && (nat_lt frame 4 || (nat_le 8 frame && nat_lt frame 12))) then pos 100 else pos 0

abbrev whole_entry : List (List Piece)
whole_entry = groups_of_entries (midnight ∷ []) (entry 2 0 0 12 4 ∷ [])

pub an_entry_has_three_parts : whole_entry
    ≡ (piece 0 4 0 2 (Rise 0 4) ∷ piece 4 4 4 2 Flat ∷ piece 8 4 8 2 (Fall 0 4) ∷ []) ∷ []
an_entry_has_three_parts = refl

pub the_middle_is_silent : silences one_side (split_fades whole_entry) ≡ false ∷ true ∷ false ∷ []
the_middle_is_silent = refl

pub the_middle_goes : standard_groups one_side whole_entry
    ≡ (piece 0 4 0 2 (Rise 0 4) ∷ []) ∷ (piece 8 4 8 2 (Fall 0 4) ∷ []) ∷ []
the_middle_goes = refl

-- a file without silence
abbrev all_sound : Reading
all_sound file channel frame = pos 1

pub neighbours_are_joined : standard_groups all_sound
    (groups_of_entries (midnight ∷ []) (entry 1 4 4 8 0 ∷ entry 1 0 0 4 0 ∷ []))
    ≡ (piece 0 8 0 1 Flat ∷ []) ∷ []
neighbours_are_joined = refl

pub others_stay_apart : standard_groups all_sound
    (groups_of_entries (midnight ∷ []) (entry 1 5 4 8 0 ∷ entry 1 0 0 4 0 ∷ []))
    ≡ (piece 0 4 0 1 Flat ∷ []) ∷ (piece 4 4 5 1 Flat ∷ []) ∷ []
others_stay_apart = refl

pub a_cut_ramp_goes_on : cut_groups 2 ((piece 0 4 0 1 (Rise 0 4) ∷ []) ∷ [])
    ≡ (piece 0 2 0 1 (Rise 0 4) ∷ []) ∷ (piece 2 2 2 1 (Rise 2 4) ∷ []) ∷ []
a_cut_ramp_goes_on = refl
