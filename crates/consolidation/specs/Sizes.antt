-- How many bytes a consolidation had, kept and wrote, as far as 64 bits can tell.
use Rattle.std.specs.Prelude.{ℕ, ◌+◌, ◌-◌, ◌*◌, ◌^◌, min, List, length}
use Rattle.std.specs.List.{sum_by}
use Rattle.sound_terms.specs.declared.piece.Home.{Home}
use Rattle.sound_terms.specs.declared.piece.Run.{Run}
use Rattle.sound_terms.specs.Media.{frame_length, sound_at}
use Rattle.sound_terms.specs.Sounds.{SoundFacts}
use Rattle.sound_terms.specs.Waves.{file_length}
use Rattle.consolidation.specs.Work.{run_info}
use Rattle.consolidation.specs.declared.written.Sizes.{Sizes}
use Rattle.consolidation.specs.declared.written.Written.{Written}
use Rattle.consolidation.specs.Planned.{MediaPlan}

-- the number, or the greatest that 64 bits can tell
abbrev pub in_64_bits : ℕ → ℕ
in_64_bits n = min n (2 ^ 64 - 1)

-- the samples of a file
abbrev pub sound_bytes : SoundFacts → ℕ
sound_bytes facts = facts.frames * frame_length facts

-- the samples of a run
abbrev pub run_bytes : List SoundFacts → Run → ℕ
run_bytes sounds run = run.length * frame_length (sound_at sounds run.file)

-- the medium of a run, header and all
abbrev pub medium_bytes : List SoundFacts → List Home → Run → ℕ
medium_bytes sounds homes run = file_length (run_info sounds homes run)

-- of these files, of these runs of them, and of the media of the runs with a list of so many bytes
abbrev pub sizes_of : List SoundFacts → List Home → List Run → ℕ → Sizes
sizes_of sounds homes runs list = record {
  sources = in_64_bits (sum_by sound_bytes sounds);
  kept = in_64_bits (sum_by (run_bytes sounds) runs);
  written = in_64_bits (sum_by (medium_bytes sounds homes) runs + list);
}

-- what is told of a consolidation that is written
abbrev pub written_of : MediaPlan → Written
written_of plan = record {
  media = length plan.runs;
  entries = plan.entries;
  sizes = sizes_of plan.sounds plan.homes plan.runs (length plan.text);
}
