-- Facts that a sound file gives (EBU Tech 3285, EBU Tech 3306), or its first fault.
use Rattle.std.specs.Prelude.{ℕ, List, [], Result, Ok, option_map, unwrap_or}
use Rattle.sound_terms.specs.declared.Chunks.{Chunks}
use Rattle.sound_terms.specs.declared.SoundFault.{SoundFault}
use Rattle.sound_terms.specs.Steps.{◌>>=◌}
use Rattle.sound_terms.specs.Sounds.{SoundFacts, bytes_of_span, facts_with}
use Rattle.sound_terms.specs.Walks.{walked}
use Rattle.sound_terms.specs.Formats.{format_of}

-- contents of the `bext` chunk, or the empty list if there is none
abbrev pub bext_in : List ℕ → Chunks → List ℕ
bext_in file chunks = unwrap_or (option_map (bytes_of_span file) chunks.bext) []

-- facts of a file with this name and these bytes
abbrev pub sound_of : List ℕ → List ℕ → Result SoundFacts SoundFault
sound_of name file =
    walked file >>= λ chunks. (format_of (bytes_of_span file chunks.format)
    >>= λ format. Ok (facts_with name chunks format (bext_in file chunks)))
