-- Facts of a file from its parts.
use Rattle.std.proofs.Common.{◌≡◌, ℕ, ◌*◌, ◌/◌, Bool, true, false, List, Option, None, Some, Result, Ok, Err, MatchBool, refl, ap, ◌∙◌}
use Rattle.sound_terms.specs.declared.Chunks.{Chunks}
use Rattle.sound_terms.specs.declared.Format.{Format}
use Rattle.sound_terms.specs.declared.SoundFault.{SoundFault}
use Rattle.sound_terms.specs.Steps.{◌>>=◌}
use Rattle.sound_terms.specs.Sounds.{SoundFacts, bytes_of_span, facts_with}
use Rattle.sound_terms.specs.Formats.{format_of}
use Rattle.sound_terms.specs.Walks.{walked}
use Rattle.sound_terms.specs.SoundFiles.{sound_of, bext_in}
use Rattle.work_terms.specs.Refusals.{is_excused}
use Rattle.riff.specs.declared.fault.MediaFault.{MediaFault}
use Rattle.riff.specs.declared.fault.MediaFault.TheVariants.{NotFound}
use Rattle.riff.specs.Fault.{as_media, media_fault, number_of}
use Rattle.riff.specs.Walk.{walked_file}
use Rattle.sound_terms.specs.Depth.{bits_of}
use Rattle.wavread.specs.declared.told.Told.{Told}
use Rattle.wavread.specs.Told.{TellsAll}
use Rattle.wavread.specs.Facts.{sound_of_file, facts_told}

-- if a step fails, the whole fails
fault_passes : {X Y : Type 0} (read : Result X SoundFault) (next : X → Result Y SoundFault) (fault : MediaFault)
    → as_media read ≡ Err fault → as_media (read >>= next) ≡ Err fault
fault_passes (Ok x) next fault told = cc
fault_passes (Err e) next fault told = let same : media_fault e ≡ fault = cc in ap Err same

ok_passes : {X Y : Type 0} (read : Result X SoundFault) (next : X → Result Y SoundFault) (x : X)
    → as_media read ≡ Ok x → as_media (read >>= next) ≡ as_media (next x)
ok_passes (Ok y) next x told = let same : y ≡ x = cc in ap (λ z. as_media (next z)) same
ok_passes (Err e) next x told = cc

-- the chunks of the file are refused
pub walk_refused : (name : List ℕ) (stored : Option (List ℕ)) (fault : MediaFault)
    → MatchBool (is_excused (number_of fault)) (Unit {0}) (walked_file stored ≡ Err fault)
    → MatchBool (is_excused (number_of fault)) (Unit {0}) (sound_of_file name stored ≡ Err fault)
walk_refused name stored fault told = by_kind (is_excused (number_of fault)) told where
  by_file : (stored : Option (List ℕ)) → walked_file stored ≡ Err fault → sound_of_file name stored ≡ Err fault
  by_file None read = let same : NotFound ≡ fault = cc in ap Err same
  by_file (Some file) read = fault_passes (walked file) _ fault read

  by_kind : (b : Bool) → MatchBool b (Unit {0}) (walked_file stored ≡ Err fault)
      → MatchBool b (Unit {0}) (sound_of_file name stored ≡ Err fault)
  by_kind true read = tt
  by_kind false read = by_file stored read

-- the format of the file is refused
pub format_refused : (name file : List ℕ) (chunks : Chunks) (fault : MediaFault) → as_media (walked file) ≡ Ok chunks
    → MatchBool (is_excused (number_of fault)) (Unit {0})
    (as_media (format_of (bytes_of_span file chunks.format)) ≡ Err fault)
    → MatchBool (is_excused (number_of fault)) (Unit {0}) (as_media (sound_of name file) ≡ Err fault)
format_refused name file chunks fault found told = by_kind (is_excused (number_of fault)) told where
  by_kind : (b : Bool) → MatchBool b (Unit {0}) (as_media (format_of (bytes_of_span file chunks.format)) ≡ Err fault)
      → MatchBool b (Unit {0}) (as_media (sound_of name file) ≡ Err fault)
  by_kind true read = tt
  by_kind false read =
      ok_passes (walked file) _ chunks found ∙ fault_passes (format_of (bytes_of_span file chunks.format)) _ fault read

-- all parts of the file are read
pub sound_told : (name file : List ℕ) (chunks : Chunks) (format : Format) → as_media (walked file) ≡ Ok chunks
    → as_media (format_of (bytes_of_span file chunks.format)) ≡ Ok format
    → as_media (sound_of name file) ≡ Ok (facts_with name chunks format (bext_in file chunks))
sound_told name file chunks format found read =
    ok_passes (walked file) _ chunks found ∙ ok_passes (format_of (bytes_of_span file chunks.format)) _ format read

-- the format of a file found by its name is refused
pub format_refused_file : (name : List ℕ) (stored : Option (List ℕ)) (chunks : Chunks) (fault : MediaFault)
    → walked_file stored ≡ Ok chunks
    → ((file : List ℕ) → stored ≡ Some file
    → MatchBool (is_excused (number_of fault)) (Unit {0})
    (as_media (format_of (bytes_of_span file chunks.format)) ≡ Err fault))
    → MatchBool (is_excused (number_of fault)) (Unit {0}) (sound_of_file name stored ≡ Err fault)
format_refused_file name None chunks fault found told = cc
format_refused_file name (Some file) chunks fault found told =
    format_refused name file chunks fault found (told file refl)

pub sound_told_file : (name : List ℕ) (stored : Option (List ℕ)) (chunks : Chunks) (format : Format)
    (facts : SoundFacts)
    → walked_file stored ≡ Ok chunks
    → ((file : List ℕ) → stored ≡ Some file → as_media (format_of (bytes_of_span file chunks.format)) ≡ Ok format)
    → ((file : List ℕ) → stored ≡ Some file → facts_with name chunks format (bext_in file chunks) ≡ facts)
    → sound_of_file name stored ≡ Ok facts
sound_told_file name None chunks format facts found read same = cc
sound_told_file name (Some file) chunks format facts found read same =
    sound_told name file chunks format found (read file refl) ∙ ap Ok (same file refl)

-- the record made from the parts is the facts of the file
pub facts_same : (name : List ℕ) (chunks : Chunks) (format : Format) (contents : List ℕ) (told : Told)
    → TellsAll chunks.bext contents told
    → facts_with name chunks format contents
    ≡ facts_told name format.channels format.depth
    (chunks.sound.length / (format.channels * (bits_of format.depth / 8)))
    chunks.sound.at told.bext told.history.items told.short told.cut chunks.others
facts_same name chunks format contents told tells =
    let text = tells.text in
    let time = tells.time_reference in
    let history = tells.history in
    let short = tells.short in
    let cut = tells.cut in
    rw (text, time, history, short, cut) refl
