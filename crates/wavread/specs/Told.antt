-- Contents of a `bext` chunk (EBU Tech 3285, 2.3).
use Rattle.std.specs.Prelude.{◌≡◌, ℕ, ◌+◌, ◌&&◌, nat_le, nat_lt, not, List, length, take, drop, [], Option, None, Some, is_some, if◌then◌else◌, option_map, unwrap_or}
use Rattle.sound_terms.specs.declared.Span.{Span}
use Rattle.sound_terms.specs.Chunks.{number_at}
use Rattle.sound_terms.specs.Sounds.{bytes_of_span, history_limit}
use Rattle.wavread.specs.declared.told.Told.{Told}

-- contents of the chunk, empty if there is none
abbrev pub contents_of : List ℕ → Option Span → List ℕ
contents_of file span = unwrap_or (option_map (bytes_of_span file) span) []

-- the record has all fields of a `bext` chunk with these contents
pub record TellsAll (span : Option Span) (contents : List ℕ) (told : Told) : Type 0 where
  pub text : option_map (λ b. b.text) told.bext
      ≡ (if nat_le 346 (length contents) then Some (take 338 contents) else None)
  pub time_reference : option_map (λ b. b.time_reference) told.bext
      ≡ (if nat_le 346 (length contents) then Some (number_at 8 338 contents) else None)
  pub history : told.history.items ≡ take history_limit (drop 602 contents)
  pub short : told.short ≡ (is_some span && not (nat_le 346 (length contents)))
  pub cut : told.cut ≡ nat_lt (602 + history_limit) (length contents)
