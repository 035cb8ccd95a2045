-- Header of a sound file.
use Rattle.std.specs.Prelude.{◌≡◌, ℕ, ◌-◌, List, Option, Result, Ok, Err, MatchBool}
use Rattle.sound_terms.specs.declared.Ds64.{Ds64}
use Rattle.sound_terms.specs.Walks.{layout_of, walked}
use Rattle.work_terms.specs.Refusals.{is_excused}
use Rattle.riff.specs.declared.fault.MediaFault.{MediaFault}
use Rattle.riff.specs.declared.form.Form.{Form}
use Rattle.riff.specs.Fault.{number_of, as_media}
use Rattle.riff.specs.Found.{layout_by}

-- the file has this layout, and `left` bytes after the form header and `ds64`
pub record IsLaid (file : List ℕ) (end : ℕ) (sizes : Option Ds64) (left : ℕ) : Type 0 where
  pub laid : layout_of file ≡ Ok (layout_by file sizes)
  pub left_is : left ≡ end - (layout_by file sizes).place

-- the file is refused with this error; an I/O error may replace it
abbrev pub IsRefused : List ℕ → MediaFault → Type 0
IsRefused file fault = MatchBool (is_excused (number_of fault)) (Unit {0}) (as_media (walked file) ≡ Err fault)

-- the form is read, or the file is refused
abbrev pub OpensAs : List ℕ → ℕ → Result Form MediaFault → Type 0
OpensAs file end (Ok form) = IsLaid file end form.sizes form.left
OpensAs file end (Err fault) = IsRefused file fault
