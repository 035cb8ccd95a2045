-- Numbers of the errors of sound files.
use Rattle.std.specs.Prelude.{◌≡◌, ℕ, true, Result, Ok, Err}
use Rattle.work_terms.specs.Refusals.{is_excused}
use Rattle.devices.specs.declared.fault.ShelfFault.{ShelfFault}
use Rattle.devices.specs.declared.fault.ShelfFault.TheVariants as shelf
use Rattle.sound_terms.specs.declared.SoundFault.{SoundFault}
use Rattle.sound_terms.specs.declared.SoundFault.TheVariants as sound
use Rattle.riff.specs.declared.fault.MediaFault.{MediaFault}
use Rattle.riff.specs.declared.fault.MediaFault.TheVariants.{NotFound, Device, NotWave, NoFormat, NoData, Truncated, BadFormat, BadDs64, WrongRate, Memory}

-- number of the refusal
abbrev pub number_of : MediaFault → ℕ
number_of NotFound = 21
number_of Device = 22
number_of NotWave = 23
number_of NoFormat = 24
number_of NoData = 25
number_of Truncated = 26
number_of BadFormat = 27
number_of BadDs64 = 28
number_of WrongRate = 29
number_of Memory = 31

-- the error is not in the file: a device failure or out of memory
abbrev pub IsExcused : MediaFault → Type 0
IsExcused fault = is_excused (number_of fault) ≡ true

-- error of a file from the error of its shelf
abbrev pub fault_of : ShelfFault → MediaFault
fault_of shelf.NotFound = NotFound
fault_of shelf.Device = Device

-- error of a file from the fault in its bytes
abbrev pub media_fault : SoundFault → MediaFault
media_fault sound.NotWave = NotWave
media_fault sound.NoFormat = NoFormat
media_fault sound.NoData = NoData
media_fault sound.Truncated = Truncated
media_fault sound.BadFormat = BadFormat
media_fault sound.BadDs64 = BadDs64
media_fault sound.WrongRate = WrongRate

-- result of reading bytes as the result of reading a file
abbrev pub as_media : {X : Type 0} → Result X SoundFault → Result X MediaFault
as_media (Ok x) = Ok x
as_media (Err fault) = Err (media_fault fault)
