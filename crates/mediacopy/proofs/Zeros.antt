-- Zeros appended to a file, and preallocated files.
use Rattle.std.proofs.Common.{◌≡◌, ℕ, ◌+◌, ◌%◌, List, [], ◌++◌, Option, Some, sym, ap, ◌∙◌}
use Rattle.std.specs.Prelude.{replicate, unwrap_or}
use Rattle.std.proofs.lemmas.List.{replicate-append-replicate}
use Rattle.sound_terms.specs.Laws.{length-zeros}
use Rattle.sound_terms.specs.Waves.{SoundInfo, data_size, file_of, header_of, zeros}
use Rattle.work_terms.specs.Disk.{IsAppended}
use Rattle.mediacopy.specs.Copied.{laid_out}

-- Zeros after zeros.
pub more_zeros : (n m : ℕ) → zeros n ++ zeros m ≡ zeros (n + m)
unfolding zeros
more_zeros n m = replicate-append-replicate n m 0

pub same_file : (x y : List ℕ) (file : Option (List ℕ)) → file ≡ Some x → file ≡ Some y → x ≡ y
same_file x y file one other = ap (λ (f : Option (List ℕ)). unwrap_or f []) (sym one ∙ other)

-- A file after an append.
pub appended_to : (old new : Option (List ℕ)) (front more all : List ℕ) → IsAppended more old new → old ≡ Some front
    → front ++ more ≡ all → new ≡ Some all
appended_to old new front more all is there whole =
    is.appended ∙ ap (λ (file : List ℕ). Some (file ++ more)) (same_file is.file front old is.there there)
    ∙ ap Some whole

-- The header, the zero samples, and the pad byte.
pub laid : (info : SoundInfo) (head : List ℕ) → head ≡ header_of info
    → head ++ replicate (data_size info + data_size info % 2) 0 ≡ laid_out info
unfolding file_of zeros
laid info head same =
    ap (λ (h : List ℕ). h ++ zeros (data_size info + data_size info % 2)) same
    ∙ ap (λ (rest : List ℕ). header_of info ++ rest)
    (sym (ap (λ (n : ℕ). zeros (data_size info) ++ zeros (n % 2)) (length-zeros (data_size info))
    ∙ more_zeros (data_size info) (data_size info % 2)))
