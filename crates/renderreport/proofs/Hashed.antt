-- A file hashed in pieces.
use Rattle.std.proofs.Common.{◌≡◌, ◌∙◌, ◌+◌, ◌++◌, [], ℕ, List, Option, ap, drop, length, subst, sym, take}
use Rattle.std.specs.Prelude.{unwrap_or}
use Rattle.std.proofs.Math.Seq.{take-add}
use Rattle.sha2.specs.declared.Sha256.{Sha256}
use Rattle.sha2.specs.Hashers.{Holds256}
use Rattle.work_terms.specs.Disk.{IsRange}

-- a hashed prefix of the file, extended by a piece
pub one_more : (stored : Option (List ℕ)) (at count : ℕ) (bytes : List ℕ) (hasher : Sha256) → IsRange stored at bytes
    → length bytes ≡ count → Holds256 hasher (take at (unwrap_or stored []) ++ bytes)
    → Holds256 hasher (take (at + count) (unwrap_or stored []))
one_more stored at count bytes hasher range long held =
    let file : range.file ≡ unwrap_or stored [] = sym (ap (λ o. unwrap_or o []) range.there) in
    let piece : bytes ≡ take count (drop at (unwrap_or stored [])) =
    range.same ∙ ap (λ (n : ℕ). take n (drop at range.file)) long
    ∙ ap (λ (f : List ℕ). take count (drop at f)) file in
    subst (Holds256 hasher) (ap (λ (p : List ℕ). take at (unwrap_or stored []) ++ p) piece
    ∙ sym (take-add at count (unwrap_or stored []))) held
