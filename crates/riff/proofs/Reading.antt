-- Bytes that were read are in the file.
use Rattle.std.proofs.Common.{◌≡◌, ℕ, ◌+◌, ◌-◌, ◌≤◌, Bool, IsTrue, List, Option, Some, length, take, drop, sym, ap, subst, ◌∙◌, arith}
use Rattle.std.proofs.lemmas.List.{drop-take, drop-drop, take-take, take_rest}
use Rattle.facts.specs.Tests.{same_some}
use Rattle.byteorder.specs.Endian.{little_number}
use Rattle.byteorder.specs.Numbers.{little_from-take}
use Rattle.sound_terms.specs.Chunks.{number_at}
use Rattle.work_terms.specs.Disk.{Files, IsRange}
use Rattle.sound_terms.specs.declared.Ds64.{Ds64}
use Rattle.riff.specs.declared.head.Head.{Head}
use Rattle.riff.specs.declared.found.Found.{Found}
use Rattle.riff.specs.declared.entry.Entry.{Entry}
use Rattle.riff.specs.Found.{HasHead, IsAhead, IsWalked}
use Rattle.riff.specs.Sizes.{HasEntry}

-- a range that was read from this file
pub ranged : (stored : Option (List ℕ)) (file : List ℕ) (at : ℕ) (bytes : List ℕ) → IsRange stored at bytes
    → stored ≡ Some file
    → IsAhead file at bytes
ranged stored file at bytes range there =
    let same : range.file ≡ file = same_some (sym range.there ∙ there) in
    record {
      inside = subst (λ (f : List ℕ). at + length bytes ≤ length f) same range.inside;
      same = range.same ∙ ap (λ (f : List ℕ). take (length bytes) (drop at f)) same;
    }

-- part of the bytes that were read
pub ahead_at : (file : List ℕ) (at offset : ℕ) (bytes : List ℕ) → IsAhead file at bytes → offset ≤ length bytes
    → drop offset bytes ≡ take (length bytes - offset) (drop (at + offset) file)
ahead_at file at offset bytes ahead within =
    let split : length bytes ≡ offset + (length bytes - offset) = omega arith in
    ap (drop offset) (ahead.same ∙ ap (λ n. take n (drop at file)) split)
    ∙ drop-take offset (length bytes - offset) (drop at file)
    ∙ ap (take (length bytes - offset)) (drop-drop offset at file)

-- a number depends only on its bytes
pub number_front : (n k : ℕ) (bytes : List ℕ) → n ≤ k → little_number n (take k bytes) ≡ little_number n bytes
number_front n k bytes enough = little_from-take 0 n k bytes (omega arith)

number_ahead : (file : List ℕ) (at offset n : ℕ) (bytes : List ℕ) → IsAhead file at bytes → offset + n ≤ length bytes
    → number_at n offset bytes ≡ number_at n (at + offset) file
number_ahead file at offset n bytes ahead within =
    ap (little_number n) (ahead_at file at offset bytes ahead (omega arith))
    ∙ number_front n (length bytes - offset) _ (omega arith)

-- an id and the number after it, in the bytes that were read
module _ (file : List ℕ) (at offset : ℕ) (bytes : List ℕ) (ahead : IsAhead file at bytes) where
  id_ahead : offset + 4 ≤ length bytes → take 4 (drop offset bytes) ≡ take 4 (drop (at + offset) file)
  id_ahead within =
      ap (take 4) (ahead_at file at offset bytes ahead (omega arith)) ∙ take-take 4 (length bytes - offset) _ (omega arith)

  size_ahead : (n : ℕ) → offset + 4 + n ≤ length bytes
      → number_at n 4 (drop offset bytes) ≡ number_at n (at + offset + 4) file
  size_ahead n within =
      let place : at + (offset + 4) ≡ at + offset + 4 = omega arith in
      ap (little_number n) (drop-drop 4 offset bytes) ∙ number_ahead file at (offset + 4) n bytes ahead (omega arith)
      ∙ ap (λ k. number_at n k file) place

-- a chunk header in the bytes that were read
pub head_ahead : (file : List ℕ) (at offset : ℕ) (bytes : List ℕ) (head : Head) → IsAhead file at bytes
    → offset + 8 ≤ length bytes
    → head.id ≡ take 4 (drop offset bytes) → head.size ≡ number_at 4 4 (drop offset bytes)
    → HasHead file (at + offset) head
head_ahead file at offset bytes head ahead within id size = record {
  inside = omega (arith, ahead.inside);
  id = id ∙ id_ahead file at offset bytes ahead (omega arith);
  size = size ∙ size_ahead file at offset bytes ahead 4 (omega arith);
}

-- a chunk header after some of the bytes
pub head_after : (file : List ℕ) (end first left : ℕ) (bytes : List ℕ) (head : Head) → IsAhead file (end - first) bytes
    → first - left + 8 ≤ length bytes → end - first + (first - left) ≡ end - left
    → head.id ≡ take 4 (take (length bytes - (first - left)) (drop (first - left) bytes))
    → head.size ≡ number_at 4 4 (take (length bytes - (first - left)) (drop (first - left) bytes))
    → HasHead file (end - left) head
head_after file end first left bytes head ahead within place id size =
    let rest = take_rest bytes (first - left) in
    subst (λ n. HasHead file n head) place
    (head_ahead file (end - first) (first - left) bytes head ahead within (id ∙ ap (take 4) rest)
    (size ∙ ap (number_at 4 4) rest))

-- a chunk header at the start of the bytes
pub head_front : (file : List ℕ) (at : ℕ) (bytes : List ℕ) (head : Head) → IsAhead file at bytes → 8 ≤ length bytes
    → head.id ≡ take 4 bytes → head.size ≡ number_at 4 4 bytes → HasHead file at head
head_front file at bytes head ahead enough id size =
    let none : at + 0 ≡ at = omega arith in
    subst (λ n. HasHead file n head) none (head_ahead file at 0 bytes head ahead (omega arith) id size)

-- a table entry after some of the bytes
pub entry_after : (file : List ℕ) (at offset : ℕ) (bytes : List ℕ) (entry : Entry) → IsAhead file at bytes
    → offset + 12 ≤ length bytes
    → entry.id ≡ take 4 (take (length bytes - offset) (drop offset bytes))
    → entry.size ≡ number_at 8 4 (take (length bytes - offset) (drop offset bytes))
    → HasEntry file (at + offset) entry
entry_after file at offset bytes entry ahead within id size =
    let rest = take_rest bytes offset in
    record {
      id = id ∙ ap (take 4) rest ∙ id_ahead file at offset bytes ahead (omega arith);
      size = size ∙ ap (number_at 8 4) rest ∙ size_ahead file at offset bytes ahead 8 (omega arith);
    }

-- a property of the file now holds for the file before if nothing has changed
pub still_holds : {old new : Files} {was is : Bool} {name : List ℕ} {P : List ℕ → Type 0} → new ≡ old → is ≡ was
    → (IsTrue is → (file : List ℕ) → new name ≡ Some file → P file)
    → IsTrue was → (file : List ℕ) → old name ≡ Some file → P file
still_holds {name} same honest_same holds honest file there =
    holds (subst IsTrue (sym honest_same) honest) file (ap (λ (files : Files). files name) same ∙ there)

-- if no chunk was added, the remaining chunks start with the header that was read
pub next_head : {stored : Option (List ℕ)} {bytes : List ℕ} {sizes : Option Ds64} {end left rest : ℕ} {old new : Found}
    (file : List ℕ) → IsRange stored (end - left) bytes → stored ≡ Some file
    → (IsAhead file (end - left) bytes → IsWalked file sizes end left old → IsWalked file sizes end rest new)
    → IsWalked file sizes end left old → rest ≡ left
    → (head : Head) → 8 ≤ length bytes → head.id ≡ take 4 bytes → head.size ≡ number_at 4 4 bytes
    → IsWalked file sizes end left new × HasHead file (end - left) head
next_head {stored} {bytes} {sizes} {end} {left} {new = new} file range there walks before same head enough id size =
    let ahead = ranged stored file (end - left) bytes range there in (
      subst (λ n. IsWalked file sizes end n new) same (walks ahead before),
      head_front file (end - left) bytes head ahead enough id size,
    )
