-- The `ds64` table, entry by entry.
use Rattle.std.proofs.Common.{◌≡◌, ℕ, suc, ◌+◌, ◌-◌, ◌*◌, ◌≤◌, List, Option, Some, arith, true, false, take, drop, sym, ap, ◌∙◌, bytes_eq}
use Rattle.std.specs.Option.{option_or}
use Rattle.std.proofs.lemmas.List.{drop-drop}
use Rattle.byteorder.specs.Endian.{little_number}
use Rattle.riff.specs.declared.entry.Entry.{Entry}
use Rattle.riff.specs.Sizes.{HasEntry, entry_from, entry_size}

-- an entry with another id
pub entry_missed : (file : List ℕ) (at next n rest : ℕ) (id : List ℕ) (entry : Entry) → HasEntry file at entry
    → bytes_eq entry.id id ≡ false → n ≡ suc rest → next ≡ at + 12
    → entry_from file at n id ≡ entry_from file next rest id
entry_missed file at next n rest id entry is_entry other more behind =
    let no : bytes_eq (take 4 (drop at file)) id ≡ false =
    ap (λ (x : List ℕ). bytes_eq x id) (sym is_entry.id) ∙ other in
    let moved : drop 12 (drop at file) ≡ drop next file = drop-drop 12 at file ∙ ap (λ k. drop k file) (sym behind) in
    ap (λ k. entry_from file at k id) more ∙ rw (no, moved)

-- an entry with this id
pub entry_met : (file : List ℕ) (at n rest : ℕ) (id : List ℕ) (entry : Entry) → HasEntry file at entry
    → bytes_eq entry.id id ≡ true → n ≡ suc rest → entry_from file at n id ≡ Some entry.size
entry_met file at n rest id entry is_entry this more =
    let yes : bytes_eq (take 4 (drop at file)) id ≡ true =
    ap (λ (x : List ℕ). bytes_eq x id) (sym is_entry.id) ∙ this in
    let told : little_number 8 (drop 4 (drop at file)) ≡ entry.size =
    ap (little_number 8) (drop-drop 4 at file) ∙ sym is_entry.size in
    ap (λ k. entry_from file at k id) more ∙ rw (yes, told)

-- a block of entries after those already searched
pub block_passed : (file : List ℕ) (entries done count : ℕ) (id : List ℕ) (size : Option ℕ) → count ≤ entries - done
    → entry_size file entries id ≡ entry_from file (48 + 12 * done) (entries - done) id
    → ((rest : ℕ) → entry_from file (48 + 12 * done) (count + rest) id
    ≡ option_or size (entry_from file (48 + 12 * done + 12 * count) rest id))
    → entry_size file entries id
    ≡ option_or size (entry_from file (48 + 12 * (done + count)) (entries - (done + count)) id)
block_passed file entries done count id size few passed among =
    let rest : ℕ = entries - done - count in
    let split : entries - done ≡ count + rest = omega arith in
    let place : 48 + 12 * done + 12 * count ≡ 48 + 12 * (done + count) = omega arith in
    let left : rest ≡ entries - (done + count) = omega arith in
    passed ∙ ap (λ n. entry_from file (48 + 12 * done) n id) split ∙ among rest
    ∙ ap (λ k. option_or size (entry_from file k rest id)) place
    ∙ ap (λ n. option_or size (entry_from file (48 + 12 * (done + count)) n id)) left
