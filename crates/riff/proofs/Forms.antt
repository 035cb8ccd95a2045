-- Header of a sound file: RIFF, or RF64 with its `ds64`.
use Rattle.std.proofs.Common.{◌≡◌, ℕ, ◌+◌, ◌-◌, ◌*◌, ◌%◌, ◌<◌, ◌≤◌, Bool, true, false, ◌&&◌, nat_le, List, Option, None, Some, Result, Err, length, take, drop, refl, sym, ap, ◌∙◌, arith, codes, bytes_eq, length-take, lit≤, option_map, le-leb}
use Rattle.std.specs.Option.{ok_or}
use Rattle.std.proofs.Math.Bool.{and-false}
use Rattle.std.proofs.lemmas.Bool.Decides.{nat_tests}
use Rattle.std.proofs.lemmas.List.{drop-take, take-take}
use Rattle.std.proofs.lemmas.Slice.Eq.{bytes_eq-Decides}
use Rattle.sound_terms.specs.declared.Ds64.{Ds64}
use Rattle.sound_terms.specs.declared.SoundFault.{SoundFault}
use Rattle.sound_terms.specs.declared.SoundFault.TheVariants.{NotWave, BadDs64}
use Rattle.sound_terms.specs.Steps.{◌>>=◌}
use Rattle.sound_terms.specs.Chunks.{number_at, stands_at}
use Rattle.sound_terms.specs.Walks.{is_riff, is_rf64, Layout, rf64_layout, layout_of, chunks_in, checked_chunks, walked}
use Rattle.sound_terms.specs.Ds64.{ds64_of, ds64_in, ds64_size}
use Rattle.riff.specs.declared.head.Head.{Head}
use Rattle.riff.specs.Found.{HasHead, IsAhead}
use Rattle.riff.specs.Form.{IsLaid}

-- the first twelve bytes determine the form
module _ (file : List ℕ) (enough : 12 ≤ length file) where
  long : nat_le 12 (length file) ≡ true
  long = grind (arith, nat_tests)

  taken : nat_le 12 (length (take 12 file)) ≡ true
  taken =
      let twelve : 12 ≤ length (take 12 file) = omega (arith, length-take {A = ℕ}) in
      grind (arith, nat_tests)

  first : take 4 (take 12 file) ≡ take 4 file
  first = take-take 4 12 file (lit≤ tt)

  wave : take 4 (drop 8 (take 12 file)) ≡ take 4 (drop 8 file)
  wave = ap (take 4) (drop-take 8 4 file) ∙ take-take 4 4 _ (lit≤ tt)

  is_riff-take : is_riff (take 12 file) ≡ is_riff file
  is_riff-take = rw (long, taken, first, wave)

  is_rf64-take : is_rf64 (take 12 file) ≡ is_rf64 file
  is_rf64-take = rw (long, taken, first, wave)

front_read : (file form : List ℕ) → IsAhead file 0 form → length form ≡ 12 → form ≡ take 12 file
front_read file form ahead twelve = ahead.same ∙ ap (λ n. take n file) twelve

pub riff_told : (file form : List ℕ) → IsAhead file 0 form → length form ≡ 12 → is_riff file ≡ is_riff form
riff_told file form ahead twelve =
    sym (is_riff-take file (omega (arith, ahead.inside))) ∙ ap is_riff (sym (front_read file form ahead twelve))

pub rf64_told : (file form : List ℕ) → IsAhead file 0 form → length form ≡ 12 → is_rf64 file ≡ is_rf64 form
rf64_told file form ahead twelve =
    sym (is_rf64-take file (omega (arith, ahead.inside))) ∙ ap is_rf64 (sym (front_read file form ahead twelve))

-- a file without a layout is refused
no_layout : (file : List ℕ) (fault : SoundFault) → layout_of file ≡ Err fault → walked file ≡ Err fault
no_layout file fault none =
    ap (λ (layout : Result Layout SoundFault). layout >>= λ l. checked_chunks (length file) (chunks_in file l)) none

pub short_file : (file : List ℕ) → length file < 12 → walked file ≡ Err NotWave
short_file file few =
    let no : nat_le 12 (length file) ≡ false = grind (arith, nat_tests) in
    no_layout file NotWave (rw no)

pub not_wave : (file : List ℕ) → is_riff file ≡ false → is_rf64 file ≡ false → walked file ≡ Err NotWave
not_wave file riff rf64 = no_layout file NotWave (rw (riff, rf64))

pub riff_laid : (file : List ℕ) (end left : ℕ) → is_riff file ≡ true → left ≡ end - 12 → IsLaid file end None left
riff_laid file end left riff rest = record { laid = rw riff; left_is = rest }

-- ---- RF64

by_sizes : (file : List ℕ) (sizes : Option Ds64) → is_riff file ≡ false → is_rf64 file ≡ true → ds64_in file ≡ sizes
    → layout_of file ≡ ok_or (option_map (rf64_layout file) sizes) BadDs64
by_sizes file sizes riff rf64 found = rw (riff, rf64) (ap (λ s. ok_or (option_map (rf64_layout file) s) BadDs64) found)

pub no_sizes : (file : List ℕ) → is_riff file ≡ false → is_rf64 file ≡ true → ds64_in file ≡ None
    → walked file ≡ Err BadDs64
no_sizes file riff rf64 none = no_layout file BadDs64 (by_sizes file None riff rf64 none)

pub rf64_laid : (file : List ℕ) (end left : ℕ) (ds64 : Ds64) (head : Head) → is_riff file ≡ false → is_rf64 file ≡ true
    → ds64_in file ≡ Some ds64 → HasHead file 12 head → left ≡ end - 12 - 8 - (head.size + head.size % 2)
    → IsLaid file end (Some ds64) left
rf64_laid file end left ds64 head riff rf64 found is_head rest =
    let size : head.size ≡ ds64_size file = is_head.size in
    let place : end - 12 - 8 - (head.size + head.size % 2) ≡ end - (20 + (head.size + head.size % 2)) = omega arith in
    record {
      laid = by_sizes file (Some ds64) riff rf64 found;
      left_is = rest ∙ place ∙ ap (λ n. end - (20 + (n + n % 2))) size;
    }

-- a `ds64` chunk that exists and fits the file
pub sizes_there : (file fields : List ℕ) (head : Head) → HasHead file 12 head → head.id ≡ codes "ds64"
    → head.size ≤ length file - 20 → 20 ≤ length file → IsAhead file 20 fields → length fields ≡ 28
    → ds64_in file ≡ ds64_of fields head.size
sizes_there file fields head is_head id within enough ahead whole =
    let size : head.size ≡ ds64_size file = is_head.size in
    let stands : stands_at (codes "ds64") 12 file ≡ true = ap (bytes_eq (codes "ds64")) (sym is_head.id ∙ id) in
    let inside : nat_le (20 + ds64_size file) (length file) ≡ true =
    le-leb (20 + ds64_size file) (length file) (omega arith) in
    let read : take 28 (drop 20 file) ≡ fields = sym (ahead.same ∙ ap (λ n. take n (drop 20 file)) whole) in
    rw (stands, inside) (ap (λ (bytes : List ℕ). ds64_of bytes (ds64_size file)) read ∙ ap (ds64_of fields) (sym size))

pub no_room : (file : List ℕ) → length file < 20 → ds64_in file ≡ None
no_room file few =
    let past : nat_le (20 + ds64_size file) (length file) ≡ false = grind (arith, nat_tests) in
    rw (past, and-false _)

pub sizes_missing : (file : List ℕ) (head : Head) → HasHead file 12 head → 20 ≤ length file
    → ((head.id ≡ codes "ds64") × (head.size ≤ length file - 20) × (28 ≤ head.size) → ⊥) → ds64_in file ≡ None
sizes_missing file head is_head enough never =
    by_place (stands_at (codes "ds64") 12 file && nat_le (20 + ds64_size file) (length file)) refl where
      by_table : (b : Bool) → nat_le (28 + 12 * number_at 4 24 (take 28 (drop 20 file))) (ds64_size file) ≡ b
          → stands_at (codes "ds64") 12 file ≡ true → nat_le (20 + ds64_size file) (length file) ≡ true
          → ds64_of (take 28 (drop 20 file)) (ds64_size file) ≡ None
      by_table false short stands inside = rw short
      by_table true whole stands inside =
          let size : head.size ≡ ds64_size file = is_head.size in
          let fits : 28 + 12 * number_at 4 24 (take 28 (drop 20 file)) ≤ ds64_size file = grind (arith, nat_tests) in
          let within : 20 + ds64_size file ≤ length file = grind (arith, nat_tests) in
          let id : codes "ds64" ≡ take 4 (drop 12 file) =
          (bytes_eq-Decides (codes "ds64") (take 4 (drop 12 file))).0 stands in
          absurd (never (is_head.id ∙ sym id, omega arith, omega arith))

      by_place : (b : Bool) → (stands_at (codes "ds64") 12 file && nat_le (20 + ds64_size file) (length file)) ≡ b
          → ds64_in file ≡ None
      by_place false out = rw out
      by_place true there =
          let stands : stands_at (codes "ds64") 12 file ≡ true = grind (arith, nat_tests) in
          let inside : nat_le (20 + ds64_size file) (length file) ≡ true = grind (arith, nat_tests) in
          rw there (by_table _ refl stands inside)
