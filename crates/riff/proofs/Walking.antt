-- A walk from chunk to chunk gives the result for the whole list of chunks.
use Rattle.std.proofs.Common.{◌≡◌, ℕ, zero, suc, ◌+◌, ◌-◌, ◌%◌, ◌<◌, ◌≤◌, Bool, true, false, nat_le, List, [], ◌∷◌, ◌++◌, Option, None, Some, Result, Err, length, take, drop, refl, sym, ap, subst, ◌∙◌, arith, length-append, length-drop, le-leb}
use Rattle.std.proofs.lemmas.Bool.Decides.{nat_tests}
use Rattle.std.proofs.lemmas.List.{append-nil, append_assoc, drop-drop, drop_all}
use Rattle.byteorder.specs.Endian.{little_number}
use Rattle.sound_terms.specs.declared.Ds64.{Ds64}
use Rattle.sound_terms.specs.declared.Span.{Span}
use Rattle.sound_terms.specs.declared.SoundFault.{SoundFault}
use Rattle.sound_terms.specs.declared.SoundFault.TheVariants.{Truncated, BadDs64}
use Rattle.sound_terms.specs.Steps.{◌>>=◌}
use Rattle.sound_terms.specs.Chunks.{Chunk, padded, rest_behind, chunks_from}
use Rattle.sound_terms.specs.Walks.{Layout, chunks_in, first_chunk_fault, checked_chunks, found_in, walked}
use Rattle.riff.specs.declared.head.Head.{Head}
use Rattle.riff.specs.declared.found.Found.{Found}
use Rattle.riff.specs.Found.{HasHead, IsFoundIn, IsWalked, chunk_at, heads_of, layout_by}
use Rattle.riff.specs.Form.{IsLaid}
use Rattle.riff.specs.Walk.{chunk_count, heads_before}
use Rattle.riff.specs.Sizes.{head_size}
use Rattle.riff.proofs.OneMore.{first_chunk_fault-append}

-- the first chunk of bytes with a complete header, and the chunks after it
chunks_from-step : (size_of : List ℕ → ℕ → Option ℕ) (fuel place : ℕ) (bytes : List ℕ) → 8 ≤ length bytes
    → chunks_from size_of (suc fuel) place bytes
    ≡ record { id = take 4 bytes; at = place + 8; size = size_of (take 4 bytes) (little_number 4 (drop 4 bytes)) }
    ∷ chunks_from size_of fuel (place + 8 + padded (size_of (take 4 bytes) (little_number 4 (drop 4 bytes))))
    (rest_behind (size_of (take 4 bytes) (little_number 4 (drop 4 bytes))) (drop 8 bytes))
chunks_from-step size_of fuel place (a ∷ b ∷ c ∷ d ∷ e ∷ f ∷ g ∷ h ∷ rest) enough = refl
chunks_from-step size_of fuel place _ enough = absurd (omega arith)

-- bytes shorter than a header have no chunk
chunks_from-end : (size_of : List ℕ → ℕ → Option ℕ) (fuel place : ℕ) (bytes : List ℕ) → length bytes < 8
    → chunks_from size_of fuel place bytes ≡ []
chunks_from-end size_of zero place bytes few = refl
chunks_from-end size_of (suc fuel) place (a ∷ b ∷ c ∷ d ∷ e ∷ f ∷ g ∷ h ∷ rest) few = absurd (omega arith)
chunks_from-end size_of (suc fuel) place _ few = refl

-- number of bytes after a chunk of this size, from the number of bytes from its header on
abbrev pub left_behind : ℕ → ℕ → ℕ
left_behind left size = left - 8 - (size + size % 2)

-- bytes after a chunk
rest_at : (file : List ℕ) (end left size : ℕ) → length file ≡ end → left ≤ end → 8 ≤ left
    → drop (size + size % 2) (drop 8 (drop (end - left) file)) ≡ drop (end - left_behind left size) file
rest_at file end left size whole within enough =
    drop-drop (size + size % 2) 8 (drop (end - left) file) ∙ drop-drop (8 + (size + size % 2)) (end - left) file
    ∙ by_end (nat_le (8 + (size + size % 2)) left) refl where
      by_end : (fits : Bool) → nat_le (8 + (size + size % 2)) left ≡ fits
          → drop (end - left + (8 + (size + size % 2))) file ≡ drop (end - left_behind left size) file
      by_end true fits =
          let inside : 8 + (size + size % 2) ≤ left = grind (arith, nat_tests) in
          ap (λ n. drop n file) (omega arith)
      by_end false fits =
          let past : left < 8 + (size + size % 2) = grind (arith, nat_tests) in
          drop_all _ file (omega arith) ∙ sym (drop_all _ file (omega arith))

-- the next chunk, which starts the last `left` bytes, and the chunks after it
next_chunks : (file : List ℕ) (sizes : Option Ds64) (end left : ℕ) (found : Found)
    (before : IsWalked file sizes end left found)
    (head : Head) (size : Option ℕ) → 8 ≤ left → HasHead file (end - left) head → head_size file sizes head ≡ size
    → (fuel : ℕ) × (left ≤ suc fuel)
    × (chunks_in file (layout_by file sizes)
    ≡ before.before ++ (record { id = head.id; at = end - left + 8; size = size }
    ∷ chunks_from (layout_by file sizes).size_of fuel (end - left + 8 + padded size)
    (rest_behind size (drop 8 (drop (end - left) file)))))
next_chunks file sizes end left found before head size enough is_head told =
    by_fuel before.fuel before.all before.enough where
      by_fuel : (fuel : ℕ)
          → chunks_in file (layout_by file sizes) ≡ before.before ++ chunks_from (layout_by file
          sizes).size_of fuel before.place (drop (end - left) file)
          → left ≤ fuel → (fuel : ℕ) × (left ≤ suc fuel)
          × (chunks_in file (layout_by file sizes)
          ≡ before.before ++ (record { id = head.id; at = end - left + 8; size = size }
          ∷ chunks_from (layout_by file sizes).size_of fuel (end - left + 8 + padded size)
          (rest_behind size (drop 8 (drop (end - left) file)))))
      by_fuel zero all none = absurd (omega arith)
      by_fuel (suc fuel) all some =
          let size_of : List ℕ → ℕ → Option ℕ = (layout_by file sizes).size_of in
          let rest : List ℕ = drop (end - left) file in
          let from : List ℕ → ℕ → Option ℕ → List Chunk =
          λ id place size. record { id = id; at = place + 8; size = size }
          ∷ chunks_from size_of fuel (place + 8 + padded size) (rest_behind size (drop 8 rest)) in
          let long : 8 ≤ length rest = omega (arith, length-drop (end - left) file, before.whole, before.within) in
          let id : take 4 rest ≡ head.id = sym is_head.id in
          let number : little_number 4 (drop 4 rest) ≡ head.size =
          ap (little_number 4) (drop-drop 4 (end - left) file) ∙ sym is_head.size in
          let there : size_of (take 4 rest) (little_number 4 (drop 4 rest)) ≡ size =
          ap (λ x. size_of x (little_number 4 (drop 4 rest))) id ∙ ap (size_of head.id) number ∙ told in
          let step : chunks_from size_of (suc fuel) before.place rest ≡ from head.id (end - left) size =
          chunks_from-step size_of fuel before.place rest long
          ∙ ap (λ x. from x before.place (size_of (take 4 rest) (little_number 4 (drop 4 rest)))) id
          ∙ ap (λ place. from head.id place (size_of (take 4 rest) (little_number 4 (drop 4 rest))))
          (before.placed enough)
          ∙ ap (from head.id (end - left)) there in
          (fuel, some, all ∙ ap (λ chunks. before.before ++ chunks) step)

-- result for the whole file
walked_all : (file : List ℕ) (sizes : Option Ds64) (end left : ℕ) (found : Found)
    (before : IsWalked file sizes end left found)
    → walked file ≡ checked_chunks end (chunks_in file (layout_by file sizes))
walked_all file sizes end left found before =
    ap (λ (layout : Result Layout SoundFault). layout >>= λ l. checked_chunks (length file) (chunks_in file l))
    before.laid
    ∙ ap (λ n. checked_chunks n (chunks_in file (layout_by file sizes))) before.whole

-- the number of headers does not affect the chunks found
pub found_again : (end : ℕ) (chunks : List Chunk) (found : Found) (seen : ℕ) → IsFoundIn end chunks found
    → IsFoundIn end chunks (record found { seen = seen })
found_again end chunks found seen known = record {
  faultless = known.faultless;
  format = known.format;
  bext = known.bext;
  sound = known.sound;
  others = known.others;
}

-- no chunk has been seen after the form header
pub walked_start : (file : List ℕ) (sizes : Option Ds64) (end left : ℕ) (found : Found) → length file ≡ end
    → IsLaid file end sizes left → left + 12 ≤ end → IsFoundIn end [] found → found.seen ≡ heads_of sizes
    → IsWalked file sizes end left found
walked_start file sizes end left found whole laid enough nothing seen =
    let place : ℕ = (layout_by file sizes).place in
    let front : drop place file ≡ drop (end - left) file = by_end (nat_le place end) refl in
    let size_of : List ℕ → ℕ → Option ℕ = (layout_by file sizes).size_of in
    record {
      whole = whole;
      laid = laid.laid;
      before = [];
      fuel = length file;
      place = place;
      all = ap (chunks_from size_of (length file) place) front;
      enough = omega arith;
      within = omega arith;
      placed = λ some. let rest = laid.left_is in omega (arith, rest);
      seen = nothing;
      counted = omega (arith, seen);
    } where
      by_end : (inside : Bool) → nat_le (layout_by file sizes).place end ≡ inside
          → drop (layout_by file sizes).place file ≡ drop (end - left) file
      by_end true inside =
          let within : (layout_by file sizes).place ≤ end = grind (arith, nat_tests) in
          let rest = laid.left_is in
          ap (λ n. drop n file) (omega (arith, rest))
      by_end false inside =
          let past : end < (layout_by file sizes).place = grind (arith, nat_tests) in
          let rest = laid.left_is in
          drop_all _ file (omega (arith, rest)) ∙ sym (drop_all _ file (omega (arith, rest)))

-- after a chunk without a fault, with `rest` bytes left
pub walked_step : (file : List ℕ) (sizes : Option Ds64) (end left : ℕ) (found : Found)
    (before : IsWalked file sizes end left found)
    (head : Head) (contents : Span) (next : Found) (rest : ℕ) → 8 ≤ left → HasHead file (end - left) head
    → head_size file sizes head ≡ Some contents.length → contents.at ≡ end - (left - 8)
    → (IsFoundIn (contents.at + (left - 8)) before.before found
    → IsFoundIn (contents.at + (left - 8)) (before.before ++ chunk_at head.id contents ∷ []) next)
    → next.seen ≡ found.seen + 1 → rest ≡ left - 8 - (contents.length + contents.length % 2)
    → IsWalked file sizes end rest next
walked_step file sizes end left found before head contents next rest enough is_head told begins adds seen less =
    let size = contents.length in
    let size_of : List ℕ → ℕ → Option ℕ = (layout_by file sizes).size_of in
    let chunks = next_chunks file sizes end left found before head (Some size) enough is_head told in
    let within = before.within in
    let at : end - left + 8 ≡ contents.at = omega arith in
    let last : contents.at + (left - 8) ≡ end = omega arith in
    let behind : left_behind left size ≡ rest = omega arith in
    let tail : rest_behind (Some size) (drop 8 (drop (end - left) file)) ≡ drop (end - rest) file =
    rest_at file end left size before.whole within enough ∙ ap (λ n. drop (end - n) file) behind in
    let more : chunks_in file (layout_by file sizes)
    ≡ before.before ++ (chunk_at head.id contents
    ∷ chunks_from size_of chunks.0 (contents.at + (size + size % 2)) (drop (end - rest) file)) =
    chunks.2
    ∙ ap (λ n. before.before ++ (record { id = head.id; at = n; size = Some size }
    ∷ chunks_from size_of chunks.0 (n + padded (Some size))
    (rest_behind (Some size) (drop 8 (drop (end - left) file))))) at
    ∙ ap (λ bytes. before.before ++ (chunk_at head.id contents
    ∷ chunks_from size_of chunks.0 (contents.at + (size + size % 2)) bytes)) tail in
    record {
      whole = before.whole;
      laid = before.laid;
      before = before.before ++ chunk_at head.id contents ∷ [];
      fuel = chunks.0;
      place = contents.at + (size + size % 2);
      all = more ∙ sym (append_assoc before.before (chunk_at head.id contents ∷ []) _);
      enough = omega (arith, chunks.1);
      within = omega arith;
      placed = λ some. omega arith;
      seen = subst (λ n. IsFoundIn n (before.before ++ chunk_at head.id contents ∷ []) next) last
          (adds (subst (λ n. IsFoundIn n before.before found) (sym last) before.seen));
      counted = omega (arith, length-append before.before (chunk_at head.id contents ∷ []), before.counted, seen);
    }

-- a recognised chunk that extends past the end
pub walked_cut : (file : List ℕ) (sizes : Option Ds64) (end left : ℕ) (found : Found)
    (before : IsWalked file sizes end left found)
    (head : Head) (contents : Span) → 8 ≤ left → HasHead file (end - left) head
    → head_size file sizes head ≡ Some contents.length → contents.at ≡ end - (left - 8)
    → (IsFoundIn (contents.at + (left - 8)) before.before found
    → first_chunk_fault (contents.at + (left - 8)) [] (before.before ++ chunk_at head.id contents ∷ []) ≡ Some Truncated)
    → walked file ≡ Err Truncated
walked_cut file sizes end left found before head contents enough is_head told begins cuts =
    let chunks = next_chunks file sizes end left found before head (Some contents.length) enough is_head told in
    let within = before.within in
    let seen : List Chunk = before.before ++ chunk_at head.id contents ∷ [] in
    let at : end - left + 8 ≡ contents.at = omega arith in
    let last : contents.at + (left - 8) ≡ end = omega arith in
    let cut : first_chunk_fault end [] seen ≡ Some Truncated =
    subst (λ n. first_chunk_fault n [] seen ≡ Some Truncated) last
    (cuts (subst (λ n. IsFoundIn n before.before found) (sym last) before.seen)) in
    let behind : List Chunk =
    chunks_from (layout_by file sizes).size_of chunks.0 (end - left + 8 + padded (Some contents.length))
    (rest_behind (Some contents.length) (drop 8 (drop (end - left) file))) in
    let all : chunks_in file (layout_by file sizes) ≡ seen ++ behind =
    chunks.2 ∙ ap (λ n. before.before ++ (record { id = head.id; at = n; size = Some contents.length } ∷ behind)) at
    ∙ sym (append_assoc before.before (chunk_at head.id contents ∷ []) behind) in
    let fault : first_chunk_fault end [] (chunks_in file (layout_by file sizes)) ≡ Some Truncated =
    ap (first_chunk_fault end []) all ∙ first_chunk_fault-append end [] seen behind ∙ rw cut in
    walked_all file sizes end left found before ∙ rw fault

-- a chunk without a known size
pub walked_unknown : (file : List ℕ) (sizes : Option Ds64) (end left : ℕ) (found : Found)
    (before : IsWalked file sizes end left found)
    (head : Head) → 8 ≤ left → HasHead file (end - left) head → head_size file sizes head ≡ None
    → walked file ≡ Err BadDs64
walked_unknown file sizes end left found before head enough is_head none =
    let chunks = next_chunks file sizes end left found before head None enough is_head none in
    let fine = before.seen.faultless in
    let fault : first_chunk_fault end [] (chunks_in file (layout_by file sizes)) ≡ Some BadDs64 =
    ap (first_chunk_fault end []) chunks.2 ∙ first_chunk_fault-append end [] before.before _ ∙ rw fine in
    walked_all file sizes end left found before ∙ rw fault

-- no chunk is left
pub walked_end : (file : List ℕ) (sizes : Option Ds64) (end left : ℕ) (found : Found)
    (before : IsWalked file sizes end left found)
    → left < 8 → (chunks_in file (layout_by file sizes) ≡ before.before) × (walked file ≡ found_in before.before)
walked_end file sizes end left found before few =
    let short : length (drop (end - left) file) < 8 =
    omega (arith, length-drop (end - left) file, before.whole, before.within) in
    let all : chunks_in file (layout_by file sizes) ≡ before.before =
    before.all ∙ ap (λ chunks. before.before ++ chunks)
    (chunks_from-end (layout_by file sizes).size_of before.fuel before.place _ short)
    ∙ append-nil before.before in
    let fine = before.seen.faultless in
    (all, walked_all file sizes end left found before ∙ rw (all, fine))

-- number of headers before the first chunk, by the layout
heads_told : (file : List ℕ) (sizes : Option Ds64) → heads_before (layout_by file sizes) ≡ heads_of sizes
heads_told file None = refl
heads_told file (Some ds64) =
    let far : nat_le 20 (layout_by file (Some ds64)).place ≡ true =
    le-leb 20 (layout_by file (Some ds64)).place (omega arith) in
    rw far

-- all headers are counted
pub chunks_counted : (file : List ℕ) (sizes : Option Ds64) (end left : ℕ) (found : Found)
    (before : IsWalked file sizes end left found)
    → left < 8 → found.seen ≡ chunk_count file
chunks_counted file sizes end left found before few =
    let laid = before.laid in
    let all = (walked_end file sizes end left found before few).0 in
    before.counted ∙ sym (rw (laid, heads_told file sizes, all) refl)
