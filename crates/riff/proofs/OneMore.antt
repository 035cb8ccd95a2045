-- One more chunk after the chunks already seen.
use Rattle.std.proofs.Common.{◌≡◌, ℕ, ◌+◌, ◌<◌, ◌≤◌, Bool, true, false, ◌&&◌, ◌||◌, List, [], ◌∷◌, ◌++◌, Option, None, Some, Result, Ok, Err, OnErr, option_map, refl, sym, ap, subst, ◌∙◌, arith, codes, bytes_eq, is_some, if◌then◌else◌, nat_lt}
use Rattle.std.proofs.lemmas.Bool.Decides.{nat_tests}
use Rattle.std.specs.Option.{option_or}
use Rattle.std.specs.List.{list_any}
use Rattle.std.proofs.lemmas.List.{append-nil, append_assoc}
use Rattle.std.proofs.lemmas.List.Folds.{find-append}
use Rattle.std.proofs.lemmas.Slice.Eq.{bytes_eq-Decides}
use Rattle.std.proofs.Math.Bool.{or_assoc}
use Rattle.sound_terms.specs.declared.Span.{Span}
use Rattle.sound_terms.specs.declared.SoundFault.{SoundFault}
use Rattle.sound_terms.specs.declared.SoundFault.TheVariants.{Truncated}
use Rattle.sound_terms.specs.Chunks.{Chunk, counted_ids, first_of, has_others}
use Rattle.sound_terms.specs.Walks.{chunk_fault, first_chunk_fault, span_of}
use Rattle.riff.specs.declared.found.Found.{Found}
use Rattle.riff.specs.Found.{IsFoundIn, chunk_at}

-- first fault of joined lists of chunks
pub first_chunk_fault-append : (end : ℕ) (before xs ys : List Chunk)
    → first_chunk_fault end before (xs ++ ys) ≡ option_or (first_chunk_fault end before xs) (first_chunk_fault end (before ++ xs) ys)
first_chunk_fault-append end before [] ys = rw append-nil
first_chunk_fault-append end before (x ∷ xs) ys =
    by_fault (chunk_fault end before x) refl (first_chunk_fault-append end (before ++ x ∷ []) xs ys) where
      by_fault : (fault : Option SoundFault) → chunk_fault end before x ≡ fault
          → first_chunk_fault end (before ++ x ∷ []) (xs ++ ys)
          ≡ option_or (first_chunk_fault end (before ++ x ∷ []) xs) (first_chunk_fault end ((before ++ x ∷ []) ++ xs) ys)
          → first_chunk_fault end before (x ∷ (xs ++ ys))
          ≡ option_or (first_chunk_fault end before (x ∷ xs)) (first_chunk_fault end (before ++ x ∷ xs) ys)
      by_fault None none rest = rw none (rest ∙ rw append_assoc)
      by_fault (Some fault) some rest = rw some

-- other chunks in joined lists
pub has_others-append : (before xs ys : List Chunk)
    → has_others before (xs ++ ys) ≡ (has_others before xs || has_others (before ++ xs) ys)
has_others-append before [] ys = rw append-nil
has_others-append before (x ∷ xs) ys = rw (has_others-append (before ++ x ∷ []) xs ys, append_assoc, or_assoc)

map-option_or : (a b : Option Chunk)
    → option_map span_of (option_or a b) ≡ option_or (option_map span_of a) (option_map span_of b)
map-option_or None b = refl
map-option_or (Some chunk) b = refl

-- first chunk of an id in joined lists
span-append : (id : List ℕ) (xs ys : List Chunk)
    → option_map span_of (first_of id (xs ++ ys))
    ≡ option_or (option_map span_of (first_of id xs)) (option_map span_of (first_of id ys))
span-append id xs ys = rw find-append (map-option_or _ _)

fault-one : (end : ℕ) (before : List Chunk) (chunk : Chunk)
    → first_chunk_fault end before (chunk ∷ []) ≡ chunk_fault end before chunk
fault-one end before chunk = by_fault (chunk_fault end before chunk) refl where
  by_fault : (fault : Option SoundFault) → chunk_fault end before chunk ≡ fault
      → first_chunk_fault end before (chunk ∷ []) ≡ chunk_fault end before chunk
  by_fault None none = rw none
  by_fault (Some fault) some = rw some

fault-more : (end : ℕ) (chunks : List Chunk) (chunk : Chunk) → first_chunk_fault end [] chunks ≡ None
    → first_chunk_fault end [] (chunks ++ chunk ∷ []) ≡ chunk_fault end chunks chunk
fault-more end chunks chunk none = rw (first_chunk_fault-append end [] chunks (chunk ∷ []), none) (fault-one end chunks chunk)

-- the state after one more chunk without a fault
pub one_more : (end : ℕ) (chunks : List Chunk) (found : Found) (chunk : Chunk) (next : Found)
    → IsFoundIn end chunks found
    → chunk_fault end chunks chunk ≡ None
    → next.format ≡ option_or found.format (option_map span_of (first_of (codes "fmt ") (chunk ∷ [])))
    → next.bext ≡ option_or found.bext (option_map span_of (first_of (codes "bext") (chunk ∷ [])))
    → next.sound ≡ option_or found.sound (option_map span_of (first_of (codes "data") (chunk ∷ [])))
    → next.others ≡ (found.others || has_others chunks (chunk ∷ []))
    → IsFoundIn end (chunks ++ chunk ∷ []) next
one_more end chunks found chunk next known fine format bext sound others = record {
  faultless = fault-more end chunks chunk known.faultless ∙ fine;
  format = format ∙ rw (known.format, span-append (codes "fmt ") chunks (chunk ∷ []));
  bext = bext ∙ rw (known.bext, span-append (codes "bext") chunks (chunk ∷ []));
  sound = sound ∙ rw (known.sound, span-append (codes "data") chunks (chunk ∷ []));
  others = others ∙ rw (known.others, has_others-append [] chunks (chunk ∷ []));
}

-- the id is one of the three recognised ids
abbrev pub IsCounted : List ℕ → Type 0
IsCounted id = list_any (bytes_eq id) counted_ids ≡ true

pub never : (b : Bool) → if◌then◌else◌ {A = Option SoundFault} (b && false) (Some Truncated) None ≡ None
never true = refl
never false = refl

pub fine_counted : (chunks : List Chunk) (id : List ℕ) (contents : Span) (left : ℕ) → IsCounted id
    → (option_map span_of (first_of id chunks) ≡ None → contents.length ≤ left)
    → chunk_fault (contents.at + left) chunks (chunk_at id contents) ≡ None
fine_counted chunks id contents left counted inside = by_first (first_of id chunks) refl where
  by_first : (first : Option Chunk) → first_of id chunks ≡ first
      → chunk_fault (contents.at + left) chunks (chunk_at id contents) ≡ None
  by_first None none =
      let within : contents.length ≤ left = inside (ap (option_map span_of) none) in
      let no : nat_lt (contents.at + left) (contents.at + contents.length) ≡ false = grind (arith, nat_tests) in
      rw no
  by_first (Some chunk) some = rw (counted, some) (never _)

-- a recognised chunk that extends past the end, after chunks without a fault
cut_at : (chunks : List Chunk) (id : List ℕ) (contents : Span) (left : ℕ) → IsCounted id
    → option_map span_of (first_of id chunks) ≡ None → left < contents.length
    → chunk_fault (contents.at + left) chunks (chunk_at id contents) ≡ Some Truncated
cut_at chunks id contents left counted none past = by_first (first_of id chunks) refl where
  by_first : (first : Option Chunk) → first_of id chunks ≡ first
      → chunk_fault (contents.at + left) chunks (chunk_at id contents) ≡ Some Truncated
  by_first None is_none =
      let yes : nat_lt (contents.at + left) (contents.at + contents.length) ≡ true = grind (arith, nat_tests) in
      rw (yes, counted, is_none)
  by_first (Some chunk) some = let no : Some (span_of chunk) ≡ None = sym (ap (option_map span_of) some) ∙ none in cc

pub cut_behind : (chunks : List Chunk) (found : Found) (one id : List ℕ) (contents : Span) (left : ℕ)
    → IsFoundIn (contents.at + left) chunks found → IsCounted one → bytes_eq id one ≡ true
    → option_map span_of (first_of one chunks) ≡ None → left < contents.length
    → first_chunk_fault (contents.at + left) [] (chunks ++ chunk_at id contents ∷ []) ≡ Some Truncated
cut_behind chunks found one id contents left known counted same none past =
    fault-more _ chunks _ known.faultless
    ∙ subst (λ x. chunk_fault (contents.at + left) chunks (chunk_at x contents) ≡ Some Truncated)
    (sym ((bytes_eq-Decides id one).0 same))
    (cut_at chunks one contents left counted none past)

some-map : (first : Option Chunk) → is_some (option_map span_of first) ≡ is_some first
some-map None = refl
some-map (Some chunk) = refl

-- a recognised chunk whose id was already seen counts as another chunk
others_counted : (chunks : List Chunk) (id : List ℕ) (contents : Span) → IsCounted id
    → bytes_eq id (codes "JUNK") ≡ false
    → has_others chunks (chunk_at id contents ∷ []) ≡ is_some (option_map span_of (first_of id chunks))
others_counted chunks id contents counted no_junk =
    rw (counted, no_junk) (last _ ∙ sym (some-map (first_of id chunks))) where
      last : (b : Bool) → ((b && true) || false) ≡ b
      last true = refl
      last false = refl

pub none-or : (slot : Option Span) → slot ≡ option_or slot None
none-or None = refl
none-or (Some span) = refl

-- the state after one more recognised chunk
counted_more : (own : List ℕ) (chunks : List Chunk) (found : Found) (id : List ℕ) (contents : Span) (left : ℕ)
    (taken : Bool) (next : Found) → IsCounted own → bytes_eq own (codes "JUNK") ≡ false
    → IsFoundIn (contents.at + left) chunks found → bytes_eq id own ≡ true
    → taken ≡ is_some (option_map span_of (first_of own chunks))
    → (option_map span_of (first_of own chunks) ≡ None → contents.length ≤ left)
    → next.format ≡ option_or found.format (option_map span_of (first_of (codes "fmt ") (chunk_at own contents ∷ [])))
    → next.bext ≡ option_or found.bext (option_map span_of (first_of (codes "bext") (chunk_at own contents ∷ [])))
    → next.sound ≡ option_or found.sound (option_map span_of (first_of (codes "data") (chunk_at own contents ∷ [])))
    → next.others ≡ (found.others || taken)
    → IsFoundIn (contents.at + left) (chunks ++ chunk_at id contents ∷ []) next
counted_more own chunks found id contents left taken next counted no_junk known same seen inside format bext sound others =
    subst (λ x. IsFoundIn (contents.at + left) (chunks ++ chunk_at x contents ∷ []) next)
    (sym ((bytes_eq-Decides id own).0 same))
    (one_more _ _ _ _ _ known (fine_counted chunks own contents left counted inside) format bext sound
    (others ∙ ap (λ b. found.others || b) (seen ∙ sym (others_counted chunks own contents counted no_junk))))

-- the slot of the id keeps its first chunk
abbrev TakesFirst : List ℕ → (Found → Option Span) → (Option Span → Found → Found) → Type 0
TakesFirst own slot_of with_slot =
    (chunks : List Chunk) (found : Found) (id : List ℕ) (contents : Span) (left : ℕ) (slot : Option Span) (taken : Bool)
    → IsFoundIn (contents.at + left) chunks found → bytes_eq id own ≡ true
    → slot ≡ option_or (slot_of found) (Some contents) → taken ≡ is_some (slot_of found)
    → (slot_of found ≡ None → contents.length ≤ left)
    → IsFoundIn (contents.at + left) (chunks ++ chunk_at id contents ∷ [])
    (record (with_slot slot found) { others = found.others || taken })

pub format_more : TakesFirst (codes "fmt ") (λ found. found.format) (λ slot found. record found { format = slot })
format_more chunks found id contents left slot taken known same first seen inside =
    counted_more (codes "fmt ") _ _ _ _ _ taken _ refl refl known same (seen ∙ ap is_some known.format)
    (λ none. inside (known.format ∙ none)) first (none-or _) (none-or _) refl

pub bext_more : TakesFirst (codes "bext") (λ found. found.bext) (λ slot found. record found { bext = slot })
bext_more chunks found id contents left slot taken known same first seen inside =
    counted_more (codes "bext") _ _ _ _ _ taken _ refl refl known same (seen ∙ ap is_some known.bext)
    (λ none. inside (known.bext ∙ none)) (none-or _) first (none-or _) refl

pub sound_more : TakesFirst (codes "data") (λ found. found.sound) (λ slot found. record found { sound = slot })
sound_more chunks found id contents left slot taken known same first seen inside =
    counted_more (codes "data") _ _ _ _ _ taken _ refl refl known same (seen ∙ ap is_some known.sound)
    (λ none. inside (known.sound ∙ none)) (none-or _) (none-or _) first refl

-- a property that always holds also holds after an error
pub OnErr_always : {T E : Type 0} (result : Result T E) {P : Type 0} → P → OnErr result P
OnErr_always (Ok x) holds = tt
OnErr_always (Err fault) holds = holds
