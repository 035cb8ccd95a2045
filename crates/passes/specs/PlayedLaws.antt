-- Joining cuts and regrouping don't change the set of source samples read.
use Rattle.std.proofs.Common.{◌≡◌, ◌∙◌, ℕ, ◌+◌, Bool, true, false, List, [], ◌∷◌, refl, sym}
use Rattle.std.specs.Prelude.{◌||◌, ◌==◌, nat_le, nat_lt}
use Rattle.std.specs.List.{list_any}
use Rattle.std.proofs.Math.Bool.{or_assoc}
use Rattle.std.proofs.lemmas.List.Folds.{list_any-append}
use Rattle.facts.specs.Stretches.{either_joined}
use Rattle.facts.specs.Tests.{or_exchange}
use Rattle.sound_terms.specs.declared.piece.Piece.{Piece}
use Rattle.sound_terms.specs.Groups.{is_read, reads}
use Rattle.sound_terms.specs.LongerLaws.{BothFlat, by_longer, longer}
use Rattle.sound_terms.specs.OrderLaws.{read_by, reads_total}
use Rattle.sound_terms.specs.Passes.{extended, join_cuts, lengthened, regroup}
use Rattle.passes.specs.TotalLaws.{Joins, by_extended, total_joined, total_regrouped}

read_longer : (p later : Piece) (file channel frame : ℕ) → BothFlat p later
    → is_read (longer p later) file channel frame ≡ (is_read p file channel frame || is_read later file channel frame)
read_longer p later file channel frame both =
    let on = both.on in
    rw (on.frame, on.file, on.first, on.width)
    (sym (either_joined (p.file == file) (nat_le p.first channel) (nat_lt channel (p.first + p.width)) p.frame p.length
    later.length frame))

or_grouped : (a b rest : Bool) → (((b || a) || false) || rest) ≡ ((a || false) || ((b || false) || rest))
or_grouped true true rest = refl
or_grouped true false rest = refl
or_grouped false true rest = refl
or_grouped false false rest = refl

longer_reads : (file channel frame : ℕ) (later : Piece)
    → Joins ◌||◌ false (λ group. list_any (λ p. is_read p file channel frame) group) (lengthened later) (later ∷ [])
longer_reads file channel frame later =
    let read = λ (group : List Piece). list_any (λ p. is_read p file channel frame) group in
    by_longer (λ group joined. (rest : Bool) → (read joined || rest) ≡ (read (later ∷ []) || (read group || rest)))
    later
    (λ p on rest. rw (read_longer p later file channel frame on) (or_grouped (is_read later file channel frame)
    (is_read p file channel frame) rest))

module _ (file channel frame : ℕ) where
  pub reads_joined : (groups : List (List Piece))
      → reads (join_cuts groups) file channel frame ≡ reads groups file channel frame
  reads_joined groups =
      reads_total file channel frame (join_cuts groups)
      ∙ total_joined ◌||◌ false (read_by file channel frame) or_exchange (longer_reads file channel frame) groups
      ∙ sym (reads_total file channel frame groups)

reads_joins : (file channel frame : ℕ) (own : List Piece)
    → Joins ◌||◌ false (read_by file channel frame) (extended own) own
reads_joins file channel frame own =
    let read = read_by file channel frame in
    by_extended (λ group joined. (rest : Bool) → (read joined || rest) ≡ (read own || (read group || rest))) own
    (λ group on rest. rw (list_any-append (λ p. is_read p file channel frame) group own)
    (or_assoc (read group) (read own) rest ∙ or_exchange (read group) (read own) rest))

pub reads_regrouped : (file channel frame : ℕ) (groups : List (List Piece))
    → reads (regroup groups) file channel frame ≡ reads groups file channel frame
reads_regrouped file channel frame groups =
    reads_total file channel frame (regroup groups)
    ∙ total_regrouped ◌||◌ false (read_by file channel frame) or_exchange (reads_joins file channel frame) groups
    ∙ sym (reads_total file channel frame groups)
