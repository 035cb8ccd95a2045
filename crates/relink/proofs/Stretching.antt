-- The pieces of a group continue each other.
use Rattle.std.proofs.Common.{◌≡◌, ◌⊎◌, inl, inr, ℕ, ◌+◌, ◌<◌, ◌≤◌, List, [], ◌∷◌, refl, ◌∙◌, arith, subst, All}
use Rattle.std.proofs.lemmas.Bool.{cases_lt}
use Rattle.std.proofs.lemmas.List.Elements.{All-head, All-tail, All-cons, All-nil}
use Rattle.sound_terms.specs.declared.piece.Piece.{Piece}
use Rattle.sound_terms.specs.Groups.{IsGroup}
use Rattle.sound_terms.specs.GroupLaws.{GoesOn, length_more}
use Rattle.sound_terms.specs.PlacedLaws.{follows_on}
use Rattle.sound_terms.specs.Entries.{length_of_group}

-- A property of each sample frame of each piece holds for each sample frame of the group.
abbrev pub OnFrames : (ℕ → ℕ → Type 0) → Piece → Type 0
OnFrames K p = (f : ℕ) → p.frame ≤ f → f < p.frame + p.length → K p.file f

pub on_frames : (K : ℕ → ℕ → Type 0) (p : Piece) (ps : List Piece) → IsGroup (p ∷ ps) → All (OnFrames K) (p ∷ ps)
    → (f : ℕ) → p.frame ≤ f → f < p.frame + length_of_group (p ∷ ps) → K p.file f
on_frames K p [] is all f from to =
    let whole : length_of_group (p ∷ []) ≡ p.length + length_of_group [] = length_more p [] in
    All-head (OnFrames K) p [] all f from (omega (arith, whole, to))
on_frames K p (q ∷ qs) is all f from to =
    by_side (on_frames K q qs is.1 (All-tail (OnFrames K) p (q ∷ qs) all) f) (cases_lt f (p.frame + p.length)) where
      by_side : (q.frame ≤ f → f < q.frame + length_of_group (q ∷ qs) → K q.file f)
          → (f < p.frame + p.length) ⊎ (p.frame + p.length ≤ f) → K p.file f
      by_side behind (inl own) = All-head (OnFrames K) p (q ∷ qs) all f from own
      by_side behind (inr later) =
          let next = follows_on p q is.0 in
          let whole = length_more p (q ∷ qs) in
          subst (λ (file : ℕ). K file f) next.file
          (behind (omega (arith, next.frame)) (omega (arith, next.frame, whole, to)))

-- A piece of a group plays a part of its sample frames.
pub record IsInside (p : Piece) (whole : ℕ) (x : Piece) : Type 0 where
  pub same_file : x.file ≡ p.file
  pub from : p.frame ≤ x.frame
  pub to : x.frame + x.length ≤ p.frame + whole

inside_first : (p : Piece) (ps : List Piece) → IsInside p (length_of_group (p ∷ ps)) p
inside_first p ps = record { same_file = refl; from = omega arith; to = rw (length_more p ps) (omega arith) }

inside_next : (p q : Piece) (qs : List Piece) → GoesOn p q → (x : Piece) → IsInside q (length_of_group (q ∷ qs)) x
    → IsInside p (length_of_group (p ∷ q ∷ qs)) x
inside_next p q qs next x there =
    let whole = length_more p (q ∷ qs) in
    record {
      same_file = there.same_file ∙ next.file;
      from = omega (arith, next.frame, there.from);
      to = omega (arith, next.frame, whole, there.to);
    }

pub all_inside : (p : Piece) (ps : List Piece) → IsGroup (p ∷ ps) → All (IsInside p (length_of_group (p ∷ ps))) (p ∷ ps)
all_inside p [] is =
    All-cons (IsInside p (length_of_group (p ∷ []))) p [] (inside_first p [])
    (All-nil (IsInside p (length_of_group (p ∷ []))))
all_inside p (q ∷ qs) is =
    let behind = all_inside q qs is.1 in
    All-cons (IsInside p (length_of_group (p ∷ q ∷ qs))) p (q ∷ qs) (inside_first p (q ∷ qs))
    (λ i d below. inside_next p q qs (follows_on p q is.0) _ (behind i d below))
