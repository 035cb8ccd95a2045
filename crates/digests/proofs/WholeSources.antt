-- Whole sources, hashed piece by piece.
use Rattle.std.proofs.Common.{◌≡◌, ◌∙◌, ◌+◌, ◌<◌, ◌++◌, ◌∷◌, [], ℕ, All, Bool, List, Option, Some, ap, drop, get_or, length, refl, slice_get, subst, sym, take}
use Rattle.std.specs.Prelude.{IsSome, IsTrue, unwrap_or}
use Rattle.std.proofs.Math.Seq.{take-add}
use Rattle.std.proofs.lemmas.List.Elements.{All-get_or, All-push}
use Rattle.std.proofs.lemmas.Option.{get_or_from_slice_get, slice_get_within}
use Rattle.sha2.specs.declared.Sha256.{Sha256}
use Rattle.sha2.specs.Hashers.{Holds256}
use Rattle.sha2.specs.Sha256.{sha256}
use Rattle.sound_terms.specs.declared.piece.Home.{Home}
use Rattle.sound_terms.specs.declared.piece.Run.{Run}
use Rattle.sound_terms.specs.Media.{sound_at}
use Rattle.sound_terms.specs.Sounds.{SoundFacts}
use Rattle.work_terms.specs.Disk.{Files, IsRange}
use Rattle.list_terms.specs.Renewed.{numbered}
use Rattle.digests.specs.declared.medium.Medium.{Medium}
use Rattle.digests.specs.Media.{HasSource, medium_by, medium_bytes, source_digest}
use Rattle.relink.specs.NumberingLaws.{numbered_step}

-- an element has the property of all elements
pub one_of_all : {X : Type 0} (P : X → Type 0) (xs : List X) (k : ℕ) (x : X) → slice_get xs k ≡ Some x → All P xs → P x
one_of_all P xs k x is all =
    subst P (get_or_from_slice_get xs k x x is) (All-get_or P xs k x (slice_get_within xs k x is) all)

-- the bytes of a file up to and including a piece
pub one_more : (stored : Option (List ℕ)) (at count : ℕ) (bytes : List ℕ) (hasher : Sha256) → IsRange stored at bytes
    → length bytes ≡ count → Holds256 hasher (take at (unwrap_or stored []) ++ bytes)
    → Holds256 hasher (take (at + count) (unwrap_or stored []))
one_more stored at count bytes hasher range long held =
    let file : range.file ≡ unwrap_or stored [] = sym (ap (λ o. unwrap_or o []) range.there) in
    let piece : bytes ≡ take count (drop at (unwrap_or stored [])) =
    range.same ∙ ap (λ (n : ℕ). take n (drop at range.file)) long
    ∙ ap (λ (f : List ℕ). take count (drop at f)) file in
    subst (Holds256 hasher) (ap (λ (p : List ℕ). take at (unwrap_or stored []) ++ p) piece
    ∙ sym (take-add at count (unwrap_or stored []))) held

-- one more medium has the digest of its source
module _ (digests : Bool) (sounds : List SoundFacts) (homes : List Home) (sources mid later : Files)
    (same : mid ≡ sources) (still : later ≡ mid) where
  abbrev medium_with : Files → ℕ → Run → Option (List ℕ) → Medium
  medium_with files number run source = record {
    number = number;
    run = run;
    digest = sha256 (medium_bytes files sounds homes run);
    source = source;
  }

  pub one_medium : (k : ℕ) (runs : List Run) (d : Run) (found : Option Medium) (position : ℕ) (before now : List Medium)
      (source : Option (List ℕ)) (medium : Medium) → k < length runs
      → found ≡ slice_get before position → All (HasSource digests sources sounds) before
      → before ≡ numbered (medium_by digests sources sounds homes) 1 (take k runs)
      → now ≡ before ++ medium ∷ []
      → (((m : Medium) → found ≡ Some m → HasSource digests mid sounds m)
      → source ≡ source_digest digests mid sounds (get_or runs k d))
      → (((m : Medium) → found ≡ Some m → HasSource digests mid sounds m)
      → IsTrue digests → IsSome (mid (sound_at sounds (get_or runs k d).file).name))
      → medium ≡ medium_with later (k + 1) (get_or runs k d) source
      → (now ≡ numbered (medium_by digests sources sounds homes) 1 (take (k + 1) runs))
      × All (HasSource digests sources sounds) now
  one_medium k runs d found position before now source medium below at all so_far pushed had there made =
      let run = get_or runs k d in
      let known : (m : Medium) → found ≡ Some m → HasSource digests mid sounds m =
      λ m is. subst (λ (f : Files). HasSource digests f sounds m) (sym same)
      (one_of_all (HasSource digests sources sounds) before position m (sym at ∙ is) all) in
      let own : source ≡ source_digest digests sources sounds run =
      subst (λ (f : Files). source ≡ source_digest digests f sounds run) same (had known) in
      let exists : IsTrue digests → IsSome (sources (sound_at sounds run.file).name) =
      λ asked. subst (λ (f : Files). IsSome (f (sound_at sounds run.file).name)) same (there known asked) in
      let is : medium ≡ medium_by digests sources sounds homes (k + 1) run =
      subst (λ (f : Files). medium ≡ medium_with f (k + 1) run source) (still ∙ same) made
      ∙ ap (λ (s : Option (List ℕ)). medium_with sources (k + 1) run s) own in (
        numbered_step (medium_by digests sources sounds homes) k runs d medium before now below so_far pushed is,
        subst (All (HasSource digests sources sounds)) (sym pushed)
            (All-push (HasSource digests sources sounds) before medium all
            (subst (HasSource digests sources sounds) (sym is) (record { digest = refl; exists = exists }))),
      )
