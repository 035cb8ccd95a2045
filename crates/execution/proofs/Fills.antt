-- A write at a job's place, whole or torn, keeps the output filled.
use Rattle.std.proofs.Common.{◌≡◌, ◌≢◌, ◌∙◌, ℕ, ◌+◌, ◌-◌, ◌<◌, ◌≤◌, Bool, true, false, Option, Some, List, ◌++◌, length, take, drop, get_or, sym, ap, subst, inl, inr, arith}
use Rattle.std.proofs.lemmas.Bool.{cases_lt}
use Rattle.std.proofs.lemmas.List.{ext_get_or, get_or-take, get_or-drop}
use Rattle.std.proofs.lemmas.Simd.{get_or-put_chunk_above, get_or-put_chunk_at, get_or-put_chunk_below}
use lib.Lanes.{put_chunk}
use lib.LanesLaws.{length-put, put_is}
use lib.Seq.{drop-drop}
use Rattle.work_terms.specs.Disk.{HasTornRange, IsWritten, IsTorn}
use Rattle.job_terms.specs.Workers.{Jobs}
use Rattle.execution.specs.Filled.{IsFilled, IsFixedIn, IsPartOf}

-- outside of the torn bytes the file is as it was
torn-outside : (at n : ℕ) (old new : List ℕ) → HasTornRange at n old new → (i : ℕ) → (at ≤ i → i < at + n → ⊥)
    → get_or new i 0 ≡ get_or old i 0
torn-outside at n old new torn i out = elim (cases_lt i at) [
  | inl lt ↦ sym (get_or-take at new i 0 lt) ∙ ap (λ x. get_or x i 0) torn.before ∙ get_or-take at old i 0 lt
  | inr from ↦ elim (cases_lt i (at + n)) [
    | inl to ↦ absurd (out from to)
    | inr behind ↦ let is : at + n + (i - (at + n)) ≡ i = omega arith in
        subst (λ x. get_or new x 0 ≡ get_or old x 0) is (sym (get_or-drop (at + n) new (i - (at + n)) 0)
        ∙ ap (λ x. get_or x (i - (at + n)) 0) torn.after ∙ get_or-drop (at + n) old (i - (at + n)) 0)
  ]
]

-- job k written: the output is filled for every choice of done jobs that agrees off k
pub filled-written : (jobs : Jobs) (name whole : List ℕ) (done more : ℕ → Bool) (k : ℕ) (old new : Option (List ℕ))
    → IsPartOf jobs k whole → ((j : ℕ) → j ≢ k → more j ≡ true → done j ≡ true)
    → IsFilled jobs name whole done old → IsWritten (jobs.at k) (jobs.bytes k) old new
    → IsFilled jobs name whole more new
filled-written jobs name whole done more k old new part off h w = record {
  bytes = put_chunk at w.file bytes;
  there = w.written ∙ ap (λ x. Some x) written;
  size = length-put at w.file bytes ∙ ap length same ∙ h.size;
  same = each;
}
  where
    at : ℕ
    at = jobs.at k

    bytes : List ℕ
    bytes = jobs.bytes k

    same : w.file ≡ h.bytes
    same = let is = sym w.there ∙ h.there in cc

    written : take at w.file ++ (bytes ++ drop (at + length bytes) w.file) ≡ put_chunk at w.file bytes
    written = rw (put_is at w.file bytes w.inside, drop-drop)

    each : (i : ℕ) → IsFixedIn jobs name more i → get_or (put_chunk at w.file bytes) i 0 ≡ get_or whole i 0
    each i fixed = elim (cases_lt i at) [
      | inl lt ↦ get_or-put_chunk_below at w.file bytes i 0 lt ∙ old_right (λ from to. omega (arith, from, lt))
      | inr from ↦ elim (cases_lt i (at + length bytes)) [
        | inl to ↦ let is : at + (i - at) ≡ i = omega arith in
            subst (λ x. get_or (put_chunk at w.file bytes) x 0 ≡ get_or whole x 0) is
            (get_or-put_chunk_at at w.file bytes (i - at) 0 (omega arith) w.inside ∙ part.part (i - at) (omega arith))
        | inr behind ↦ get_or-put_chunk_above at w.file bytes i 0 behind
            ∙ old_right (λ from to. omega (arith, to, behind))
      ]
    ]
      where
        old_right : (at ≤ i → i < at + length bytes → ⊥) → get_or w.file i 0 ≡ get_or whole i 0
        old_right out = rw same (h.same i (λ j lt n from to. off j
            (λ is. out (subst (λ x. jobs.at x ≤ i) is from) (subst (λ x. i < jobs.at x + length (jobs.bytes x)) is to))
            (fixed j lt n from to)))

-- job k, which isn't done, torn: the output is filled as before
pub filled-torn : (jobs : Jobs) (name whole : List ℕ) (done : ℕ → Bool) (k : ℕ) (old new : Option (List ℕ))
    → k < jobs.count → jobs.name k ≡ name → done k ≡ false → IsFilled jobs name whole done old
    → IsTorn (jobs.at k) (length (jobs.bytes k)) old new → IsFilled jobs name whole done new
filled-torn jobs name whole done k old new lt here open_still h torn =
    let t = rw h.there at torn in record {
      bytes = t.0;
      there = t.1;
      size = t.2.same_length ∙ h.size;
      same = λ i fixed. torn-outside (jobs.at k) (length (jobs.bytes k)) h.bytes t.0 t.2 i
          (λ from to. cc (open_still, fixed k lt here from to)) ∙ h.same i fixed;
    }

-- all jobs done: the file is the whole one
pub filled-whole : (jobs : Jobs) (name whole : List ℕ) (done : ℕ → Bool) (file : Option (List ℕ))
    → ((k : ℕ) → k < jobs.count → done k ≡ true) → IsFilled jobs name whole done file → file ≡ Some whole
filled-whole jobs name whole done file all h =
    h.there ∙ ap (λ x. Some x) (ext_get_or 0 h.bytes whole h.size (λ i _. h.same i (λ k lt _ _ _. all k lt)))
