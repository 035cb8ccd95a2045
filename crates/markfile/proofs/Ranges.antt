-- Reading a range of a known file.
use Rattle.std.proofs.Common.{◌≡◌, ◌∙◌, ℕ, Option, Some, List, length, take, drop, ap, sym}
use Rattle.work_terms.specs.Disk.{IsRange}

same_file : (a b : List ℕ) → Some a ≡ Some b → a ≡ b
same_file a b e = cc

-- the bytes read are n bytes from offset `at` on
pub range_in : (stored : Option (List ℕ)) (file : List ℕ) (at : ℕ) (bytes : List ℕ) (n : ℕ) → stored ≡ Some file
    → length bytes ≡ n → IsRange stored at bytes → bytes ≡ take n (drop at file)
range_in stored file at bytes n there many range =
    let e = same_file range.file file (sym range.there ∙ there) in
    range.same ∙ ap (λ k. take k (drop at range.file)) many ∙ ap (λ f. take n (drop at f)) e
