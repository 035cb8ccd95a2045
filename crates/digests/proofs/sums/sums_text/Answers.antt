use Rattle.std.proofs.Common.{◌≡◌, ◌∙◌, ◌++◌, ℕ, List, ap, arith, codes}
use Rattle.std.specs.List.{flat_map}
use Rattle.std.proofs.lemmas.List.{append_assoc, take_all}
use Rattle.sha2.specs.Sha256.{sha256}
use Rattle.digests.specs.Sums.{medium_line, sum_line}
use Rattle.digests.specs.declared.medium.Medium.{Medium}
use Rattle.digests.proofs.sums.sums_text.Goals as goal

pub returns : goal.returns
returns c =
    let media = c.args.media.now in
    let lines : c.loop-medium.sums.items ≡ flat_map medium_line media =
    c.loop-medium.invariant
    ∙ ap (λ (ms : List Medium). flat_map medium_line ms)
    (take_all c.loop-medium.medium-index media (omega (arith, c.loop-medium-test.false))) in
    let list = sum_line (sha256 c.args.list.now) (codes "consolidated.adl") in
    let json = sum_line (sha256 c.args.json.now) (codes "consolidated.json") in
    c.in_ok-push_file-2.ensures
    ∙ ap (λ (front : List ℕ). front ++ json) (c.in_ok-push_file.ensures ∙ ap (λ (front : List ℕ). front ++ list) lines)
    ∙ append_assoc (flat_map medium_line media) list json
