use Rattle.std.proofs.Common.{◌≡◌, ◌∙◌, ◌++◌, [], ℕ, List, Option, ap, codes, refl}
use Rattle.hex.specs.Hex.{encode_lower}
use Rattle.json.specs.Print.{escape}
use Rattle.serde_json.specs.Written.{compact_text}
use Rattle.sha2.specs.Sha256.{sha256}
use Rattle.devices.specs.AppendLaws.{said}
use Rattle.renderreport.specs.Parts.{all_of, end_text}
use Rattle.renderreport.specs.Report.{Facts, facts_of, known, report_name}
use Rattle.renderreport.proofs.parts.put_end.Goals as goal

-- the end of a report is the concatenation of its parts
end_of_parts : (facts : Facts) (digest list marked program version : List ℕ) → list ≡ sha256 facts.list
    → marked ≡ compact_text (known facts.marked) → program ≡ facts.program → version ≡ facts.version
    → codes ",\"given_list_sha256\":\"" ++ (escape (encode_lower list) ++ (codes "\",\"marked\":" ++ (marked
    ++ (codes ",\"program\":\"" ++ (escape program ++ (codes "\",\"sha256\":\"" ++ (escape (encode_lower digest)
    ++ (codes "\",\"version\":\"" ++ (escape version ++ (codes "\"}\n" ++ [])))))))))) ≡ end_text facts digest
unfolding end_text
end_of_parts facts digest list marked program version one two three four = rw (one, two, three, four) refl

pub returns : goal.returns
unfolding all_of
returns g c =
    said g.B.Bench report_name (end_of_parts (facts_of c.args.report.now.facts.now) c.args.report.now.digest
    c.list_digest.result _ _ _ c.list_digest.ensures
    (c.found.ensures ∙ ap (λ (marked : Option ℕ). compact_text (known marked)) c.marked_in.ensures)
    c.as_bytes.ensures.value c.as_bytes-2.ensures.value) c.put.ensures
