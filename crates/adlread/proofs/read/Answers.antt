use Rattle.std.proofs.Common.{◌≡◌, ℕ, true, false, List, [], Result, Ok, Err, refl, ap, sym, subst, ◌∙◌}
use Rattle.std.specs.Prelude.{IfErr, IfOk}
use Rattle.work_terms.specs.Refusals.{Gives, Refusal, is_excused, is_memory}
use Rattle.list_terms.specs.declared.TextFault.{TextFault}
use Rattle.list_terms.specs.declared.TextFault.TheVariants as fault
use Rattle.list_terms.specs.Project.{ListProject}
use Rattle.list_terms.specs.Steps.{err_map}
use Rattle.list_terms.specs.Lines.{lines_of}
use Rattle.list_terms.specs.Text.{LocatedFault, fault_number, nothing_read, rate_of, read_from, text_refusal, text_value}
use Rattle.list_terms.specs.WholeProject.{IsProject}
use Rattle.adlread.specs.declared.fault.AdlFault.{AdlFault}
use Rattle.adlread.specs.declared.fault.AdlFault.TheVariants.{Text, Memory}
use Rattle.adlread.specs.Fault.{Reads, refusal}
use Rattle.adlread.specs.FaultSpans.{IsAt, lines_span, text_span}
use Rattle.adlread.specs.Spells.{Spells}
use Rattle.adlread.proofs.Blocks.{value_of}
use Rattle.adlread.proofs.SpelledLists.{spelled_of}
use Rattle.adlread.proofs.read.Goals as goal

-- No fault of a text is an out-of-memory or device failure.
not_excused : (f : TextFault) → is_excused (fault_number f) ≡ false
not_excused fault.BadByte = refl
not_excused fault.BadLine = refl
not_excused fault.SectionMismatch = refl
not_excused fault.MissingSection = refl
not_excused fault.RepeatedSection = refl
not_excused fault.BadTime = refl
not_excused fault.BadNumber = refl
not_excused fault.BadChannels = refl
not_excused fault.BadUrl = refl
not_excused fault.MissingField = refl
not_excused fault.MissingSequence = refl
not_excused fault.WrongSequence = refl
not_excused fault.Unsupported = refl
not_excused fault.DuplicateNumber = refl
not_excused fault.TooMany = refl
not_excused fault.Unplaced = refl
not_excused fault.RepeatedFade = refl

gives_from_reads :
    (result : Result ListProject AdlFault) (reading : Result ListProject LocatedFault) → Reads (λ p. p) result reading
    → Gives (λ p. p) refusal (λ r. r.number) result (err_map text_refusal reading)
gives_from_reads (Ok project) reading h = ap (err_map text_refusal) h
gives_from_reads (Err (Text fault location stood)) reading h =
    rw not_excused (ap (err_map text_refusal) h)
gives_from_reads (Err Memory) reading h = tt

exact_from_reads :
    (text : List ℕ) (result : Result ListProject AdlFault)
    → Reads (λ p. p) result (read_from (rate_of text) nothing_read 0 (lines_of text))
    → Gives (λ p. p) refusal (λ r. r.number) result (text_value text)
unfolding text_value
exact_from_reads text result h = gives_from_reads result (read_from (rate_of text) nothing_read 0 (lines_of text)) h

-- Reading at the rate of the text.
at_its_rate :
    (text : List ℕ) (result : Result ListProject AdlFault) (rate : ℕ) → rate ≡ rate_of text
    → Reads (λ p. p) result (read_from rate nothing_read 0 (lines_of text))
    → Reads (λ p. p) result (read_from (rate_of text) nothing_read 0 (lines_of text))
at_its_rate text result rate same h =
    subst (λ r. Reads (λ p. p) result (read_from r nothing_read 0 (lines_of text))) same h

spelled_from_exact :
    (text : List ℕ) (result : Result ListProject AdlFault)
    → Gives (λ p. p) refusal (λ r. r.number) result (text_value text) → IfOk result IsProject
    → IfOk result (λ project. Spells text project)
spelled_from_exact text (Ok project) h is = spelled_of text project is h
spelled_from_exact text (Err fault) h is = tt

faulty_from_reads :
    (text : List ℕ) (result : Result ListProject AdlFault)
    → Reads (λ p. p) result (read_from (rate_of text) nothing_read 0 (lines_of text))
    → IfErr result (λ fault. is_memory (refusal fault).number ≡ false → (project : ListProject) → Spells text project
    → ⊥)
unfolding text_value
faulty_from_reads text (Ok project) h = tt
faulty_from_reads text (Err (Text fault location stood)) h = λ _ project spells.
    let value = value_of text project spells in
    let fault : ◌≡◌ {A = Result ListProject Refusal}
    (Err (text_refusal (record { fault = fault; location = location }))) (Ok project) =
    sym (ap (err_map text_refusal) h) ∙ value in
    cc
faulty_from_reads text (Err Memory) h = λ no project spells. let wrong : true ≡ false = no in cc

pub returns-clause-exact : goal.returns-clause-exact
returns-clause-exact c = exact_from_reads c.args.text.now c.read_lines.result
    (at_its_rate c.args.text.now c.read_lines.result _ c.rate_of-rate.ensures c.read_lines.ensures.exact)

pub returns-clause-spelled : goal.returns-clause-spelled
returns-clause-spelled c =
    spelled_from_exact c.args.text.now c.read_lines.result
    (exact_from_reads c.args.text.now c.read_lines.result
    (at_its_rate c.args.text.now c.read_lines.result _ c.rate_of-rate.ensures c.read_lines.ensures.exact))
    c.read_lines.ensures.whole

pub returns-clause-only : goal.returns-clause-only
returns-clause-only c project spells =
    subst (Gives (λ p. p) refusal (λ r. r.number) c.read_lines.result) (value_of c.args.text.now project spells)
    (exact_from_reads c.args.text.now c.read_lines.result
    (at_its_rate c.args.text.now c.read_lines.result _ c.rate_of-rate.ensures c.read_lines.ensures.exact))

pub returns-clause-faulty : goal.returns-clause-faulty
returns-clause-faulty c = faulty_from_reads c.args.text.now c.read_lines.result
    (at_its_rate c.args.text.now c.read_lines.result _ c.rate_of-rate.ensures c.read_lines.ensures.exact)

at_text_span :
    {X : Type 0} (text : List ℕ) (result : Result X AdlFault) (rate : ℕ) → rate ≡ rate_of text
    → IsAt (lines_span rate nothing_read 0 [] (lines_of text)) result → IsAt (text_span text) result
unfolding text_span
at_text_span text result rate same h = subst (λ r. IsAt (lines_span r nothing_read 0 [] (lines_of text)) result) same h

pub returns-clause-span : goal.returns-clause-span
returns-clause-span c =
    at_text_span c.args.text.now c.read_lines.result _ c.rate_of-rate.ensures c.read_lines.ensures.span
