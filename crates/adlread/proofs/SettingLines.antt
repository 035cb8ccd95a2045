-- The lines of SYSTEM and SEQUENCE are read as the settings that they spell, and as no others.
use Rattle.std.proofs.Common.{◌≡◌, ℕ, true, List, [], ◌∷◌, Ok, refl}
use Rattle.std.specs.Prelude.{is_ok, not}
use Rattle.std.specs.List.{list_all}
use Rattle.std.proofs.lemmas.Bool.{not-true}
use Rattle.facts.specs.Tests.{and_both, and_left, and_right}
use Rattle.list_terms.specs.declared.Rates.{Rates}
use Rattle.list_terms.specs.declared.TextFault.TheVariants.{SectionMismatch}
use Rattle.list_terms.specs.EntryLines.{sequence_fields, sequence_line, system_fields, system_line}
use Rattle.list_terms.specs.HeaderLaws.{was_ok}
use Rattle.list_terms.specs.Text.{is_tag, sequence_rates, untagged}
use Rattle.list_terms.specs.WholeProject.{is_system_line, told_rates}
use Rattle.adlread.specs.LineGrammar.{AreSettings, NoRate, NoSetting, RateLine, Setting, TellRates}
use Rattle.adlread.proofs.FieldLaws.{chain, ok_same, read_by_first, spelled_by_first, unless_ok}

module _ (rate : ℕ) where
  -- ---- SYSTEM

  setting_read : (text : List ℕ) → untagged text (system_line rate text) ≡ Ok tt → is_system_line rate text ≡ true
  setting_read text e =
      let passed = unless_ok (is_tag text) SectionMismatch (system_line rate text) tt e in
      rw (passed.0, passed.1) refl

  setting_is : (text : List ℕ) → is_system_line rate text ≡ true → untagged text (system_line rate text) ≡ Ok tt
  setting_is text h =
      rw (not-true (is_tag text) (and_left (not (is_tag text)) (is_ok (system_line rate text)) h))
      (was_ok (system_line rate text) (and_right (not (is_tag text)) (is_ok (system_line rate text)) h))

  pub settings_read : {lines : List (List ℕ)} → AreSettings rate lines → list_all (is_system_line rate) lines ≡ true
  unfolding system_line
  settings_read NoSetting = refl
  settings_read (Setting {text} {lines} h others) =
      and_both (is_system_line rate text) (list_all (is_system_line rate) lines)
      (setting_read text (read_by_first tt (system_fields rate) text tt h)) (settings_read others)

  pub settings_are : (lines : List (List ℕ)) → list_all (is_system_line rate) lines ≡ true → AreSettings rate lines
  unfolding system_line
  settings_are [] all = NoSetting
  settings_are (text ∷ lines) all =
      Setting (spelled_by_first tt (system_fields rate) text tt
      (setting_is text (and_left (is_system_line rate text) (list_all (is_system_line rate) lines) all)))
      (settings_are lines (and_right (is_system_line rate text) (list_all (is_system_line rate) lines) all))

  -- ---- SEQUENCE

  pub rates_read :
      {rates told : Rates} {lines : List (List ℕ)} → TellRates rate rates lines told
      → told_rates rate rates lines ≡ Ok told
  unfolding sequence_line
  rates_read NoRate = refl
  rates_read (RateLine {rates} {next} {told} {text} {lines} h others) =
      rw (read_by_first rates (sequence_fields rate rates) text next h) (rates_read others)

  pub rates_are :
      (rates told : Rates) (lines : List (List ℕ)) → told_rates rate rates lines ≡ Ok told
      → TellRates rate rates lines told
  unfolding sequence_line
  rates_are rates told [] e = rw (← ok_same _ _ e) NoRate
  rates_are rates told (text ∷ lines) e =
      let c = chain (sequence_rates rate rates text) (λ next. told_rates rate next lines) told e in
      RateLine (spelled_by_first rates (sequence_fields rate rates) text c.value c.is)
      (rates_are c.value told lines c.others)
