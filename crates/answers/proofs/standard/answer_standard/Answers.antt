use Rattle.std.proofs.Common.{◌≡◌, ◌∙◌, true, false, refl, ap, sym, inl, inr}
use Rattle.commandline.specs.Request.{asked_of}
use Rattle.sound_terms.specs.Passes.{join_cuts, regroup, split_fades, without_silent}
use Rattle.passes.specs.contracts.turn as turn
use Rattle.answers.proofs.Tables.{at_table}
use Rattle.answers.proofs.standard.answer_standard.OwnLists as own
use Rattle.answers.proofs.standard.answer_standard.Goals as goal

pub returns-in_ok-passes-in-Consolidate-clause-consolidated : goal.returns-in_ok-passes-in-Consolidate-clause-consolidated
returns-in_ok-passes-in-Consolidate-clause-consolidated g c place media target handle report request =
    c.answer_request.ensures.standard (record {
      splitting = c.into_dyn_box.result;
      leaving_out = c.into_dyn_box-in_ok-new-in-Consolidate-2.result;
      joining = c.into_dyn_box-in_ok-new-in-Consolidate-3.result;
      grouping = c.into_dyn_box-in_ok-new-in-Consolidate-4.result;
      are = c.in_ok-passes-in-Consolidate.ensures.items;
      looking = at_table
          (λ table v. ((turn.dyn-1-ghosts (own.own-1, own.lawful-own-1)).0.entry table).1.looking v ≡ true)
          _ _ c.into_dyn_box-in_ok-new-in-Consolidate-2.result.value c.into_dyn_box-in_ok-new-in-Consolidate-2.ensures.0 (λ v. refl);
      quiet = (
        at_table
            (λ table v. ((turn.dyn-1-ghosts (own.own-1, own.lawful-own-1)).0.entry table).1.looking v ≡ false)
            _ _ c.into_dyn_box.result.value c.into_dyn_box.ensures.0 (λ v. refl),
        at_table
            (λ table v. ((turn.dyn-1-ghosts (own.own-1, own.lawful-own-1)).0.entry table).1.looking v ≡ false)
            _ _ c.into_dyn_box-in_ok-new-in-Consolidate-3.result.value c.into_dyn_box-in_ok-new-in-Consolidate-3.ensures.0 (λ v. refl),
        at_table
            (λ table v. ((turn.dyn-1-ghosts (own.own-1, own.lawful-own-1)).0.entry table).1.looking v ≡ false)
            _ _ c.into_dyn_box-in_ok-new-in-Consolidate-4.result.value c.into_dyn_box-in_ok-new-in-Consolidate-4.ensures.0 (λ v. refl),
      );
      splits = λ groups silent. at_table
          (λ table v. ((turn.dyn-1-ghosts (own.own-1, own.lawful-own-1)).0.entry table).1.gives v groups silent
          ≡ split_fades groups)
          _ _ c.into_dyn_box.result.value c.into_dyn_box.ensures.0 (λ v. refl);
      leaves_out = λ groups silent. at_table
          (λ table v. ((turn.dyn-1-ghosts (own.own-1, own.lawful-own-1)).0.entry table).1.gives v groups silent
          ≡ without_silent groups silent)
          _ _ c.into_dyn_box-in_ok-new-in-Consolidate-2.result.value c.into_dyn_box-in_ok-new-in-Consolidate-2.ensures.0 (λ v. refl);
      joins = λ groups silent. at_table
          (λ table v. ((turn.dyn-1-ghosts (own.own-1, own.lawful-own-1)).0.entry table).1.gives v groups silent
          ≡ join_cuts groups)
          _ _ c.into_dyn_box-in_ok-new-in-Consolidate-3.result.value c.into_dyn_box-in_ok-new-in-Consolidate-3.ensures.0 (λ v. refl);
      regroups = λ groups silent. at_table
          (λ table v. ((turn.dyn-1-ghosts (own.own-1, own.lawful-own-1)).0.entry table).1.gives v groups silent
          ≡ regroup groups)
          _ _ c.into_dyn_box-in_ok-new-in-Consolidate-4.result.value c.into_dyn_box-in_ok-new-in-Consolidate-4.ensures.0 (λ v. refl);
    }) place media target handle report request

pub returns-in-Check : goal.returns-in-Check
returns-in-Check g c = record {
  consoles = c.answer_request-in-Check.ensures.consoles;
  rendered = c.answer_request-in-Check.ensures.rendered;
  resumed = c.answer_request-in-Check.ensures.resumed;
  consolidated = λ place media target handle report request. absurd (elim c.in-Check.is [
    | inl check ↦ let other = ap asked_of (sym check.2) ∙ request in cc
    | inr rest ↦ elim rest [
      | inl report ↦ let other = ap asked_of (sym report.2) ∙ request in cc
      | inr rest ↦ elim rest [
        | inl render ↦ let other = ap asked_of (sym render.2) ∙ request in cc
        | inr rest ↦ elim rest [
          | inl resume ↦ let other = ap asked_of (sym resume.2) ∙ request in cc
          | inr rest ↦ elim rest [
            | inl compare ↦ let other = ap asked_of (sym compare.2) ∙ request in cc
            | inr rest ↦ elim rest [
              | inl show ↦ let other = ap asked_of (sym show.4) ∙ request in cc
              | inr rest ↦ elim rest [
                | inl explain ↦ let other = ap asked_of (sym explain.1) ∙ request in cc
                | inr notice ↦ let other = ap asked_of (sym notice.1) ∙ request in cc
              ]
            ]
          ]
        ]
      ]
    ]
  ]);
  bad_time = c.answer_request-in-Check.ensures.bad_time;
  bad_time_resumed = c.answer_request-in-Check.ensures.bad_time_resumed;
  statuses = c.answer_request-in-Check.ensures.statuses;
  mistake = c.answer_request-in-Check.ensures.mistake;
  two = c.answer_request-in-Check.ensures.two;
  nothing = tt;
  untouched = tt;
}
