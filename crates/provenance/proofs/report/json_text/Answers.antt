use Rattle.std.proofs.Common.{◌≡◌, ◌∙◌, ◌++◌, ◌∷◌, [], ℕ, List, Vec, Global, ap, map, string_bytes}
use Rattle.serde_json.specs.Data.{Data}
use Rattle.serde_json.specs.View.{view}
use Rattle.list_terms.specs.Heard.{sounds_of}
use Rattle.lineage.specs.declared.shared.Group.{Group}
use Rattle.provenance.specs.Asked.{asked_of}
use Rattle.lineage.specs.Groups.{IsGrouped, grouped_in, seen}
use Rattle.report_terms.specs.Report.{notice_data}
use Rattle.provenance.specs.Report.{Told, entry_data, given_of, group_data, groups_told, medium_told, news_of, report_data, told_data}
use Rattle.provenance.proofs.NoFloats.{text_of_report}
use Rattle.provenance.proofs.report.json_text.Goals as goal

pub returns : goal.returns
returns c =
    let t : Told = record {
      project = c.args.project.now;
      binding = c.args.bound.now;
      kept = c.args.runs.now;
      events = c.args.events.now;
      text = c.args.text.now;
      handle = c.args.handle;
      asked = asked_of c.args.asked;
    } in
    let media : map view c.in_ok-media.media.items
    ≡ map (medium_told t.project.sources t.binding.indexes (sounds_of t.binding) t.kept.homes) c.args.media.now =
    rw (c.sources.ensures.sources, c.indexes.ensures.indexes, c.sounds.ensures.sounds, c.homes.ensures)
    at c.in_ok-media.ensures in
    let given : c.in_ok-given.given.items ≡ given_of t = rw (c.events.ensures.events) at c.in_ok-given.ensures in
    let grouped : IsGrouped (given_of t) (news_of t) c.in_ok-grouped.grouped =
    rw (c.deref.ensures.value, c.deref-2.ensures.value, given, c.in_ok-entries.ensures) at c.in_ok-grouped.ensures in
    let groups : map view c.in_ok-groups.groups.items ≡ map group_data (groups_told t) =
    c.in_ok-groups.ensures
    ∙ ap (λ (keys : List Group). map group_data (map seen keys)) c.as_slice.ensures.keys
    ∙ ap (map group_data) grouped.groups_are in
    let entries : map view c.in_ok-entries-2.entries.items
    ≡ map entry_data (map (grouped_in (groups_told t) (given_of t)) (news_of t)) =
    c.in_ok-entries-2.ensures
    ∙ ap (map entry_data) (c.deref-3.ensures.value ∙ grouped.entries_are) in
    let notices : map view c.in_ok-notices.notices.items ≡ map notice_data (t.project.notices ++ t.binding.notices) =
    rw (c.notices.ensures, c.notices-2.ensures) at c.in_ok-notices.ensures in
    let same : view c.in_ok-report.report ≡ told_data t c.args.media.now =
    c.in_ok-report.ensures
    ∙ ap (λ (values : List Data). report_data t.handle t.asked t.text values
    (map view c.in_ok-groups.groups.items) (map view c.in_ok-entries-2.entries.items)
    (map view c.in_ok-notices.notices.items)) media
    ∙ ap (λ (values : List Data). report_data t.handle t.asked t.text
    (map (medium_told t.project.sources t.binding.indexes (sounds_of t.binding) t.kept.homes) c.args.media.now)
    values (map view c.in_ok-entries-2.entries.items) (map view c.in_ok-notices.notices.items)) groups
    ∙ ap (λ (values : List Data). report_data t.handle t.asked t.text
    (map (medium_told t.project.sources t.binding.indexes (sounds_of t.binding) t.kept.homes) c.args.media.now)
    (map group_data (groups_told t)) values (map view c.in_ok-notices.notices.items)) entries
    ∙ ap (λ (values : List Data). report_data t.handle t.asked t.text
    (map (medium_told t.project.sources t.binding.indexes (sounds_of t.binding) t.kept.homes) c.args.media.now)
    (map group_data (groups_told t)) (map entry_data (map (grouped_in (groups_told t) (given_of t)) (news_of t)))
    values) notices in
    let line = text_of_report t c.args.media.now (view c.in_ok-report.report) (string_bytes c.in_ok-line.line) same
    c.in_ok-line.ensures.text in
    c.in_ok-push.ensures.items ∙ ap (λ (bytes : List ℕ). bytes ++ 10 ∷ [])
    (ap (λ (v : Vec ℕ Global). v.items) c.into_bytes-json.ensures.value ∙ line)
