-- No report contains a floating-point number.
use Rattle.std.proofs.Common.{◌≡◌, ◌∷◌, ◌++◌, [], Bool, true, false, List, Option, None, Some, ℕ, codes, map, nat_le, if◌then◌else◌, refl, subst, sym}
use Rattle.std.specs.Str.{is_utf8}
use Rattle.serde_json.specs.Data.{Data, member, no_members, null, object, string}
use Rattle.serde_json.specs.View.{items_of}
use Rattle.serde_json.specs.Written.{compact_text, has_float, items_have_float}
use Rattle.sound_terms.specs.declared.BoundIndex.{BoundIndex}
use Rattle.sound_terms.specs.declared.piece.Home.{Home}
use Rattle.sound_terms.specs.Media.{sound_at}
use Rattle.sound_terms.specs.Sounds.{SoundFacts}
use Rattle.list_terms.specs.Heard.{sounds_of}
use Rattle.list_terms.specs.Project.{Source}
use Rattle.list_terms.specs.declared.Notice.{Notice}
use Rattle.digests.specs.declared.medium.Medium.{Medium}
use Rattle.lineage.specs.Groups.{Shown, grouped_in}
use Rattle.report_terms.specs.Report.{count, notice_data}
use Rattle.provenance.specs.Report.{Told, entry_data, given_of, group_data, groups_told, home_source, known_digest, medium_told, news_of, origin_data, text_data, told, told_data}

items_without : {X : Type 0} (f : X → Data) → ((x : X) → has_float (f x) ≡ false) → (xs : List X)
    → items_have_float (items_of (map f xs)) ≡ false
items_without f none [] = refl
items_without f none (x ∷ xs) = rw (none x) (items_without f none xs)

text_without : (bytes : List ℕ) → has_float (text_data bytes) ≡ false
text_without bytes = by_test (is_utf8 bytes) where
  by_test : (is : Bool) → has_float (if is then string bytes else null) ≡ false
  by_test true = refl
  by_test false = refl

told_without : (tell : Source → Data) → ((source : Source) → has_float (tell source) ≡ false)
    → (source : Option Source) → has_float (told tell source) ≡ false
told_without tell none None = refl
told_without tell none (Some source) = none source

known_without : (digest : Option (List ℕ)) → has_float (known_digest digest) ≡ false
known_without None = refl
known_without (Some digest) = refl

origin_without : (facts : SoundFacts) (first : ℕ) (source : Option Source) (digest : Option (List ℕ))
    → has_float (origin_data facts first source digest) ≡ false
origin_without facts first source digest =
    rw (
      told_without (λ s. text_data s.uid) (λ s. text_without s.uid) source,
      told_without (λ s. count s.number) (λ s. refl) source,
      known_without digest,
      told_without (λ s. text_data s.url) (λ s. text_without s.url) source,
    ) refl

medium_without : (sources : List Source) (indexes : List BoundIndex) (sounds : List SoundFacts) (homes : List Home)
    (medium : Medium) → has_float (medium_told sources indexes sounds homes medium) ≡ false
medium_without sources indexes sounds homes medium =
    let file = medium.run.file in
    rw (origin_without (sound_at sounds file) medium.run.first (home_source sources indexes homes file) medium.source) refl

group_without : (group : Shown) → has_float (group_data group) ≡ false
group_without group = rw (items_without count (λ n. refl) group.0) refl

notice_without : (notice : Notice) → has_float (notice_data notice) ≡ false
notice_without notice = by_test (nat_le notice.kind 2) where
  of_line : Data
  of_line = object (member (codes "line") (count notice.at) (member (codes "notice") (count notice.kind) no_members))

  of_index : Data
  of_index = object (member (codes "index") (count notice.at) (member (codes "notice") (count notice.kind) no_members))

  by_test : (is : Bool) → has_float (if is then of_line else of_index) ≡ false
  by_test true = refl
  by_test false = refl

report_without : (t : Told) (media : List Medium) → has_float (told_data t media) ≡ false
report_without t media =
    rw (
      items_without entry_data (λ entry. refl) (map (grouped_in (groups_told t) (given_of t)) (news_of t)),
      items_without group_data group_without (groups_told t),
      items_without (medium_told t.project.sources t.binding.indexes (sounds_of t.binding) t.kept.homes)
          (medium_without t.project.sources t.binding.indexes (sounds_of t.binding) t.kept.homes) media,
      items_without notice_data notice_without (t.project.notices ++ t.binding.notices),
    ) refl

-- the text of a value that is a report
pub text_of_report : (t : Told) (media : List Medium) (seen : Data) (text : List ℕ) → seen ≡ told_data t media
    → (has_float seen ≡ false → text ≡ compact_text seen) → text ≡ compact_text (told_data t media)
text_of_report t media seen text same says =
    subst (λ (d : Data). (has_float d ≡ false → text ≡ compact_text d) → text ≡ compact_text (told_data t media))
    (sym same) (λ says. says (report_without t media)) says
