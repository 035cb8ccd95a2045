-- The lines of an event list are read as the entries that they spell, and as no others.
use Rattle.std.proofs.Common.{◌≡◌, ℕ, Bool, true, false, List, [], ◌∷◌, ◌++◌, length, Option, None, Some, Ok, IsTrue, refl, ap, sym, subst, ◌∙◌, append_assoc, arith}
use Rattle.std.specs.Prelude.{codes, ◌==◌, map, ⊤}
use Rattle.std.specs.List.{list_any}
use Rattle.facts.specs.Distinct.{moved, not_taken}
use Rattle.facts.specs.Tests.{and_both, and_left, and_right}
use Rattle.sound_terms.specs.declared.Event.{Event}
use Rattle.list_terms.specs.declared.OpenEntry.{OpenEntry}
use Rattle.list_terms.specs.declared.Section.TheVariants as section
use Rattle.list_terms.specs.declared.TextFault.TheVariants.{RepeatedFade, Unplaced, Unsupported}
use Rattle.list_terms.specs.KeywordLaws.{other_keyword}
use Rattle.list_terms.specs.ReadingLaws.{BlankEvent, FrontRemark, Further, IsEventLine, ToldEntry, entry_number, event_line_is}
use Rattle.list_terms.specs.Tokens.{TokenText, token_at}
use Rattle.list_terms.specs.Fields.{is_keyword, is_zero}
use Rattle.list_terms.specs.Forms.{Done, Number, Then, Unless, any, mapped, reads}
use Rattle.list_terms.specs.EntryLines.{entry_keyword, entry_with, event_fields, fade_fields, remark, with_fall, with_rise}
use Rattle.list_terms.specs.Text as list
use Rattle.list_terms.specs.Text.{Context, Entries, all_events, entry_of, further_line, in_event_list, in_section, is_tag, with_event}
use Rattle.list_terms.specs.WholeProject.{AreDistinct, entry_numbers}
use Rattle.adlread.specs.CutLines.{CutsTo, HasTokens, NumberedLine}
use Rattle.adlread.specs.LineGrammar.{IsLineOf, SpellsLine, entry_line, fade_line, is_remark, is_zero_gain}
use Rattle.adlread.specs.Spells.{EntriesEnd, FallLine, FirstEntry, GainLine, NextEntry, NoEntries, RemarkBehind, RemarkLine, RiseLine, SpelledEntry, SpellsBehind, SpellsEntries, faded, with_fades}
use Rattle.adlread.proofs.CutLaws.{cut_next, cut_none, first_cut, no_cut}
use Rattle.adlread.proofs.FieldLaws.{all_cut, all_tokens_are, chain, ends, is_end_of, is_named, is_numbered, ok_map_ok, ok_same, reads_all, reads_end, reads_mapped, refused, spells_named, told_read, unless_read}
use Rattle.adlread.proofs.Walk.{walk, walk_step}

abbrev pub with_entries : Context → Entries → Context
with_entries c entries = record c { entries = entries }

-- The event list with a last entry.
abbrev behind : List Event → OpenEntry → List ℕ → Entries
behind events entry separators = record { events = events; entry = Some entry; separators = Some separators }

-- The event list without entries.
abbrev pub nothing : Entries
nothing = record { events = []; entry = None; separators = None }

-- An entry without further lines.
abbrev opened_entry : Event → OpenEntry
opened_entry event = record { event = event; has_rise = false; has_fall = false }

-- A fade may be given if it wasn't given before.
abbrev IsFree : Option ℕ → Bool → Type 0
IsFree None told = ⊤
IsFree (Some fade) told = told ≡ false

abbrev pub events_of : List SpelledEntry → List Event
events_of entries = map (λ entry. entry.event) entries

is_free : (fade : Option ℕ) → IsFree fade false
is_free None = tt
is_free (Some fade) = refl

-- The separators of the first entry.
abbrev pub first_separators : List SpelledEntry → Option (List ℕ)
first_separators [] = None
first_separators (entry ∷ entries) = Some entry.separators

-- ---- all lines that were read

-- The outcome of the lines after an entry: its fades, the entries that follow, and the state at the end.
record AreTold
    (c : Context) (events : List Event) (entry : OpenEntry) (separators : List ℕ) (next : Context) : Type 0 where
  rise : Option ℕ
  fall : Option ℕ
  entries : List SpelledEntry
  free_rise : IsFree rise entry.has_rise
  free_fall : IsFree fall entry.has_fall
  last : Entries
  is : next ≡ with_entries c last
  all_are : all_events last.events last.entry ≡ events ++ faded entry.event rise fall ∷ events_of entries
  separators_are : last.separators ≡ Some separators

none_told : (fade : Option ℕ) → IsFree fade true → fade ≡ None
none_told None h = refl
none_told (Some fade) h = absurd (cc)

-- The outcome of the lines for an entry, from the outcome for the entry after its first line.
abbrev with_told :
    {c : Context} {events : List Event} (entry new : OpenEntry) {separators : List ℕ} {next : Context}
    (r : AreTold c events new separators next) (rise fall : Option ℕ)
    → IsFree rise entry.has_rise × IsFree fall entry.has_fall
    → faded new.event r.rise r.fall ≡ faded entry.event rise fall → AreTold c events entry separators next
with_told {events = events} entry new r rise fall free same = record {
  rise = rise;
  fall = fall;
  entries = r.entries;
  free_rise = free.0;
  free_fall = free.1;
  last = r.last;
  is = r.is;
  all_are = r.all_are ∙ ap (λ e. events ++ e ∷ events_of r.entries) same;
  separators_are = r.separators_are;
}

-- A line with this keyword gives a fade, once.
record TellsFade (rate : ℕ) (entry : OpenEntry) (name : List ℕ) (with : ℕ → OpenEntry) (told : Bool) : Type 0 where
  other : (token : TokenText) → is_keyword name token ≡ true → is_keyword (codes "Entry") token ≡ false
  form : (token : TokenText) → is_keyword name token ≡ true
      → entry_with rate entry token ≡ Unless told RepeatedFade (mapped with (fade_fields rate))

tells_rise :
    (rate : ℕ) (entry : OpenEntry) → TellsFade rate entry (codes "Infade") (with_rise entry) entry.has_rise
unfolding entry_keyword entry_with
tells_rise rate entry = record {
  other = λ token is. other_keyword (codes "Infade") (codes "Entry") token refl is;
  form = λ token is. rw is refl;
}

tells_fall :
    (rate : ℕ) (entry : OpenEntry) → TellsFade rate entry (codes "Outfade") (with_fall entry) entry.has_fall
unfolding entry_keyword entry_with
tells_fall rate entry = record {
  other = λ token is. other_keyword (codes "Outfade") (codes "Entry") token refl is;
  form = λ token is. rw (other_keyword (codes "Outfade") (codes "Infade") token refl is, is) refl;
}

module _ (rate : ℕ) where
  -- ---- reading one line

  module _ (c : Context) (n : ℕ) (text : List ℕ) where
    -- A line leads from one event list to another.
    abbrev Leads : Entries → Entries → Type 0
    Leads old new = in_event_list rate (with_entries c old) n text ≡ Ok (with_entries c new)

    -- A line that isn't an `(Entry)` line.
    further_read :
        (rest : List ℕ) (token : TokenText) (old new : Entries) → is_tag text ≡ false
        → token_at text ≡ Ok (Some (token, rest)) → is_keyword (codes "Entry") token ≡ false
        → further_line rate old token rest ≡ Ok new → Leads old new
    unfolding in_event_list
    further_read rest token old new untagged at other f = rw (untagged, at, other, f) refl

    blank_read : (old : Entries) → HasTokens text [] → Leads old old
    unfolding in_event_list
    blank_read old h = rw (h.untagged, no_cut h.cut) refl

    -- A remark before the first entry.
    first_remark_read :
        (tokens : List TokenText) → HasTokens text tokens → IsTrue (is_remark tokens) → Leads nothing nothing
    unfolding further_line remark
    first_remark_read [] h is = blank_read nothing h
    first_remark_read (token ∷ tokens) h is =
        let f = first_cut h.cut in
        further_read f.rest token nothing nothing h.untagged f.at
        (other_keyword (codes "Rem") (codes "Entry") token refl is)
        (rw (is, reads_end {A = Unit {0}} (tt {0}) f.rest (is_end_of f.rest tokens f.cut)) refl)

    entry_read :
        (g : Event × List ℕ) (entries : Entries) → SpellsLine (entry_line rate) text g
        → list_any (λ other. other.number == g.0.number) (all_events entries.events entries.entry) ≡ false
        → Leads entries (with_event entries g.0 g.1)
    unfolding in_event_list list.entry_line entry_of
    entry_read g entries h free =
        let l = is_named (codes "Entry") (Then Number (event_fields rate)) text g h in
        let f = is_numbered (event_fields rate) l.rest g l.says in
        let new : list_any (λ other. other.number == f.number) (all_events entries.events entries.entry) ≡ false =
        subst (λ m. list_any (λ other. other.number == m) (all_events entries.events entries.entry) ≡ false)
        (entry_number rate f.number f.rest g f.says) free in
        rw (h.cut.untagged, l.at, l.is, f.numbered, new, f.says) refl

    -- Lines after an entry.
    module _ (events : List Event) (entry : OpenEntry) (separators : List ℕ) where
      abbrev Tells : OpenEntry → Type 0
      Tells new = Leads (behind events entry separators) (behind events new separators)

      remark_read : (tokens : List TokenText) → HasTokens text tokens → IsTrue (is_remark tokens) → Tells entry
      unfolding further_line entry_keyword entry_with
      remark_read [] h is = blank_read (behind events entry separators) h
      remark_read (token ∷ tokens) h is =
          let f = first_cut h.cut in
          further_read f.rest token (behind events entry separators) (behind events entry separators) h.untagged f.at
          (other_keyword (codes "Rem") (codes "Entry") token refl is)
          (rw (
            other_keyword (codes "Rem") (codes "Infade") token refl is,
            other_keyword (codes "Rem") (codes "Outfade") token refl is,
            is,
            reads_end entry f.rest (is_end_of f.rest tokens f.cut),
          ) refl)

      gain_read : (tokens : List TokenText) → HasTokens text tokens → IsTrue (is_zero_gain tokens) → Tells entry
      unfolding further_line entry_keyword entry_with
      gain_read [] h is = absurd (cc)
      gain_read (token ∷ tokens) h both =
          let f = first_cut h.cut in
          let is = and_left (is_keyword (codes "Gain") token) _ both in
          let zeros = and_right (is_keyword (codes "Gain") token) _ both in
          further_read f.rest token (behind events entry separators) (behind events entry separators) h.untagged f.at
          (other_keyword (codes "Gain") (codes "Entry") token refl is)
          (rw (
            other_keyword (codes "Gain") (codes "Infade") token refl is,
            other_keyword (codes "Gain") (codes "Outfade") token refl is,
            other_keyword (codes "Gain") (codes "Rem") token refl is,
            is,
            reads_all (λ t. is_zero t.content) entry f.rest
                (all_cut (λ t. is_zero t.content) (length f.rest) f.rest tokens (omega arith) f.cut zeros),
          ) refl)

      -- A fade that is given for the first time.
      fade_read :
          {name : List ℕ} {with : ℕ → OpenEntry} {told : Bool} → TellsFade rate entry name with told → (fade : ℕ)
          → SpellsLine (fade_line rate name) text fade → told ≡ false → Tells (with fade)
      unfolding further_line
      fade_read {name} {with} {told} tells fade h free =
          let f = is_named name (fade_fields rate) text fade h in
          further_read f.rest f.keyword (behind events entry separators) (behind events (with fade) separators)
          h.cut.untagged f.at (tells.other f.keyword f.is)
          (rw (
            tells.form f.keyword f.is,
            told_read with told RepeatedFade (fade_fields rate) f.rest fade free f.says,
          ) refl)

  -- ---- reading all lines

  pub record AreRead (lines : List NumberedLine) (c : Context) (old : Entries) (all : List Event)
      (separators : Option (List ℕ)) : Type 0 where
    pub last : Entries
    pub walked : walk rate section.EventList (with_entries c old) lines ≡ Ok (with_entries c last)
    pub all_are : all_events last.events last.entry ≡ all
    pub separators_are : last.separators ≡ separators

  one_more :
      (line : NumberedLine) (lines : List NumberedLine) (c : Context) (old middle : Entries) (all : List Event)
      (separators : Option (List ℕ))
      → in_event_list rate (with_entries c old) line.number line.text ≡ Ok (with_entries c middle)
      → AreRead lines c middle all separators → AreRead (line ∷ lines) c old all separators
  unfolding in_section
  one_more line lines c old middle all separators e r = record {
    last = r.last;
    walked = walk_step rate section.EventList (with_entries c old) (with_entries c middle) line lines e ∙ r.walked;
    all_are = r.all_are;
    separators_are = r.separators_are;
  }

  read_behind :
      {lines : List NumberedLine} {rise fall : Option ℕ} {entries : List SpelledEntry}
      → SpellsBehind rate lines rise fall entries
      → (c : Context) (events : List Event) (entry : OpenEntry) (separators : List ℕ) → IsFree rise entry.has_rise
      → IsFree fall entry.has_fall
      → AreDistinct (entry_numbers (events ++ faded entry.event rise fall ∷ events_of entries))
      → AreRead lines c (behind events entry separators) (events ++ faded entry.event rise fall ∷ events_of entries)
      (Some separators)
  read_behind EntriesEnd c events entry separators r f distinct =
      record { last = behind events entry separators; walked = refl; all_are = refl; separators_are = refl }
  read_behind (RemarkBehind line {lines} {rise} {fall} {entries} h others) c events entry separators r f distinct =
      one_more line lines c (behind events entry separators) (behind events entry separators) _ _
      (remark_read c line.number line.text events entry separators h.tokens h.cut h.passes)
      (read_behind others c events entry separators r f distinct)
  read_behind (GainLine line {lines} {rise} {fall} {entries} h others) c events entry separators r f distinct =
      one_more line lines c (behind events entry separators) (behind events entry separators) _ _
      (gain_read c line.number line.text events entry separators h.tokens h.cut h.passes)
      (read_behind others c events entry separators r f distinct)
  read_behind (RiseLine line fade {lines} {fall} {entries} h others) c events entry separators r f distinct =
      one_more line lines c (behind events entry separators) (behind events (with_rise entry fade) separators) _ _
      (fade_read c line.number line.text events entry separators (tells_rise rate entry) fade h r)
      (read_behind others c events (with_rise entry fade) separators tt f distinct)
  read_behind (FallLine line fade {lines} {rise} {entries} h others) c events entry separators r f distinct =
      one_more line lines c (behind events entry separators) (behind events (with_fall entry fade) separators) _ _
      (fade_read c line.number line.text events entry separators (tells_fall rate entry) fade h f)
      (read_behind others c events (with_fall entry fade) separators r tt distinct)
  read_behind (NextEntry line g {lines} {rise} {fall} {entries} h others) c events entry separators r f distinct =
      let front = events ++ entry.event ∷ [] in
      let whole = append_assoc events (entry.event ∷ []) (faded g.0 rise fall ∷ events_of entries) in
      let free = not_taken (λ e. e.number) front (faded g.0 rise fall) (events_of entries)
      (moved (λ e. e.number) events entry.event (faded g.0 rise fall ∷ events_of entries) distinct) in
      let later = read_behind others c front (opened_entry g.0) separators (is_free rise) (is_free fall)
      (subst (λ es. AreDistinct (entry_numbers es)) (sym whole) distinct) in
      one_more line lines c (behind events entry separators) (behind front (opened_entry g.0) separators) _ _
      (entry_read c line.number line.text g (behind events entry separators) h free)
      (subst (λ es. AreRead lines c (behind front (opened_entry g.0) separators) es (Some separators)) whole later)

  pub read_entries :
      {lines : List NumberedLine} {entries : List SpelledEntry} → SpellsEntries rate lines entries
      → (c : Context) → AreDistinct (entry_numbers (events_of entries))
      → AreRead lines c nothing (events_of entries) (first_separators entries)
  read_entries NoEntries c distinct = record { last = nothing; walked = refl; all_are = refl; separators_are = refl }
  read_entries (RemarkLine line {lines} {entries} h others) c distinct =
      one_more line lines c nothing nothing _ _ (first_remark_read c line.number line.text h.tokens h.cut h.passes)
      (read_entries others c distinct)
  read_entries (FirstEntry line g {lines} {rise} {fall} {entries} h others) c distinct =
      one_more line lines c nothing (behind [] (opened_entry g.0) g.1) _ _
      (entry_read c line.number line.text g nothing h refl)
      (read_behind others c [] (opened_entry g.0) g.1 (is_free rise) (is_free fall) distinct)

  -- The effect of a line on the entry before it.
  data IsFurther (text : List ℕ) (entry : OpenEntry) : OpenEntry → Type 0 where
    Remark : IsLineOf is_remark text → IsFurther text entry entry
    Gain : IsLineOf is_zero_gain text → IsFurther text entry entry
    Rise : (fade : ℕ) → SpellsLine (fade_line rate (codes "Infade")) text fade → entry.has_rise ≡ false
        → IsFurther text entry (with_rise entry fade)
    Fall : (fade : ℕ) → SpellsLine (fade_line rate (codes "Outfade")) text fade → entry.has_fall ≡ false
        → IsFurther text entry (with_fall entry fade)

  -- A fade that wasn't given before and that its line spells.
  record IsFade (name text : List ℕ) (told : Bool) (with : ℕ → OpenEntry) (new : OpenEntry) : Type 0 where
    fade : ℕ
    spells : SpellsLine (fade_line rate name) text fade
    free : told ≡ false
    same : with fade ≡ new

  -- A line with this first token.
  module _ (text rest : List ℕ) (token : TokenText) (untagged : is_tag text ≡ false)
      (at : token_at text ≡ Ok (Some (token, rest))) where
    line_of :
        (tokens : List TokenText) (test : List TokenText → Bool) → CutsTo rest tokens → test (token ∷ tokens) ≡ true
        → IsLineOf test text
    line_of tokens test cut passes = record {
      tokens = token ∷ tokens;
      cut = record { untagged = untagged; cut = cut_next text rest token tokens at cut };
      passes = passes;
    }

    fade_is :
        (name : List ℕ) (told : Bool) (with : ℕ → OpenEntry) (new : OpenEntry) → is_keyword name token ≡ true
        → reads (Unless told RepeatedFade (mapped with (fade_fields rate))) rest ≡ Ok new
        → IsFade name text told with new
    fade_is name told with new is e =
        let free = unless_read told RepeatedFade (mapped with (fade_fields rate)) rest new e in
        let f = ok_map_ok with (reads (fade_fields rate) rest) new
        (sym (reads_mapped with (fade_fields rate) rest) ∙ free.1) in
        record {
          fade = f.value;
          spells = spells_named name (fade_fields rate) text f.value untagged
              (record { keyword = token; rest = rest; at = at; is = is; says = f.is });
          free = free.0;
          same = f.same;
        }

    remark_is :
        {A : Type 0} (x y : A) → is_keyword (codes "Rem") token ≡ true → reads (Done any x) rest ≡ Ok y
        → IsLineOf is_remark text × (x ≡ y)
    remark_is x y is e =
        let f = ends any x y rest e in
        let further = all_tokens_are any (length rest) rest (omega arith) f.0 in
        (line_of further.tokens is_remark further.cut is, f.1)

    gain_is :
        (entry new : OpenEntry) → is_keyword (codes "Gain") token ≡ true
        → reads (Done (λ t. is_zero t.content) entry) rest ≡ Ok new → IsFurther text entry new
    gain_is entry new is e =
        let f = ends (λ t. is_zero t.content) entry new rest e in
        let further = all_tokens_are (λ t. is_zero t.content) (length rest) rest (omega arith) f.0 in
        rw (← f.1) (Gain (line_of further.tokens is_zero_gain further.cut
        (and_both (is_keyword (codes "Gain") token) _ is further.all)))

    entry_with_is :
        (entry new : OpenEntry) → reads (entry_with rate entry token) rest ≡ Ok new → IsFurther text entry new
    unfolding entry_keyword entry_with
    entry_with_is entry new e =
        by_keyword (is_keyword (codes "Infade") token) refl (is_keyword (codes "Outfade") token) refl
        (is_keyword (codes "Rem") token) refl (is_keyword (codes "Gain") token) refl where
          by_keyword :
              (rise : Bool) → is_keyword (codes "Infade") token ≡ rise → (fall : Bool)
              → is_keyword (codes "Outfade") token ≡ fall → (rem : Bool) → is_keyword (codes "Rem") token ≡ rem
              → (gain : Bool) → is_keyword (codes "Gain") token ≡ gain → IsFurther text entry new
          by_keyword true a fall b rem c gain d =
              let f = fade_is (codes "Infade") entry.has_rise (with_rise entry) new a (rw a at e) in
              rw (← f.same) (Rise f.fade f.spells f.free)
          by_keyword false a true b rem c gain d =
              let f = fade_is (codes "Outfade") entry.has_fall (with_fall entry) new b (rw (a, b) at e) in
              rw (← f.same) (Fall f.fade f.spells f.free)
          by_keyword false a false b true c gain d =
              let f = remark_is entry new c (rw (a, b, c) at e) in rw (← f.1) (Remark f.0)
          by_keyword false a false b false c true d = gain_is entry new d (rw (a, b, c, d) at e)
          by_keyword false a false b false c false d = absurd (refused Unsupported rest new (rw (a, b, c, d) at e))

    front_remark_is :
        (rem : Bool) → is_keyword (codes "Rem") token ≡ rem → reads (remark token) rest ≡ Ok tt
        → IsLineOf is_remark text
    unfolding remark
    front_remark_is true is e = (remark_is {A = Unit {0}} tt tt is (rw is at e)).0
    front_remark_is false is e = absurd (refused {A = Unit {0}} Unplaced rest tt (rw is at e))

  blank_is : (text : List ℕ) → is_tag text ≡ false → token_at text ≡ Ok None → IsLineOf is_remark text
  blank_is text untagged at =
      record { tokens = []; cut = record { untagged = untagged; cut = cut_none text at }; passes = refl }

  -- The lines spell their outcome.
  abbrev AreSpelledBehind : List NumberedLine → Context → List Event → OpenEntry → List ℕ → Context → Type 0
  AreSpelledBehind lines c events entry separators next =
      (told : AreTold c events entry separators next) × SpellsBehind rate lines told.rise told.fall told.entries

  with_further :
      (line : NumberedLine) (lines : List NumberedLine) (c : Context) (events : List Event) (entry new : OpenEntry)
      (separators : List ℕ) (next : Context)
      → IsFurther line.text entry new → AreSpelledBehind lines c events new separators next
      → AreSpelledBehind (line ∷ lines) c events entry separators next
  with_further line lines c events entry new separators next (Remark h) (r, spells) = (r, RemarkBehind line h spells)
  with_further line lines c events entry new separators next (Gain h) (r, spells) = (r, GainLine line h spells)
  with_further line lines c events entry new separators next (Rise fade h free) (r, spells) =
      let none = none_told r.rise r.free_rise in (
        with_told entry (with_rise entry fade) r (Some fade) r.fall (free, r.free_fall)
            (ap (λ rise. faded (with_rise entry fade).event rise r.fall) none),
        RiseLine line fade h (subst (λ rise. SpellsBehind rate lines rise r.fall r.entries) none spells),
      )
  with_further line lines c events entry new separators next (Fall fade h free) (r, spells) =
      let none = none_told r.fall r.free_fall in (
        with_told entry (with_fall entry fade) r r.rise (Some fade) (r.free_rise, free)
            (ap (λ fall. faded (with_fall entry fade).event r.rise fall) none),
        FallLine line fade h (subst (λ fall. SpellsBehind rate lines r.rise fall r.entries) none spells),
      )

  with_line_behind :
      (line : NumberedLine) (lines : List NumberedLine) (c : Context) (events : List Event) (entry : OpenEntry)
      (separators : List ℕ) (middle next : Context) → is_tag line.text ≡ false
      → IsEventLine rate (with_entries c (behind events entry separators)) line.text middle
      → ((events : List Event) (entry : OpenEntry) → middle ≡ with_entries c (behind events entry separators)
      → AreSpelledBehind lines c events entry separators next)
      → AreSpelledBehind (line ∷ lines) c events entry separators next
  with_line_behind line lines c events entry separators middle next t (BlankEvent at) others =
      with_further line lines c events entry entry separators next (Remark (blank_is line.text t at))
      (others events entry refl)
  with_line_behind line lines c events entry separators middle next t (FrontRemark token rest at none says) others =
      absurd (cc)
  with_line_behind line lines c events entry separators middle next t (Further last new token rest at is says) others =
      let same : last ≡ entry = cc in
      let f = entry_with_is line.text rest token t at entry new (rw same at says) in
      with_further line lines c events entry new separators next f (others events new refl)
  with_line_behind line lines c events entry separators middle next t (ToldEntry g h free) others =
      let front = events ++ entry.event ∷ [] in
      let told = others front (opened_entry g.0) refl in
      let r = told.0 in (
        record {
          rise = None;
          fall = None;
          entries = with_fades g r.rise r.fall ∷ r.entries;
          free_rise = tt;
          free_fall = tt;
          last = r.last;
          is = r.is;
          all_are =
              r.all_are ∙ append_assoc events (entry.event ∷ [])
              (faded g.0 r.rise r.fall ∷ events_of r.entries);
          separators_are = r.separators_are;
        },
        NextEntry line g (spells_named (codes "Entry") (Then Number (event_fields rate)) line.text g t h) told.1,
      )

  behind_is_read :
      (lines : List NumberedLine) (c : Context) (events : List Event) (entry : OpenEntry) (separators : List ℕ)
      (next : Context)
      → walk rate section.EventList (with_entries c (behind events entry separators)) lines ≡ Ok next
      → AreSpelledBehind lines c events entry separators next
  unfolding in_section
  behind_is_read [] c events entry separators next e = (
    record {
      rise = None;
      fall = None;
      entries = [];
      free_rise = tt;
      free_fall = tt;
      last = behind events entry separators;
      is = sym (ok_same _ _ e);
      all_are = refl;
      separators_are = refl;
    },
    EntriesEnd,
  )
  behind_is_read (line ∷ lines) c events entry separators next e =
      let f = chain
      (in_section rate (with_entries c (behind events entry separators)) line.number line.text section.EventList) _
      next e in
      let l = event_line_is rate (with_entries c (behind events entry separators)) f.value line.number line.text f.is in
      with_line_behind line lines c events entry separators f.value next l.0 l.1
      (λ more new same. behind_is_read lines c more new separators next
      (subst (λ m. walk rate section.EventList m lines ≡ Ok next) same f.others))

  pub record AreSpelledEntries (lines : List NumberedLine) (c next : Context) : Type 0 where
    pub entries : List SpelledEntry
    pub spells : SpellsEntries rate lines entries
    pub last : Entries
    pub is : next ≡ with_entries c last
    pub all_are : all_events last.events last.entry ≡ events_of entries
    pub separators_are : last.separators ≡ first_separators entries

  with_remark :
      (line : NumberedLine) (lines : List NumberedLine) (c next : Context) → IsLineOf is_remark line.text
      → AreSpelledEntries lines c next → AreSpelledEntries (line ∷ lines) c next
  with_remark line lines c next h r = record {
    entries = r.entries;
    spells = RemarkLine line h r.spells;
    last = r.last;
    is = r.is;
    all_are = r.all_are;
    separators_are = r.separators_are;
  }

  with_front_line :
      (line : NumberedLine) (lines : List NumberedLine) (c middle next : Context) → is_tag line.text ≡ false
      → IsEventLine rate (with_entries c nothing) line.text middle → walk rate section.EventList middle lines ≡ Ok next
      → (walk rate section.EventList (with_entries c nothing) lines ≡ Ok next → AreSpelledEntries lines c next)
      → AreSpelledEntries (line ∷ lines) c next
  with_front_line line lines c middle next t (BlankEvent at) e others =
      with_remark line lines c next (blank_is line.text t at) (others e)
  with_front_line line lines c middle next t (FrontRemark token rest at none says) e others =
      with_remark line lines c next
      (front_remark_is line.text rest token t at (is_keyword (codes "Rem") token) refl says) (others e)
  with_front_line line lines c middle next t (Further entry new token rest at is says) e others = absurd (cc)
  with_front_line line lines c middle next t (ToldEntry g h free) e others =
      let told = behind_is_read lines c [] (opened_entry g.0) g.1 next e in
      let r = told.0 in
      record {
        entries = with_fades g r.rise r.fall ∷ r.entries;
        spells = FirstEntry line g
            (spells_named (codes "Entry") (Then Number (event_fields rate)) line.text g t h) told.1;
        last = r.last;
        is = r.is;
        all_are = r.all_are;
        separators_are = r.separators_are;
      }

  pub entries_are_read :
      (lines : List NumberedLine) (c next : Context) → walk rate section.EventList (with_entries c nothing) lines ≡ Ok next
      → AreSpelledEntries lines c next
  unfolding in_section
  entries_are_read [] c next e =
      record {
        entries = [];
        spells = NoEntries;
        last = nothing;
        is = sym (ok_same _ _ e);
        all_are = refl;
        separators_are = refl;
      }
  entries_are_read (line ∷ lines) c next e =
      let f = chain (in_section rate (with_entries c nothing) line.number line.text section.EventList) _ next e in
      let l = event_line_is rate (with_entries c nothing) f.value line.number line.text f.is in
      with_front_line line lines c f.value next l.0 l.1 f.others (entries_are_read lines c next)
