-- The printed parts are the texts of the values.
use Rattle.std.proofs.Common.{◌≡◌, ◌∙◌, ◌+◌, ◌<◌, ◌++◌, ◌∷◌, [], ◌||◌, Bool, true, false, List, None, Option, ℕ, zero, suc, add-one, ap, arith, append_assoc, get_or, if◌then◌else◌, length, map, refl, sym, take}
use Rattle.std.proofs.lemmas.List.{append-nil, map-append, take_more}
use Rattle.std.specs.Prelude.{codes, decimal}
use Rattle.std.specs.List.{list_any}
use Rattle.json.specs.Print.{escape_byte, quoted}
use Rattle.serde_json.specs.Data.{Data, boolean, null}
use Rattle.serde_json.specs.View.{items_of}
use Rattle.serde_json.specs.Written.{comma_if}
use Rattle.checkreport.specs.Printed.{printed_items, printed_members, printed_string, printed_text}
use Rattle.sound_terms.specs.declared.BoundIndex.{BoundIndex}
use Rattle.sound_terms.specs.Depth.{bits_of}
use Rattle.sound_terms.specs.Sounds.{SoundFacts}
use Rattle.list_terms.specs.declared.Notice.{Notice}
use Rattle.opening.specs.declared.fault.Fault.{Fault}
use Rattle.console.specs.Lines.{counted}
use Rattle.checkreport.specs.Explained.{members_of, value_data}
use Rattle.checkreport.specs.Parts.{after_commas, beside_text, fault_text, index_text, listed, member_text, notice_text, passed_text, refused_end, refused_front, room_text}
use Rattle.report_terms.specs.Report.{count, form, notice_data}
use Rattle.checkreport.specs.Report.{Beside, ExplainedFault, accepted_of, count_in, explained_fault, fault_of, faults_of, index_data, index_of_file, is_of_index, kind_at, kinds_of, passed_data, refused_data, refused_of, room_data, text_in}
use Rattle.checkreport.specs.declared.explained.Member.{Member}
use Rattle.checkreport.specs.declared.explained.PassedLine.{PassedLine}
use Rattle.checkreport.specs.declared.explained.Room.{Room}

pub empty : {X : Type 0} (xs : List X) → length xs ≡ 0 → xs ≡ []
empty [] none = refl
empty (x ∷ xs) none = absurd (omega (arith, none))

-- values after commas, and the end of the array
further : {X : Type 0} (told : X → Data) (xs : List X)
    → after_commas (λ x. printed_text (told x)) xs ++ 93 ∷ [] ≡ printed_items true (items_of (map told xs))
further told [] = refl
further told (x ∷ xs) =
    ap (λ (text : List ℕ). 44 ∷ text)
    (append_assoc (printed_text (told x)) (after_commas (λ x. printed_text (told x)) xs) (93 ∷ [])
    ∙ ap (λ (text : List ℕ). printed_text (told x) ++ text) (further told xs))

-- an array from its first element on
array_of : {X : Type 0} (told : X → Data) (x : X) (xs : List X)
    → printed_text (told x) ++ (after_commas (λ x. printed_text (told x)) xs ++ 93 ∷ [])
    ≡ printed_items false (items_of (map told (x ∷ xs)))
array_of told x xs = ap (λ (text : List ℕ). printed_text (told x) ++ text) (further told xs)

pub notices_text : (notice : Notice) (notices : List Notice)
    → notice_text notice ++ (after_commas notice_text notices ++ 93 ∷ [])
    ≡ printed_items false (items_of (map notice_data (notice ∷ notices)))
unfolding notice_text
notices_text = array_of notice_data

pub indexes_text : (sounds : List SoundFacts) (notices : List Notice) (index : BoundIndex) (indexes : List BoundIndex)
    → index_text sounds notices index ++ (after_commas (index_text sounds notices) indexes ++ 93 ∷ [])
    ≡ printed_items false (items_of (map (index_data sounds notices) (index ∷ indexes)))
unfolding index_text
indexes_text sounds notices = array_of (index_data sounds notices)

-- two lists of values after commas, concatenated
pub after_both : {X : Type 0} (text : X → List ℕ) (xs ys : List X)
    → after_commas text xs ++ after_commas text ys ≡ after_commas text (xs ++ ys)
after_both text [] ys = refl
after_both text (x ∷ xs) ys =
    append_assoc (44 ∷ text x) (after_commas text xs) (after_commas text ys)
    ∙ ap (λ (rest : List ℕ). 44 ∷ (text x ++ rest)) (after_both text xs ys)

pub both_text : (notice : Notice) (notices others : List Notice)
    → notice_text notice ++ (after_commas notice_text notices ++ (after_commas notice_text others ++ 93 ∷ []))
    ≡ printed_items false (items_of (map notice_data ((notice ∷ notices) ++ others)))
both_text notice notices others =
    ap (λ (text : List ℕ). notice_text notice ++ text)
    (sym (append_assoc (after_commas notice_text notices) (after_commas notice_text others) (93 ∷ []))
    ∙ ap (λ (text : List ℕ). text ++ 93 ∷ []) (after_both notice_text notices others))
    ∙ notices_text notice (notices ++ others)

-- values separated by commas, and the end of the array
listed_text : (later : Bool) (values : List Data) → listed later values ++ 93 ∷ [] ≡ printed_items later (items_of values)
listed_text later [] = refl
listed_text later (value ∷ values) =
    append_assoc (comma_if later) (printed_text value ++ listed true values) (93 ∷ [])
    ∙ ap (λ (text : List ℕ). comma_if later ++ text)
    (append_assoc (printed_text value) (listed true values) (93 ∷ [])
    ∙ ap (λ (text : List ℕ). printed_text value ++ text) (listed_text true values))

-- the parts of an index
pub index_parts : (notices : List Notice) (index : BoundIndex) (facts : SoundFacts)
    → counted (codes "{\"base\":") index.base ++ (counted (codes ",\"channels\":") facts.channels
    ++ (counted (codes ",\"depth\":") (bits_of facts.depth) ++ (codes ",\"file\":" ++ (printed_string facts.name
    ++ (counted (codes ",\"frames\":") facts.frames ++ (counted (codes ",\"index\":") index.number
    ++ (codes ",\"notices\":[" ++ (listed false (kinds_of index.number notices) ++ codes "]}"))))))))
    ≡ printed_text (index_of_file notices index facts)
unfolding escape_byte
index_parts notices index facts =
    let kinds = kinds_of index.number notices in
    let text : listed false kinds ++ codes "]}" ≡ printed_items false (items_of kinds) ++ 125 ∷ [] =
    sym (append_assoc (listed false kinds) (93 ∷ []) (125 ∷ []))
    ∙ ap (λ (text : List ℕ). text ++ 125 ∷ []) (listed_text false kinds) in
    ap (λ (text : List ℕ). counted (codes "{\"base\":") index.base ++ (counted (codes ",\"channels\":") facts.channels
    ++ (counted (codes ",\"depth\":") (bits_of facts.depth) ++ (codes ",\"file\":" ++ (printed_string facts.name
    ++ (counted (codes ",\"frames\":") facts.frames ++ (counted (codes ",\"index\":") index.number
    ++ (codes ",\"notices\":[" ++ text)))))))) text

-- the parts of the maximum size of the outputs
pub room_parts : (room : Room)
    → (codes "{\"media\":" ++ printed_text (count_in room.media))
    ++ ((codes ",\"rendering\":" ++ printed_text (count_in room.rendering)) ++ codes "}") ≡ room_text room
unfolding escape_byte room_text
room_parts room = refl

-- the parts of the report of an accepted list
pub accepted_parts : (rate entries : ℕ) (indexes notices : List Data) (beside : Beside)
    → counted (codes "{\"accepted\":true,\"entry_count\":") entries ++ (counted (codes ",\"form\":") form
    ++ (codes ",\"indexes\":["
    ++ (printed_items false (items_of indexes) ++ (beside_text beside ++ (codes ",\"notices\":["
    ++ (printed_items false (items_of notices) ++ (counted (codes ",\"rate\":") rate ++ codes "}")))))))
    ≡ printed_text (accepted_of rate entries indexes (text_in beside.media_error) (room_data beside.room)
    (map passed_data beside.passed) notices)
unfolding escape_byte beside_text room_text
accepted_parts rate entries indexes notices beside =
    let end = codes ",\"notices\":["
    ++ (printed_items false (items_of notices) ++ (counted (codes ",\"rate\":") rate ++ codes "}")) in
    let passed = printed_items false (items_of (map passed_data beside.passed)) in
    let media = printed_text (text_in beside.media_error) in
    let room = printed_text (room_data beside.room) in
    ap (λ (text : List ℕ). counted (codes "{\"accepted\":true,\"entry_count\":") entries
    ++ (counted (codes ",\"form\":") form ++ (codes ",\"indexes\":["
    ++ (printed_items false (items_of indexes) ++ (codes ",\"media_error\":" ++ text)))))
    (append_assoc media (codes ",\"most_bytes\":" ++ (room ++ (codes ",\"not_honoured\":[" ++ passed))) end
    ∙ ap (λ (text : List ℕ). media ++ (codes ",\"most_bytes\":" ++ text))
    (append_assoc room (codes ",\"not_honoured\":[" ++ passed) end))

-- an array of the lines that aren't fully honoured
pub passed_text_of : (passed : PassedLine) (more : List PassedLine)
    → passed_text passed ++ (after_commas passed_text more ++ 93 ∷ [])
    ≡ printed_items false (items_of (map passed_data (passed ∷ more)))
unfolding passed_text
passed_text_of = array_of passed_data

pub one_more_passed : (lines : List PassedLine) (passed : PassedLine)
    → after_commas passed_text lines ++ 44 ∷ passed_text passed ≡ after_commas passed_text (lines ++ passed ∷ [])
one_more_passed [] passed = sym (append-nil (44 ∷ passed_text passed))
one_more_passed (first ∷ lines) passed =
    append_assoc (44 ∷ passed_text first) (after_commas passed_text lines) (44 ∷ passed_text passed)
    ∙ ap (λ (text : List ℕ). 44 ∷ (passed_text first ++ text)) (one_more_passed lines passed)

kind_more : (is later any : Bool) (kind : ℕ) (rest whole last : List Data)
    → ((later : Bool) → listed later rest ++ listed (later || any) last ≡ listed later whole)
    → listed later ((if is then count kind ∷ [] else []) ++ rest) ++ listed (later || (is || any)) last
    ≡ listed later ((if is then count kind ∷ [] else []) ++ whole)
kind_more false later any kind rest whole last more = more later
kind_more true false any kind rest whole last more =
    append_assoc (decimal kind) (listed true rest) (listed true last)
    ∙ ap (λ (text : List ℕ). decimal kind ++ text) (more true)
kind_more true true any kind rest whole last more =
    ap (λ (text : List ℕ). 44 ∷ text) (append_assoc (decimal kind) (listed true rest) (listed true last)
    ∙ ap (λ (text : List ℕ). decimal kind ++ text) (more true))

or_false : (later : Bool) → (later || false) ≡ later
or_false true = refl
or_false false = refl

-- one more notice of an index
kinds_more : (index k : ℕ) (notices : List Notice) (d : Notice) → k < length notices → (later : Bool)
    → listed later (kinds_of index (take k notices))
    ++ listed (later || list_any (is_of_index index) (take k notices)) (kind_at index (get_or notices k d))
    ≡ listed later (kinds_of index (take (suc k) notices))
kinds_more index k [] d below later = absurd (omega arith)
kinds_more index zero (notice ∷ notices) d below later =
    ap (λ (later : Bool). listed later (kind_at index notice)) (or_false later)
    ∙ ap (listed later) (sym (append-nil (kind_at index notice)))
kinds_more index (suc k) (notice ∷ notices) d below later =
    kind_more (is_of_index index notice) later (list_any (is_of_index index) (take k notices)) notice.kind
    (kinds_of index (take k notices)) (kinds_of index (take (suc k) notices)) (kind_at index (get_or notices k d))
    (kinds_more index k notices d (omega arith))

pub kinds_step : (index k : ℕ) (notices : List Notice) (d : Notice) → k < length notices
    → listed false (kinds_of index (take k notices))
    ++ listed (list_any (is_of_index index) (take k notices)) (kind_at index (get_or notices k d))
    ≡ listed false (kinds_of index (take (k + 1) notices))
kinds_step index k notices d below =
    kinds_more index k notices d below false
    ∙ ap (λ (n : ℕ). listed false (kinds_of index (take n notices))) (sym (add-one k))

pub any_step : (index k : ℕ) (notices : List Notice) (d : Notice) → k < length notices
    → (list_any (is_of_index index) (take k notices) || is_of_index index (get_or notices k d))
    ≡ list_any (is_of_index index) (take (k + 1) notices)
any_step index k notices d below =
    any_more index k notices below ∙ ap (λ (n : ℕ). list_any (is_of_index index) (take n notices)) (sym (add-one k)) where
      or_more : (a b c : Bool) → ((a || b) || c) ≡ (a || (b || c))
      or_more true b c = refl
      or_more false b c = refl

      any_more : (index k : ℕ) (notices : List Notice) → k < length notices
          → (list_any (is_of_index index) (take k notices) || is_of_index index (get_or notices k d))
          ≡ list_any (is_of_index index) (take (suc k) notices)
      any_more index k [] below = absurd (omega arith)
      any_more index zero (notice ∷ notices) below = sym (or_false (is_of_index index notice))
      any_more index (suc k) (notice ∷ notices) below =
          or_more (is_of_index index notice) (list_any (is_of_index index) (take k notices)) _
          ∙ ap (λ (any : Bool). is_of_index index notice || any) (any_more index k notices (omega arith))

-- the parts of a fault
pub fault_parts : (entry : Option ℕ) (explained file : Data) (index line : Option ℕ) (refusal : ℕ)
    → (codes "{\"entry\":" ++ printed_text (count_in entry)) ++ (codes ",\"explained\":" ++ (printed_text explained
    ++ (codes ",\"file\":" ++ (printed_text file
    ++ ((codes ",\"index\":" ++ printed_text (count_in index)) ++ ((codes ",\"line\":" ++ printed_text (count_in line))
    ++ (counted (codes ",\"refused\":") refusal ++ codes "}")))))))
    ≡ printed_text (fault_of entry explained file index line refusal)
unfolding escape_byte
fault_parts entry explained file index line refusal = refl

-- members after commas, and the end of the object
members_further : (members : List Member)
    → after_commas member_text members ++ 125 ∷ [] ≡ printed_members true (members_of members)
unfolding member_text
members_further [] = refl
members_further (one ∷ more) =
    ap (λ (text : List ℕ). 44 ∷ text)
    (append_assoc (quoted one.name.now ++ 58 ∷ printed_text (value_data one.value)) (after_commas member_text more)
    (125 ∷ [])
    ∙ append_assoc (quoted one.name.now) (58 ∷ printed_text (value_data one.value))
    (after_commas member_text more ++ 125 ∷ [])
    ∙ ap (λ (text : List ℕ). quoted one.name.now ++ 58 ∷ (printed_text (value_data one.value) ++ text))
    (members_further more))

-- an object from its first member on
pub members_text_of : (one : Member) (more : List Member)
    → member_text one ++ (after_commas member_text more ++ 125 ∷ []) ≡ printed_members false (members_of (one ∷ more))
unfolding member_text
members_text_of one more =
    append_assoc (quoted one.name.now) (58 ∷ printed_text (value_data one.value))
    (after_commas member_text more ++ 125 ∷ [])
    ∙ ap (λ (text : List ℕ). quoted one.name.now ++ 58 ∷ (printed_text (value_data one.value) ++ text))
    (members_further more)

-- the start of a refused report with its first fault, and a further fault
pub front_first : (first : ExplainedFault) (value : Data) → value ≡ explained_fault first
    → codes "{\"accepted\":false,\"faults\":[" ++ printed_text value ≡ refused_front first []
unfolding refused_front fault_text
front_first first value same =
    ap (λ (text : List ℕ). codes "{\"accepted\":false,\"faults\":[" ++ text)
    (ap printed_text same ∙ sym (append-nil (printed_text (explained_fault first))))

pub next_text : (fault : ExplainedFault) (value : Data) → value ≡ explained_fault fault
    → 44 ∷ printed_text value ≡ 44 ∷ fault_text fault
unfolding fault_text
next_text fault value same = ap (λ (value : Data). 44 ∷ printed_text value) same

pub one_more : (faults : List ExplainedFault) (fault : ExplainedFault)
    → after_commas fault_text faults ++ 44 ∷ fault_text fault ≡ after_commas fault_text (faults ++ fault ∷ [])
one_more [] fault = sym (append-nil (44 ∷ fault_text fault))
one_more (first ∷ faults) fault =
    append_assoc (44 ∷ fault_text first) (after_commas fault_text faults) (44 ∷ fault_text fault)
    ∙ ap (λ (text : List ℕ). 44 ∷ (fault_text first ++ text)) (one_more faults fault)

joined : (first more items end : List ℕ) → more ++ 93 ∷ [] ≡ items
    → (first ++ []) ++ (more ++ 93 ∷ end) ≡ (first ++ items) ++ end
joined first more items end is =
    ap (λ (text : List ℕ). text ++ (more ++ 93 ∷ end)) (append-nil first)
    ∙ ap (λ (text : List ℕ). first ++ text) (sym (append_assoc more (93 ∷ []) end)
    ∙ ap (λ (text : List ℕ). text ++ end) is) ∙ sym (append_assoc first items end)

-- the parts of the report of a refused list
pub refused_text : (first : ExplainedFault) (faults : List ExplainedFault) (media_error : Option (List ℕ))
    (are_all : Bool)
    → refused_front first [] ++ (after_commas fault_text faults ++ refused_end media_error are_all)
    ≡ printed_text (refused_data first faults media_error are_all)
unfolding refused_front refused_end fault_text escape_byte
refused_text first faults media_error are_all =
    ap (λ (text : List ℕ). codes "{\"accepted\":false,\"faults\":[" ++ text)
    (joined (printed_text (explained_fault first)) (after_commas fault_text faults)
    (printed_items true (items_of (map explained_fault faults)))
    (counted (codes ",\"form\":") form ++ (codes ",\"media_error\":" ++ (printed_text (text_in media_error)
    ++ (codes ",\"complete\":" ++ (printed_text (boolean are_all) ++ codes "}")))))
    (further explained_fault faults))

-- the parts of the report of a list that can't be read
pub unread_text : (fault : Data)
    → codes "{\"accepted\":false,\"faults\":[" ++ (printed_text fault ++ refused_end None false)
    ≡ printed_text (refused_of (fault ∷ []) null false)
unfolding refused_end escape_byte
unread_text fault =
    ap (λ (text : List ℕ). codes "{\"accepted\":false,\"faults\":[" ++ text)
    (sym (append_assoc (printed_text fault) (93 ∷ []) (counted (codes ",\"form\":") form ++ (codes ",\"media_error\":"
    ++ (codes "null" ++ (codes ",\"complete\":" ++ (codes "false" ++ codes "}")))))))

-- one more reported fault
pub faults_step : (reported : List ExplainedFault) (one : ExplainedFault) (k : ℕ) (faults : List Fault) (d : Fault)
    → k < length faults → faults_of reported ≡ take k faults → one.fault ≡ get_or faults k d
    → faults_of (reported ++ one ∷ []) ≡ take (k + 1) faults
faults_step reported one k faults d below so_far is =
    map-append (λ (each : ExplainedFault). each.fault) reported (one ∷ [])
    ∙ ap (λ (front : List Fault). front ++ one.fault ∷ []) so_far
    ∙ ap (λ (last : Fault). take k faults ++ last ∷ []) is ∙ sym (take_more faults k d below)
