-- The concatenated parts of a report are its text.
use Rattle.std.proofs.Common.{◌≡◌, ◌∙◌, ◌++◌, ◌∷◌, [], Bool, true, false, ℕ, List, ap, append_assoc, map, option_map, refl, sym}
use Rattle.std.specs.Prelude.{codes, decimal}
use Rattle.hex.specs.Hex.{encode_lower}
use Rattle.json.specs.Print.{escape, escape_byte}
use Rattle.serde_json.specs.View.{items_of}
use Rattle.serde_json.specs.Written.{comma_if, compact_text, items_text}
use Rattle.sha2.specs.Sha256.{sha256}
use Rattle.sound_terms.specs.Depth.{bits_of}
use Rattle.renderreport.specs.Parts.{clipped_end, end_text, item_text, listed, listed_behind, opening_text, range_text, report_parts}
use Rattle.renderreport.specs.Report.{Facts, channels_of, count, form, known, report_data, time_of}

-- numbers and the bracket that ends their array
numbers_text : (later : Bool) (ns : List ℕ) → listed_behind later ns ++ 93 ∷ [] ≡ items_text later (items_of (map count ns))
unfolding item_text
numbers_text later [] = refl
numbers_text later (n ∷ ns) =
    simp append_assoc (ap (λ (text : List ℕ). comma_if later ++ (decimal n ++ text)) (numbers_text true ns))

-- grouped by parts
by_parts : (l1 c l2 n l3 f l4 p l5 s l6 r1 d r2 t r3 w r4 u e : List ℕ)
    → (l1 ++ (c ++ l2)) ++ (n ++ ((l3 ++ (f ++ (l4 ++ (p ++ (l5 ++ (s ++ l6)))))) ++ ((r1 ++ (d ++ (r2 ++ (t ++ (r3
    ++ (w ++ (r4 ++ u))))))) ++ e)))
    ≡ l1 ++ (c ++ (l2 ++ (n ++ (l3 ++ (f ++ (l4 ++ (p ++ (l5 ++ (s ++ (l6 ++ (r1 ++ (d ++ (r2 ++ (t ++ (r3 ++ (w ++
    (r4 ++ (u ++ e))))))))))))))))))
by_parts l1 c l2 n l3 f l4 p l5 s l6 r1 d r2 t r3 w r4 u e = simp append_assoc

-- grouped by members, with the closing quotes of strings separate
by_members : (l1 c l2 n z1 l3 f l4 p l5 s l6 r1 d r2 t r3 w r4 u t1 h q t2 m t3 g u1 k u2 v e1 e2 : List ℕ)
    → (l1 ++ (c ++ ((l2 ++ ((n ++ z1) ++ (l3 ++ (f ++ (l4 ++ (p ++ (l5 ++ (s ++ l6)))))))) ++ (r1 ++ (d ++ (r2 ++ (t
    ++ (r3 ++ (w ++ (r4 ++ (u ++ (t1 ++ ((h ++ q) ++ (t2 ++ (m ++ (t3 ++ ((g ++ q) ++ (u1 ++ ((k ++ q) ++ (u2 ++ ((v
    ++ q) ++ e1))))))))))))))))))))) ++ e2
    ≡ l1 ++ (c ++ (l2 ++ (n ++ (z1 ++ (l3 ++ (f ++ (l4 ++ (p ++ (l5 ++ (s ++ (l6 ++ (r1 ++ (d ++ (r2 ++ (t ++ (r3 ++
    (w ++ (r4 ++ (u ++ (t1 ++ (h ++ (q ++ (t2 ++ (m ++ (t3 ++ (g ++ (q ++ (u1 ++ (k ++ (q ++ (u2 ++ (v ++ (q ++ (e1
    ++ e2))))))))))))))))))))))))))))))))))
by_members l1 c l2 n z1 l3 f l4 p l5 s l6 r1 d r2 t r3 w r4 u t1 h q t2 m t3 g u1 k u2 v e1 e2 = simp append_assoc

module _ (facts : Facts) (digest : List ℕ) where
  abbrev first : List ℕ
  first = compact_text (known (option_map (time_of facts) facts.clips.first))

  abbrev listed_channels : List ℕ
  listed_channels = listed (channels_of facts.clips.channels)

  grouped : report_parts facts digest
      ≡ codes "{\"channels\":" ++ (decimal facts.channels ++ (codes ",\"clipped\":{\"channels\":[" ++ (listed_channels
      ++ (codes "],\"first\":" ++ (first ++ (codes ",\"peak\":" ++ (decimal facts.clips.peak ++ (codes
      ",\"samples\":" ++ (decimal facts.clips.samples ++ (codes "}" ++ (codes ",\"depth\":" ++ (decimal (bits_of
      facts.depth) ++ (codes ",\"first\":" ++ (decimal facts.start ++ (codes ",\"form\":" ++ (decimal form ++ (codes
      ",\"frames\":" ++ (decimal facts.frames ++ (codes ",\"given_list_sha256\":\"" ++ ((escape (encode_lower
      (sha256 facts.list))) ++ (codes "\"" ++ (codes ",\"marked\":" ++ ((compact_text (known facts.marked)) ++
      (codes ",\"program\":\"" ++ ((escape facts.program) ++ (codes "\"" ++ (codes ",\"sha256\":\"" ++ ((escape
      (encode_lower digest)) ++ (codes "\"" ++ (codes ",\"version\":\"" ++ ((escape facts.version) ++ (codes "\"" ++
      codes "}\n"))))))))))))))))))))))))))))))))
  unfolding clipped_end end_text opening_text range_text report_parts
  grouped = by_parts (codes "{\"channels\":") (decimal facts.channels) (codes ",\"clipped\":{\"channels\":[")
      listed_channels (codes "],\"first\":") first (codes ",\"peak\":") (decimal facts.clips.peak) (codes
      ",\"samples\":") (decimal facts.clips.samples) (codes "}") (codes ",\"depth\":") (decimal (bits_of
      facts.depth)) (codes ",\"first\":") (decimal facts.start) (codes ",\"form\":") (decimal form) (codes
      ",\"frames\":") (decimal facts.frames) (end_text facts digest)

  -- the report with these items in the array
  abbrev with_items : List ℕ → List ℕ
  with_items items =
      (codes "{\"channels\":" ++ (decimal facts.channels ++ ((codes ",\"clipped\":{\"channels\":[" ++ (items ++
      (codes ",\"first\":" ++ (first ++ (codes ",\"peak\":" ++ (decimal facts.clips.peak ++ (codes ",\"samples\":"
      ++ (decimal facts.clips.samples ++ codes "}")))))))) ++ (codes ",\"depth\":" ++ (decimal (bits_of facts.depth)
      ++ (codes ",\"first\":" ++ (decimal facts.start ++ (codes ",\"form\":" ++ (decimal form ++ (codes
      ",\"frames\":" ++ (decimal facts.frames ++ (codes ",\"given_list_sha256\":\"" ++ ((escape (encode_lower
      (sha256 facts.list)) ++ 34 ∷ []) ++ (codes ",\"marked\":" ++ (compact_text (known facts.marked) ++ (codes
      ",\"program\":\"" ++ ((escape facts.program ++ 34 ∷ []) ++ (codes ",\"sha256\":\"" ++ ((escape (encode_lower
      digest) ++ 34 ∷ []) ++ (codes ",\"version\":\"" ++ ((escape facts.version ++ 34 ∷ []) ++ codes
      "}"))))))))))))))))))))) ++ 10 ∷ []

  numbered : with_items (listed_channels ++ 93 ∷ []) ≡ compact_text (report_data facts digest) ++ 10 ∷ []
  unfolding escape_byte
  numbered = ap with_items (numbers_text false (channels_of facts.clips.channels))

  pub whole : report_parts facts digest ≡ compact_text (report_data facts digest) ++ 10 ∷ []
  whole =
      grouped
      ∙ sym (by_members (codes "{\"channels\":") (decimal facts.channels) (codes ",\"clipped\":{\"channels\":[")
      listed_channels (93 ∷ []) (codes ",\"first\":") first (codes ",\"peak\":") (decimal facts.clips.peak) (codes
      ",\"samples\":") (decimal facts.clips.samples) (codes "}") (codes ",\"depth\":") (decimal (bits_of
      facts.depth)) (codes ",\"first\":") (decimal facts.start) (codes ",\"form\":") (decimal form) (codes
      ",\"frames\":") (decimal facts.frames) (codes ",\"given_list_sha256\":\"") (escape (encode_lower (sha256
      facts.list))) (codes "\"") (codes ",\"marked\":") (compact_text (known facts.marked)) (codes
      ",\"program\":\"") (escape facts.program) (codes ",\"sha256\":\"") (escape (encode_lower digest)) (codes
      ",\"version\":\"") (escape facts.version) (codes "}") (10 ∷ []))
      ∙ numbered
