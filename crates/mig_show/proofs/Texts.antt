-- The text of a tree from the texts of its parts.
use Rattle.mig_show.proofs.Common.{arith, length, take, ◌≡◌, ℕ, ◌+◌, Bool, true, false, List, [], ◌∷◌, ◌++◌, map, codes, Option, refl, sym, ap, ◌∙◌, append_assoc, append-nil, Data, boolean, items_of, compact_text, Cause, Place, Kind, records_text, record_tree, kind_tree, refused_tree, version_tree, shown_tree, Seen1, zero, suc, get_or, nat_lt, ◌<◌, lt-ltb, take_more, comma_if, items_text}
use Rattle.serde_json.proofs.OnLiterals.{serde_json_on_literals}

-- one record more
later_more : (list : List Seen1) (shown : Seen1) → records_text true (list ++ shown ∷ []) ≡ records_text true list ++ (comma_if true ++ compact_text (record_tree shown))
later_more [] shown = ap (λ l. comma_if true ++ l) (append-nil (compact_text (record_tree shown)))
later_more (first ∷ list) shown =
    ap (λ l. comma_if true ++ (compact_text (record_tree first) ++ l)) (later_more list shown)
    ∙ sym (append_assoc (comma_if true) (compact_text (record_tree first) ++ records_text true list) (comma_if true ++ compact_text (record_tree shown))
    ∙ ap (λ l. comma_if true ++ l) (append_assoc (compact_text (record_tree first)) (records_text true list) (comma_if true ++ compact_text (record_tree shown))))

-- whether others stand before it
abbrev pub has_some : List Seen1 → Bool
has_some [] = false
has_some (first ∷ list) = true

pub text_more : (list : List Seen1) (shown : Seen1) → records_text false (list ++ shown ∷ []) ≡ records_text false list ++ (comma_if (has_some list) ++ compact_text (record_tree shown))
text_more [] shown = append-nil (compact_text (record_tree shown))
text_more (first ∷ list) shown =
    ap (λ l. compact_text (record_tree first) ++ l) (later_more list shown)
    ∙ sym (append_assoc (compact_text (record_tree first)) (records_text true list) (comma_if true ++ compact_text (record_tree shown)))

-- and the closing bracket behind all
items_are : (later : Bool) (list : List Seen1) → items_text later (items_of (map record_tree list)) ≡ records_text later list ++ codes "]"
items_are later [] = refl
items_are later (first ∷ list) =
    ap (λ l. comma_if later ++ (compact_text (record_tree first) ++ l)) (items_are true list)
    ∙ sym (append_assoc (comma_if later) (compact_text (record_tree first) ++ records_text true list) (codes "]")
    ∙ ap (λ l. comma_if later ++ l) (append_assoc (compact_text (record_tree first)) (records_text true list) (codes "]")))

-- pieces that were put one after another
joined : (a k b r c f d v e w z : List ℕ) → ((((((((((a ++ k) ++ b) ++ r) ++ c) ++ f) ++ d) ++ v) ++ e) ++ w) ++ z) ≡ (a ++ (k ++ (b ++ (r ++ (c ++ (f ++ (d ++ (v ++ (e ++ (w ++ z))))))))))
joined a k b r c f d v e w z =
    append_assoc ((((((((a ++ k) ++ b) ++ r) ++ c) ++ f) ++ d) ++ v) ++ e) w z
    ∙ append_assoc (((((((a ++ k) ++ b) ++ r) ++ c) ++ f) ++ d) ++ v) e (w ++ z)
    ∙ append_assoc ((((((a ++ k) ++ b) ++ r) ++ c) ++ f) ++ d) v (e ++ (w ++ z))
    ∙ append_assoc (((((a ++ k) ++ b) ++ r) ++ c) ++ f) d (v ++ (e ++ (w ++ z)))
    ∙ append_assoc ((((a ++ k) ++ b) ++ r) ++ c) f (d ++ (v ++ (e ++ (w ++ z))))
    ∙ append_assoc (((a ++ k) ++ b) ++ r) c (f ++ (d ++ (v ++ (e ++ (w ++ z)))))
    ∙ append_assoc ((a ++ k) ++ b) r (c ++ (f ++ (d ++ (v ++ (e ++ (w ++ z))))))
    ∙ append_assoc (a ++ k) b (r ++ (c ++ (f ++ (d ++ (v ++ (e ++ (w ++ z)))))))
    ∙ append_assoc a k (b ++ (r ++ (c ++ (f ++ (d ++ (v ++ (e ++ (w ++ z))))))))

module _ (wrapper : Bool) (version : Option ℕ) (kind : Option Kind) (list : List Seen1) (refused : Option (Place × Cause)) where
  -- behind the records
  abbrev rest : List ℕ
  rest = codes ",\"refused\":" ++ (compact_text (refused_tree refused) ++ (codes ",\"version\":" ++ (compact_text (version_tree version) ++ (codes ",\"wrapper\":" ++ (compact_text (boolean wrapper) ++ codes "}")))))

  abbrev with_items : List ℕ → List ℕ
  with_items items = codes "{\"kind\":" ++ (compact_text (kind_tree kind) ++ (codes ",\"records\":[" ++ items))

  text_is : compact_text (shown_tree wrapper version kind list refused) ≡ with_items (items_text false (items_of (map record_tree list)) ++ rest)
  unfolding serde_json_on_literals
  text_is = refl

  -- the pieces in their order
  pub pieces : (line : List ℕ) → line ≡ ((((((((((codes "{\"kind\":" ++ compact_text (kind_tree kind)) ++ codes ",\"records\":[") ++ records_text false list) ++ codes "],\"refused\":") ++ compact_text (refused_tree refused)) ++ codes ",\"version\":") ++ compact_text (version_tree version)) ++ codes ",\"wrapper\":") ++ compact_text (boolean wrapper)) ++ codes "}")
      → line ≡ compact_text (shown_tree wrapper version kind list refused)
  pieces line is =
      is
      ∙ joined (codes "{\"kind\":") (compact_text (kind_tree kind)) (codes ",\"records\":[") (records_text false list) (codes "],\"refused\":") (compact_text (refused_tree refused)) (codes ",\"version\":") (compact_text (version_tree version)) (codes ",\"wrapper\":") (compact_text (boolean wrapper)) (codes "}")
      ∙ sym (text_is ∙ ap (λ l. with_items (l ++ rest)) (items_are false list) ∙ ap with_items (append_assoc (records_text false list) (codes "]") rest))

-- ---- a line that grows

pub text_on : (old new prior piece : List ℕ) → new ≡ old ++ piece → old ≡ prior → new ≡ prior ++ piece
text_on old new prior piece is was = is ∙ ap (λ l. l ++ piece) was

pub value_on : (old new prior : List ℕ) (d e : Data) → new ≡ old ++ compact_text d → old ≡ prior → d ≡ e → new ≡ prior ++ compact_text e
value_on old new prior d e is was same = is ∙ ap (λ l. l ++ compact_text d) was ∙ ap (λ (x : Data). prior ++ compact_text x) same

-- a record more of a list
has_some_taken : (list : List Seen1) (place : ℕ) → place < length list → has_some (take place list) ≡ nat_lt 0 place
has_some_taken [] place less = absurd (omega (arith, less))
has_some_taken (first ∷ list) zero less = refl
has_some_taken (first ∷ list) (suc place) less = sym (lt-ltb 0 (suc place) (omega arith))

pub record_on : (list : List Seen1) (place : ℕ) (d : Seen1) (start old new : List ℕ) → place < length list → old ≡ start ++ records_text false (take place list) → new ≡ old ++ (comma_if (nat_lt 0 place) ++ compact_text (record_tree (get_or list place d))) → new ≡ start ++ records_text false (take (place + 1) list)
record_on list place d start old new less was now =
    let shown = get_or list place d in
    now
    ∙ ap (λ l. l ++ (comma_if (nat_lt 0 place) ++ compact_text (record_tree shown))) was
    ∙ append_assoc start (records_text false (take place list)) (comma_if (nat_lt 0 place) ++ compact_text (record_tree shown))
    ∙ ap (λ b. start ++ (records_text false (take place list) ++ (comma_if b ++ compact_text (record_tree shown)))) (sym (has_some_taken list place less))
    ∙ ap (λ l. start ++ l) (sym (ap (records_text false) (take_more list place d less) ∙ text_more (take place list) shown))
