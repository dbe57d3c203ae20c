-- The bodies without fault are those that are spelled so: a lemma for each shape.
use Rattle.mig_records.proofs.Common.{◌≡◌, ℕ, ◌+◌, ◌≤◌, Bool, true, List, [], ◌∷◌, length, take, drop, nat_lt, Option, Some, None, Result, Ok, Err, refl, sym, ap, ◌∙◌, arith, length-append, length-drop, length-take-le, take-append-drop, ltb-false, le-ltb, take_at, little_number, Cause, BadLength, first_fault, both_none, neither_some, rows_fine, no_fault, PartCode, code_number, Part, Shape, Table, Single, Named, Chain, Other, fault_of_key, shape_of, sole_key, named_parts, IsSingle, IsNamed, IsChain, IsShaped, IsRow, fault_of_content, fault_of_scan, cut, fault_by_shape, parts_by_shape, has_shape, BodiesAreSpelled, BodiesSayOne, option_or, scan, cut_at, contexts_are_spelled}
use Rattle.std.specs.Prelude.{◌↔◌}
use Rattle.mig_headers.specs.declared.fault.ContextFault.{ContextFault}
use Rattle.mig_records.proofs.TableSpelled.{Cut, cut_of, behind_value, first_number, second_number, size_is, length_is, length_passes, table_forth, table_back}
use Rattle.mig_records.proofs.Rows.{all_rows}

module _ (code : PartCode) (body : List ℕ) (ps : List Part) where
  -- ---- single values

  single_forth : (len ignored : ℕ) → fault_by_shape (Single len ignored) code body ≡ None → parts_by_shape (Single len ignored) code body ≡ ps → IsSingle code len ignored body ps
  single_forth len ignored fine is =
      let size = length_is (length body) (len + ignored) fine in
      record {
        bytes = take len body;
        behind = drop len body;
        whole = sym (take-append-drop len body);
        bytes_len = length-take-le len body (omega (arith, size));
        behind_len = length-drop len body ∙ omega (arith, size);
        says = sym is;
      }

  single_back : (len ignored : ℕ) → IsSingle code len ignored body ps → (fault_by_shape (Single len ignored) code body ≡ None) × (parts_by_shape (Single len ignored) code body ≡ ps)
  single_back len ignored h =
      let size : length body ≡ len + ignored = ap length h.whole ∙ omega (arith, length-append h.bytes h.behind, h.bytes_len, h.behind_len) in
      let front : take len body ≡ h.bytes = ap (take len) h.whole ∙ take_at h.bytes h.behind len h.bytes_len in
      (length_passes (length body) (len + ignored) size, ap (λ (v : List ℕ). (sole_key code, v) ∷ []) front ∙ sym h.says)

  -- ---- named parts

  module _ (second ignored : ℕ) (skips : Bool) where
    abbrev short_fault : Option Cause
    short_fault = first_fault ((nat_lt (length body) (4 + second + ignored), BadLength (length body)) ∷ [])

    named_forth : fault_by_shape (Named second ignored skips) code body ≡ None → parts_by_shape (Named second ignored skips) code body ≡ ps → IsNamed code second ignored skips body ps
    named_forth fine is =
        let content = fault_of_content code (drop (4 + second + ignored) body) in
        let key = fault_of_key code (little_number 4 body) (little_number second (drop 4 body)) in
        let both = both_none short_fault (option_or key content) fine in
        let named = both_none key content both.1 in
        let long = ltb-false (length body) (4 + second + ignored) (rows_fine ((nat_lt (length body) (4 + second + ignored), BadLength (length body)) ∷ []) both.0).0 in
        let c = cut_of 4 second ignored body long in let n1 = first_number c in let n2 = second_number c in
        record {
          name1 = take 4 body;
          name2 = take second (drop 4 body);
          gap = take ignored (drop (4 + second) body);
          bytes = drop (4 + second + ignored) body;
          whole = c.whole;
          name1_len = c.first_len;
          name2_len = c.second_len;
          gap_len = c.value_len;
          named = (λ j. fault_of_key code (sym n1 j) (sym n2 j)) ∙ named.0;
          fine = named.1;
          says = sym is ∙ (λ j. named_parts skips (record { code = code_number code; key1 = n1 j; key2 = n2 j }) (drop (4 + second + ignored) body));
        }

    pub named_cut : (h : IsNamed code second ignored skips body ps) → Cut 4 second ignored body h.name1 h.name2 h.gap h.bytes
    named_cut h = record { whole = h.whole; first_len = h.name1_len; second_len = h.name2_len; value_len = h.gap_len }

    named_back : IsNamed code second ignored skips body ps → (fault_by_shape (Named second ignored skips) code body ≡ None) × (parts_by_shape (Named second ignored skips) code body ≡ ps)
    named_back h =
        let c = named_cut h in let n1 = first_number c in let n2 = second_number c in let rest = behind_value c in
        let long : 4 + second + ignored ≤ length body = omega (arith, size_is c) in (
          neither_some _ _ (no_fault ((nat_lt (length body) (4 + second + ignored), BadLength (length body)) ∷ []) (le-ltb (length body) (4 + second + ignored) long, tt))
              (neither_some _ _ ((λ j. fault_of_key code (n1 j) (n2 j)) ∙ h.named) (ap (fault_of_content code) rest ∙ h.fine)),
          (λ j. named_parts skips (record { code = code_number code; key1 = n1 j; key2 = n2 j }) (rest j)) ∙ sym h.says,
        )

  -- ---- the chain

  pub scanned_chain : (end : ℕ) → scan body ≡ Ok end → ps ≡ (sole_key code, cut_at body end) ∷ [] → IsChain code body ps
  scanned_chain end is says =
      let (entries, context, same) = (contexts_are_spelled body end).0 is in
      record { entries = entries; context = context; says = says ∙ ap (λ n. (sole_key code, cut_at body n) ∷ []) (sym same) }

  pub chain_scanned : (h : IsChain code body ps) → scan body ≡ Ok (length h.context.before)
  chain_scanned h = (contexts_are_spelled body (length h.context.before)).1 (h.entries, h.context, refl)

  chain_forth : (r : Result ℕ ContextFault) → scan body ≡ r → fault_of_scan r ≡ None → (sole_key code, cut r body) ∷ [] ≡ ps → IsChain code body ps
  chain_forth (Ok o) is fine says = scanned_chain o is (sym says)
  chain_forth (Err f) is fine says = let no : ◌≡◌ {A = Option Cause} (Some _) None = fine in cc

  chain_back : IsChain code body ps → (fault_of_scan (scan body) ≡ None) × ((sole_key code, cut (scan body) body) ∷ [] ≡ ps)
  chain_back h = (ap fault_of_scan (chain_scanned h), ap (λ r. (sole_key code, cut r body) ∷ []) (chain_scanned h) ∙ sym h.says)

  -- ---- all shapes

  by_shape : (shape : Shape) → IsRow code shape → has_shape shape ≡ true → ((fault_by_shape shape code body ≡ None) × (parts_by_shape shape code body ≡ ps)) ↔ IsShaped shape code body ps
  by_shape (Table l) row shaped = ((λ h. table_forth code l row.widths body ps h.0 h.1), table_back code l row.widths body ps)
  by_shape (Single len ignored) row shaped = ((λ h. single_forth len ignored h.0 h.1), single_back len ignored)
  by_shape (Named second ignored skips) row shaped = ((λ h. named_forth second ignored skips h.0 h.1), named_back second ignored skips)
  by_shape Chain row shaped = ((λ h. chain_forth (scan body) refl h.0 h.1), chain_back)
  by_shape Other row shaped = cc

pub bodies_are_spelled : BodiesAreSpelled
bodies_are_spelled code body ps shaped = by_shape code body ps (shape_of code) (all_rows code) shaped

pub is_shaped : (code : PartCode) (body : List ℕ) (ps : List Part) (shape : Shape) → IsShaped shape code body ps → has_shape shape ≡ true
is_shaped code body ps Other h = absurd h
is_shaped code body ps _ h = refl

pub bodies_say_one : BodiesSayOne
bodies_say_one code body ps qs a b =
    let shaped = is_shaped code body ps (shape_of code) a in
    sym ((bodies_are_spelled code body ps shaped).1 a).1 ∙ ((bodies_are_spelled code body qs shaped).1 b).1
