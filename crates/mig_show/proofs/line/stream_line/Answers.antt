use Rattle.mig_show.proofs.Common.{◌≡◌, ◌∙◌, ap, false, ◌++◌, codes, string_bytes, List, ℕ, boolean, has_float, compact_text, records_text, kind_tree, refused_tree, version_tree, SeenState, front_tree, tree_line}
use Rattle.mig_show.proofs.Floats.{of_kind, of_refused, of_version}
use Rattle.mig_show.proofs.Texts.{pieces, text_on, value_on}
use Rattle.mig_show.proofs.line.stream_line.Goals as goal

pub returns : goal.returns
returns c =
    let seen = c.seen.inside in
    let kind = c.in_ok-kind_value.ensures in
    let refused = c.in_ok-refused_value.ensures in
    let version = c.version_value.ensures in
    let l0 : List ℕ = codes "{\"kind\":" in
    let l1 : List ℕ = l0 ++ compact_text (kind_tree seen.kind) in
    let l2 : List ℕ = l1 ++ codes ",\"records\":[" in
    let l3 : List ℕ = l2 ++ records_text false seen.records.items in
    let l4 : List ℕ = l3 ++ codes "],\"refused\":" in
    let l5 : List ℕ = l4 ++ compact_text (refused_tree c.args.refused) in
    let l6 : List ℕ = l5 ++ codes ",\"version\":" in
    let l7 : List ℕ = l6 ++ compact_text (version_tree seen.version) in
    let l8 : List ℕ = l7 ++ codes ",\"wrapper\":" in
    let l9 : List ℕ = l8 ++ compact_text (boolean seen.wrapper) in
    let e0 : string_bytes c.in_ok-line.line ≡ l0 = c.in_ok-line.ensures.ok in
    let e1 : string_bytes c.put_value.new.line ≡ l1 = value_on _ _ _ _ _ (c.in_ok-put_value.ensures (ap has_float kind ∙ of_kind seen.kind)) e0 kind in
    let e2 : string_bytes c.push_str.new.self ≡ l2 = text_on _ _ _ _ c.in_ok-push_str.ensures.bytes e1 in
    let e3 : string_bytes c.put_list.new.line ≡ l3 = text_on _ _ _ _ (c.in_ok-put_list.ensures ∙ ap (λ l. string_bytes c.push_str.new.self ++ records_text false l) c.deref.ensures.value) e2 in
    let e4 : string_bytes c.push_str-2.new.self ≡ l4 = text_on _ _ _ _ c.in_ok-push_str-2.ensures.bytes e3 in
    let e5 : string_bytes c.put_value-2.new.line ≡ l5 = value_on _ _ _ _ _ (c.in_ok-put_value-2.ensures (ap has_float refused ∙ of_refused c.args.refused)) e4 refused in
    let e6 : string_bytes c.push_str-3.new.self ≡ l6 = text_on _ _ _ _ c.in_ok-push_str-3.ensures.bytes e5 in
    let e7 : string_bytes c.put_value-3.new.line ≡ l7 = value_on _ _ _ _ _ (c.in_ok-put_value-3.ensures (ap has_float version ∙ of_version seen.version)) e6 version in
    let e8 : string_bytes c.push_str-4.new.self ≡ l8 = text_on _ _ _ _ c.in_ok-push_str-4.ensures.bytes e7 in
    let e9 : string_bytes c.put_value-4.new.line ≡ l9 = value_on _ _ _ _ _ (c.in_ok-put_value-4.ensures (ap has_float c.from.ensures)) e8 c.from.ensures in
    let e10 : string_bytes c.push_str-5.new.self ≡ l9 ++ codes "}" = text_on _ _ _ _ c.in_ok-push_str-5.ensures.bytes e9 in
    c.in_ok-push_str-6.ensures.bytes ∙ ap (λ l. l ++ codes "\n") (pieces seen.wrapper seen.version seen.kind seen.records.items c.args.refused (string_bytes c.push_str-5.new.self) e10)
    ∙ ap (λ (s : SeenState). tree_line (front_tree s.front c.args.refused)) c.seen.view_is
