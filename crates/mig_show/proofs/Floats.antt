-- No number of a tree is a float.
use Rattle.mig_show.proofs.Common.{◌≡◌, ℕ, Bool, true, false, cond, List, [], ◌∷◌, map, Option, Some, None, refl, items_of, has_float, Place, Cause, Kind, Seen1, is_page_data, record_tree, kind_tree, version_tree, refused_tree, shown_tree, items_have_float, members_have_float, common_members, with_pages}
use Rattle.mig_headers.specs.declared.kind.Kind.TheVariants.{Pv, Hvm}

of_members : (pages : Bool) (shown : Seen1) → members_have_float (cond pages (with_pages shown (common_members shown)) (common_members shown)) ≡ false
of_members true shown = refl
of_members false shown = refl

of_records : (list : List Seen1) → items_have_float (items_of (map record_tree list)) ≡ false
of_records [] = refl
of_records (shown ∷ list) = rw (of_members (is_page_data shown) shown) (of_records list)

pub of_kind : (kind : Option Kind) → has_float (kind_tree kind) ≡ false
of_kind None = refl
of_kind (Some Pv) = refl
of_kind (Some Hvm) = refl

pub of_version : (version : Option ℕ) → has_float (version_tree version) ≡ false
of_version None = refl
of_version (Some version) = refl

pub of_refused : (refused : Option (Place × Cause)) → has_float (refused_tree refused) ≡ false
of_refused None = refl
of_refused (Some refused) = refl

pub no_float : (wrapper : Bool) (version : Option ℕ) (kind : Option Kind) (list : List Seen1) (refused : Option (Place × Cause)) → has_float (shown_tree wrapper version kind list refused) ≡ false
no_float wrapper version kind list refused = rw (of_kind kind, of_records list, of_refused refused, of_version version) refl
