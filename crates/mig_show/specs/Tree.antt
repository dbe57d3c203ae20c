-- The tree that shows a stream's records, in the terms of JSON: objects have their members in the order of their keys.
use Rattle.std.specs.Prelude.{ℕ, Bool, List, map, codes, Option, Some, None, ◌==◌, ◌&&◌, not, if◌then◌else◌}
use Rattle.mig_show.specs.Common.{Data, null, boolean, number, string, array, object, unsigned, Members, no_members, member, put, items_of, Place, Cause, Pv, Hvm, PageData, type_number, Kind}
use Rattle.mig_show.specs.declared.record.Seen1.{Seen1}
use Rattle.mig_show.specs.Names.{shown_name}
use Rattle.mig_show.specs.Refusals.{refused_text}

-- a whole number
abbrev pub whole : ℕ → Data
whole n = number (unsigned n)

-- the stream that a record belongs to
abbrev pub layer_name : Bool → List ℕ
layer_name wrapped = if wrapped then codes "libxl" else codes "libxc"

-- a PAGE_DATA: type 1 of a libxc stream
abbrev pub is_page_data : Seen1 → Bool
is_page_data shown = not shown.wrapped && (shown.kind == type_number PageData)

-- what is shown of each record
abbrev pub common_members : Seen1 → Members
common_members shown =
    member (codes "layer") (string (layer_name shown.wrapped))
    (member (codes "length") (whole shown.len)
    (member (codes "name") (string (shown_name shown.wrapped shown.kind))
    (member (codes "type") (whole shown.kind) no_members)))

-- with what is shown of a PAGE_DATA besides: how many words it has, and how many of them have data
abbrev pub with_pages : Seen1 → Members → Members
with_pages shown members = put (codes "words") (whole shown.words) (put (codes "pages") (whole shown.pages) members)

-- the object of a record
abbrev pub record_tree : Seen1 → Data
record_tree shown = object (if is_page_data shown then with_pages shown (common_members shown) else common_members shown)

-- the objects of records, in their order
abbrev pub records_tree : List Seen1 → Data
records_tree list = array (items_of (map record_tree list))

-- the kind of guest, the version and the refusal, each null where there is none
abbrev pub kind_tree : Option Kind → Data
kind_tree None = null
kind_tree (Some Pv) = string (codes "pv")
kind_tree (Some Hvm) = string (codes "hvm")

abbrev pub version_tree : Option ℕ → Data
version_tree None = null
version_tree (Some version) = whole version

abbrev pub refused_tree : Option (Place × Cause) → Data
refused_tree None = null
refused_tree (Some refused) = string (refused_text refused.0 refused.1)

-- the tree of a stream: whether it is a libxl stream, its version and kind as far as its headers tell them, its
-- records, and why it is refused, where it is
abbrev pub shown_tree : Bool → Option ℕ → Option Kind → List Seen1 → Option (Place × Cause) → Data
shown_tree wrapper version kind list refused = object
    (member (codes "kind") (kind_tree kind)
    (member (codes "records") (records_tree list)
    (member (codes "refused") (refused_tree refused)
    (member (codes "version") (version_tree version)
    (member (codes "wrapper") (boolean wrapper) no_members)))))
