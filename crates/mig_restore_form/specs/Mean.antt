-- What records send: of each frame number its last entry; of each part its last content; of a policy its last body that
-- isn't empty; of each P2M frame the last PFN that was listed for it. They mean the blank form of it.
use Rattle.std.specs.Prelude.{◌≡◌, ℕ, List, [], ◌∷◌, ◌++◌, Bool, true, false, not, Option, Some, None, fold, count_by, ◌==◌, ◌&&◌, if◌then◌else◌}
use Rattle.mig_restore_form.specs.Common.{option_map, option_or, Kind, Pv, Hvm, PageType, number_of, type_has_data, PartKey, FrameMap, FrameOf, framed, GuestOf, code_number, is_policy, IsFormed, HasNoEmulators, p2m_key, Part, set_parts, set_p2m, blank, IsOfBytes, listed_in}
use Rattle.std.specs.FinMap as maps
use Rattle.std.specs.Str.{bytes_eq}
use Rattle.mig_pagetypes.specs.declared.page_type.PageType.TheVariants.{Notab, Xtab}
use Rattle.mig_restore_form.specs.Record.{FrameEntry, StreamRecord, Content, types_of, is_verified}
use Rattle.mig_restore_form.specs.Record.Content.{Nothing, Frames, Sets, Lists, Checks}

-- the type that a frame has in a guest of this kind: in an HVM guest every type with data is NOTAB
abbrev pub type_in_guest : Kind → PageType → PageType
type_in_guest Pv t = t
type_in_guest Hvm t = if type_has_data t then Notab else t

-- an entry sets its frame, or takes it away where its type is XTAB
abbrev pub put_entry : Kind → FrameMap → FrameEntry → FrameMap
put_entry kind frames e = framed frames e.pfn (type_in_guest kind e.type) e.page

-- what entries make of frames, one after another, where this is what an entry makes of them
abbrev pub put_entries_by : (Kind → FrameMap → FrameEntry → FrameMap) → Kind → FrameMap → List FrameEntry → FrameMap
put_entries_by put kind frames es = fold (put kind) frames es

abbrev pub put_entries : Kind → FrameMap → List FrameEntry → FrameMap
put_entries kind frames es = put_entries_by put_entry kind frames es

-- what a content makes of a guest, where this is what an entry makes of frames
abbrev pub put_content_by : (Kind → FrameMap → FrameEntry → FrameMap) → GuestOf → Content → GuestOf
put_content_by put g Nothing = g
put_content_by put g (Frames es) = record { kind = g.kind; top = g.top; frames = put_entries_by put g.kind g.frames es; parts = g.parts }
put_content_by put g (Sets code ps) = record { kind = g.kind; top = g.top; frames = g.frames; parts = set_parts code g.parts ps }
put_content_by put g (Lists last frames) = set_p2m last frames g
put_content_by put g (Checks es) = g

abbrev pub put_content : GuestOf → Content → GuestOf
put_content g c = put_content_by put_entry g c

abbrev pub put_record : GuestOf → StreamRecord → GuestOf
put_record g r = put_content g r.content

-- a guest of this kind without frames and parts
abbrev pub empty_guest : Kind → GuestOf
empty_guest kind = record { kind = kind; top = 0; frames = maps.empty; parts = maps.empty }

-- the guest as it was sent
unfoldable pub sent : Kind → List StreamRecord → GuestOf
sent kind records = fold put_record (empty_guest kind) records

-- the guest that is meant: the blank form of what was sent
unfoldable pub mean : Kind → List StreamRecord → GuestOf
mean kind records = blank (sent kind records)

-- ---- frames in the words of the format

abbrev pub entries_in : Content → List FrameEntry
entries_in Nothing = []
entries_in (Frames es) = es
entries_in (Sets code ps) = []
entries_in (Lists last frames) = []
entries_in (Checks es) = []

-- all entries that are sent, in stream order
abbrev pub entries_of : List StreamRecord → List FrameEntry
entries_of [] = []
entries_of (r ∷ rs) = entries_in r.content ++ entries_of rs

-- the last entry of a frame number
abbrev pub last_entry : ℕ → List FrameEntry → Option FrameEntry
last_entry p [] = None
last_entry p (e ∷ es) = option_or (last_entry p es) (if e.pfn == p then Some e else None)

-- the frame that an entry says, and none where its type is XTAB
abbrev pub some_frame : PageType → Option (List ℕ) → Option FrameOf
some_frame Xtab page = None
some_frame t page = Some (record { type = t; page = page })

abbrev pub frame_in : Kind → FrameEntry → Option FrameOf
frame_in kind e = some_frame (type_in_guest kind e.type) e.page

-- ---- frames that are compared

abbrev pub checked_in : Content → List FrameEntry
checked_in (Checks es) = es
checked_in _ = []

-- all entries that are compared, in stream order
abbrev pub checked_of : List StreamRecord → List FrameEntry
checked_of [] = []
checked_of (r ∷ rs) = checked_in r.content ++ checked_of rs

-- whether both are no page, or the same one
abbrev pub is_same_page : Option (List ℕ) → Option (List ℕ) → Bool
is_same_page None None = true
is_same_page (Some p) (Some q) = bytes_eq p q
is_same_page _ _ = false

-- whether both are no frame, or one of the same type with the same page
abbrev pub is_same_frame : Option FrameOf → Option FrameOf → Bool
is_same_frame None None = true
is_same_frame (Some f) (Some g) = (number_of f.type == number_of g.type) && is_same_page f.page g.page
is_same_frame _ _ = false

-- whether the frames have just what an entry says of its number
abbrev pub agrees : Kind → FrameMap → FrameEntry → Bool
agrees kind frames e = is_same_frame (maps.get frames e.pfn) (frame_in kind e)

-- how many entries say something else than the frames have
abbrev pub differing : Kind → FrameMap → List FrameEntry → ℕ
differing kind frames es = count_by (λ e. not (agrees kind frames e)) es

-- how many entries behind a VERIFY differ from what was sent; none where no record is one
unfoldable pub differs_of : Kind → List StreamRecord → Option ℕ
differs_of kind records = if is_verified (types_of records) then Some (differing kind (sent kind records).frames (checked_of records)) else None

-- ---- parts in the words of the format

abbrev pub same_key : PartKey → PartKey → Bool
same_key k q = (k.code == q.code) && ((k.key1 == q.key1) && (k.key2 == q.key2))

-- the last bytes for a key
abbrev pub last_bytes : PartKey → List Part → Option (List ℕ)
last_bytes q [] = None
last_bytes q (p ∷ ps) = option_or (last_bytes q ps) (if same_key p.0 q then Some p.1 else None)

-- parts say bytes, or nothing of a part
abbrev pub parts_say_of_part : PartKey → List Part → Option (Option (List ℕ))
parts_say_of_part q ps = option_map Some (last_bytes q ps)

-- a policy that isn't empty says bytes for a part, or of one of its code that there are none
abbrev pub policy_says_of_part : PartKey → ℕ → List Part → Option (Option (List ℕ))
policy_says_of_part q code [] = None
policy_says_of_part q code (p ∷ ps) = option_or (parts_say_of_part q (p ∷ ps)) (if q.code == code then Some None else None)

-- what a content says of a part other than the list of P2M frames
abbrev pub says_of_part : PartKey → Content → Option (Option (List ℕ))
says_of_part q Nothing = None
says_of_part q (Frames es) = None
says_of_part q (Sets code ps) = if is_policy (code_number code) then policy_says_of_part q (code_number code) ps else parts_say_of_part q ps
says_of_part q (Lists last frames) = None
says_of_part q (Checks es) = None

-- the last content that says something of a part
abbrev pub last_said : PartKey → List StreamRecord → Option (Option (List ℕ))
last_said q [] = None
last_said q (r ∷ rs) = option_or (last_said q rs) (says_of_part q r.content)

-- ---- the P2M frames in the words of the format

-- the PFN that a content lists at this index
abbrev pub lists_at : ℕ → Content → Option ℕ
lists_at k (Lists last frames) = listed_in (Some frames) k
lists_at k _ = None

-- the last PFN that is listed at this index
abbrev pub last_listed : ℕ → List StreamRecord → Option ℕ
last_listed k [] = None
last_listed k (r ∷ rs) = option_or (last_listed k rs) (lists_at k r.content)

-- the last frame number of each list, in stream order
abbrev pub ends_in : Content → List ℕ
ends_in (Lists last frames) = last ∷ []
ends_in _ = []

abbrev pub ends_of : List StreamRecord → List ℕ
ends_of [] = []
ends_of (r ∷ rs) = ends_in r.content ++ ends_of rs

-- ---- what reading keeps of a guest, whatever records come

-- a guest on its way: well formed, without emulator parts, with top 0 before any P2M frames are listed, and of bytes
pub record IsBegun (g : GuestOf) : Type 0 where
  pub formed : IsFormed g
  pub plain : HasNoEmulators g.parts
  pub start : maps.get g.parts p2m_key ≡ None → g.top ≡ 0
  pub bytes : IsOfBytes g

-- reading leads from one guest to another: the kind stays, and a guest that is on its way stays so
pub record GrewByRecord (g h : GuestOf) : Type 0 where
  pub kind : h.kind ≡ g.kind
  pub kept : IsBegun g → IsBegun h
