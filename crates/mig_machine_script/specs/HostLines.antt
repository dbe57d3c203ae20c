-- What each line of a script does to a host, where it applies, and which frame number it puts into the log.
use Rattle.std.specs.Prelude.{ℕ, ◌+◌, ◌^◌, ◌==◌, ◌&&◌, Bool, true, false, not, nat_lt, nat_le, if◌then◌else◌, List, [], ◌∷◌, length, replicate, Option, Some, None, is_some}
use Rattle.mig_machine_script.specs.Common.{fold, list_any, range_with_len, most_frames, machine_limit, level_of, type_of, HostOf, HostFrame, HostFrames, has_machine, put_frame, put_part_in, machine_named, table_in, Pfns, with_pfn}
use Rattle.std.specs.FinMap as maps
use Rattle.mig_headers.specs.declared.kind.Kind.{Kind}
use Rattle.mig_pagetypes.specs.declared.page_type.PageType.{PageType}
use Rattle.mig_pagetypes.specs.declared.page_type.PageType.TheVariants.{Notab}
use Rattle.mig_guest.specs.declared.part_key.PartKey.{PartKey}
use Rattle.mig_guest.specs.Frames.{is_type_of}
use Rattle.mig_host.specs.Changes.{raw_page_at, page_written, typed, exchanged, without_frame}
use Rattle.mig_guest.specs.PartCodes.{is_fixed}
use Rattle.mig_machine_script.specs.ScriptLines.{LineOf}
use Rattle.mig_machine_script.specs.ScriptLines.LineOf.{Write, Retype, Add, Remove, Exchange, Put, Dot}

-- ---- machine frames that tables name

abbrev pub is_machine : ℕ → Option ℕ → Bool
is_machine mfn None = false
is_machine mfn (Some named) = named == mfn

-- some slot of a table names this machine frame
unfoldable pub table_names : ℕ → Option (ℕ × List ℕ) → Bool
table_names mfn None = false
table_names mfn (Some t) = list_any (λ slot. is_machine mfn (machine_named t.0 t.1 slot)) (range_with_len 0 512)

-- a present entry of some table, outside the blank slots, names this machine frame
abbrev pub names_machine : HostFrames → ℕ → Bool
names_machine frames mfn = list_any (λ e. table_names mfn (table_in (level_of e.1.type) e.1.page)) (maps.entries frames)

-- ---- where a line applies

-- a machine frame that may come to a frame number: it is one, no frame has it, and no table names it
abbrev pub may_come : HostOf → ℕ → Bool
may_come h mfn = nat_lt 0 mfn && nat_lt mfn machine_limit && not (has_machine h mfn) && not (names_machine h.frames mfn)

abbrev pub is_unnamed : HostFrames → Option HostFrame → Bool
is_unnamed frames None = false
is_unnamed frames (Some frame) = not (names_machine frames frame.machine)

-- the frame is there, and no table names its machine frame
abbrev pub may_go : HostOf → ℕ → Bool
may_go h pfn = is_unnamed h.frames (maps.get h.frames pfn)

abbrev pub is_allowed : Kind → Option PageType → Bool
is_allowed kind None = false
is_allowed kind (Some type) = is_type_of kind type

-- the numbers of a part's key have 32 bits
abbrev pub is_key : ℕ → ℕ → ℕ → Bool
is_key code first second = nat_lt code (2 ^ 32) && nat_lt first (2 ^ 32) && nat_lt second (2 ^ 32)

abbrev pub key_of_numbers : ℕ → ℕ → ℕ → PartKey
key_of_numbers code first second = record { code = code; key1 = first; key2 = second }

abbrev pub has_length : ℕ → Option (List ℕ) → Bool
has_length n None = false
has_length n (Some bytes) = length bytes == n

-- the part is there, has this length, and may change
abbrev pub may_put : HostOf → ℕ → ℕ → ℕ → ℕ → Bool
may_put h code first second n = is_key code first second && has_length n (maps.get h.parts (key_of_numbers code first second)) && not (is_fixed code)

abbrev pub applies : HostOf → LineOf → Bool
applies h (Write pfn at bytes) = is_some (raw_page_at h.frames pfn) && nat_le (at + length bytes) 4096
applies h (Retype pfn type) = is_some (maps.get h.frames pfn) && is_allowed h.kind (type_of type)
applies h (Add pfn mfn) = nat_lt pfn h.width && not (is_some (maps.get h.frames pfn)) && may_come h mfn && nat_lt (maps.len h.frames) most_frames
applies h (Remove pfn) = may_go h pfn
applies h (Exchange pfn mfn) = may_go h pfn && may_come h mfn
applies h (Put code first second bytes) = may_put h code first second (length bytes)
applies h Dot = true

-- ---- what a line does

-- a frame that is new: the ordinary type, and a zero page
abbrev pub new_frame : ℕ → HostFrame
new_frame mfn = record { type = Notab; machine = mfn; page = Some (replicate 4096 0) }

abbrev pub typed_as : HostOf → ℕ → Option PageType → HostOf
typed_as h pfn None = h
typed_as h pfn (Some type) = typed h pfn type

-- where it applies
abbrev pub changed_by : HostOf → LineOf → HostOf
changed_by h (Write pfn at bytes) = page_written h pfn at bytes
changed_by h (Retype pfn type) = typed_as h pfn (type_of type)
changed_by h (Add pfn mfn) = put_frame h pfn (new_frame mfn)
changed_by h (Remove pfn) = without_frame h pfn
changed_by h (Exchange pfn mfn) = exchanged h pfn mfn
changed_by h (Put code first second bytes) = put_part_in h (key_of_numbers code first second) bytes
changed_by h Dot = h

-- a line that doesn't apply changes nothing
abbrev pub after_line : HostOf → LineOf → HostOf
after_line h line = if applies h line then changed_by h line else h

-- the lines applied in order
abbrev pub after : HostOf → List LineOf → HostOf
after h lines = fold after_line h lines

-- ---- what is logged

-- the frame number that a line changes
abbrev pub pfn_changed : LineOf → Option ℕ
pfn_changed (Write pfn at bytes) = Some pfn
pfn_changed (Retype pfn type) = Some pfn
pfn_changed (Add pfn mfn) = Some pfn
pfn_changed (Remove pfn) = Some pfn
pfn_changed (Exchange pfn mfn) = Some pfn
pfn_changed (Put code first second bytes) = None
pfn_changed Dot = None

-- what a line puts into the log, where it applies
abbrev pub logs : HostOf → LineOf → Option ℕ
logs h line = if applies h line then pfn_changed line else None

abbrev pub with_logged : Option ℕ → Pfns → Pfns
with_logged None log = log
with_logged (Some pfn) log = with_pfn pfn log

-- a log with what these lines put into it, applied in order
abbrev pub logged_after : HostOf → List LineOf → Pfns → Pfns
logged_after h [] log = log
logged_after h (line ∷ lines) log = logged_after (after_line h line) lines (with_logged (logs h line) log)

-- ---- room

-- how many spare frames a line may take
abbrev pub room_of : LineOf → ℕ
room_of (Retype pfn type) = 1
room_of (Add pfn mfn) = 1
room_of _ = 0

-- and how many these lines may take
abbrev pub room_for : List LineOf → ℕ
room_for [] = 0
room_for (line ∷ lines) = room_of line + room_for lines
