-- What a footprint depends on.
use Rattle.mig_guest.proofs.Common.{◌≡◌, ℕ, List, Option, Some, sym, ap, ◌∙◌, option_map, level_of, Entry, HostFrame, HostFrames, pfn_in, entry}
use mathlib.Core.Path.{fun_ext}
use Rattle.std.specs.Prelude.{option_and_then}
use Rattle.std.specs.FinMap as maps
use Rattle.mig_guest.specs.declared.table.Entry.TheVariants.{Frame}
use Rattle.mig_guest.specs.Longs.{long_at}
use Rattle.mig_guest.specs.Footprints.{Footprint, footprint, footprint_of, named_by, names_in, table_in}

same_names : (frame : HostFrame) (a b : ℕ → Option ℕ) → ((slot : ℕ) → a slot ≡ b slot) → ◌≡◌ {A = Option Footprint} (Some (record { type = frame.type; page = frame.page; names = a })) (Some (record { type = frame.type; page = frame.page; names = b }))
same_names frame a b same = ap (λ (n : ℕ → Option ℕ). Some (record { type = frame.type; page = frame.page; names = n })) (fun_ext same)

pub own : (frames now : HostFrames) (pfn machine : ℕ) (frame : HostFrame) → maps.get frames pfn ≡ Some frame → maps.get now pfn ≡ Some (record frame { machine = machine })
    → ((slot : ℕ) → (footprint_of now frame).names slot ≡ (footprint_of frames frame).names slot) → footprint now pfn ≡ footprint frames pfn
own frames now pfn machine frame before after same =
    ap (option_map (footprint_of now)) after ∙ same_names frame (footprint_of now frame).names (footprint_of frames frame).names same ∙ sym (ap (option_map (footprint_of frames)) before)

pub names : (frames : HostFrames) (frame : HostFrame) (level slot mfn : ℕ) (page : List ℕ) → level_of frame.type ≡ Some level → frame.page ≡ Some page → entry level page slot ≡ Frame mfn
    → (footprint_of frames frame).names slot ≡ pfn_in frames mfn
names frames frame level slot mfn page is there says =
    ap (λ (l : Option ℕ). names_in frames (table_in l frame.page) slot) is ∙ ap (λ (p : Option (List ℕ)). names_in frames (table_in (Some level) p) slot) there
    ∙ ap (λ (e : Entry). option_and_then (pfn_in frames) (named_by e (long_at page slot))) says
