-- What is looked for in a guest at the end of its stream, and in a host, are rows of how it stands.
use Rattle.std.specs.FinMap as maps
use Rattle.mig_host_laws.proofs.Common.{Cause, Kind, Unsound, number_of_unsound, HostOf, HostFrame, IsValid, pfn_in, ◌≡◌, ℕ, ◌<◌, List, [], ◌∷◌, true, false, cond, not, is_none, Option, Some, None, refl, sym, ap, ◌∙◌, ◌&&◌, option_map, option_or, option_and_then, nat_cmp_total, nat_cmp-IsAntisymmetric, gdt_ents, FrameOf, FrameMap, GuestOf, PartMap, PartKey, p2m_key, vcpu_key, shared_key, Entry, Blank, NotPresent, Superpage, Frame, Pv, first_cause, first_some, find_entry, type_at, fits_field, is_superpage, field_value, frame_of_field, is_used, fault_of_guest, is_unknown, absent, needed_keys, unsoundness, guest_in, NamesFirst, Standing, said_of, in_stream, in_host, names_ill, row_1, row_2, row_6, first_row, IsWide, cause_in_stream, IsWrong, UnsoundHas, NamesFirstRow, find_p2m, is_absent, faults_for, get_each, unsound_rows, without_machine, itself_in, in_machine, type_named, find_ill_listed}
use Rattle.mig_pvtables.specs.Faults.{find_field, find_in_contexts, missing, too_many}
use Rattle.mig_host_laws.proofs.NamedFirst.{one_named, told_twice}
use Rattle.mig_host_laws.proofs.Rows.{Left, frames_named, rows_name, first_row_named, left_named}
use Rattle.mig_headers.specs.declared.fault.Cause.TheVariants as faults
use Rattle.mig_headers.specs.declared.unsound.Unsound.TheVariants as causes

-- ---- a guest that stands in a machine

module _ (kind : Kind) (frames : FrameMap) (parts : PartMap) (pfn_of : ℕ → Option ℕ) where
  abbrev standing : Standing
  standing = in_machine kind frames parts pfn_of

  -- what is found there first is the row of least number, at its least place
  pub unsound_named : NamesFirstRow standing (first_cause (unsound_rows kind frames parts pfn_of))
  unsound_named =
      rows_name standing (option_map (λ at. causes.Superpage at.0 at.1) (find_entry is_superpage frames)) (option_map (λ at. causes.NoFrame at.0 at.1) (find_entry (is_unknown pfn_of) frames))
      (frames_named is_superpage (λ pfn slot. causes.Superpage pfn slot) 3 (λ pfn slot. refl) refl frames)
      (frames_named (is_unknown pfn_of) (λ pfn slot. causes.NoFrame pfn slot) 4 (λ pfn slot. refl) refl frames)

  pub unsound_is_row : (width : ℕ) → IsWide width standing → first_cause (unsound_rows kind frames parts pfn_of) ≡ first_row width standing
  unsound_is_row width wide = one_named number_of_unsound (IsWrong standing) _ _ unsound_named (first_row_named standing width wide)

pub unsoundness_named : (h : HostOf) → NamesFirst number_of_unsound (UnsoundHas h) (unsoundness h)
unsoundness_named h = unsound_named h.kind (guest_in h).frames h.parts (pfn_in h.frames)

pub unsoundness_is_row : (h : HostOf) (width : ℕ) → IsWide width (in_host h) → unsoundness h ≡ first_row width (in_host h)
unsoundness_is_row h = unsound_is_row h.kind (guest_in h).frames h.parts (pfn_in h.frames)

-- ---- widths

-- a valid host's own width is one beyond which no PFN has a table
pub host_wide : (h : HostOf) → IsValid h → IsWide h.width (in_host h)
host_wide h valid pfn slot out = none_by (maps.get (guest_in h).frames pfn) refl
  where
    inside : (o : Option HostFrame) (x : FrameOf) → maps.get h.frames pfn ≡ o → option_map without_machine o ≡ Some x → pfn < h.width
    inside None x at is = cc
    inside (Some y) x at is = (valid.frames pfn y at).inside

    none_by : (o : Option FrameOf) → maps.get (guest_in h).frames pfn ≡ o → said_of o slot ≡ NotPresent
    none_by None is = refl
    none_by (Some x) is = absurd (out (inside (maps.get h.frames pfn) x refl (sym (get_each nat_cmp_total nat_cmp-IsAntisymmetric (λ pfn f. without_machine f) h.frames pfn) ∙ is)))

-- ---- a PV guest at the end of its stream

-- rows told one by one are rows told together
told_rows : (a b c p t v : Option Unsound) (m : Option Cause)
    → first_cause (option_map cause_in_stream a ∷ option_map cause_in_stream b ∷ option_map cause_in_stream c ∷ option_map cause_in_stream p ∷ option_map cause_in_stream t ∷ option_map cause_in_stream v ∷ m ∷ [])
    ≡ option_or (option_map cause_in_stream (first_cause (option_or a (option_or b (option_or c None)) ∷ p ∷ t ∷ v ∷ []))) m
told_rows (Some x) b c p t v m = refl
told_rows None (Some x) c p t v m = refl
told_rows None None (Some x) p t v m = refl
told_rows None None None (Some x) t v m = refl
told_rows None None None None (Some x) v m = refl
told_rows None None None None None (Some x) m = refl
told_rows None None None None None None None = refl
told_rows None None None None None None (Some x) = refl

module _ (g : GuestOf) where
  abbrev guest_standing : Standing
  guest_standing = in_stream g

  absent_told : (key : PartKey) → missing g.parts key ≡ option_map cause_in_stream (absent g.parts key)
  absent_told key = elim (is_none (maps.get g.parts key)) as (λ b. cond b (Some (faults.Missing key.code)) None ≡ option_map cause_in_stream (cond b (Some (causes.Missing key.code)) None)) [ true ↦ refl | false ↦ refl ]

  -- a number names itself, where it has a frame
  unknown_same : (e : Entry) → is_absent g.frames e ≡ is_unknown (itself_in g.frames) e
  unknown_same (Frame n) = elim (maps.get g.frames n) as (λ o. is_none o ≡ is_none (option_map (λ _. n) o)) [ None ↦ refl | Some x ↦ refl ]
  unknown_same Blank = refl
  unknown_same NotPresent = refl
  unknown_same Superpage = refl

  pub type_same : (n : ℕ) → type_at g.frames n ≡ type_named guest_standing n
  type_same n = by (maps.get g.frames n) refl
    where
      by : (o : Option FrameOf) → maps.get g.frames n ≡ o → option_map (λ f. f.type) o ≡ option_and_then (type_at g.frames) (option_map (λ _. n) o)
      by None is = refl
      by (Some x) is = ap (λ o. option_map (λ (f : FrameOf). f.type) o) (sym is)

  entry_same : find_entry (is_absent g.frames) g.frames ≡ find_entry (is_unknown (itself_in g.frames)) g.frames
  entry_same = λ i. find_entry (λ e. unknown_same e i) g.frames

  field_same : find_field g.frames g.parts ≡ find_in_contexts (names_ill guest_standing) g.parts
  field_same = λ i. find_in_contexts (λ id context field. is_used id (gdt_ents context) field (field_value context field) && not (fits_field field (type_same (frame_of_field field (field_value context field)) i))) g.parts

  -- the first entry that names no frame
  abbrev pub nameless_found : Option Unsound
  nameless_found = option_map (λ at. causes.NoFrame at.0 at.1) (find_entry (is_unknown (itself_in g.frames)) g.frames)

  -- the rows that are left at the end of a stream
  abbrev pub rows_left : List (Option Unsound)
  rows_left = row_1 guest_standing ∷ row_2 guest_standing ∷ nameless_found ∷ row_6 guest_standing ∷ []

  pub fault_is_row : g.kind ≡ Pv → fault_of_guest g ≡ option_or (option_map cause_in_stream (first_cause rows_left)) (too_many g.frames)
  fault_is_row pv =
      let p2m : option_map (λ k. faults.P2mFrame k) (find_p2m g.frames g.parts) ≡ option_map cause_in_stream (row_2 guest_standing) =
      sym (told_twice cause_in_stream (λ k. causes.P2mFrame k) (find_ill_listed guest_standing)) in
      let target : option_map (λ at. faults.TargetAbsent at.0 at.1) (find_entry (is_absent g.frames) g.frames) ≡ option_map cause_in_stream nameless_found =
      ap (λ o. option_map (λ (at : ℕ × ℕ). faults.TargetAbsent at.0 at.1) o) entry_same
      ∙ sym (told_twice cause_in_stream (λ (at : ℕ × ℕ). causes.NoFrame at.0 at.1) (find_entry (is_unknown (itself_in g.frames)) g.frames)) in
      let field : option_map (λ at. faults.VcpuFrame at.0 at.1) (find_field g.frames g.parts) ≡ option_map cause_in_stream (row_6 guest_standing) =
      ap (λ o. option_map (λ (at : ℕ × ℕ). faults.VcpuFrame at.0 at.1) o) field_same ∙ sym (told_twice cause_in_stream (λ (at : ℕ × ℕ). causes.VcpuFrame at.0 at.1) (find_in_contexts (names_ill guest_standing) g.parts)) in
      let first = absent_told p2m_key in let second = absent_told shared_key in let third = absent_told (vcpu_key 0) in
      ap (λ k. first_cause (faults_for k g)) pv
      ∙ (λ i. first_cause (first i ∷ second i ∷ third i ∷ p2m i ∷ target i ∷ field i ∷ too_many g.frames ∷ []))
      ∙ told_rows (absent g.parts p2m_key) (absent g.parts shared_key) (absent g.parts (vcpu_key 0)) (row_2 guest_standing) nameless_found (row_6 guest_standing) (too_many g.frames)
      ∙ ap (λ k. option_or (option_map cause_in_stream (first_cause (first_some (absent g.parts) (needed_keys k) ∷ row_2 guest_standing ∷ nameless_found ∷ row_6 guest_standing ∷ []))) (too_many g.frames)) (sym pv)

  pub left_first : NamesFirst number_of_unsound (Left guest_standing) (first_cause rows_left)
  left_first = left_named guest_standing nameless_found (frames_named (is_unknown (itself_in g.frames)) (λ pfn slot. causes.NoFrame pfn slot) 4 (λ pfn slot. refl) refl g.frames)
