-- What is wrong with a guest whose frames are each changed, so that tables stay, and NOTAB frames and roots stay such.
use Rattle.mig_pvtables.proofs.Common.{◌≡◌, ◌*◌, ◌+◌, ℕ, Bool, not, List, [], ◌∷◌, nat_lt, nat_le, cond, Option, Some, None, is_some, refl, sym, ap, ◌∙◌, ◌&&◌, ◌||◌, option_map, option_or, list_any, range_with_len, find, nat_cmp_total, nat_cmp-IsAntisymmetric, Pv, Hvm, TooManyFrames, most_frames, level_of, Entry, Frame, FrameOf, FrameMap, GuestOf, PartMap, entry, type_at, listed_in, is_this, is_notab, is_needed, is_misplaced, find_slot, find_entry, find_p2m, is_absent, fits_field, first_some, first_cause, faults_for, fault_of_guest, count_in, p2m_key, gdt_ents, field_value, frame_of_field, is_used, PageType, each_value}
use Rattle.std.specs.FinMap as maps
use Rattle.mig_guest.proofs.KeyedMaps.{is_some-mapped}
use Rattle.mig_outline.proofs.Common.{Kind, Notab, Broken, Xalloc, Xtab}
use Rattle.mig_guest.specs.declared.table.Entry.TheVariants.{Blank, NotPresent, Superpage}
use Rattle.mig_headers.specs.declared.fault.Cause.{Cause}
use Rattle.mig_headers.specs.declared.fault.Cause.TheVariants.{P2mFrame, TargetAbsent, VcpuFrame}
use Rattle.mig_pvtables.specs.Faults.{slots, too_many, missing, find_in_contexts, find_field, misfits, is_root, faults_by, fault_by}
use Rattle.mig_guest.specs.PartKeys.{shared_key, vcpu_key, context_key}
use Rattle.mig_pvtables.proofs.EachValue.{shown, some_each, entries_each, len_each, each_each}
use Rattle.std.specs.Prelude.{map, OnOk, Result, Ok, Err}
use Rattle.mig_pvtables.specs.declared.testing.WholeAnswer.{WholeAnswer}
use Rattle.mig_outline.specs.Forgotten.{forgotten_guest, forgotten_page, forgotten_frame}
use Rattle.mig_outline.specs.Outline.{outline, outline_type, outline_frame, outline_frames, outline_page, seen_type, seen_frame, seen_frames}
use Rattle.mig_outline.proofs.Changed.{changed_get, changed_none}

module _ (f : FrameOf → FrameOf) (m : FrameMap) where
  abbrev there : FrameMap
  there = each_value (λ _ x. f x) m

  pub same_some : (n : ℕ) → is_some (maps.get there n) ≡ is_some (maps.get m n)
  same_some n = some_each nat_cmp_total nat_cmp-IsAntisymmetric (λ _ x. f x) m n

  same_typed : (n : ℕ) → is_some (type_at there n) ≡ is_some (type_at m n)
  same_typed n = is_some-mapped (λ (x : FrameOf). x.type) (maps.get there n) ∙ same_some n ∙ sym (is_some-mapped (λ (x : FrameOf). x.type) (maps.get m n))

  pub same_needed : (k : ℕ) → is_needed (type_at there) k ≡ is_needed (type_at m) k
  same_needed k = λ i. list_any (λ slot. same_typed (512 * k + slot) i) slots

  pub same_many : too_many there ≡ too_many m
  same_many = ap (λ n. cond (nat_lt most_frames n) (Some TooManyFrames) None) (len_each nat_cmp_total nat_cmp-IsAntisymmetric (λ _ x. f x) m)

  same_absent : (e : Entry) → is_absent there e ≡ is_absent m e
  same_absent Blank = refl
  same_absent NotPresent = refl
  same_absent Superpage = refl
  same_absent (Frame n) = changed_none nat_cmp_total nat_cmp-IsAntisymmetric f m n

  -- ---- the targets of entries, where tables stay

  -- where an entry stands of which a test says that it is bad
  abbrev place_in : (Entry → Bool) → ℕ × FrameOf → Option (ℕ × ℕ)
  place_in bad e = option_map (λ slot. (e.0, slot)) (find_slot bad (level_of e.1.type) e.1.page)

  abbrev TablesStay : Type 0
  TablesStay = (bad : Entry → Bool) (x : FrameOf) → find_slot bad (level_of (f x).type) (f x).page ≡ find_slot bad (level_of x.type) x.page

  absent_slot : (level : Option ℕ) (page : Option (List ℕ)) → find_slot (is_absent there) level page ≡ find_slot (is_absent m) level page
  absent_slot None page = refl
  absent_slot (Some level) None = refl
  absent_slot (Some level) (Some page) = λ i. find (λ slot. same_absent (entry level page slot) i) slots

  module _ (stay : (bad : Entry → Bool) (x : FrameOf) → find_slot bad (level_of (f x).type) (f x).page ≡ find_slot bad (level_of x.type) x.page) where
    same_place : (e : ℕ × FrameOf) → place_in (is_absent there) (e.0, f e.1) ≡ place_in (is_absent m) e
    same_place e = ap (option_map (λ (slot : ℕ). (e.0, slot))) (stay (is_absent there) e.1 ∙ absent_slot (level_of e.1.type) e.1.page)

    same_first : (es : List (ℕ × FrameOf)) → first_some (place_in (is_absent there)) (map (shown (λ _ x. f x)) es) ≡ first_some (place_in (is_absent m)) es
    same_first [] = refl
    same_first (e ∷ es) = λ i. option_or (same_place e i) (same_first es i)

    pub same_entry : find_entry (is_absent there) there ≡ find_entry (is_absent m) m
    same_entry =
        ap (first_some (place_in (is_absent there))) (entries_each nat_cmp_total nat_cmp-IsAntisymmetric (λ _ x. f x) m)
        ∙ same_first (maps.entries m)

  -- ---- the list of P2M frames and the fields of vCPUs, where NOTAB frames and roots stay

  module _ (plain : (x : FrameOf) → is_notab (Some (f x).type) ≡ is_notab (Some x.type)) (root : (x : FrameOf) → is_root (Some (f x).type) ≡ is_root (Some x.type)) where
    same_plain : (n : ℕ) → is_notab (type_at there n) ≡ is_notab (type_at m n)
    same_plain n = ap (λ o. is_notab (option_map (λ (x : FrameOf). x.type) o)) (changed_get nat_cmp_total nat_cmp-IsAntisymmetric f m n)
        ∙ elim (maps.get m n) as (λ o. is_notab (option_map (λ (x : FrameOf). x.type) (option_map f o)) ≡ is_notab (option_map (λ (x : FrameOf). x.type) o)) [ None ↦ refl | Some x ↦ plain x ]

    same_root : (n : ℕ) → is_root (type_at there n) ≡ is_root (type_at m n)
    same_root n = ap (λ o. is_root (option_map (λ (x : FrameOf). x.type) o)) (changed_get nat_cmp_total nat_cmp-IsAntisymmetric f m n)
        ∙ elim (maps.get m n) as (λ o. is_root (option_map (λ (x : FrameOf). x.type) (option_map f o)) ≡ is_root (option_map (λ (x : FrameOf). x.type) o)) [ None ↦ refl | Some x ↦ root x ]

    same_misplaced : (list : Option (List ℕ)) (k : ℕ) (o : Option ℕ) → is_misplaced (type_at there) list k o ≡ is_misplaced (type_at m) list k o
    same_misplaced list k None = refl
    same_misplaced list k (Some pfn) =
        λ i. not (same_plain pfn i) || list_any (λ j. is_this pfn (listed_in list j) && (same_needed j i || same_needed k i)) (range_with_len 0 k)

    same_p2m : (parts : PartMap) → find_p2m there parts ≡ find_p2m m parts
    same_p2m parts = λ i. find (λ k. same_misplaced (maps.get parts p2m_key) k (listed_in (maps.get parts p2m_key) k) i) (range_with_len 0 (count_in (maps.get parts p2m_key)))

    same_fits : (field n : ℕ) → fits_field field (type_at there n) ≡ fits_field field (type_at m n)
    same_fits field n = λ i. cond (nat_le field 16) (same_plain n i) (same_root n i)

    same_misfits : (id : ℕ) (context : List ℕ) (field : ℕ) → misfits there id context field ≡ misfits m id context field
    same_misfits id context field =
        λ i. is_used id (gdt_ents context) field (field_value context field) && not (same_fits field (frame_of_field field (field_value context field)) i)

    same_field : (parts : PartMap) → find_field there parts ≡ find_field m parts
    same_field parts = λ i. find_in_contexts (λ id context field. same_misfits id context field i) parts

-- ---- the whole guest

abbrev with_frames : GuestOf → FrameMap → GuestOf
with_frames g m = record { kind = g.kind; top = g.top; frames = m; parts = g.parts }

-- a guest with other frames, where yet others tell the types
module _ (g : GuestOf) (typed m : FrameMap) (p2m : find_p2m typed g.parts ≡ find_p2m g.frames g.parts) (entries : find_entry (is_absent m) m ≡ find_entry (is_absent g.frames) g.frames)
    (fields : find_field typed g.parts ≡ find_field g.frames g.parts) (many : too_many m ≡ too_many g.frames) where
  same_for : (kind : Kind) → first_cause (faults_by typed kind (with_frames g m)) ≡ first_cause (faults_for kind g)
  same_for Hvm = λ i. first_cause (missing g.parts context_key ∷ many i ∷ [])
  same_for Pv = λ i. first_cause (
      missing g.parts p2m_key
      ∷ missing g.parts shared_key
      ∷ missing g.parts (vcpu_key 0)
      ∷ option_map (λ (k : ℕ). P2mFrame k) (p2m i)
      ∷ option_map (λ (at : ℕ × ℕ). TargetAbsent at.0 at.1) (entries i)
      ∷ option_map (λ (at : ℕ × ℕ). VcpuFrame at.0 at.1) (fields i)
      ∷ many i
      ∷ [])

-- ---- pages of zeros

forgotten_slot : (bad : Entry → Bool) (level : Option ℕ) (page : Option (List ℕ)) → find_slot bad level (forgotten_page level page) ≡ find_slot bad level page
forgotten_slot bad None page = refl
forgotten_slot bad (Some level) page = refl

pub same_fault : (g : GuestOf) → fault_of_guest (forgotten_guest g) ≡ fault_of_guest g
same_fault g =
    let plain : (x : FrameOf) → is_notab (Some x.type) ≡ is_notab (Some x.type) = λ x. refl in
    let root : (x : FrameOf) → is_root (Some x.type) ≡ is_root (Some x.type) = λ x. refl in
    same_for g (forgotten_guest g).frames (forgotten_guest g).frames (same_p2m forgotten_frame g.frames plain root g.parts)
    (same_entry forgotten_frame g.frames (λ bad x. forgotten_slot bad (level_of x.type) x.page)) (same_field forgotten_frame g.frames plain root g.parts) (same_many forgotten_frame g.frames) g.kind

-- ---- an outline, seen as a guest

outline_slot : (bad : Entry → Bool) (t : PageType) (page : Option (List ℕ)) → find_slot bad (level_of (outline_type t)) (outline_page (level_of t) page) ≡ find_slot bad (level_of t) page
outline_slot bad Notab page = refl
outline_slot bad Xalloc page = refl
outline_slot bad Broken page = refl
outline_slot bad Xtab page = refl
outline_slot bad _ page = refl

both_plain : (t : PageType) → is_notab (Some (seen_type (outline_type t))) ≡ is_notab (Some t)
both_plain Notab = refl
both_plain Xalloc = refl
both_plain Broken = refl
both_plain Xtab = refl
both_plain _ = refl

both_root : (t : PageType) → is_root (Some (seen_type (outline_type t))) ≡ is_root (Some t)
both_root Notab = refl
both_root Xalloc = refl
both_root Broken = refl
both_root Xtab = refl
both_root _ = refl

pub seen_needed : (m : FrameMap) (k : ℕ) → is_needed (type_at (seen_frames m)) k ≡ is_needed (type_at m) k
seen_needed m k = same_needed seen_frame m k

pub type_seen : (m : FrameMap) (n : ℕ) → type_at (seen_frames m) n ≡ option_map seen_type (type_at m n)
type_seen m n = ap (option_map (λ (x : FrameOf). x.type)) (changed_get nat_cmp_total nat_cmp-IsAntisymmetric seen_frame m n)
    ∙ elim (maps.get m n) as (λ o. option_map (λ (x : FrameOf). x.type) (option_map seen_frame o) ≡ option_map seen_type (option_map (λ (x : FrameOf). x.type) o)) [ None ↦ refl | Some x ↦ refl ]

-- what is wrong with a guest is wrong with its outline, where XALLOC is seen as NOTAB
pub seen_fault : (g : GuestOf) → fault_by (seen_frames (outline g).frames) (outline g) ≡ fault_of_guest g
seen_fault g =
    let both : FrameOf → FrameOf = λ x. seen_frame (outline_frame x) in
    let plain = λ (x : FrameOf). both_plain x.type in
    let root = λ (x : FrameOf). both_root x.type in
    let twice : seen_frames (outline_frames g.frames) ≡ each_value (λ _ x. both x) g.frames = each_each nat_cmp_total nat_cmp-IsAntisymmetric (λ _ x. seen_frame x) (λ _ x. outline_frame x) g.frames in
    same_for g (seen_frames (outline_frames g.frames)) (outline_frames g.frames)
    (ap (λ (m : FrameMap). find_p2m m g.parts) twice ∙ same_p2m both g.frames plain root g.parts)
    (same_entry outline_frame g.frames (λ bad x. outline_slot bad x.type x.page))
    (ap (λ (m : FrameMap). find_field m g.parts) twice ∙ same_field both g.frames plain root g.parts)
    (same_many outline_frame g.frames) g.kind

-- the same of what was found by frames that are those of the outline
pub found_in_outline : (h g : GuestOf) (m : FrameMap) (o : Option Cause) → m ≡ h.frames → h ≡ outline g → fault_by (seen_frames m) h ≡ o → fault_of_guest g ≡ o
found_in_outline h g m o same is found =
    sym (seen_fault g) ∙ ap (λ (x : GuestOf). fault_by (seen_frames x.frames) x) (sym is) ∙ ap (λ (f : FrameMap). fault_by (seen_frames f) h) (sym same) ∙ found

pub outline_fine : (r : Result (Unit {0}) WholeAnswer) (h : GuestOf) (m : FrameMap) → m ≡ h.frames → OnOk r (fault_by (seen_frames m) h ≡ None) → OnOk r ((g : GuestOf) → h ≡ outline g → fault_of_guest g ≡ None)
outline_fine (Ok u) h m same none = λ g is. found_in_outline h g m None same is none
outline_fine (Err e) h m same none = tt
