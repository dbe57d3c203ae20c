-- In a whole guest, and in a sound host, an address can be walked.
use Rattle.mig_walk.proofs.Common.{◌≡◌, ℕ, ◌<◌, true, false, List, Option, Some, None, IsSome, is_some, refl, sym, ap, subst, ◌∙◌, arith, option_and_then, nat_cmp-IsAntisymmetric, nat_cmp_total, option_map, Kind, Pv, Hvm, level_of, PageType, Entry, Frame, IsPart, width_of, FrameOf, FrameMap, GuestOf, HostOf, HostFrame, HostFrames, IsValid, pfn_in, vcpu_key, entry, type_at, IsWhole, pv_complete, IsSound, guest_in, Root, said_by, said_in, said_of, says_in, in_stream, in_host, IsTableOf, CanBeWalked, Bool, cond, [], ◌∷◌, length, ◌==◌, find, eqb-true, NotPresent, Superpage, is_type_of, EachEntry, IsWithin, is_root, machine_type, itself_in}
use Rattle.std.specs.List.{All}
use Rattle.std.proofs.lemmas.List.Elements.{All-head, All-tail}
use Rattle.mig_pagetypes.specs.declared.page_type.PageType.TheVariants.{L4Tab, L4Pinned}
use Rattle.mig_guest.specs.declared.part_code.PartCode.TheVariants.{VcpuBasic}
use Rattle.mig_guest.specs.PartCodes.{row_of}
use Rattle.mig_guest.proofs.PartRows.{of_part, no_entries, one_code}
use Rattle.mig_pvtables.specs.BadEntries.{NamesKnown}
use Rattle.mig_host_view.proofs.ViewedSays.{pfn_found}
use Rattle.mig_host.proofs.InOrder.{all_there}
use Rattle.mig_host.proofs.SoundHosts.{contexts_long}
use Rattle.mig_walk.proofs.HostFrames.{bare_type}
use Rattle.std.specs.FinMap as maps

-- what a slot says of which each table says it holds
module _ (P : Entry → Type 0) (absent : P NotPresent) where
  said_holds : (level : Option ℕ) (page : Option (List ℕ)) (slot : ℕ) → ((l : ℕ) (p : List ℕ) → level ≡ Some l → page ≡ Some p → P (entry l p slot)) → P (said_in level page slot)
  said_holds (Some level) (Some page) slot each = each level page refl refl
  said_holds (Some level) None slot each = absent
  said_holds None page slot each = absent

  pub says_holds : (frames : FrameMap) → ((pfn : ℕ) (frame : FrameOf) → maps.get frames pfn ≡ Some frame → EachEntry P frame) → (pfn slot : ℕ) → slot < 512 → P (says_in frames pfn slot)
  says_holds frames each pfn slot lt = by_frame (maps.get frames pfn) refl
    where
      by_frame : (o : Option FrameOf) → maps.get frames pfn ≡ o → P (said_of o slot)
      by_frame None is = absent
      by_frame (Some frame) is = said_holds (level_of frame.type) frame.page slot (λ l p level page. each pfn frame is l p level page slot lt)

-- a frame that is a root is a table of level 4
root_level : (o : Option PageType) → is_root o ≡ true → option_and_then level_of o ≡ Some 4
root_level (Some L4Tab) is = refl
root_level (Some L4Pinned) is = refl
root_level _ is = cc

-- ---- a guest in a stream

-- a number names the frame of this number, where that is there
pub named_itself : (n pfn : ℕ) (o : Option FrameOf) → option_map (λ _. n) o ≡ Some pfn → (n ≡ pfn) × IsSome o
named_itself n pfn None is = cc
named_itself n pfn (Some frame) is = (cc, refl)

pub one_number : (frames : FrameMap) (n m pfn : ℕ) → itself_in frames n ≡ Some pfn → itself_in frames m ≡ Some pfn → n ≡ m
one_number frames n m pfn a b = (named_itself n pfn (maps.get frames n) a).0 ∙ sym (named_itself m pfn (maps.get frames m) b).0

pub some_itself : (n : ℕ) (o : Option FrameOf) → IsSome (option_map (λ _. n) o) → IsSome o
some_itself n None some = cc
some_itself n (Some frame) some = refl

itself : (n : ℕ) (o : Option FrameOf) → IsSome o → option_map (λ _. n) o ≡ Some n
itself n None is = cc
itself n (Some frame) is = refl

has_type : (o : Option FrameOf) → IsSome o → IsSome (option_map (λ (f : FrameOf). f.type) o)
has_type None some = cc
has_type (Some frame) some = refl

has_level : (o : Option FrameOf) (level : ℕ) → option_and_then level_of (option_map (λ (f : FrameOf). f.type) o) ≡ Some level → IsSome o
has_level None level is = cc
has_level (Some frame) level is = refl

module _ (g : GuestOf) (whole : IsWhole g) where
  abbrev IsThere : Entry → Type 0
  IsThere e = (n : ℕ) → e ≡ Frame n → IsSome (maps.get g.frames n)

  each_there : (k : Kind) → g.kind ≡ k → (pfn : ℕ) (frame : FrameOf) → maps.get g.frames pfn ≡ Some frame → EachEntry IsThere frame
  each_there Pv kind pfn frame is = (pv_complete g kind whole.faultless).targets pfn frame is
  each_there Hvm kind pfn frame is = no_entries IsThere frame (subst (λ (k : Kind). is_type_of k frame.type ≡ true) kind (whole.formed.frames pfn frame is).type)

  no_superpage : (e : Entry) → IsWithin g.top e → e ≡ Superpage → ⊥
  no_superpage Superpage within is = within
  no_superpage _ within is = cc

  module _ (vcpu : ℕ) (context : List ℕ) (found : maps.get g.parts (vcpu_key vcpu) ≡ Some context) where
    context_size : length context ≡ 5168
    context_size = eqb-true (length context) 5168 (of_part VcpuBasic g.kind (width_of g) (vcpu_key vcpu, context) (whole.formed.parts (vcpu_key vcpu) context found) refl).len

    -- an HVM guest has no such part
    pub not_hvm : IsPart Hvm (width_of g) (vcpu_key vcpu) context → ⊥
    not_hvm is = let no : false ≡ true = subst (λ c. (row_of c).of_kind Hvm ≡ true) (one_code is.code VcpuBasic (sym is.number)) is.of_kind in cc

    root_there : (k : Kind) → g.kind ≡ k → (pfn : ℕ) × (itself_in g.frames (said_by Root context) ≡ Some pfn) × IsTableOf (in_stream g) 4 pfn
    root_there Hvm kind = absurd (not_hvm (subst (λ (k : Kind). IsPart k (width_of g) (vcpu_key vcpu) context) kind (whole.formed.parts (vcpu_key vcpu) context found)))
    root_there Pv kind =
        let fits : is_root (type_at g.frames (said_by Root context)) ≡ true = (pv_complete g kind whole.faultless).fields (vcpu_key vcpu) context found refl 17 (omega arith) refl in
        let level = root_level (type_at g.frames (said_by Root context)) fits in
        (said_by Root context, itself (said_by Root context) (maps.get g.frames (said_by Root context)) (has_level (maps.get g.frames (said_by Root context)) 4 level), level)

  pub guest_ready : (vcpu : ℕ) → CanBeWalked (in_stream g) vcpu
  guest_ready vcpu = record {
    size = context_size vcpu;
    root = λ context found. root_there vcpu context found g.kind refl;
    small = says_holds (λ e. e ≡ Superpage → ⊥) (λ is. cc) g.frames (λ pfn frame is level page lev has slot lt. no_superpage (entry level page slot) ((whole.formed.frames pfn frame is).entries level page lev has slot lt));
    known = λ pfn slot n lt says. ap is_some (itself n (maps.get g.frames n) (says_holds IsThere (λ n is. cc) g.frames (each_there g.kind refl) pfn slot lt n says));
    typed = λ n pfn names. let (same, some) = named_itself n pfn (maps.get g.frames n) names in subst (λ (p : ℕ). IsSome (type_at g.frames p)) same (has_type (maps.get g.frames n) some);
  }

-- ---- a host

-- what is found among entries is one that passes the test
found_passes : {A : Type 0} (P : A → Type 0) (test : A → Bool) (xs : List A) (x : A) → All P xs → find test xs ≡ Some x → P x × (test x ≡ true)
found_passes P test [] x all is = cc
found_passes P test (y ∷ ys) x all is = elim (test y) as (λ b. test y ≡ b → cond b (Some y) (find test ys) ≡ Some x → P x × (test x ≡ true)) [
  | true ↦ λ t at. let same : y ≡ x = cc in subst (λ z. P z × (test z ≡ true)) same (All-head P y ys all, t)
  | false ↦ λ t at. found_passes P test ys x (All-tail P y ys all) at
] refl is

-- the frame of the PFN that has a machine frame has that
pub machine_of_pfn : (frames : HostFrames) (n pfn : ℕ) → pfn_in frames n ≡ Some pfn → option_map (λ (f : HostFrame). f.machine) (maps.get frames pfn) ≡ Some n
machine_of_pfn frames n pfn is = by_entry (find has_it (maps.entries frames)) refl is
  where
    IsThis : ℕ × HostFrame → Type 0
    IsThis e = maps.get frames e.0 ≡ Some e.1

    has_it : ℕ × HostFrame → Bool
    has_it e = e.1.machine == n

    by_entry : (o : Option (ℕ × HostFrame)) → find has_it (maps.entries frames) ≡ o → option_map (λ (e : ℕ × HostFrame). e.0) o ≡ Some pfn → option_map (λ (f : HostFrame). f.machine) (maps.get frames pfn) ≡ Some n
    by_entry None at same = cc
    by_entry (Some e) at same =
        let pfn_is : e.0 ≡ pfn = cc in
        let (has, passes) = found_passes IsThis has_it (maps.entries frames) e (all_there nat_cmp_total nat_cmp-IsAntisymmetric frames) at in
        subst (λ (p : ℕ). option_map (λ (f : HostFrame). f.machine) (maps.get frames p) ≡ Some n) pfn_is (ap (option_map (λ (f : HostFrame). f.machine)) has ∙ ap Some (eqb-true e.1.machine n passes))

pub one_machine : (frames : HostFrames) (n m pfn : ℕ) → pfn_in frames n ≡ Some pfn → pfn_in frames m ≡ Some pfn → n ≡ m
one_machine frames n m pfn a b = let same : Some n ≡ Some m = sym (machine_of_pfn frames n pfn a) ∙ machine_of_pfn frames m pfn b in cc

module _ (h : HostOf) (valid : IsValid h) (sound : IsSound h) where
  not_large : (e : Entry) → NamesKnown (pfn_in h.frames) e → e ≡ Superpage → ⊥
  not_large Superpage known is = known
  not_large _ known is = cc

  is_known : (e : Entry) → NamesKnown (pfn_in h.frames) e → (n : ℕ) → e ≡ Frame n → IsSome (pfn_in h.frames n)
  is_known (Frame m) known n is = let same : m ≡ n = cc in subst (λ (k : ℕ). IsSome (pfn_in h.frames k)) same known
  is_known _ known n is = cc

  root_named : (o : Option ℕ) → option_and_then level_of (option_and_then (type_at (guest_in h).frames) o) ≡ Some 4 → (pfn : ℕ) × (o ≡ Some pfn) × IsTableOf (in_host h) 4 pfn
  root_named None is = cc
  root_named (Some pfn) is = (pfn, refl, is)

  pub host_ready : (vcpu : ℕ) → CanBeWalked (in_host h) vcpu
  host_ready vcpu = record {
    size = λ context found. contexts_long h valid (vcpu_key vcpu) context found refl;
    root = λ context found. root_named (pfn_in h.frames (said_by Root context)) (root_level (machine_type (guest_in h).frames (pfn_in h.frames) (said_by Root context)) (sound.fields (vcpu_key vcpu) context found refl 17 (omega arith) refl));
    small = says_holds (λ e. e ≡ Superpage → ⊥) (λ is. cc) (guest_in h).frames (λ pfn frame is level page lev has slot lt. not_large (entry level page slot) (sound.entries pfn frame is level page lev has slot lt));
    known = λ pfn slot n lt says. says_holds (λ e. (n : ℕ) → e ≡ Frame n → IsSome (pfn_in h.frames n)) (λ n is. cc) (guest_in h).frames
        (λ pfn frame is level page lev has slot lt. is_known (entry level page slot) (sound.entries pfn frame is level page lev has slot lt)) pfn slot lt n says;
    typed = λ n pfn names. let (frame, found) = pfn_found h.frames n pfn names in subst (λ (o : Option PageType). IsSome o) (bare_type h.frames pfn) (ap (λ (o : Option HostFrame). is_some (option_map (λ (f : HostFrame). f.type) o)) found);
  }
