-- The way of an address is the same in a guest and in the host that it becomes, with machine frames for frame numbers.
use Rattle.mig_walk.proofs.Common.{◌≡◌, ℕ, ◌+◌, ◌*◌, ◌/◌, ◌<◌, ◌^◌, List, Option, Some, None, IsSome, is_some, refl, sym, ap, subst, ◌∙◌, arith, inl, inr, option_and_then, nat_cmp_total, nat_cmp-IsAntisymmetric, option_map, Kind, Pv, Hvm, level_of, Entry, FrameOf, GuestOf, HostOf, IsValid, pfn_in, long_at, vcpu_key, entry, type_at, IsWhole, get_each, pv_complete, guest_in, some_value, Root, said_by, Standing, said_in, said_of, says_in, in_stream, in_host, Walked, NoVcpu, slot_of, IsTableOf, NamesNothing, Reach, IsWalked, by_root, by_entry, no_vcpu, not_canonical, absent, not_table, frame, blank, blank_of, IsBaseInside, base_inside, whole_valid, at_machine}
use Rattle.mig_guest.proofs.PartOrder.{part_exact, part_total}
use Rattle.mig_pvtables.specs.P2mFrames.{place_of}
use Rattle.mig_pvtables.specs.Renaming.{name_for, entry_named, NamesFit, GoesBack}
use Rattle.mig_pvtables.specs.VcpuContexts.{is_used}
use Rattle.mig_pvtables.specs.WholePv.{IsCompletePv}
use Rattle.mig_pvtables.proofs.BlankShape.{table_unlisted}
use Rattle.mig_pvtables.proofs.Renamed.{fits_back, said_anew}
use Rattle.mig_host_view.specs.Localised.{renamed_part, localised_page, localised_frame, localised_of, localised}
use Rattle.mig_host_view.specs.RenamedContexts.{renamed_context}
use Rattle.mig_host_view.proofs.GuestsBack.{table_goes, context_bytes}
use Rattle.mig_host_view.proofs.LocalisedGuests.{localised_type, to_localised}
use Rattle.mig_host.specs.Hosted.{hosted, rank_in, mfn_in, IsBaseOutside}
use Rattle.mig_host.specs.HostView.{with_machine}
use Rattle.mig_host.proofs.HostMaps.{get_with_machines, without_machines}
use Rattle.mig_host.proofs.Machines.{pfn_of_machine}
use Rattle.mig_host.proofs.Ranks.{rank_small}
use Rattle.mig_host_laws.specs.NamedAnew.{AreNamesSmall}
use Rattle.mig_host_laws.proofs.FieldLaws.{in_stream_anew}
use Rattle.mig_walk.proofs.Laws.{hvm_none, hvm_part}
use Rattle.mig_walk.proofs.OneAnswer.{one_answer}
use Rattle.mig_walk.proofs.Standings.{named_itself, some_itself, guest_ready, one_number, one_machine}
use Rattle.mig_walk.proofs.Steps.{slot_small}
use Rattle.std.specs.FinMap as maps
use Rattle.mig_guest.specs.declared.table.Entry.TheVariants as entries

-- t stands as s does, but fields and entries name with f
pub record IsRenamed (s t : Standing) (vcpu : ℕ) (f : ℕ → ℕ) : Type 0 where
  pub types : (pfn : ℕ) → t.types pfn ≡ s.types pfn
  pub names : (number pfn : ℕ) → s.names number ≡ Some pfn → t.names (f number) ≡ Some pfn
  pub says : (pfn slot number : ℕ) → slot < 512 → s.says pfn slot ≡ entries.Frame number → IsSome (s.names number) → t.says pfn slot ≡ entries.Frame (f number)
  pub nothing : (pfn slot : ℕ) → slot < 512 → NamesNothing (s.says pfn slot) → NamesNothing (t.says pfn slot)
  pub none : maps.get s.parts (vcpu_key vcpu) ≡ None → maps.get t.parts (vcpu_key vcpu) ≡ None
  pub some : (context : List ℕ) → maps.get s.parts (vcpu_key vcpu) ≡ Some context → (there : List ℕ) × (maps.get t.parts (vcpu_key vcpu) ≡ Some there) × (said_by Root there ≡ f (said_by Root context))

module _ {s t : Standing} {vcpu : ℕ} {f : ℕ → ℕ} (same : IsRenamed s t vcpu f) where
  table_there : (level pfn : ℕ) → IsTableOf s level pfn → IsTableOf t level pfn
  table_there level pfn is = ap (option_and_then level_of) (same.types pfn) ∙ is

  table_back : (level pfn : ℕ) → IsTableOf t level pfn → IsTableOf s level pfn
  table_back level pfn is = ap (option_and_then level_of) (sym (same.types pfn)) ∙ is

  way_there : (address level pfn : ℕ) → Reach s vcpu address level pfn → Reach t vcpu address level pfn
  way_there address _ _ (by_root context pfn there names) =
      let (other, found, said) = same.some context there in by_root other pfn found (ap t.names said ∙ same.names (said_by Root context) pfn names)
  way_there address _ _ (by_entry level table number pfn way is says names) =
      by_entry level table (f number) pfn (way_there address (level + 1) table way) (table_there (level + 1) table is)
      (same.says table (slot_of address (level + 1)) number (slot_small address (level + 1)) says (ap is_some names)) (same.names number pfn names)

  pub answer_there : (address : ℕ) (answer : Walked) → IsWalked s vcpu address answer → IsWalked t vcpu address (at_machine f answer)
  answer_there address _ (no_vcpu none) = no_vcpu (same.none none)
  answer_there address _ (not_canonical some isnt) =
      let (context, is) = some_value (maps.get s.parts (vcpu_key vcpu)) some in let (other, found, said) = same.some context is in not_canonical (ap is_some found) isnt
  answer_there address _ (absent is level pfn way table nothing) =
      absent is level pfn (way_there address level pfn way) (table_there level pfn table) (same.nothing pfn (slot_of address level) (slot_small address level) nothing)
  answer_there address _ (not_table is level pfn least most way other) = not_table is level pfn least most (way_there address level pfn way) (λ table. other (table_back level pfn table))
  answer_there address _ (frame is number pfn kind way names has) = frame is (f number) pfn kind (way_there address 0 pfn way) (same.names number pfn names) (same.types pfn ∙ has)

-- ---- a PV guest

-- what an entry says once it has its name
entry_case : (f : ℕ → Option ℕ) (e : Entry) → NamesNothing e → entry_named (name_for f e) e ≡ e
entry_case f e nothing = elim nothing [
  | inl own ↦ subst (λ x. entry_named (name_for f x) x ≡ x) (sym own) refl
  | inr out ↦ subst (λ x. entry_named (name_for f x) x ≡ x) (sym out) refl
]

module _ (g : GuestOf) (base : ℕ) (pv : g.kind ≡ Pv) (whole : IsWhole g) (blanked : blank g ≡ g) (range : IsBaseInside g base) (valid : IsValid (hosted g base)) where
  abbrev h : HostOf
  h = hosted g base

  abbrev machine : ℕ → ℕ
  machine n = base + rank_in g.frames n

  abbrev mfn_of : ℕ → Option ℕ
  mfn_of = mfn_in g.frames base

  abbrev there : GuestOf
  there = localised_of Pv mfn_of g

  is_there : localised mfn_of g ≡ there
  is_there = ap (λ k. localised_of k mfn_of g) pv

  frames_there : (guest_in h).frames ≡ there.frames
  frames_there = without_machines (localised mfn_of g).frames machine ∙ ap (λ (x : GuestOf). x.frames) is_there

  pv_blank : blank_of Pv g ≡ g
  pv_blank = sym (ap (λ k. blank_of k g) pv) ∙ blanked

  complete : IsCompletePv g
  complete = pv_complete g pv whole.faultless

  -- a frame has its machine frame
  has_machine : (n : ℕ) → IsSome (maps.get g.frames n) → pfn_in h.frames (machine n) ≡ Some n
  has_machine n some =
      let (x, found) = some_value (maps.get g.frames n) some in
      let (z, z_is, type) = to_localised mfn_of g.kind g n x found in
      pfn_of_machine h.frames valid.one_to_one n (with_machine z (machine n)) (get_with_machines (localised mfn_of g).frames machine n ∙ ap (option_map (λ (y : FrameOf). with_machine y (machine n))) z_is)

  name_of : (n : ℕ) → IsSome (maps.get g.frames n) → mfn_of n ≡ Some (machine n)
  name_of n some = let (x, found) = some_value (maps.get g.frames n) some in ap (option_map (λ _. machine n)) found

  small_name : (n : ℕ) → IsSome (maps.get g.frames n) → machine n < 2 ^ 40
  small_name n some = let (x, found) = some_value (maps.get g.frames n) some in omega (arith, range.1, rank_small g.frames n x found)

  goes : (n : ℕ) → IsSome (maps.get g.frames n) → GoesBack mfn_of (pfn_in h.frames) n
  goes n some = record { name = machine n; there = name_of n some; small = small_name n some; again = has_machine n some }

  -- ---- entries

  page_says : (pfn slot : ℕ) (x : FrameOf) → slot < 512 → maps.get g.frames pfn ≡ Some x → (level : Option ℕ) (page : Option (List ℕ)) → level_of x.type ≡ level → x.page ≡ page
      → said_in level (localised_page (place_of g.parts pfn) mfn_of level page) slot ≡ entry_named (name_for mfn_of (said_in level page slot)) (said_in level page slot)
  page_says pfn slot x lt found None page lev has = refl
  page_says pfn slot x lt found (Some l) None lev has = ap (λ o. said_in (Some l) (localised_page o mfn_of (Some l) None) slot) (table_unlisted g.frames g.parts complete.p2m pfn x found l lev)
  page_says pfn slot x lt found (Some l) (Some p) lev has =
      let (all, size, back_there) = table_goes g whole complete pv_blank mfn_of (pfn_in h.frames) goes pfn x found l p lev has in
      let fit : NamesFit (λ slot. name_for mfn_of (entry l p slot)) l p = λ slot n m lt is name. fits_back mfn_of (pfn_in h.frames) (entry l p slot) (λ n is. back_there slot n lt is) n m is name in
      ap (λ o. said_in (Some l) (localised_page o mfn_of (Some l) (Some p)) slot) (table_unlisted g.frames g.parts complete.p2m pfn x found l lev)
      ∙ said_anew (λ slot. name_for mfn_of (entry l p slot)) l p all fit slot lt

  frame_says : (pfn slot : ℕ) → slot < 512 → (o : Option FrameOf) → maps.get g.frames pfn ≡ o
      → said_of (option_map (localised_frame g.parts mfn_of pfn) o) slot ≡ entry_named (name_for mfn_of (said_of o slot)) (said_of o slot)
  frame_says pfn slot lt None found = refl
  frame_says pfn slot lt (Some x) found = page_says pfn slot x lt found (level_of x.type) x.page refl refl

  says_there : (pfn slot : ℕ) → slot < 512 → says_in (guest_in h).frames pfn slot ≡ entry_named (name_for mfn_of (says_in g.frames pfn slot)) (says_in g.frames pfn slot)
  says_there pfn slot lt =
      ap (λ fs. says_in fs pfn slot) frames_there ∙ ap (λ o. said_of o slot) (get_each nat_cmp_total nat_cmp-IsAntisymmetric (localised_frame g.parts mfn_of) g.frames pfn)
      ∙ frame_says pfn slot lt (maps.get g.frames pfn) refl

  -- ---- contexts

  module _ (vcpu : ℕ) where
    parts_there : maps.get h.parts (vcpu_key vcpu) ≡ option_map (renamed_context is_used mfn_of vcpu) (maps.get g.parts (vcpu_key vcpu))
    parts_there = ap (λ (x : GuestOf). maps.get x.parts (vcpu_key vcpu)) is_there ∙ get_each part_total part_exact (renamed_part is_used mfn_of) g.parts (vcpu_key vcpu)

    small_names : AreNamesSmall mfn_of
    small_names n name is = by_frame (maps.get g.frames n) refl is
      where
        by_frame : (o : Option FrameOf) → maps.get g.frames n ≡ o → option_map (λ _. machine n) o ≡ Some name → name < 2 ^ 52
        by_frame None found is = cc
        by_frame (Some x) found is = let same : machine n ≡ name = cc in let small = small_name n (ap is_some found) in omega (arith, small, same)

    root_there : (context : List ℕ) → maps.get g.parts (vcpu_key vcpu) ≡ Some context → said_by Root (renamed_context is_used mfn_of vcpu context) ≡ machine (said_by Root context)
    root_there context found =
        let (pfn, names, is) = (guest_ready g whole vcpu).root context found in
        let some = (named_itself (said_by Root context) pfn (maps.get g.frames (said_by Root context)) names).1 in
        let anew = in_stream_anew mfn_of vcpu context small_names (context_bytes g pv_blank (vcpu_key vcpu) context found refl) in
        let says = anew.said Root tt refl (machine (said_by Root context)) (name_of (said_by Root context) some) in
        written (long_at (renamed_context is_used mfn_of vcpu context) 626) (machine (said_by Root context)) says
      where
        written : (v m : ℕ) → v ≡ m * 4096 → v / 4096 ≡ m
        written v m is = omega arith

    pub guest_renamed : IsRenamed (in_stream g) (in_host h) vcpu machine
    guest_renamed = record {
      types = λ pfn. ap (λ fs. type_at fs pfn) frames_there ∙ localised_type mfn_of g pfn;
      names = λ n pfn is.
          let (same, some) = named_itself n pfn (maps.get g.frames n) is in has_machine n some ∙ ap Some same;
      says = λ pfn slot n lt says some.
          says_there pfn slot lt ∙ ap (λ e. entry_named (name_for mfn_of e) e) says ∙ ap (λ o. entry_named o (entries.Frame n)) (name_of n (some_itself n (maps.get g.frames n) some));
      nothing = λ pfn slot lt nothing. subst NamesNothing (sym (says_there pfn slot lt ∙ entry_case mfn_of (says_in g.frames pfn slot) nothing)) nothing;
      none = λ none. parts_there ∙ ap (option_map (renamed_context is_used mfn_of vcpu)) none;
      some = λ context found. (renamed_context is_used mfn_of vcpu context, parts_there ∙ ap (option_map (renamed_context is_used mfn_of vcpu)) found, root_there context found);
    }

-- ---- either kind

module _ (g : GuestOf) (base vcpu address : ℕ) (whole : IsWhole g) (blanked : blank g ≡ g) (inside : IsBaseOutside g base → ⊥) where
  abbrev machine_of_pfn : ℕ → ℕ
  machine_of_pfn pfn = base + rank_in g.frames pfn

  -- an HVM guest has no vCPU, nor has its host
  hvm_there : g.kind ≡ Hvm → IsWalked (in_host (hosted g base)) vcpu address NoVcpu
  hvm_there hvm = no_vcpu (ap (λ (k : Kind). maps.get (localised_of k (mfn_in g.frames base) g).parts (vcpu_key vcpu)) hvm ∙ hvm_part g whole hvm vcpu)

  by_kind : (k : Kind) → g.kind ≡ k → (answer : Walked) → IsWalked (in_stream g) vcpu address answer → IsWalked (in_host (hosted g base)) vcpu address (at_machine machine_of_pfn answer)
  by_kind Pv kind answer is = answer_there (guest_renamed g base kind whole blanked (base_inside g base inside) (whole_valid g base whole inside) vcpu) address answer is
  by_kind Hvm kind answer is =
      let same : NoVcpu ≡ answer = one_answer (in_stream g) vcpu address (one_number g.frames) NoVcpu answer (hvm_none g vcpu address whole kind) is in
      subst (λ a. IsWalked (in_host (hosted g base)) vcpu address (at_machine machine_of_pfn a)) same (hvm_there kind)

pub commutes : (g : GuestOf) (base vcpu address : ℕ) (answer there : Walked) → IsWhole g → blank g ≡ g → (IsBaseOutside g base → ⊥)
    → IsWalked (in_stream g) vcpu address answer → IsWalked (in_host (hosted g base)) vcpu address there → there ≡ at_machine (λ pfn. base + rank_in g.frames pfn) answer
commutes g base vcpu address answer there whole blanked inside here hosts =
    one_answer (in_host (hosted g base)) vcpu address (one_machine (hosted g base).frames) there (at_machine (λ pfn. base + rank_in g.frames pfn) answer) hosts (by_kind g base vcpu address whole blanked inside g.kind refl answer here)
