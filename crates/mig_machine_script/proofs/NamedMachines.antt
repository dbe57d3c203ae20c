-- Machine frames that tables name, and the frame numbers that have them.
use Rattle.mig_machine_script.proofs.Common.{◌≡◌, ◌≢◌, ℕ, zero, suc, ◌+◌, ◌<◌, ◌≤◌, ◌⊎◌, Bool, true, false, cond, List, [], ◌∷◌, length, Option, Some, None, option_and_then, inl, inr, refl, sym, ap, subst, ◌∙◌, arith, drop_of_length-le, ◌==◌, list_any, option_map, cases_eq, cases_lt, eq-eqb, eqb-true, eqb-false, none-some, same_Some, inserted, PageType, level_of, HostOf, HostFrame, HostFrames, IsOneToOne, IsValid, footprint_of, machine_named, table_in, is_machine, names_machine, ◌*◌, IfSome, AllByRecursion, range_with_len, nat_cmp-IsAntisymmetric, ne_eqb, or_from, and_parts, not-true, is_hvm_type, is_type_of, pfn_in, has_machine, Footprint, named_by, names_in}
use mathlib.Core.Path.{fun_ext}
use Rattle.std.specs.Cmp.{nat_cmp_total}
use Rattle.std.proofs.lemmas.List.Folds.{list_any_at}
use Rattle.std.proofs.lemmas.List.FromFn.{length-range_with_len, get_or-range_with_len}
use Rattle.mig_bytes.specs.Fields.{le64}
use Rattle.mig_headers.specs.declared.kind.Kind.{Kind}
use Rattle.mig_headers.specs.declared.kind.Kind.TheVariants.{Hvm}
use Rattle.mig_pagetypes.specs.declared.page_type.PageType.TheVariants.{Notab, Broken, Xalloc}
use Rattle.mig_guest.specs.declared.table.Entry.TheVariants.{Blank, NotPresent}
use Rattle.mig_guest.specs.Tables.{entry_of, is_blank_slot}
use Rattle.mig_host.proofs.InOrder.{each_entry, found_passes, no_entry, none_passes, some_entry}
use Rattle.mig_host.proofs.Machines.{only_pfn, no_pfn, pfn_of_machine}
use Rattle.mig_machine_script.specs.HostLines.{table_names, may_come}
use Rattle.std.specs.List as list
use Rattle.std.specs.FinMap as maps

-- ---- the slots of a table

module _ (p : ℕ → Bool) where
  pub some_in_range : (n k : ℕ) → k < n → p k ≡ true → list_any p (range_with_len 0 n) ≡ true
  some_in_range n k less is =
      let long = length-range_with_len 0 n in
      let here : 0 + k ≡ k = omega arith in
      list_any_at p (range_with_len 0 n) k 0 (omega (arith, long, less)) (ap p (get_or-range_with_len 0 n k 0 less ∙ here) ∙ is)

  pub none_in_range : (a n : ℕ) → ((k : ℕ) → a ≤ k → k < a + n → p k ≡ false) → list_any p (range_with_len a n) ≡ false
  none_in_range a zero none = refl
  none_in_range a (suc n) none =
      or_from (p a) (list_any p (range_with_len (a + 1) n)) (none a (omega arith) (omega arith)) (none_in_range (a + 1) n (λ k low high. none k (omega (arith, low)) (omega (arith, high))))

zero_behind : (page : List ℕ) (at : ℕ) → length page ≤ at → le64 page at ≡ 0
unfolding le64
zero_behind page at le = ap (λ (bytes : List ℕ). le64 bytes 0) (drop_of_length-le page le)

zero_names_none : (level slot : ℕ) → named_by (entry_of level slot 0) 0 ≡ None
unfolding entry_of
zero_names_none level slot = elim (is_blank_slot level slot) as (λ b. named_by (cond b Blank NotPresent) 0 ≡ None) [ true ↦ refl | false ↦ refl ]

-- behind the last slot nothing is named
none_behind : (level slot : ℕ) (page : List ℕ) → length page ≡ 4096 → 512 ≤ slot → machine_named level page slot ≡ None
none_behind level slot page long high = ap (λ (n : ℕ). named_by (entry_of level slot n) n) (zero_behind page (8 * slot) (omega (arith, long, high))) ∙ zero_names_none level slot

-- the table names the machine frame that one of its slots names
pub slot_names : (mfn level slot : ℕ) (page : List ℕ) → slot < 512 → is_machine mfn (machine_named level page slot) ≡ true → table_names mfn (Some (level, page)) ≡ true
unfolding table_names
slot_names mfn level slot page less is = some_in_range (λ k. is_machine mfn (machine_named level page k)) 512 slot less is

slot_in_table : (mfn : ℕ) (t : ℕ × List ℕ) (slot : ℕ) → length t.1 ≡ 4096 → machine_named t.0 t.1 slot ≡ Some mfn → table_names mfn (Some t) ≡ true
slot_in_table mfn t slot long is = elim (cases_lt slot 512) [
  | inl less ↦ slot_names mfn t.0 slot t.1 less (ap (is_machine mfn) is ∙ eq-eqb mfn mfn refl)
  | inr high ↦ absurd (none-some mfn (sym (none_behind t.0 slot t.1 long high) ∙ is))
]

-- where no slot names a machine frame, the table doesn't
pub no_slot_names : (mfn level : ℕ) (page : List ℕ) → ((k : ℕ) → k < 512 → is_machine mfn (machine_named level page k) ≡ false) → table_names mfn (Some (level, page)) ≡ false
unfolding table_names
no_slot_names mfn level page none = none_in_range (λ k. is_machine mfn (machine_named level page k)) 0 512 (λ k low high. none k (omega (arith, high)))

-- a frame that is no table
pub no_table_names : (mfn : ℕ) (page : Option (List ℕ)) (level : Option ℕ) → level ≡ None → table_names mfn (table_in level page) ≡ false
unfolding table_names
no_table_names mfn page None e = refl
no_table_names mfn page (Some level) e = cc

-- a frame without a page
pub no_page_names : (mfn : ℕ) (level : Option ℕ) (page : Option (List ℕ)) → page ≡ None → table_names mfn (table_in level page) ≡ false
unfolding table_names
no_page_names mfn None page e = refl
no_page_names mfn (Some level) None e = refl
no_page_names mfn (Some level) (Some bytes) e = cc

-- no table of an HVM host names a machine frame, since it has none
pub hvm_unnamed : (h : HostOf) (mfn : ℕ) → IsValid h → h.kind ≡ Hvm → names_machine h.frames mfn ≡ false
hvm_unnamed h mfn valid hvm =
    no_entry nat_cmp_total nat_cmp-IsAntisymmetric (λ e. table_names mfn (table_in (level_of e.1.type) e.1.page)) h.frames
    (λ q f is. no_table_names mfn f.page (level_of f.type) (no_level f.type (ap (λ (k : Kind). is_type_of k f.type) (sym hvm) ∙ (valid.frames q f is).type)))
  where
    no_level : (t : PageType) → is_hvm_type t ≡ true → level_of t ≡ None
    no_level Notab e = refl
    no_level Broken e = refl
    no_level Xalloc e = refl
    no_level _ e = cc

-- ---- names that stay

abbrev pub IsWholePage : Option (List ℕ) → Type 0
IsWholePage page = (bytes : List ℕ) → page ≡ Some bytes → length bytes ≡ 4096

table_whole : (level : Option ℕ) (page : Option (List ℕ)) → IsWholePage page → IfSome (table_in level page) (λ t. length t.1 ≡ 4096)
table_whole None page whole = tt
table_whole (Some level) None whole = tt
table_whole (Some level) (Some bytes) whole = whole bytes refl

-- each machine frame that a table of g names belongs in h to the frame number to which it belongs in g
abbrev pub KeepsNamed : HostFrames → HostFrames → Type 0
KeepsNamed g h = (mfn : ℕ) → names_machine g mfn ≡ true → pfn_in h mfn ≡ pfn_in g mfn

table_names_same : (g h : HostFrames) (t : Option (ℕ × List ℕ)) → IfSome t (λ t. length t.1 ≡ 4096) → ((mfn : ℕ) → table_names mfn t ≡ true → pfn_in h mfn ≡ pfn_in g mfn) → (slot : ℕ) → names_in h t slot ≡ names_in g t slot
table_names_same g h None whole kept slot = refl
table_names_same g h (Some t) whole kept slot = go (machine_named t.0 t.1 slot) refl
  where
    go : (o : Option ℕ) → machine_named t.0 t.1 slot ≡ o → option_and_then (pfn_in h) o ≡ option_and_then (pfn_in g) o
    go None is = refl
    go (Some mfn) is = kept mfn (slot_in_table mfn t slot whole is)

frame_named : (frames : HostFrames) (q : ℕ) (f : HostFrame) (mfn : ℕ) → maps.get frames q ≡ Some f → table_names mfn (table_in (level_of f.type) f.page) ≡ true → names_machine frames mfn ≡ true
frame_named frames q f mfn is names = some_entry nat_cmp_total nat_cmp-IsAntisymmetric (λ e. table_names mfn (table_in (level_of e.1.type) e.1.page)) frames q f is names

-- then a frame of g has the same footprint in h
pub print_kept : (g h : HostFrames) (q : ℕ) (f : HostFrame) → KeepsNamed g h → maps.get g q ≡ Some f → IsWholePage f.page → footprint_of h f ≡ footprint_of g f
print_kept g h q f kept is whole =
    let t = table_in (level_of f.type) f.page in
    ap (λ (names : ℕ → Option ℕ). let x : Footprint = record { type = f.type; page = f.page; names = names } in x)
    (fun_ext (table_names_same g h t (table_whole (level_of f.type) f.page whole) (λ mfn names. kept mfn (frame_named g q f mfn is names))))

-- ---- the frame number that has a machine frame

abbrev pub machine_at : HostFrames → ℕ → Option ℕ
machine_at frames q = option_map (λ (f : HostFrame). f.machine) (maps.get frames q)

there_with : (o : Option HostFrame) (mfn : ℕ) → is_machine mfn (option_map (λ (f : HostFrame). f.machine) o) ≡ true → (f : HostFrame) × (o ≡ Some f) × (f.machine ≡ mfn)
there_with None mfn e = cc
there_with (Some f) mfn e = (f, refl, eqb-true f.machine mfn e)

found_has : {A : Type 0} (P : A → Type 0) (p : A → Bool) (xs : List A) (x : A) → AllByRecursion P xs → list.find p xs ≡ Some x → P x
found_has P p [] x all is = absurd (none-some x is)
found_has P p (y ∷ ys) x all is = by (p y) is (found_has P p ys x all.1)
  where
    by : (b : Bool) → cond b (Some y) (list.find p ys) ≡ Some x → (list.find p ys ≡ Some x → P x) → P x
    by true same later = subst P (same_Some y x same) all.0
    by false same later = later same

-- where it stands at the same numbers, the same one is found
pub pfn_kept : (g h : HostFrames) (mfn : ℕ) → IsOneToOne g → IsOneToOne h → ((q : ℕ) → is_machine mfn (machine_at h q) ≡ is_machine mfn (machine_at g q)) → pfn_in h mfn ≡ pfn_in g mfn
pfn_kept g h mfn one_g one_h same = go (list.find (λ (e : ℕ × HostFrame). e.1.machine == mfn) (maps.entries g)) refl
  where
    go : (o : Option (ℕ × HostFrame)) → list.find (λ (e : ℕ × HostFrame). e.1.machine == mfn) (maps.entries g) ≡ o → pfn_in h mfn ≡ option_map (λ (e : ℕ × HostFrame). e.0) o
    go (Some e) found =
        let at : maps.get g e.0 ≡ Some e.1 =
        found_has (λ (e : ℕ × HostFrame). maps.get g e.0 ≡ Some e.1) (λ (e : ℕ × HostFrame). e.1.machine == mfn) (maps.entries g) e (each_entry nat_cmp_total nat_cmp-IsAntisymmetric (λ q f. maps.get g q ≡ Some f) g (λ q f is. is)) found in
        let passes : is_machine mfn (machine_at g e.0) ≡ true = ap (λ (o : Option HostFrame). is_machine mfn (option_map (λ (f : HostFrame). f.machine) o)) at ∙ found_passes (λ (e : ℕ × HostFrame). e.1.machine == mfn) (maps.entries g) e found in
        let (f, is, says) = there_with (maps.get h e.0) mfn (same e.0 ∙ passes) in
        only_pfn (λ (f : HostFrame). f.machine) mfn h e.0 f is says (λ q x at_q says_q. one_h q e.0 x f at_q is (says_q ∙ sym says))
    go None found = no_pfn (λ (f : HostFrame). f.machine) mfn h (λ q x at_q says_q.
        let here : is_machine mfn (machine_at h q) ≡ true = ap (λ (o : Option HostFrame). is_machine mfn (option_map (λ (f : HostFrame). f.machine) o)) at_q ∙ eq-eqb x.machine mfn says_q in
        let (f, is, says) = there_with (maps.get g q) mfn (sym (same q) ∙ here) in
        none-some q (sym (ap (option_map (λ (e : ℕ × HostFrame). e.0)) found) ∙ sym (ap (pfn_in g) says) ∙ pfn_of_machine g one_g q f is))

-- ---- a machine frame that comes or goes

abbrev pub IsUnused : HostFrames → ℕ → Type 0
IsUnused frames mfn = (other : ℕ) (frame : HostFrame) → maps.get frames other ≡ Some frame → frame.machine ≡ mfn → ⊥

pub unused : (h : HostOf) (mfn : ℕ) → may_come h mfn ≡ true → IsUnused h.frames mfn
unused h mfn is other frame at same =
    let free : has_machine h mfn ≡ false = not-true (has_machine h mfn) (and_parts _ _ (and_parts _ _ is).0).1 in
    eqb-false frame.machine mfn (none_passes nat_cmp_total nat_cmp-IsAntisymmetric (λ e. e.1.machine == mfn) h.frames other frame free at) same

pub unnamed : (h : HostOf) (mfn : ℕ) → may_come h mfn ≡ true → names_machine h.frames mfn ≡ false
unnamed h mfn is = not-true (names_machine h.frames mfn) (and_parts _ _ is).1

-- at this frame number no machine frame came or went that a table of g names, and none came that a frame of g has
pub record MovesMachine (pfn : ℕ) (g h : HostFrames) : Type 0 where
  pub came : (f : HostFrame) → maps.get h pfn ≡ Some f → IsUnused g f.machine × (names_machine g f.machine ≡ false)
  pub went : (f : HostFrame) → maps.get g pfn ≡ Some f → names_machine g f.machine ≡ false

abbrev pub StaysOrMoves : ℕ → HostFrames → HostFrames → Type 0
StaysOrMoves pfn g h = (machine_at h pfn ≡ machine_at g pfn) ⊎ MovesMachine pfn g h

pub stays_put : (m : HostFrames) (pfn : ℕ) (x f : HostFrame) → maps.get m pfn ≡ Some f → x.machine ≡ f.machine → StaysOrMoves pfn m (maps.insert m pfn x)
stays_put m pfn x f is same = inl (ap (option_map (λ (f : HostFrame). f.machine)) (inserted m pfn pfn x refl) ∙ ap Some same ∙ sym (ap (option_map (λ (f : HostFrame). f.machine)) is))

pub moves_put : (m : HostFrames) (pfn : ℕ) (x : HostFrame) → IsUnused m x.machine → names_machine m x.machine ≡ false → ((f : HostFrame) → maps.get m pfn ≡ Some f → names_machine m f.machine ≡ false) → StaysOrMoves pfn m (maps.insert m pfn x)
moves_put m pfn x free none went = inr (record {
  came = λ f at. subst (λ (y : HostFrame). IsUnused m y.machine × (names_machine m y.machine ≡ false)) (same_Some x f (sym (inserted m pfn pfn x refl) ∙ at)) (free, none);
  went = went;
})

not_at : (o : Option HostFrame) (mfn : ℕ) → ((f : HostFrame) → o ≡ Some f → f.machine ≢ mfn) → is_machine mfn (option_map (λ (f : HostFrame). f.machine) o) ≡ false
not_at None mfn differ = refl
not_at (Some f) mfn differ = ne_eqb f.machine mfn (differ f refl)

module _ (pfn : ℕ) (g h : HostFrames) (others : (q : ℕ) → q ≢ pfn → maps.get h q ≡ maps.get g q) (moves : StaysOrMoves pfn g h) (one : IsOneToOne g) where
  meets : (q : ℕ) (x y : HostFrame) → maps.get h pfn ≡ Some y → maps.get g q ≡ Some x → x.machine ≡ y.machine → pfn ≡ q
  meets q x y here there same = elim moves [
    | inl stays ↦
        let was : machine_at g pfn ≡ Some y.machine = sym stays ∙ ap (option_map (λ (f : HostFrame). f.machine)) here in
        let (old, at, is) = there_with (maps.get g pfn) y.machine (ap (is_machine y.machine) was ∙ eq-eqb y.machine y.machine refl) in one pfn q old x at there (is ∙ sym same)
    | inr m ↦ absurd ((m.came y here).0 q x there same)
  ]

  pub still_one : IsOneToOne h
  still_one p q f x at_p at_q same = elim (cases_eq p pfn) [
    | inl a ↦ elim (cases_eq q pfn) [
      | inl b ↦ a ∙ sym b
      | inr nb ↦ a ∙ meets q x f (ap (maps.get h) (sym a) ∙ at_p) (sym (others q nb) ∙ at_q) (sym same)
    ]
    | inr na ↦ elim (cases_eq q pfn) [
      | inl b ↦ sym (meets p f x (ap (maps.get h) (sym b) ∙ at_q) (sym (others p na) ∙ at_p) same) ∙ sym b
      | inr nb ↦ one p q f x (sym (others p na) ∙ at_p) (sym (others q nb) ∙ at_q) same
    ]
  ]

  differ_named : (mfn named : ℕ) → names_machine g mfn ≡ true → names_machine g named ≡ false → named ≢ mfn
  differ_named mfn named is unnamed same = let wrong : true ≡ false = sym is ∙ sym (ap (names_machine g) same) ∙ unnamed in cc

  here_same : (mfn : ℕ) → names_machine g mfn ≡ true → is_machine mfn (machine_at h pfn) ≡ is_machine mfn (machine_at g pfn)
  here_same mfn is = elim moves [
    | inl stays ↦ ap (is_machine mfn) stays
    | inr m ↦ not_at (maps.get h pfn) mfn (λ f at. differ_named mfn f.machine is (m.came f at).1) ∙ sym (not_at (maps.get g pfn) mfn (λ f at. differ_named mfn f.machine is (m.went f at)))
  ]

  pub keeps_named : KeepsNamed g h
  keeps_named mfn is = pfn_kept g h mfn one still_one (λ q. elim (cases_eq q pfn) [
    | inl e ↦ subst (λ (k : ℕ). is_machine mfn (machine_at h k) ≡ is_machine mfn (machine_at g k)) (sym e) (here_same mfn is)
    | inr ne ↦ ap (λ (o : Option HostFrame). is_machine mfn (option_map (λ (f : HostFrame). f.machine) o)) (others q ne)
  ])
