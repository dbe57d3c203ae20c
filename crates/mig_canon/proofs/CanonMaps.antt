-- Finite maps and their entries: what every entry meets, and what entries that are set again give.
use Rattle.mig_canon.proofs.Common.{◌≡◌, ℕ, Bool, true, false, cond, not, nat_eq, List, [], ◌∷◌, map, Option, Some, None, refl, sym, ap, subst, ◌∙◌, T, ◌||◌, eq_by_cmp, PartKey, part_cmp, if◌then◌else◌, All, find, is_sorted, nat_cmp-IsAntisymmetric, Kind, Hvm, FrameMap, Part, PartMap, put_parts, replace_code, parts_of, PartCode, row_of, code_number, GuestOf, IsFormed, HasNoEmulators, is_policy, width_of, set_parts, parts_at, Frame, static_codes, last_codes, type_in_guest, put_entry, put_entries, option_or, All-head, All-tail, nat_cmp, below_all, part_total, part_exact, both_of, Tsc, common_steps, arith, tied, nat_cmp_total, find-where_key, PageType, told, ◌≢◌, IsPart, is_emulator_code, found_first, is_sorted-where_key, Xtab}
use Rattle.std.specs.declared.cmp.Ordering.TheVariants.{Equal}
use Rattle.mig_guest.specs.Frames.{framed}
use Rattle.mig_restore_form.proofs.PartsInOrder.{or_none, parts_set}
use Rattle.std.specs.FinMap as maps

-- ---- frames set again

-- a frame that there is, of a type that stays in a guest of this kind
abbrev pub IsKept : Kind → Frame → Type 0
IsKept kind f = (type_in_guest kind f.1.type ≡ f.1.type) × (f.1.type ≢ Xtab)

framed_there : (m : FrameMap) (pfn : ℕ) (t : PageType) (page : Option (List ℕ)) → t ≢ Xtab → framed m pfn t page ≡ maps.insert m pfn (record { type = t; page = page })
framed_there m pfn Xtab page there = absurd (there refl)
framed_there m pfn _ page there = refl

put_kept : (kind : Kind) (m : FrameMap) (f : Frame) → IsKept kind f → put_entry kind m (told f) ≡ maps.insert m f.0 f.1
put_kept kind m f kept = ap (λ t. framed m f.0 t f.1.page) kept.0 ∙ framed_there m f.0 f.1.type f.1.page kept.1

frames_set : (kind : Kind) (m : FrameMap) (fs : List Frame) (q : ℕ) → T (is_sorted nat_cmp fs) → All (IsKept kind) fs → maps.get (put_entries kind m (map told fs)) q ≡ option_or (find nat_cmp q fs) (maps.get m q)
frames_set kind m [] q h kept = refl
frames_set kind m (f ∷ fs) q h kept =
    let (first, others) = both_of (below_all nat_cmp f.0 fs) (is_sorted nat_cmp fs) h in
    let n = put_entry kind m (told f) in
    frames_set kind n fs q others (All-tail (IsKept kind) f fs kept)
    ∙ ap (option_or (find nat_cmp q fs)) (ap (λ k. maps.get k q) (put_kept kind m f (All-head (IsKept kind) f fs kept)) ∙ maps.get-insert nat_cmp_total m f.0 f.1 q)
    ∙ found_first nat_cmp_total nat_cmp-IsAntisymmetric q f fs (maps.get m q) (eq_by_cmp nat_cmp q f.0) refl first

-- the frames of a map, set one after another, give the map
pub frames_again : (kind : Kind) (m : FrameMap) → All (IsKept kind) (maps.entries m) → put_entries kind maps.empty (map told (maps.entries m)) ≡ m
frames_again kind m kept = maps.same_map nat_cmp_total nat_cmp-IsAntisymmetric _ _ (λ q.
    frames_set kind maps.empty (maps.entries m) q (maps.entries_sorted m) kept ∙ ap (option_or (find nat_cmp q (maps.entries m))) (maps.get-empty nat_cmp q)
    ∙ or_none (find nat_cmp q (maps.entries m)) ∙ sym (maps.get-entries m q))

-- ---- parts set again

-- what holds of all parts holds of one that is found
pub found_holds : (P : Part → Type 0) (q : PartKey) (bytes : List ℕ) (ps : List Part) → All P ps → find part_cmp q ps ≡ Some bytes → P (q, bytes)
found_holds P q bytes [] all is = absurd (cc)
found_holds P q bytes (p ∷ ps) all is = elim (eq_by_cmp part_cmp q p.0) as (λ b. eq_by_cmp part_cmp q p.0 ≡ b → cond b (Some p.1) (find part_cmp q ps) ≡ Some bytes → P (q, bytes)) [
  | true ↦ λ t at. let content : p.1 ≡ bytes = cc in subst (λ k. P (k, bytes)) (sym (part_exact q p.0 (tied _ t))) (subst (λ b. P (p.0, b)) content (All-head P p ps all))
  | false ↦ λ t at. found_holds P q bytes ps (All-tail P p ps all) at
] refl is

-- a map has the parts of another whose codes are among these
abbrev pub Holds : PartMap → (ℕ → Bool) → PartMap → Type 0
Holds of codes m = (q : PartKey) → maps.get m q ≡ cond (codes q.code) (maps.get of q) None

pub mixed : (b s : Bool) (o : Option (List ℕ)) → option_or (cond b o None) (cond s o None) ≡ cond (b || s) o None
mixed b s o = grind (arith, common_steps)

anew : (b s : Bool) (o : Option (List ℕ)) → option_or (cond b o None) (cond (not b) (cond s o None) None) ≡ cond (b || s) o None
anew b s o = grind (arith, common_steps)

pub parts_in_order : (of : PartMap) (c : ℕ) → T (is_sorted part_cmp (parts_of c (maps.entries of)))
parts_in_order of c = is_sorted-where_key part_cmp (λ (k : PartKey). nat_eq k.code c) (maps.entries of) (maps.entries_sorted of)

module _ (of : PartMap) (codes : ℕ → Bool) (m : PartMap) (c : ℕ) (holds : Holds of codes m) where
  alike : (q x : PartKey) → part_cmp q x ≡ Equal → nat_eq x.code c ≡ nat_eq q.code c
  alike q x e = ap (λ (k : PartKey). nat_eq k.code c) (sym (part_exact q x e))

  found_of : (q : PartKey) → find part_cmp q (parts_of c (maps.entries of)) ≡ cond (nat_eq q.code c) (maps.get of q) None
  found_of q = find-where_key part_cmp (λ (k : PartKey). nat_eq k.code c) q (alike q) (maps.entries of) ∙ ap (λ o. cond (nat_eq q.code c) o None) (sym (maps.get-entries of q))

  -- the parts of a code set
  holds_more : Holds of (λ x. nat_eq x c || codes x) (put_parts m (parts_of c (maps.entries of)))
  holds_more q =
      parts_set m (parts_of c (maps.entries of)) q (parts_in_order of c) ∙ ap (option_or (find part_cmp q (parts_of c (maps.entries of)))) (holds q)
      ∙ ap (λ o. option_or o (cond (codes q.code) (maps.get of q) None)) (found_of q) ∙ mixed (nat_eq q.code c) (codes q.code) (maps.get of q)

  cleared : (q : PartKey) → maps.get (maps.retain_keys m (λ k. not (nat_eq k.code c))) q ≡ cond (not (nat_eq q.code c)) (cond (codes q.code) (maps.get of q) None) None
  cleared q = maps.get-retain_keys m (λ k. not (nat_eq k.code c)) q (λ x e. ap not (alike q x e)) ∙ ap (λ o. cond (not (nat_eq q.code c)) o None) (holds q)

  replaced : (ps : List Part) → parts_of c (maps.entries of) ≡ ps → Holds of (λ x. nat_eq x c || codes x) (replace_code c m ps)
  replaced [] is q =
      holds q ∙ ap (λ o. option_or o (cond (codes q.code) (maps.get of q) None)) (sym (ap (find part_cmp q) is) ∙ found_of q) ∙ mixed (nat_eq q.code c) (codes q.code) (maps.get of q)
  replaced (p ∷ ps) is q =
      parts_set (maps.retain_keys m (λ k. not (nat_eq k.code c))) (p ∷ ps) q (subst (λ l. T (is_sorted part_cmp l)) is (parts_in_order of c))
      ∙ ap (option_or (find part_cmp q (p ∷ ps))) (cleared q)
      ∙ ap (λ o. option_or o (cond (not (nat_eq q.code c)) (cond (codes q.code) (maps.get of q) None) None)) (sym (ap (find part_cmp q) is) ∙ found_of q)
      ∙ anew (nat_eq q.code c) (codes q.code) (maps.get of q)

  -- the parts of a code replaced
  holds_replaced : Holds of (λ x. nat_eq x c || codes x) (replace_code c m (parts_of c (maps.entries of)))
  holds_replaced = replaced (parts_of c (maps.entries of)) refl

  -- as a record of the code sets them
  holds_set : (b : Bool) → Holds of (λ x. nat_eq x c || codes x) (if b then replace_code c m (parts_of c (maps.entries of)) else put_parts m (parts_of c (maps.entries of)))
  holds_set true = holds_replaced
  holds_set false = holds_more

-- the parts of these codes that a guest has, set code by code
abbrev pub with_parts : List PartCode → GuestOf → PartMap → PartMap
with_parts [] g m = m
with_parts (code ∷ codes) g m = with_parts codes g (set_parts code m (parts_at code g))

abbrev pub codes_with : List PartCode → (ℕ → Bool) → ℕ → Bool
codes_with [] codes x = codes x
codes_with (code ∷ more) codes x = codes_with more (λ n. nat_eq n (code_number code) || codes n) x

pub holds_codes : (more : List PartCode) (g : GuestOf) (codes : ℕ → Bool) (m : PartMap) → Holds g.parts codes m → Holds g.parts (codes_with more codes) (with_parts more g m)
holds_codes [] g codes m holds = holds
holds_codes (code ∷ more) g codes m holds =
    holds_codes more g (λ n. nat_eq n (code_number code) || codes n) (set_parts code m (parts_at code g)) (holds_set g.parts codes m (code_number code) holds (is_policy (code_number code)))

-- the codes of the parts of an HVM guest
abbrev pub hvm_codes : ℕ → Bool
hvm_codes = codes_with last_codes (codes_with static_codes (λ x. false))

hvm_code : (c : PartCode) → (row_of c).of_kind Hvm ≡ true → is_emulator_code (code_number c) ≡ false → hvm_codes (code_number c) ≡ true
hvm_code Tsc of_hvm plain = refl
hvm_code _ of_hvm plain = cc

has_hvm_code : (kind : Kind) (width : ℕ) (q : PartKey) (bytes : List ℕ) → kind ≡ Hvm → is_emulator_code q.code ≡ false → IsPart kind width q bytes → hvm_codes q.code ≡ true
has_hvm_code kind width q bytes hvm plain part =
    ap hvm_codes part.number ∙ hvm_code part.code (subst (λ (k : Kind). (row_of part.code).of_kind k ≡ true) hvm part.of_kind) (ap is_emulator_code (sym part.number) ∙ plain)

pub holds_none : (of : PartMap) → Holds of (λ x. false) maps.empty
holds_none of q = maps.get-empty part_cmp q

pub nothing : (b : Bool) (o : Option (List ℕ)) → o ≡ None → cond b o None ≡ o
nothing true o is = refl
nothing false o is = sym is

-- a map that has the parts of another that pass a test is that one, where all of them do
pub all_again : (of m : PartMap) (test : PartKey → Bool) → ((q : PartKey) → maps.get m q ≡ cond (test q) (maps.get of q) None) → ((q : PartKey) (bytes : List ℕ) → maps.get of q ≡ Some bytes → test q ≡ true) → m ≡ of
all_again of m test holds picked = maps.same_map part_total part_exact m of (λ q. holds q ∙ there q (maps.get of q) refl)
  where
    there : (q : PartKey) (o : Option (List ℕ)) → maps.get of q ≡ o → cond (test q) o None ≡ o
    there q None is = nothing (test q) None refl
    there q (Some bytes) is = ap (λ b. cond b (Some bytes) None) (picked q bytes is)

pub holds_all : (g : GuestOf) (m : PartMap) → IsFormed g → g.kind ≡ Hvm → HasNoEmulators g.parts → Holds g.parts hvm_codes m → m ≡ g.parts
holds_all g m formed hvm plain holds = all_again g.parts m (λ q. hvm_codes q.code) holds (λ q bytes got. has_hvm_code g.kind (width_of g) q bytes hvm (plain q bytes got) (formed.parts q bytes got))
