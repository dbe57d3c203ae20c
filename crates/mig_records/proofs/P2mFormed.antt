-- A well formed PV guest stays so where P2M frames are listed.
use Rattle.mig_records.proofs.Common.{◌≡◌, ◌≢◌, ℕ, ◌+◌, ◌-◌, ◌*◌, ◌/◌, ◌<◌, ◌≤◌, Bool, true, false, cond, List, length, drop, nat_le, Option, Some, None, refl, sym, ap, ◌∙◌, subst, arith, length-append, length-drop, eqb-true, eq-eqb, leb-true, leb-false, PartCode, P2mFrames, PartKey, GuestOf, row_of, code_number, IsPart, IsTop, IsInside, IsGuestFrame, IsFormed, is_policy, width_of, most_policy_entries, Kind, AreBytes, recursion_from_All, p2m_key, put_other, part_total, part_exact, of_part, sole, with_bytes, p2m_count, IsP2m, listed_over, greater, set_p2m}
use Rattle.std.specs.FinMap as maps
use Rattle.std.specs.FinMap.{get-insert}
use Rattle.std.specs.Ordering.{eq_by_cmp}
use Rattle.mig_headers.specs.declared.kind.Kind.TheVariants.{Pv, Hvm}
use Rattle.mig_pagetypes.specs.Limits.{top_limit}
use Rattle.mig_bytes.proofs.ByteLists.{word_below}
use Rattle.mig_records.proofs.PvLaws.{list_is}
use Rattle.mig_guest.specs.declared.table.Entry.{Entry}
use Rattle.mig_guest.specs.declared.table.Entry.TheVariants.{Blank, NotPresent, Superpage, Frame}
use Rattle.mig_guest.specs.Frames.{FrameOf}
use Rattle.mig_guest.specs.Order.{part_cmp}
use Rattle.mig_guest.specs.Tables.{IsWithin}
use Rattle.mig_guest.proofs.Counts.{same_parts}
use Rattle.mig_guest.proofs.KeyedMaps.{tied}

-- ---- the greater of two frame numbers

pub above : (m n : ℕ) → (m ≤ greater m n) × (n ≤ greater m n)
above m n = by_case (nat_le m n) refl
  where
    by_case : (b : Bool) → nat_le m n ≡ b → (m ≤ cond b n m) × (n ≤ cond b n m)
    by_case true is = (leb-true m n is, omega arith)
    by_case false is = (omega arith, omega (arith, leb-false m n is))

below : (m n most : ℕ) → m < most → n < most → greater m n < most
below m n most a b = by_case (nat_le m n)
  where
    by_case : (c : Bool) → cond c n m < most
    by_case true = b
    by_case false = a

-- as many places as the longer list has
both_long : (m n a b : ℕ) → a ≡ 8 * p2m_count 0 n → b ≡ 8 * p2m_count 0 m → a + (b - a) ≡ 8 * p2m_count 0 (greater m n)
both_long m n a b new old = by_case (nat_le m n) refl
  where
    by_case : (c : Bool) → nat_le m n ≡ c → a + (b - a) ≡ 8 * p2m_count 0 (cond c n m)
    by_case true is = omega (arith, leb-true m n is, new, old)
    by_case false is = omega (arith, leb-false m n is, new, old)

-- ---- a wider guest

entry_wider : (t u : ℕ) → t ≤ u → (e : Entry) → IsWithin t e → IsWithin u e
entry_wider t u le Blank is = tt
entry_wider t u le NotPresent is = tt
entry_wider t u le Superpage is = is
entry_wider t u le (Frame n) is = omega (arith, le, is)

inside_wider : (kind : Kind) (t u pfn : ℕ) → t ≤ u → IsInside kind t pfn → IsInside kind u pfn
inside_wider Pv t u pfn le is = omega (arith, le, is)
inside_wider Hvm t u pfn le is = tt

frame_wider : (kind : Kind) (t u pfn : ℕ) (frame : FrameOf) → t ≤ u → IsGuestFrame kind t pfn frame → IsGuestFrame kind u pfn frame
frame_wider kind t u pfn frame le is = record {
  small = is.small;
  inside = inside_wider kind t u pfn le is.inside;
  is = is.is;
  type = is.type;
  entries = λ level page at there slot lt. entry_wider t u le _ (is.entries level page at there slot lt);
}

-- the lengths of all parts but the list of P2M frames are the same in a guest of any width
allows_wider : (code : PartCode) (v w len : ℕ) → code ≢ P2mFrames → (row_of code).allows v len ≡ true → (row_of code).allows w len ≡ true
allows_wider P2mFrames v w len other is = absurd (other refl)
allows_wider _ v w len other is = is

part_wider : (kind : Kind) (v w : ℕ) (key : PartKey) (bytes : List ℕ) → key ≢ p2m_key → IsPart kind v key bytes → IsPart kind w key bytes
part_wider kind v w key bytes other is = with_bytes w bytes is (allows_wider is.code v w (length bytes) (λ e.
    let of = of_part P2mFrames kind v (key, bytes) is (is.number ∙ ap code_number e) in
    other (sole P2mFrames v (key, bytes) of of.keys)) is.len) is.content

-- ---- the list of P2M frames

module _ (g : GuestOf) (pv : g.kind ≡ Pv) (formed : IsFormed g) (none_yet : maps.get g.parts p2m_key ≡ None → g.top ≡ 0) (last : ℕ) (frames body : List ℕ) (all : AreBytes body) (is : IsP2m last frames body) where
  abbrev top : ℕ
  top = greater g.top last

  listed_len : (before : Option (List ℕ)) → maps.get g.parts p2m_key ≡ before → length (listed_over frames before) ≡ 8 * p2m_count 0 top
  listed_len None there = by_case (nat_le g.top last) refl
    where
      by_case : (b : Bool) → nat_le g.top last ≡ b → length frames ≡ 8 * p2m_count 0 (cond b last g.top)
      by_case true e = is.listed
      by_case false e = omega (arith, leb-false g.top last e, none_yet there)
  listed_len (Some before) there =
      let old = of_part P2mFrames g.kind (width_of g) (p2m_key, before) (formed.parts p2m_key before there) refl in
      let size : length before ≡ 8 * p2m_count 0 g.top = eqb-true _ _ old.len ∙ omega arith in
      length-append frames (drop (length frames) before) ∙ ap (λ n. length frames + n) (length-drop (length frames) before) ∙ both_long g.top last (length frames) (length before) is.listed size

  list_part : (bytes : List ℕ) → length bytes ≡ 8 * p2m_count 0 top → IsPart g.kind (top + 1) p2m_key bytes
  list_part bytes size = record {
    code = P2mFrames;
    number = refl;
    of_kind = ap (row_of P2mFrames).of_kind pv;
    keys = refl;
    small1 = omega arith;
    small2 = omega arith;
    len = eq-eqb (length bytes) (8 * ((top + 1 - 1) / 512 + 1)) (size ∙ omega arith);
    content = tt;
  }

  list_part_at : (key : PartKey) (bytes : List ℕ) → key ≡ p2m_key → length bytes ≡ 8 * p2m_count 0 top → IsPart g.kind (top + 1) key bytes
  list_part_at key bytes at size = subst (λ k. IsPart g.kind (top + 1) k bytes) (sym at) (list_part bytes size)

  abbrev new : List ℕ
  new = listed_over frames (maps.get g.parts p2m_key)

  each_part : (key : PartKey) (bytes : List ℕ) (b : Bool) → eq_by_cmp part_cmp key p2m_key ≡ b → cond b (Some new) (maps.get g.parts key) ≡ Some bytes → IsPart g.kind (top + 1) key bytes
  each_part key bytes true same got =
      let at : key ≡ p2m_key = part_exact key p2m_key (tied (part_cmp key p2m_key) same) in
      let is : new ≡ bytes = cc in
      list_part_at key bytes at (ap length (sym is) ∙ listed_len (maps.get g.parts p2m_key) refl)
  each_part key bytes false other got =
      part_wider g.kind (width_of g) (top + 1) key bytes (λ e. let no : true ≡ false = sym (ap (λ k. eq_by_cmp part_cmp k p2m_key) e) ∙ other in cc) (formed.parts key bytes got)

  last_small : last < top_limit
  last_small = subst (λ n. n < top_limit) (list_is last frames body is).1 (word_below 4 body (recursion_from_All (λ b. b < 256) body all))

  pub p2m_keeps : IsFormed (set_p2m last frames g)
  p2m_keeps = record {
    top = subst (λ kind. IsTop kind top) (sym pv) (below g.top last top_limit (subst (λ kind. IsTop kind g.top) pv formed.top) last_small);
    frames = λ pfn frame got. frame_wider g.kind g.top top pfn frame (above g.top last).0 (formed.frames pfn frame got);
    parts = λ key bytes got. each_part key bytes (eq_by_cmp part_cmp key p2m_key) refl (sym (get-insert part_total g.parts p2m_key new key) ∙ got);
    policies = λ code one. subst (λ ps. length ps ≤ most_policy_entries) (sym (same_parts code (maps.insert g.parts p2m_key new) g.parts (λ q of_code. put_other g.parts (p2m_key, new) q (λ three.
        let no : true ≡ false = sym one ∙ ap is_policy (sym of_code ∙ three) in cc)))) (formed.policies code one);
  }
