-- The frames of an image: what they spell is read, what is read they spell, and both are the frames of a valid host.
use Rattle.mig_image.proofs.Common.{◌≡◌, ℕ, ◌+◌, ◌<◌, ◌≤◌, false, not, nat_eq, nat_le, nat_lt, List, [], ◌++◌, length, Option, Some, None, is_some, refl, sym, ap, ◌∙◌, arith, append_assoc, ◌∷◌, true, subst, length-append, ◌||◌, ◌==◌, list_any, not-false, or_parts, or_from, leb-false, lt-leb, ne_eqb, eqb-true, eqb-false, and_parts, common_steps, nat_cmp_total, nat_cmp, is_lt, nat_cmp-IsAntisymmetric, Judged, Passes, ImageCause, Truncated, Kind, no_fault, rows_fine, Frame, Pv, Hvm, PageType, number_of, type_of, type_or_none, type_has_data, all_types, is_type_of, HostOf, HostFrame, HostFrames, IsHostFrame, IsValid, GuestImageVersion, One, Two, frame_text, leaves_out, most_width_of, page_text, has_zero_flag, head_pfn, head_type, has_machine, has_frame_from, frame_said, put_frame, head_type_number, Bytes, bytes_front, FormOf, Giving, judged_as, ◌>>>◌, first_named, frame_causes, frame_head_form, page_form, host_frame_form, frames_form, then_goes, both_go, bytes_go, bytes_gone, gives_goes, gives_gone, steps_go, most_frames, machine_limit, Xtab, EndsAt, has_from, get_at, get_front, each_entry, no_entry, none_passes, few_ranks, entries_behind, found_passes, nat_rises, valid_frame, le64, frame_head_of}
use Rattle.std.specs.FinMap as maps
use Rattle.mig_image.proofs.FieldBytes.{regroup}
use Rattle.mig_image.proofs.FrameHeads.{Says, flag_has_data, head_len, page_back, page_goes, said_head, says}
use Rattle.mig_image.proofs.Chains.{Chain, put_all, chain_of, chain_same, Found, AllFound, chain_back, chain_entries, chain_keeps}

-- a frame that may stand behind these
pub record FrameFits (kind : Kind) (width : ℕ) (m : HostFrames) (e : ℕ × HostFrame) : Type 0 where
  pub is : IsHostFrame kind width e.0 e.1
  pub behind : list_any (λ x. nat_le e.0 x.0) (maps.entries m) ≡ false
  pub alone : list_any (λ x. x.1.machine == e.1.machine) (maps.entries m) ≡ false

-- so does what a head without a fault and its page say
pub frame_fits : (version : GuestImageVersion) (h : HostOf) (head : List ℕ) (page : Option (List ℕ)) → first_named (frame_causes version h head) ≡ None → is_some page ≡ type_has_data (head_type version head) → ((p : List ℕ) → page ≡ Some p → length p ≡ 4096)
    → FrameFits h.kind h.width h.frames (head_pfn version head, frame_said version head page)
frame_fits version h head page fine in_step whole =
    let (reserved, (type, (order, (outside, (machine, (twice, done)))))) = rows_fine (frame_causes version h head) fine in
    let (some, small) = or_parts (nat_eq (le64 head 8) 0) (nat_le machine_limit (le64 head 8)) machine in
    record {
      is = record {
        inside = leb-false h.width (head_pfn version head) outside;
        type = not-false (is_type_of h.kind (head_type version head)) type;
        some_machine = positive (le64 head 8) some;
        machine = leb-false machine_limit (le64 head 8) small;
        in_step = in_step;
        whole = whole;
      };
      behind = order;
      alone = twice;
    }
  where
    positive : (n : ℕ) → nat_eq n 0 ≡ false → 0 < n
    positive n h = grind (arith, common_steps)

-- ---- no fault

some_machine : (m : ℕ) → 0 < m → m < machine_limit → (nat_eq m 0 || nat_le machine_limit m) ≡ false
some_machine m a b = or_from (nat_eq m 0) (nat_le machine_limit m) (ne_eqb m 0 (λ e. absurd (omega arith))) (lt-leb machine_limit m b)

fine : (version : GuestImageVersion) (h : HostOf) (e : ℕ × HostFrame) (head : List ℕ) → Says version head e → FrameFits h.kind h.width h.frames e → first_named (frame_causes version h head) ≡ None
fine version h e head s f =
    let type = ap (λ k. not (is_type_of h.kind k)) s.kind ∙ ap not f.is.type in
    let order = ap (has_frame_from h) s.pfn ∙ f.behind in
    let outside = ap (nat_le h.width) s.pfn ∙ lt-leb h.width e.0 f.is.inside in
    let machine = ap (λ m. nat_eq m 0 || nat_le machine_limit m) s.machine ∙ some_machine e.1.machine f.is.some_machine f.is.machine in
    let twice = ap (has_machine h) s.machine ∙ f.alone in
    no_fault (frame_causes version h head) (s.reserved, (type, (order, (outside, (machine, (twice, tt))))))

-- ---- the frame

abbrev pub behind_page : GuestImageVersion → HostOf → List ℕ → Option (List ℕ) → FormOf ImageCause HostOf
behind_page version h head page = Giving (put_frame h (head_pfn version head) (frame_said version head page))

abbrev pub behind_frame_head : GuestImageVersion → HostOf → List ℕ → FormOf ImageCause HostOf
behind_frame_head version h head = page_form version head >>> behind_page version h head

frame_is : (version : GuestImageVersion) (h : HostOf) (e : ℕ × HostFrame) (head : List ℕ) (rest : List ℕ) → Says version head e
    → ◌≡◌ {A = Judged ImageCause HostOf} (Passes (put_frame h (head_pfn version head) (frame_said version head e.1.page)) rest) (Passes (put_frame h e.0 e.1) rest)
frame_is version h e head rest s =
    ap (λ p. Passes (put_frame h p (frame_said version head e.1.page)) rest) s.pfn
    ∙ ap (λ k. Passes (put_frame h e.0 (record { type = k; machine = le64 head 8; page = e.1.page })) rest) s.kind
    ∙ ap (λ m. Passes (put_frame h e.0 (record { type = e.1.type; machine = m; page = e.1.page })) rest) s.machine

-- the page behind a head that says this frame
page_read : (version : GuestImageVersion) (e : ℕ × HostFrame) (head rest : List ℕ) → Says version head e → is_some e.1.page ≡ type_has_data e.1.type → ((p : List ℕ) → e.1.page ≡ Some p → length p ≡ 4096)
    → judged_as (page_form version head) (page_text version e.1.page ++ rest) ≡ Passes e.1.page rest
page_read version e head rest s step whole =
    page_goes version (head_pfn version head) (type_has_data (head_type version head)) (has_zero_flag version head) e.1.page rest (step ∙ ap type_has_data (sym s.kind)) s.flag whole

pub frame_goes : (version : GuestImageVersion) (h : HostOf) (e : ℕ × HostFrame) (rest : List ℕ) → h.width ≤ most_width_of version → FrameFits h.kind h.width h.frames e → judged_as (host_frame_form version h) (frame_text version e ++ rest) ≡ Passes (put_frame h e.0 e.1) rest
frame_goes version h e rest holds f =
    let head = frame_head_of version e.0 e.1 in
    let mid = page_text version e.1.page ++ rest in
    let s = says version e (below version e.0 h.width f.is.inside holds) f.is.in_step f.is.machine in
    ap (judged_as (host_frame_form version h)) (append_assoc head (page_text version e.1.page) rest)
    ∙ then_goes (frame_head_form version h) (behind_frame_head version h) (head ++ mid) head mid _
    (bytes_go Truncated 16 (frame_causes version h) head mid (head_len version e.0 e.1) (fine version h e head s f))
    (then_goes (page_form version head) (behind_page version h head) mid e.1.page rest _
    (page_read version e head rest s f.is.in_step f.is.whole) (gives_goes {C = ImageCause} (put_frame h (head_pfn version head) (frame_said version head e.1.page)) rest ∙ frame_is version h e head rest s))
  where
    below : (version : GuestImageVersion) (pfn width : ℕ) → pfn < width → width ≤ most_width_of version → pfn < most_width_of version
    below One pfn width less le = omega arith
    below Two pfn width less le = omega arith

test_is : (k q : ℕ) → nat_le k q ≡ not (is_lt (nat_cmp q k))
test_is k q = grind (arith, common_steps)

from_is : (k : ℕ) (es : List (ℕ × HostFrame)) → list_any (λ x. nat_le k x.0) es ≡ has_from nat_cmp_total es k
from_is k [] = refl
from_is k (e ∷ es) = rw (test_is k e.0, from_is k es) refl

pub behind : (m : HostFrames) (e : ℕ × HostFrame) → list_any (λ x. nat_le e.0 x.0) (maps.entries m) ≡ false → has_from nat_cmp_total (maps.entries m) e.0 ≡ false
behind m e is = sym (from_is e.0 (maps.entries m)) ∙ is

-- a last entry behind entries of smaller numbers
last_ends : (es : List (ℕ × HostFrame)) (k : ℕ) (f : HostFrame) (q : ℕ) → list_any (λ x. nat_le k x.0) es ≡ false → list_any (λ x. nat_le q x.0) (es ++ (k, f) ∷ []) ≡ nat_lt q (k + 1)
last_ends [] k f q h = grind (arith, common_steps)
last_ends (e ∷ es) k f q h =
    let p = or_parts (nat_le k e.0) (list_any (λ x. nat_le k x.0) es) h in
    ap (λ b. nat_le q e.0 || b) (last_ends es k f q p.1) ∙ below q e.0 (leb-false k e.0 p.0)
  where
    below : (q n : ℕ) → n < k → (nat_le q n || nat_lt q (k + 1)) ≡ nat_lt q (k + 1)
    below q n h = grind (arith, common_steps)

-- where no frame is at this number or above it, the frames end behind it once it has one
pub ends_behind : (h : HostOf) (pfn : ℕ) (f : HostFrame) → has_frame_from h pfn ≡ false → EndsAt (put_frame h pfn f) (pfn + 1)
ends_behind h pfn f none q =
    ap (list_any (λ x. nat_le q x.0)) (entries_behind nat_cmp_total h.frames pfn f (behind h.frames (pfn, f) none)) ∙ last_ends (maps.entries h.frames) pfn f q none

-- without a frame they end at 0
pub ends_at_none : (h : HostOf) → length (maps.entries h.frames) ≡ 0 → EndsAt h 0
ends_at_none h none q = by (maps.entries h.frames) none
  where
    by : (es : List (ℕ × HostFrame)) → length es ≡ 0 → list_any (λ x. nat_le q x.0) es ≡ nat_lt q 0
    by [] h = grind (arith, common_steps)
    by (e ∷ es) h = absurd (omega (arith, h))

module _ (g : HostOf) (valid : IsValid g) where
  fits : (m : HostFrames) (e : ℕ × HostFrame) (more : List (ℕ × HostFrame)) → maps.entries g.frames ≡ maps.entries m ++ e ∷ more → has_from nat_cmp_total (maps.entries m) e.0 ≡ false → FrameFits g.kind g.width m e
  fits m e more is below =
      let there = get_at nat_cmp_total g.frames (maps.entries m) e more is in
      let above = from_is e.0 (maps.entries m) ∙ below in
      record {
        is = valid.frames e.0 e.1 there;
        behind = above;
        alone = no_entry nat_cmp_total nat_cmp-IsAntisymmetric (λ x. nat_eq x.1.machine e.1.machine) m (λ q f found. ne_eqb f.machine e.1.machine (λ same.
            let alike = valid.one_to_one q e.0 f e.1 (get_front nat_cmp_total m g.frames (e ∷ more) is q f found) there same in
            let less = leb-false e.0 q (none_passes nat_cmp_total nat_cmp-IsAntisymmetric (λ x. nat_le e.0 x.0) m q f above found) in absurd (omega (arith, alike, less))));
      }

  pub frames_chain : Chain (FrameFits g.kind g.width) maps.empty (maps.entries g.frames)
  frames_chain = chain_of nat_cmp_total (FrameFits g.kind g.width) (λ m e f. behind m e f.behind) g.frames fits

  pub frames_same : put_all maps.empty (maps.entries g.frames) ≡ g.frames
  frames_same = chain_same nat_cmp_total (FrameFits g.kind g.width) (λ m e f. behind m e f.behind) g.frames fits

  pub frames_within : length (maps.entries g.frames) ≤ g.width
  frames_within =
      let all = each_entry nat_cmp_total nat_cmp-IsAntisymmetric (λ k v. Unit {0} × (0 ≤ k) × (k < g.width)) g.frames (λ k v is. (tt, (omega arith), (valid.frames k v is).inside)) in
      let few = few_ranks nat_cmp (λ k. k) g.width (λ _. Unit {0}) (λ a b _ h. nat_rises a b h) 0 (maps.entries g.frames) (omega arith) (maps.entries_sorted g.frames) all in omega (arith, few)

-- ---- a head

no_xtab : (kind : Kind) → is_type_of kind Xtab ≡ false
no_xtab Pv = refl
no_xtab Hvm = refl

type_number : (kind : Kind) (type : ℕ) (o : Option PageType) → type_of type ≡ o → is_type_of kind (type_or_none o) ≡ true → number_of (type_or_none o) ≡ type
type_number kind type None is has = let no : true ≡ false = sym has ∙ no_xtab kind in cc
type_number kind type (Some t) is has = eqb-true (number_of t) type (found_passes (λ t. nat_eq (number_of t) type) all_types t is)

-- the type of a head without a fault has its number
number_is : (version : GuestImageVersion) (h : HostOf) (head : List ℕ) → first_named (frame_causes version h head) ≡ None → number_of (head_type version head) ≡ head_type_number version head
number_is version h head fine =
    let (reserved, (type, others)) = rows_fine (frame_causes version h head) fine in
    type_number h.kind (head_type_number version head) (type_of (head_type_number version head)) refl (not-false (is_type_of h.kind (head_type version head)) type)

-- ---- a frame

abbrev pub with_frames : HostOf → HostFrames → HostOf
with_frames h m = record h { frames = m }

flag_leaves : (version : GuestImageVersion) (head : List ℕ) → has_zero_flag version head ≡ true → leaves_out version ≡ true
flag_leaves version head is = (and_parts (leaves_out version) _ is).0

module _ (version : GuestImageVersion) (h : HostOf) where
  frame_back : (m : HostFrames) (i : List ℕ) (g : HostOf) (rest : List ℕ) → Bytes i → judged_as (host_frame_form version (with_frames h m)) i ≡ Passes g rest → Found (FrameFits h.kind h.width) (frame_text version) Frame (λ k. judged_as (host_frame_form version k)) (with_frames h) m i g rest
  frame_back m i g rest all is =
      let a = both_go (frame_head_form version (with_frames h m)) (behind_frame_head version (with_frames h m)) i g rest is in
      let head = a.x in
      let p = bytes_gone Truncated 16 (frame_causes version (with_frames h m)) i head a.mid a.first in
      let c = both_go (page_form version head) (behind_page version (with_frames h m) head) a.mid g rest a.second in
      let q = page_back version (head_pfn version head) (type_has_data (head_type version head)) (has_zero_flag version head) a.mid c.x c.mid (flag_leaves version head) c.first in
      let e = gives_gone {C = ImageCause} (put_frame (with_frames h m) (head_pfn version head) (frame_said version head c.x)) c.mid g rest c.second in
      let bytes : Bytes head = bytes_front i head a.mid p.0 all in
      let (reserved, others) = rows_fine (frame_causes version (with_frames h m) head) p.2 in
      let number = number_is version (with_frames h m) head p.2 in
      let spelled = said_head version head c.x bytes p.1 reserved number (q.left_out ∙ flag_has_data version head reserved number) in
      let text = page_text version c.x in
      record {
        e = (head_pfn version head, frame_said version head c.x);
        whole = regroup i a.mid rest head text p.0 (q.whole ∙ ap (λ l. text ++ l) e.1) ∙ ap (λ l. (l ++ text) ++ rest) (sym spelled);
        fits = frame_fits version (with_frames h m) head c.x p.2 q.in_step q.size;
        is = sym e.0;
      }

  -- frames one behind the other
  abbrev pub FramesFound : ℕ → List ℕ → HostOf → List ℕ → Type 0
  FramesFound = AllFound (FrameFits h.kind h.width) (frame_text version) Frame (λ k. judged_as (host_frame_form version k)) (with_frames h) maps.empty

  pub frames_back : (n : ℕ) (i : List ℕ) (g : HostOf) (rest : List ℕ) → Bytes i → judged_as (frames_form version (with_frames h maps.empty) n) i ≡ Passes g rest → FramesFound n i g rest
  frames_back n i g rest all is =
      chain_back (FrameFits h.kind h.width) (frame_text version) Frame (λ k. judged_as (host_frame_form version k)) (with_frames h) frame_back maps.empty n 0 i g rest all
      (sym (steps_go Frame (host_frame_form version) n (with_frames h maps.empty) i) ∙ is)

module _ (h : HostOf) where
  pub frame_entries : (es : List (ℕ × HostFrame)) → Chain (FrameFits h.kind h.width) maps.empty es → maps.entries {R = nat_cmp} (put_all maps.empty es) ≡ es
  frame_entries es chain = chain_entries nat_cmp_total (FrameFits h.kind h.width) (λ m e f. behind m e f.behind) es chain

  abbrev IsFine : HostFrames → Type 0
  IsFine m = length (maps.entries m) ≤ most_frames → IsValid (with_frames h m)

  fine_more : (m : HostFrames) (e : ℕ × HostFrame) → FrameFits h.kind h.width m e → IsFine m → IsFine (maps.insert m e.0 e.1)
  fine_more m e f fine few =
      let size = ap length (entries_behind nat_cmp_total m e.0 e.1 (behind m e f.behind)) ∙ length-append (maps.entries m) (e ∷ []) in
      let most : length (maps.entries m) ≤ most_frames = omega (arith, size, few) in
      valid_frame (with_frames h m) e.0 e.1 (fine most) f.is
      (λ q g found same. absurd (eqb-false g.machine e.1.machine (none_passes nat_cmp_total nat_cmp-IsAntisymmetric (λ x. nat_eq x.1.machine e.1.machine) m q g f.alone found) same)) few

  -- they are those of a valid host
  pub frames_valid : (es : List (ℕ × HostFrame)) → IsValid (with_frames h maps.empty) → Chain (FrameFits h.kind h.width) maps.empty es → length es ≤ most_frames → IsValid (with_frames h (put_all maps.empty es))
  frames_valid es valid chain few =
      chain_keeps nat_cmp_total (FrameFits h.kind h.width) IsFine fine_more maps.empty es chain (λ _. valid) (subst (λ l. length l ≤ most_frames) (sym (frame_entries es chain)) few)
