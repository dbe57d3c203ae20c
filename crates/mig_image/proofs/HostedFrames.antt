-- The frames of the host that an HVM guest becomes, written from frames that come from elsewhere.
use Rattle.mig_image.proofs.Common.{◌≡◌, ℕ, ◌+◌, ◌-◌, ◌*◌, ◌<◌, ◌≤◌, ◌^◌, zero, suc, List, [], ◌∷◌, ◌++◌, length, take, drop, Option, Some, None, refl, sym, ap, subst, ◌∙◌, arith, append_assoc, drop-drop, length-append, take-append-drop, flat_map, codes, little_bytes, Hvm, Pv, Kind, HostFrame, HostOf, PartMap, kind_number, each_entry, nat_cmp, nat_cmp_total, nat_cmp-IsAntisymmetric, common_steps, ◌%◌, IsFormed, GuestOf, with_machine, parts_text, frame_head_of, frame_text, guest_image, page_text, AreFrames, HoldsPages, Two}
use Rattle.std.proofs.Math.Seq.{drop-append_seam, take-append_seam}
use Rattle.std.proofs.lemmas.List.{drop-take}
use Rattle.std.proofs.Common.{Bor}
use Rattle.std.specs.Array.{IsWholeChunk}
use Rattle.std.specs.FinMap as maps
use Rattle.std.specs.Option.{MatchOption}
use Rattle.std.specs.Ordering.{ord_max}
use Rattle.std.specs.Prelude.{max, ◌≢◌}
use Rattle.mig_guest.specs.Frames.{FrameMap, FrameOf, IsFrame}
use Rattle.mig_host.proofs.CountedUp.{counted_behind, counted_length, frames_hosted, hosted_frames, hosted_parts, hosted_wide}
use Rattle.mig_host.proofs.HostedGuests.{base_inside}
use Rattle.mig_host.specs.Hosted.{CanBeHosted, hosted, hosted_width, least_width, mfn_in, with_machines_from}
use Rattle.mig_host_view.proofs.LocalisedGuests.{count_localised, from_localised}
use Rattle.mig_host_view.specs.Localised.{localised, localised_of}
use Rattle.mig_image.specs.Behind.{counted_image}
use Rattle.mig_image.proofs.FrameHeads.{head_len}
use Rattle.mig_image.proofs.Writers.{image_is}
use Rattle.mig_records_pages.specs.PageData.{Frame, page_in, pages_of}

-- an array that was taken of a part has its bytes
pub taken : (part : List ℕ) (n : ℕ) {o : Option (Bor (List ℕ))} {array : Bor (List ℕ)} → o ≡ Some array → MatchOption o (length part ≢ n) (λ y. IsWholeChunk part y.now n) → array.now ≡ part
taken part n is cases = (subst (λ (o : Option (Bor (List ℕ))). MatchOption o (length part ≢ n) (λ y. IsWholeChunk part y.now n)) is cases).same

pub greater_is : (a b : ℕ) → ord_max nat_cmp a b ≡ max a b
greater_is a b = grind (arith, common_steps)

-- ---- pages that stand in a buffer

-- how many bytes come with a frame say whether it has a page
page_said : (f : FrameOf) (pfn some : ℕ) (page : Option (List ℕ)) (rest : List ℕ) → IsFrame f → length (page_in (pfn, f)) ≡ 4096 * some → some ≤ 1
    → (some ≡ 0 → page ≡ None) → (0 < some → page ≡ Some (take 4096 (page_in (pfn, f) ++ rest))) → page ≡ f.page
page_said f pfn some page rest is size few none there = by f.page refl
  where
    by : (o : Option (List ℕ)) → f.page ≡ o → page ≡ o
    by None is_none = none (omega (arith, sym size ∙ ap (λ (o : Option (List ℕ)). length (page_in (pfn, record { type = f.type; page = o }))) is_none))
    by (Some bytes) is_some =
        let whole : length bytes ≡ 4096 = is.whole bytes is_some in
        let same : page_in (pfn, f) ≡ bytes = ap (λ (o : Option (List ℕ)). page_in (pfn, record { type = f.type; page = o })) is_some in
        there (omega (arith, sym size ∙ ap length same, whole))
        ∙ ap (λ (l : List ℕ). Some (take 4096 (l ++ rest))) same ∙ ap (λ n. Some (take n (bytes ++ rest))) (sym whole) ∙ ap Some (take-append_seam bytes rest)

module _ (buffer : List ℕ) (f : Frame) (fs : List Frame) (at some : ℕ) (size : length (page_in f) ≡ 4096 * some) (held : HoldsPages (drop at buffer) (f ∷ fs)) where
  -- the page of the first frame, and then those of the others
  begins : drop at buffer ≡ page_in f ++ (pages_of fs ++ held.rest)
  begins = held.is ∙ append_assoc (page_in f) (pages_of fs) held.rest

  pub page_is : (page : Option (List ℕ)) → some ≤ 1 → (some ≡ 0 → page ≡ None) → (0 < some → page ≡ Some (take 4096 (drop at buffer))) → page ≡ f.1.page
  page_is page few none there = page_said f.1 f.0 some page (pages_of fs ++ held.rest) held.frames.0 size few none (λ lt. there lt ∙ ap (λ (l : List ℕ). Some (take 4096 l)) begins)

  pub pages_behind : HoldsPages (drop (at + 4096 * some) buffer) fs
  pages_behind = record {
    frames = held.frames.1;
    rest = held.rest;
    is = sym (drop-drop (4096 * some) at buffer) ∙ ap (λ n. drop n (drop at buffer)) (sym size) ∙ ap (drop (length (page_in f))) begins ∙ drop-append_seam (page_in f) (pages_of fs ++ held.rest);
  }

-- ---- frames up to a place

-- of the frames that are taken, the next one
pub taken_next : (i n : ℕ) (fs rest : List Frame) (f : Frame) → drop i fs ≡ f ∷ rest → i < n → drop i (take n fs) ≡ f ∷ take (n - i - 1) rest
taken_next i n fs rest f here less =
    let left : n ≡ i + suc (n - i - 1) = omega (arith, less) in
    ap (λ m. drop i (take m fs)) left ∙ drop-take i (suc (n - i - 1)) fs ∙ ap (take (suc (n - i - 1))) here

-- the next of the frames with their machine frames
pub counted_next : (i machine : ℕ) (fs rest : List Frame) (f : Frame) → drop i fs ≡ f ∷ rest → drop i (with_machines_from machine fs) ≡ (f.0, with_machine f.1 (machine + i)) ∷ with_machines_from (machine + i + 1) rest
counted_next i machine fs rest f here = counted_behind i machine fs ∙ ap (with_machines_from (machine + i)) here

-- a sum that has 64 bits doesn't wrap
pub unwrapped : (a b : ℕ) → a + b < 2 ^ 64 → (a + b) % 2 ^ 64 ≡ a + b
unwrapped a b small = omega (arith, small)

-- frames up to a place are frames
pub frames_within : (n : ℕ) (fs : List Frame) → AreFrames fs → AreFrames (take n fs)
frames_within zero fs are = tt
frames_within (suc n) [] are = tt
frames_within (suc n) (f ∷ fs) are = (are.0, frames_within n fs are.1)

pub frames_from_place : (n : ℕ) (fs : List Frame) → AreFrames fs → AreFrames (drop n fs)
frames_from_place zero fs are = are
frames_from_place (suc n) [] are = tt
frames_from_place (suc n) (f ∷ fs) are = frames_from_place n fs are.1

-- frames behind so many, with machine frames behind as many
pub counted_here : (base done machine : ℕ) (all fs : List Frame) → fs ≡ drop done all → machine ≡ base + done → with_machines_from machine fs ≡ drop done (with_machines_from base all)
counted_here base done machine all fs here is = (λ i. with_machines_from (is i) (here i)) ∙ sym (counted_behind done base all)

-- a buffer into which the pages of so many frames were put holds them
pub buffer_holds : (n pages : ℕ) (buffer : List ℕ) (fs : List Frame) → AreFrames fs → take (4096 * pages) buffer ≡ pages_of (take n fs) → HoldsPages buffer (take n fs)
buffer_holds n pages buffer fs are is = record {
  frames = frames_within n fs are;
  rest = drop (4096 * pages) buffer;
  is = sym (take-append-drop (4096 * pages) buffer) ∙ ap (λ l. l ++ drop (4096 * pages) buffer) is;
}

-- a text of frames is empty only where there are none
pub some_frames : (es : List (ℕ × HostFrame)) → 0 < length es → 0 < length (flat_map (frame_text Two) es)
some_frames [] some = absurd (omega (arith, some))
some_frames (e ∷ es) some = omega (arith, length-append (frame_text Two e) (flat_map (frame_text Two) es), length-append (frame_head_of Two e.0 e.1) (page_text Two e.1.page), head_len Two e.0 e.1)

-- ---- the image

-- the frames of a guest are frames
pub guest_frames : (g : GuestOf) → IsFormed g → AreFrames (maps.entries g.frames)
guest_frames g formed = each_entry nat_cmp_total nat_cmp-IsAntisymmetric (λ pfn f. IsFrame f) g.frames (λ pfn f found. (formed.frames pfn f found).is)

-- what is written piece by piece is the image of frames with machine frames counted up
pub pieces_are : (kind : Kind) (width base : ℕ) (fs : List Frame) (parts : PartMap) (head : List ℕ) (frames : ℕ)
    → head ≡ codes "XGIMAGE2" ++ (little_bytes 4 (kind_number kind) ++ (little_bytes 4 0 ++ (little_bytes 8 width ++ little_bytes 8 frames))) → frames ≡ length fs
    → counted_image kind width base fs parts ≡ head ++ (flat_map (frame_text Two) (with_machines_from base fs) ++ parts_text parts)
pieces_are kind width base fs parts head frames is many =
    ap (λ (l : List ℕ). l ++ (flat_map (frame_text Two) (with_machines_from base fs) ++ parts_text parts))
    (ap (λ n. codes "XGIMAGE2" ++ (little_bytes 4 (kind_number kind) ++ (little_bytes 4 0 ++ (little_bytes 8 width ++ little_bytes 8 n)))) (sym many) ∙ sym is)

-- it is the image of a host with these numbers, frames and parts
counted_host : (h : HostOf) (kind : Kind) (width base : ℕ) (fs : List Frame) (parts : PartMap) → kind ≡ h.kind → width ≡ h.width → maps.entries h.frames ≡ with_machines_from base fs → h.parts ≡ parts
    → guest_image Two h ≡ counted_image kind width base fs parts
counted_host h kind width base fs parts k w all same =
    let count : length fs ≡ maps.len h.frames = sym (counted_length base fs) ∙ ap length (sym all) ∙ sym (maps.len-entries h.frames) in
    let head = codes "XGIMAGE2" ++ (little_bytes 4 (kind_number kind) ++ (little_bytes 4 0 ++ (little_bytes 8 width ++ little_bytes 8 (length fs)))) in
    image_is h head kind width (length fs) refl k w count
    ∙ ap (λ (es : List (ℕ × HostFrame)). head ++ (flat_map (frame_text Two) es ++ parts_text h.parts)) all
    ∙ ap (λ ps. head ++ (flat_map (frame_text Two) (with_machines_from base fs) ++ parts_text ps)) same

-- the image of the host that an HVM guest becomes
pub hosted_image : (g : GuestOf) (base : ℕ) (fs : List Frame) (width : ℕ) (parts : PartMap) → g.kind ≡ Hvm → fs ≡ maps.entries g.frames → width ≡ least_width fs → parts ≡ g.parts
    → guest_image Two (hosted g base) ≡ counted_image Hvm width base fs parts
hosted_image g base fs width parts hvm is wide same =
    counted_host (hosted g base) Hvm width base fs parts (sym hvm) (wide ∙ ap least_width is ∙ sym (hosted_wide g base hvm))
    (hosted_frames g base hvm ∙ ap (with_machines_from base) (sym is)) (hosted_parts g base hvm ∙ sym same)

-- ---- where it can be hosted

module _ (g : GuestOf) (base : ℕ) (fs : List Frame) (is : fs ≡ maps.entries g.frames) (fits : CanBeHosted base g) where
  pub are_frames : AreFrames fs
  are_frames = subst AreFrames (sym is) (guest_frames g fits.whole.formed)

  -- machine frames have 64 bits
  pub machines_fit : base + length fs ≤ 2 ^ 64
  machines_fit = let inside = base_inside g base fits.inside in omega (arith, inside.1, ap length is)

-- ---- a PV guest as it stands in the machine

module _ (g there : GuestOf) (base : ℕ) (map : FrameMap) (fs : List Frame) (is : fs ≡ maps.entries map) (same : record there { frames = map } ≡ localised (mfn_in g.frames base) g) where
  -- the image of the host that the guest becomes
  pub localised_image : g.kind ≡ Pv → (width : ℕ) (parts : PartMap) → width ≡ there.top + 1 → parts ≡ there.parts → guest_image Two (hosted g base) ≡ counted_image Pv width base fs parts
  localised_image pv width parts wide alike =
      let top : there.top ≡ g.top = ap (λ (h : GuestOf). h.top) same ∙ ap (λ (k : Kind). (localised_of k (mfn_in g.frames base) g).top) pv in
      counted_host (hosted g base) Pv width base fs parts (sym pv) (wide ∙ ap (λ n. n + 1) top ∙ sym (ap (λ k. hosted_width k g) pv))
      (frames_hosted g base ∙ ap (λ (h : GuestOf). with_machines_from base (maps.entries h.frames)) (sym same) ∙ ap (with_machines_from base) (sym is))
      (sym (ap (λ (h : GuestOf). h.parts) same) ∙ sym alike)

  module _ (fits : CanBeHosted base g) where
    pub are_localised : AreFrames fs
    are_localised =
        subst AreFrames (ap (λ (h : GuestOf). maps.entries h.frames) (sym same) ∙ sym is)
        (each_entry nat_cmp_total nat_cmp-IsAntisymmetric (λ pfn f. IsFrame f) (localised (mfn_in g.frames base) g).frames (λ pfn y found.
        let (x, at, type, keeps) = from_localised (mfn_in g.frames base) g.kind g pfn y found in keeps (fits.whole.formed.frames pfn x at).is))

    pub machines_localised : base + length fs ≤ 2 ^ 64
    machines_localised =
        let inside = base_inside g base fits.inside in
        omega (arith, inside.1, ap length is, ap (λ (h : GuestOf). length (maps.entries h.frames)) same, count_localised (mfn_in g.frames base) g.kind g)
