-- The pages, the order and the length of an image, in the words of the form.
use Rattle.mig_image.proofs.Common.{◌≡◌, ℕ, zero, suc, ◌+◌, ◌*◌, ◌<◌, Bool, true, false, cond, not, nat_eq, List, [], ◌∷◌, ◌++◌, length, Option, Some, None, is_some, refl, sym, ap, ◌∙◌, arith, length-append, append-nil, ◌&&◌, T, flat_map, AllByRecursion, and_from, and_parts, eq-eqb, eqb-true, true≢false, nat_cmp_total, nat_cmp, nat_cmp-IsAntisymmetric, is_sorted, little_bytes, HostOf, HostFrame, GuestImageVersion, One, Two, frame_text, is_all_zero, is_left_out, most_width_of, page_text, part_text, IsValid, subst, ◌≤◌, filter, get_or, unwrap_or, below_all, each_entry, nat_rises}
use Rattle.std.specs.FinMap as maps
use Rattle.mig_guest.proofs.PartCursor.{both_of}
use Rattle.mig_image.specs.GuestImage.{frame_head_of, host_head, guest_image}
use Rattle.mig_image.specs.GuestImageLaws.{HasZeroPage, HostsHaveGuestImages, IsGuestImageIn, FlagsSayZero, UnsentAreZero, IsAscending, sends_page, GuestImagesHaveSizes}
use Rattle.mig_image.proofs.FrameHeads.{head_len, says}
use Rattle.mig_image.proofs.ImageReads.{held}

-- ---- pages that are all zero

pub each_zero : (page : List ℕ) → is_all_zero page ≡ true → (place : ℕ) → place < length page → get_or page place 0 ≡ 0
each_zero [] all place less = absurd (omega arith)
each_zero (x ∷ xs) all zero less = eqb-true x 0 (and_parts (nat_eq x 0) (is_all_zero xs) all).0
each_zero (x ∷ xs) all (suc place) less = each_zero xs (and_parts (nat_eq x 0) (is_all_zero xs) all).1 place (omega (arith, less))

pub zero_each : (page : List ℕ) → ((place : ℕ) → place < length page → get_or page place 0 ≡ 0) → is_all_zero page ≡ true
zero_each [] each = refl
zero_each (x ∷ xs) each =
    and_from (nat_eq x 0) (is_all_zero xs) (eq-eqb x 0 (each zero (omega arith))) (zero_each xs (λ place less. each (suc place) (omega (arith, less))))

left_out_zero : (frame : HostFrame) → is_left_out Two frame.page ≡ true → HasZeroPage frame
left_out_zero frame left_out = by frame.page refl left_out
  where
    by : (o : Option (List ℕ)) → frame.page ≡ o → is_left_out Two o ≡ true → HasZeroPage frame
    by None is h = absurd (true≢false (sym h))
    by (Some page) is h = record { page = page; there = is; zero = each_zero page h }

zero_left_out : (frame : HostFrame) → HasZeroPage frame → is_left_out Two frame.page ≡ true
zero_left_out frame z = ap (is_left_out Two) z.there ∙ zero_each z.page z.zero

pub flags_say_zero : FlagsSayZero
flags_say_zero kind width pfn frame wide is =
    let below : pfn < most_width_of Two = omega (arith, is.inside, wide) in
    let flag = (says Two (pfn, frame) below is.in_step is.machine).flag in
    ((λ set. left_out_zero frame (sym flag ∙ set)), (λ z. flag ∙ zero_left_out frame z))

-- of a page that is there nothing is sent where it is left out
unsent : (page : List ℕ) → length page ≡ 4096 → page_text Two (Some page) ≡ [] → is_left_out Two (Some page) ≡ true
unsent page size none = by (is_all_zero page) refl none
  where
    by : (b : Bool) → is_all_zero page ≡ b → cond b [] page ≡ [] → b ≡ true
    by true is none = refl
    by false is none = absurd (omega (arith, size, ap length none))

pub unsent_are_zero : UnsentAreZero
unsent_are_zero kind width pfn frame is some = (to, λ z. ap (λ b. cond b [] (unwrap_or frame.page [])) (zero_left_out frame z))
  where
    to : page_text Two frame.page ≡ [] → HasZeroPage frame
    to none = by frame.page refl none
      where
        by : (o : Option (List ℕ)) → frame.page ≡ o → page_text Two o ≡ [] → HasZeroPage frame
        by None at h = absurd (true≢false (sym some ∙ sym is.in_step ∙ ap is_some at))
        by (Some page) at h = left_out_zero frame (ap (is_left_out Two) at ∙ unsent page (is.whole page at) h)

-- ---- images and hosts

in_version : (version : GuestImageVersion) (h : HostOf) → IsValid h → h.width ≤ most_width_of version → (text : List ℕ) × IsGuestImageIn version text h
in_version version h valid holds = (guest_image version h, record { image = record { version = version; valid = valid; holds = holds; spelled = sym (append-nil (guest_image version h)) }; in_version = refl })

spelled_in : (version : GuestImageVersion) (text : List ℕ) (h : HostOf) → IsGuestImageIn version text h → text ≡ guest_image version h
spelled_in version text h is = is.image.spelled ∙ append-nil (guest_image is.image.version h) ∙ ap (λ v. guest_image v h) is.in_version

pub hosts_have_guest_images : HostsHaveGuestImages
hosts_have_guest_images = record {
  two = λ h valid. in_version Two h valid (held h valid);
  one = λ h valid narrow. in_version One h valid narrow;
  narrow = λ text h is. subst (λ v. h.width ≤ most_width_of v) is.in_version is.image.holds;
  same = λ version text other h a b. spelled_in version text h a ∙ sym (spelled_in version other h b);
}

-- ---- the order

below_later : (pfn : ℕ) (es : List (ℕ × HostFrame)) → T (below_all nat_cmp pfn es) → AllByRecursion (λ later. pfn < later.0) es
below_later pfn [] h = tt
below_later pfn (e ∷ es) h = let (first, others) = both_of _ _ h in (nat_rises pfn e.0 first, below_later pfn es others)

ascending : (es : List (ℕ × HostFrame)) → T (is_sorted nat_cmp es) → IsAscending es
ascending [] h = tt
ascending (e ∷ es) h = let (first, others) = both_of _ _ h in (below_later e.0 es first, ascending es others)

pub frames_ascend : (h : HostOf) → IsAscending (maps.entries h.frames)
frames_ascend h = ascending (maps.entries h.frames) (maps.entries_sorted h.frames)

-- ---- the length

abbrev IsSizedPage : HostFrame → Type 0
IsSizedPage frame = (page : List ℕ) → frame.page ≡ Some page → length page ≡ 4096

frame_size : (version : GuestImageVersion) (e : ℕ × HostFrame) → IsSizedPage e.1 → length (frame_text version e) ≡ 16 + 4096 * length (cond (sends_page version e) (e ∷ []) [])
frame_size version e sized =
    length-append (frame_head_of version e.0 e.1) (page_text version e.1.page) ∙ ap (λ n. n + length (page_text version e.1.page)) (head_len version e.0 e.1)
    ∙ ap (λ n. 16 + n) (by e.1.page sized)
  where
    by : (o : Option (List ℕ)) → ((page : List ℕ) → o ≡ Some page → length page ≡ 4096) → length (page_text version o) ≡ 4096 * length (cond (is_some o && not (is_left_out version o)) (e ∷ []) [])
    by None sized = refl
    by (Some page) sized = sent (is_left_out version (Some page))
      where
        sent : (b : Bool) → length (cond b [] page) ≡ 4096 * length (cond (not b) (e ∷ []) [])
        sent true = refl
        sent false = sized page refl

frames_size : (version : GuestImageVersion) (es : List (ℕ × HostFrame)) → AllByRecursion (λ e. IsSizedPage e.1) es → length (flat_map (frame_text version) es) ≡ 16 * length es + 4096 * length (filter (sends_page version) es)
frames_size version [] sized = refl
frames_size version (e ∷ es) sized =
    let one = frame_size version e sized.0 in
    let others = frames_size version es sized.1 in
    let kept : length (filter (sends_page version) (e ∷ es)) ≡ length (cond (sends_page version e) (e ∷ []) []) + length (filter (sends_page version) es) = by (sends_page version e) in
    length-append (frame_text version e) (flat_map (frame_text version) es) ∙ omega (arith, one, others, kept)
  where
    by : (b : Bool) → length (cond b (e ∷ filter (sends_page version) es) (filter (sends_page version) es)) ≡ length (cond b (e ∷ []) []) + length (filter (sends_page version) es)
    by true = omega arith
    by false = omega arith

head_size : (version : GuestImageVersion) (h : HostOf) → length (host_head version h) ≡ 32
unfolding host_head
head_size One h = refl
head_size Two h = refl

pub guest_images_have_sizes : GuestImagesHaveSizes
unfolding guest_image
guest_images_have_sizes version h valid =
    let es = maps.entries h.frames in
    let parts = flat_map part_text (maps.entries h.parts) in
    let count = little_bytes 8 (length (maps.entries h.parts)) in
    let sized = each_entry nat_cmp_total nat_cmp-IsAntisymmetric (λ pfn frame. IsSizedPage frame) h.frames (λ pfn frame is. (valid.frames pfn frame is).whole) in
    let first = length-append (host_head version h) (flat_map (frame_text version) es ++ (count ++ parts)) in
    let second = length-append (flat_map (frame_text version) es) (count ++ parts) in
    let third = length-append count parts in
    omega (arith, first, second, third, head_size version h, frames_size version es sized)
