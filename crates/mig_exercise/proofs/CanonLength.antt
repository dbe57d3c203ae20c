-- How many bytes the canonical stream has of the guest that the host of the exercise is seen as.
use Rattle.mig_exercise.proofs.Common.{◌≡◌, ℕ, zero, suc, ◌+◌, ◌-◌, ◌*◌, ◌/◌, List, [], length, map, Bool, true, false, cond, Option, Some, None, sym, ap, subst, ◌∙◌, inl, inr, is_some, arith, nat_lt, cases_lt, nat_cmp_total, nat_cmp-IsAntisymmetric, All, nat_cmp, ◌==◌, unwrap_or, level_of, FrameOf, FrameMap, HostFrame, HostFrames, pfn_in, longs, part_cmp, p2m_key, vcpu_key, shared_key, PartMap, length_longs, part_total, part_exact, each_value, is_used_somewhere, from_each, without_machine, view, Frame, batches, canon_any, IsExerciseSize, ArePages, p2m_frame_count, first_data, exercise_page, exercise_frame, exercise_p2m_list, exercise_context, page_of_zeros, host_with, length-replicate, all_found, place_of, blanked_context, blanked_shared, shown, entries_each, len_each}
use Rattle.std.specs.FinMap.Entries.{put}
use Rattle.std.specs.Int.{div_ceil}
use Rattle.mig_pvtables.specs.Blank.{zero_page as blank_page, blanked_page, blanked_frame, blanked_part}
use Rattle.mig_host_view.specs.Localised.{renamed_page, renamed_frame, renamed_part}
use Rattle.mig_host_view.specs.RenamedContexts.{renamed_context}
use Rattle.mig_host.proofs.InOrder.{no_entries}
use Rattle.mig_exercise.specs.ExerciseHosts.{frames_up_to, exercise_parts, exercise_canon_len}
use Rattle.mig_exercise.proofs.Frames.{frame_there, frame_none}
use Rattle.mig_exercise.proofs.CanonSizes.{IsPaged, three_parts, canon_size}
use Rattle.std.specs.FinMap as maps

-- ---- parts

-- three parts set one after another
put_three : (a b c : List ℕ) → maps.entries {R = part_cmp} (maps.insert (maps.insert (maps.insert maps.empty p2m_key a) shared_key c) (vcpu_key 0) b) ≡ three_parts a b c
put_three a b c =
    let one : PartMap = maps.insert maps.empty p2m_key a in
    let two : PartMap = maps.insert one shared_key c in
    maps.entries-insert part_total two (vcpu_key 0) b ∙ ap (put part_cmp (vcpu_key 0) b) (maps.entries-insert part_total one shared_key c
    ∙ ap (put part_cmp shared_key c) (maps.entries-insert part_total maps.empty p2m_key a ∙ ap (put part_cmp p2m_key a) (no_entries part_cmp (List ℕ))))

parts_there : (n : ℕ) → maps.entries (exercise_parts n) ≡ three_parts (exercise_p2m_list n) (exercise_context n) page_of_zeros
unfolding exercise_parts
parts_there n = put_three (exercise_p2m_list n) (exercise_context n) page_of_zeros

-- three parts as they are seen
parts_seen : (pfn_of : ℕ → Option ℕ) (m : PartMap) (a b c : List ℕ) → maps.entries m ≡ three_parts a b c
    → maps.entries (each_value blanked_part (each_value (renamed_part is_used_somewhere pfn_of) m)) ≡ three_parts a (blanked_context (renamed_context is_used_somewhere pfn_of 0 b)) (blanked_shared c)
parts_seen pfn_of m a b c are =
    let rename = renamed_part is_used_somewhere pfn_of in
    entries_each part_total part_exact blanked_part (each_value rename m)
    ∙ ap (map (shown blanked_part)) (entries_each part_total part_exact rename m ∙ ap (map (shown rename)) are)

-- ---- pages

-- either of two pages
picked : (b : Bool) (x y : List ℕ) → length x ≡ 4096 → length y ≡ 4096 → length (cond b x y) ≡ 4096
picked true x y p q = p
picked false x y p q = q

numbers : (f : ℕ → ℕ) → length (longs 512 f) ≡ 4096
numbers f = length_longs 512 f

page_size : (n : ℕ) (contents : ℕ → List ℕ) → ArePages contents → (pfn : ℕ) → length (exercise_page n contents pfn) ≡ 4096
page_size n contents pages pfn =
    picked (nat_lt pfn 2) _ _ (numbers _)
    (picked (nat_lt pfn 5) _ _ (numbers _) (picked (pfn == 5) _ _ (numbers _) (picked (nat_lt pfn (first_data n)) _ _ (numbers _) (pages (pfn - first_data n)))))

blank_size : length blank_page ≡ 4096
unfolding blank_page
blank_size = length-replicate {A = ℕ} 4096 0

-- a page that is renamed or blanked keeps its length
renamed_size : (f : ℕ → Option ℕ) (level : Option ℕ) (p : Option (List ℕ)) → length (unwrap_or p []) ≡ 4096 → length (unwrap_or (renamed_page f level p) []) ≡ 4096
renamed_size f None p size = size
renamed_size f (Some level) None size = size
renamed_size f (Some level) (Some page) size = numbers _

blanked_size : (place level : Option ℕ) (p : Option (List ℕ)) → length (unwrap_or p []) ≡ 4096 → length (unwrap_or (blanked_page place level p) []) ≡ 4096
blanked_size None None p size = size
blanked_size None (Some level) None size = size
blanked_size None (Some level) (Some page) size = numbers _
blanked_size (Some k) level None size = size
blanked_size (Some k) level (Some page) size = blank_size

-- ---- frames

module _ (n : ℕ) (contents : ℕ → List ℕ) where
  -- there are as many as were set, and each has a page
  count : (m : ℕ) → length (maps.entries (frames_up_to n contents m)) ≡ m
  unfolding frames_up_to
  count zero = ap length (no_entries nat_cmp HostFrame)
  count (suc m) =
      let before = frames_up_to n contents m in
      sym (maps.len-entries (maps.insert before m (exercise_frame n contents m))) ∙ maps.len-insert nat_cmp_total before m (exercise_frame n contents m)
      ∙ ap (λ (o : Option HostFrame). cond (is_some o) (maps.len before) (maps.len before + 1)) (frame_none n contents m m (omega arith)) ∙ omega (arith, maps.len-entries before, count m)

  paged : ArePages contents → (pfn : ℕ) (f : HostFrame) → maps.get (frames_up_to n contents n) pfn ≡ Some f → length (unwrap_or f.page []) ≡ 4096
  paged pages pfn f is = elim (cases_lt pfn n) [
    | inl lt ↦
        let same : Some (exercise_frame n contents pfn) ≡ Some f = sym (frame_there n contents n pfn lt) ∙ is in
        let one : exercise_frame n contents pfn ≡ f = cc in
        subst (λ (x : HostFrame). length (unwrap_or x.page []) ≡ 4096) one (page_size n contents pages pfn)
    | inr ge ↦ let no : None ≡ Some f = sym (frame_none n contents n pfn ge) ∙ is in cc
  ]

module _ (parts : PartMap) (pfn_of : ℕ → Option ℕ) (m : HostFrames) where
  abbrev plain : FrameMap
  plain = each_value (λ pfn f. without_machine f) m

  abbrev named : FrameMap
  named = each_value (λ pfn frame. renamed_frame pfn_of frame) plain

  abbrev seen : FrameMap
  seen = each_value (blanked_frame parts) named

  -- as they are seen there are as many, each with a page still
  seen_count : length (maps.entries seen) ≡ length (maps.entries m)
  seen_count =
      len_each nat_cmp_total nat_cmp-IsAntisymmetric (blanked_frame parts) named ∙ len_each nat_cmp_total nat_cmp-IsAntisymmetric (λ pfn frame. renamed_frame pfn_of frame) plain
      ∙ len_each nat_cmp_total nat_cmp-IsAntisymmetric (λ pfn f. without_machine f) m

  seen_paged : ((pfn : ℕ) (f : HostFrame) → maps.get m pfn ≡ Some f → length (unwrap_or f.page []) ≡ 4096) → All IsPaged (maps.entries seen)
  seen_paged each = all_found nat_cmp_total nat_cmp-IsAntisymmetric IsPaged (maps.entries seen) (maps.entries_sorted seen) (λ q v is.
      let (x, at_x, same_x) = from_each nat_cmp_total nat_cmp-IsAntisymmetric (blanked_frame parts) named q v (maps.get-entries seen q ∙ is) in
      let (y, at_y, same_y) = from_each nat_cmp_total nat_cmp-IsAntisymmetric (λ pfn frame. renamed_frame pfn_of frame) plain q x at_x in
      let (z, at_z, same_z) = from_each nat_cmp_total nat_cmp-IsAntisymmetric (λ pfn f. without_machine f) m q y at_y in
      let page_y : length (unwrap_or y.page []) ≡ 4096 = subst (λ (f : FrameOf). length (unwrap_or f.page []) ≡ 4096) same_z (each q z at_z) in
      let page_x : length (unwrap_or x.page []) ≡ 4096 = subst (λ (f : FrameOf). length (unwrap_or f.page []) ≡ 4096) same_y (renamed_size pfn_of (level_of y.type) y.page page_y) in
      subst (λ (f : FrameOf). length (unwrap_or f.page []) ≡ 4096) same_x (blanked_size (place_of parts q) (level_of x.type) x.page page_x))

-- ---- the stream

batch_count : (m n : ℕ) → m ≡ n → div_ceil m 1024 ≡ (n + 1023) / 1024
batch_count m n is = omega (arith, is)

totalled : (k n len : ℕ) (fs : List Frame) → length fs ≡ n → len ≡ 9376 + 8 * k + 16 * batches fs + 4104 * length fs → len ≡ 9376 + 8 * k + 16 * ((n + 1023) / 1024) + 4104 * n
totalled k n len fs count is = omega (arith, is, count, batch_count (length fs) n count)

-- the canonical stream of the guest that the host of the exercise is seen as has this length, whatever its frames of data hold
pub exercise_canon_length : (n : ℕ) → IsExerciseSize n → (contents : ℕ → List ℕ) → ArePages contents → length (canon_any (view (host_with n contents))) ≡ exercise_canon_len n
exercise_canon_length n _ contents pages =
    let h = host_with n contents in
    let pfn_of = pfn_in h.frames in
    let parts = each_value (renamed_part is_used_somewhere pfn_of) h.parts in
    let frames = seen parts pfn_of h.frames in
    let list = exercise_p2m_list n in
    let context = blanked_context (renamed_context is_used_somewhere pfn_of 0 (exercise_context n)) in
    let shared = blanked_shared page_of_zeros in
    totalled (p2m_frame_count n) n (length (canon_any (view h))) (maps.entries frames) (seen_count parts pfn_of h.frames ∙ count n contents n)
    (canon_size (n - 1) frames (each_value blanked_part parts) list context shared (parts_seen pfn_of (exercise_parts n) list (exercise_context n) page_of_zeros (parts_there n))
    (p2m_frame_count n) (length_longs (p2m_frame_count n) _) (length_longs 646 _) (length_longs 512 _) (seen_paged parts pfn_of h.frames (paged n contents pages)))
