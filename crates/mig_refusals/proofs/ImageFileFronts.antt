-- Fronts of bytes are spelled as an image spells the frames and parts of a valid host.
use Rattle.mig_refusals.proofs.Common.{◌≡◌, ℕ, ◌<◌, ◌≤◌, List, [], ◌++◌, length, refl, sym, ap, subst, ◌∙◌, arith, append-nil, append_assoc, append_cancel_right, All-append, All-from_recursion, flat_map, little_bytes, bytes_back, bytes_front, AreBytes, le32, le64, kind_of_number, HostOf, IsValid, most_width, part_cmp, PartMap, PartKey, valid_empty, no_entries, put_all, frame_entries, frames_said, frames_valid, image_back, part_entries, parts_said, parts_valid, with_parts, GuestImageVersion, frame_text, host_head, guest_image, part_text, head_version, opened, said_passes, host_parts_form, host_head_causes, host_head_form, count_form, behind_frames, behind_head, guest_image_form, None, most_frames, Bytes, begins_paired, begins_then, bytes_spelled, gives_begins, paired_begins, retold_begins, then_begins, whole_begins, none_is, begins_passes, passes_is_spelled, head_fine, all_frames, up_to_count, head_and_frames, count_and_parts}
use Rattle.std.specs.FinMap as maps
use Rattle.mig_bytes_form.specs.Form.{FormOf, BeginsAs, SpelledAs, steps_form}
use Rattle.mig_bytes_form.specs.Form.{judged_as}
use Rattle.mig_bytes_form.proofs.ByParts.{placed_goes}
use Rattle.mig_headers.specs.declared.image_fault.ImageCause.TheVariants.{Truncated}
use Rattle.mig_headers.specs.declared.image_fault.ImagePlace.TheVariants as places
use Rattle.mig_refusals.specs.ImageFileFronts.{EndsInFrames, EndsInParts}
use Rattle.mig_refusals.proofs.ImageFilePlaces.{head_frames, placed_head, placed_count, told_frames}

-- the number of no parts
abbrev none : List ℕ
none = little_bytes 8 0

zeros : Bytes none
zeros = let z : 0 < 256 = omega arith in (z, (z, (z, (z, (z, (z, (z, (z, tt))))))))

none_begins : BeginsAs placed_count none 0 []
unfolding le64 judged_as
none_begins = passes_is_spelled placed_count none 0 [] (placed_goes places.Parts count_form none 0 [] refl)

no_parts_begin : (framed : HostOf) → BeginsAs (host_parts_form framed 0) [] framed []
unfolding steps_form
no_parts_begin framed = gives_begins framed []

same_head : (version : GuestImageVersion) (h : HostOf) (m : PartMap) → host_head version (with_parts h m) ≡ host_head version h
unfolding host_head
same_head version h m = refl

-- what the number of parts is
number_of_parts : (i : List ℕ) (count : ℕ) (rest : List ℕ) → BeginsAs placed_count i count rest → (number : List ℕ) × (i ≡ number ++ rest) × (length number ≡ 8) × (count ≡ le64 number 0)
unfolding judged_as
number_of_parts i count rest begins =
    let s = said_passes Truncated (λ _. None) (λ b. le64 b 0) 8 i count rest (begins_passes count_form i count rest (retold_begins (λ c. (places.Parts, c)) count_form i count rest begins)) in
    (s.bytes, s.whole, s.size, sym s.value)

-- a front of more
begins_more : {C X : Type 0} (f : FormOf C X) (i : List ℕ) (x : X) (rest more : List ℕ) → BeginsAs f i x rest → BeginsAs f (i ++ more) x (rest ++ more)
begins_more f i x rest more (bytes, is, spelled) = (bytes, ap (λ l. l ++ more) is ∙ append_assoc bytes rest more, spelled)

module _ (widest : ℕ) (few_widths : widest ≤ most_width) where
  frames_begin : (front head : List ℕ) (n : ℕ) (h : HostOf) → Bytes front → n ≤ le64 head 24 → BeginsAs (head_and_frames widest n) front (head, h) [] → EndsInFrames widest front head n h
  frames_begin front head n h bytes within begins =
      let (mid, starts, framed) = begins_paired (placed_head widest) (head_frames n) front head h [] begins in
      let (start, whole, spelled) = retold_begins (λ c. (places.Head, c)) (host_head_form widest) front head mid starts in
      let (is, faultless, size, none) = bytes_spelled Truncated 32 (host_head_causes widest) start head spelled in
      let said = head_fine widest head (none_is (host_head_causes widest head) none) in
      let s = frames_said (head_version head) (opened head) n mid h [] (bytes_back front start mid whole bytes) (begins_passes (head_frames n head) mid h [] framed) in
      let entries : maps.entries h.frames ≡ s.es = ap (λ (g : HostOf). maps.entries g.frames) s.is ∙ frame_entries (opened head) s.es s.chain in
      let few : length s.es ≤ most_frames = omega (arith, s.size, within, said.few) in
      let narrow : le64 head 16 ≤ most_width = omega (arith, few_widths, said.narrow) in
      let empty = valid_empty (kind_of_number (le32 head 8)) (le64 head 16) narrow said.some_width said.pv_narrow in
      let text = flat_map (frame_text (head_version head)) in
      record {
        faultless = faultless;
        spelled = whole ∙ ap (λ l. l ++ mid) is ∙ ap (λ l. head ++ l) (s.whole ∙ append-nil (text s.es) ∙ ap text (sym entries));
        size = ap length entries ∙ s.size;
        no_parts = ap (λ (g : HostOf). g.parts) s.is;
        valid = subst IsValid (sym s.is) (frames_valid (opened head) s.es empty s.chain few);
      }

  pub frames_spelled : (front head : List ℕ) (n : ℕ) (h : HostOf) → Bytes front → n ≤ le64 head 24 → SpelledAs (head_and_frames widest n) front (head, h) → EndsInFrames widest front head n h
  frames_spelled front head n h bytes within spelled = frames_begin front head n h bytes within (whole_begins (head_and_frames widest n) front (head, h) spelled)

  -- a head and all its frames are the front of the image of their host
  record Framed (front : List ℕ) (h : HostOf) : Type 0 where
    pub version : GuestImageVersion
    pub spelled : front ≡ host_head version h ++ flat_map (frame_text version) (maps.entries h.frames)
    pub no_parts : h.parts ≡ maps.empty
    pub valid : IsValid h

  all_framed : (front : List ℕ) (h : HostOf) → Bytes front → SpelledAs (all_frames widest) front h → Framed front h
  unfolding guest_image guest_image_form
  all_framed front h bytes spelled =
      let b = begins_then (placed_head widest) told_frames front h [] (whole_begins (all_frames widest) front h spelled) in
      let f = frames_begin front b.x (le64 b.x 24) h bytes (omega arith) (paired_begins (placed_head widest) (head_frames (le64 b.x 24)) front b.mid b.x h [] b.first b.then) in
      let counted = then_begins placed_count (host_parts_form h) none [] 0 h [] none_begins (no_parts_begin h) in
      let behind = then_begins (told_frames b.x) behind_frames (b.mid ++ none) none h h [] (begins_more (told_frames b.x) b.mid h [] none b.then) counted in
      let begins = then_begins (placed_head widest) behind_head (front ++ none) (b.mid ++ none) b.x h [] (begins_more (placed_head widest) front b.x b.mid none b.first) behind in
      let all : AreBytes (front ++ none) = All-append (λ b. b < 256) front none (All-from_recursion (λ b. b < 256) front bytes) (All-from_recursion (λ b. b < 256) none zeros) in
      let im = (image_back widest (front ++ none) h [] few_widths all (begins_passes (guest_image_form widest) (front ++ none) h [] begins)).image in
      let frames = flat_map (frame_text im.version) (maps.entries h.frames) in
      let empty : maps.entries h.parts ≡ [] = ap maps.entries f.no_parts ∙ no_entries part_cmp (List ℕ) in
      let tail = ap (λ (es : List (PartKey × List ℕ)). little_bytes 8 (length es) ++ flat_map part_text es) empty in
      record {
        version = im.version;
        spelled = append_cancel_right front (host_head im.version h ++ frames) none (im.spelled ∙ append-nil (guest_image im.version h) ∙ ap (λ l. host_head im.version h ++ (frames ++ l)) tail ∙ sym (append_assoc (host_head im.version h) frames none));
        no_parts = f.no_parts;
        valid = f.valid;
      }

  pub parts_spelled : (front : List ℕ) (count n : ℕ) (framed h : HostOf) → Bytes front → SpelledAs (count_and_parts widest n) front ((framed, count), h) → EndsInParts front count n h
  parts_spelled front count n framed h bytes spelled =
      let (mid, starts, ends) = begins_paired (up_to_count widest) (λ c. host_parts_form c.0 n) front (framed, count) h [] (whole_begins (count_and_parts widest n) front ((framed, count), h) spelled) in
      let (behind, frames_first, counts) = begins_paired (all_frames widest) (λ _. placed_count) front framed count mid starts in
      let (before, whole, frames_spelled) = frames_first in
      let (number, is, size, number_is) = number_of_parts behind count mid counts in
      let f = all_framed before framed (bytes_front front before behind whole bytes) frames_spelled in
      let v = f.version in
      let bare : framed ≡ with_parts framed maps.empty = ap (with_parts framed) f.no_parts in
      let in_parts = bytes_back behind number mid is (bytes_back front before behind whole bytes) in
      let s = parts_said framed n mid h [] in_parts (ap (λ g. judged_as (host_parts_form g n) mid) (sym bare) ∙ begins_passes (host_parts_form framed n) mid h [] ends) in
      let entries : maps.entries h.parts ≡ s.es = ap (λ (g : HostOf). maps.entries g.parts) s.is ∙ part_entries framed s.es s.chain in
      let head : host_head v framed ≡ host_head v h = sym (ap (host_head v) s.is ∙ same_head v framed (put_all maps.empty s.es)) in
      let frames : maps.entries framed.frames ≡ maps.entries h.frames = sym (ap (λ (g : HostOf). maps.entries g.frames) s.is) in
      let parts : mid ≡ flat_map part_text (maps.entries h.parts) = s.whole ∙ append-nil (flat_map part_text s.es) ∙ ap (flat_map part_text) (sym entries) in
      let text = flat_map (frame_text v) in
      record {
        version = v;
        number = number;
        number_size = size;
        number_is = number_is;
        spelled = whole ∙ ap (λ l. l ++ behind) f.spelled ∙ append_assoc (host_head v framed) (text (maps.entries framed.frames)) behind ∙ (λ at. head at ++ (text (frames at) ++ (is ∙ ap (λ l. number ++ l) parts) at));
        size = ap length entries ∙ s.size;
        valid = subst IsValid (sym s.is) (parts_valid framed s.es (subst IsValid bare f.valid) s.chain);
      }
