-- The image of a valid host is read as this host.
use Rattle.mig_image.proofs.Common.{◌≡◌, ℕ, ◌^◌, ◌<◌, ◌≤◌, false, not, nat_eq, nat_lt, List, [], ◌++◌, length, None, refl, sym, ap, ◌∙◌, arith, append_assoc, ◌&&◌, flat_map, or_from, le-ltb, ne_eqb, little_bytes, little_number-reads_back, Passes, same_passes, kind_number, kind_of_number, Truncated, Head, Frame, Parts, Part, Kind, Pv, Hvm, HostOf, IsValid, frame_text, part_text, IsGuestImage, IsGuestImageUpTo, GuestImageVersion, One, Two, ◌||◌, head_version, top_limit, most_width, most_width_of, name_number, version_named, opened, behind_head, no_fault, Bool, placed_form, judged_as, first_named, host_head_causes, host_head_form, host_frame_form, host_part_form, frames_form, host_parts_form, count_form, behind_frames, guest_image_form, host_at, bytes_go, placed_goes, then_goes, steps_go, said_goes, most_frames}
use Rattle.std.specs.FinMap as maps
use Rattle.mig_bytes.specs.Fields.{le32, le64, be64}
use Rattle.mig_headers.proofs.KindNumbers.{kind_back}
use Rattle.mig_image.specs.GuestImage.{host_head, guest_image}
use Rattle.mig_image.proofs.Chains.{chain_goes}
use Rattle.mig_image.proofs.Frames.{frames_chain, frames_same, frames_within, with_frames, FrameFits, frame_goes}
use Rattle.mig_image.proofs.Parts.{parts_chain, parts_same, parts_few, with_parts, PartFits, part_goes, IsPvNarrow, valid_narrow}

-- ---- the head

kind_small : (kind : Kind) → kind_number kind < 2 ^ 32
kind_small Pv = omega arith
kind_small Hvm = omega arith

head_len : (version : GuestImageVersion) (h : HostOf) → length (host_head version h) ≡ 32
unfolding host_head
head_len One h = refl
head_len Two h = refl

kind_known : (kind : Kind) → (not (nat_eq (kind_number kind) 1) && not (nat_eq (kind_number kind) 2)) ≡ false
kind_known Pv = refl
kind_known Hvm = refl

name_known : (version : GuestImageVersion) → (not (nat_eq (name_number version) (name_number One)) && not (nat_eq (name_number version) (name_number Two))) ≡ false
name_known One = refl
name_known Two = refl

version_back : (version : GuestImageVersion) → version_named (name_number version) ≡ version
version_back One = refl
version_back Two = refl

abbrev is_wide : ℕ → GuestImageVersion → ℕ → ℕ → Bool
is_wide widest version kind width = nat_lt widest width || (nat_lt (most_width_of version) width || (nat_eq kind 1 && (nat_eq width 0 || nat_lt top_limit width)))

not_wide : (widest : ℕ) (version : GuestImageVersion) (kind : Kind) (width : ℕ) → width ≤ widest → width ≤ most_width_of version → (kind ≡ Pv → 0 < width) → IsPvNarrow kind width → is_wide widest version (kind_number kind) width ≡ false
not_wide widest version kind width narrow holds some pv_narrow =
    or_from (nat_lt widest width) (nat_lt (most_width_of version) width || (nat_eq (kind_number kind) 1 && (nat_eq width 0 || nat_lt top_limit width))) (le-ltb widest width narrow)
    (or_from (nat_lt (most_width_of version) width) (nat_eq (kind_number kind) 1 && (nat_eq width 0 || nat_lt top_limit width)) (le-ltb (most_width_of version) width holds) (by kind some pv_narrow))
  where
    by : (k : Kind) → (k ≡ Pv → 0 < width) → IsPvNarrow k width → (nat_eq (kind_number k) 1 && (nat_eq width 0 || nat_lt top_limit width)) ≡ false
    by Pv some small = let pos = some refl in or_from (nat_eq width 0) (nat_lt top_limit width) (ne_eqb width 0 (λ e. absurd (omega arith))) (le-ltb top_limit width (small refl))
    by Hvm some small = refl

-- what the head of a host says
record Says (version : GuestImageVersion) (head : List ℕ) (h : HostOf) : Type 0 where
  name : be64 head 0 ≡ name_number version
  kind : le32 head 8 ≡ kind_number h.kind
  zero : le32 head 12 ≡ 0
  width : le64 head 16 ≡ h.width
  count : le64 head 24 ≡ length (maps.entries h.frames)

-- behind a name of 8 bytes
says_behind : (version : GuestImageVersion) (h : HostOf) → IsValid h → h.width < 2 ^ 64 → Says version (host_head version h) h
unfolding be64 le32 le64 host_head
says_behind One h valid wide = record {
  name = refl;
  kind = little_number-reads_back 4 (kind_number h.kind) (little_bytes 4 0 ++ (little_bytes 8 h.width ++ little_bytes 8 (length (maps.entries h.frames)))) (kind_small h.kind);
  zero = refl;
  width = little_number-reads_back 8 h.width (little_bytes 8 (length (maps.entries h.frames))) wide;
  count = little_number-reads_back 8 (length (maps.entries h.frames)) [] (let small : length (maps.entries h.frames) < 2 ^ 64 = let few = valid.few in omega (arith, few) in small);
}
says_behind Two h valid wide = record {
  name = refl;
  kind = little_number-reads_back 4 (kind_number h.kind) (little_bytes 4 0 ++ (little_bytes 8 h.width ++ little_bytes 8 (length (maps.entries h.frames)))) (kind_small h.kind);
  zero = refl;
  width = little_number-reads_back 8 h.width (little_bytes 8 (length (maps.entries h.frames))) wide;
  count = little_number-reads_back 8 (length (maps.entries h.frames)) [] (let small : length (maps.entries h.frames) < 2 ^ 64 = let few = valid.few in omega (arith, few) in small);
}

says : (version : GuestImageVersion) (h : HostOf) → IsValid h → Says version (host_head version h) h
says version h valid = says_behind version h valid (omega (arith, valid.width))

fine : (widest : ℕ) (version : GuestImageVersion) (h : HostOf) (head : List ℕ) → IsValid h → h.width ≤ widest → h.width ≤ most_width_of version → Says version head h → first_named (host_head_causes widest head) ≡ None
fine widest version h head valid narrow holds s =
    let n = length (maps.entries h.frames) in
    let name = ap (λ n. not (nat_eq n (name_number One)) && not (nat_eq n (name_number Two))) s.name ∙ name_known version in
    let kind = ap (λ n. not (nat_eq n 1) && not (nat_eq n 2)) s.kind ∙ kind_known h.kind in
    let wide =
    ap (λ v. is_wide widest v (le32 head 8) (le64 head 16)) (version_is head s.name) ∙ ap (λ k. is_wide widest version k (le64 head 16)) s.kind ∙ ap (is_wide widest version (kind_number h.kind)) s.width
    ∙ not_wide widest version h.kind h.width narrow holds valid.some_width (valid_narrow h valid) in
    let few = or_from (nat_lt most_frames n) (nat_lt h.width n) (le-ltb most_frames n valid.few) (le-ltb h.width n (frames_within h valid)) in
    let many = ap (λ w. nat_lt most_frames (le64 head 24) || nat_lt w (le64 head 24)) s.width ∙ ap (λ c. nat_lt most_frames c || nat_lt h.width c) s.count ∙ few in
    no_fault (host_head_causes widest head) (name, (kind, (ap (λ n. not (nat_eq n 0)) s.zero, (wide, (many, tt)))))
  where
    version_is : (head : List ℕ) → be64 head 0 ≡ name_number version → head_version head ≡ version
    version_is head name = ap version_named name ∙ version_back version

abbrev without : HostOf → HostOf
without h = record { kind = h.kind; width = h.width; frames = maps.empty; parts = maps.empty }

opened_is : (version : GuestImageVersion) (h : HostOf) (head : List ℕ) → Says version head h → opened head ≡ without h
opened_is version h head s =
    ap (λ k. record { kind = kind_of_number k; width = le64 head 16; frames = maps.empty; parts = maps.empty }) s.kind
    ∙ ap (λ k. record { kind = k; width = le64 head 16; frames = maps.empty; parts = maps.empty }) (kind_back h.kind)
    ∙ ap (λ w. record { kind = h.kind; width = w; frames = maps.empty; parts = maps.empty }) s.width

-- ---- the number of parts

count_text : (n : ℕ) (rest : List ℕ) → n < 2 ^ 64 → judged_as count_form (little_bytes 8 n ++ rest) ≡ Passes n rest
unfolding le64 judged_as
count_text n rest small = said_goes Truncated (λ _. None) (λ b. le64 b 0) 8 (little_bytes 8 n) rest refl refl ∙ ap (λ m. Passes m rest) (little_number-reads_back 8 n [] small)

-- ---- the whole

module _ (widest : ℕ) (version : GuestImageVersion) (h : HostOf) (valid : IsValid h) (narrow : h.width ≤ widest) (holds : h.width ≤ most_width_of version) (rest : List ℕ) where
  abbrev frames_text : List ℕ
  frames_text = flat_map (frame_text version) (maps.entries h.frames)

  abbrev parts_text : List ℕ
  parts_text = flat_map part_text (maps.entries h.parts)

  abbrev count : ℕ
  count = length (maps.entries h.parts)

  abbrev at_parts : List ℕ
  at_parts = parts_text ++ rest

  abbrev at_count : List ℕ
  at_count = little_bytes 8 count ++ at_parts

  abbrev at_frames : List ℕ
  at_frames = frames_text ++ at_count

  abbrev head : List ℕ
  head = host_head version h

  abbrev framed : HostOf
  framed = with_frames (without h) h.frames

  spelled : guest_image version h ++ rest ≡ head ++ at_frames
  unfolding guest_image
  spelled =
      append_assoc head (frames_text ++ (little_bytes 8 count ++ parts_text)) rest
      ∙ ap (λ l. head ++ l) (append_assoc frames_text (little_bytes 8 count ++ parts_text) rest ∙ ap (λ l. frames_text ++ l) (append_assoc (little_bytes 8 count) parts_text rest))

  frames_read : judged_as (frames_form version (without h) (length (maps.entries h.frames))) at_frames ≡ Passes framed at_count
  frames_read =
      steps_go Frame (host_frame_form version) (length (maps.entries h.frames)) (without h) at_frames
      ∙ chain_goes (FrameFits h.kind h.width) (frame_text version) Frame (λ k. judged_as (host_frame_form version k)) (with_frames (without h)) (λ m e rest f. frame_goes version (with_frames (without h) m) e rest holds f) maps.empty (maps.entries h.frames) 0 at_count (frames_chain h valid)
      ∙ ap (λ m. Passes (with_frames (without h) m) at_count) (frames_same h valid)

  parts_read : judged_as (host_parts_form framed count) at_parts ≡ Passes h rest
  parts_read =
      steps_go Part host_part_form count framed at_parts
      ∙ chain_goes (PartFits h.kind h.width) part_text Part (λ k. judged_as (host_part_form k)) (with_parts framed) (λ m e rest f. part_goes (with_parts framed m) e rest (valid_narrow h valid) f) maps.empty (maps.entries h.parts) 0 rest (parts_chain h valid)
      ∙ ap (λ m. Passes (record { kind = h.kind; width = h.width; frames = h.frames; parts = m }) rest) (parts_same h valid)

  behind : judged_as (behind_head head) at_frames ≡ Passes h rest
  behind =
      let s = says version h valid in
      then_goes (frames_form (head_version head) (opened head) (le64 head 24)) behind_frames at_frames framed at_count _
      (ap (λ v. judged_as (frames_form v (opened head) (le64 head 24)) at_frames) (ap version_named s.name ∙ version_back version) ∙ ap (λ n. judged_as (frames_form version (opened head) n) at_frames) s.count
      ∙ ap (λ o. judged_as (frames_form version o (length (maps.entries h.frames))) at_frames) (opened_is version h head s) ∙ frames_read)
      (then_goes (placed_form Parts count_form) (host_parts_form framed) at_count count at_parts _ (placed_goes Parts count_form at_count count at_parts (count_text count at_parts (parts_few h valid))) parts_read)

  reads : host_at widest (head ++ at_frames) ≡ Passes h rest
  unfolding guest_image_form
  reads =
      then_goes (placed_form Head (host_head_form widest)) behind_head (head ++ at_frames) head at_frames _
      (placed_goes Head (host_head_form widest) (head ++ at_frames) head at_frames (bytes_go Truncated 32 (host_head_causes widest) head at_frames (head_len version h) (fine widest version h head valid narrow holds (says version h valid)))) behind

-- version 2 holds each valid host
pub held : (h : HostOf) → IsValid h → h.width ≤ most_width_of Two
held h valid = omega (arith, valid.width)

pub image_reads : (widest : ℕ) (input : List ℕ) (h : HostOf) (rest : List ℕ) → IsGuestImageUpTo widest input h rest → host_at widest input ≡ Passes h rest
image_reads widest input h rest is =
    let im = is.image in
    ap (host_at widest) (im.spelled ∙ spelled widest im.version h im.valid is.narrow im.holds rest) ∙ reads widest im.version h im.valid is.narrow im.holds rest

-- an input begins with the image of at most one host
pub one_host : (input : List ℕ) (g h : HostOf) (rest more : List ℕ) → IsGuestImage input g rest → IsGuestImage input h more → (g ≡ h) × (rest ≡ more)
one_host input g h rest more a b =
    let first = image_reads most_width input g rest (record { image = a; narrow = a.valid.width }) in
    let second = image_reads most_width input h more (record { image = b; narrow = b.valid.width }) in
    same_passes g h rest more (sym first ∙ second)
