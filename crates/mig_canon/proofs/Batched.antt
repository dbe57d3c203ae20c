-- A stream whose frames stand in any records is accepted, and means the guest that they tell; the canonical stream is one.
use Rattle.mig_canon.proofs.Common.{zero, suc, ◌*◌, take, drop, flat_map, range_with_len, flat_map-append, map-range_with_len_more, All-nil, All-cons, batch, batches, frames_in, IsFew, le_refl, ◌≡◌, ℕ, ◌+◌, ◌≤◌, ◌<◌, ◌^◌, List, [], ◌∷◌, ◌++◌, length, map, Bool, true, false, refl, sym, ap, subst, ◌∙◌, arith, append_assoc, append-nil, ◌||◌, All, All-head, All-tail, Kind, GuestOf, FrameMap, PartMap, IsFormed, HasNoEmulators, Record, records_in_order, static_codes, info_records, last_records, static_bodies, p2m_records, text_of, headers, Frame, StreamRecord, is_ended, Nothing, Frames, empty_guest, put_entry, put_entries, IsComplete, Spells, Follows, map-append, length-map-range_with_len, body_of, words_len, sent, IsSendable, told, All-drop, All-append, All-take, inr, IsImage, Accepted, meant_as_sent, IsSendableBatch, TellFrames, frames_told, batch_records, batched_bodies, batched}
use Rattle.mig_canon.specs.Bare.{IsBare}
use Rattle.std.proofs.lemmas.List.Sums.{fold-append}
use Rattle.mig_headers.specs.Headers.{image_header_of, domain_header_of}
use Rattle.mig_headers.proofs.HeaderLaws.{image_is_read_back, domain_is_read_back}
use Rattle.mig_pvtables.specs.Blank.{blank}
use Rattle.mig_canon.specs.Canon.{canon}
use Rattle.mig_restore_form.specs.Spelled.HasContent.{pages as pages_say}
use Rattle.mig_canon.proofs.CanonMaps.{frames_again}
use Rattle.mig_canon.proofs.CanonOnce.{all_at_once}
use Rattle.mig_canon.proofs.CanonParts.{Fits}
use Rattle.mig_canon.proofs.CanonFrames.{is_batch, body_len, pages_len, all_fine, all_kept, all_taken, batch_len, few_batches, take_more}
use Rattle.mig_canon.proofs.CanonSteps.{opening, guest_with, State, Stage, IsStep, ended_more, looser, spells_more, means_more, more, codes_more}
use Rattle.mig_canon.proofs.CanonStages.{settled, framed, static_end_step, frames_step, end_step, static_written}
use Rattle.mig_canon.proofs.PvMaps.{static_set}
use Rattle.mig_canon.proofs.Canons.{complete_of, few_of, listed_set, all_set, behind, parts_again, nothing_fits, end_fits, begun_state, listed_state, framed_state, last_state, regroup}
use Rattle.std.specs.FinMap as maps

-- ---- records of frames, one after another

pub batch_fits : (kind : Kind) (top : ℕ) (fs : List Frame) → IsSendableBatch kind top fs → Fits kind top 1 (body_of fs) (Frames (map told fs))
batch_fits kind top fs h = record {
  says = pages_say (body_of fs) (map told fs) (is_batch kind top fs h.all h.some h.most);
  short = omega (arith, body_len fs, words_len fs, pages_len kind top fs h.all, h.most);
}

pub put_batches : Kind → FrameMap → List (List Frame) → FrameMap
put_batches kind frames [] = frames
put_batches kind frames (fs ∷ more) = put_batches kind (put_entries kind frames (map told fs)) more

pub put_flat : (kind : Kind) (frames : FrameMap) (batches : List (List Frame)) → put_batches kind frames batches ≡ put_entries kind frames (map told (flat_map (λ (fs : List Frame). fs) batches))
unfolding put_batches
put_flat kind frames [] = refl
put_flat kind frames (fs ∷ more) =
    put_flat kind (put_entries kind frames (map told fs)) more
    ∙ sym (fold-append (put_entry kind) frames (map told fs) (map told (flat_map (λ (l : List Frame). l) more)))
    ∙ ap (put_entries kind frames) (sym (map-append told fs (flat_map (λ (l : List Frame). l) more)))

module _ (kind : Kind) (top : ℕ) (parts : PartMap) {stage : Stage} (step : IsStep kind 1 stage stage) where
  -- the records of these batches
  pub batches_more : (batches : List (List Frame)) → All (IsSendableBatch kind top) batches → (bodies : List Record) (frames : FrameMap) (most : ℕ) → most + length batches < 2 ^ 28 → State kind bodies (guest_with kind top frames parts) stage most
      → State kind (bodies ++ batch_records batches) (guest_with kind top (put_batches kind frames batches) parts) stage (most + length batches)
  unfolding put_batches
  batches_more [] all bodies frames most room s = subst (λ l. State kind l (guest_with kind top frames parts) stage (most + 0)) (sym (append-nil bodies)) (looser s (most + 0) (omega arith))
  batches_more (fs ∷ batches) all bodies frames most room s =
      let this : Record = (1, body_of fs) in
      let next : FrameMap = put_entries kind frames (map told fs) in
      let now : State kind (bodies ++ this ∷ []) (guest_with kind top next parts) stage (most + 1) = more s step (batch_fits kind top fs (All-head (IsSendableBatch kind top) fs batches all)) (omega (arith, room)) refl in
      let rest = batches_more batches (All-tail (IsSendableBatch kind top) fs batches all) (bodies ++ this ∷ []) next (most + 1) (omega (arith, room)) now in
      looser (subst (λ l. State kind l (guest_with kind top (put_batches kind next batches) parts) stage (most + 1 + length batches)) (append_assoc bodies (this ∷ []) (batch_records batches)) rest) (most + suc (length batches)) (omega arith)

-- ---- the stream

module _ (g : GuestOf) (kind : Kind) (is : g.kind ≡ kind) (formed : IsFormed g) (plain : HasNoEmulators g.parts) (complete : IsComplete kind g) (batches : List (List Frame))
    (sendable : All (IsSendableBatch kind g.top) batches) (few : length batches ≤ 2 ^ 27) (tell : frames_told kind batches ≡ g.frames) where
  abbrev before : List Record
  before = (info_records kind ++ static_bodies g) ++ p2m_records kind g

  static_state : State kind (info_records kind ++ static_bodies g) (guest_with kind 0 maps.empty (static_set g)) (settled kind) 4
  static_state =
      let codes = codes_more g formed static_codes (static_written kind) (all_at_once g formed static_codes refl) (info_records kind) (empty_guest kind) 1 (omega arith) (begun_state kind) in
      subst (λ l. State kind l (guest_with kind 0 maps.empty (static_set g)) (settled kind) 4) (append_assoc (info_records kind) (records_in_order static_codes g) ((0x10, []) ∷ []))
      (more codes (static_end_step kind) (nothing_fits kind 0) (omega arith) refl)

  abbrev frames : FrameMap
  frames = put_batches kind maps.empty batches

  before_end : State kind ((before ++ batch_records batches) ++ last_records kind g) (guest_with kind g.top frames (all_set kind g)) (framed kind) (5 + length batches + behind)
  before_end =
      let list = listed_state g kind is formed complete (info_records kind ++ static_bodies g) 4 (omega arith) static_state in
      let pages = batches_more kind g.top (listed_set kind g) (frames_step kind) batches sendable before maps.empty 5 (omega (arith, few)) list in
      last_state g kind formed frames (before ++ batch_records batches) (5 + length batches) (omega (arith, few)) (framed_state kind _ _ _ pages)

  few_records : 5 + length batches + behind < 2 ^ 28
  few_records = omega (arith, few)

  abbrev records : List StreamRecord
  records = before_end.records ++ record { type = 0; content = Nothing } ∷ []

  whole_again : guest_with kind g.top frames (all_set kind g) ≡ g
  whole_again =
      ap (λ f. guest_with kind g.top f (all_set kind g)) (put_flat kind maps.empty batches ∙ tell) ∙ ap (guest_with kind g.top g.frames) (parts_again g kind is formed plain)
      ∙ ap (λ (k : Kind). guest_with k g.top g.frames g.parts) (sym is)

  is_sent : g ≡ sent kind records
  is_sent = sym (means_more before_end (end_step kind) (end_fits kind g.top) few_records ∙ whole_again)

  spelled_all : Spells (Follows (opening kind)) (text_of (batched_bodies kind g batches)) records
  spelled_all =
      subst (λ b. Spells (Follows (opening kind)) (text_of b) records) (regroup (info_records kind) (static_bodies g) (p2m_records kind g) (batch_records batches) (last_records kind g) ((0, []) ∷ []))
      (spells_more before_end (end_step kind) (end_fits kind g.top) few_records (λ e. subst (IsComplete kind) is_sent complete))

  ended : is_ended records ≡ true
  ended = ended_more before_end.records (record { type = 0; content = Nothing }) ∙ or_true (is_ended before_end.records)
    where
      or_true : (b : Bool) → (b || true) ≡ true
      or_true true = refl
      or_true false = refl

  is_image : (rest : List ℕ) → IsImage ((headers kind ++ text_of (batched_bodies kind g batches)) ++ rest) (opening kind) records rest
  is_image rest = record {
    image_header = image_header_of 3;
    domain_header = domain_header_of kind 0 1;
    major = 0;
    minor = 1;
    bytes = text_of (batched_bodies kind g batches);
    whole = append_assoc (headers kind) (text_of (batched_bodies kind g batches)) rest ∙ append_assoc (image_header_of 3) (domain_header_of kind 0 1) (text_of (batched_bodies kind g batches) ++ rest);
    is_image_header = (image_is_read_back 3 (inr refl)).spelled;
    is_domain_header = (domain_is_read_back kind 0 1 (omega arith) (omega arith)).spelled;
    spelled = spelled_all;
    ended = ended;
  }

pub batched_is_accepted : (g : GuestOf) (batches : List (List Frame)) (rest : List ℕ) → IsFormed g → HasNoEmulators g.parts → IsComplete g.kind g → TellFrames g batches → Accepted (batched g batches ++ rest) (blank g) rest
batched_is_accepted g batches rest formed plain complete t =
    record {
      opening = opening g.kind;
      records = records g g.kind refl formed plain complete batches t.sendable t.few t.tell;
      image = is_image g g.kind refl formed plain complete batches t.sendable t.few t.tell rest;
      means = meant_as_sent g g.kind (records g g.kind refl formed plain complete batches t.sendable t.few t.tell) (is_sent g g.kind refl formed plain complete batches t.sendable t.few t.tell);
    }

-- ---- the canonical stream: 1024 frames in each record, and the rest in the last

abbrev cut : List Frame → ℕ → List (List Frame)
cut fs n = map (batch fs) (range_with_len 0 n)

cut_more : (fs : List Frame) (n : ℕ) → cut fs (suc n) ≡ cut fs n ++ batch fs n ∷ []
cut_more fs n = ap (cut fs) (let e : suc n ≡ n + 1 = omega arith in e) ∙ map-range_with_len_more (batch fs) 0 n n (omega arith)

cut_flat : (fs : List Frame) (n : ℕ) → flat_map (λ (b : List Frame). b) (cut fs n) ≡ take (1024 * n) fs
cut_flat fs zero = refl
cut_flat fs (suc n) =
    ap (flat_map (λ (b : List Frame). b)) (cut_more fs n) ∙ flat_map-append (λ (b : List Frame). b) (cut fs n) (batch fs n ∷ [])
    ∙ (λ i. cut_flat fs n i ++ append-nil (batch fs n) i) ∙ take_more fs n

cut_sendable : (kind : Kind) (top : ℕ) (fs : List Frame) → All (IsSendable kind top) fs → (n : ℕ) → n ≤ batches fs → All (IsSendableBatch kind top) (cut fs n)
cut_sendable kind top fs all zero h = All-nil (IsSendableBatch kind top)
cut_sendable kind top fs all (suc n) h =
    let size = batch_len fs n (omega (arith, h)) in
    let last : IsSendableBatch kind top (batch fs n) = record { some = size.0; most = size.1; all = All-take (IsSendable kind top) 1024 (drop (1024 * n) fs) (All-drop (IsSendable kind top) (1024 * n) fs all) } in
    subst (All (IsSendableBatch kind top)) (sym (cut_more fs n))
    (All-append (IsSendableBatch kind top) (cut fs n) (batch fs n ∷ []) (cut_sendable kind top fs all n (omega (arith, h))) (All-cons (IsSendableBatch kind top) (batch fs n) [] last (All-nil (IsSendableBatch kind top))))

cut_bodies : (fs : List Frame) (ks : List ℕ) → map (λ k. (1, body_of (batch fs k))) ks ≡ batch_records (map (batch fs) ks)
cut_bodies fs [] = refl
cut_bodies fs (k ∷ ks) = ap (λ (l : List Record). (1, body_of (batch fs k)) ∷ l) (cut_bodies fs ks)

module _ (g : GuestOf) where
  abbrev all_cut : List (List Frame)
  all_cut = cut (frames_in g) (batches (frames_in g))

  canon_is : canon g ≡ batched g all_cut
  unfolding canon
  canon_is =
      ap (λ (frames : List Record). headers g.kind ++ text_of (info_records g.kind ++ (static_bodies g ++ (p2m_records g.kind g ++ (frames ++ (last_records g.kind g ++ (0, []) ∷ []))))))
      (cut_bodies (frames_in g) (range_with_len 0 (batches (frames_in g))))

  tell_frames : IsFormed g → IsFew g.frames → TellFrames g all_cut
  tell_frames formed few = record {
    sendable = cut_sendable g.kind g.top (frames_in g) (all_fine g g.kind refl formed) (batches (frames_in g)) (le_refl (batches (frames_in g)));
    few = omega (arith, length-map-range_with_len (batch (frames_in g)) 0 (batches (frames_in g)), few_batches (frames_in g) few);
    tell = ap (λ fs. put_entries g.kind maps.empty (map told fs)) (cut_flat (frames_in g) (batches (frames_in g)) ∙ all_taken (frames_in g)) ∙ frames_again g.kind g.frames (all_kept g g.kind refl formed);
  }

pub canon_is_accepted : (g : GuestOf) (rest : List ℕ) → IsBare g → Accepted (canon g ++ rest) g rest
canon_is_accepted g rest bare =
    let complete = complete_of g g.kind refl bare.whole in
    subst (λ l. Accepted (l ++ rest) g rest) (sym (canon_is g))
    (subst (λ h. Accepted (batched g (all_cut g) ++ rest) h rest) bare.blank (batched_is_accepted g (all_cut g) rest bare.whole.formed bare.plain complete (tell_frames g bare.whole.formed (few_of g g.kind complete))))
