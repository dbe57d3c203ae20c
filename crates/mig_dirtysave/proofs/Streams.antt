-- What a save wrote is a stream, and over an honest machine the stream of the host's view.
use Rattle.mig_dirtysave.proofs.Common.{◌==◌, is_some, and_parts, ◌≡◌, ℕ, Bool, List, [], ◌∷◌, ◌++◌, map, true, Option, None, refl, sym, ap, subst, ◌∙◌, arith, append_assoc, Appends, Appends-trans, Kind, Unsound, IsFormed, GuestOf, IsValid, PartMap, PartKey, Record, text_of, headers, info_records, static_bodies, p2m_records, text_join, batch_records, batched, unsoundness, view, top_of, viewed_whole, bare_guest, wrapper_opening, wrapper_closing, AcceptedStream, opening_alike, closing_alike, MachineState, FrameTold, telling_frames, telling_record, Accepted, KeepsShape, FramesSaved, text_before, ClosesStream, HoldsParts, is_early, emulators_seen, first_records, first_within, SaverOf, PreparedFor, SaveWritten, not, is_fixed, last_records, IsOtherRecord, both_all, first_seen, viewed_kind, others_are, are_within, IsRecordWithin}
use Rattle.mig_host_view.proofs.SoundRows.{sound_is_faultless}
use Rattle.mig_libxl.proofs.AnyCanons.{around_is_accepted}
use Rattle.mig_dirtysave.proofs.Viewed.{saved_is_viewed}
use Rattle.std.specs.FinMap as maps

records_are : (batches : List (List FrameTold)) → batch_records (map telling_frames batches) ≡ map telling_record batches
records_are [] = refl
records_are (b ∷ batches) = ap (λ (l : List Record). telling_record b ∷ l) (records_are batches)

-- ---- what stays of a machine

-- its kind and its width are those of the saver
pub kind_stays : (s t : MachineState) (saver : SaverOf) (g : GuestOf) → KeepsShape s t → PreparedFor saver s.host → g.kind ≡ saver.kind → g.kind ≡ t.host.kind
kind_stays s t saver g same made is = is ∙ sym made.kind ∙ sym same.shape.kind

pub width_stays : (s t : MachineState) (saver : SaverOf) (room : ℕ) → KeepsShape s t → PreparedFor saver s.host → room ≡ saver.width → room ≡ t.host.width
width_stays s t saver room same made is = is ∙ sym made.width ∙ sym same.shape.width

-- its early parts are those that the saver holds
pub early_stays : (s t : MachineState) (saver : SaverOf) (g : GuestOf) → KeepsShape s t → PreparedFor saver s.host → g.parts ≡ saver.early
    → (key : PartKey) → is_early key.code ≡ true → maps.get t.host.parts key ≡ maps.get g.parts key
early_stays s t saver g same made is key one =
    same.shape.fixed key (and_parts (is_fixed key.code) (not (key.code == 258)) one).0 ∙ made.early key one ∙ ap (λ (m : PartMap). maps.get m key) (sym is)

-- a guest that holds parts of a host of this kind and width, and its greatest frame number
pub held_there : (codes : ℕ → Bool) (k l : Kind) (v w : ℕ) (g : GuestOf) → k ≡ l → v ≡ w → HoldsParts codes k v g → HoldsParts codes l w g
held_there codes k l v w g kind width held = subst (λ (k : Kind). HoldsParts codes k w g) kind (subst (λ (n : ℕ). HoldsParts codes k n g) width held)

pub top_held : (codes : ℕ → Bool) (k : Kind) (w : ℕ) (g : GuestOf) → HoldsParts codes k w g → g.top ≡ top_of k w
top_held codes k w g held = ap (λ (x : GuestOf). x.top) held.bare

-- ---- the stream

regroup : (a b c d e : List Record) → (a ++ (b ++ c)) ++ (d ++ e) ≡ a ++ (b ++ (c ++ (d ++ e)))
regroup a b c d e = append_assoc a (b ++ c) (d ++ e) ∙ ap (λ l. a ++ l) (append_assoc b c (d ++ e))

module _ (t : MachineState) (valid : IsValid t.host) (tables : Option Unsound) (none : tables ≡ None) (sound : t.honest ≡ true → unsoundness t.host ≡ None)
    (early : GuestOf) (formed : IsFormed early) (kind : early.kind ≡ t.host.kind) (top : early.top ≡ top_of t.host.kind t.host.width)
    (alike : (key : PartKey) → is_early key.code ≡ true → maps.get t.host.parts key ≡ maps.get early.parts key) (start mid sent ended : Option (List ℕ)) (opened : Appends start mid (text_before early))
    (s : FramesSaved mid sent t tables) (closed : ClosesStream t.host sent ended) where
  abbrev before : List Record
  before = first_records early

  abbrev pages : List Record
  pages = map telling_record s.batches

  abbrev last : List Record
  last = closed.behind ++ (0, []) ∷ []

  abbrev image : List ℕ
  image = headers t.host.kind ++ text_of (before ++ (pages ++ last))

  text_is : text_before early ++ (text_of pages ++ text_of last) ≡ image
  text_is =
      append_assoc (headers early.kind) (text_of before) (text_of pages ++ text_of last)
      ∙ ap (λ (k : Kind). headers k ++ (text_of before ++ (text_of pages ++ text_of last))) kind
      ∙ ap (λ l. headers t.host.kind ++ l) (ap (λ l. text_of before ++ l) (sym (text_join pages last)) ∙ sym (text_join before (pages ++ last)))

  image_appended : Appends start ended image
  image_appended = subst (Appends start ended) text_is (Appends-trans start mid ended _ _ opened (Appends-trans mid sent ended _ _ s.written.wrote.appended closed.appended))

  -- the records of its view, with those of the frames in place of its own
  image_is : unsoundness t.host ≡ None → batched (view t.host) (map telling_frames s.batches) ≡ image
  image_is faultless =
      let v = view t.host in let told = records_are s.batches in let first = first_seen t.host early top alike kind in
      let closing = ap (λ (k : Kind). last_records k v) (viewed_kind t.host) ∙ sym (closed.seen faultless) in
      (λ i. headers v.kind ++ text_of (info_records v.kind ++ (static_bodies v ++ (p2m_records v.kind v ++ (told i ++ (closing i ++ (0, []) ∷ []))))))
      ∙ ap (λ rs. headers v.kind ++ text_of rs) (sym (regroup (info_records v.kind) (static_bodies v) (p2m_records v.kind v) pages last))
      ∙ ap (λ rs. headers v.kind ++ text_of (rs ++ (pages ++ last))) first
      ∙ ap (λ (k : Kind). headers k ++ text_of (before ++ (pages ++ last))) (viewed_kind t.host)

  image_accepted : t.honest ≡ true → (rest : List ℕ) → Accepted (image ++ rest) (bare_guest (view t.host)) rest
  image_accepted honest rest =
      let faultless = sound honest in
      subst (λ l. Accepted (l ++ rest) (bare_guest (view t.host)) rest) (image_is faultless)
      (saved_is_viewed t.host s.batches rest valid ((sound_is_faultless t.host).1 faultless) s.sized s.told (omega (arith, s.few)) (s.means honest none))

  module _ (old new : Option (List ℕ)) (begun : Appends old start (wrapper_opening t.host.parts)) (finished : Appends ended new (wrapper_closing t.host.parts)) where
    abbrev text : List ℕ
    text = wrapper_opening t.host.parts ++ (image ++ wrapper_closing t.host.parts)

    -- around the image stands what does around that of the view
    around_is : wrapper_opening (view t.host).parts ++ (image ++ wrapper_closing (view t.host).parts) ≡ text
    around_is =
        let opens = opening_alike (view t.host).parts t.host.parts (λ q code. ap (λ (o : Option (List ℕ)). is_some o) (emulators_seen t.host q code)) in
        let closes = closing_alike (view t.host).parts t.host.parts (emulators_seen t.host) in
        λ i. opens i ++ (image ++ closes i)

    stream_accepted : t.honest ≡ true → (rest : List ℕ) → AcceptedStream (text ++ rest) (view t.host) rest
    stream_accepted honest rest =
        subst (λ l. AcceptedStream (l ++ rest) (view t.host) rest) around_is
        (around_is_accepted (view t.host) image rest (viewed_whole t.host valid ((sound_is_faultless t.host).1 (sound honest))).formed (image_accepted honest))

    pub save_is_stream : SaveWritten old new t
    save_is_stream = record {
      before = before;
      batches = s.batches;
      behind = closed.behind;
      text = text;
      image = image;
      image_is = refl;
      is = refl;
      appended = Appends-trans old start new _ _ begun (Appends-trans start ended new _ _ image_appended finished);
      others = both_all IsOtherRecord before closed.behind (others_are before (first_within early formed)) closed.others;
      within = both_all IsRecordWithin before (pages ++ closed.behind) (are_within before (first_within early formed)) (both_all IsRecordWithin pages closed.behind s.written.wrote.within closed.within);
      told = s.told;
      order = s.order;
      means = stream_accepted;
    }
