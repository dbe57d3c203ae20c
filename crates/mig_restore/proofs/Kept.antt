-- What is kept of a guest goes on as the guest does.
use Rattle.mig_restore.proofs.Common.{◌≡◌, List, [], ◌∷◌, ◌++◌, refl, sym, ap, ◌∙◌, Kind, FrameMap, FrameEntry, GuestOf, Content, Nothing, Frames, Sets, Lists, Checks, StreamRecord, EntryStep, kept_guest, put_entry, put_entries_by, put_content, put_content_by, empty_guest, one_more_record, sent}
use Rattle.std.specs.FinMap as maps

module _ (kept : FrameMap → FrameMap) where
  pub none_kept : kept maps.empty ≡ maps.empty → (kind : Kind) → kept_guest kept (empty_guest kind) ≡ empty_guest kind
  none_kept none kind = ap (λ (f : FrameMap). record { kind = kind; top = 0; frames = f; parts = maps.empty }) none

  module _ (put : EntryStep) (entry : (kind : Kind) (frames : FrameMap) (e : FrameEntry) → put kind (kept frames) e ≡ kept (put_entry kind frames e)) where
    entries_on : (kind : Kind) (m : FrameMap) (es : List FrameEntry) → put_entries_by put kind (kept m) es ≡ kept (put_entries_by put_entry kind m es)
    entries_on kind m [] = refl
    entries_on kind m (e ∷ es) = ap (λ (f : FrameMap). put_entries_by put kind f es) (entry kind m e) ∙ entries_on kind (put_entry kind m e) es

    pub content_on : (g : GuestOf) (c : Content) → put_content_by put (kept_guest kept g) c ≡ kept_guest kept (put_content g c)
    content_on g Nothing = refl
    content_on g (Frames es) = ap (λ (f : FrameMap). record { kind = g.kind; top = g.top; frames = f; parts = g.parts }) (entries_on g.kind g.frames es)
    content_on g (Sets code ps) = refl
    content_on g (Lists last frames) = refl
    content_on g (Checks es) = refl

    -- what is kept behind one more record
    pub kept_more : (g h : GuestOf) (kind : Kind) (records : List StreamRecord) (r : StreamRecord) → g ≡ kept_guest kept (sent kind records) → h ≡ put_content_by put g r.content → h ≡ kept_guest kept (sent kind (records ++ r ∷ []))
    kept_more g h kind records r is now =
        now ∙ ap (λ (x : GuestOf). put_content_by put x r.content) is ∙ content_on (sent kind records) r.content ∙ ap (kept_guest kept) (sym (one_more_record kind records r))
