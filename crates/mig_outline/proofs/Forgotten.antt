-- Pages are forgotten behind each record, or behind all of them.
use Rattle.mig_outline.proofs.Common.{◌≡◌, ℕ, List, [], ◌∷◌, Option, Some, None, refl, sym, ap, ◌∙◌, nat_cmp_total, nat_cmp-IsAntisymmetric, level_of, PageType, FrameOf, FrameMap, GuestOf, Kind, Xtab}
use Rattle.std.specs.Prelude.{fold}
use Rattle.mig_guest.specs.Frames.{framed}
use Rattle.mig_pvtables.proofs.EachValue.{each_each, same_each}
use Rattle.mig_restore_form.specs.Mean.{type_in_guest, put_entry, put_entries, put_content, put_record, empty_guest, sent}
use Rattle.mig_restore_form.specs.Record.{FrameEntry, Content, StreamRecord}
use Rattle.mig_restore_form.specs.Record.Content.{Nothing, Frames, Sets, Lists, Checks}
use Rattle.mig_outline.specs.Forgotten.{forgotten_guest, forgotten_page, forgotten_frame, forgotten_frames}
use Rattle.mig_outline.proofs.Changed.{changed_insert, changed_remove}

-- ---- twice is once

page_twice : (level : Option ℕ) (page : Option (List ℕ)) → forgotten_page level (forgotten_page level page) ≡ forgotten_page level page
page_twice (Some level) page = refl
page_twice None None = refl
page_twice None (Some page) = refl

frame_twice : (x : FrameOf) → forgotten_frame (forgotten_frame x) ≡ forgotten_frame x
frame_twice x = ap (λ (p : Option (List ℕ)). record { type = x.type; page = p }) (page_twice (level_of x.type) x.page)

frames_twice : (m : FrameMap) → forgotten_frames (forgotten_frames m) ≡ forgotten_frames m
frames_twice m =
    each_each nat_cmp_total nat_cmp-IsAntisymmetric (λ _ x. forgotten_frame x) (λ _ x. forgotten_frame x) m
    ∙ same_each nat_cmp_total nat_cmp-IsAntisymmetric (λ _ x. forgotten_frame (forgotten_frame x)) (λ _ x. forgotten_frame x) m (λ k x is. frame_twice x)

-- ---- a frame that is set

forgotten_framed : (m : FrameMap) (p : ℕ) (t : PageType) (page : Option (List ℕ)) → forgotten_frames (framed m p t page) ≡ framed (forgotten_frames m) p t (forgotten_page (level_of t) page)
forgotten_framed m p Xtab page = changed_remove nat_cmp_total nat_cmp-IsAntisymmetric forgotten_frame m p
forgotten_framed m p t page = changed_insert nat_cmp_total nat_cmp-IsAntisymmetric forgotten_frame m p (record { type = t; page = page })

-- what is set in two maps that are alike once their pages are forgotten leaves them alike
entry_alike : (kind : Kind) (m n : FrameMap) (e : FrameEntry) → forgotten_frames m ≡ forgotten_frames n → forgotten_frames (put_entry kind m e) ≡ forgotten_frames (put_entry kind n e)
entry_alike kind m n e same =
    let t = type_in_guest kind e.type in
    forgotten_framed m e.pfn t e.page
    ∙ ap (λ (f : FrameMap). framed f e.pfn t (forgotten_page (level_of t) e.page)) same
    ∙ sym (forgotten_framed n e.pfn t e.page)

entries_alike : (kind : Kind) (m n : FrameMap) (es : List FrameEntry) → forgotten_frames m ≡ forgotten_frames n → forgotten_frames (put_entries kind m es) ≡ forgotten_frames (put_entries kind n es)
entries_alike kind m n [] same = same
entries_alike kind m n (e ∷ es) same = entries_alike kind (put_entry kind m e) (put_entry kind n e) es (entry_alike kind m n e same)

-- ---- a content

abbrev with_frames : GuestOf → FrameMap → GuestOf
with_frames g f = record { kind = g.kind; top = g.top; frames = f; parts = g.parts }

content_on : (g : GuestOf) (c : Content) → forgotten_guest (put_content (forgotten_guest g) c) ≡ forgotten_guest (put_content g c)
content_on g Nothing = ap (with_frames g) (frames_twice g.frames)
content_on g (Frames es) = ap (with_frames g) (entries_alike g.kind (forgotten_frames g.frames) g.frames es (frames_twice g.frames))
content_on g (Sets code ps) = ap (with_frames (put_content g (Sets code ps))) (frames_twice g.frames)
content_on g (Lists last frames) = ap (with_frames (put_content g (Lists last frames))) (frames_twice g.frames)
content_on g (Checks es) = ap (with_frames g) (frames_twice g.frames)

pub forgotten_on : (g : GuestOf) (r : StreamRecord) → forgotten_guest (put_record (forgotten_guest g) r) ≡ forgotten_guest (put_record g r)
forgotten_on g r = content_on g r.content

-- ---- all records

abbrev step : GuestOf → StreamRecord → GuestOf
step g r = forgotten_guest (put_record g r)

all_on : (g : GuestOf) (records : List StreamRecord) → fold step (forgotten_guest g) records ≡ forgotten_guest (fold put_record g records)
all_on g [] = refl
all_on g (r ∷ records) = ap (λ (x : GuestOf). fold step x records) (forgotten_on g r) ∙ all_on (put_record g r) records

pub forgotten_sent : (kind : Kind) (records : List StreamRecord) → fold (λ g r. forgotten_guest (put_record g r)) (forgotten_guest (empty_guest kind)) records ≡ forgotten_guest (sent kind records)
unfolding sent
forgotten_sent kind records = all_on (empty_guest kind) records
