-- The outline of a guest: what is put into it, and how many frames it has.
use Rattle.mig_restore.proofs.Common.{◌≡◌, ℕ, List, length, Option, refl, sym, ap, ◌∙◌, Kind, PageType, GuestOf, Content, FrameEntry, FrameMap, framed, type_in_guest, put_entry, put_content, StreamRecord, meant_as_sent}
use Rattle.std.specs.FinMap as maps
use Rattle.mig_outline.proofs.Common.{Hvm, Pv, Xtab, nat_cmp_total, nat_cmp-IsAntisymmetric}
use Rattle.mig_outline.proofs.Changed.{changed_insert, changed_remove}
use Rattle.mig_outline.specs.Outline.{outline, outline_frame, outline_frames, outline_framed, put_outline_entry, put_outline_content}
use Rattle.mig_pvtables.proofs.EachValue.{len_each}
use Rattle.mig_pvtables.specs.Blank.{blank, blank_of, blanked_frame}
use Rattle.mig_restore.proofs.Kept.{content_on}
use Rattle.mig_restore_form.specs.Mean.{sent, mean}

-- ---- what is put into it

outlined : (m : FrameMap) (p : ℕ) (t : PageType) (page : Option (List ℕ)) → outline_framed (outline_frames m) p t page ≡ outline_frames (framed m p t page)
outlined m p Xtab page = sym (changed_remove nat_cmp_total nat_cmp-IsAntisymmetric outline_frame m p)
outlined m p t page = sym (changed_insert nat_cmp_total nat_cmp-IsAntisymmetric outline_frame m p (record { type = t; page = page }))

pub entry_on : (kind : Kind) (m : FrameMap) (e : FrameEntry) → put_outline_entry kind (outline_frames m) e ≡ outline_frames (put_entry kind m e)
entry_on kind m e = outlined m e.pfn (type_in_guest kind e.type) e.page

pub outline_on : (g : GuestOf) (c : Content) → outline (put_content g c) ≡ put_outline_content (outline g) c
outline_on g c = sym (content_on outline_frames put_outline_entry entry_on g c)

-- ---- how many frames there are

pub outline_len : (m : FrameMap) → maps.len (outline_frames m) ≡ maps.len m
outline_len m = maps.len-entries (outline_frames m) ∙ len_each nat_cmp_total nat_cmp-IsAntisymmetric (λ _ x. outline_frame x) m ∙ sym (maps.len-entries m)

blank_len : (kind : Kind) (g : GuestOf) → length (maps.entries (blank_of kind g).frames) ≡ length (maps.entries g.frames)
blank_len Hvm g = refl
blank_len Pv g = len_each nat_cmp_total nat_cmp-IsAntisymmetric (blanked_frame g.parts) g.frames

pub frames_len : (h : GuestOf) (kind : Kind) (records : List StreamRecord) (n : ℕ) → h ≡ outline (sent kind records) → n ≡ maps.len h.frames → n ≡ maps.len (mean kind records).frames
frames_len h kind records n is count =
    let g = sent kind records in
    count ∙ ap (λ (x : GuestOf). maps.len x.frames) is ∙ outline_len g.frames
    ∙ maps.len-entries g.frames ∙ sym (blank_len g.kind g) ∙ sym (maps.len-entries (blank g).frames) ∙ ap (λ (x : GuestOf). maps.len x.frames) (meant_as_sent g kind records refl)
