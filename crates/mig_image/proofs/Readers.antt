-- How what the readers of an image give joins, and what a head without a fault says.
use Rattle.mig_image.proofs.Common.{IsErrAnd, Bool, ◌≡◌, ℕ, List, Option, Result, Ok, Err, refl, sym, subst, ◌+◌, true, false, cond, length, Some, None, is_some, ap, ◌∙◌, ◌==◌, eqb-false, none-some, same_Some, nat_cmp_total, nat_cmp-IsAntisymmetric, len-insert, len-entries, Judged, AgreesWithJudging, done, ImageCause, not, ◌&&◌, rows_fine, ImagePlace, Parts, PageType, type_has_data, HostOf, HostFrame, HostFrames, IsHostFrame, head_key, put_part_in, head_pfn, head_type, has_frame_from, GuestImageVersion, has_zero_flag, head_version, page_left_out, frame_said, put_frame, opened, behind_head, HostAndSpare, IsHost, FormOf, Giving, judged_as, ◌>>>◌, placed_form, first_named, frame_causes, part_head_form, part_bytes_form, padding_form, host_part_form, sent_page_form, page_form, frame_head_form, host_frame_form, frames_form, count_form, host_parts_form, behind_frames, judged_so, first_stops, then_read, told_then, nothing_read, placed_read, placed_stop, gives_goes, stop_at, any_stop, none_passes, EndsAt, le32, le64}
use Rattle.std.specs.FinMap as maps
use Rattle.mig_bytes.specs.declared.stop.Stop.{Stop}
use Rattle.mig_image.proofs.Parts.{behind_bytes, behind_padding, behind_part_head}
use Rattle.mig_image.proofs.FrameHeads.{page_if, unsent_if}
use Rattle.mig_image.proofs.Frames.{frame_fits, behind_frame_head, behind_page, ends_behind}
use Rattle.mig_image.proofs.KeyTests.{frame_absent}

module _ (h : HostOf) where
  module _ {V Z : Type 0} (items : V → List ℕ) (Q : Z → HostOf → Type 0) (a b : Option (List ℕ)) (head : List ℕ) (opens : AgreesWithJudging {X = List ℕ} (λ v head. head ≡ v) a b (judged_as (part_head_form h)) (Ok head))
      (code len : ℕ) (same_code : code ≡ le32 head 0) (same_len : len ≡ le32 head 12) where
    as_said : (c : Option (List ℕ)) (r : Result V (Stop ImageCause)) → AgreesWithJudging (λ v bytes. bytes ≡ items v) b c (judged_as (part_bytes_form code len)) r → AgreesWithJudging (λ v bytes. bytes ≡ items v) b c (judged_as (part_bytes_form (le32 head 0) (le32 head 12))) r
    as_said c r n = subst (λ m. AgreesWithJudging (λ v bytes. bytes ≡ items v) b c (judged_as (part_bytes_form (le32 head 0) m)) r) same_len (subst (λ m. AgreesWithJudging (λ v bytes. bytes ≡ items v) b c (judged_as (part_bytes_form m len)) r) same_code n)

    behind : (c : Option (List ℕ)) (r : Result Z (Stop ImageCause)) → AgreesWithJudging Q b c (judged_as (behind_part_head h head)) r → AgreesWithJudging Q a c (judged_as (host_part_form h)) r
    behind c r n = told_then (λ v. v) Q (part_head_form h) (behind_part_head h) a b c head r opens n

    -- the bytes aren't read
    pub bytes_stop : (c : Option (List ℕ)) (e : Stop ImageCause) (r : Result Z (Stop ImageCause)) → IsErrAnd r (λ d. d ≡ e) → AgreesWithJudging (λ v bytes. bytes ≡ items v) b c (judged_as (part_bytes_form code len)) (Err e) → AgreesWithJudging Q a c (judged_as (host_part_form h)) r
    bytes_stop c e r is n = behind c r (first_stops (λ v bytes. bytes ≡ items v) Q (part_bytes_form (le32 head 0) (le32 head 12)) (behind_bytes h head) b c e r is (as_said c (Err e) n))

    module _ {W : Type 0} (P : W → List ℕ → Type 0) (c d : Option (List ℕ)) (bytes : V) (read : AgreesWithJudging (λ v bytes. bytes ≡ items v) b c (judged_as (part_bytes_form code len)) (Ok bytes)) where
      behind_both : (r : Result Z (Stop ImageCause)) → AgreesWithJudging Q c d (judged_as (behind_bytes h head (items bytes))) r → AgreesWithJudging Q a d (judged_as (host_part_form h)) r
      behind_both r n = behind d r (told_then items Q (part_bytes_form (le32 head 0) (le32 head 12)) (behind_bytes h head) b c d bytes r (as_said c (Ok bytes) read) n)

      filled : (r : Result W (Stop ImageCause)) → AgreesWithJudging P c d (judged_as (padding_form len)) r → AgreesWithJudging P c d (judged_as (padding_form (le32 head 12))) r
      filled r n = subst (λ m. AgreesWithJudging P c d (judged_as (padding_form m)) r) same_len n

      -- the zeros aren't read
      pub padding_stop : (e : Stop ImageCause) (r : Result Z (Stop ImageCause)) → IsErrAnd r (λ d. d ≡ e) → AgreesWithJudging P c d (judged_as (padding_form len)) (Err e) → AgreesWithJudging Q a d (judged_as (host_part_form h)) r
      padding_stop e r is n = behind_both r (first_stops P Q (padding_form (le32 head 12)) (λ _. behind_padding h head (items bytes)) c d e r is (filled (Err e) n))

      -- the whole part is read
      pub part_reads : (w : W) (z : Z) → AgreesWithJudging P c d (judged_as (padding_form len)) (Ok w) → Q z (put_part_in h (head_key head) (items bytes)) → AgreesWithJudging Q a d (judged_as (host_part_form h)) (Ok z)
      part_reads w z n q =
          behind_both (Ok z) (then_read P Q (padding_form (le32 head 12)) (λ _. behind_padding h head (items bytes)) c d d w (Ok z) (filled (Ok w) n) (λ zeros p. nothing_read ImageCause Q d z (put_part_in h (head_key head) (items bytes)) q))

-- ---- a page is read

abbrev some_page : List ℕ → FormOf ImageCause (Option (List ℕ))
some_page p = Giving (Some p)

module _ (version : GuestImageVersion) (head : List ℕ) (some : type_has_data (head_type version head) ≡ true) where
  abbrev page_at : Bool → Bool → List ℕ → Judged ImageCause (Option (List ℕ))
  page_at has flag i = judged_as (page_if version (head_pfn version head) (has && not flag) (unsent_if has)) i

  -- one that is left out
  pub zeros_read : (a : Option (List ℕ)) (page : List ℕ) → has_zero_flag version head ≡ true → page ≡ page_left_out → AgreesWithJudging {X = Unit {0}} (λ _ found. found ≡ Some page) a a (judged_as (page_form version head)) (Ok tt)
  zeros_read a page flag zero =
      done {X = Unit {0}} (λ _ found. found ≡ Some page) a (judged_as (page_form version head)) tt (Some page_left_out)
      (λ i. ap (λ d. page_at d (has_zero_flag version head) i) some ∙ ap (λ f. page_at true f i) flag ∙ gives_goes {C = ImageCause} (Some page_left_out) i) (ap Some (sym zero))

  -- one that is sent, or isn't there
  pub sent_read : (a b : Option (List ℕ)) (page : List ℕ) (r : Result (Unit {0}) (Stop ImageCause)) (pfn : ℕ) → pfn ≡ head_pfn version head → has_zero_flag version head ≡ false → AgreesWithJudging {X = Unit {0}} (λ _ sent. sent ≡ page) a b (judged_as (sent_page_form version pfn)) r
      → AgreesWithJudging {X = Unit {0}} (λ _ found. found ≡ Some page) a b (judged_as (page_form version head)) r
  sent_read a b page r pfn same flag n = judged_so {X = Unit {0}} (λ _ found. found ≡ Some page) a b (judged_as (sent_page_form version pfn >>> some_page)) (judged_as (page_form version head)) r at_page (by r n)
    where
      at_page : (i : List ℕ) → judged_as (page_form version head) i ≡ judged_as (sent_page_form version pfn >>> some_page) i
      at_page i = ap (λ d. page_at d (has_zero_flag version head) i) some ∙ ap (λ f. page_at true f i) flag ∙ ap (λ k. judged_as (sent_page_form version k >>> some_page) i) (sym same)

      by : (r : Result (Unit {0}) (Stop ImageCause)) → AgreesWithJudging {X = Unit {0}} (λ _ sent. sent ≡ page) a b (judged_as (sent_page_form version pfn)) r → AgreesWithJudging {X = Unit {0}} (λ _ found. found ≡ Some page) a b (judged_as (sent_page_form version pfn >>> some_page)) r
      by (Ok u) n = then_read {V = Unit {0}} (λ _ sent. sent ≡ page) (λ _ found. found ≡ Some page) (sent_page_form version pfn) some_page a b b u (Ok u) n (λ p e. nothing_read ImageCause (λ _ found. found ≡ Some page) b u (Some p) (ap Some e))
      by (Err e) n = first_stops {V = Unit {0}} (λ _ sent. sent ≡ page) (λ _ found. found ≡ Some page) (sent_page_form version pfn) some_page a b e (Err e) refl n

-- ---- a frame is read

module _ (version : GuestImageVersion) (h : HostOf) {Z : Type 0} (Q : Z → HostOf → Type 0) (a b : Option (List ℕ)) (head : List ℕ) (opens : AgreesWithJudging {X = List ℕ} (λ v head. head ≡ v) a b (judged_as (frame_head_form version h)) (Ok head)) where
  behind_frame : (c : Option (List ℕ)) (r : Result Z (Stop ImageCause)) → AgreesWithJudging Q b c (judged_as (behind_frame_head version h head)) r → AgreesWithJudging Q a c (judged_as (host_frame_form version h)) r
  behind_frame c r n = told_then (λ v. v) Q (frame_head_form version h) (behind_frame_head version h) a b c head r opens n

  said_reads : (c : Option (List ℕ)) (page : Option (List ℕ)) (z : Z) → AgreesWithJudging {X = Unit {0}} (λ _ p. p ≡ page) b c (judged_as (page_form version head)) (Ok tt) → Q z (put_frame h (head_pfn version head) (frame_said version head page)) → AgreesWithJudging Q a c (judged_as (host_frame_form version h)) (Ok z)
  said_reads c page z n q =
      behind_frame c (Ok z) (told_then {V = Unit {0}} (λ _. page) Q (page_form version head) (behind_page version h head) b c c tt (Ok z) n (nothing_read ImageCause Q c z (put_frame h (head_pfn version head) (frame_said version head page)) q))

  -- of a type without data
  pub frame_reads : (kind : PageType) → kind ≡ head_type version head → (z : Z) → type_has_data kind ≡ false → Q z (put_frame h (head_pfn version head) (frame_said version head None)) → AgreesWithJudging Q a b (judged_as (host_frame_form version h)) (Ok z)
  frame_reads kind same z none q =
      said_reads b None z (done {X = Unit {0}} (λ _ p. p ≡ None) b (judged_as (page_form version head)) tt None
      (λ i. ap (λ d. judged_as (page_if version (head_pfn version head) (d && not (has_zero_flag version head)) (unsent_if d)) i) (ap type_has_data (sym same) ∙ none) ∙ gives_goes {C = ImageCause} {X = Option (List ℕ)} None i) refl) q

  module _ (c : Option (List ℕ)) (page : List ℕ) where
    abbrev Reads : Result (Unit {0}) (Stop ImageCause) → Type 0
    Reads r = AgreesWithJudging {X = Unit {0}} (λ _ found. found ≡ Some page) b c (judged_as (page_form version head)) r

    -- with its page
    pub page_reads : (z : Z) → Reads (Ok tt) → Q z (put_frame h (head_pfn version head) (frame_said version head (Some page))) → AgreesWithJudging Q a c (judged_as (host_frame_form version h)) (Ok z)
    page_reads z n q = said_reads c (Some page) z n q

    -- the page isn't read
    pub page_stops : (e : Stop ImageCause) (r : Result Z (Stop ImageCause)) → IsErrAnd r (λ d. d ≡ e) → Reads (Err e) → AgreesWithJudging Q a c (judged_as (host_frame_form version h)) r
    page_stops e r is n = behind_frame c r (first_stops {V = Unit {0}} (λ _ found. found ≡ Some page) Q (page_form version head) (behind_page version h head) b c e r is n)

-- ---- a frame whose head has no fault

-- one more
pub frames_more : (frames : HostFrames) (pfn : ℕ) (frame : HostFrame) → maps.get frames pfn ≡ None → length (maps.entries (maps.insert frames pfn frame)) ≡ length (maps.entries frames) + 1
frames_more frames pfn frame absent =
    sym (len-entries (maps.insert frames pfn frame)) ∙ len-insert nat_cmp_total frames pfn frame ∙ ap (λ o. cond (is_some o) (maps.len frames) (maps.len frames + 1)) absent ∙ ap (λ n. n + 1) (len-entries frames)

module _ (version : GuestImageVersion) (h : HostOf) (head : List ℕ) (fine : first_named (frame_causes version h head) ≡ None) where
  -- no frame has its number
  pub is_absent : (pfn : ℕ) → pfn ≡ head_pfn version head → maps.get h.frames pfn ≡ None
  is_absent pfn is =
      let (zero, (type, (order, others))) = rows_fine (frame_causes version h head) fine in
      ap (maps.get h.frames) is ∙ frame_absent h.frames (head_pfn version head) order

  -- with its frame the frames end behind its number
  pub ends_more : (frame : HostFrame) (pfn : ℕ) → pfn ≡ head_pfn version head → EndsAt (put_frame h pfn frame) (pfn + 1)
  ends_more frame pfn is =
      let (zero, (type, (order, others))) = rows_fine (frame_causes version h head) fine in
      ends_behind h pfn frame (ap (has_frame_from h) is ∙ order)

  -- no frame has its machine frame
  pub is_unused : (machine : ℕ) → machine ≡ le64 head 8 → (other : ℕ) (frame : HostFrame) → maps.get h.frames other ≡ Some frame → frame.machine ≡ machine → ⊥
  is_unused machine is other frame found same =
      let (zero, (type, (order, (outside, (range, (twice, done)))))) = rows_fine (frame_causes version h head) fine in
      eqb-false frame.machine (le64 head 8) (none_passes nat_cmp_total nat_cmp-IsAntisymmetric (λ x. x.1.machine == le64 head 8) h.frames other frame twice found) (same ∙ is)

-- the frame that is set is the one that the head and the page say
said : (version : GuestImageVersion) (head : List ℕ) (pfn machine : ℕ) (kind : PageType) (page : Option (List ℕ)) → pfn ≡ head_pfn version head → machine ≡ le64 head 8 → kind ≡ head_type version head
    → ◌≡◌ {A = ℕ × HostFrame} (pfn, record { type = kind; machine = machine; page = page }) (head_pfn version head, frame_said version head page)
said version head pfn machine kind page p m k i = (p i, record { type = k i; machine = m i; page = page })

pub said_is : (version : GuestImageVersion) (h : HostOf) (head : List ℕ) (pfn machine : ℕ) (kind : PageType) (page : Option (List ℕ)) → pfn ≡ head_pfn version head → machine ≡ le64 head 8 → kind ≡ head_type version head
    → put_frame h pfn (record { type = kind; machine = machine; page = page }) ≡ put_frame h (head_pfn version head) (frame_said version head page)
said_is version h head pfn machine kind page p m k = ap (λ e. put_frame h e.0 e.1) (said version head pfn machine kind page p m k)

-- it is one that a host has
pub is_frame : (version : GuestImageVersion) (h : HostOf) (head : List ℕ) → first_named (frame_causes version h head) ≡ None → (pfn machine : ℕ) (kind : PageType) (page : Option (List ℕ)) → pfn ≡ head_pfn version head → machine ≡ le64 head 8 → kind ≡ head_type version head
    → is_some page ≡ type_has_data kind → ((p : List ℕ) → page ≡ Some p → length p ≡ 4096) → IsHostFrame h.kind h.width pfn (record { type = kind; machine = machine; page = page })
is_frame version h head fine pfn machine kind page p m k step size =
    subst (λ (e : ℕ × HostFrame). IsHostFrame h.kind h.width e.0 e.1) (sym (said version head pfn machine kind page p m k)) (frame_fits version h head page fine (step ∙ ap type_has_data k) size).is

-- a page of this size
pub sized : (page : List ℕ) → length page ≡ 4096 → (p : List ℕ) → Some page ≡ Some p → length p ≡ 4096
sized page size p is = ap length (sym (same_Some page p is)) ∙ size

-- no page
pub unsized : (p : List ℕ) → None ≡ Some p → length p ≡ 4096
unsized p is = absurd (none-some p is)

-- where only the new state of a host was told
pub read_as : {C : Type 0} (a b : Option (List ℕ)) (f : List ℕ → Judged C HostOf) (v : HostAndSpare) → AgreesWithJudging {X = Unit {0}} (λ _ h. v.host ≡ h) a b f (Ok tt) → AgreesWithJudging {X = HostAndSpare} IsHost a b f (Ok v)
read_as None b f v h = tt
read_as (Some i) b f v h = h

-- and where it wasn't read
pub stops_as : {C V : Type 0} (R : V → HostOf → Type 0) (a b : Option (List ℕ)) (f : List ℕ → Judged C HostOf) (e : Stop C) (r : Result HostAndSpare (Stop C)) → IsErrAnd r (λ d. d ≡ e) → AgreesWithJudging R a b f (Err e) → AgreesWithJudging IsHost a b f r
stops_as R a b f e (Ok v) is h = absurd is
stops_as R a b f e (Err d) is h = subst (λ x. AgreesWithJudging IsHost a b f (Err x)) (sym is) (any_stop R IsHost a b f e h)

module _ (head : List ℕ) (h : HostOf) (is : h ≡ opened head) (n : ℕ) (same : n ≡ le64 head 24) (version : GuestImageVersion) (in_version : version ≡ head_version head) where
  -- frames of this version, so many, behind this host
  abbrev FramesRead : (a b : Option (List ℕ)) (framed : HostOf) (r : Result (Unit {0}) (Stop (ImagePlace × ImageCause))) (v : GuestImageVersion) (m : ℕ) (g : HostOf) → Type 0
  FramesRead a b framed r v m g = AgreesWithJudging {X = Unit {0}} (λ _ h. framed ≡ h) a b (judged_as (frames_form v g m)) r

  as_told : (a b : Option (List ℕ)) (framed : HostOf) (r : Result (Unit {0}) (Stop (ImagePlace × ImageCause))) → FramesRead a b framed r version n h → FramesRead a b framed r (head_version head) (le64 head 24) (opened head)
  as_told a b framed r frames = subst (λ v. FramesRead a b framed r v (le64 head 24) (opened head)) in_version (subst (λ m. FramesRead a b framed r version m (opened head)) same (subst (FramesRead a b framed r version n) is frames))

  module _ {Z : Type 0} (Q : Z → HostOf → Type 0) (a b : Option (List ℕ)) (framed : HostOf) (r : Result Z (Stop (ImagePlace × ImageCause))) where
    -- the frames aren't read
    pub frames_stop : (e : Stop (ImagePlace × ImageCause)) → IsErrAnd r (λ d. d ≡ e) → FramesRead a b framed (Err e) version n h → AgreesWithJudging Q a b (judged_as (behind_head head)) r
    frames_stop e stops frames = first_stops {V = Unit {0}} (λ _ h. framed ≡ h) Q (frames_form (head_version head) (opened head) (le64 head 24)) behind_frames a b e r stops (as_told a b framed (Err e) frames)

    module _ (frames : FramesRead a b framed (Ok tt) version n h) where
      frames_then : (d : Option (List ℕ)) → AgreesWithJudging Q b d (judged_as (behind_frames framed)) r → AgreesWithJudging Q a d (judged_as (behind_head head)) r
      frames_then d then =
          then_read {V = Unit {0}} (λ _ h. framed ≡ h) Q (frames_form (head_version head) (opened head) (le64 head 24)) behind_frames a b d tt r (as_told a b framed (Ok tt) frames)
          (λ y e. subst (λ g. AgreesWithJudging Q b d (judged_as (behind_frames g)) r) e then)

      -- their number isn't read
      pub count_stops : (c : Option (List ℕ)) (e : Stop ImageCause) (d : Stop (ImagePlace × ImageCause)) → d ≡ stop_at Parts e → IsErrAnd r (λ x. x ≡ d) → AgreesWithJudging {X = ℕ} (λ v m. m ≡ v) b c (judged_as count_form) (Err e) → AgreesWithJudging Q a c (judged_as (behind_head head)) r
      count_stops c e d at stops counts = frames_then c (first_stops {V = ℕ} (λ v m. m ≡ v) Q (placed_form Parts count_form) (host_parts_form framed) b c d r stops (placed_stop (λ v m. m ≡ v) Parts count_form b c e d at counts))

      -- the parts are read, or aren't
      pub parts_then : (c d : Option (List ℕ)) (count : ℕ) → AgreesWithJudging {X = ℕ} (λ v m. m ≡ v) b c (judged_as count_form) (Ok count) → AgreesWithJudging Q c d (judged_as (host_parts_form framed count)) r → AgreesWithJudging Q a d (judged_as (behind_head head)) r
      parts_then c d count counts parts = frames_then d (told_then (λ v. v) Q (placed_form Parts count_form) (host_parts_form framed) b c d count r (placed_read (λ v m. m ≡ v) Parts count_form b c count counts) parts)
