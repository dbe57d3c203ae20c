-- The entry of a word, as a judge takes it that puts it into an outline.
use Rattle.mig_restore.proofs.Common.{◌≡◌, ◌<◌, ℕ, List, [], ◌∷◌, Option, Some, None, Result, Ok, Err, true, false, refl, sym, ap, subst, ◌∙◌, is_some, none-some, part, AgreesWithJudging, Passes, Stop, Cause, Truncated, Kind, GuestOf, PageType, level_of, pfn_limit, IsInside, word_pfn, word_has_data, FrameEntry, Nothing, type_in_word, fault_of_level, fault_of_page, type_in_guest, entry_at, put_entry, GrewByRecord, IsGoodWord, OnOk, AreEntriesSet}
use Rattle.std.specs.Prelude.{⊤}
use Rattle.mig_bytes.specs.Judged.{plain_at}
use Rattle.mig_bytes.specs.Judged.Judged.{Faulty}
use Rattle.mig_bytes.specs.declared.stop.Stop.TheVariants.{Refused, ReadFault, Memory}
use Rattle.mig_bytes.proofs.Joins.{any_stop, both_pass, same_passes, only_first}
use Rattle.mig_guest.specs.Frames.{FrameMap, framed}
use Rattle.mig_outline.proofs.Common.{Pv, Hvm, outline_type, outline_page, outline_framed, put_outline_entry, Notab, Broken, Xalloc, Xtab, page_at}
use Rattle.mig_pagetypes.specs.PageTypes.{type_has_data}
use Rattle.mig_restore.proofs.Begun.{one_set, only_entry}
use Rattle.mig_restore.proofs.Compared.{judged_too}
use Rattle.mig_restore_form.proofs.Growth.{word_inside, grows_frame}

-- ---- a page of which nothing is kept

module _ (kind : Kind) (top place w : ℕ) (none : level_of (type_in_guest kind (type_in_word w)) ≡ None) where
  unjudged : (bytes : List ℕ) → fault_of_page kind top (place, w) bytes ≡ None
  unjudged bytes = ap (λ o. fault_of_level top place o bytes) none

  page_passes : (i bytes rest : List ℕ) → word_has_data w ≡ true → part Truncated 4096 i ≡ Passes bytes rest → fault_of_page kind top (place, w) bytes ≡ None → page_at kind top (place, w) i ≡ Passes (Some bytes) rest
  page_passes i bytes rest some first fine = rw (some, first, fine) refl

  page_faulty : (i : List ℕ) (c : Cause) (rest : List ℕ) → word_has_data w ≡ true → part Truncated 4096 i ≡ Faulty c rest → page_at kind top (place, w) i ≡ Faulty c rest
  page_faulty i c rest some first = rw (some, first) refl

  -- it was skipped
  pub passed : (a b : Option (List ℕ)) (r : Result (Unit {0}) (Stop Cause)) → word_has_data w ≡ true
      → AgreesWithJudging {X = Unit {0}} (λ _ c. c ≡ Nothing) a b (λ i. plain_at Truncated (λ _. Nothing) 4096 i) r → AgreesWithJudging {X = Unit {0}} (λ _ _. ⊤) a b (page_at kind top (place, w)) r
  passed None b (Ok u) some h = tt
  passed (Some i) b (Ok u) some (y, rest, is, left, _) =
      let a = both_pass (part Truncated 4096 i) (λ p. Passes Nothing p.1) y rest is in
      let e : a.mid ≡ rest = (same_passes _ _ _ _ a.second).1 in
      (Some a.x, rest, page_passes i a.x rest some (a.first ∙ ap (Passes a.x) e) (unjudged a.x), left, tt)
  passed None b (Err e) some h = tt
  passed (Some i) b (Err (Refused c)) some (rest, is, left) = (rest, page_faulty i c rest some (only_first (λ _. Nothing) (part Truncated 4096 i) c rest is), left)
  passed (Some i) b (Err ReadFault) some h = tt
  passed (Some i) b (Err Memory) some h = tt

  -- or there is none
  pub not_there : (a : Option (List ℕ)) → word_has_data w ≡ false → AgreesWithJudging {X = Unit {0}} (λ _ _. ⊤) a a (page_at kind top (place, w)) (Ok tt)
  not_there None none = tt
  not_there (Some i) none = (None, i, rw none refl, refl, tt)

abbrev pub entry_of : ℕ → Option (List ℕ) → FrameEntry
entry_of w page = record { pfn = word_pfn w; type = type_in_word w; page = page }

-- ---- what is set

pub outline_set : (g n : GuestOf) (w pfn : ℕ) (meant type : PageType) (page : Option (List ℕ)) → pfn ≡ word_pfn w → meant ≡ type_in_guest g.kind (type_in_word w) → type ≡ outline_type meant → level_of meant ≡ None
    → n ≡ record g { frames = framed g.frames pfn type None } → n ≡ record g { frames = put_outline_entry g.kind g.frames (entry_of w page) }
outline_set g n w pfn meant type page at means shown none now =
    now ∙ (λ i. record g { frames = framed g.frames (at i) (shown i) (sym (ap (λ o. outline_page o page) none) i) }) ∙ ap (λ (t : PageType). record g { frames = outline_framed g.frames (word_pfn w) t page }) means

-- a table is set with its page
pub table_set : (g n : GuestOf) (w : ℕ) (meant : PageType) (e : FrameEntry) → e.type ≡ type_in_word w → meant ≡ type_in_guest g.kind (type_in_word w) → is_some (level_of meant) ≡ true
    → n ≡ record g { frames = put_entry g.kind g.frames e } → n ≡ record g { frames = put_outline_entry g.kind g.frames e }
table_set g n w meant e is means some now =
    let same : meant ≡ type_in_guest g.kind e.type = means ∙ ap (type_in_guest g.kind) (sym is) in
    now ∙ ap (λ (f : FrameMap). record g { frames = f }) (by (type_in_guest g.kind e.type) (subst (λ t. is_some (level_of t) ≡ true) same some))
  where
    by : (t : PageType) → is_some (level_of t) ≡ true → framed g.frames e.pfn t e.page ≡ outline_framed g.frames e.pfn t e.page
    by Notab is = cc
    by Broken is = cc
    by Xalloc is = cc
    by Xtab is = cc
    by _ is = refl

-- the type of an entry that is judged is that of its word
entry_type : (kind : Kind) (top place w : ℕ) (i : List ℕ) (e : FrameEntry) (rest : List ℕ) → entry_at kind top (place, w) i ≡ Passes e rest → e.type ≡ type_in_word w
entry_type kind top place w i e rest h =
    let a = both_pass (page_at kind top (place, w) i) (λ page. Passes (entry_of w page.0) page.1) e rest h in
    sym (ap (λ (x : FrameEntry). x.type) (same_passes _ _ _ _ a.second).0)

-- what is set of a table's word
pub table_named : (g n : GuestOf) (w : ℕ) (meant : PageType) (r : Result (Unit {0}) (Stop Cause)) → meant ≡ type_in_guest g.kind (type_in_word w) → is_some (level_of meant) ≡ true
    → OnOk r (AreEntriesSet put_entry g n (w ∷ [])) → OnOk r (AreEntriesSet put_outline_entry g n (w ∷ []))
table_named g n w meant (Ok u) means some set = let (page, now) = only_entry put_entry g n w set in one_set put_outline_entry g n w page (table_set g n w meant (entry_of w page) refl means some now)
table_named g n w meant (Err e) means some set = tt

pub tabled : (g n : GuestOf) (a b : Option (List ℕ)) (place w : ℕ) (meant : PageType) (r : Result (Unit {0}) (Stop Cause)) → meant ≡ type_in_guest g.kind (type_in_word w) → is_some (level_of meant) ≡ true
    → AgreesWithJudging (λ _ e. n ≡ record g { frames = put_entry g.kind g.frames e }) a b (entry_at g.kind g.top (place, w)) r → AgreesWithJudging (λ _ e. n ≡ record g { frames = put_outline_entry g.kind g.frames e }) a b (entry_at g.kind g.top (place, w)) r
tabled g n a b place w meant (Ok u) means some h = judged_too _ _ a b (entry_at g.kind g.top (place, w)) u u (λ i rest e judged is. table_set g n w meant e (entry_type g.kind g.top place w i e rest judged) means some is) h
tabled g n a b place w meant (Err e) means some h = any_stop (λ _ e. n ≡ record g { frames = put_entry g.kind g.frames e }) _ a b (entry_at g.kind g.top (place, w)) e h

-- ---- a guest on its way

bare_meant : (kind : Kind) (t : PageType) → outline_type (type_in_guest kind t) ≡ type_in_guest kind (outline_type (type_in_guest kind t))
bare_meant Pv t = refl
bare_meant Hvm Broken = refl
bare_meant Hvm Xalloc = refl
bare_meant Hvm Xtab = refl
bare_meant Hvm _ = refl

pub outline_grows : (g n : GuestOf) (w pfn : ℕ) (meant in_stream type : PageType) → IsGoodWord g.kind g.top w → pfn ≡ word_pfn w → meant ≡ type_in_guest g.kind in_stream → type ≡ outline_type meant → type_has_data type ≡ false
    → n ≡ record g { frames = framed g.frames pfn type None } → GrewByRecord g n
outline_grows g n w pfn meant in_stream type good at means shown bare now =
    let inside = word_inside g.kind g.top w good.1 in
    let same : type ≡ type_in_guest g.kind type = shown ∙ ap outline_type means ∙ bare_meant g.kind in_stream ∙ ap (type_in_guest g.kind) (sym (shown ∙ ap outline_type means)) in
    grows_frame g n type type pfn None same (record {
      small = subst (λ n. n < pfn_limit) (sym at) inside.0;
      inside = subst (IsInside g.kind g.top) (sym at) inside.1;
      in_step = sym bare;
      whole = λ bytes e. absurd (none-some bytes e);
      all = λ bytes e. absurd (none-some bytes e);
      entries = λ level page lev has. absurd (none-some page has);
    }) now
