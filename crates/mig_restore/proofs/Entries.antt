-- The entry of a word, as a reader takes it: with no page, or with the page that was taken.
use Rattle.mig_restore.proofs.Common.{◌≡◌, ℕ, List, Option, Some, None, Result, Err, Ok, true, false, Bool, cond, refl, ap, sym, subst, ◌∙◌, part, AgreesWithJudging, Judged, ◌>>=◌, Passes, done, mapped, Stop, Cause, Truncated, Kind, GuestOf, PageType, level_of, word_pfn, word_has_data, FrameEntry, type_in_word, fault_of_level, type_in_guest, entry_at, agrees, tried, said_at, Faulty, Refused, stop, judged_so, is_same_frame, some_frame, IsErrAnd}
use Rattle.std.specs.FinMap as fin

-- ---- a page

-- what taking a page and judging it gives
abbrev pub page_said : (List ℕ → Option Cause) → List ℕ → Judged Cause (List ℕ)
page_said fault = said_at Truncated fault (λ bytes. bytes) 4096

abbrev pub Page : List ℕ → Unit {0} → List ℕ → Type 0
Page page u bytes = bytes ≡ page

module _ (fault : List ℕ → Option Cause) (page : List ℕ) where
  pub page_fine : (a b : Option (List ℕ)) (n : ℕ) (u v : Unit {0}) → n ≡ 4096 → AgreesWithJudging (Page page) a b (part Truncated n) (Ok u) → fault page ≡ None → AgreesWithJudging (Page page) a b (page_said fault) (Ok v)
  page_fine None b n u v size h fine = tt
  page_fine (Some i) b n u v size (bytes, rest, is, left, same) fine =
      let is' = subst (λ m. part Truncated m i ≡ Passes bytes rest) size is in
      let fine' : fault bytes ≡ None = ap fault same ∙ fine in
      (bytes, rest, rw (is', fine') refl, left, same)

  pub page_refused : (a b : Option (List ℕ)) (n : ℕ) (u : Unit {0}) (c : Cause) → n ≡ 4096 → AgreesWithJudging (Page page) a b (part Truncated n) (Ok u) → fault page ≡ Some c → AgreesWithJudging (Page page) a b (page_said fault) (Err (Refused c))
  page_refused None b n u c size h bad = tt
  page_refused (Some i) b n u c size (bytes, rest, is, left, same) bad =
      let is' = subst (λ m. part Truncated m i ≡ Passes bytes rest) size is in
      let bad' : fault bytes ≡ Some c = ap fault same ∙ bad in
      (rest, rw (is', bad') refl, left)

-- ---- an entry

module _ (fault : List ℕ → Option Cause) (entry : Option (List ℕ) → FrameEntry) where
  by_fault : (x rest : List ℕ) (o : Option Cause) → ((tried o rest >>= λ _. Passes (Some x) rest) >>= λ p. Passes (entry p.0) p.1) ≡ ((tried o rest >>= λ _. Passes x rest) >>= λ b. Passes (entry (Some b.0)) b.1)
  by_fault x rest None = refl
  by_fault x rest (Some c) = refl

  by_part : (j : Judged Cause (List ℕ)) → ((j >>= λ b. tried (fault b.0) b.1 >>= λ _. Passes (Some b.0) b.1) >>= λ p. Passes (entry p.0) p.1) ≡ ((j >>= λ b. tried (fault b.0) b.1 >>= λ _. Passes b.0 b.1) >>= λ b. Passes (entry (Some b.0)) b.1)
  by_part (Passes x rest) = by_fault x rest (fault x)
  by_part (Faulty c rest) = refl

  by_data : (i : List ℕ) (data_there : Bool) → data_there ≡ true
      → (cond data_there (part Truncated 4096 i >>= λ b. tried (fault b.0) b.1 >>= λ _. Passes (Some b.0) b.1) (Passes None i) >>= λ p. Passes (entry p.0) p.1) ≡ (page_said fault i >>= λ b. Passes (entry (Some b.0)) b.1)
  by_data i true is = by_part (part Truncated 4096 i)
  by_data i false is = absurd (cc)

module _ {X : Type 0} (R : X → FrameEntry → Type 0) (kind : Kind) (top place : ℕ) where
  pub no_page : (a : Option (List ℕ)) (w : ℕ) (x : X) → word_has_data w ≡ false → R x (record { pfn = word_pfn w; type = type_in_word w; page = None }) → AgreesWithJudging R a a (entry_at kind top (place, w)) (Ok x)
  no_page a w x none r = done R a (entry_at kind top (place, w)) x _ (λ i. rw none refl) r

  module _ (w : ℕ) (type : PageType) (is : type ≡ type_in_guest kind (type_in_word w)) (some : word_has_data w ≡ true) where
    abbrev entry : Option (List ℕ) → FrameEntry
    entry page = record { pfn = word_pfn w; type = type_in_word w; page = page }

    entry_is : (i : List ℕ) → entry_at kind top (place, w) i ≡ (page_said (fault_of_level top place (level_of type)) i >>= λ b. Passes (entry (Some b.0)) b.1)
    entry_is i =
        subst (λ (t : PageType). entry_at kind top (place, w) i ≡ (page_said (fault_of_level top place (level_of t)) i >>= λ b. Passes (entry (Some b.0)) b.1)) (sym is)
        (by_data (fault_of_level top place (level_of (type_in_guest kind (type_in_word w)))) entry i (word_has_data w) some)

    pub with_page : (a b : Option (List ℕ)) (page : List ℕ) (u : Unit {0}) (x : X) → AgreesWithJudging (Page page) a b (page_said (fault_of_level top place (level_of type))) (Ok u) → R x (entry (Some page)) → AgreesWithJudging R a b (entry_at kind top (place, w)) (Ok x)
    with_page a b page u x h r =
        mapped (Page page) R a b (page_said (fault_of_level top place (level_of type))) (entry_at kind top (place, w)) (λ bytes. entry (Some bytes)) u x entry_is h (λ bytes same. subst (λ p. R x (entry (Some p))) (sym same) r)

    pub bad_page : (a b : Option (List ℕ)) (page : List ℕ) (e : Stop Cause) → AgreesWithJudging (Page page) a b (page_said (fault_of_level top place (level_of type))) (Err e) → AgreesWithJudging R a b (entry_at kind top (place, w)) (Err e)
    bad_page a b page e h =
        judged_so R a b (λ i. page_said (fault_of_level top place (level_of type)) i >>= λ bytes. Passes (entry (Some bytes.0)) bytes.1) (entry_at kind top (place, w)) (Err e) entry_is
        (stop (Page page) R a b (page_said (fault_of_level top place (level_of type))) (λ bytes. Passes (entry (Some bytes.0)) bytes.1) e h)

    pub stopped_page : (a b : Option (List ℕ)) (page : List ℕ) (e : Stop Cause) (r : Result X (Stop Cause)) → IsErrAnd r (λ d. d ≡ e) → AgreesWithJudging (Page page) a b (page_said (fault_of_level top place (level_of type))) (Err e) → AgreesWithJudging R a b (entry_at kind top (place, w)) r
    stopped_page a b page e (Ok x) failed h = absurd failed
    stopped_page a b page e (Err d) failed h = subst (λ s. AgreesWithJudging R a b (entry_at kind top (place, w)) (Err s)) (sym failed) (bad_page a b page e h)

-- a frame of the guest that was compared with what a word and its page say
pub compared : (g : GuestOf) (w pfn : ℕ) (meant : PageType) (page : Option (List ℕ)) (same : Bool) → pfn ≡ word_pfn w → meant ≡ type_in_guest g.kind (type_in_word w) → same ≡ is_same_frame (fin.get g.frames pfn) (some_frame meant page)
    → same ≡ agrees g.kind g.frames (record { pfn = word_pfn w; type = type_in_word w; page = page })
compared g w pfn meant page same at is now =
    now ∙ ap (λ p. is_same_frame (fin.get g.frames p) (some_frame meant page)) at ∙ ap (λ (t : PageType). is_same_frame (fin.get g.frames (word_pfn w)) (some_frame t page)) is
