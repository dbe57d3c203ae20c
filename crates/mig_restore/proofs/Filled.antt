-- A frame of a guest whose page is taken into its place: what it says of the entry, whatever the answer is.
use Rattle.mig_restore.proofs.Common.{◌≡◌, ◌<◌, ℕ, List, [], ◌∷◌, Option, Some, None, Result, Ok, Err, true, length, sym, ap, subst, ◌∙◌, AgreesWithJudging, Judged, AreBytes, GuestOf, Stop, Cause, PageType, word_pfn, word_has_data, type_in_word, level_of, type_in_guest, entry_at, entry, pfn_limit, put_entry, GrewByRecord, IsInside, IsWithin, IsGoodWord, same_Some, ◌⊎◌, inl, inr, OnOk, OnErr, Memory, framed, type_has_data, word_inside, grows_frame, entry_set, level_within, AreEntriesSet}
use Rattle.mig_restore.specs.PageReads.{ReadsPage}
use Rattle.mig_restore.proofs.Begun.{one_set}
use Rattle.mig_restore.proofs.Entries.{with_page, bad_page}

-- want of memory says nothing of what would be given
out_of_memory : {X Y : Type 0} (R : X → Y → Type 0) (a b : Option (List ℕ)) (f : List ℕ → Rattle.mig_bytes.specs.Judged.Judged Cause Y) (e : Stop Cause) → e ≡ Memory → AgreesWithJudging R a b f (Err e)
out_of_memory R None b f e is = tt
out_of_memory R (Some i) b f e is = subst (λ s. AgreesWithJudging R (Some i) b f (Err s)) (sym is) tt

module _ (g h : GuestOf) (place w pfn : ℕ) (in_stream type : PageType) (told : in_stream ≡ type_in_word w) (is : type ≡ type_in_guest g.kind in_stream) (at : pfn ≡ word_pfn w) where
  kind_is : type ≡ type_in_guest g.kind (type_in_word w)
  kind_is = is ∙ ap (type_in_guest g.kind) told

  abbrev Sets : List ℕ → Type 0
  Sets page = h ≡ record g { frames = framed g.frames pfn type (Some page) }

  entry_put : (page : List ℕ) → Sets page → h ≡ record g { frames = put_entry g.kind g.frames (record { pfn = word_pfn w; type = type_in_word w; page = Some page }) }
  entry_put page now = entry_set g h w pfn type (Some page) at kind_is now

  module _ (a b : Option (List ℕ)) (f f' : ℕ) where
    abbrev Reads : List ℕ → Result (Unit {0}) (Stop Cause) → Type 0
    Reads page r = ReadsPage type place g.top a b f f' page r

    abbrev Fills : Result (Unit {0}) (Stop Cause) → Type 0
    Fills r = OnOk r ((page : List ℕ) × Reads page r × Sets page)

    abbrev Stops : Result (Unit {0}) (Stop Cause) → Type 0
    Stops r = OnErr r (((page : List ℕ) × Reads page r) ⊎ ((r ≡ Err Memory) × (b ≡ a) × (f' ≡ f)))

    pub filled_read : (r : Result (Unit {0}) (Stop Cause)) → word_has_data w ≡ true → Fills r → Stops r
        → AgreesWithJudging {X = Unit {0}} (λ _ e. h ≡ record g { frames = put_entry g.kind g.frames e }) a b (entry_at g.kind g.top (place, w)) r
    filled_read (Ok u) some (page, reads, now) stops = with_page _ g.kind g.top place w type kind_is some a b page u u reads.read (entry_put page now)
    filled_read (Err e) some fills (inl (page, reads)) = bad_page _ g.kind g.top place w type kind_is some a b page e reads.read
    filled_read (Err e) some fills (inr (is, left, faults)) = out_of_memory _ a b (entry_at g.kind g.top (place, w)) e (let same : e ≡ Memory = cc in same)

    pub filled_set : (r : Result (Unit {0}) (Stop Cause)) → Fills r → OnOk r (AreEntriesSet put_entry g h (w ∷ []))
    filled_set (Ok u) (page, reads, now) = one_set put_entry g h w (Some page) (entry_put page now)
    filled_set (Err e) fills = tt

    pub filled_grown : (r : Result (Unit {0}) (Stop Cause)) → IsGoodWord g.kind g.top w → type_has_data type ≡ true → Fills r → OnOk r (GrewByRecord g h)
    filled_grown (Ok u) good some (page, reads, now) =
        let inside = word_inside g.kind g.top w good.1 in
        grows_frame g h in_stream type pfn (Some page) is (record {
          small = subst (λ n. n < pfn_limit) (sym at) inside.0;
          inside = subst (IsInside g.kind g.top) (sym at) inside.1;
          in_step = sym some;
          whole = λ bytes e. ap length (sym (same_Some page bytes e)) ∙ reads.whole;
          all = λ bytes e. subst AreBytes (same_Some page bytes e) reads.bytes;
          entries = λ level bytes lev has slot lt. subst (λ b. IsWithin g.top (entry level b slot)) (same_Some page bytes has) ((level_within g.top place (level_of type) page).0 reads.fine level lev slot lt);
        }) now
    filled_grown (Err e) good some fills = tt

-- a source that is as it was has what it had
pub stops_so : {S : Type 0} (left : S → Option (List ℕ)) (faults : S → ℕ) (s s' : S) (P : Type 0) (r : Result (Unit {0}) (Stop Cause))
    → OnErr r (P ⊎ ((r ≡ Err Memory) × (s' ≡ s))) → OnErr r (P ⊎ ((r ≡ Err Memory) × (left s' ≡ left s) × (faults s' ≡ faults s)))
stops_so left faults s s' P (Ok u) h = tt
stops_so left faults s s' P (Err e) (inl p) = inl p
stops_so left faults s s' P (Err e) (inr (is, same)) = inr (is, ap left same, ap faults same)
