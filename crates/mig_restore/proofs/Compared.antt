-- What the reader makes of a record where frames are compared.
use Rattle.mig_restore.proofs.Common.{◌≡◌, ℕ, ◌+◌, List, [], ◌∷◌, ◌++◌, Bool, true, false, cond, not, nat_eq, ◌||◌, Option, Some, None, Result, refl, sym, ap, subst, ◌∙◌, Judged, AgreesWithJudging, any_stop, Passes, Ok, Err, Stop, Kind, GuestOf, FrameEntry, StreamRecord, ImageOf, TakenImage, Content, types_of, is_verified, placed_content, put_content, put_content_by, put_entries_by, put_entry, EntryStep, is_some, entries_in, checked_in, checked_of, differing, agrees, IsCompared, IsImageCompared, IsTaken, IsTakenAndCompared, differs_behind, differs_with, entry_with, FrameMap, NotesOn, one_more_record, pages_at, Nothing, Frames, Sets, Lists, Checks, IsPlaced, IsUnchecked, verified_more, checked_more, differing_join, both_pass, same_passes}
use Rattle.std.specs.FinMap as maps
use Rattle.mig_restore_form.specs.Judging.{entries_at}
use Rattle.mig_restore_form.specs.Mean.{sent, differs_of}
use Rattle.mig_restore.proofs.Noted.{both_told, weaker}

-- ---- the body that the reader takes

-- what a reader gives is told of in another way, by what was judged too
pub judged_too : {C V W X : Type 0} (R : V → X → Type 0) (Q : W → X → Type 0) (a b : Option (List ℕ)) (f : List ℕ → Judged C X) (v : V) (w : W) → ((i rest : List ℕ) (x : X) → f i ≡ Passes x rest → R v x → Q w x) → AgreesWithJudging R a b f (Ok v) → AgreesWithJudging Q a b f (Ok w)
judged_too R Q None b f v w turn h = tt
judged_too R Q (Some i) b f v w turn (x, rest, is, left, r) = (x, rest, is, left, turn i rest x is r)

-- whatever it gives
pub told_judged : {C V X : Type 0} (R Q : V → X → Type 0) (a b : Option (List ℕ)) (f : List ℕ → Judged C X) (r : Result V (Stop C)) → ((i rest : List ℕ) (v : V) (x : X) → f i ≡ Passes x rest → R v x → Q v x) → AgreesWithJudging R a b f r → AgreesWithJudging Q a b f r
told_judged R Q None b f r turn h = tt
told_judged R Q (Some i) b f (Ok v) turn (x, rest, is, left, told) = (x, rest, is, left, turn i rest v x is told)
told_judged R Q (Some i) b f (Err e) turn h = any_stop R Q (Some i) b f e h

-- entries that are compared are put nowhere
pub pages_put : (put : EntryStep) (kind : Kind) (top len : ℕ) (g : GuestOf) (i rest : List ℕ) (c : Content) → pages_at kind top len i ≡ Passes c rest → g ≡ put_content_by put g (placed_content true c)
pages_put put kind top len g i rest c h =
    let a = both_pass (entries_at kind top len i) _ c rest h in
    subst (λ (d : Content). g ≡ put_content_by put g (placed_content true d)) (same_passes _ _ _ _ a.second).0 refl

-- a body that is judged as the reader asks
pub record_told : (put : EntryStep) (g n : GuestOf) (v w : Bool) (c : Content) → v ≡ w → n ≡ put_content_by put g (placed_content v c) → n ≡ put_content_by put g (placed_content w c)
record_told put g n v w c same now = now ∙ ap (λ b. put_content_by put g (placed_content b c)) same

-- whether entries are counted behind one more record
pub counts_on : (d after : Option ℕ) (type more : ℕ) → after ≡ differs_with d type more → is_some after ≡ (is_some d || nat_eq type 0xD)
counts_on None after type more is = ap is_some is ∙ by (nat_eq type 0xD)
  where
    begun : Bool → Option ℕ
    begun b = cond b (Some 0) None

    by : (b : Bool) → is_some (begun b) ≡ b
    by true = refl
    by false = refl
counts_on (Some n) after type more is = ap is_some is

module _ {K : Type 0} (compares : Bool) (notes : K → List ℕ → Option (List ℕ) → FrameMap → Type 0) (kept : FrameMap → FrameMap) (keeper : K) (left : Option (List ℕ)) (there : FrameMap) (kind : Kind) where
  pub record_compared : (v w : Bool) (d after : Option ℕ) (more type : ℕ) (c : Content) → v ≡ w → after ≡ differs_with d type more
      → IsCompared compares notes kept keeper left there (λ frames. more ≡ differing kind frames (checked_in (placed_content v c)))
      → IsCompared compares notes kept keeper left there (λ frames. after ≡ differs_behind kind frames d (record { type = type; content = placed_content w c }))
  record_compared v w d after more type c same now told is all frames noted here =
      now ∙ ap (differs_with d type) (told is all frames noted here ∙ ap (λ b. differing kind frames (checked_in (placed_content b c))) same)

  -- nothing is compared
  pub none_compared : (c d : Content) → d ≡ c → checked_in c ≡ [] → IsCompared compares notes kept keeper left there (λ frames. 0 ≡ differing kind frames (checked_in d))
  none_compared c d same none is all frames noted here = ap (differing kind frames) (sym (ap checked_in same ∙ none))

-- ---- one more record, and the number of entries that differ

-- a content that sends nothing leaves the frames
frames_stay : (g : GuestOf) (c : Content) → entries_in c ≡ [] → (put_content g c).frames ≡ g.frames
frames_stay g Nothing none = refl
frames_stay g (Frames es) none = ap (put_entries_by put_entry g.kind g.frames) none
frames_stay g (Sets code ps) none = refl
frames_stay g (Lists last frames) none = refl
frames_stay g (Checks es) none = refl

module _ (kind : Kind) (rs : List StreamRecord) (r : StreamRecord) (before : IsUnchecked rs) (placed : IsPlaced (is_verified (types_of rs)) r.content) where
  abbrev then : Bool → Option ℕ
  then b = cond b (Some (differing kind (sent kind (rs ++ r ∷ [])).frames (checked_of (rs ++ r ∷ [])))) None

  abbrev now : Bool → Option ℕ
  now b = cond b (Some (differing kind (sent kind rs).frames (checked_of rs))) None

  -- behind a VERIFY
  added : is_verified (types_of rs) ≡ true → then true ≡ differs_behind kind (sent kind rs).frames (now true) r
  added is =
      let frames : (sent kind (rs ++ r ∷ [])).frames ≡ (sent kind rs).frames = ap (λ (g : GuestOf). g.frames) (one_more_record kind rs r) ∙ frames_stay (sent kind rs) r.content (placed.sends is) in
      ap Some
      (ap (λ (m : FrameMap). differing kind m (checked_of (rs ++ r ∷ []))) frames ∙ ap (differing kind (sent kind rs).frames) (checked_more rs r) ∙ differing_join kind (sent kind rs).frames (checked_of rs) (checked_in r.content))

  -- before it
  begun : is_verified (types_of rs) ≡ false → (b : Bool) → nat_eq r.type 0xD ≡ b → then b ≡ cond b (Some 0) None
  begun is true verify =
      ap (λ es. Some (differing kind (sent kind (rs ++ r ∷ [])).frames es)) (checked_more rs r ∙ ap (λ l. l ++ checked_in r.content) (before is) ∙ placed.checks is)
  begun is false other = refl

  by : (b : Bool) → is_verified (types_of rs) ≡ b → then (b || nat_eq r.type 0xD) ≡ differs_behind kind (sent kind rs).frames (now b) r
  by true is = added is
  by false is = begun is (nat_eq r.type 0xD) refl

  pub differs_more : differs_of kind (rs ++ r ∷ []) ≡ differs_behind kind (sent kind rs).frames (differs_of kind rs) r
  unfolding differs_of
  differs_more = ap then (verified_more rs r) ∙ by (is_verified (types_of rs)) refl

-- ---- the entries of a record that are compared one by one

one_more_compared : (kind : Kind) (m : FrameMap) (es : List FrameEntry) (e : FrameEntry) (n k : ℕ) (differs : Bool) → n ≡ differing kind m es → differs ≡ not (agrees kind m e) → k ≡ n + cond differs 1 0 → k ≡ differing kind m (es ++ e ∷ [])
one_more_compared kind m es e n k differs so_far is at =
    at ∙ ap (λ x. x + cond differs 1 0) so_far ∙ ap (λ x. differing kind m es + x) last ∙ sym (differing_join kind m es (e ∷ []))
  where
    one : (a b : Bool) → a ≡ b → cond a 1 0 ≡ 0 + cond b 1 0
    one true true is = refl
    one false false is = refl
    one true false is = absurd (cc)
    one false true is = absurd (cc)

    last : cond differs 1 0 ≡ differing kind m (e ∷ [])
    last = one differs (not (agrees kind m e)) is

module _ {K : Type 0} (compares : Bool) (notes : K → List ℕ → Option (List ℕ) → FrameMap → Type 0) (kept : FrameMap → FrameMap) (keeper : K) (there : FrameMap) (kind : Kind) where
  -- so many entries differ, and what was noted is noted still
  abbrev pub AreCounted : Option (List ℕ) → Option (List ℕ) → ℕ → List FrameEntry → Type 0
  AreCounted first now n es = IsCompared compares notes kept keeper first there (λ frames. n ≡ differing kind frames es) × NotesOn notes keeper keeper first now (λ frames. frames)

  -- so it is of one entry
  abbrev pub IsCounted : Option (List ℕ) → Option (List ℕ) → Bool → FrameEntry → Type 0
  IsCounted now next differs e = IsCompared compares notes kept keeper now there (λ frames. differs ≡ not (agrees kind frames e)) × NotesOn notes keeper keeper now next (λ frames. frames)

  pub one_more_counted : (first now next : Option (List ℕ)) (es : List FrameEntry) (e : FrameEntry) (n k : ℕ) (differs : Bool) → AreCounted first now n es → IsCounted now next differs e → k ≡ n + cond differs 1 0 → AreCounted first next k (es ++ e ∷ [])
  one_more_counted first now next es e n k differs before here at = (
    λ is all frames noted same. one_more_compared kind frames es e n k differs (before.0 is all frames noted same) (here.0 is all frames (before.1 all frames noted) same) at,
    λ all frames noted. here.1 all frames (before.1 all frames noted),
  )

-- an entry that was compared with the frames that are kept
pub told_apart : (g : GuestOf) (w : ℕ) (page : Option (List ℕ)) (same differs : Bool) (e : FrameEntry) (frames : FrameMap) → same ≡ agrees g.kind g.frames (entry_with w page) → differs ≡ not same → e ≡ entry_with w page → g.frames ≡ frames → differs ≡ not (agrees g.kind frames e)
told_apart g w page same differs e frames is now entry here = now ∙ ap not is ∙ (λ i. not (agrees g.kind (here i) (sym entry i)))

-- ---- a whole image

-- it was compared, where nothing was noted before
pub both_compared : {C K : Type 0} (kept : FrameMap → FrameMap) (notes : K → List ℕ → Option (List ℕ) → FrameMap → Type 0) (keeper : K) (a b : Option (List ℕ)) (f : List ℕ → Judged C ImageOf) (r : Result TakenImage (Stop C))
    → ((i : List ℕ) → a ≡ Some i → (all : List ℕ) × notes keeper all a maps.empty) → AgreesWithJudging (IsTaken kept) a b f r → AgreesWithJudging (λ taken image. IsImageCompared true notes keeper a taken.differs image) a b f r → AgreesWithJudging (IsTakenAndCompared kept) a b f r
both_compared kept notes keeper None b f r begun taken compared = tt
both_compared kept notes keeper (Some i) b f (Ok t) begun taken compared =
    weaker (λ (x : TakenImage) image. IsTaken kept x image × IsImageCompared true notes keeper (Some i) x.differs image) (IsTakenAndCompared kept)
    (λ x image both. let (all, none) = begun i refl in record { is = both.0; differs = both.1 refl all none }) (Some i) b f (Ok t)
    (both_told (IsTaken kept) (λ (x : TakenImage) image. IsImageCompared true notes keeper (Some i) x.differs image) (Some i) b f t t taken compared)
both_compared kept notes keeper (Some i) b f (Err e) begun taken compared = any_stop (IsTaken kept) (IsTakenAndCompared kept) (Some i) b f e taken
