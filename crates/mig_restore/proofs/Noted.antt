-- What is noted of frames stays noted as a source is read on, and goes on with what is taken of it.
use Rattle.mig_restore.proofs.Common.{◌≡◌, ◌≢◌, ℕ, List, [], ◌∷◌, ◌++◌, Bool, true, false, Option, Some, None, Result, Ok, Err, refl, sym, ap, subst, ◌∙◌, Judged, ◌>>=◌, part, said_at, Passes, AgreesWithJudging, any_stop, mapped, then_reads, Stop, Cause, Truncated, Kind, GuestOf, RecordType, PartCode, FrameMap, FrameEntry, Content, Nothing, Frames, Sets, Lists, Checks, StreamRecord, ImageOf, put_content, put_entries_by, put_entry, placed_content, IsSaid, code_of_type, with_places, entry_at, list_at, pages_at, typed_at, lists_of, fault_of_body, fault_of_p2m, parts_of_body, pages_read, one_more_record, sent_kind, NotesOn, NotesImage, IsCompared, IsImageCompared, checked_in, differing, put_frames, IsErrAnd, fold-append, TakesFronts, both_pass, same_passes, each, plain_at, PageData, X86PvInfo, X86PvP2mFrames, fault_of_pv_info, coded_at, sent}
use Rattle.std.specs.FinMap as maps
use Rattle.mig_bytes.proofs.Said.{said_passes}
use Rattle.mig_restore.proofs.Fronts.{front_list}

-- ---- what a content makes of frames

pub frames_put : (g : GuestOf) (c : Content) → (put_content g c).frames ≡ put_frames g.kind c g.frames
frames_put g Nothing = refl
frames_put g (Frames es) = refl
frames_put g (Sets code ps) = refl
frames_put g (Lists last frames) = refl
frames_put g (Checks es) = refl

pub frames_sent : (kind : Kind) (records : List StreamRecord) (r : StreamRecord) → (sent kind (records ++ r ∷ [])).frames ≡ put_frames kind r.content (sent kind records).frames
frames_sent kind records r =
    ap (λ (g : GuestOf). g.frames) (one_more_record kind records r) ∙ frames_put (sent kind records) r.content ∙ ap (λ k. put_frames k r.content (sent kind records).frames) (sent_kind kind records)

-- a content that a part says, whatever its bytes
pub said_only : {X : Type 0} (P : X → Type 0) (truncated : Cause) (fault : List ℕ → Option Cause) (says : List ℕ → X) (n : ℕ) (i rest : List ℕ) (x : X) → ((bytes : List ℕ) → P (says bytes)) → said_at truncated fault says n i ≡ Passes x rest → P x
said_only P truncated fault says n i rest x holds h =
    let said = said_passes truncated fault says n i x rest h in
    subst P said.value (holds said.bytes)

module _ (kind : Kind) (top len : ℕ) (frames : FrameMap) where
  abbrev Stays : Content → Type 0
  Stays c = put_frames kind c frames ≡ frames

  coded_stays : (o : Option PartCode) (i rest : List ℕ) (c : Content) → coded_at o len i ≡ Passes c rest → Stays c
  coded_stays None i rest c h = subst Stays (same_passes Nothing c i rest h).0 refl
  coded_stays (Some code) i rest c h = said_only Stays Truncated (fault_of_body code) (λ body. Sets code (parts_of_body code body)) len i rest c (λ _. refl) h

  -- of another type than PAGE_DATA it makes nothing of them
  pub typed_stays : (this : RecordType) → this ≢ PageData → (i rest : List ℕ) (c : Content) → typed_at kind top (Some this) len i ≡ Passes c rest → Stays c
  typed_stays PageData other i rest c h = absurd (other refl)
  typed_stays X86PvInfo other i rest c h = said_only Stays Truncated fault_of_pv_info (λ _. Nothing) len i rest c (λ _. refl) h
  typed_stays X86PvP2mFrames other i rest c h = said_only Stays Truncated fault_of_p2m lists_of len i rest c (λ _. refl) h
  typed_stays this other i rest c h = coded_stays (code_of_type this) i rest c h

  -- nor of an optional type
  pub optional_stays : (i rest : List ℕ) (c : Content) → plain_at Truncated (λ _. Nothing) len i ≡ Passes c rest → Stays c
  optional_stays i rest c h =
      let a = both_pass (part Truncated len i) (λ bytes. Passes Nothing bytes.1) c rest h in
      subst Stays (same_passes Nothing c a.mid rest a.second).0 refl

  -- nor where its entries are compared
  pub checked_stays : (c : Content) → Stays (placed_content true c)
  checked_stays Nothing = refl
  checked_stays (Frames es) = refl
  checked_stays (Sets code ps) = refl
  checked_stays (Lists last fs) = refl
  checked_stays (Checks es) = refl

-- before a VERIFY, and of another type than PAGE_DATA, the content is what the body says
pub placed_same : (v : Bool) (type : ℕ) (c : Content) → (v ≡ true → type ≢ 1) → IsSaid type c → placed_content v c ≡ c
placed_same true type c other said = said.anywhere (other refl) true
placed_same false type Nothing other said = refl
placed_same false type (Frames es) other said = refl
placed_same false type (Sets code ps) other said = refl
placed_same false type (Lists last fs) other said = refl
placed_same false type (Checks es) other said = refl

-- ---- judgements with what is noted

-- an error says nothing of what is noted
pub stops : {C X Y : Type 0} (R Q : X → Y → Type 0) (P : Stop C → Type 0) (a b : Option (List ℕ)) (f : List ℕ → Judged C Y) (r : Result X (Stop C)) → IsErrAnd r P → AgreesWithJudging R a b f r → AgreesWithJudging Q a b f r
stops R Q P a b f (Ok x) is h = absurd is
stops R Q P a b f (Err e) is h = any_stop R Q a b f e h

pub weaker : {C X Y : Type 0} (R Q : X → Y → Type 0) → ((x : X) (y : Y) → R x y → Q x y) → (a b : Option (List ℕ)) (f : List ℕ → Judged C Y) (r : Result X (Stop C)) → AgreesWithJudging R a b f r → AgreesWithJudging Q a b f r
weaker R Q turn None b f r h = tt
weaker R Q turn (Some i) b f (Ok x) (y, rest, is, left, told) = (y, rest, is, left, turn x y told)
weaker R Q turn (Some i) b f (Err e) h = any_stop R Q (Some i) b f e h

-- two clauses of one judgement speak of one value
pub both_told : {C X V Y : Type 0} (R : X → Y → Type 0) (Q : V → Y → Type 0) (a b : Option (List ℕ)) (f : List ℕ → Judged C Y) (x : X) (v : V) → AgreesWithJudging R a b f (Ok x) → AgreesWithJudging Q a b f (Ok v) → AgreesWithJudging (λ x y. R x y × Q v y) a b f (Ok x)
both_told R Q None b f x v h n = tt
both_told R Q (Some i) b f x v (y, rest, is, left, told) (z, other, is_too, left_too, told_too) =
    (y, rest, is, left, (told, subst (λ t. Q v t) (same_passes z y other rest (sym is_too ∙ is)).0 told_too))

module _ {K : Type 0} (notes : K → List ℕ → Option (List ℕ) → FrameMap → Type 0) (read_on : (keeper : K) (all front rest : List ℕ) (frames : FrameMap) → notes keeper all (Some (front ++ rest)) frames → notes keeper all (Some rest) frames) where
  -- behind a part that was read of what is told
  carried : {C X Y : Type 0} (R : X → Y → Type 0) (k : K) (i : List ℕ) (b : Option (List ℕ)) (f : List ℕ → Judged C Y) (x : X) → TakesFronts f → AgreesWithJudging R (Some i) b f (Ok x) → (all : List ℕ) (frames : FrameMap) → notes k all (Some i) frames → notes k all b frames
  carried R k i b f x fronts (y, rest, is, left, told) all frames noted =
      let taken = fronts i y rest is in
      subst (λ (o : Option (List ℕ)). notes k all o frames) (sym left) (read_on k all taken.front rest frames (subst (λ l. notes k all (Some l) frames) taken.whole noted))

  -- a part that makes nothing of frames
  pub still : {C X Y : Type 0} (R : X → Y → Type 0) (k : K) (a b : Option (List ℕ)) (f : List ℕ → Judged C Y) (makes : Y → FrameMap → FrameMap) (r : Result X (Stop C)) → TakesFronts f → ((i rest : List ℕ) (y : Y) → f i ≡ Passes y rest → (frames : FrameMap) → makes y frames ≡ frames)
      → AgreesWithJudging R a b f r → AgreesWithJudging {X = X} (λ _ y. NotesOn notes k k a b (makes y)) a b f r
  still R k None b f makes r fronts same h = tt
  still R k (Some i) b f makes (Ok x) fronts same (y, rest, is, left, told) =
      (y, rest, is, left, λ all frames noted. subst (λ m. notes k all b m) (sym (same i rest y is frames)) (carried R k i b f x fronts (y, rest, is, left, told) all frames noted))
  still {X = X} R k (Some i) b f makes (Err e) fronts same h = any_stop R (λ (_ : X) y. NotesOn notes k k (Some i) b (makes y)) (Some i) b f e h

  -- such a part, and what follows it
  pub then_noted : {C X Y Z V : Type 0} (R : X → Y → Type 0) (old new : K) (a b c : Option (List ℕ)) (f : List ℕ → Judged C Y) (g : List ℕ → Judged C Z) (k : Y × List ℕ → Judged C Z) (makes : Z → FrameMap → FrameMap) (x : X) (r : Result V (Stop C))
      → TakesFronts f → ((i : List ℕ) → g i ≡ (f i >>= k)) → AgreesWithJudging R a b f (Ok x) → ((y : Y) → R x y → AgreesWithJudging {X = V} (λ _ z. NotesOn notes old new b c (makes z)) b c (λ i. k (y, i)) r)
      → AgreesWithJudging {X = V} (λ _ z. NotesOn notes old new a c (makes z)) a c g r
  then_noted R old new None b c f g k makes x r fronts same first next = tt
  then_noted {V = V} R old new (Some i) b c f g k makes x r fronts same first next =
      then_reads R (λ (_ : V) z. NotesOn notes old new (Some i) c (makes z)) (Some i) b c f g k x r same first
      (λ y told. weaker (λ (_ : V) z. NotesOn notes old new b c (makes z)) (λ (_ : V) z. NotesOn notes old new (Some i) c (makes z)) (λ _ z h all frames noted. h all frames (carried R old i b f x fronts first all frames noted)) b c (λ j. k (y, j)) r (next y told))

  -- the same of a whole image
  pub image_noted : {C X Y V : Type 0} (R : X → Y → Type 0) (old new : K) (a b c : Option (List ℕ)) (f : List ℕ → Judged C Y) (g : List ℕ → Judged C ImageOf) (k : Y × List ℕ → Judged C ImageOf) (x : X) (r : Result V (Stop C))
      → TakesFronts f → ((i : List ℕ) → g i ≡ (f i >>= k)) → AgreesWithJudging R a b f (Ok x) → ((y : Y) → R x y → AgreesWithJudging {X = V} (λ _ image. NotesImage notes old new b c image) b c (λ i. k (y, i)) r)
      → AgreesWithJudging {X = V} (λ _ image. NotesImage notes old new a c image) a c g r
  image_noted R old new None b c f g k x r fronts same first next = tt
  image_noted {V = V} R old new (Some i) b c f g k x r fronts same first next =
      then_reads R (λ (_ : V) image. NotesImage notes old new (Some i) c image) (Some i) b c f g k x r same first
      (λ y told. weaker (λ (_ : V) image. NotesImage notes old new b c image) (λ (_ : V) image. NotesImage notes old new (Some i) c image) (λ _ image h all noted. h all (carried R old i b f x fronts first all maps.empty noted)) b c (λ j. k (y, j)) r (next y told))

  -- what was noted, and a part behind it that makes nothing of frames
  pub noted_then : {C U V W Z : Type 0} (R : W → U → Type 0) (old new : K) (a b c : Option (List ℕ)) (f : List ℕ → Judged C U) (g : List ℕ → Judged C Z) (says : U → Z) (makes : Z → FrameMap → FrameMap) (w : W) (v : V)
      → TakesFronts f → ((i : List ℕ) → g i ≡ (f i >>= λ u. Passes (says u.0) u.1)) → ((u : U) → NotesOn notes old new a b (makes (says u))) → AgreesWithJudging R b c f (Ok w) → AgreesWithJudging {X = V} (λ _ z. NotesOn notes old new a c (makes z)) b c g (Ok v)
  noted_then R old new a None c f g says makes w v fronts same before h = tt
  noted_then {V = V} R old new a (Some j) c f g says makes w v fronts same before h =
      mapped R (λ (_ : V) z. NotesOn notes old new a c (makes z)) (Some j) c f g says w v same h (λ u told all frames noted. carried R new j c f w fronts h all (makes (says u) frames) (before u all frames noted))

  -- the words of a PAGE_DATA, and then its pages
  pub pages_noted : {X V : Type 0} (items : V → List ℕ) (old new : K) (kind k : Kind) (top t len : ℕ) → k ≡ kind → t ≡ top → (a d e : Option (List ℕ)) (list : V) (r : Result X (Stop Cause)) → AgreesWithJudging (λ v ws. ws ≡ items v) a d (list_at k t len) (Ok list)
      → AgreesWithJudging {X = X} (λ _ es. NotesOn notes old new d e (λ frames. put_entries_by put_entry kind frames es)) d e (each (entry_at kind top) (with_places 0 (items list))) r → AgreesWithJudging {X = X} (λ _ c. NotesOn notes old new a e (put_frames kind c)) a e (pages_at kind top len) r
  pages_noted items old new kind k top t len same_kind same_top None d e list r read told = tt
  pages_noted {X = X} items old new kind k top t len same_kind same_top (Some i) d e list r read told =
      pages_read items (λ (_ : X) es. NotesOn notes old new (Some i) e (λ frames. put_entries_by put_entry kind frames es)) (λ (_ : X) c. NotesOn notes old new (Some i) e (put_frames kind c)) (λ _ _ noted. noted) kind k top t len same_kind same_top (Some i) d e list r read
      (weaker (λ (_ : X) es. NotesOn notes old new d e (λ frames. put_entries_by put_entry kind frames es)) (λ (_ : X) es. NotesOn notes old new (Some i) e (λ frames. put_entries_by put_entry kind frames es))
      (λ _ es h all frames noted. h all frames (carried (λ v ws. ws ≡ items v) old i d (list_at k t len) list (front_list k t len) read all frames noted)) d e (each (entry_at kind top) (with_places 0 (items list))) r told)

  -- ---- what is compared with it

  -- a part, and what is compared behind it
  pub then_compared : {C X Y Z V : Type 0} (compares : Bool) (kept : FrameMap → FrameMap) (there : FrameMap) (says : V → Z → FrameMap → Type 0) (R : X → Y → Type 0) (k : K) (a b c : Option (List ℕ)) (f : List ℕ → Judged C Y) (g : List ℕ → Judged C Z) (h : Y × List ℕ → Judged C Z) (x : X) (r : Result V (Stop C))
      → TakesFronts f → ((i : List ℕ) → g i ≡ (f i >>= h)) → AgreesWithJudging R a b f (Ok x) → ((y : Y) → R x y → AgreesWithJudging (λ v z. IsCompared compares notes kept k b there (says v z)) b c (λ i. h (y, i)) r)
      → AgreesWithJudging (λ v z. IsCompared compares notes kept k a there (says v z)) a c g r
  then_compared compares kept there says R k None b c f g h x r fronts same first next = tt
  then_compared compares kept there says R k (Some i) b c f g h x r fronts same first next =
      then_reads R (λ v z. IsCompared compares notes kept k (Some i) there (says v z)) (Some i) b c f g h x r same first
      (λ y told. weaker (λ v z. IsCompared compares notes kept k b there (says v z)) (λ v z. IsCompared compares notes kept k (Some i) there (says v z))
      (λ v z said is all frames noted here. said is all frames (carried R k i b f x fronts first all frames noted) here) b c (λ j. h (y, j)) r (next y told))

  -- the same of a whole image
  pub image_compared : {C X Y V : Type 0} (compares : Bool) (differs : V → Option ℕ) (R : X → Y → Type 0) (k : K) (a b c : Option (List ℕ)) (f : List ℕ → Judged C Y) (g : List ℕ → Judged C ImageOf) (h : Y × List ℕ → Judged C ImageOf) (x : X) (r : Result V (Stop C))
      → TakesFronts f → ((i : List ℕ) → g i ≡ (f i >>= h)) → AgreesWithJudging R a b f (Ok x) → ((y : Y) → R x y → AgreesWithJudging (λ v image. IsImageCompared compares notes k b (differs v) image) b c (λ i. h (y, i)) r)
      → AgreesWithJudging (λ v image. IsImageCompared compares notes k a (differs v) image) a c g r
  image_compared compares differs R k None b c f g h x r fronts same first next = tt
  image_compared compares differs R k (Some i) b c f g h x r fronts same first next =
      then_reads R (λ v image. IsImageCompared compares notes k (Some i) (differs v) image) (Some i) b c f g h x r same first
      (λ y told. weaker (λ v image. IsImageCompared compares notes k b (differs v) image) (λ v image. IsImageCompared compares notes k (Some i) (differs v) image)
      (λ v image said is all noted. said is all (carried R k i b f x fronts first all maps.empty noted)) b c (λ j. h (y, j)) r (next y told))

  -- the words of a PAGE_DATA behind a VERIFY, and then its pages
  pub pages_compared : {V : Type 0} (compares : Bool) (kept : FrameMap → FrameMap) (there : FrameMap) (items : V → List ℕ) (keeper : K) (kind k : Kind) (top t len : ℕ) → k ≡ kind → t ≡ top → (a d e : Option (List ℕ)) (list : V) (r : Result ℕ (Stop Cause)) → AgreesWithJudging (λ v ws. ws ≡ items v) a d (list_at k t len) (Ok list)
      → AgreesWithJudging (λ n es. IsCompared compares notes kept keeper d there (λ frames. n ≡ differing kind frames es)) d e (each (entry_at kind top) (with_places 0 (items list))) r
      → AgreesWithJudging (λ n c. IsCompared compares notes kept keeper a there (λ frames. n ≡ differing kind frames (checked_in (placed_content true c)))) a e (pages_at kind top len) r
  pages_compared compares kept there items keeper kind k top t len same_kind same_top None d e list r read told = tt
  pages_compared compares kept there items keeper kind k top t len same_kind same_top (Some i) d e list r read told =
      pages_read items (λ n es. IsCompared compares notes kept keeper (Some i) there (λ frames. n ≡ differing kind frames es)) (λ n c. IsCompared compares notes kept keeper (Some i) there (λ frames. n ≡ differing kind frames (checked_in (placed_content true c))))
      (λ _ _ is. is) kind k top t len same_kind same_top (Some i) d e list r read
      (weaker (λ n es. IsCompared compares notes kept keeper d there (λ frames. n ≡ differing kind frames es)) (λ n es. IsCompared compares notes kept keeper (Some i) there (λ frames. n ≡ differing kind frames es))
      (λ _ _ said is all frames noted here. said is all frames (carried (λ v ws. ws ≡ items v) keeper i d (list_at k t len) list (front_list k t len) read all frames noted) here) d e (each (entry_at kind top) (with_places 0 (items list))) r told)

-- one more entry of a record
pub entry_noted : {K : Type 0} (notes : K → List ℕ → Option (List ℕ) → FrameMap → Type 0) (first old new : K) (a b c : Option (List ℕ)) (kind k : Kind) (es : List FrameEntry) (e : FrameEntry) → k ≡ kind
    → NotesOn notes first old a b (λ frames. put_entries_by put_entry kind frames es) → NotesOn notes old new b c (λ frames. put_entry k frames e) → NotesOn notes first new a c (λ frames. put_entries_by put_entry kind frames (es ++ e ∷ []))
entry_noted notes first old new a b c kind k es e same before now all frames noted =
    subst (λ m. notes new all c m) (ap (λ q. put_entry q (put_entries_by put_entry kind frames es) e) same ∙ sym (fold-append (put_entry kind) frames es (e ∷ []))) (now all (put_entries_by put_entry kind frames es) (before all frames noted))
