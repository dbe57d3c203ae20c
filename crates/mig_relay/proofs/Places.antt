-- Which place a relay keeps, by what comes next.
use Rattle.mig_relay.proofs.Common.{◌≡◌, ◌≢◌, ℕ, List, [], ◌∷◌, ◌++◌, None, sym, subst, ⊤, padding_len, LibxlRecord, LibxlContent, image_in, StreamOf, fault_of_record_body, fault_of_libxl_body, Opening, before, StreamRecord, FrameEntry, Content, types_of, Keeps, KeepsNext, KeepsOuter, KeepsGoing, KeepsOpen, KeepsRecords, KeepsHead, KeepsFirst, KeepsWords, IsBodied, IsOther, IsPages, HasRecords, top_with, Next, AtMarker, AtVersion, AtKind, AtHead, AtBody, AtFront, AtWords, AtPages, AtPadding, record_with, Outer, Spot, AtStart, AtLibxlHeader, AtLibxlHead, AtLibxlBody, AtLibxlPadding, InImage, AtEnd, Coming, Relay, KeepsBody}
use Rattle.mig_relay.specs.declared.state.Coming.TheVariants as comes

module _ (r : Relay) (Goal : Spot → List ℕ → Type 0) where
  -- a goal at each place where this comes next, from what is kept there
  abbrev pub Told : Coming → Type 0
  Told comes.Start = Goal AtStart []
  Told comes.LibxlHeader = Goal AtLibxlHeader []
  Told comes.LibxlHead = (records : List LibxlRecord) → KeepsGoing r records → Goal (AtLibxlHead records) []
  Told (comes.LibxlBody head) = (records : List LibxlRecord) (begun : List ℕ) → KeepsOpen r records → IsBodied head → KeepsBody r head (fault_of_libxl_body head.kind) begun → Goal (AtLibxlBody records head) begun
  Told (comes.LibxlPadding head) = (records : List LibxlRecord) (content : LibxlContent) → KeepsOpen r records → IsBodied head → image_in content ≡ None → Goal (AtLibxlPadding records head content) []
  Told comes.Marker = (outer : Outer) → KeepsOuter r outer → Goal (InImage outer AtMarker) []
  Told comes.Version = (outer : Outer) → KeepsOuter r outer → Goal (InImage outer AtVersion) []
  Told (comes.Kind version) = (outer : Outer) → KeepsOuter r outer → Goal (InImage outer (AtKind version)) []
  Told comes.Head = (outer : Outer) (o : Opening) (records : List StreamRecord) → KeepsOuter r outer → KeepsRecords r o records (types_of records) (before o records).top → Goal (InImage outer (AtHead o records)) []
  Told (comes.Body head) = (outer : Outer) (o : Opening) (records : List StreamRecord) (begun : List ℕ) → KeepsOuter r outer → KeepsHead r o records head (top_with head.kind begun (before o records).top) → IsOther o records head → KeepsFirst r head begun
      → KeepsBody r head (fault_of_record_body head.kind) begun → Goal (InImage outer (AtBody o records head)) begun
  Told (comes.Front head) = (outer : Outer) (o : Opening) (records : List StreamRecord) → KeepsOuter r outer → KeepsHead r o records head (before o records).top → IsPages head → Goal (InImage outer (AtFront o records head)) []
  Told (comes.Words head n) = (outer : Outer) (o : Opening) (records : List StreamRecord) → KeepsOuter r outer → KeepsHead r o records head (before o records).top → IsPages head → Goal (InImage outer (AtWords o records head n)) []
  Told (comes.Page head) = (outer : Outer) (o : Opening) (records : List StreamRecord) (coming : List (ℕ × ℕ)) (stood : List FrameEntry) → KeepsOuter r outer → KeepsHead r o records head (before o records).top → IsPages head → padding_len head.len ≡ 0 → KeepsWords r coming stood
      → Goal (InImage outer (AtPages o records head coming stood)) []
  Told (comes.Padding head) = (outer : Outer) (o : Opening) (records : List StreamRecord) (content : Content) → KeepsOuter r outer → KeepsHead r o records head (before o (records ++ record_with records head content ∷ [])).top → head.kind ≢ 0 → Goal (InImage outer (AtPadding o records head content)) []
  Told comes.End = (s : StreamOf) → HasRecords r.seen.records s → Goal (AtEnd s) []
  Told comes.Over = ⊤

  -- of what is judged at once, nothing was taken
  none_begun : (here : Spot) (begun : List ℕ) → begun ≡ [] → Goal here [] → Goal here begun
  none_begun here begun none g = subst (Goal here) (sym none) g

  told_in : (outer : Outer) (next : Next) (begun : List ℕ) → KeepsOuter r outer → KeepsNext r next begun → Told r.coming → Goal (InImage outer next) begun
  told_in outer AtMarker begun around (is, none) f = none_begun _ begun none (subst Told is f outer around)
  told_in outer AtVersion begun around (is, none) f = none_begun _ begun none (subst Told is f outer around)
  told_in outer (AtKind version) begun around (is, none) f = none_begun _ begun none (subst Told is f outer around)
  told_in outer (AtHead o records) begun around (is, kept, none) f = none_begun _ begun none (subst Told is f outer o records around kept)
  told_in outer (AtBody o records head) begun around (is, kept, other, first, body) f = subst Told is f outer o records begun around kept other first body
  told_in outer (AtFront o records head) begun around (is, kept, pages, none) f = none_begun _ begun none (subst Told is f outer o records around kept pages)
  told_in outer (AtWords o records head n) begun around (is, kept, pages, count, none) f = none_begun _ begun none (subst Told is f outer o records around kept pages)
  told_in outer (AtPages o records head coming stood) begun around (is, kept, pages, whole, words, none) f = none_begun _ begun none (subst Told is f outer o records coming stood around kept pages whole words)
  told_in outer (AtPadding o records head content) begun around (is, kept, some, other, none) f = none_begun _ begun none (subst Told is f outer o records content around kept other)

  told_at : (here : Spot) (begun : List ℕ) → Keeps r here begun → Told r.coming → Goal here begun
  told_at AtStart begun (is, alone, none) f = none_begun _ begun none (subst Told is f)
  told_at AtLibxlHeader begun (is, kept, none) f = none_begun _ begun none (subst Told is f)
  told_at (AtLibxlHead records) begun (is, kept, none) f = none_begun _ begun none (subst Told is f records kept)
  told_at (AtLibxlBody records head) begun (is, kept, bodied, body) f = subst Told is f records begun kept bodied body
  told_at (AtLibxlPadding records head content) begun (is, kept, bodied, image, some, none) f = none_begun _ begun none (subst Told is f records content kept bodied image)
  told_at (InImage outer next) begun (around, k) f = told_in outer next begun around k f
  told_at (AtEnd s) begun (is, has, none) f = none_begun _ begun none (subst Told is f s has)

  -- what holds at each place where this comes next holds at the one that is kept
  pub told : (c : Coming) → r.coming ≡ c → Told c → (here : Spot) (begun : List ℕ) → Keeps r here begun → Goal here begun
  told c is f here begun k = told_at here begun k (subst Told (sym is) f)
