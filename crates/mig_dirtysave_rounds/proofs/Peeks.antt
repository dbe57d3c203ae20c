-- What is read of one number.
use Rattle.mig_dirtysave_rounds.proofs.Common.{arith, ◌≡◌, ℕ, ◌-◌, ◌≤◌, List, length, Bool, true, false, cond, Option, Some, None, Result, Ok, Err, refl, sym, ap, subst, ◌∙◌, IfOk, option_map, Kind, Pv, Hvm, PageType, Notab, Broken, Xalloc, level_of, type_has_data, FrameOf, HostFrame, HostFrames, HostOf, EachEntry, IsWithin, History, MachineState, IsValidState, Peeked, footprint, footprint_of, table_in, names_in, superpage_in, lost_in, form_page, Finding, judge, judged, found_as, frame_sent, NamesWithin, CanBeTold, Shows, Looks, IsRaw, IsRight, ReadsOne, most_calls, unwrap_or, is_some, is_type_of, IsHostFrame, IsToldFrame, ShowsOnly, Gone}
use Rattle.mig_guest.specs.declared.mig_machine_api.Seen.{Seen}
use Rattle.mig_guest.specs.MachineCalls.{seen_of, seen_at, page_of, page_peeked}
use Rattle.mig_dirtysave_rounds.proofs.Tables.{print_here, ran_on, data_of}
use Rattle.std.specs.FinMap as maps
use Rattle.mig_guest.specs.declared.mig_machine_api.Seen.TheVariants as seen
use Rattle.mig_dirtysave_rounds.specs.declared.found.Found as finds
use Rattle.mig_dirtysave_rounds.specs.declared.found.Found.TheVariants as find

-- what is known of a frame that is there
record Held (kind : PageType) (page : List ℕ) (held : HostFrame) : Type 0 where
  pub is_kind : held.type ≡ kind
  pub is_page : held.page ≡ cond (type_has_data kind) (Some page) None

held_page : (page old : List ℕ) (has : Bool) (o : Option (List ℕ)) → is_some o ≡ has → page ≡ unwrap_or o old → o ≡ cond has (Some page) None
held_page page old true None is at = let no : false ≡ true = is in absurd (let e : false ≡ true = no in cc)
held_page page old true (Some l) is at = ap Some (sym at)
held_page page old false None is at = refl
held_page page old false (Some l) is at = absurd (let e : true ≡ false = is in cc)

kind_seen : PageType → Seen → PageType
kind_seen other seen.Absent = other
kind_seen other (seen.Frame kind) = kind

is_held : (kind : PageType) (page old : List ℕ) (held : HostFrame) → is_some held.page ≡ type_has_data held.type → ◌≡◌ {A = Seen} (seen.Frame kind) (seen.Frame held.type) → page ≡ unwrap_or held.page old → Held kind page held
unfolding kind_seen
is_held kind page old held step is at =
    let k : held.type ≡ kind = sym (ap (kind_seen kind) is) in
    record { is_kind = k; is_page = held_page page old (type_has_data kind) held.page (step ∙ ap type_has_data k) at }

-- the frame that was seen
record Found (frames : HostFrames) (p : ℕ) (kind : PageType) (page : List ℕ) : Type 0 where
  pub held : HostFrame
  pub there : maps.get frames p ≡ Some held
  pub is : Held kind page held

found : (h : HostOf) (p : ℕ) (kind : PageType) (page old : List ℕ) → ((q : ℕ) (f : HostFrame) → maps.get h.frames q ≡ Some f → IsHostFrame h.kind h.width q f)
    → ◌≡◌ {A = Seen} (seen.Frame kind) (seen_at h.frames p) → page ≡ page_peeked h.frames p old → Found h.frames p kind page
found h p kind page old valid is at = go (maps.get h.frames p) refl is at
  where
    go : (o : Option HostFrame) → maps.get h.frames p ≡ o → ◌≡◌ {A = Seen} (seen.Frame kind) (seen_of o) → page ≡ page_of o old → Found h.frames p kind page
    go None e is at = absurd (let no : ◌≡◌ {A = Seen} (seen.Frame kind) seen.Absent = is in cc)
    go (Some held) e is at = record { held = held; there = e; is = is_held kind page old held (valid p held e).in_step is at }

pub raw_there : (t : MachineState) (p : ℕ) (kind : PageType) (level : ℕ) (page old : List ℕ) → IsValidState t → level_of kind ≡ Some level
    → ◌≡◌ {A = Seen} (seen.Frame kind) (seen_at t.host.frames p) → page ≡ page_peeked t.host.frames p old → IsRaw t p kind level page
raw_there t p kind level page old valid is seen at =
    let f = found t.host p kind page old valid.host.frames seen at in
    record {
      print = λ settled.
          print_here t.host.frames kind level page (maps.get t.host.frames p) (footprint_of t.host.frames f.held) is (ap (option_map (footprint_of t.host.frames)) f.there) f.is.is_kind
          (f.is.is_page ∙ ap (λ b. cond b (Some page) None) (data_of kind level is));
    }

-- a frame that is no table is shown as it is
plain : (frames : HostFrames) (held : HostFrame) → level_of held.type ≡ None → judged (Some (footprint_of frames held)) ≡ Shows (record { type = held.type; page = held.page })
plain frames held is =
    ap (λ l. let t = table_in l held.page in let names = names_in frames t in judge (superpage_in t) (lost_in t names) (record { type = held.type; page = form_page t names held.page })) is

pub shown_there : (t : MachineState) (p : ℕ) (kind : PageType) (page old : List ℕ) → IsValidState t → level_of kind ≡ None
    → ◌≡◌ {A = Seen} (seen.Frame kind) (seen_at t.host.frames p) → page ≡ page_peeked t.host.frames p old
    → Shows (record { type = kind; page = cond (type_has_data kind) (Some page) None }) ≡ judged (footprint t.host.frames p)
shown_there t p kind page old valid is seen at =
    let f = found t.host p kind page old valid.host.frames seen at in
    (λ i. Shows (record { type = sym f.is.is_kind i; page = sym f.is.is_page i })) ∙ sym (plain t.host.frames f.held (ap level_of f.is.is_kind ∙ is)) ∙ sym (ap (λ o. judged (option_map (footprint_of t.host.frames) o)) f.there)

-- only a PV guest has tables
no_table : (kind : Kind) (type : PageType) (level : ℕ) → is_type_of kind type ≡ true → level_of type ≡ Some level → most_calls kind ≡ 513
no_table Pv type level of is = refl
no_table Hvm Notab level of is = absurd (let no : ◌≡◌ {A = Option ℕ} None (Some level) = is in cc)
no_table Hvm Broken level of is = absurd (let no : ◌≡◌ {A = Option ℕ} None (Some level) = is in cc)
no_table Hvm Xalloc level of is = absurd (let no : ◌≡◌ {A = Option ℕ} None (Some level) = is in cc)
no_table Hvm _ level of is = absurd (let no : false ≡ true = of in cc)

pub many_calls : (t : MachineState) (p : ℕ) (kind : PageType) (level : ℕ) (page old : List ℕ) → IsValidState t → level_of kind ≡ Some level
    → ◌≡◌ {A = Seen} (seen.Frame kind) (seen_at t.host.frames p) → page ≡ page_peeked t.host.frames p old → most_calls t.host.kind ≡ 513
many_calls t p kind level page old valid is seen at =
    let f = found t.host p kind page old valid.host.frames seen at in
    no_table t.host.kind f.held.type level (valid.host.frames p f.held f.there).type (ap level_of f.is.is_kind ∙ is)

at_least_one : (kind : Kind) → 1 ≤ most_calls kind
at_least_one Pv = omega arith
at_least_one Hvm = omega arith

-- ---- what is told

no_frame : (x : FrameOf) → ◌≡◌ {A = Option FrameOf} None (Some x) → ⊥
no_frame x e = cc

shown_frame : (kind : Kind) (width : ℕ) (type : PageType) (page : List ℕ) → is_type_of kind type ≡ true → length page ≡ 4096 → (b : Bool) → type_has_data type ≡ b
    → EachEntry (IsWithin (width - 1)) (record { type = type; page = cond b (Some page) None }) → IsToldFrame kind width (record { type = type; page = cond b (Some page) None })
shown_frame kind width type page of size true has within = record { type = of; in_step = sym has; whole = λ other e. subst (λ l. length l ≡ 4096) (some_page e) size; entries = within }
  where
    some_page : {other : List ℕ} → ◌≡◌ {A = Option (List ℕ)} (Some page) (Some other) → page ≡ other
    some_page e = cc
shown_frame kind width type page of size false has within = record { type = of; in_step = sym has; whole = λ other e. absurd (let no : ◌≡◌ {A = Option (List ℕ)} None (Some other) = e in cc); entries = within }

pub no_frame_told : {kind : Kind} {width : ℕ} → CanBeTold kind width None
no_frame_told = λ x e. absurd (no_frame x e)

pub no_frame_within : (width : ℕ) → NamesWithin width None
no_frame_within width = λ x e. absurd (no_frame x e)

-- what is no table names nothing
pub plain_within : (width : ℕ) (type : PageType) (page : List ℕ) → level_of type ≡ None → NamesWithin width (frame_sent (found_as (find.Shows type) page))
plain_within width type page none = λ x e level shown is. absurd (no_level (sym none ∙ ap (λ (o : Option FrameOf). unwrap_or (option_map (λ (f : FrameOf). level_of f.type) o) None) e ∙ is))
  where
    no_level : {level : ℕ} → ◌≡◌ {A = Option ℕ} None (Some level) → ⊥
    no_level e = cc

-- what was found, where it shows only a type of the kind
pub can_be_told : (kind : Kind) (width : ℕ) (type : PageType) (f : finds.Found) (page : List ℕ) → length page ≡ 4096 → is_type_of kind type ≡ true → ShowsOnly type f → NamesWithin width (frame_sent (found_as f page))
    → CanBeTold kind width (frame_sent (found_as f page))
can_be_told kind width type find.Gone page size of only within = λ x e. absurd (no_frame x e)
can_be_told kind width type (find.Superpage other slot) page size of only within = λ x e. absurd (no_frame x e)
can_be_told kind width type (find.NoFrame other slot) page size of only within = λ x e. absurd (no_frame x e)
can_be_told kind width type (find.Shows other) page size of only within = λ x e.
    subst (IsToldFrame kind width) (some_frame e) (shown_frame kind width other page (subst (λ t. is_type_of kind t ≡ true) (sym only) of) size (type_has_data other) refl (within _ refl))
  where
    some_frame : {a x : FrameOf} → ◌≡◌ {A = Option FrameOf} (Some a) (Some x) → a ≡ x
    some_frame e = cc

-- the type that was seen is one of the kind
pub type_there : (kind : Kind) (t : MachineState) (p : ℕ) (type : PageType) (page old : List ℕ) → IsValidState t → t.host.kind ≡ kind
    → ◌≡◌ {A = Seen} (seen.Frame type) (seen_at t.host.frames p) → page ≡ page_peeked t.host.frames p old → is_type_of kind type ≡ true
type_there kind t p type page old valid same seen at =
    let f = found t.host p type page old valid.host.frames seen at in
    subst (λ k. is_type_of k type ≡ true) same (subst (λ x. is_type_of t.host.kind x ≡ true) f.is.is_kind (valid.host.frames p f.held f.there).type)

-- nothing is there
pub gone_there : (frames : HostFrames) (p : ℕ) → ◌≡◌ {A = Seen} seen.Absent (seen_at frames p) → Gone ≡ judged (footprint frames p)
gone_there frames p is = go (maps.get frames p) refl is
  where
    go : (o : Option HostFrame) → maps.get frames p ≡ o → ◌≡◌ {A = Seen} seen.Absent (seen_of o) → Gone ≡ judged (footprint frames p)
    go None e is = sym (ap (λ o. judged (option_map (footprint_of frames) o)) e)
    go (Some h) e is = absurd (let no : ◌≡◌ {A = Seen} seen.Absent (seen.Frame h.type) = is in cc)

pub reads_peek : (p : ℕ) (s t : MachineState) (f : Finding) → Peeked p s t → CanBeTold s.host.kind s.host.width (frame_sent f) → f ≡ judged (footprint t.host.frames p) → ReadsOne p s t f
reads_peek p s t f peeked told is = record {
  told = told;
  ran = peeked.ran;
  paused = peeked.paused;
  asks = record {
    taken = ap (λ (h : History). h.taken) peeked.history;
    live = ap (λ (h : History). h.live) peeked.history;
    read = ap (λ (h : History). h.since.read) peeked.history;
    twice = ap (λ (h : History). h.since.twice) peeked.history;
    least = omega (arith, ap (λ (h : History). h.since.calls) peeked.history);
    most = omega (arith, ap (λ (h : History). h.since.calls) peeked.history, at_least_one s.host.kind);
  };
  right = λ settled. is;
}

pub reads_table : (p : ℕ) (s t u : MachineState) (f : Finding) → Peeked p s t → Looks 512 t u → most_calls t.host.kind ≡ 513 → CanBeTold s.host.kind s.host.width (frame_sent f) → IsRight u p f → ReadsOne p s u f
reads_table p s t u f peeked looks many told right = record {
  told = told;
  ran = ran_on s t u peeked.ran peeked.paused looks.ran;
  paused = looks.paused ∙ peeked.paused;
  asks = record {
    taken = looks.taken ∙ ap (λ (h : History). h.taken) peeked.history;
    live = looks.live ∙ ap (λ (h : History). h.live) peeked.history;
    read = looks.read ∙ ap (λ (h : History). h.since.read) peeked.history;
    twice = looks.twice ∙ ap (λ (h : History). h.since.twice) peeked.history;
    least = omega (arith, ap (λ (h : History). h.since.calls) peeked.history, looks.least);
    most = let many_here : most_calls s.host.kind ≡ 513 = ap most_calls (sym peeked.ran.shape.kind) ∙ many in omega (arith, ap (λ (h : History). h.since.calls) peeked.history, looks.most);
  };
  right = right;
}

pub if_ok_three : {T E : Type 0} {P Q R S : T → Type 0} (r : Result T E) → ((x : T) → P x → Q x → R x → S x) → IfOk r P → IfOk r Q → IfOk r R → IfOk r S
if_ok_three (Ok x) f h k l = f x h k l
if_ok_three (Err e) f h k l = tt
