-- A table that is settled has kept its footprint, so names looked up at different moments belong together.
use Rattle.mig_dirtysave_rounds.proofs.Common.{arith, ◌≡◌, ℕ, ◌+◌, ◌-◌, ◌≤◌, ◌<◌, List, length, true, false, Option, Some, None, cond, refl, sym, ap, subst, ◌∙◌, inl, inr, option_map, PageType, Broken, Xalloc, Xtab, level_of, type_has_data, HostFrame, HostFrames, MachineState, Ran, Frame, FrameOf, long_at, entry, blanked_table, EachEntry, IsWithin, renamed_by, first_superpage, ChangedBelow, no_slot, Footprint, footprint, footprint_of, names_in, table_in, lost_at, is_lost, superpage_in, lost_in, form_page, judge, judged, found_as, frame_sent, NamesWithin, Shows, Looks, IsRaw, IsRenamed, IsRight, put_slot, pfn_in, walk_start, named_by, Settled, raw_print, NameIsInside}
use Rattle.std.proofs.Common.{◌==◌, eq-eqb, ne_eqb, below_more}
use Rattle.std.specs.Prelude.{option_and_then, get_or}
use Rattle.mig_guest.specs.Tables.{entry_of}
use Rattle.mig_dirtysave_rounds.proofs.Slots.{formed_long, same_long, names_alike, same_names, put_step, table_formed, entries_within}
use Rattle.mig_dirtysave_rounds.proofs.Shapes.{shape_none, shape_on}
use Rattle.std.specs.FinMap as maps
use Rattle.mig_pvtables.proofs.Slots as searches
use Rattle.mig_dirtysave_rounds.specs.declared.found.Found.TheVariants as found

-- ---- what is settled at the end was so before

pub settled_before : (s t : MachineState) (p : ℕ) → Ran s t t.log → t.paused ≡ s.paused → Settled t p → Settled s p
settled_before s t p ran stays (inl calm) = inl (sym ran.honest ∙ calm.0, ran.grown p calm.1)
settled_before s t p ran stays (inr still) = inr (sym stays ∙ still)

pub settled_same : (s t : MachineState) (p : ℕ) → Ran s t t.log → t.paused ≡ s.paused → Settled t p → footprint t.host.frames p ≡ footprint s.host.frames p
settled_same s t p ran stays (inl calm) = ran.quiet (sym ran.honest ∙ calm.0) p calm.1
settled_same s t p ran stays (inr still) = ap (λ h. footprint h.frames p) (ran.stopped (sym stays ∙ still))

-- ---- calls one after another

pub ran_none : (s : MachineState) → Ran s s s.log
ran_none s = record {
  shape = shape_none s.host;
  honest = refl;
  grown = λ p calm. calm;
  quiet = λ h p calm. refl;
  stopped = λ h. refl;
}

pub ran_on : (s t u : MachineState) → Ran s t t.log → t.paused ≡ s.paused → Ran t u u.log → Ran s u u.log
ran_on s t u a stays b = record {
  shape = shape_on s.host t.host u.host a.shape b.shape;
  honest = b.honest ∙ a.honest;
  grown = λ p calm. a.grown p (b.grown p calm);
  quiet = λ h p calm. b.quiet (a.honest ∙ h) p calm ∙ a.quiet h p (b.grown p calm);
  stopped = λ h. b.stopped (stays ∙ h) ∙ a.stopped h;
}

pub looks_none : (s : MachineState) → Looks 0 s s
looks_none s = record { ran = ran_none s; paused = refl; taken = refl; live = refl; read = refl; twice = refl; least = omega arith; most = omega arith }

pub looks_on : (n m : ℕ) (s t u : MachineState) → Looks n s t → Looks m t u → Looks (n + m) s u
looks_on n m s t u a b = record {
  ran = ran_on s t u a.ran a.paused b.ran;
  paused = b.paused ∙ a.paused;
  taken = b.taken ∙ a.taken;
  live = b.live ∙ a.live;
  read = b.read ∙ a.read;
  twice = b.twice ∙ a.twice;
  least = omega (arith, a.least, b.least);
  most = omega (arith, a.most, b.most);
}

pub looks_at_most : (n m : ℕ) (s t : MachineState) → n ≤ m → Looks n s t → Looks m s t
looks_at_most n m s t le a = record { ran = a.ran; paused = a.paused; taken = a.taken; live = a.live; read = a.read; twice = a.twice; least = a.least; most = omega (arith, a.most) }

-- ---- a raw table

kind_of : PageType → Option Footprint → PageType
kind_of other None = other
kind_of other (Some f) = f.type

page_of : Option Footprint → Option (List ℕ)
page_of None = None
page_of (Some f) = f.page

pub names_of : Option Footprint → ℕ → Option ℕ
names_of None slot = None
names_of (Some f) slot = f.names slot

pub print_here : (frames : HostFrames) (kind : PageType) (level : ℕ) (raw : List ℕ) (o : Option HostFrame) (f : Footprint) → level_of kind ≡ Some level
    → option_map (footprint_of frames) o ≡ Some f → f.type ≡ kind → f.page ≡ Some raw → option_map (footprint_of frames) o ≡ Some (raw_print frames kind level raw)
unfolding kind_of page_of
print_here frames kind level raw None f is at k p = let no : ◌≡◌ {A = Option Footprint} None (Some f) = at in cc
print_here frames kind level raw (Some held) f is at k p =
    let here : held.type ≡ kind = ap (λ o. kind_of kind o) at ∙ k in
    let page : held.page ≡ Some raw = ap page_of at ∙ p in
    let table : table_in (level_of held.type) held.page ≡ Some (level, raw) = ap (λ x. table_in (level_of x) held.page) here ∙ ap (λ l. table_in l held.page) is ∙ ap (table_in (Some level)) page in
    λ i. Some (record { type = here i; page = page i; names = names_in frames (table i) })

pub raw_on : (u v : MachineState) (p : ℕ) (kind : PageType) (level : ℕ) (raw : List ℕ) → level_of kind ≡ Some level → IsRaw u p kind level raw → Ran u v v.log → v.paused ≡ u.paused → IsRaw v p kind level raw
raw_on u v p kind level raw is r ran stays = record {
  print = λ settled.
      print_here v.host.frames kind level raw (maps.get v.host.frames p) (raw_print u.host.frames kind level raw) is
      (settled_same u v p ran stays settled ∙ r.print (settled_before u v p ran stays settled)) refl refl;
}

-- the names in the host now are those of before
pub names_stay : (u v : MachineState) (p : ℕ) (kind : PageType) (level : ℕ) (raw : List ℕ) → level_of kind ≡ Some level → IsRaw u p kind level raw → Ran u v v.log → v.paused ≡ u.paused → Settled v p
    → names_in u.host.frames (Some (level, raw)) ≡ names_in v.host.frames (Some (level, raw))
unfolding names_of
names_stay u v p kind level raw is r ran stays settled =
    let new = (raw_on u v p kind level raw is r ran stays).print settled in
    ap names_of (sym (r.print (settled_before u v p ran stays settled)) ∙ sym (settled_same u v p ran stays settled) ∙ new)

-- ---- the loop over slots

-- `names` are the PFNs that were found for the slots below k, each when it was looked up
pub record Front (s t : MachineState) (p : ℕ) (kind : PageType) (level : ℕ) (before : List ℕ) (k : ℕ) (page : List ℕ) : Type 0 where
  pub looks : Looks k s t
  pub raw : IsRaw t p kind level before
  pub names : ℕ → Option ℕ
  pub formed : ChangedBelow 512 (formed_long names level) before k page
  pub found : (j : ℕ) → j < k → lost_at level before names j ≡ false
  pub inside : (j mfn pfn : ℕ) → j < k → entry level before j ≡ Frame mfn → names j ≡ Some pfn → pfn < t.host.width
  pub right : Settled t p → (j : ℕ) → j < k → names j ≡ names_in t.host.frames (Some (level, before)) j

pub front_none : (s : MachineState) (p : ℕ) (kind : PageType) (level : ℕ) (before : List ℕ) → IsRaw s p kind level before → ((i : ℕ) → get_or before i 0 < 256) → length before ≡ 4096 → Front s s p kind level before 0 before
front_none s p kind level before raw fits size = record {
  looks = looks_none s;
  raw = raw;
  names = λ _. None;
  formed = walk_start fits size;
  found = λ j less. absurd (omega (arith, less));
  inside = λ j mfn pfn less said has. absurd (omega (arith, less));
  right = λ settled j less. absurd (omega (arith, less));
}

-- the name that goes with a slot's entry, in the page as it stands and in the raw one
same_name : (frames : HostFrames) (level k : ℕ) (page before : List ℕ) → long_at page k ≡ long_at before k → names_in frames (Some (level, page)) k ≡ names_in frames (Some (level, before)) k
same_name frames level k page before e = ap (λ w. option_and_then (pfn_in frames) (named_by (entry_of level k w) w)) e

same_lost : (frames : HostFrames) (level k : ℕ) (page before : List ℕ) → long_at page k ≡ long_at before k
    → lost_at level page (names_in frames (Some (level, page))) k ≡ lost_at level before (names_in frames (Some (level, before))) k
same_lost frames level k page before e = ap (λ w. is_lost (entry_of level k w) (option_and_then (pfn_in frames) (named_by (entry_of level k w) w))) e

module _ (s u v : MachineState) (p : ℕ) (kind : PageType) (level : ℕ) (before : List ℕ) (k : ℕ) (page next : List ℕ) (is : level_of kind ≡ Some level) (f : Front s u p kind level before k page)
    (look : Looks 1 u v) (inside : NameIsInside v level page k) (put : next ≡ put_slot page k (entry level page k) (names_in v.host.frames (Some (level, page)) k)) (below : k < 512) where
  abbrev names_now : ℕ → Option ℕ
  names_now = names_in v.host.frames (Some (level, before))

  -- the slot's own name, and those of the slots before it
  abbrev name : Option ℕ
  name = names_in v.host.frames (Some (level, page)) k

  abbrev names : ℕ → Option ℕ
  names j = cond (j == k) name (f.names j)

  here : names k ≡ name
  here = ap (λ b. cond b name (f.names k)) (eq-eqb k k refl)

  earlier : (j : ℕ) → j < k → names j ≡ f.names j
  earlier j less = ap (λ b. cond b name (f.names j)) (ne_eqb j k (λ e. omega (arith, e, less)))

  same : long_at page k ≡ long_at before k
  same = same_long f.names level k below f.formed

  -- the earlier names are said of the host now
  right_now : Settled v p → (j : ℕ) → j < k → f.names j ≡ names_now j
  right_now settled j less = f.right (settled_before u v p look.ran look.paused settled) j less ∙ ap (λ n. n j) (names_stay u v p kind level before is f.raw look.ran look.paused settled)

  inside_here : (mfn pfn : ℕ) → entry level before k ≡ Frame mfn → names k ≡ Some pfn → pfn < v.host.width
  inside_here mfn pfn said has =
      let said_here : entry level page k ≡ Frame mfn = ap (entry_of level k) same ∙ said in
      inside mfn pfn said_here (sym (ap (λ x. option_and_then (pfn_in v.host.frames) (named_by x (long_at page k))) said_here) ∙ sym here ∙ has)

  pub front_more : false ≡ lost_at level page (names_in v.host.frames (Some (level, page))) k → Front s v p kind level before (k + 1) next
  front_more there = record {
    looks = looks_on k 1 s u v f.looks look;
    raw = raw_on u v p kind level before is f.raw look.ran look.paused;
    names = names;
    formed = put_step names level k below (names_alike f.names names level k earlier f.formed) (put ∙ ap (put_slot page k (entry level page k)) (sym here));
    found = below_more (λ j. lost_at level before names j ≡ false) k (λ j less. ap (is_lost (entry level before j)) (earlier j less) ∙ f.found j less)
        (ap (is_lost (entry level before k)) here ∙ ap (λ w. is_lost (entry_of level k w) name) (sym same) ∙ sym there);
    inside = λ j mfn pfn less. below_more (λ i. entry level before i ≡ Frame mfn → names i ≡ Some pfn → pfn < v.host.width) k
        (λ i lt said has. let in_u = f.inside i mfn pfn lt said (sym (earlier i lt) ∙ has) in omega (arith, in_u, look.ran.shape.width)) (inside_here mfn pfn) j less;
    right = λ settled. below_more (λ j. names j ≡ names_now j) k (λ j less. earlier j less ∙ right_now settled j less) (here ∙ same_name v.host.frames level k page before same);
  }

  pub front_lost : true ≡ lost_at level page (names_in v.host.frames (Some (level, page))) k → IsRenamed v p level before next (Some k)
  front_lost gone = record {
    first = λ settled. searches.first_slot (lost_at level before names_now) k below (sym (same_lost v.host.frames level k page before same) ∙ sym gone)
        (λ j less. ap (is_lost (entry level before j)) (sym (right_now settled j less)) ∙ f.found j less);
    whole = λ settled e. absurd (let no : ◌≡◌ {A = Option ℕ} (Some k) None = e in cc);
    within = λ none e. absurd (let no : ◌≡◌ {A = Option ℕ} (Some k) None = e in cc);
  }

pub front_whole : (s t : MachineState) (p : ℕ) (kind : PageType) (level : ℕ) (before page : List ℕ) → Front s t p kind level before 512 page → IsRenamed t p level before page None
front_whole s t p kind level before page f = record {
  first = λ settled. sym ((no_slot (lost_at level before (names_in t.host.frames (Some (level, before))))).1 (λ j less. ap (is_lost (entry level before j)) (sym (f.right settled j less)) ∙ f.found j less));
  whole = λ settled e. table_formed f.names level before page f.formed ∙ same_names f.names (names_in t.host.frames (Some (level, before))) level (blanked_table level before) (f.right settled);
  within = λ none e. entries_within f.names level t.host.width f.formed none f.found f.inside;
}

-- ---- what was found

judged_table : (t : MachineState) (p : ℕ) (kind : PageType) (level : ℕ) (before : List ℕ) → level_of kind ≡ Some level → IsRaw t p kind level before
    → first_superpage level before ≡ None → Settled t p
    → judged (footprint t.host.frames p)
    ≡ judge None (lost_in (Some (level, before)) (names_in t.host.frames (Some (level, before))))
    (record { type = kind; page = Some (renamed_by (names_in t.host.frames (Some (level, before))) level (blanked_table level before)) })
judged_table t p kind level before is r none settled =
    let names = names_in t.host.frames (Some (level, before)) in
    ap judged (r.print settled)
    ∙ ap (λ l. judge (superpage_in (table_in l (Some before))) (lost_in (table_in l (Some before)) names) (record { type = kind; page = form_page (table_in l (Some before)) names (Some before) })) is
    ∙ ap (λ s. judge s (lost_in (Some (level, before)) names) (record { type = kind; page = Some (renamed_by names level (blanked_table level before)) })) none

pub data_of : (kind : PageType) (level : ℕ) → level_of kind ≡ Some level → type_has_data kind ≡ true
data_of Broken level is = let no : ◌≡◌ {A = Option ℕ} None (Some level) = is in cc
data_of Xalloc level is = let no : ◌≡◌ {A = Option ℕ} None (Some level) = is in cc
data_of Xtab level is = let no : ◌≡◌ {A = Option ℕ} None (Some level) = is in cc
data_of _ level is = refl

pub judged_whole : (t : MachineState) (p : ℕ) (kind : PageType) (level : ℕ) (before page : List ℕ) → level_of kind ≡ Some level → IsRaw t p kind level before
    → first_superpage level before ≡ None → IsRenamed t p level before page None → IsRight t p (found_as (found.Shows kind) page)
judged_whole t p kind level before page is r none renamed = λ settled.
    let names = names_in t.host.frames (Some (level, before)) in
    ap (λ b. Shows (record { type = kind; page = cond b (Some page) None })) (data_of kind level is)
    ∙ ap (λ l. Shows (record { type = kind; page = Some l })) (renamed.whole settled refl)
    ∙ ap (λ s. judge None s (record { type = kind; page = Some (renamed_by names level (blanked_table level before)) })) (renamed.first settled)
    ∙ sym (judged_table t p kind level before is r none settled)

-- a table that is shown names only PFNs below the width
pub table_within : (t : MachineState) (p : ℕ) (kind : PageType) (level : ℕ) (before page : List ℕ) → level_of kind ≡ Some level → first_superpage level before ≡ None → IsRenamed t p level before page None
    → NamesWithin t.host.width (frame_sent (found_as (found.Shows kind) page))
table_within t p kind level before page is none renamed = λ frame at.
    subst (EachEntry (IsWithin (t.host.width - 1))) (some_frame at) (λ other shown level_is page_is slot lt.
    let same_level : level ≡ other = some_level (sym is ∙ level_is) in
    let same_page : page ≡ shown = some_page (ap (λ b. cond b (Some page) None) (sym (data_of kind level is)) ∙ page_is) in
    subst (λ l. IsWithin (t.host.width - 1) (entry l shown slot)) same_level (subst (λ q. IsWithin (t.host.width - 1) (entry level q slot)) same_page (renamed.within none refl slot lt)))
  where
    some_frame : {x y : FrameOf} → ◌≡◌ {A = Option FrameOf} (Some x) (Some y) → x ≡ y
    some_frame e = cc

    some_level : {x y : ℕ} → ◌≡◌ {A = Option ℕ} (Some x) (Some y) → x ≡ y
    some_level e = cc

    some_page : {x y : List ℕ} → ◌≡◌ {A = Option (List ℕ)} (Some x) (Some y) → x ≡ y
    some_page e = cc
