-- A host stays valid where a frame is changed in place, or taken away.
use Rattle.mig_host.proofs.Common.{◌≡◌, ℕ, ◌+◌, ◌-◌, ◌<◌, ◌≤◌, Bool, true, false, cond, length, List, Option, Some, None, is_some, refl, sym, ap, subst, ◌∙◌, arith, option_map, option_and_then, nat_cmp, eq_by_cmp, nat_cmp_total, nat_cmp-IsAntisymmetric, same_map, len-entries, none-some, same_Some, Kind, FrameOf, FrameMap, HostOf, HostFrame, HostFrames, IsHostFrame, IsValid, PartMap, is_type_of, type_has_data, PageType, MachineMap, with_machine, machine_in, host_seen, AreMatched, IsMade, put_frame, Pv, Hvm, PartKey, part_cmp, part_total, part_exact, FitsPolicy, IsHostPart, IfSome, ◌++◌, ◌==◌, append-nil, row_of, code_number, PartCode, tied, each_value, get_each, is_inserted, remove_holds, raw_page_at, retyped, exchanged, without_frame, machine_limit, with_bytes, pfn_limit, Notab, replicate, drop_all, length-replicate, len-insert, len-remove, IsRawContent, is_fixed, EmulatorPairs, count_each, put_or_stay}
use Rattle.mig_pagestore.specs.Pages.{spliced}
use Rattle.mig_host.proofs.HostMaps.{joined, get_with_machines, machine_joined, there_joined}
use Rattle.mig_host.proofs.HostsMade.{joined_at, matched_at, joined_put, matched_put, valid_frame, made_part}
use Rattle.std.specs.FinMap as maps

-- what is there, put once more
inserted_same : {X : Type 0} (m : maps.FinMap nat_cmp X) (k : ℕ) (x : X) → maps.get m k ≡ Some x → m ≡ maps.insert m k x
inserted_same m k x is = is_inserted m m k x is (λ q ne. refl)

-- ---- a frame in place of another

module _ (h : HostOf) (pfn : ℕ) (old new : HostFrame) (valid : IsValid h) (has : maps.get h.frames pfn ≡ Some old) (fine : IsHostFrame h.kind h.width pfn new)
    (alone : (q : ℕ) (f : HostFrame) → maps.get h.frames q ≡ Some f → f.machine ≡ new.machine → pfn ≡ q) where
  abbrev now : HostFrames
  now = maps.insert h.frames pfn new

  some : is_some (maps.get h.frames pfn) ≡ true
  some = ap is_some has

  no_more : maps.len now ≡ maps.len h.frames
  no_more = len-insert nat_cmp_total h.frames pfn new ∙ ap (λ b. cond b (maps.len h.frames) (maps.len h.frames + 1)) some

  pub valid_changed : IsValid (put_frame h pfn new)
  valid_changed = valid_frame h pfn new valid fine alone (omega (arith, valid.few, no_more, len-entries now, len-entries h.frames))

-- ---- a frame taken away

module _ (h : HostOf) (pfn : ℕ) (valid : IsValid h) where
  was : (q : ℕ) (f : HostFrame) → maps.get (maps.remove h.frames pfn) q ≡ Some f → maps.get h.frames q ≡ Some f
  was q f is = by (eq_by_cmp nat_cmp q pfn) (sym (maps.get-remove nat_cmp_total h.frames pfn q) ∙ is)
    where
      by : (b : Bool) → cond b None (maps.get h.frames q) ≡ Some f → maps.get h.frames q ≡ Some f
      by true at = absurd (none-some f at)
      by false at = at

  fewer : maps.len (maps.remove h.frames pfn) ≤ maps.len h.frames
  fewer = subst (λ n. n ≤ maps.len h.frames) (sym (len-remove nat_cmp_total h.frames pfn)) (elim (maps.contains_key h.frames pfn) as (λ b. cond b (maps.len h.frames - 1) (maps.len h.frames) ≤ maps.len h.frames) [ true ↦ omega arith | false ↦ omega arith ])

  pub valid_without : IsValid (without_frame h pfn)
  valid_without = record {
    width = valid.width;
    some_width = valid.some_width;
    pv_width = valid.pv_width;
    frames = remove_holds nat_cmp_total nat_cmp-IsAntisymmetric (IsHostFrame h.kind h.width) h.frames pfn valid.frames;
    one_to_one = λ p q f g hasf hasg alike. valid.one_to_one p q f g (was p f hasf) (was q g hasg) alike;
    few = omega (arith, valid.few, fewer, len-entries (maps.remove h.frames pfn), len-entries h.frames);
    parts = valid.parts;
    leaves = valid.leaves;
    msrs = valid.msrs;
  }

-- ---- what a guest and its machine frames make

module _ (kind : Kind) (width : ℕ) (frames : FrameMap) (machines : MachineMap) (parts : PartMap) (made : IsMade kind width frames machines parts) (pfn : ℕ) where
  abbrev seen : HostOf
  seen = host_seen kind width frames machines parts

  machine_there : (o : Option ℕ) → maps.get machines pfn ≡ o → (old : HostFrame) → maps.get seen.frames pfn ≡ Some old → o ≡ Some old.machine
  machine_there o is old has = sym is ∙ machine_joined frames machines made.matched pfn ∙ ap (option_map (λ (x : HostFrame). x.machine)) has

  -- a frame that is there, with another type and page
  module _ (f : FrameOf) (old : HostFrame) (has : maps.get seen.frames pfn ≡ Some old) where
    machines_same : machines ≡ maps.insert machines pfn old.machine
    machines_same = is_inserted machines machines pfn old.machine (machine_there (maps.get machines pfn) refl old has) (λ q ne. refl)

    pub seen_changed : host_seen kind width (maps.insert frames pfn f) machines parts ≡ put_frame seen pfn (with_machine f old.machine)
    seen_changed =
        ap (λ (m : MachineMap). host_seen kind width (maps.insert frames pfn f) m parts) machines_same
        ∙ ap (λ (m : HostFrames). record { kind = kind; width = width; frames = m; parts = parts }) (joined_put frames machines pfn f old.machine)

    pub made_changed : IsHostFrame kind width pfn (with_machine f old.machine) → IsMade kind width (maps.insert frames pfn f) machines parts
    made_changed fine = record {
      matched = subst (AreMatched (maps.insert frames pfn f)) (sym machines_same) (matched_put frames machines pfn f old.machine made.matched);
      valid = subst IsValid (sym seen_changed) (valid_changed seen pfn old (with_machine f old.machine) made.valid has fine (λ q g at same. made.valid.one_to_one pfn q old g has at (sym same)));
    }

  -- a frame that is there, with another machine frame
  module _ (f : FrameOf) (old : HostFrame) (has : maps.get seen.frames pfn ≡ Some old) (found : maps.get frames pfn ≡ Some f) (machine : ℕ) where
    frames_same : frames ≡ maps.insert frames pfn f
    frames_same = inserted_same frames pfn f found

    pub seen_moved : host_seen kind width frames (maps.insert machines pfn machine) parts ≡ put_frame seen pfn (with_machine f machine)
    seen_moved =
        ap (λ (m : FrameMap). host_seen kind width m (maps.insert machines pfn machine) parts) frames_same
        ∙ ap (λ (m : HostFrames). record { kind = kind; width = width; frames = m; parts = parts }) (joined_put frames machines pfn f machine)

    pub made_moved : IsHostFrame kind width pfn (with_machine f machine) → ((q : ℕ) (g : HostFrame) → maps.get seen.frames q ≡ Some g → g.machine ≡ machine → ⊥) → IsMade kind width frames (maps.insert machines pfn machine) parts
    made_moved fine unused = record {
      matched = subst (λ (m : FrameMap). AreMatched m (maps.insert machines pfn machine)) (sym frames_same) (matched_put frames machines pfn f machine made.matched);
      valid = subst IsValid (sym seen_moved) (valid_changed seen pfn old (with_machine f machine) made.valid has fine (λ q g at same. absurd (unused q g at same)));
    }

  -- taken away
  abbrev here : ℕ → Bool
  here q = eq_by_cmp nat_cmp q pfn

  out_f : (q : ℕ) → maps.get (maps.remove frames pfn) q ≡ cond (here q) None (maps.get frames q)
  out_f q = maps.get-remove nat_cmp_total frames pfn q

  out_m : (q : ℕ) → maps.get (maps.remove machines pfn) q ≡ cond (here q) None (maps.get machines q)
  out_m q = maps.get-remove nat_cmp_total machines pfn q

  joined_taken : joined (maps.remove frames pfn) (maps.remove machines pfn) ≡ maps.remove (joined frames machines) pfn
  joined_taken = same_map nat_cmp_total nat_cmp-IsAntisymmetric _ _ (λ q. joined_at frames (maps.remove frames pfn) machines (maps.remove machines pfn) here None None out_f out_m q ∙ sym (maps.get-remove nat_cmp_total (joined frames machines) pfn q))

  pub seen_taken : host_seen kind width (maps.remove frames pfn) (maps.remove machines pfn) parts ≡ without_frame seen pfn
  seen_taken = ap (λ (m : HostFrames). record { kind = kind; width = width; frames = m; parts = parts }) joined_taken

  pub made_taken : IsMade kind width (maps.remove frames pfn) (maps.remove machines pfn) parts
  made_taken = record { matched = matched_at frames (maps.remove frames pfn) machines (maps.remove machines pfn) here None None out_f out_m refl made.matched; valid = subst IsValid (sym seen_taken) (valid_without seen pfn made.valid) }

-- a frame that is there has a machine frame
pub some_machine : (frames : FrameMap) (machines : MachineMap) → AreMatched frames machines → (pfn : ℕ) → is_some (maps.get (joined frames machines) pfn) ≡ true → is_some (maps.get machines pfn) ≡ true
some_machine frames machines matched pfn there = matched pfn ∙ sym (there_joined frames machines pfn) ∙ there

-- ---- the words

pub retyped_is : (h : HostOf) (pfn : ℕ) (type : PageType) (page : Option (List ℕ)) (old : HostFrame) → maps.get h.frames pfn ≡ Some old → retyped h pfn type page ≡ put_frame h pfn (record { type = type; machine = old.machine; page = page })
retyped_is h pfn type page old has = ap (λ o. put_or_stay o h pfn (λ f. record { type = type; machine = f.machine; page = page })) has

pub fine_now : (h : HostOf) (pfn : ℕ) (type : PageType) (page : Option (List ℕ)) (old : HostFrame) → IsValid h → maps.get h.frames pfn ≡ Some old → is_type_of h.kind type ≡ true → is_some page ≡ type_has_data type
    → ((bytes : List ℕ) → page ≡ Some bytes → length bytes ≡ 4096) → IsHostFrame h.kind h.width pfn (record { type = type; machine = old.machine; page = page })
fine_now h pfn type page old valid has of step whole =
    let was = valid.frames pfn old has in record { inside = was.inside; type = of; some_machine = was.some_machine; machine = was.machine; in_step = step; whole = whole }

-- ---- what is there

pub there_is : {X : Type 0} (o : Option X) → is_some o ≡ true → (x : X) × (o ≡ Some x)
there_is None e = let no : false ≡ true = e in cc
there_is (Some x) e = (x, refl)

value_mapped : {X Y : Type 0} (g : X → Y) (o : Option X) (y : Y) → option_map g o ≡ Some y → (x : X) × (o ≡ Some x) × (g x ≡ y)
value_mapped g None y e = absurd (none-some y e)
value_mapped g (Some x) y e = (x, refl, same_Some (g x) y e)

pub low_pfn : (h : HostOf) (pfn : ℕ) → IsValid h → is_some (maps.get h.frames pfn) ≡ true → pfn < pfn_limit
low_pfn h pfn valid e = let (f, has) = there_is (maps.get h.frames pfn) e in let inside = (valid.frames pfn f has).inside in omega (arith, inside, valid.width)

-- a new frame, of a type that guests of either kind have
notab_of : (kind : Kind) → is_type_of kind Notab ≡ true
notab_of Pv = refl
notab_of Hvm = refl

pub fine_new : (h : HostOf) (pfn mfn : ℕ) → pfn < h.width → 0 < mfn → mfn < machine_limit → IsHostFrame h.kind h.width pfn (record { type = Notab; machine = mfn; page = Some (replicate 4096 0) })
fine_new h pfn mfn inside some below = record {
  inside = inside;
  type = notab_of h.kind;
  some_machine = some;
  machine = below;
  in_step = refl;
  whole = λ page e. subst (λ l. length l ≡ 4096) (same_Some (replicate 4096 0) page e) (length-replicate {A = ℕ} 4096 0);
}

-- the type of a frame that is there, and that it has a page
module _ (h : HostOf) (pfn : ℕ) (type : PageType) (valid : IsValid h) (is : Some type ≡ option_map (λ (f : HostFrame). f.type) (maps.get h.frames pfn)) where
  pub allowed_there : is_type_of h.kind type ≡ true
  allowed_there = let (f, has, same) = value_mapped (λ (f : HostFrame). f.type) (maps.get h.frames pfn) type (sym is) in subst (λ t. is_type_of h.kind t ≡ true) same (valid.frames pfn f has).type

  pub paged_there : is_some (raw_page_at h.frames pfn) ≡ true → true ≡ type_has_data type
  paged_there some =
      let (f, has, same) = value_mapped (λ (f : HostFrame). f.type) (maps.get h.frames pfn) type (sym is) in
      sym some ∙ ap (λ (o : Option HostFrame). is_some (option_and_then (λ (g : HostFrame). g.page) o)) has ∙ (valid.frames pfn f has).in_step ∙ ap type_has_data same

-- ---- another machine frame

exchanged_is : (h : HostOf) (pfn mfn : ℕ) (old : HostFrame) → maps.get h.frames pfn ≡ Some old → exchanged h pfn mfn ≡ put_frame h pfn (record old { machine = mfn })
exchanged_is h pfn mfn old has = ap (λ o. put_or_stay o h pfn (λ f. record f { machine = mfn })) has

fine_moved : (h : HostOf) (pfn mfn : ℕ) (old : HostFrame) → IsValid h → maps.get h.frames pfn ≡ Some old → 0 < mfn → mfn < machine_limit → IsHostFrame h.kind h.width pfn (record old { machine = mfn })
fine_moved h pfn mfn old valid has some below =
    let was = valid.frames pfn old has in record { inside = was.inside; type = was.type; some_machine = some; machine = below; in_step = was.in_step; whole = was.whole }

module _ (kind : Kind) (width : ℕ) (frames : FrameMap) (machines : MachineMap) (parts : PartMap) (made : IsMade kind width frames machines parts) (pfn mfn : ℕ)
    (there : is_some (maps.get (host_seen kind width frames machines parts).frames pfn) ≡ true) where
  abbrev host : HostOf
  host = host_seen kind width frames machines parts

  pub now_exchanged : host_seen kind width frames (maps.insert machines pfn mfn) parts ≡ exchanged host pfn mfn
  now_exchanged =
      let (old, has) = there_is (maps.get host.frames pfn) there in
      let (f, found, same) = value_mapped (λ (f : FrameOf). with_machine f (machine_in machines pfn)) (maps.get frames pfn) old (sym (get_with_machines frames (machine_in machines) pfn) ∙ has) in
      seen_moved kind width frames machines parts made pfn f old has found mfn ∙ ap (λ (g : HostFrame). put_frame host pfn (record g { machine = mfn })) same ∙ sym (exchanged_is host pfn mfn old has)

  pub made_exchanged : 0 < mfn → mfn < machine_limit → ((q : ℕ) (g : HostFrame) → maps.get host.frames q ≡ Some g → g.machine ≡ mfn → ⊥) → IsMade kind width frames (maps.insert machines pfn mfn) parts
  made_exchanged some below unused =
      let (old, has) = there_is (maps.get host.frames pfn) there in
      let (f, found, same) = value_mapped (λ (f : FrameOf). with_machine f (machine_in machines pfn)) (maps.get frames pfn) old (sym (get_with_machines frames (machine_in machines) pfn) ∙ has) in
      made_moved kind width frames machines parts made pfn f old has found mfn
      (subst (λ (g : HostFrame). IsHostFrame kind width pfn (record g { machine = mfn })) (sym same) (fine_moved host pfn mfn old made.valid has some below)) unused

-- ---- other bytes of a part

-- a part that is there, with other bytes in its place
over : PartKey → List ℕ → PartKey → List ℕ → List ℕ
over key bytes k old = cond (eq_by_cmp part_cmp k key) bytes old

module _ (parts : PartMap) (key : PartKey) (bytes old : List ℕ) (has : maps.get parts key ≡ Some old) where
  put_each : maps.insert parts key bytes ≡ each_value (over key bytes) parts
  unfolding over
  put_each = same_map part_total part_exact _ _ (λ q. maps.get-insert part_total parts key bytes q ∙ by q (eq_by_cmp part_cmp q key) refl ∙ sym (get_each part_total part_exact (over key bytes) parts q))
    where
      at : (b : Bool) (o : Option (List ℕ)) → (b ≡ true → o ≡ Some old) → cond b (Some bytes) o ≡ option_map (λ x. cond b bytes x) o
      at true o there = ap (λ (x : Option (List ℕ)). option_map (λ _. bytes) x) (sym (there refl))
      at false None there = refl
      at false (Some x) there = refl

      by : (q : PartKey) (b : Bool) → eq_by_cmp part_cmp q key ≡ b → cond (eq_by_cmp part_cmp q key) (Some bytes) (maps.get parts q) ≡ option_map (λ x. cond (eq_by_cmp part_cmp q key) bytes x) (maps.get parts q)
      by q b e = at (eq_by_cmp part_cmp q key) (maps.get parts q) (λ t. ap (maps.get parts) (part_exact q key (tied (part_cmp q key) t)) ∙ has)

  policy_stays : (code : ℕ) → FitsPolicy code parts → FitsPolicy code (maps.insert parts key bytes)
  policy_stays code fits = subst (FitsPolicy code) (sym put_each) (omega (arith, fits, count_each part_total part_exact (over key bytes) (λ k. k.code == code) parts))

-- raw bytes of a part that isn't fixed may be any
any_content : (code : PartCode) (bytes : List ℕ) → is_fixed (code_number code) ≡ false → IsRawContent code bytes
any_content EmulatorPairs bytes free = let none : true ≡ false = free in cc
any_content _ bytes free = tt

other_part : (kind : Kind) (width : ℕ) (key : PartKey) (old bytes : List ℕ) → IsHostPart kind width key old → length old ≡ length bytes → is_fixed key.code ≡ false → IsHostPart kind width key bytes
other_part kind width key old bytes is long free = with_bytes width bytes is (ap ((row_of is.code).allows width) (sym long) ∙ is.len) (any_content is.code bytes (ap is_fixed (sym is.number) ∙ free))

spliced_whole : (old bytes : List ℕ) → length old ≡ length bytes → spliced old 0 bytes ≡ bytes
spliced_whole old bytes long = ap (λ l. bytes ++ l) (drop_all (0 + length bytes) old (omega (arith, long))) ∙ append-nil bytes

module _ (parts : PartMap) (key : PartKey) (bytes : List ℕ) (there : option_map (λ part. length part) (maps.get parts key) ≡ Some (length bytes)) where
  pub fits_there : IfSome (maps.get parts key) (λ part. 0 + length bytes ≤ length part)
  fits_there = let (old, has, long) = value_mapped (λ (part : List ℕ). length part) (maps.get parts key) (length bytes) there in subst (λ o. IfSome o (λ part. 0 + length bytes ≤ length part)) (sym has) (omega (arith, long))

  pub is_there : is_some (maps.get parts key) ≡ true
  is_there = let (old, has, long) = value_mapped (λ (part : List ℕ). length part) (maps.get parts key) (length bytes) there in ap is_some has

  pub now_put : (now : PartMap) → IfSome (maps.get parts key) (λ part. now ≡ maps.insert parts key (spliced part 0 bytes)) → now ≡ maps.insert parts key bytes
  now_put now is =
      let (old, has, long) = value_mapped (λ (part : List ℕ). length part) (maps.get parts key) (length bytes) there in
      subst (λ o. IfSome o (λ part. now ≡ maps.insert parts key (spliced part 0 bytes))) has is ∙ ap (maps.insert parts key) (spliced_whole old bytes long)

  pub made_put : (kind : Kind) (width : ℕ) (frames : FrameMap) (machines : MachineMap) → IsMade kind width frames machines parts → is_fixed key.code ≡ false → IsMade kind width frames machines (maps.insert parts key bytes)
  made_put kind width frames machines made free =
      let (old, has, long) = value_mapped (λ (part : List ℕ). length part) (maps.get parts key) (length bytes) there in
      made_part kind width frames machines parts key bytes made (other_part kind width key old bytes (made.valid.parts key old has) long free) (policy_stays parts key bytes old has 17 made.valid.leaves) (policy_stays parts key bytes old has 18 made.valid.msrs)
