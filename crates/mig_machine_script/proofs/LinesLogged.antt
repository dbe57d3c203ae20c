-- Lines change the footprint of no other frame number than those that they put into the log.
use Rattle.mig_machine_script.proofs.Common.{◌≡◌, ◌≢◌, ℕ, ◌+◌, ◌<◌, ◌≤◌, Bool, true, false, cond, not, nat_eq, List, [], ◌∷◌, ◌++◌, take, drop, length, Option, Some, None, option_and_then, inr, refl, sym, ap, subst, ◌∙◌, arith, ◌||◌, ◌&&◌, option_map, eqb-true, eqb-false, ltb-true, common_steps, none-some, same_Some, inserted, PageType, HostOf, HostFrame, HostFrames, IsOneToOne, IsValid, footprint_of, Pfns, LineOf, Write, Retype, Add, Remove, Exchange, Put, Dot, applies, after_line, after, logs, with_logged, logged_after, is_unnamed, names_machine, or_parts, leb-true, and_parts, not-true, length-replicate, inserted_other, removed, removed_other, type_has_data, type_of, put_part_in, footprint, with_pfn, changed_by, pfn_changed, is_allowed, is_key, has_length, key_of_numbers, new_frame, typed_as}
use Rattle.std.proofs.Common.{replicate, is_some, unwrap_or}
use Rattle.std.specs.Ordering.{eq_by_cmp}
use Rattle.mig_guest.specs.declared.part_key.PartKey.{PartKey}
use Rattle.mig_guest.specs.Order.{part_cmp}
use Rattle.mig_guest.specs.Parts.{PartMap}
use Rattle.mig_guest.proofs.KeyedMaps.{tied}
use Rattle.mig_guest.proofs.PartOrder.{part_total, part_exact}
use Rattle.mig_host.specs.Changes.{put_or_stay, page_for}
use Rattle.mig_guest.specs.PartCodes.{is_fixed}
use Rattle.mig_guest.specs.MachineStates.{IsSameShape}
use Rattle.mig_machine_script.proofs.NamedMachines.{IsWholePage, KeepsNamed, StaysOrMoves, print_kept, unused, unnamed, stays_put, moves_put, still_one, keeps_named}
use Rattle.std.specs.FinMap as maps

-- ---- what stays true of a host

pub record IsRegularFrame (width pfn : ℕ) (f : HostFrame) : Type 0 where
  pub inside : pfn < width
  pub whole : IsWholePage f.page

pub record IsRegular (h : HostOf) : Type 0 where
  pub frames : (p : ℕ) (f : HostFrame) → maps.get h.frames p ≡ Some f → IsRegularFrame h.width p f
  pub one_to_one : IsOneToOne h.frames

pub regular : (h : HostOf) → IsValid h → IsRegular h
regular h valid = record {
  frames = λ p f is. let fine = valid.frames p f is in record { inside = fine.inside; whole = fine.whole };
  one_to_one = valid.one_to_one;
}

-- what is at a frame number stands there in both hosts
same_print : (g h : HostFrames) (q : ℕ) (o : Option HostFrame) → KeepsNamed g h → maps.get g q ≡ o → ((f : HostFrame) → o ≡ Some f → IsWholePage f.page) → option_map (footprint_of h) o ≡ option_map (footprint_of g) o
same_print g h q None kept is whole = refl
same_print g h q (Some f) kept is whole = ap Some (print_kept g h q f kept is (whole f refl))

-- ---- what lines do to a host and a log

pub record LinesRan (g h : HostOf) (log now : Pfns) : Type 0 where
  pub regular : IsRegular h
  pub shape : IsSameShape g h
  pub grown : (p : ℕ) → now p ≡ false → log p ≡ false
  pub quiet : (p : ℕ) → now p ≡ false → footprint h.frames p ≡ footprint g.frames p
  pub below : ((p : ℕ) → g.width ≤ p → log p ≡ false) → (p : ℕ) → h.width ≤ p → now p ≡ false

pub nothing_ran : (h : HostOf) (log : Pfns) → IsRegular h → LinesRan h h log log
nothing_ran h log t = record {
  regular = t;
  shape = record { kind = refl; width = refl; lengths = λ key. refl; fixed = λ key is. refl };
  grown = λ p is. is;
  quiet = λ p is. refl;
  below = λ b. b;
}

pub ran_on : (g h k : HostOf) (log mid now : Pfns) → LinesRan g h log mid → LinesRan h k mid now → LinesRan g k log now
ran_on g h k log mid now a b = record {
  regular = b.regular;
  shape = record {
    kind = b.shape.kind ∙ a.shape.kind;
    width = b.shape.width ∙ a.shape.width;
    lengths = λ key. b.shape.lengths key ∙ a.shape.lengths key;
    fixed = λ key is. b.shape.fixed key is ∙ a.shape.fixed key is;
  };
  grown = λ p is. a.grown p (b.grown p is);
  quiet = λ p is. b.quiet p is ∙ a.quiet p (b.grown p is);
  below = λ low. b.below (a.below low);
}

-- a host that differs at one frame number alone
record DiffersAt (pfn : ℕ) (g h : HostOf) : Type 0 where
  pub kind : h.kind ≡ g.kind
  pub width : h.width ≡ g.width
  pub parts : h.parts ≡ g.parts
  pub others : (q : ℕ) → q ≢ pfn → maps.get h.frames q ≡ maps.get g.frames q
  pub whole : (f : HostFrame) → maps.get h.frames pfn ≡ Some f → IsWholePage f.page
  pub inside : pfn < g.width
  pub moves : StaysOrMoves pfn g.frames h.frames

unlogged : (p q : ℕ) (set : Pfns) → with_pfn p set q ≡ false → (q ≢ p) × (set q ≡ false)
unlogged p q set h = let both = or_parts (nat_eq q p) (set q) h in (eqb-false q p both.0, both.1)

apart : (b : Bool) (p q : ℕ) → nat_eq q p ≡ b → q ≢ p → b ≡ false
apart true p q e ne = absurd (ne (eqb-true q p e))
apart false p q e ne = refl

regular_at : (pfn : ℕ) (g h : HostOf) → IsRegular g → DiffersAt pfn g h → (b : Bool) (q : ℕ) → nat_eq q pfn ≡ b → (f : HostFrame) → maps.get h.frames q ≡ Some f → IsRegularFrame h.width q f
regular_at pfn g h t d true q e f is =
    let same = eqb-true q pfn e in
    record { inside = subst (λ (w : ℕ). q < w) (sym d.width) (subst (λ (n : ℕ). n < g.width) (sym same) d.inside); whole = d.whole f (ap (maps.get h.frames) (sym same) ∙ is) }
regular_at pfn g h t d false q e f is =
    let was = t.frames q f (sym (d.others q (eqb-false q pfn e)) ∙ is) in
    record { inside = subst (λ (w : ℕ). q < w) (sym d.width) was.inside; whole = was.whole }

differs_so : (pfn : ℕ) (g h : HostOf) (log : Pfns) → IsRegular g → DiffersAt pfn g h → LinesRan g h log (with_pfn pfn log)
differs_so pfn g h log t d = record {
  regular = record { frames = λ q f is. regular_at pfn g h t d (nat_eq q pfn) q refl f is; one_to_one = still_one pfn g.frames h.frames d.others d.moves t.one_to_one };
  shape = record {
    kind = d.kind;
    width = d.width;
    lengths = λ key. ap (λ (m : PartMap). option_map (λ (bytes : List ℕ). length bytes) (maps.get m key)) d.parts;
    fixed = λ key is. ap (λ (m : PartMap). maps.get m key) d.parts;
  };
  grown = λ q is. (unlogged pfn q log is).1;
  quiet = λ q is. ap (option_map (footprint_of h.frames)) (d.others q (unlogged pfn q log is).0)
      ∙ same_print g.frames h.frames q (maps.get g.frames q) (keeps_named pfn g.frames h.frames d.others d.moves t.one_to_one) refl (λ f at. (t.frames q f at).whole);
  below = λ low q high. let le : g.width ≤ q = subst (λ (w : ℕ). w ≤ q) d.width high in ap (λ b. b || log q) (apart (nat_eq q pfn) pfn q refl (λ e. let i = d.inside in absurd (omega arith))) ∙ low q le;
}

-- ---- frames that are put, or taken away

put_differs : (h : HostOf) (pfn : ℕ) (x : HostFrame) → pfn < h.width → IsWholePage x.page → StaysOrMoves pfn h.frames (maps.insert h.frames pfn x) → DiffersAt pfn h (record h { frames = maps.insert h.frames pfn x })
put_differs h pfn x inside whole moves = record {
  kind = refl;
  width = refl;
  parts = refl;
  others = λ q ne. inserted_other h.frames pfn q x ne;
  whole = λ f is. subst (λ (y : HostFrame). IsWholePage y.page) (same_Some x f (sym (inserted h.frames pfn pfn x refl) ∙ is)) whole;
  inside = inside;
  moves = moves;
}

gone_differs : (h : HostOf) (pfn : ℕ) → pfn < h.width → ((f : HostFrame) → maps.get h.frames pfn ≡ Some f → names_machine h.frames f.machine ≡ false) → DiffersAt pfn h (record h { frames = maps.remove h.frames pfn })
gone_differs h pfn inside went = record {
  kind = refl;
  width = refl;
  parts = refl;
  others = λ q ne. removed_other h.frames pfn q ne;
  whole = λ f is. absurd (none-some f (sym (removed h.frames pfn pfn refl) ∙ is));
  inside = inside;
  moves = inr (record { came = λ f is. absurd (none-some f (sym (removed h.frames pfn pfn refl) ∙ is)); went = went });
}

-- a frame is changed, where it is there
change_differs : (h : HostOf) (pfn : ℕ) (change : HostFrame → HostFrame) (o : Option HostFrame) → IsRegular h → maps.get h.frames pfn ≡ o → is_some o ≡ true
    → ((f : HostFrame) → maps.get h.frames pfn ≡ Some f → IsWholePage f.page → IsWholePage (change f).page × StaysOrMoves pfn h.frames (maps.insert h.frames pfn (change f))) → DiffersAt pfn h (put_or_stay o h pfn change)
change_differs h pfn change None t is there goes = cc
change_differs h pfn change (Some f) t is there goes =
    let was = t.frames pfn f is in
    let so = goes f is was.whole in put_differs h pfn (change f) was.inside so.0 so.1

-- ---- each line

page_there : (o : Option HostFrame) → is_some (option_and_then (λ (f : HostFrame). f.page) o) ≡ true → is_some o ≡ true
page_there None e = cc
page_there (Some f) e = refl

unnamed_there : (frames : HostFrames) (o : Option HostFrame) → is_unnamed frames o ≡ true → is_some o ≡ true
unnamed_there frames None e = cc
unnamed_there frames (Some f) e = refl

-- no table names the machine frame of a frame that may go
goes_unnamed : (h : HostOf) (o : Option HostFrame) (f : HostFrame) → is_unnamed h.frames o ≡ true → o ≡ Some f → names_machine h.frames f.machine ≡ false
goes_unnamed h None f e is = cc
goes_unnamed h (Some x) f e is = subst (λ (y : HostFrame). names_machine h.frames y.machine ≡ false) (same_Some x f is) (not-true (names_machine h.frames x.machine) e)

there_inside : (h : HostOf) (pfn : ℕ) (o : Option HostFrame) → IsRegular h → maps.get h.frames pfn ≡ o → is_some o ≡ true → pfn < h.width
there_inside h pfn None t is there = cc
there_inside h pfn (Some f) t is there = (t.frames pfn f is).inside

spliced_long : (old bytes : List ℕ) (at : ℕ) → length old ≡ 4096 → at + length bytes ≤ 4096 → length (take at old ++ bytes ++ drop (at + length bytes) old) ≡ 4096
spliced_long old bytes at long le = grind (arith, common_steps)

written_whole : (page : Option (List ℕ)) (write : List ℕ → List ℕ) → ((old : List ℕ) → length old ≡ 4096 → length (write old) ≡ 4096) → IsWholePage page → IsWholePage (option_map write page)
written_whole None write long whole now is = absurd (none-some now is)
written_whole (Some old) write long whole now is = subst (λ (l : List ℕ). length l ≡ 4096) (same_Some (write old) now is) (long old (whole old refl))

or_zero_long : (page : Option (List ℕ)) → IsWholePage page → length (unwrap_or page (replicate 4096 0)) ≡ 4096
or_zero_long None whole = length-replicate {A = ℕ} 4096 0
or_zero_long (Some old) whole = whole old refl

typed_whole : (has_data : Bool) (page : Option (List ℕ)) → IsWholePage page → IsWholePage (cond has_data (Some (unwrap_or page (replicate 4096 0))) None)
typed_whole true page whole now is = subst (λ (l : List ℕ). length l ≡ 4096) (same_Some (unwrap_or page (replicate 4096 0)) now is) (or_zero_long page whole)
typed_whole false page whole now is = absurd (none-some now is)

zero_whole : IsWholePage (Some (replicate 4096 0))
zero_whole now is = subst (λ (l : List ℕ). length l ≡ 4096) (same_Some (replicate 4096 0) now is) (length-replicate {A = ℕ} 4096 0)

retype_ran : (h : HostOf) (pfn : ℕ) (type : Option PageType) (log : Pfns) → IsRegular h → is_some (maps.get h.frames pfn) ≡ true → is_allowed h.kind type ≡ true → LinesRan h (typed_as h pfn type) log (with_pfn pfn log)
retype_ran h pfn None log t there allowed = cc
retype_ran h pfn (Some type) log t there allowed =
    differs_so pfn h _ log t
    (change_differs h pfn (λ f. record { type = type; machine = f.machine; page = page_for type f.page }) (maps.get h.frames pfn) t refl there
    (λ f is whole. (typed_whole (type_has_data type) f.page whole, stays_put h.frames pfn (record { type = type; machine = f.machine; page = page_for type f.page }) f is refl)))

measured : (n : ℕ) (o : Option (List ℕ)) → has_length n o ≡ true → option_map (λ (bytes : List ℕ). length bytes) o ≡ Some n
measured n None e = cc
measured n (Some bytes) e = ap Some (eqb-true (length bytes) n e)

put_lengths : (m : PartMap) (key k : PartKey) (bytes : List ℕ) (b : Bool) → eq_by_cmp part_cmp k key ≡ b → option_map (λ (bytes : List ℕ). length bytes) (maps.get m key) ≡ Some (length bytes)
    → option_map (λ (bytes : List ℕ). length bytes) (cond b (Some bytes) (maps.get m k)) ≡ option_map (λ (bytes : List ℕ). length bytes) (maps.get m k)
put_lengths m key k bytes true e has = sym has ∙ ap (λ (x : PartKey). option_map (λ (bytes : List ℕ). length bytes) (maps.get m x)) (sym (part_exact k key (tied (part_cmp k key) e)))
put_lengths m key k bytes false e has = refl

put_fixed : (m : PartMap) (key k : PartKey) (bytes : List ℕ) (b : Bool) → eq_by_cmp part_cmp k key ≡ b → not (is_fixed key.code) ≡ true → is_fixed k.code ≡ true → cond b (Some bytes) (maps.get m k) ≡ maps.get m k
put_fixed m key k bytes true e free is =
    let same : is_fixed key.code ≡ true = ap (λ (x : PartKey). is_fixed x.code) (sym (part_exact k key (tied (part_cmp k key) e))) ∙ is in
    let no : false ≡ true = sym (ap not same) ∙ free in cc
put_fixed m key k bytes false e free is = refl

put_ran : (h : HostOf) (key : PartKey) (bytes : List ℕ) (log : Pfns) → IsRegular h → option_map (λ (bytes : List ℕ). length bytes) (maps.get h.parts key) ≡ Some (length bytes) → not (is_fixed key.code) ≡ true → LinesRan h (put_part_in h key bytes) log log
put_ran h key bytes log t has free = record {
  regular = record { frames = t.frames; one_to_one = t.one_to_one };
  shape = record {
    kind = refl;
    width = refl;
    lengths = λ k. ap (option_map (λ (bytes : List ℕ). length bytes)) (maps.get-insert part_total h.parts key bytes k) ∙ put_lengths h.parts key k bytes (eq_by_cmp part_cmp k key) refl has;
    fixed = λ k is. maps.get-insert part_total h.parts key bytes k ∙ put_fixed h.parts key k bytes (eq_by_cmp part_cmp k key) refl free is;
  };
  grown = λ p is. is;
  quiet = λ p is. refl;
  below = λ b. b;
}

applied : (h : HostOf) (line : LineOf) (log : Pfns) → IsRegular h → applies h line ≡ true → LinesRan h (changed_by h line) log (with_logged (pfn_changed line) log)
applied h (Write pfn at bytes) log t is =
    let b = and_parts _ _ is in
    differs_so pfn h _ log t
    (change_differs h pfn _ (maps.get h.frames pfn) t refl (page_there (maps.get h.frames pfn) b.0)
    (λ f is whole. (written_whole f.page _ (λ old long. spliced_long old bytes at long (leb-true (at + length bytes) 4096 b.1)) whole, stays_put h.frames pfn _ f is refl)))
applied h (Retype pfn type) log t is = let b = and_parts (is_some (maps.get h.frames pfn)) (is_allowed h.kind (type_of type)) is in retype_ran h pfn (type_of type) log t b.0 b.1
applied h (Add pfn mfn) log t is =
    let most = and_parts _ _ is in
    let come = and_parts _ _ most.0 in
    let new = and_parts _ _ come.0 in
    differs_so pfn h _ log t
    (put_differs h pfn (new_frame mfn) (ltb-true pfn h.width new.0) zero_whole
    (moves_put h.frames pfn (new_frame mfn) (unused h mfn come.1) (unnamed h mfn come.1) (λ f at. let there : false ≡ true = sym (not-true (is_some (maps.get h.frames pfn)) new.1) ∙ ap is_some at in cc)))
applied h (Remove pfn) log t is =
    differs_so pfn h _ log t (gone_differs h pfn (there_inside h pfn (maps.get h.frames pfn) t refl (unnamed_there h.frames (maps.get h.frames pfn) is)) (λ f at. goes_unnamed h (maps.get h.frames pfn) f is at))
applied h (Exchange pfn mfn) log t is =
    let b = and_parts _ _ is in
    differs_so pfn h _ log t
    (change_differs h pfn (λ f. record f { machine = mfn }) (maps.get h.frames pfn) t refl (unnamed_there h.frames (maps.get h.frames pfn) b.0)
    (λ f is whole. (whole, moves_put h.frames pfn (record f { machine = mfn }) (unused h mfn b.1) (unnamed h mfn b.1) (λ x at. goes_unnamed h (maps.get h.frames pfn) x b.0 at))))
applied h (Put code first second bytes) log t is =
    let b = and_parts (is_key code first second && has_length (length bytes) (maps.get h.parts (key_of_numbers code first second))) (not (is_fixed code)) is in
    put_ran h (key_of_numbers code first second) bytes log t (measured (length bytes) (maps.get h.parts (key_of_numbers code first second)) (and_parts _ _ b.0).1) b.1
applied h Dot log t is = nothing_ran h log t

pub line_ran : (h : HostOf) (line : LineOf) (log : Pfns) → IsRegular h → LinesRan h (after_line h line) log (with_logged (logs h line) log)
line_ran h line log t = go (applies h line) refl
  where
    go : (b : Bool) → applies h line ≡ b → LinesRan h (cond b (changed_by h line) h) log (with_logged (cond b (pfn_changed line) None) log)
    go true is = applied h line log t is
    go false is = nothing_ran h log t

pub lines_ran : (h : HostOf) (lines : List LineOf) (log : Pfns) → IsRegular h → LinesRan h (after h lines) log (logged_after h lines log)
lines_ran h [] log t = nothing_ran h log t
lines_ran h (line ∷ lines) log t =
    let first = line_ran h line log t in
    ran_on h (after_line h line) (after h (line ∷ lines)) log (with_logged (logs h line) log) (logged_after h (line ∷ lines) log) first (lines_ran (after_line h line) lines (with_logged (logs h line) log) first.regular)
