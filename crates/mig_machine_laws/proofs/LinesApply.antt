-- A line applies exactly where what its letter asks for stands.
use Rattle.std.specs.FinMap as maps
use Rattle.std.proofs.Common.{◌≡◌, ◌≤◌, ◌<◌, ℕ, ◌+◌, ◌^◌, true, false, not, List, length, Option, Some, None, is_some, inl, inr, refl, ap, sym, subst, ◌∙◌, arith}
use Rattle.std.proofs.lemmas.Bool.{agree_below_at, and_from, and_parts, both_ways, cases_lt, eq-eqb, eqb-false, eqb-true, le-leb, leb-true, lt-ltb, ltb-true, ne_eqb, not-true, not_from_false, or_from, or_parts}
use Rattle.mig_pagetypes.specs.PageTypes.{all_types, number_of}
use Rattle.mig_pagetypes.specs.declared.page_type.PageType.TheVariants.{Notab, L1Tab, L2Tab, L3Tab, L4Tab, L1Pinned, L2Pinned, L3Pinned, L4Pinned, Broken, Xalloc, Xtab}
use Rattle.mig_guest.specs.PartCodes.{is_fixed}
use Rattle.mig_host.proofs.InOrder.{found_passes, no_entry, some_entry}
use Rattle.mig_host.specs.HostView.{has_machine}
use Rattle.mig_machine_script.specs.HostLines.{has_length, is_allowed, is_unnamed, key_of_numbers, may_come}
use Rattle.mig_machine_laws.proofs.Common.{HostFrame, HostFrames, HostOf, Kind, Pv, Hvm, PageType, LineOf, applies, type_of, ◌==◌, ◌↔◌, option_and_then, nat_cmp_total, nat_cmp-IsAntisymmetric, Write, Retype, Add, Remove, Exchange, Put, Dot}
use Rattle.mig_machine_laws.specs.ScriptWords.{IsFree, MayApply, NamesMachineFrame, is_allowed_number}
use Rattle.mig_machine_laws.specs.ScriptWords.MayApply.{write, retype, add, remove, exchange, put, dot}
use Rattle.mig_machine_laws.proofs.NamedFrames.{named_false, named_true}

-- ---- types

low_number : (t : PageType) → number_of t < 16
low_number Notab = omega arith
low_number L1Tab = omega arith
low_number L2Tab = omega arith
low_number L3Tab = omega arith
low_number L4Tab = omega arith
low_number L1Pinned = omega arith
low_number L2Pinned = omega arith
low_number L3Pinned = omega arith
low_number L4Pinned = omega arith
low_number Broken = omega arith
low_number Xalloc = omega arith
low_number Xtab = omega arith

no_type : (kind : Kind) (n : ℕ) → 16 ≤ n → (o : Option PageType) → type_of n ≡ o → is_allowed kind o ≡ false
no_type kind n high None is = refl
no_type kind n high (Some t) is = let same = eqb-true (number_of t) n (found_passes (λ t. number_of t == n) all_types t is) in let low = low_number t in absurd (omega (arith, same, low, high))

no_number : (kind : Kind) (n : ℕ) → 16 ≤ n → is_allowed_number kind n ≡ false
no_number Pv n high = grind (arith, high)
no_number Hvm n high = grind (arith, high)

low_types : (kind : Kind) (n : ℕ) → n < 16 → is_allowed kind (type_of n) ≡ is_allowed_number kind n
low_types Pv n low = agree_below_at (λ n. is_allowed Pv (type_of n)) (is_allowed_number Pv) 16 n refl low
low_types Hvm n low = agree_below_at (λ n. is_allowed Hvm (type_of n)) (is_allowed_number Hvm) 16 n refl low

same_types : (kind : Kind) (n : ℕ) → is_allowed kind (type_of n) ≡ is_allowed_number kind n
same_types kind n = elim (cases_lt n 16) [ inl low ↦ low_types kind n low | inr high ↦ no_type kind n high (type_of n) refl ∙ sym (no_number kind n high) ]

-- ---- machine frames that may come and go

free_there : (h : HostOf) (mfn : ℕ) → may_come h mfn ≡ true → IsFree h mfn
free_there h mfn is =
    let named = and_parts _ _ is in
    let used = and_parts _ _ named.0 in
    let number = and_parts _ _ used.0 in
    record {
      some = ltb-true 0 mfn number.0;
      small = ltb-true mfn (2 ^ 40) number.1;
      unused = λ pfn frame there same. both_ways _ (not-true _ used.1) (some_entry nat_cmp_total nat_cmp-IsAntisymmetric (λ e. e.1.machine == mfn) h.frames pfn frame there (eq-eqb frame.machine mfn same));
      unnamed = λ names. both_ways _ (not-true _ named.1) (named_true h.frames mfn names);
    }

free_comes : (h : HostOf) (mfn : ℕ) → IsFree h mfn → may_come h mfn ≡ true
free_comes h mfn free =
    let unused : has_machine h mfn ≡ false =
    no_entry nat_cmp_total nat_cmp-IsAntisymmetric (λ e. e.1.machine == mfn) h.frames (λ pfn frame there. ne_eqb frame.machine mfn (free.unused pfn frame there)) in
    and_from _ _ (and_from _ _ (and_from _ _ (lt-ltb 0 mfn free.some) (lt-ltb mfn (2 ^ 40) free.small)) (not_from_false _ unused)) (not_from_false _ (named_false h.frames mfn free.unnamed))

-- a frame that is there, and whose machine frame no table names
record Goes (frames : HostFrames) (o : Option HostFrame) : Type 0 where
  frame : HostFrame
  there : o ≡ Some frame
  unnamed : NamesMachineFrame frames frame.machine → ⊥

may_go_there : (frames : HostFrames) (o : Option HostFrame) → is_unnamed frames o ≡ true → Goes frames o
may_go_there frames None is = absurd (both_ways _ refl is)
may_go_there frames (Some frame) is = record { frame = frame; there = refl; unnamed = λ names. both_ways _ (not-true _ is) (named_true frames frame.machine names) }

goes : (frames : HostFrames) (o : Option HostFrame) (frame : HostFrame) → o ≡ Some frame → (NamesMachineFrame frames frame.machine → ⊥) → is_unnamed frames o ≡ true
goes frames o frame there unnamed = ap (is_unnamed frames) there ∙ not_from_false _ (named_false frames frame.machine unnamed)

-- ---- frames, pages and parts that are there

some_there : {X : Type 0} (o : Option X) → is_some o ≡ true → (x : X) × (o ≡ Some x)
some_there None is = absurd (both_ways _ refl is)
some_there (Some x) is = (x, refl)

none_there : {X : Type 0} (o : Option X) → not (is_some o) ≡ true → o ≡ None
none_there None is = refl
none_there (Some x) is = absurd (both_ways _ refl is)

page_there : (o : Option HostFrame) → is_some (option_and_then (λ (f : HostFrame). f.page) o) ≡ true → (frame : HostFrame) × (o ≡ Some frame) × ((page : List ℕ) × (frame.page ≡ Some page))
page_there None is = absurd (both_ways _ refl is)
page_there (Some frame) is = (frame, refl, some_there frame.page is)

length_there : (n : ℕ) (o : Option (List ℕ)) → has_length n o ≡ true → (old : List ℕ) × (o ≡ Some old) × (length old ≡ n)
length_there n None is = absurd (both_ways _ refl is)
length_there n (Some old) is = (old, refl, eqb-true (length old) n is)

-- ---- the lines

asks : (h : HostOf) (line : LineOf) → applies h line ≡ true → MayApply h line
asks h (Write pfn at bytes) is =
    let parts = and_parts _ _ is in
    let found = page_there (maps.get h.frames pfn) parts.0 in
    write pfn at bytes found.2.0 found.0 found.1 found.2.1 (leb-true (at + length bytes) 4096 parts.1)
asks h (Retype pfn number) is =
    let parts = and_parts _ _ is in
    let found = some_there (maps.get h.frames pfn) parts.0 in
    retype pfn number found.0 found.1 (sym (same_types h.kind number) ∙ parts.1)
asks h (Add pfn mfn) is =
    let few = and_parts _ _ is in
    let comes = and_parts _ _ few.0 in
    let place = and_parts _ _ comes.0 in
    add pfn mfn (ltb-true pfn h.width place.0) (none_there (maps.get h.frames pfn) place.1) (free_there h mfn comes.1)
    (subst (λ n. n < 2 ^ 24) (maps.len-entries h.frames) (ltb-true (maps.len h.frames) (2 ^ 24) few.1))
asks h (Remove pfn) is = let gone = may_go_there h.frames (maps.get h.frames pfn) is in remove pfn gone.frame gone.there gone.unnamed
asks h (Exchange pfn mfn) is =
    let parts = and_parts _ _ is in
    let gone = may_go_there h.frames (maps.get h.frames pfn) parts.0 in
    exchange pfn mfn gone.frame gone.there gone.unnamed (free_there h mfn parts.1)
asks h (Put code first second bytes) is =
    let fixed = and_parts _ _ is in
    let long = and_parts _ _ fixed.0 in
    let last = and_parts _ _ long.0 in
    let numbers = and_parts _ _ last.0 in
    let old = length_there (length bytes) (maps.get h.parts (key_of_numbers code first second)) long.1 in
    let three = or_parts _ _ (not-true (is_fixed code) fixed.1) in
    let seventeen = or_parts _ _ three.1 in
    let eighteen = or_parts _ _ seventeen.1 in
    put code first second bytes old.0 (ltb-true code (2 ^ 32) numbers.0) (ltb-true first (2 ^ 32) numbers.1) (ltb-true second (2 ^ 32) last.1) old.1 old.2
    (eqb-false code 3 three.0) (eqb-false code 17 seventeen.0) (eqb-false code 18 eighteen.0) (eqb-false code 258 eighteen.1)
asks h Dot is = dot

suffices : (h : HostOf) (line : LineOf) → MayApply h line → applies h line ≡ true
suffices h _ (write pfn at bytes page frame there has fits) =
    and_from _ _ (ap (λ o. is_some (option_and_then (λ (f : HostFrame). f.page) o)) there ∙ ap is_some has) (le-leb (at + length bytes) 4096 fits)
suffices h _ (retype pfn number frame there allowed) = and_from _ _ (ap is_some there) (same_types h.kind number ∙ allowed)
suffices h _ (add pfn mfn low gone free few) =
    and_from _ _ (and_from _ _ (and_from _ _ (lt-ltb pfn h.width low) (ap (λ (o : Option HostFrame). not (is_some o)) gone)) (free_comes h mfn free))
    (lt-ltb (maps.len h.frames) (2 ^ 24) (subst (λ n. n < 2 ^ 24) (sym (maps.len-entries h.frames)) few))
suffices h _ (remove pfn frame there unnamed) = goes h.frames (maps.get h.frames pfn) frame there unnamed
suffices h _ (exchange pfn mfn frame there unnamed free) = and_from _ _ (goes h.frames (maps.get h.frames pfn) frame there unnamed) (free_comes h mfn free)
suffices h _ (put code first second bytes old small1 small2 small3 there long not3 not17 not18 not258) =
    and_from _ _
    (and_from _ _ (and_from _ _ (and_from _ _ (lt-ltb code (2 ^ 32) small1) (lt-ltb first (2 ^ 32) small2)) (lt-ltb second (2 ^ 32) small3))
    (ap (has_length (length bytes)) there ∙ eq-eqb (length old) (length bytes) long))
    (not_from_false (is_fixed code) (or_from _ _ (ne_eqb code 3 not3) (or_from _ _ (ne_eqb code 17 not17) (or_from _ _ (ne_eqb code 18 not18) (ne_eqb code 258 not258)))))
suffices h _ dot = refl

pub asked : (h : HostOf) (line : LineOf) → (applies h line ≡ true) ↔ MayApply h line
asked h line = (asks h line, suffices h line)
